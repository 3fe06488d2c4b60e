use Rattle.cow_tree.proofs.Prelude.{Contains, Err, List, Ok, Refusal, Result, TileLocation, WritesListing, corners_of_locations, due_among, ended_with, get_or, length, subst, sym, tiles_listing, written_before, ◌<◌, ◌∙◌, ◌≡◌}
use Rattle.cow_tree.proofs.Listed.EntryTiles.{tile_at}
use Rattle.cow_tree.proofs.Writes.TileWrites.{one_more, one_refused}
use Rattle.cow_tree.proofs.listings.write_listings.Goals as goal
use Rattle.cow_tree.proofs.listings.write_listings.Goals.{After-write_tile_listings}

-- the tile of this pass through the loop
module _ (g : _) (c : After-write_tile_listings g) where
  abbrev tiles : List TileLocation
  tiles = c.args.page_map.now.staged

  corners : c.as_slice-corner-items.result.now ≡ corners_of_locations tiles
  corners = c.as_slice-corner-items.ensures.value ∙ c.corners-corners.ensures.value

  next : (t : TileLocation) × ((c.loop-corner.corner-index < length tiles) × ((get_or tiles c.loop-corner.corner-index t ≡ t) × (t.corner ≡ c.corner-item.result)))
  next = tile_at tiles c.loop-corner.corner-index c.corner-item.result (rw corners at c.loop-corner-test.true) (rw corners at c.corner-item.is)

  among : Contains tiles next.0
  among = (c.loop-corner.corner-index, next.1.0, next.1.1.0)

pub returns-in_err-write_tile_listings-clause-listed : goal.returns-in_err-write_tile_listings-clause-listed
returns-in_err-write_tile_listings-clause-listed g c =
    let at = (goal.at.returns-in_err-write_tile_listings-clause-listed g c).After-write_tile_listings in
    let page_map = c.args.page_map.now in
    let before = written_before c.args.which page_map in
    let t = next g at in
    let why : Refusal = c.in_err-write_tile_listings.field-0.0 in
    let ended : c.from_residual.result ≡ Err why = ended_with c.from_residual.result why c.from_residual.ensures.1 in
    subst (λ (r : Result (Unit {0}) Refusal). WritesListing g.D.Disk (due_among before (tiles_listing page_map.format page_map.staged)) c.args.roots.now c.write_tile_listings.new.roots r) (sym ended)
    (one_refused g.D.Disk page_map c.rules.ensures before c.loop-corner.corner-index t.0 t.1.0 t.1.1.0 c.args.roots.now c.loop-corner.roots c.write_tile_listings.new.roots why c.loop-corner.invariant.listed
    (c.in_err-write_tile_listings.ensures.listed t.0 (among g at) t.1.1.1))

pub loop-corner-preserved : goal.loop-corner-preserved
loop-corner-preserved g c =
    let at = (goal.at.loop-corner-preserved g c).After-write_tile_listings in
    let page_map = c.args.page_map.now in
    let t = next g at in
    let more = one_more g.D.Disk page_map c.rules.ensures (written_before c.args.which page_map) c.loop-corner.corner-index t.0 t.1.0 t.1.1.0 c.args.roots.now c.loop-corner.roots c.write_tile_listings.new.roots (Ok tt) c.loop-corner.invariant.listed
    (c.in_ok-write_tile_listings.ensures.listed t.0 (among g at) t.1.1.1) in
    record {
      listed = more;
      cached = λ honest agrees.
          c.in_ok-write_tile_listings.ensures.cached honest (c.loop-corner.invariant.cached ((c.in_ok-write_tile_listings.ensures.listed t.0 (among g at) t.1.1.1).pages.honest honest) agrees);
    }
