-- The contents of a store from one commit to the next.
use Rattle.std.proofs.Common.{rules}
use Rattle.stored_mosaic.proofs.Prelude.{All, AllZip, Command, Contents, Corner, IsMosaic, IsTile, KeepFresh, KeepRight, List, Mosaic, Ok, Point, Stored, StoredTile, Tile, ℕ, ap, ap₂, effect, made_by, mosaic_of_tiles, next_commit, number_of, one_stored, refl, stale_after, stale_corners, subst, sym, ◌+◌, ◌∙◌, ◌≡◌}
use Rattle.stored_mosaic.specs.Standing.{HoldsTile, Holds, AreSame, StandsForOneContents}
use Rattle.stored_mosaic.proofs.Reading.HeldTiles.{AreTilesOf, tiles_held, tiles_filled, filled_hold}
use Rattle.stored_mosaic.proofs.KeptPlanes.Keeping.{right_next, stale_next}

-- The mosaic of the contents is that of the stored tiles.
pub held : (side capacity : ℕ) (stored : Stored) (c : Contents) → Holds side capacity stored c → AreTilesOf side stored.tiles c.mosaic
held side capacity stored c holds = record {
  mosaic = ap₂ (λ (n : ℕ) (ts : List Tile). record { side = n; sinks = c.mosaic.sinks; tiles = ts }) holds.side_is (tiles_held side stored.tiles c.mosaic.tiles tiles holds.tiles);
  filled = tiles_filled side stored.tiles c.mosaic.tiles holds.tiles;
}
  where
    tiles : All (IsTile side) c.mosaic.tiles
    tiles = subst (λ (n : ℕ). All (IsTile n) c.mosaic.tiles) holds.side_is holds.valid.tiles

-- A store with the tiles of a mosaic has these contents.
pub holds_from : (side capacity : ℕ) (stored : Stored) (c : Contents) → stored.side ≡ side → stored.capacity ≡ capacity → c.version ≡ number_of stored.version → stored.number ≡ c.number → stored.count ≡ c.count
    → stored.sinks ≡ c.mosaic.sinks → IsMosaic c.mosaic → AreTilesOf side stored.tiles c.mosaic → KeepRight c.mosaic stored.tiles → c.stale ≡ stale_corners stored.tiles → Holds side capacity stored c
holds_from side capacity stored c stored_side stored_capacity version number count sinks valid are kept stale = record {
  stored_side = stored_side;
  stored_capacity = stored_capacity;
  version = version;
  number = number;
  count = count;
  valid = valid;
  side_is = ap (λ (m : Mosaic). m.side) are.mosaic;
  sinks = sinks;
  tiles = subst (λ (m : Mosaic). AllZip (HoldsTile side) stored.tiles m.tiles) (sym are.mosaic) (filled_hold side stored.tiles are.filled);
  kept = kept;
  stale = stale;
}

-- the next commit of an accepted command that leaves these sinks
pub holds_with : (side capacity : ℕ) (stored : Stored) (c : Contents) (command : Command) (new : Mosaic) (sinks : List Point) (tiles : List StoredTile) → Holds side capacity stored c
    → effect capacity c.mosaic command ≡ Ok new → sinks ≡ new.sinks → IsMosaic new → AreTilesOf side tiles new → KeepFresh c.mosaic command stored.tiles tiles
    → Holds side capacity (next_commit stored sinks tiles (c.count + 1)) (made_by c command new)
holds_with side capacity stored c command new sinks tiles holds makes are_sinks valid are keep =
    holds_from side capacity (next_commit stored sinks tiles (c.count + 1)) (made_by c command new) holds.stored_side holds.stored_capacity holds.version
    (ap (λ (k : ℕ). k + 1) holds.number) refl are_sinks valid are
    (right_next side capacity c.mosaic new command stored.tiles tiles holds.valid makes (held side capacity stored c holds) are keep holds.kept)
    (ap (λ (l : List Corner). stale_after c.mosaic command l new) holds.stale
    ∙ stale_next side capacity c.mosaic new command stored.tiles tiles holds.valid makes (held side capacity stored c holds) are keep)

-- ---- an image stores at most one contents

same_contents : (a b : Contents) → a.version ≡ b.version → a.mosaic ≡ b.mosaic → a.count ≡ b.count → a.number ≡ b.number → a.stale ≡ b.stale → a ≡ b
same_contents a b version mosaic count number stale = search rules

one_held : (side capacity other_side other_capacity : ℕ) (stored : Stored) (a b : Contents) → Holds side capacity stored a → Holds other_side other_capacity stored b
    → AreSame side capacity a other_side other_capacity b
one_held side capacity other_side other_capacity stored a b p q =
    let sides : side ≡ other_side = sym p.stored_side ∙ q.stored_side in
    let mosaic : a.mosaic ≡ b.mosaic =
    (held side capacity stored a p).mosaic
    ∙ ap₂ (λ (n : ℕ) (sinks : List Point). mosaic_of_tiles n sinks stored.tiles) sides (sym p.sinks ∙ q.sinks)
    ∙ sym (held other_side other_capacity stored b q).mosaic in
    record {
      sides = sides;
      capacities = sym p.stored_capacity ∙ q.stored_capacity;
      contents = same_contents a b (p.version ∙ sym q.version) mosaic (sym p.count ∙ q.count) (sym p.number ∙ q.number) (p.stale ∙ sym q.stale);
    }

pub one_contents : StandsForOneContents
one_contents sectors image side capacity other_side other_capacity a b p q =
    let same : q.0 ≡ p.0 = one_stored sectors image q.0 p.0 q.1 p.1 in
    one_held side capacity other_side other_capacity p.0 a b p.2 (subst (λ (s : Stored). Holds other_side other_capacity s b) same q.2)
