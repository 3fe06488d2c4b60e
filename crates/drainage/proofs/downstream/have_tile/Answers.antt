use Rattle.std.proofs.Common.{sym, ap, length, ◌*◌, ◌∙◌, ◌≡◌}
use Rattle.std.proofs.lemmas.Result.{on_ok_weaker}
use Rattle.drainage.proofs.Prelude.{FlowGrid, Tiles, Unknown, get_or}
use Rattle.flow_d8.specs.Filled.{number_of}
use Rattle.flow_d8.specs.FlowGrids.{KeepsKnown, flow_of}
use Rattle.flow_cache.proofs.Caches.KnownCount.{count_grows, count_keeps}
use Rattle.catalogue.proofs.Questioned.{answered_here, stopped_here}
use Rattle.drainage.proofs.downstream.have_tile.Goals as goal

-- filling in a tile changes no known flow
module _ (old new : FlowGrid) (tiles : new.tiles ≡ old.tiles) (kept : (k : _) → (get_or old.flows.items k Unknown ≡ Unknown → ⊥) → get_or new.flows.items k Unknown ≡ get_or old.flows.items k Unknown) where
  pub point_kept : KeepsKnown old.tiles old.flows.items new.tiles new.flows.items
  point_kept p known = ap (λ (t : Tiles). flow_of t new.flows.items p) tiles ∙ kept (number_of old.tiles.side old.tiles.corners p) known

  pub still : (k : _) → (get_or old.flows.items k Unknown ≡ Unknown → ⊥) → get_or new.flows.items k Unknown ≡ Unknown → ⊥
  still k known nothing = known (sym (kept k known) ∙ nothing)

  pub whole : length new.flows.items ≡ length old.flows.items
  whole = new.whole ∙ (ap (λ (t : Tiles). length t.corners * (t.side * t.side)) tiles ∙ sym old.whole)

pub returns-then-not-matches-clause-asked : goal.returns-then-not-matches-clause-asked
returns-then-not-matches-clause-asked g c = answered_here g.S.Samples g.met.S.Samples.keeps_itself c.args.samples.now (tt {0})

pub returns-then-samples-clause-asked : goal.returns-then-samples-clause-asked
returns-then-samples-clause-asked g c =
    let a = c.args.samples.now in
    let laws = g.met.S.Samples in
    stopped_here g.S.Samples g.met.S.Samples.keeps_itself a
    (λ honest. c.if-samples.true (c.samples.ensures.value ∙ c.side.ensures ∙ (c.requires.right honest).grid.same_side ∙ laws.same_side a honest ∙ sym c.side-2.ensures ∙ sym c.samples-2.ensures.value))

pub returns-in-Some-clause-known : goal.returns-in-Some-clause-known
returns-in-Some-clause-known g c =
    let old = c.args.flows.now.grid in
    let new = c.fill_tile.new.flows.grid in
    let k = number_of old.tiles.side old.tiles.corners c.args.point in
    on_ok_weaker c.fill_tile.result (λ filled unknown. filled k c.in-Some.ensures.some.1 (sym (ap (λ (t : Tiles). flow_of t new.flows.items c.args.point) c.fill_tile.ensures.tiles) ∙ unknown)) c.fill_tile.ensures.filled

pub returns-in-Some-clause-kept : goal.returns-in-Some-clause-kept
returns-in-Some-clause-kept g c = point_kept c.args.flows.now.grid c.fill_tile.new.flows.grid c.fill_tile.ensures.tiles c.fill_tile.ensures.kept

pub returns-in-Some-clause-more : goal.returns-in-Some-clause-more
returns-in-Some-clause-more g c =
    let old = c.args.flows.now.grid in
    let new = c.fill_tile.new.flows.grid in
    count_keeps old.flows.items new.flows.items (whole old new c.fill_tile.ensures.tiles c.fill_tile.ensures.kept) (still old new c.fill_tile.ensures.tiles c.fill_tile.ensures.kept)

pub returns-in-Some-clause-grown : goal.returns-in-Some-clause-grown
returns-in-Some-clause-grown g c =
    let old = c.args.flows.now.grid in
    let new = c.fill_tile.new.flows.grid in
    let k = number_of old.tiles.side old.tiles.corners c.args.point in
    let e = c.fill_tile.ensures in
    on_ok_weaker c.fill_tile.result (λ filled nothing. count_grows old.flows.items new.flows.items (whole old new e.tiles e.kept) (still old new e.tiles e.kept) k nothing (filled k c.in-Some.ensures.some.1)) e.filled
