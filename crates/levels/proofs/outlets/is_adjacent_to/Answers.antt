use Rattle.std.proofs.Common.{◌≡◌, ℕ, not, inl, inr, List, sym, ap, ◌∙◌, subst, Contains}
use Rattle.std.specs.Prelude.{nat_eq, slice_index}
use Rattle.levels.proofs.Prelude.{Corner, Holds, IsIndexOf, Mosaic, NO_LABEL, Point, eqb_tells, held_at}
use Rattle.levels.proofs.Tiles.TileOutlets.{ground_by_label, void_by_label, beside_in_tile}
use Rattle.levels.specs.GroundCache.{AreRemembered, IsGroundIn}
use Rattle.levels.proofs.outlets.is_adjacent_to.Goals as goal

pub returns-in-Some-clause-value : goal.returns-in-Some-clause-value
returns-in-Some-clause-value g c honest of =
    let now = c.args.samples.now in
    let m = g.S.Samples.mosaic now in
    let is = g.met.S.Samples.is_mosaic now honest in
    let e = c.in-Some.index in
    let labels = c.args.tile.now.labelled.now.labels in
    let side : c.side.result ≡ m.side = c.side.ensures ∙ (c.requires.labelled_side ∙ sym (g.met.S.Samples.same_side now honest)) in
    let at : IsIndexOf m.side c.args.tile.now.corner c.args.to e = subst (λ n. IsIndexOf n c.args.tile.now.corner c.args.to e) side c.in-Some.ensures.index in
    let there = subst (λ (cs : List Corner). Contains cs c.args.tile.now.corner) (sym (g.met.S.Samples.same_corners now honest)) c.requires.present in
    let beside = beside_in_tile m is c.args.point c.args.to of.ground c.requires.near c.requires.other c.args.tile.now.corner there of.held (held_at m.side c.args.tile.now.corner c.args.to e at) in
    ap (λ (l : List ℕ). not (nat_eq (slice_index l e) NO_LABEL)) c.labels.ensures.value ∙ (elim (eqb_tells (slice_index labels e) NO_LABEL) [
      | inl none ↦ ap not none.0 ∙ sym (void_by_label m is c.args.tile.now.corner there c.args.tile.now.labelled.now of.flooded c.args.to e at none.1)
      | inr some ↦ ap not some.0 ∙ sym (ground_by_label m is c.args.tile.now.corner there c.args.tile.now.labelled.now of.flooded c.args.to e at some.1)
    ] ∙ sym beside)

pub returns-then-holds-clause-value : goal.returns-then-holds-clause-value
returns-then-holds-clause-value g c honest of =
    let now = c.args.samples.now in
    let m = g.S.Samples.mosaic now in
    let is = g.met.S.Samples.is_mosaic now honest in
    let side : c.side-2.result ≡ m.side = c.side-2.ensures ∙ (c.requires.labelled_side ∙ sym (g.met.S.Samples.same_side now honest)) in
    let found = c.holds.ensures c.if-holds.true in
    let seen : IsGroundIn m c.args.to found.0 = c.requires.ground_cache honest c.args.to found.0 found.1.0 in
    let here : Holds m.side found.0 c.args.point = subst (λ n. Holds n found.0 c.args.point) side found.1.1 in
    sym (beside_in_tile m is c.args.point c.args.to of.ground c.requires.near c.requires.other found.0 seen.present here seen.held ∙ seen.ground)

pub returns-then-not-branch-clause-ground_cache : goal.returns-then-not-branch-clause-ground_cache
returns-then-not-branch-clause-ground_cache g c honest =
    let reads = c.in_ok-is_ground.ensures.reads in
    subst (λ (m : Mosaic). AreRemembered m c.args.ground_cache.now) (sym (reads.mosaic honest)) (c.requires.ground_cache (reads.honest honest))

pub returns-clause-value : goal.returns-clause-value
returns-clause-value g c later of =
    let now = c.args.samples.now in
    let m = g.S.Samples.mosaic now in
    let honest = c.in_ok-is_ground.ensures.reads.honest later in
    let is = g.met.S.Samples.is_mosaic now honest in
    let tile = c.in-Some-tile_of_both.tile in
    let both = c.in-Some-tile_of_both.ensures.some in
    let there = subst (λ (cs : List Corner). Contains cs tile) (sym (g.met.S.Samples.same_corners now honest)) both.0 in
    let held = subst (λ n. Holds n tile c.args.to) (sym (g.met.S.Samples.same_side now honest)) both.1.1 in
    let here = subst (λ n. Holds n tile c.args.point) (sym (g.met.S.Samples.same_side now honest)) both.1.0 in
    sym (beside_in_tile m is c.args.point c.args.to of.ground c.requires.near c.requires.other tile there here held ∙ (sym (c.in_ok-is_ground.ensures.value later) ∙ c.if-not-branch.false))

pub returns-clause-ground_cache : goal.returns-clause-ground_cache
returns-clause-ground_cache g c later p d has =
    let now = c.args.samples.now in
    let m = g.S.Samples.mosaic now in
    let reads = c.in_ok-is_ground.ensures.reads in
    let honest = reads.honest later in
    let tile = c.in-Some-tile_of_both.tile in
    let both = c.in-Some-tile_of_both.ensures.some in
    let now_there : IsGroundIn m c.args.to tile = record {
      ground = sym (c.in_ok-is_ground.ensures.value later) ∙ c.if-not-branch.false;
      present = subst (λ (cs : List Corner). Contains cs tile) (sym (g.met.S.Samples.same_corners now honest)) both.0;
      held = subst (λ n. Holds n tile c.args.to) (sym (g.met.S.Samples.same_side now honest)) both.1.1;
    } in
    subst (λ (s : Mosaic). IsGroundIn s p d) (sym (reads.mosaic later)) (elim (c.remember.ensures p d has) [
      | inl this ↦ subst (λ (q : Point). IsGroundIn m q d) (sym this.0) (subst (IsGroundIn m c.args.to) (sym this.1) now_there)
      | inr before ↦ c.requires.ground_cache honest p d before
    ])
