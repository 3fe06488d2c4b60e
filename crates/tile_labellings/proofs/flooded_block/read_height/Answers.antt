use Rattle.std.proofs.Common.{rules, ◌≡◌, ◌≢◌, ◌*◌, ◌<◌, ℤ, pos, List, length, get_or, nat_lt, lt-ltb, sym, ◌∙◌, ap, SFits, w16, to_z, of_z}
use Rattle.std.proofs.lemmas.Bool.{and_from}
use Rattle.std.proofs.lemmas.Int.{to_z-of_z}
use Rattle.std.proofs.lemmas.List.{get_or_default}
use Rattle.lattice.specs.Ground.{metres}
use Rattle.lattice.specs.Height.{height_of}
use Rattle.lattice.specs.Lattice.{point_of}
use Rattle.lattice.specs.Mosaic.{void}
use Rattle.lattice.specs.declared.point.Point.{Point}
use Rattle.labelling.specs.Blocks.{is_marked}
use Rattle.labelling.proofs.Squares.{test_if}
use Rattle.tile_labellings.proofs.flooded_block.read_height.Goals as goal

pub returns-clause-updated : goal.returns-clause-updated
returns-clause-updated g c =
    let b = c.args.block.now in
    let e = c.args.index in
    let h = c.in-At.metres in
    let in_range : SFits w16 h = search rules in
    let same = to_z-of_z w16 h in_range in
    let below : e < b.side * b.side = search rules in
    let inside : e < length b.heights = search rules in
    let was : get_or c.heights.result.now e (pos 0) ≡ get_or b.heights e void = ap (λ (hs : List ℤ). get_or hs e (pos 0)) c.heights.ensures.value ∙ get_or_default b.heights e (pos 0) void inside in
    let full : get_or b.heights e void ≢ void = λ none. c.if-was.false (ap (of_z w16) (was ∙ none)) in
    let m = g.S.Samples.mosaic c.args.samples.now in
    let was_in_range : SFits w16 (get_or c.heights.result.now e (pos 0)) = search rules in (
      to_z-of_z w16 (get_or c.heights.result.now e (pos 0)) was_in_range ∙ was,
      (
        to_z w16 (of_z w16 h),
        (
          record {
            inside = inside;
            ground = and_from (nat_lt e (b.side * b.side)) (is_marked b.heights e) (lt-ltb e (b.side * b.side) below) (test_if (get_or b.heights e void) full);
            full = λ none. c.if-metres.false (ap (of_z w16) (sym same ∙ none));
            is = c.set_height.ensures;
          },
          λ honest. same ∙ (ap metres (sym c.in-At.is ∙ c.in_ok-metres.ensures.value honest)
              ∙ ap (λ (p : Point). metres (height_of m p)) (c.point_at.ensures.value ∙ ap (λ n. point_of n c.args.corner e) c.side-side.ensures)),
        ),
      ),
    )
