use Rattle.edits.proofs.Prelude.{Corner, List, arith, array_vec_len, false, is_box, length, of_z, subst, sym, to_z, to_z-of_z, true, ◌<◌, ◌∙◌, ◌≡◌, ◌≢◌}
use Rattle.std.specs.Prelude.{Contains, All}
use Rattle.std.proofs.lemmas.Bool.{eqb-true, eqb-false}
use mir.Syntax.{w32}
use Rattle.edits.proofs.BoxVoids.Voids.{height_in, bad_box}
use Rattle.edits.proofs.BoxVoids.TilesFound.{patch_made, patch_none}
use Rattle.edits.proofs.void_tiles.tiles_to_patch.Goals as goal

pub returns-in_default-clause-refused : goal.returns-in_default-clause-refused
returns-in_default-clause-refused g c = λ capacity honest _.
    let m = g.S.Samples.mosaic c.args.samples.now in
    let in_range = height_in c.args.height (to_z w32 (of_z w32 c.args.height)) (to_z-of_z w32 c.args.height c.ranges.height) c.if-height-lt-LOWEST.false c.if-height-gt-HIGHEST.false in
    let side = c.side.ensures ∙ sym (g.met.S.Samples.same_side c.args.samples.now honest) in
    bad_box capacity m c.args.from c.args.to c.args.height in_range (subst (λ n. is_box n c.args.from c.args.to ≡ false) side c.in_default.ensures.none)

pub returns-then-is_empty-clause-refused : goal.returns-then-is_empty-clause-refused
returns-then-is_empty-clause-refused g c = λ capacity honest _.
    let old = c.args.samples.now in
    let m = g.S.Samples.mosaic old in
    let was = c.in_ok-tiles.ensures.reads.honest honest in
    let in_range = height_in c.args.height (to_z w32 (of_z w32 c.args.height)) (to_z-of_z w32 c.args.height c.ranges.height) c.if-height-lt-LOWEST.false c.if-height-gt-HIGHEST.false in
    let size = subst (λ n. is_box n c.args.from c.args.to ≡ true) (c.side.ensures ∙ sym (g.met.S.Samples.same_side old was)) c.in-Some.ensures.some.0 in
    patch_none m c.args.from c.args.to c.in_ok-tiles.tiles.items (c.in_ok-tiles.ensures.voids honest) capacity c.args.height in_range size
    (omega (arith, eqb-true (array_vec_len c.in_ok-tiles.tiles) 0 (sym c.is_empty.ensures ∙ c.if-is_empty.true)))

pub returns-clause-made : goal.returns-clause-made
returns-clause-made g c = λ capacity honest.
    let old = c.args.samples.now in
    let m = g.S.Samples.mosaic old in
    let was = c.in_ok-tiles.ensures.reads.honest honest in
    let in_range = height_in c.args.height (to_z w32 (of_z w32 c.args.height)) (to_z-of_z w32 c.args.height c.ranges.height) c.if-height-lt-LOWEST.false c.if-height-gt-HIGHEST.false in
    let size = subst (λ n. is_box n c.args.from c.args.to ≡ true) (c.side.ensures ∙ sym (g.met.S.Samples.same_side old was)) c.in-Some.ensures.some.0 in
    let other : array_vec_len c.in_ok-tiles.tiles ≢ 0 = eqb-false (array_vec_len c.in_ok-tiles.tiles) 0 (sym c.is_empty.ensures ∙ c.if-is_empty.false) in
    let some_ : 0 < length c.in_ok-tiles.tiles.items = omega (arith, other) in
    patch_made m c.args.from c.args.to c.in_ok-tiles.tiles.items (c.in_ok-tiles.ensures.voids honest) capacity c.args.height in_range size
    (subst (λ (cs : List Corner). All (Contains cs) c.in_ok-tiles.tiles.items) (sym (g.met.S.Samples.same_corners old was)) c.in_ok-tiles.ensures.tiles.present) some_

pub returns-clause-height : goal.returns-clause-height
returns-clause-height g c = height_in c.args.height (to_z w32 (of_z w32 c.args.height)) (to_z-of_z w32 c.args.height c.ranges.height) c.if-height-lt-LOWEST.false c.if-height-gt-HIGHEST.false
