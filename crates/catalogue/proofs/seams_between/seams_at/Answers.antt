use Rattle.std.proofs.Common.{◌≡◌, ℤ, cond, List, Option, Some, None, ap, sym, subst, ◌∙◌, add-zero}
use mir.Syntax.{w16}
use mir.Val.{SFits, to_z, of_z}
use Rattle.catalogue.proofs.Prelude.{Corner, IsMosaic, Mosaic, corners_of, is_listed, seams_before}
use Rattle.catalogue.specs.Tables.{AreCorners}
use Rattle.catalogue.proofs.OneTile.{corners_are}
use Rattle.catalogue.proofs.Rows.{corner_at, corner_at_is}
use Rattle.catalogue.proofs.SeamCounts.{seams_ok, seams_none}
use Rattle.catalogue.proofs.seams_between.seams_at.Goals as goal

-- a property of the list of corners, as one of the mosaic
as_listed : (m : Mosaic) (lat lon : ℤ) (cs : List Corner) → IsMosaic m → corners_of m ≡ cs → SFits w16 lat → SFits w16 lon → (found : Option Corner)
    → (AreCorners cs → found ≡ cond (is_listed (corner_at (to_z w16 (of_z w16 lat)) (to_z w16 (of_z w16 lon))) cs) (Some (corner_at (to_z w16 (of_z w16 lat)) (to_z w16 (of_z w16 lon)))) None)
    → found ≡ cond (is_listed (corner_at lat lon) (corners_of m)) (Some (corner_at lat lon)) None
as_listed m lat lon cs valid same lat_fits lon_fits found answer =
    answer (subst AreCorners same (corners_are m valid))
    ∙ ap (λ (p : Corner). cond (is_listed p cs) (Some p) None) (corner_at_is lat lon lat_fits lon_fits)
    ∙ ap (λ (l : List Corner). cond (is_listed (corner_at lat lon) l) (Some (corner_at lat lon)) None) (sym same)

pub returns-in-Some-clause-value : goal.returns-in-Some-clause-value
returns-in-Some-clause-value g c honest_after =
    let honest = c.seams_in_tile.ensures.reads.honest honest_after in
    let m = g.S.Samples.mosaic c.args.samples.now in
    let valid = g.met.S.Samples.is_mosaic c.args.samples.now honest in
    let asked = as_listed m c.args.lat c.args.lon (g.S.Samples.corners c.args.samples.now) valid (g.met.S.Samples.same_corners c.args.samples.now honest) c.ranges.lat c.ranges.lon (Some c.in-Some.corner) c.in-Some.ensures.answer in
    seams_ok m valid c.args.lat c.args.lon c.in-Some.corner c.seams_in_tile.result asked (c.seams_in_tile.ensures.value honest_after)

pub returns-in-None-clause-value : goal.returns-in-None-clause-value
returns-in-None-clause-value g c honest =
    let m = g.S.Samples.mosaic c.args.samples.now in
    let valid = g.met.S.Samples.is_mosaic c.args.samples.now honest in
    let asked = as_listed m c.args.lat c.args.lon (g.S.Samples.corners c.args.samples.now) valid (g.met.S.Samples.same_corners c.args.samples.now honest) c.ranges.lat c.ranges.lon None c.in-None.ensures.answer in
    seams_none m valid c.args.lat c.args.lon asked ∙ sym (add-zero (seams_before m c.args.lat c.args.lon))
