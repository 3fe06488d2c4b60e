use Rattle.levels.proofs.Prelude.{Corner, IsIndexOf, IsSetFrom, SFits, ℤ, both_ways, corner_at, false, holds, of_z, point_of, refl, rules, subst, sym, to_z, to_z-of_z, true, w16, ◌≡◌}
use Rattle.levels.proofs.Changes.Noted.{differ_at_index, set_at_index, labelling_elsewhere}
use Rattle.levels.proofs.labelling_cache.HeldLabelling.note_changed.Goals as goal

pub returns-in-Some-index_held : goal.returns-in-Some-index_held
returns-in-Some-index_held c =
    let one = c.args.self.now in
    let corner = corner_at c.args.corners.now one.place in
    let place : corner ≡ c.in-Some.corner.now = search rules in
    let there = c.in-Some-index_held.ensures.some in
    let noted = c.note_changed.ensures in
    let height = c.args.height.now in
    let had : SFits w16 height.was = search rules in
    let fits : SFits w16 height.metres = search rules in
    record {
      same_place = refl;
      same_block = noted.flooded;
      same_labelled = noted.labelled;
      right = λ done m new differ set_from same was.
          let index = subst (λ (d : Corner). IsIndexOf c.args.side d height.point c.in-Some-index_held.index) (sym place) there.0 in
          let at = set_at_index m new height.point differ corner c.args.side c.in-Some-index_held.index height.was height.metres (sym same) index set_from in
          noted.noted done m new corner (differ_at_index m new height.point differ corner c.args.side c.in-Some-index_held.index (sym same) index)
          (subst (λ (u : ℤ). IsSetFrom m new (point_of m.side corner c.in-Some-index_held.index) u (to_z w16 (of_z w16 height.metres))) (sym (to_z-of_z w16 height.was had))
          (subst (λ (v : ℤ). IsSetFrom m new (point_of m.side corner c.in-Some-index_held.index) height.was v) (sym (to_z-of_z w16 height.metres fits)) at)) was;
      mended = λ below can. noted.room can;
      kept = λ below out. absurd (both_ways (holds c.args.side corner height.point) out (subst (λ (d : Corner). holds c.args.side d height.point ≡ true) (sym place) there.1));
    }

pub returns-in-None : goal.returns-in-None
returns-in-None c =
    let one = c.args.self.now in
    let corner = corner_at c.args.corners.now one.place in
    let place : corner ≡ c.in-Some.corner.now = search rules in
    let out = subst (λ (d : Corner). holds c.args.side d c.args.height.now.point ≡ false) (sym place) c.in-None.ensures.none in
    record {
      same_place = refl;
      same_block = refl;
      same_labelled = λ done. refl;
      right = λ done m new differ set_from same was. labelling_elsewhere m new c.args.height.now.point differ corner c.args.side (sym same) out one.labelling was;
      mended = λ below can. refl;
      kept = λ below out. (refl, refl);
    }
