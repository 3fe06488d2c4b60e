use Rattle.edits.proofs.Prelude.{List, Place, Sets, ap, map, of_z, same_point, subst, take_all, to_z, to_z-of_z, ◌++◌, ◌∙◌, ◌≡◌}
use mir.Syntax.{w16}
use Rattle.edits.proofs.Plans.Once.{set_to}
use Rattle.edits.proofs.Plans.Setting.{sets_at, sets_fit}
use Rattle.edits.proofs.listing.put.Goals as goal

pub returns-clause-sets : goal.returns-clause-sets
returns-clause-sets g c =
    let n = g.S.Samples.side_of c.args.samples.now in
    let cs = g.S.Samples.corners c.args.samples.now in
    let p = c.args.point in
    let s = to_z w16 (of_z w16 c.args.sample) in
    let old = c.args.changes.now.items in
    let new = c.loop-place.changes.items in
    let places = c.places_of.result.items in
    let all : new ≡ old ++ map (set_to s) places =
    c.loop-place.invariant ∙ ap (λ (l : List Place). old ++ map (set_to s) l) (take_all c.loop-place.place-index c.as_slice-place-items.result.now c.loop-place-test.false ∙ c.as_slice-place-items.ensures.value) in
    subst (λ v. Sets n cs (λ q. same_point q p) v old new) (to_z-of_z w16 c.args.sample c.ranges.sample) (sets_at n cs p s places c.places_of.ensures old new all)

pub returns-clause-fits : goal.returns-clause-fits
returns-clause-fits g c =
    let n = g.S.Samples.side_of c.args.samples.now in
    let cs = g.S.Samples.corners c.args.samples.now in
    let s = to_z w16 (of_z w16 c.args.sample) in
    let old = c.args.changes.now.items in
    let new = c.loop-place.changes.items in
    let places = c.places_of.result.items in
    let all : new ≡ old ++ map (set_to s) places =
    c.loop-place.invariant ∙ ap (λ (l : List Place). old ++ map (set_to s) l) (take_all c.loop-place.place-index c.as_slice-place-items.result.now c.loop-place-test.false ∙ c.as_slice-place-items.ensures.value) in
    sets_fit n cs c.args.point s places c.places_of.ensures old new all
