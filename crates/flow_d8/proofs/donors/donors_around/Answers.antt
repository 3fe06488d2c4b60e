use Rattle.flow_d8.proofs.Prelude.{Dir, East, Flow, IsFlow, IsInner, Point, Unknown, ℕ, ap, arith, back_of, is_deep, length, place_by, slice_index_or, step, subst, sym, terrain, true, ◌%◌, ◌*◌, ◌<◌, ◌∙◌, ◌≡◌}
use Rattle.std.proofs.lemmas.Option.{IfSome_then}
use Rattle.flow_d8.specs.FlowGrids.{AreResolvedAround}
use Rattle.flow_d8.specs.Tiles.{count_of, place_of, by_of}
use Rattle.flow_d8.proofs.Samples.DeepSteps.{deep_by, deep_inner_at}
use Rattle.flow_d8.proofs.Sayings.Draining.{IfNone_then, names_donor}
use Rattle.flow_d8.proofs.Samples.TilePlaces.{laid}
use Rattle.flow_d8.proofs.donors.donors_around.Goals as goal

place_below : (width count k : ℕ) → IsInner width count k → (d : Dir) → place_by width k d < count
place_below width count k inner East = omega (arith, inner.before, inner.after)
place_below width count k inner _ = omega (arith, inner.before, inner.after)

pub leading_back-requires : goal.leading_back-requires
leading_back-requires c =
    let t = c.args.tiles.now in
    let k = c.args.k in
    let valid = c.side-side.ensures.valid in
    let deep : is_deep t.side (k % (t.side * t.side)) ≡ true = sym c.is_deep.ensures ∙ c.if-not-is_deep.false in
    subst (λ w. IsInner w (length c.args.flows.now) k) (sym (c.samples.ensures.value ∙ c.side-side.ensures.value))
    (subst (λ m. IsInner t.side m k) (sym c.requires.whole) (deep_inner_at t valid k c.requires.k deep))

pub returns-clause-right : goal.returns-clause-right
returns-clause-right c =
    let t = c.args.tiles.now in
    let k = c.args.k in
    let flows = c.args.flows.now in
    let valid = c.side-side.ensures.valid in
    let deep : is_deep t.side (k % (t.side * t.side)) ≡ true = sym c.is_deep.ensures ∙ c.if-not-is_deep.false in
    let width : c.samples.result ≡ t.side = c.samples.ensures.value ∙ c.side-side.ensures.value in
    IfSome_then c.leading_back.result c.leading_back.ensures.some (λ back told m level are d low.
    let at : place_by c.samples.result k d ≡ by_of t k d = ap (λ w. place_by w k d) width ∙ sym (deep_by t valid k c.requires.k deep d) in
    let within : by_of t k d < count_of t = subst (λ j. j < count_of t) (sym (deep_by t valid k c.requires.k deep d)) (place_below t.side (count_of t) k (deep_inner_at t valid k c.requires.k deep) d) in
    let flow : Flow = slice_index_or flows (place_by c.samples.result k d) Unknown in
    let there : place_of t (place_by c.samples.result k d) ≡ step d (place_of t k) = ap (place_of t) at ∙ laid t valid k d c.requires.k within in
    let so : IsFlow (terrain m) level (step d (place_of t k)) flow = subst (λ (q : Point). IsFlow (terrain m) level q flow) there (are (place_by c.samples.result k d)) in
    let names = names_donor m level (step d (place_of t k)) flow (back_of d) so (told d).all in
    (λ yes. names.0 ((told d).back.0 yes), λ drains. (told d).back.1 (names.1 drains)))

pub returns-clause-none : goal.returns-clause-none
returns-clause-none c =
    let width : c.samples.result ≡ c.args.tiles.now.side = c.samples.ensures.value ∙ c.side-side.ensures.value in
    IfNone_then c.leading_back.result c.leading_back.ensures.none (λ unresolved deep all. unresolved (subst (λ w. AreResolvedAround c.args.flows.now w c.args.k) (sym width) all))
