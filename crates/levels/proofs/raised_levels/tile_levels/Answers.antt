use Rattle.levels.proofs.Prelude.{AreTileLevels, Contains, Corner, Err, IfOk, IsRight, IsTileLabelling, List, Mosaic, Ok, OnlyReads, asked_on, corner_at, get_or_default, known_of, length, pos, subst, sym, ◌<◌, ◌∙◌, ◌≡◌}
use Rattle.labelling.specs.Raising.{AreRimLevels, IsRimFilled}
use Rattle.levels.proofs.Caches.Growing.{known_by}
use Rattle.levels.proofs.Changes.Refreshed.{entered_there}
use Rattle.catalogue.proofs.Questioned.{asked_reads, passed_on, refused_by, stopped}
use Rattle.levels.proofs.Tiles.TileLevels.{right_held, right_fewer, rim_filled, raised_asked}
use Rattle.levels.proofs.raised_levels.tile_levels.Goals as goal
use Rattle.levels.proofs.raised_levels.tile_levels.Goals.{After-hold, In-Some}

pub returns-in_default-clause-asked : goal.returns-in_default-clause-asked
returns-in_default-clause-asked g c =
    let b = c.rim_levels.new.samples in
    let corner = c.args.corner in
    let reads = asked_reads g.S.Samples c.args.samples.now b _ c.in_ok-rim.ensures.asked in
    stopped g.S.Samples c.args.samples.now b reads (λ honest.
    let all = c.deref.ensures.value ∙ (c.in_ok-rim.ensures.right honest).ready.all ∙ g.met.S.Samples.same_corners b honest ∙ reads.corners in
    let there = subst (λ (cs : List Corner). Contains cs corner) (sym all) c.requires.present in
    c.in_default.ensures.none there.0 there.1 (get_or_default c.deref.result.now there.0 (record { lat = pos 0; lon = pos 0 }) corner there.1 ∙ there.2))

module _ (g : _) (c : In-Some g) where
  place : (c.in-Some.t < length c.rim_levels.new.tile_cache.rim_graph.corners.items) × (corner_at c.rim_levels.new.tile_cache.rim_graph.corners.items c.in-Some.t ≡ c.args.corner)
  place = subst (λ (cs : List Corner). (c.in-Some.t < length cs) × (corner_at cs c.in-Some.t ≡ c.args.corner)) c.deref.ensures.value c.in-Some.ensures.some

pub returns-in_err-labelling-clause-right : goal.returns-in_err-labelling-clause-right
returns-in_err-labelling-clause-right g c honest =
    let a = c.rim_levels.new.samples in
    let made = c.in_err-labelling.ensures in
    let before = made.honest honest in
    let at = place g (goal.at.returns-in_err-labelling-clause-right g c).In-Some in
    subst (λ (m : Mosaic). IsRight m (known_by c.rim_levels.new.tile_cache.rim_graph c.current_labelling.new.labellings c.rim_levels.new.tile_cache.levels)) (sym (made.mosaic honest))
    (right_fewer g.S.Samples a (g.met.S.Samples.is_mosaic a before) (known_of c.rim_levels.new.tile_cache) c.in-Some.t c.args.corner at.0 at.1 (c.in_ok-rim.ensures.right before) (g.met.S.Samples.same_corners a before)
    c.current_labelling.new.labellings.held.items made.left)

pub returns-in_err-labelling-clause-asked : goal.returns-in_err-labelling-clause-asked
returns-in_err-labelling-clause-asked g c =
    let a = c.args.samples.now in
    let b = c.rim_levels.new.samples in
    let d = c.current_labelling.new.samples in
    let r = c.in_err-labelling.field-0.0 in
    let reads = asked_reads g.S.Samples a b _ c.in_ok-rim.ensures.asked in
    refused_by g.S.Samples a d c.from_residual-in_err-labelling.result r c.from_residual-in_err-labelling.ensures.1
    (asked_on g.S.Samples g.met.S.Samples.keeps_on a b d (tt {0}) (Err r) reads (passed_on g.S.Samples b d c.current_labelling.result r c.in_err-labelling.was
    (c.current_labelling.ensures.asked (λ _. subst (λ (cs : List Corner). Contains cs c.args.corner) (sym reads.corners) c.requires.present))))

-- the results after the labelling is cached
module _ (g : _) (c : After-hold g) where
  reads : OnlyReads {T = Unit {0}} g.S.Samples c.args.samples.now c.rim_levels.new.samples (Ok tt)
  reads = asked_reads g.S.Samples c.args.samples.now c.rim_levels.new.samples _ c.in_ok-rim.ensures.asked

  at : (c.in-Some.t < length c.rim_levels.new.tile_cache.rim_graph.corners.items) × (corner_at c.rim_levels.new.tile_cache.rim_graph.corners.items c.in-Some.t ≡ c.args.corner)
  at = place g (goal.at.After-hold g c).In-Some

  valid : g.S.Samples.is_honest c.current_labelling.new.samples → IsTileLabelling (g.S.Samples.mosaic c.rim_levels.new.samples) c.args.corner c.in_ok-labelling.labelling
  valid honest = c.in_ok-labelling.ensures.valid honest
      (entered_there g.S.Samples c.rim_levels.new.samples (known_of c.rim_levels.new.tile_cache) c.in-Some.t c.args.corner at.0 at.1 (c.in_ok-rim.ensures.right (c.in_ok-labelling.ensures.honest honest)))

  filled : g.S.Samples.is_honest c.current_labelling.new.samples → IsRimFilled (g.S.Samples.mosaic c.rim_levels.new.samples) c.args.corner c.labelled.result.now.side c.labelled.result.now.levels c.labelled.result.now.labels c.deref-2.result.now
  filled honest =
      let a = c.rim_levels.new.samples in
      let before = c.in_ok-labelling.ensures.honest honest in
      rim_filled g.S.Samples a (g.met.S.Samples.is_mosaic a before) (known_of c.rim_levels.new.tile_cache) c.in-Some.t c.args.corner at.0 at.1 (c.in_ok-rim.ensures.right before) (g.met.S.Samples.same_corners a before)
      c.labelled.result.now c.deref-2.result.now (c.labelled.ensures.flooded (g.S.Samples.mosaic a) c.args.corner c.in_ok-labelling.ensures.current (valid honest))
      (subst (λ (m : Mosaic). AreRimLevels m c.args.corner c.deref-2.result.now) (sym (reads.mosaic before)) (subst (AreRimLevels (g.S.Samples.mosaic c.args.samples.now) c.args.corner) (sym c.deref-2.ensures.value) (c.in_ok-rim.ensures.levels before)))

pub returns-clause-levels : goal.returns-clause-levels
returns-clause-levels g c honest =
    let held = (goal.at.returns-clause-levels g c).After-hold in
    subst (λ (m : Mosaic). IfOk c.raise-levels.result (λ levels. AreTileLevels m c.args.corner levels.items)) ((reads g held).mosaic (c.in_ok-labelling.ensures.honest honest))
    (c.raise-levels.ensures.filled (g.S.Samples.mosaic c.rim_levels.new.samples) c.args.corner (filled g held honest))

pub returns-clause-right : goal.returns-clause-right
returns-clause-right g c honest =
    let a = c.rim_levels.new.samples in
    let made = c.in_ok-labelling.ensures in
    let before = made.honest honest in
    let held = (goal.at.returns-clause-right g c).After-hold in
    subst (λ (m : Mosaic). IsRight m (known_by c.rim_levels.new.tile_cache.rim_graph c.hold.new.self c.rim_levels.new.tile_cache.levels)) (sym (made.mosaic honest))
    (right_held g.S.Samples a (g.met.S.Samples.is_mosaic a before) (known_of c.rim_levels.new.tile_cache) c.in-Some.t c.args.corner (at g held).0 (at g held).1 (c.in_ok-rim.ensures.right before) (g.met.S.Samples.same_corners a before)
    c.hold.new.self.held.items c.in_ok-labelling.labelling (valid g held honest)
    (λ m d u there entered. c.hold.ensures.entered m d u there (made.left m d u entered)))

pub returns-clause-asked : goal.returns-clause-asked
returns-clause-asked g c =
    let held = (goal.at.returns-clause-asked g c).After-hold in
    let b = c.rim_levels.new.samples in
    let d = c.current_labelling.new.samples in
    asked_on g.S.Samples g.met.S.Samples.keeps_on c.args.samples.now b d tt c.raise-levels.result (reads g held) (raised_asked g.S.Samples b d _ c.raise-levels.result c.in_ok-labelling.ensures.reads c.raise-levels.ensures.refusal (λ honest.
    c.raise-levels.ensures.not_damaged (g.S.Samples.mosaic b) c.args.corner (filled g held honest)))
