use Rattle.levels.proofs.Prelude.{Corner, HeldLabelling, IsEntered, IsGrown, IsRight, IsTileLabelling, Mosaic, Ok, asked_on, corner_at, get_or_default, known_of, pos, reads_on, refl, subst, sym, ◌∙◌, ◌*◌, ◌≡◌, ◌≤◌, ℕ, arith}
use Rattle.std.specs.Prelude.{ℤ, Contains, Option, IfSome, List}
use Rattle.tile_labellings.specs.Spots.{IsLabelledAt}
use Rattle.catalogue.specs.Readers.{OnlyReads}
use Rattle.levels.specs.Kept.{right_still}
use Rattle.levels.proofs.Caches.Caching.{entered_among}
use Rattle.levels.proofs.Caches.Growing.{grown_by, grown_fewer, known_by}
use Rattle.catalogue.proofs.Questioned.{answered, answered_here, passed_on, refused_by, stopped}
use Rattle.levels.proofs.Changes.Refreshed.{entered_there, is_there}
use Rattle.levels.proofs.tile_cache.TileCache.label_at.Goals as goal
use Rattle.levels.proofs.tile_cache.TileCache.label_at.Goals.{After-kept_label_at, After-hold}

pub returns-in-Some-clause-asked : goal.returns-in-Some-clause-asked
returns-in-Some-clause-asked g c right = answered_here g.S.Samples g.met.S.Samples.keeps_itself c.args.samples.now c.in-Some.label_at

pub returns-in-Some-clause-grown : goal.returns-in-Some-clause-grown
returns-in-Some-clause-grown g c =
    grown_fewer g.S.Samples c.args.samples.now c.args.samples.now (known_of c.args.self.now) c.label_at.new.self.held.items (λ h. h) (λ _. refl)
    (λ m d u. entered_among m d u c.args.self.now.labellings.held.items c.label_at.new.self.held.items c.label_at.ensures.same)

-- the results after looking the point up in the stored levels
module _ (g : _) (c : After-kept_label_at g) where
  corner_is : corner_at c.args.self.now.rim_graph.corners.items c.args.t ≡ c.index-corner.result.now
  corner_is = get_or_default c.args.self.now.rim_graph.corners.items c.args.t (record { lat = pos 0; lon = pos 0 }) c.index-corner.result.now c.requires.place ∙ sym c.index-corner.ensures

  left : (m : Mosaic) (d : Corner) (u : ℕ) → IsEntered m d c.args.self.now.labellings.held.items u → IsEntered m d c.kept_label_at.new.labellings.held.items u
  left m d u entered = subst (λ (e : List HeldLabelling). IsEntered m d e u) (sym c.kept_label_at.ensures.same) (entered_among m d u c.args.self.now.labellings.held.items c.label_at.new.self.held.items c.label_at.ensures.same entered)

  grown_then : IsGrown g.S.Samples c.args.samples.now c.kept_label_at.new.samples (known_of c.args.self.now) (known_by c.args.self.now.rim_graph c.kept_label_at.new.labellings c.args.self.now.levels)
  grown_then = grown_fewer g.S.Samples c.args.samples.now c.kept_label_at.new.samples (known_of c.args.self.now) c.kept_label_at.new.labellings.held.items c.kept_label_at.ensures.honest c.kept_label_at.ensures.mosaic left

  there : g.S.Samples.is_honest c.args.samples.now → IsRight (g.S.Samples.mosaic c.args.samples.now) (known_of c.args.self.now) → Contains (g.S.Samples.corners c.args.samples.now) c.index-corner.result.now
  there honest right = is_there g.S.Samples c.args.samples.now (known_of c.args.self.now) c.args.t c.index-corner.result.now c.requires.place corner_is right (g.met.S.Samples.same_corners c.args.samples.now honest)

pub returns-in_err-label_at-clause-grown : goal.returns-in_err-label_at-clause-grown
returns-in_err-label_at-clause-grown g c = grown_then g (goal.at.returns-in_err-label_at-clause-grown g c).After-kept_label_at

pub returns-in_err-label_at-clause-asked : goal.returns-in_err-label_at-clause-asked
returns-in_err-label_at-clause-asked g c right =
    let a = c.args.samples.now in
    let b = c.kept_label_at.new.samples in
    let r = c.in_err-label_at.field-0.0 in
    refused_by g.S.Samples a b c.from_residual.result r c.from_residual.ensures.1
    (passed_on g.S.Samples a b c.kept_label_at.result r c.in_err-label_at.was (c.kept_label_at.ensures.asked (λ honest.
    let before = c.in_err-label_at.ensures.honest honest in
    there g (goal.at.returns-in_err-label_at-clause-asked g c).After-kept_label_at before (right honest))))

pub returns-in-Some-2-clause-label_at : goal.returns-in-Some-2-clause-label_at
returns-in-Some-2-clause-label_at g c honest right =
    subst (λ (d : Corner). IsLabelledAt (g.S.Samples.mosaic c.args.samples.now) d c.args.index c.in-Some-2.label_at.0 c.in-Some-2.label_at.1) (sym (corner_is g (goal.at.returns-in-Some-2-clause-label_at g c).After-kept_label_at))
    (subst (λ (found : Option (ℤ × ℕ)). IfSome found (λ s. IsLabelledAt (g.S.Samples.mosaic c.args.samples.now) c.index-corner.result.now c.args.index s.0 s.1)) c.in-Some-2.is (c.in_ok-label_at.ensures.label_at honest))

pub returns-in-Some-2-clause-grown : goal.returns-in-Some-2-clause-grown
returns-in-Some-2-clause-grown g c = grown_then g (goal.at.returns-in-Some-2-clause-grown g c).After-kept_label_at

pub returns-in-Some-2-clause-asked : goal.returns-in-Some-2-clause-asked
returns-in-Some-2-clause-asked g c right = answered g.S.Samples c.args.samples.now c.kept_label_at.new.samples _ c.in_ok-label_at.ensures.reads

pub returns-in_err-labelling-clause-grown : goal.returns-in_err-labelling-clause-grown
returns-in_err-labelling-clause-grown g c =
    let read = c.in_ok-label_at.ensures in
    let made = c.in_err-labelling.ensures in
    grown_fewer g.S.Samples c.args.samples.now c.current_labelling.new.samples (known_of c.args.self.now) c.current_labelling.new.labellings.held.items
    (λ honest. read.honest (made.honest honest)) (λ honest. made.mosaic honest ∙ read.mosaic (made.honest honest))
    (λ m d u entered. made.left m d u (left g (goal.at.returns-in_err-labelling-clause-grown g c).After-kept_label_at m d u entered))

pub returns-in_err-labelling-clause-asked : goal.returns-in_err-labelling-clause-asked
returns-in_err-labelling-clause-asked g c right =
    let a = c.args.samples.now in
    let b = c.kept_label_at.new.samples in
    let d = c.current_labelling.new.samples in
    let read = c.in_ok-label_at.ensures in
    let made = c.in_err-labelling.ensures in
    let r = c.in_err-labelling.field-0.0 in
    refused_by g.S.Samples a d c.from_residual-in_err-labelling.result r c.from_residual-in_err-labelling.ensures.1
    (passed_on g.S.Samples a d c.current_labelling.result r c.in_err-labelling.was (asked_on g.S.Samples g.met.S.Samples.keeps_on a b d tt c.current_labelling.result read.reads (c.current_labelling.ensures.asked (λ honest.
    let mid = made.honest honest in
    let before = (goal.at.returns-in_err-labelling-clause-asked g c).After-kept_label_at in
    is_there g.S.Samples b (known_by c.args.self.now.rim_graph c.kept_label_at.new.labellings c.args.self.now.levels) c.args.t c.index-corner.result.now c.requires.place (corner_is g before)
    (right_still g.S.Samples a b (known_of c.args.self.now) _ (grown_then g before) mid (right honest)) (g.met.S.Samples.same_corners b mid)))))

-- the results after the labelling is cached
module _ (g : _) (c : After-hold g) where
  valid : g.S.Samples.is_honest c.current_labelling.new.samples → IsRight (g.S.Samples.mosaic c.args.samples.now) (known_of c.args.self.now) → IsTileLabelling (g.S.Samples.mosaic c.args.samples.now) c.index-corner.result.now c.in_ok-labelling.labelling
  valid honest right =
      let mid = c.in_ok-labelling.ensures.honest honest in
      let same = c.in_ok-label_at.ensures.mosaic mid in
      subst (λ (m : Mosaic). IsTileLabelling m c.index-corner.result.now c.in_ok-labelling.labelling) same
      (c.in_ok-labelling.ensures.valid honest (subst (λ (m : Mosaic). IsEntered m c.index-corner.result.now c.kept_label_at.new.labellings.held.items c.args.t) (sym same)
      (left g (goal.at.After-hold g c).After-kept_label_at (g.S.Samples.mosaic c.args.samples.now) c.index-corner.result.now c.args.t
      (entered_there g.S.Samples c.args.samples.now (known_of c.args.self.now) c.args.t c.index-corner.result.now c.requires.place (corner_is g (goal.at.After-hold g c).After-kept_label_at) right))))

  grown_held : IsGrown g.S.Samples c.args.samples.now c.current_labelling.new.samples (known_of c.args.self.now) (known_by c.args.self.now.rim_graph c.hold.new.self c.args.self.now.levels)
  grown_held =
      let read = c.in_ok-label_at.ensures in
      let made = c.in_ok-labelling.ensures in
      grown_by g.S.Samples c.args.samples.now c.current_labelling.new.samples (known_of c.args.self.now) (known_by c.args.self.now.rim_graph c.hold.new.self c.args.self.now.levels)
      (record { honest = λ honest. read.honest (made.honest honest); mosaic = λ honest. made.mosaic honest ∙ read.mosaic (made.honest honest); same_side = refl; same_corners = refl; still = λ t ways is. is }) refl
      c.args.t c.index-corner.result.now c.in_ok-labelling.labelling (corner_is g (goal.at.After-hold g c).After-kept_label_at) valid
      (λ honest right. right.ready.tiles)
      (λ m d u here labellings. c.hold.ensures.entered m d u here (made.left m d u (left g (goal.at.After-hold g c).After-kept_label_at m d u labellings)))

  reads : OnlyReads {T = Unit {0}} g.S.Samples c.args.samples.now c.current_labelling.new.samples (Ok tt)
  reads = reads_on g.S.Samples g.met.S.Samples.keeps_on c.args.samples.now c.kept_label_at.new.samples c.current_labelling.new.samples tt (Ok tt) c.in_ok-label_at.ensures.reads c.in_ok-labelling.ensures.reads

pub returns-in-Some-label_at-clause-grown : goal.returns-in-Some-label_at-clause-grown
returns-in-Some-label_at-clause-grown g c = grown_held g (goal.at.returns-in-Some-label_at-clause-grown g c).After-hold

pub returns-in-Some-label_at-clause-label_at : goal.returns-in-Some-label_at-clause-label_at
returns-in-Some-label_at-clause-label_at g c honest right =
    let held = (goal.at.returns-in-Some-label_at-clause-label_at g c).After-hold in
    let a = c.args.samples.now in
    subst (λ (d : Corner). IsLabelledAt (g.S.Samples.mosaic a) d c.args.index c.in-Some-label_at.label_at.0 c.in-Some-label_at.label_at.1) (sym (corner_is g (goal.at.returns-in-Some-label_at-clause-label_at g c).After-kept_label_at)) (
      c.labelled.result.now,
      (
        c.labelled.ensures.flooded (g.S.Samples.mosaic a) c.index-corner.result.now c.in_ok-labelling.ensures.current (valid g held honest right),
        c.in-Some-label_at.ensures.some,
      ),
    )

pub returns-in-Some-label_at-clause-reads : goal.returns-in-Some-label_at-clause-reads
returns-in-Some-label_at-clause-reads g c = reads g (goal.at.returns-in-Some-label_at-clause-reads g c).After-hold

pub returns-in-Some-label_at-clause-asked : goal.returns-in-Some-label_at-clause-asked
returns-in-Some-label_at-clause-asked g c right = answered g.S.Samples c.args.samples.now c.current_labelling.new.samples _ (reads g (goal.at.returns-in-Some-label_at-clause-asked g c).After-hold)

pub returns-in-None-clause-grown : goal.returns-in-None-clause-grown
returns-in-None-clause-grown g c = grown_held g (goal.at.returns-in-None-clause-grown g c).After-hold

pub returns-in-None-clause-asked : goal.returns-in-None-clause-asked
returns-in-None-clause-asked g c right =
    stopped g.S.Samples c.args.samples.now c.current_labelling.new.samples (reads g (goal.at.returns-in-None-clause-asked g c).After-hold) (λ honest.
    let m = g.S.Samples.mosaic c.args.samples.now in
    let flooded = c.labelled.ensures.flooded m c.index-corner.result.now c.in_ok-labelling.ensures.current (valid g (goal.at.returns-in-None-clause-asked g c).After-hold honest (right honest)) in
    let past = subst (λ n. n * n ≤ c.args.index) (flooded.side ∙ sym (right honest).ready.same_side) c.in-None.ensures.none in
    omega (arith, past, c.requires.index))
