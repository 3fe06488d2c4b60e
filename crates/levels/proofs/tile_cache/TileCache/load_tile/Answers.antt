use Rattle.levels.proofs.Prelude.{Corner, Err, IsEntered, IsGrown, IsRight, IsSummaryOf, IsTileLabelling, LabellingCache, Mosaic, Ok, TileLabelling, ℕ, arith, asked_on, known_of, length, reads_on, refl, rules, subst, sym, ◌<◌, ◌∙◌, ◌≡◌, ◌≤◌}
use Rattle.levels.proofs.Caches.Growing.{known_by, grown_by, grown_fewer}
use Rattle.catalogue.proofs.Questioned.{answered, answered_here, passed_on, refused_by, short_of_memory, stopped_here}
use Rattle.levels.proofs.Changes.Refreshed.{entered_there, is_there}
use Rattle.levels.proofs.Caches.LoadingTiles.{some_there}
use Rattle.levels.proofs.tile_cache.TileCache.load_tile.Goals as goal
use Rattle.levels.proofs.tile_cache.TileCache.load_tile.Goals.{After-learn}

pub returns-then-t-len-clause-asked : goal.returns-then-t-len-clause-asked
returns-then-t-len-clause-asked g c ready =
    stopped_here g.S.Samples g.met.S.Samples.keeps_itself c.args.samples.now (λ honest.
    let past : length c.args.self.now.rim_graph.loaded.items ≤ c.args.t = (let size = c.len.ensures in let h = c.if-t-len.true in search rules) in
    let whole = (ready honest).ready.tiles.whole in
    let place = c.requires.place in
    absurd (omega arith))

pub returns-then-is_some-clause-asked : goal.returns-then-is_some-clause-asked
returns-then-is_some-clause-asked g c ready = answered_here g.S.Samples g.met.S.Samples.keeps_itself c.args.samples.now (tt {0})

pub returns-then-is_some-clause-loaded : goal.returns-then-is_some-clause-loaded
returns-then-is_some-clause-loaded g c =
    let inside : c.args.t < length c.args.self.now.rim_graph.loaded.items = (let size = c.len.ensures in search rules) in
    some_there c.args.self.now.rim_graph.loaded.items c.args.t c.index.result.now inside c.index.ensures (sym c.is_some.ensures ∙ c.if-is_some.true)

pub returns-in_err-labelling-clause-grown : goal.returns-in_err-labelling-clause-grown
returns-in_err-labelling-clause-grown g c =
    let made = c.in_err-labelling.ensures in
    grown_fewer g.S.Samples c.args.samples.now c.current_labelling.new.samples (known_of c.args.self.now) c.current_labelling.new.labellings.held.items made.honest made.mosaic made.left

pub returns-in_err-labelling-clause-asked : goal.returns-in_err-labelling-clause-asked
returns-in_err-labelling-clause-asked g c right =
    let a = c.args.samples.now in
    let b = c.current_labelling.new.samples in
    let made = c.in_err-labelling.ensures in
    let r = c.in_err-labelling.field-0.0 in
    refused_by g.S.Samples a b c.from_residual.result r c.from_residual.ensures.1
    (passed_on g.S.Samples a b c.current_labelling.result r c.in_err-labelling.was (c.current_labelling.ensures.asked (λ honest.
    is_there g.S.Samples a (known_of c.args.self.now) c.args.t c.args.corner c.requires.place c.requires.corner (right honest) (g.met.S.Samples.same_corners a (made.honest honest)))))

pub returns-in_err-summary-clause-grown : goal.returns-in_err-summary-clause-grown
returns-in_err-summary-clause-grown g c =
    let made = c.in_ok-labelling.ensures in
    let summed = c.in_err-summary.ensures in
    grown_fewer g.S.Samples c.args.samples.now c.summarize.new.samples (known_of c.args.self.now) c.current_labelling.new.labellings.held.items
    (λ honest. made.honest (summed.honest honest)) (λ honest. summed.mosaic honest ∙ made.mosaic (summed.honest honest)) made.left

pub returns-in_err-summary-clause-asked : goal.returns-in_err-summary-clause-asked
returns-in_err-summary-clause-asked g c right =
    let a = c.args.samples.now in
    let b = c.current_labelling.new.samples in
    let d = c.summarize.new.samples in
    let made = c.in_ok-labelling.ensures in
    let summed = c.in_err-summary.ensures in
    let r = c.in_err-summary.field-0.0 in
    refused_by g.S.Samples a d c.from_residual-in_err-summary.result r c.from_residual-in_err-summary.ensures.1
    (asked_on g.S.Samples g.met.S.Samples.keeps_on a b d (tt {0}) (Err r) made.reads
    (passed_on g.S.Samples b d c.summarize.result r c.in_err-summary.was (c.summarize.ensures.asked made.current (λ honest.
    let mid = summed.honest honest in
    (subst (λ (m : Mosaic). IsTileLabelling m c.args.corner c.in_ok-labelling.labelling) (sym (made.mosaic mid))
    (made.valid mid (entered_there g.S.Samples a (known_of c.args.self.now) c.args.t c.args.corner c.requires.place c.requires.corner (right honest))))))))

-- the results after the tile's graph is loaded
module _ (g : _) (c : After-learn g) where
  grown_then : (labellings : LabellingCache) → ((m : Mosaic) (e : Corner) (u : ℕ) → (u ≡ c.args.t → IsTileLabelling m e c.in_ok-labelling.labelling) → IsEntered m e (known_of c.args.self.now).labellings u → IsEntered m e labellings.held.items u)
      → IsGrown g.S.Samples c.args.samples.now c.summarize.new.samples (known_of c.args.self.now) (known_by c.learn.new.self labellings c.args.self.now.levels)
  grown_then labellings entered =
      let a = c.args.samples.now in
      let d = c.summarize.new.samples in
      let was = known_of c.args.self.now in
      let made = c.in_ok-labelling.ensures in
      let summed = c.in_ok-summary.ensures in
      let learned = c.learn.ensures in
      let labelling = c.in_ok-labelling.labelling in
      let valid : g.S.Samples.is_honest d → IsRight (g.S.Samples.mosaic a) was → IsTileLabelling (g.S.Samples.mosaic a) c.args.corner labelling =
      λ honest right. made.valid (summed.honest honest) (entered_there g.S.Samples a was c.args.t c.args.corner c.requires.place c.requires.corner right) in
      grown_by g.S.Samples a d was (known_by c.learn.new.self labellings c.args.self.now.levels)
      (record { honest = λ honest. made.honest (summed.honest honest); mosaic = λ honest. summed.mosaic honest ∙ made.mosaic (summed.honest honest); same_side = learned.side; same_corners = learned.corners; still = learned.still }) refl
      c.args.t c.args.corner labelling c.requires.corner valid
      (λ honest right.
      let mid = summed.honest honest in
      learned.right (g.S.Samples.mosaic a) (c.requires.corner ∙ sym summed.corner)
      (subst (λ (m : Mosaic). IsSummaryOf m c.in_ok-summary.summary) (made.mosaic mid) (summed.border honest made.current
      (subst (λ (m : Mosaic). IsTileLabelling m c.args.corner labelling) (sym (made.mosaic mid)) (valid honest right))))
      right.ready.tiles)
      entered

pub returns-in_err-learn-clause-grown : goal.returns-in_err-learn-clause-grown
returns-in_err-learn-clause-grown g c = grown_then g (goal.at.returns-in_err-learn-clause-grown g c).After-learn c.current_labelling.new.labellings (λ m e u here labellings. c.in_ok-labelling.ensures.left m e u labellings)

pub returns-in_err-learn-clause-asked : goal.returns-in_err-learn-clause-asked
returns-in_err-learn-clause-asked g c right =
    let a = c.args.samples.now in
    let b = c.current_labelling.new.samples in
    let d = c.summarize.new.samples in
    short_of_memory g.S.Samples a d c.from_residual-in_err-learn.result (reads_on g.S.Samples g.met.S.Samples.keeps_on a b d tt (Ok tt) c.in_ok-labelling.ensures.reads c.in_ok-summary.ensures.reads) (search rules)

pub returns-clause-grown : goal.returns-clause-grown
returns-clause-grown g c = grown_then g (goal.at.returns-clause-grown g c).After-learn c.hold.new.self
    (λ m e u here labellings. c.hold.ensures.entered m e u (λ same. subst (λ (x : TileLabelling). IsTileLabelling m e x) (sym c.in_ok-summary.ensures.same) (here same)) (c.in_ok-labelling.ensures.left m e u labellings))

pub returns-clause-reads : goal.returns-clause-reads
returns-clause-reads g c =
    reads_on g.S.Samples g.met.S.Samples.keeps_on c.args.samples.now c.current_labelling.new.samples c.summarize.new.samples tt (Ok tt) c.in_ok-labelling.ensures.reads c.in_ok-summary.ensures.reads

pub returns-clause-asked : goal.returns-clause-asked
returns-clause-asked g c right = answered g.S.Samples c.args.samples.now c.summarize.new.samples (tt {0}) (returns-clause-reads g c)
