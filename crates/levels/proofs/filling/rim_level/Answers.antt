use Rattle.std.proofs.Common.{◌≡◌, ◌∙◌, ℕ, ◌+◌, ◌*◌, ◌-◌, ◌^◌, ◌≤◌, ◌==◌, ℤ, ◌⊎◌, ◌<◌, Contains, cond, List, rules, sym, ap, subst, SFits, w16}
use Rattle.levels.proofs.Prelude.{IfNone, IfSome, IsJoinedLevel, IsPlacedLink, IsRight, IsRimLevel, IsWayBelow, Rim, Some, known_of, level_of, node_number, right_still, to_z-of_z}
use Rattle.levels.proofs.Caches.Growing.{known_by}
use Rattle.levels.proofs.Flows.Found.{right_more, right_all, reached_later, start_is, found, found_later, never}
use Rattle.levels.proofs.Tiles.Numbered.{of_fits}
use Rattle.catalogue.proofs.Questioned.{answered, answered_here, stopped, stopped_here}
use Rattle.levels.proofs.Tiles.RimNodes.{node_there}
use Rattle.levels.proofs.filling.rim_level.Goals as goal
use Rattle.levels.proofs.filling.rim_level.Goals.{After-know_all}

pub returns-in_default-clause-asked : goal.returns-in_default-clause-asked
returns-in_default-clause-asked g c =
    let a = c.args.samples.now in
    let w = known_of c.args.tile_cache.now in
    stopped_here g.S.Samples g.met.S.Samples.keeps_itself a (λ honest.
    let right = c.requires.right honest in
    let ground = c.requires.there honest in
    node_there (g.S.Samples.mosaic a) (g.met.S.Samples.is_mosaic a honest) w.side w.corners w.loaded right.ready c.args.t c.args.number ground.index c.requires.place ground.rim ground.on_ground
    (subst (λ k. 2 ^ 32 ≤ 1 + c.args.t * (4 * (w.side - 1)) + k) c.from.ensures c.in_default.ensures.none))

pub returns-in-Some-level-clause-level : goal.returns-in-Some-level-clause-level
returns-in-Some-level-clause-level g c honest =
    let m = g.S.Samples.mosaic c.args.samples.now in
    let w = known_of c.args.tile_cache.now in
    let right = c.requires.right honest in
    let in_range : SFits w16 c.in-Some-level.level = search rules in
    let at = start_is m w c.args.t c.args.number c.in-Some.start right (c.in-Some.ensures.some ∙ ap (λ k. 1 + c.args.t * (4 * (w.side - 1)) + k) c.from.ensures) in
    subst (IsRimLevel m w.corners (node_number m.side (Rim c.args.t c.args.number))) (sym (to_z-of_z w16 c.in-Some-level.level in_range))
    (subst (λ x. IsRimLevel m w.corners x c.in-Some-level.level) at (right.levels c.in-Some.start c.in-Some-level.level (sym c.in-Some-level.ensures)))

pub returns-in-Some-level-clause-asked : goal.returns-in-Some-level-clause-asked
returns-in-Some-level-clause-asked g c = answered_here g.S.Samples g.met.S.Samples.keeps_itself c.args.samples.now _

pub returns-in_default-2-clause-asked : goal.returns-in_default-2-clause-asked
returns-in_default-2-clause-asked g c =
    let a = c.args.samples.now in
    let d = c.lowest_pass.new.source in
    let w = known_of c.args.tile_cache.now in
    let carried = c.in_ok-level.ensures.keeps in
    stopped g.S.Samples a d carried.reads (λ honest.
    let before = carried.reads.honest honest in
    never g.S.Samples a d (g.met.S.Samples.is_mosaic a before) w (known_of c.lowest_pass.new.graph) carried.grown honest (c.requires.right before) c.args.t c.args.number c.requires.place (c.requires.there before) c.in-Some.start
    (c.in-Some.ensures.some ∙ ap (λ k. 1 + c.args.t * (4 * (w.side - 1)) + k) c.from.ensures)
    (λ n all agrees level rest. subst (λ found. IfNone found ((level : ℤ) (rest : List ℕ) → IsWayBelow (IsPlacedLink n all) 0 level c.in-Some.start rest → ⊥)) c.in_default-2.is (c.in_ok-level.ensures.not_joined n all agrees) level rest))

pub returns-clause-level : goal.returns-clause-level
returns-clause-level g c honest =
    let a = c.args.samples.now in
    let d = c.lowest_pass.new.source in
    let m = g.S.Samples.mosaic a in
    let w = known_of c.args.tile_cache.now in
    let carried = c.in_ok-level.ensures.keeps in
    let before = carried.reads.honest honest in
    let in_range : SFits w16 c.in-Some-2.level = search rules in
    subst (IsRimLevel m w.corners (node_number m.side (Rim c.args.t c.args.number))) (sym (to_z-of_z w16 c.in-Some-2.level in_range))
    (found g.S.Samples a d (g.met.S.Samples.is_mosaic a before) w (known_of c.lowest_pass.new.graph) carried.grown honest (c.requires.right before) c.args.t c.args.number c.requires.place (c.requires.there before) c.in-Some.start
    (c.in-Some.ensures.some ∙ ap (λ k. 1 + c.args.t * (4 * (w.side - 1)) + k) c.from.ensures) c.in-Some-2.level
    (λ n all agrees. subst (λ found. IfSome found (IsJoinedLevel (IsPlacedLink n all) 0 c.in-Some.start)) c.in-Some-2.is (c.in_ok-level.ensures.joined n all agrees (of_fits agrees.fits))))

-- the known levels are right, whether or not memory sufficed for all of them
module _ (g : _) (c : After-know_all g) where
  right_then : g.S.Samples.is_honest c.lowest_pass.new.source
      → IsRight (g.S.Samples.mosaic c.lowest_pass.new.source) (known_by c.lowest_pass.new.graph.rim_graph c.lowest_pass.new.graph.labellings c.know_all.new.self)
  right_then honest =
      let a = c.args.samples.now in
      let d = c.lowest_pass.new.source in
      let w = known_of c.args.tile_cache.now in
      let carried = c.in_ok-level.ensures.keeps in
      let before = carried.reads.honest honest in
      let known = known_of c.lowest_pass.new.graph in
      let in_range : SFits w16 c.in-Some-2.level = search rules in
      let same = to_z-of_z w16 c.in-Some-2.level in_range in
      let started : IsRight (g.S.Samples.mosaic d) (record { side = known.side; corners = known.corners; loaded = known.loaded; labellings = known.labellings; levels = c.know.new.self }) =
      right_more (g.S.Samples.mosaic d) known c.know.new.self c.in-Some.start c.in-Some-2.level
      (λ x. subst (λ (v : ℤ). level_of c.know.new.self x ≡ cond (c.in-Some.start == x) (Some v) (level_of known.levels x)) same (c.in_ok-know.ensures.known x))
      (found_later g.S.Samples a d (g.met.S.Samples.is_mosaic a before) w known carried.grown honest (c.requires.right before) c.args.t c.args.number c.requires.place (c.requires.there before) c.in-Some.start
      (c.in-Some.ensures.some ∙ ap (λ k. 1 + c.args.t * (4 * (w.side - 1)) + k) c.from.ensures) c.in-Some-2.level
      (λ n all agrees. subst (λ found. IfSome found (IsJoinedLevel (IsPlacedLink n all) 0 c.in-Some.start)) c.in-Some-2.is (c.in_ok-level.ensures.joined n all agrees (of_fits agrees.fits))))
      (right_still g.S.Samples a d w known carried.grown honest (c.requires.right before)) in
      right_all (g.S.Samples.mosaic d) (record { side = known.side; corners = known.corners; loaded = known.loaded; labellings = known.labellings; levels = c.know.new.self }) c.know_all.new.self c.deref.result.now c.in-Some-2.level
      (λ x found is. subst (λ (v : ℤ). (level_of c.know.new.self x ≡ Some found) ⊎ (Contains c.deref.result.now x × (found ≡ v))) same (c.know_all.ensures.only x found is))
      (λ x has. reached_later g.S.Samples a d (g.met.S.Samples.is_mosaic a before) w known carried.grown honest (c.requires.right before) x c.in-Some-2.level
      (λ n all agrees. subst (λ found. IfSome found (λ level. (y : ℕ) → Contains c.lowest_pass.new.alike.items y → (0 < y) × IsJoinedLevel (IsPlacedLink n all) 0 y level)) c.in-Some-2.is (c.in_ok-level.ensures.alike n all agrees (of_fits agrees.fits)) x
      (subst (λ (l : List ℕ). Contains l x) c.deref.ensures.value has)))
      started

pub returns-clause-right : goal.returns-clause-right
returns-clause-right g c honest = right_then g (goal.at.returns-clause-right g c).After-know_all honest

pub returns-in_err-know_all-clause-right : goal.returns-in_err-know_all-clause-right
returns-in_err-know_all-clause-right g c honest = right_then g (goal.at.returns-in_err-know_all-clause-right g c).After-know_all honest

pub returns-clause-asked : goal.returns-clause-asked
returns-clause-asked g c = answered g.S.Samples c.args.samples.now c.lowest_pass.new.source _ c.in_ok-level.ensures.keeps.reads
