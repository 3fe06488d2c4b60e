use Rattle.tile_flood.proofs.Prelude.{SFits, Waits, ap, not, of_z, refl, rules, slice_index_or, subst, sym, to_z, void, w16, ◌∙◌}
use Rattle.tile_flood.proofs.Spreading.{passed_max}
use Rattle.tile_flood.proofs.Steps.{IsReached, mark_on}
use Rattle.tile_flood.proofs.ListedChanges.{marked_listed}
use Rattle.tile_flood.proofs.flood.Flood.visit.Goals as goal
use Rattle.tile_flood.proofs.flood.Flood.visit.Goals.{In_ok-mark}

marked : (c : In_ok-mark) → IsReached c.args.block.now.n c.args.block.now.heights.now c.args.block.now.sinks.now c.args.self.now.levels.items c.mark.new.self.levels.items c.mark.new.self.labels.items c.mark.new.self.queue c.mark.new.self.suspects c.args.popped.point c.args.popped.level c.args.popped.label c.args.e
marked c =
    let s = c.args.self.now in
    let fits_height : SFits w16 c.at.result = search rules in
    let fits_low : SFits w16 c.args.popped.level = search rules in
    let fits_new : SFits w16 c.higher-level.result = search rules in
    let a = c.in_ok-mark.ensures in
    mark_on c.args.block.now.n c.args.block.now.heights.now c.args.block.now.sinks.now s.levels.items s.labels.items s.queue c.mark.new.self.queue s.suspects c.mark.new.self.suspects c.args.popped.point c.args.popped.level c.args.popped.label c.args.e (to_z w16 (of_z w16 c.higher-level.result)) c.args.popped.label
    c.requires.state (sym c.is_ground.ensures ∙ c.if-not-is_ground.false) c.requires.beside
    (passed_max c.higher-level.result c.at.result c.args.popped.level (slice_index_or c.args.block.now.heights.now c.args.e void) fits_new fits_height fits_low c.higher-level.ensures c.at.ensures)
    a.joined.waits a.joined.others (λ l f w. subst (λ q. Waits q l f) (sym a.suspects) w) c.mark.new.self.levels.items c.mark.new.self.labels.items (ap not (sym c.is_unmarked.ensures ∙ c.if-is_unmarked.true)) refl a.levels a.labels

pub returns-then-is_unmarked : goal.returns-then-is_unmarked
returns-then-is_unmarked c =
    let s = c.args.self.now in
    let a = c.in_ok-mark.ensures in
    let m = marked c in
    record {
      state = m.state;
      at_most = m.at_most;
      reached = λ _. m.reached;
      listed = rw a.affected (marked_listed c.args.block.now.n c.args.block.now.heights.now s.levels.items c.mark.new.self.levels.items s.labels.items c.mark.new.self.labels.items c.args.self.now.affected.items c.args.e (to_z w16 (of_z w16 c.higher-level.result)) c.args.popped.label
          (sym c.is_ground.ensures ∙ c.if-not-is_ground.false) (ap not (sym c.is_unmarked.ensures ∙ c.if-is_unmarked.true)) a.levels a.labels);
    }
