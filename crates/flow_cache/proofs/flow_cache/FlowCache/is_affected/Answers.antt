use Rattle.std.proofs.Common.{IsTrue, Option, None, ap, ◌∙◌, subst, sym, ◌≡◌, ◌<◌, length, rules}
use Rattle.std.specs.Prelude.{◌↔◌}
use Rattle.flow_cache.proofs.Prelude.{IsAffected, LevelRange, List, get_or_default, range_at, slot_ranges}
use Rattle.flow_cache.proofs.Caches.Blocks.{as_passed}
use Rattle.flow_cache.proofs.Caches.FlowCaches.{slot_read}
use Rattle.flow_cache.proofs.flow_cache.FlowCache.is_affected.Goals as goal

pub returns : goal.returns
returns c =
    let s = c.args.self.now in
    let ranges = c.index.result.now.ranges.items in
    let read : slot_ranges s.slots.items c.args.slot ≡ ranges = slot_read s.slots.items c.args.slot c.index.result.now c.requires.slot c.index.ensures in
    let at : range_at (slot_ranges s.slots.items c.args.slot) c.args.block ≡ c.index-2.result.now =
    ap (λ (l : List (Option LevelRange)). range_at l c.args.block) read ∙ (get_or_default ranges c.args.block None c.index-2.result.now (subst (λ (l : List (Option LevelRange)). c.args.block < length l) read c.requires.block) ∙ sym c.index-2.ensures) in
    subst (λ (o : Option LevelRange). IsTrue c.is_affected.result ↔ IsAffected c.args.was c.args.is o) (sym at) (as_passed (λ was is. IsTrue c.is_affected.result ↔ IsAffected was is c.index-2.result.now) c.args.was c.args.is (search rules) (search rules) c.is_affected.ensures)
