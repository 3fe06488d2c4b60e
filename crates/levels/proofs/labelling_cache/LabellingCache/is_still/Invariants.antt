use Rattle.levels.proofs.Prelude.{All, HeldLabelling, IsBelow, take, ◌≡◌}
use Rattle.levels.proofs.labelling_cache.LabellingCache.is_still.Given as goal

abbrev pub invariant-loop-held : goal.invariant-loop-held
invariant-loop-held l = All (λ (one : HeldLabelling). ((one.place ≡ l.t) × IsBelow one.labelling l.index l.height.was l.height.metres) → ⊥) (take l.held-index l.self.held.items)
