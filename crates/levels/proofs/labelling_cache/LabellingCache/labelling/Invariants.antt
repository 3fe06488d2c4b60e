use Rattle.levels.proofs.Prelude.{All, HeldLabelling, IsCurrent, take, ◌≡◌}
use Rattle.levels.proofs.labelling_cache.LabellingCache.labelling.Given as goal

abbrev pub invariant-loop-held : goal.invariant-loop-held
invariant-loop-held l = All (λ (one : HeldLabelling). one.place ≡ l.t → IsCurrent one.labelling → ⊥) (take l.held-index l.self.held.items)
