use Rattle.std.specs.Prelude.{Option, Some, None, IfSome}
use Rattle.levels.proofs.Caches.Caching.{entered_among}
use Rattle.levels.proofs.labelling_cache.LabellingCache.label_at.Goals as goal

if_some : {A : Type 0} {P Q : A → Type 0} (found : Option A) → ((x : A) → P x → Q x) → IfSome found P → IfSome found Q
if_some None then_ p = p
if_some (Some x) then_ p = then_ x p

pub returns-clause-some : goal.returns-clause-some
returns-clause-some c =
    if_some c.label_in.result
    (λ s told m d entered. (c.in_ok-labelled.labelled.now, (c.in_ok-labelled.ensures.flooded m d (entered_among m d c.args.t c.args.self.now.held.items c.use_again.new.self.held.items c.use_again.ensures.only entered), told)))
    c.label_in.ensures.some
