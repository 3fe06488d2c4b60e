-- The numbers of a store, one by one.
use Rattle.std.proofs.Common.{◌≡◌, ℕ, ap, ◌∙◌}
use Rattle.engine.specs.declared.info.Info.{Info}

pub same_info : (i j : Info) → i.side ≡ j.side → i.capacity ≡ j.capacity → i.version ≡ j.version → i.count ≡ j.count → i.commits ≡ j.commits → i.fresh ≡ j.fresh → i.stale ≡ j.stale → i ≡ j
same_info i j side capacity version count commits fresh stale =
    ap (λ (n : ℕ). record i { side = n }) side ∙ ap (λ (n : ℕ). record j { capacity = n; version = i.version; count = i.count; commits = i.commits; fresh = i.fresh; stale = i.stale }) capacity
    ∙ ap (λ (n : ℕ). record j { version = n; count = i.count; commits = i.commits; fresh = i.fresh; stale = i.stale }) version
    ∙ ap (λ (n : ℕ). record j { count = n; commits = i.commits; fresh = i.fresh; stale = i.stale }) count ∙ ap (λ (n : ℕ). record j { commits = n; fresh = i.fresh; stale = i.stale }) commits
    ∙ ap (λ (n : ℕ). record j { fresh = n; stale = i.stale }) fresh ∙ ap (λ (n : ℕ). record j { stale = n }) stale
