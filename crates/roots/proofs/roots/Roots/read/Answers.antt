use Rattle.std.proofs.Common.{◌≡◌, Bool, Err, MatchResult, Ok, OnOk, Result, subst, sym, true}
use Rattle.std.specs.Prelude.{is_ok}
use Rattle.roots.proofs.roots.Roots.read.Goals as goal

-- what is known of a call by whether it succeeded, where its answer is passed on
passed_on : {E F : Type 0} (why : F) (S T : Type 0) (P : Bool → Type 0) (answer : Result (Unit {0}) E) (result : Result (Unit {0}) F) → MatchResult answer (λ u. (result ≡ Ok tt) × S) (λ e. (result ≡ Err why) × T) → P (is_ok answer) → OnOk result (P true)
passed_on {F = F} why S T P (Ok u) result is known = subst (λ (r : Result (Unit {0}) F). OnOk r (P true)) (sym is.0) known
passed_on {F = F} why S T P (Err e) result is known = subst (λ (r : Result (Unit {0}) F). OnOk r (P true)) (sym is.0) tt

pub returns-clause-has_read : goal.returns-clause-has_read
returns-clause-has_read g c =
    passed_on _ _ _ (λ (ok : Bool). g.D.Disk.has_read c.args.self.now.disk c.args.p ok c.read-answer.new.into c.read-answer.new.self) c.read-answer.result c.noted.result c.noted.ensures c.read-answer.ensures.has_read
