-- A property of the value in an `Ok` holds for the value that `ok` gives.
use Rattle.std.proofs.Common.{◌≡◌, Some, Result, Ok, Err, sym, subst}
use Rattle.std.specs.Result.{IfOk, result_ok}
use Rattle.std.proofs.lemmas.Option.{none-some, same_Some}

pub IfOk-result_ok : {A E : Type 0} (P : A → Type 0) (r : Result A E) (x : A) → Some x ≡ result_ok r → IfOk r P → P x
IfOk-result_ok P (Ok y) x is holds = subst P (sym (same_Some x y is)) holds
IfOk-result_ok P (Err e) x is holds = absurd (none-some x (sym is))
