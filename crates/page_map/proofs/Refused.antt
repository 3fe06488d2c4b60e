-- The answer of the operator `?` after a refused call.
use Rattle.std.proofs.Common.{◌≡◌, Result, Ok, Err, ap}
use Rattle.page_map.proofs.Prelude.{IfOk, OnErr, Refusal}
use Rattle.std.specs.Result.{IsErrAnd}

pub ended_with : {A : Type 0} (r : Result A Refusal) (why : Refusal) → IsErrAnd r (λ e. e ≡ why) → r ≡ Err why
ended_with (Ok x) why is = absurd is
ended_with (Err e) why is = ap (λ (x : Refusal). Err x) is

-- a fact that follows both from an answer and from a refusal
pub done_or_not : {T E : Type 0} {P : T → Type 0} {Q R : Type 0} (r : Result T E) → ((x : T) → P x → R) → (Q → R) → IfOk r P → OnErr r Q → R
done_or_not (Ok x) f g done undone = f x done
done_or_not (Err e) f g done undone = g undone
