-- What follows from an answer Ok.
use Rattle.std.proofs.Common.{◌≡◌, Bool, true, false, Result, Ok, Err, MatchResult, OnOk, IfOk, sym, ◌∙◌, subst}
use Rattle.lattice.specs.declared.refusal.Refusal.{Refusal}
use Rattle.lattice.specs.declared.refusal.Refusal.TheVariants.{Device}

-- `device` has answered Ok with v for this answer of the disk. So this answer is Ok, with v.
abbrev pub CameFrom : {T E : Type 0} → Result T E → T → Type 0
CameFrom {T = T} answer v = MatchResult answer (λ value. let r : Result T Refusal = Ok v in r ≡ Ok value) (λ _. let r : Result T Refusal = Ok v in r ≡ Err Device)

pub on_ok : {T E : Type 0} (answer : Result T E) (v : T) (P : Type 0) → CameFrom answer v → OnOk answer P → P
on_ok (Ok x) v P came h = h
on_ok (Err e) v P came h = absurd (cc came)

pub if_ok : {T E : Type 0} (answer : Result T E) (v : T) (P : T → Type 0) → CameFrom answer v → IfOk answer P → P v
if_ok (Ok x) v P came h = let e : x ≡ v = cc came in subst P e h
if_ok (Err e) v P came h = absurd (cc came)

pub if_ok_map : {T E : Type 0} (answer : Result T E) (P Q : T → Type 0) → ((x : T) → P x → Q x) → IfOk answer P → IfOk answer Q
if_ok_map (Ok x) P Q f h = f x h
if_ok_map (Err e) P Q f h = tt

-- `noted` has answered Ok, so the disk's answer was Ok.
pub noted_ok : {T E : Type 0} (answer : Result T E) (v : Unit {0}) (X Y P : Type 0) → MatchResult answer (λ _. X) (λ _. (let r : Result (Unit {0}) Refusal = Ok v in r ≡ Err Device) × Y) → OnOk answer P → P
noted_ok (Ok x) v X Y P came h = h
noted_ok (Err e) v X Y P came h = absurd (cc came.0)

pub noted_works : {T E : Type 0} (answer : Result T E) (r : Result (Unit {0}) Refusal) (was now : Bool) (P : Type 0) → MatchResult answer (λ _. (r ≡ Ok tt) × (now ≡ was)) (λ _. (r ≡ Err Device) × (now ≡ true)) → was ≡ false → (now ≡ false → P) → OnOk r P
noted_works (Ok x) r was now P noted works f = subst (λ (q : Result (Unit {0}) Refusal). OnOk q P) (sym noted.0) (f (noted.1 ∙ works))
noted_works (Err e) r was now P noted works f = subst (λ (q : Result (Unit {0}) Refusal). OnOk q P) (sym noted.0) tt

pub on_ok_map : {T E : Type 0} (answer : Result T E) (P Q R S : Type 0) → (P → Q → R → S) → OnOk answer P → OnOk answer Q → OnOk answer R → OnOk answer S
on_ok_map (Ok x) P Q R S f p q r = f p q r
on_ok_map (Err e) P Q R S f p q r = tt

pub on_any : {T E : Type 0} (answer : Result T E) (P : Type 0) → P → OnOk answer P
on_any (Ok x) P p = p
on_any (Err e) P p = tt
