-- Bytes padded with zeros.
use Rattle.std.proofs.Common.{◌≡◌, ℕ, ◌+◌, ◌-◌, ◌≤◌, List, [], ◌++◌, length, take, drop, sym, ap, ◌∙◌, arith}
use Rattle.std.proofs.lemmas.List.{length-append, length-take, take-append-drop, drop-replicate}
use Rattle.std.proofs.Math.Seq.{drop-append-add}
use Rattle.std.proofs.lemmas.Slice.{take-put_mid, drop-put_mid}
use borrow.Rule.Slice.PartMut.{put_mid}
use Rattle.page_codec.specs.Numbers.{zeros, padded}
use Rattle.page_codec.proofs.Fields.{length-zeros}

pub padded_nothing : (n : ℕ) → padded n [] ≡ zeros n
unfolding zeros
padded_nothing n = let same : n - 0 ≡ n = omega arith in ap zeros same

drop-zeros : (k n : ℕ) → drop k (zeros n) ≡ zeros (n - k)
unfolding zeros
drop-zeros k n = drop-replicate k n 0

-- the rest after more bytes
pub drop_padded : (n k : ℕ) (front : List ℕ) → drop (length front + k) (padded n front) ≡ zeros (n - (length front + k))
drop_padded n k front =
    let less : n - length front - k ≡ n - (length front + k) = omega arith in
    drop-append-add front (zeros (n - length front)) k ∙ drop-zeros k (n - length front) ∙ ap zeros less

pub length-padded : (n : ℕ) (front : List ℕ) → length front ≤ n → length (padded n front) ≡ n
length-padded n front fits = omega (arith, length-append front (zeros (n - length front)), length-zeros (n - length front))

-- the front after a field is written after it
pub put_front : (e k : ℕ) (bytes field new : List ℕ) → e ≤ length bytes → new ≡ field → k ≡ length field → take (e + k) (put_mid e (e + k - e) bytes new) ≡ take e bytes ++ field
put_front e k bytes field new within is len =
    let same : e + k ≡ e + length new = omega (arith, ap length is) in
    take-put_mid e (e + k - e) bytes new (e + k) same within ∙ ap (λ (l : List ℕ). take e bytes ++ l) is

-- After the front the bytes are still zeros.
pub put_padded : (n e k : ℕ) (bytes field new : List ℕ) → e + k ≤ n → length bytes ≡ n → bytes ≡ padded n (take e bytes) → new ≡ field → k ≡ length field
    → put_mid e (e + k - e) bytes new ≡ padded n (take (e + k) (put_mid e (e + k - e) bytes new))
put_padded n e k bytes field new fits len before is field_len =
    let after = put_mid e (e + k - e) bytes new in
    let within : e ≤ length bytes = omega arith in
    let front_len : length (take e bytes) ≡ e = omega (arith, length-take e bytes) in
    let front : take (e + k) after ≡ take e bytes ++ field = put_front e k bytes field new within is field_len in
    let whole_len : length (take (e + k) after) ≡ e + k = ap length front ∙ omega (arith, length-append (take e bytes) field) in
    let enough : e + (e + k - e) ≤ e + k = omega arith in
    let as_long : length new ≡ e + k - e = omega (arith, ap length is) in
    let end : drop (e + k) after ≡ drop (e + k) bytes = drop-put_mid e (e + k - e) bytes new (e + k) enough within as_long in
    let behind : drop (e + k) bytes ≡ zeros (n - (e + k)) =
    ap (drop (e + k)) before ∙ ap (λ (j : ℕ). drop (j + k) (padded n (take e bytes))) (sym front_len) ∙ drop_padded n k (take e bytes) ∙ ap (λ (j : ℕ). zeros (n - (j + k))) front_len in
    sym (take-append-drop (e + k) after) ∙ ap (λ (l : List ℕ). take (e + k) after ++ l) (end ∙ behind ∙ ap (λ (j : ℕ). zeros (n - j)) (sym whole_len))
