-- Bytes taken from the buffer, one part after another.
use Rattle.std.proofs.Common.{arith, ◌≡◌, ℕ, ◌<◌, ◌≤◌, ◌+◌, ◌-◌, get_or, List, [], ◌∷◌, ◌++◌, take, drop, length, Option, Some, None, sym, ap, ◌∙◌, subst, append_assoc}
use Rattle.std.specs.Io.KnownBytes.{Consumes, prepend_known}
use Rattle.std.proofs.KnownBytes.{Consumes-trans}
use Rattle.lines.specs.Ahead.{Lookahead, IsRest}
use Rattle.std.proofs.lemmas.List.{take-append-drop, take_more, take_all, drop_all, length-drop}

-- The first bytes of the buffer are taken.
Consumes-first : (a b : List ℕ) (r : Option (List ℕ)) (n : ℕ) → b ≡ drop n a → Consumes (prepend_known a r) (prepend_known b r) (take n a)
Consumes-first a b None n e = tt
Consumes-first a b (Some xs) n e =
    ap (λ l. l ++ xs) (sym (take-append-drop n a)) ∙ append_assoc (take n a) (drop n a) xs ∙ ap (λ l. take n a ++ (l ++ xs)) (sym e)

-- Bytes were taken before; then comes at most one read, and the first bytes of the buffer are taken.
pub Consumes-next : (a b m n : List ℕ) (r s t : Option (List ℕ)) (xs : List ℕ) (k : ℕ)
    → Consumes (prepend_known a r) (prepend_known b s) xs → Consumes (prepend_known b s) (prepend_known m t) [] → n ≡ drop k m
    → Consumes (prepend_known a r) (prepend_known n t) (xs ++ take k m)
Consumes-next a b m n r s t xs k p q e =
    Consumes-trans (prepend_known a r) (prepend_known b s) (prepend_known n t) xs (take k m) p
    (Consumes-trans (prepend_known b s) (prepend_known m t) (prepend_known n t) [] (take k m) q (Consumes-first m n t k e))

-- Bytes were taken before; then comes at most one read, and the whole buffer is taken.
pub Consumes-rest : (a b m n : List ℕ) (r s t : Option (List ℕ)) (xs : List ℕ)
    → Consumes (prepend_known a r) (prepend_known b s) xs → Consumes (prepend_known b s) (prepend_known m t) [] → n ≡ []
    → Consumes (prepend_known a r) (prepend_known n t) (xs ++ m)
Consumes-rest a b m n r s t xs p q e =
    subst (λ l. Consumes (prepend_known a r) (prepend_known n t) (xs ++ l)) (take_all (length m) m (omega arith))
    (Consumes-next a b m n r s t xs (length m) p q (e ∙ sym (drop_all (length m) m (omega arith))))

-- the bytes up to an LF, with the LF
take_with_feed : (a : List ℕ) (i : ℕ) → i < length a → get_or a i 0 ≡ 10 → take (i + 1) a ≡ take i a ++ 10 ∷ []
take_with_feed a i h e = take_more a i 0 h ∙ ap (λ b. take i a ++ b ∷ []) e

-- Bytes were taken before; then comes at most one read, and the buffer up to an LF is taken.
pub Consumes-feed : (a b m n : List ℕ) (r s t : Option (List ℕ)) (xs : List ℕ) (i : ℕ)
    → Consumes (prepend_known a r) (prepend_known b s) xs → Consumes (prepend_known b s) (prepend_known m t) [] → n ≡ drop (i + 1) m
    → i < length m → get_or m i 0 ≡ 10 → Consumes (prepend_known a r) (prepend_known n t) ((xs ++ take i m) ++ 10 ∷ [])
Consumes-feed a b m n r s t xs i p q e h feed =
    let same : xs ++ take (i + 1) m ≡ (xs ++ take i m) ++ 10 ∷ [] =
    ap (λ l. xs ++ l) (take_with_feed m i h feed) ∙ sym (append_assoc xs (take i m) (10 ∷ [])) in
    subst (Consumes (prepend_known a r) (prepend_known n t)) same (Consumes-next a b m n r s t xs (i + 1) p q e)

-- Taking some of the first bytes leaves the rest of the last read.
pub rest_of : (old new : Lookahead) (k : ℕ) → 0 < k → k ≤ length old.bytes → length old.bytes ≤ old.given → length old.bytes ≤ 65536 → new.bytes ≡ drop k old.bytes → new.given ≡ old.given → IsRest new
rest_of old new k some fits given chunk left same =
    let shorter : length new.bytes ≡ length old.bytes - k = ap (λ (l : List ℕ). length l) left ∙ length-drop k old.bytes in
    record { some_taken = omega (arith, some, fits, given, shorter, same); near = omega (arith, some, fits, chunk, shorter) }
