-- What `put` writes to an output.
use Rattle.std.proofs.Common.{◌≡◌, ◌<◌, inl, inr, ⊎_elim, ℕ, zero, suc, List, ◌++◌, Option, Result, Ok, Err, refl, take, length, arith, sym, ◌∙◌, ap, subst}
use Rattle.std.specs.Io.KnownBytes.{Appends}
use Rattle.std.proofs.KnownBytes.{Appends-kept, Appends-trans}
use Rattle.std.proofs.lemmas.List.{take_all}
use Rattle.catalogue.specs.Reading.{HasRisen}
use Rattle.serving.proofs.WriteLemmas.{Appends-first, Appends-second}
use Rattle.serving.specs.Outputs.{Begins, Breaks, Fails, Flushes, HasFailed, HasLeft, Leaves, Puts, Stream}
use Rattle.serving.specs.Writing.{WritesAll}

-- What was written whole was begun.
whole_begun : (a b : Option (List ℕ)) (text : List ℕ) → Appends a b text → Begins a b text
whole_begun a b text appends =
    let all : take (length text) text ≡ text = take_all (length text) text (omega arith) in
    (length text, subst (Appends a b) (sym all) appends)

-- A count that rises twice has risen.
risen_twice : (a b c : ℕ) → HasRisen a b → HasRisen b c → HasRisen a c
risen_twice a b c first second = omega (arith, first, second)

pub risen_some : (a b : ℕ) → HasRisen a b → 0 < b
risen_some a b risen = omega (arith, risen)

-- A prefix of the bytes was written, and then a call failed.
pub breaks_off : (a b c : Stream) (bytes : List ℕ) → Begins a.contents b.contents bytes → b.failures ≡ a.failures → Fails b c → Breaks a c bytes
breaks_off a b c bytes (n, begun) none (kept, risen) =
    ((n, Appends-kept a.contents b.contents c.contents (take n bytes) begun kept), subst (λ (k : ℕ). HasRisen k c.failures) none risen)

-- The first part was begun, so the whole text was.
pub breaks_first : (a b : Stream) (x y text : List ℕ) → x ++ y ≡ text → Breaks a b x → Breaks a b text
breaks_first a b x y text parts ((n, begun), risen) = (subst (Begins a.contents b.contents) parts (Appends-first a.contents b.contents x y n begun), risen)

-- The first part was written, and then the second.
pub in_turn : {E : Type 0} (r : Result (Unit {0}) E) (a b c : Stream) (x y text : List ℕ) → x ++ y ≡ text → Appends a.contents b.contents x → b.failures ≡ a.failures
    → WritesAll b c r y → WritesAll a c r text
in_turn (Ok u) a b c x y text parts first none (second, none_more) =
    (subst (Appends a.contents c.contents) parts (Appends-trans a.contents b.contents c.contents x y first second), none_more ∙ none)
in_turn (Err e) a b c x y text parts first none ((n, begun), risen) = (
  subst (Begins a.contents c.contents) parts (Appends-second a.contents b.contents c.contents x y n first begun),
  subst (λ (k : ℕ). HasRisen k c.failures) none risen,
)

-- A write of a text was tried, and then a flush.
pub puts : {E F : Type 0} (r : Result (Unit {0}) E) (f : Result (Unit {0}) F) (a b c : Stream) (text : List ℕ) → WritesAll a b r text → Flushes b c f → Puts a c text
puts (Ok u) (Ok v) a b c text (whole, none) (kept, none_more, flushed) =
    inl (record { whole = Appends-kept a.contents b.contents c.contents text whole kept; none = none_more ∙ none; flushed = flushed })
puts (Ok u) (Err f) a b c text (whole, none) fails = inr (breaks_off a b c text (whole_begun a.contents b.contents text whole) none fails)
puts (Err e) (Ok v) a b c text ((n, begun), risen) (kept, none, flushed) =
    inr ((n, Appends-kept a.contents b.contents c.contents (take n text) begun kept), subst (HasRisen a.failures) (sym none) risen)
puts (Err e) (Err f) a b c text ((n, begun), risen) (kept, more) =
    inr ((n, Appends-kept a.contents b.contents c.contents (take n text) begun kept), risen_twice a.failures b.failures c.failures risen more)

-- A text that was put was begun.
pub begun : (a b : Stream) (text : List ℕ) → Puts a b text → Begins a.contents b.contents text
begun a b text tried = ⊎_elim (λ left. whole_begun a.contents b.contents text left.whole) (λ part. part.0) tried

-- A text that was put has left the output's buffers, if no call has failed.
pub put_whole : (a b : Stream) (text : List ℕ) → Puts a b text → (HasFailed b → ⊥) → Leaves a b text
put_whole a b text (inl left) none = left
put_whole a b text (inr (part, risen)) none = absurd (none (risen_some a.failures b.failures risen))

-- If no call has failed, the count of failures is 0.
pub none_failed : (a : Stream) → (HasFailed a → ⊥) → a.failures ≡ 0
none_failed a none = by a.failures none
  where
    by : (n : ℕ) → (0 < n → ⊥) → n ≡ 0
    by zero none = refl
    by (suc n) none = absurd (none (omega arith))

-- If two runs of calls have each flushed their bytes, so has the whole run.
pub still_left : (a b c : Stream) → HasLeft a b → HasLeft b c → HasLeft a c
still_left a b c before (inr flushed) = inr flushed
still_left a b c (inl same) (inl none) = inl (none ∙ same)
still_left a b c (inr flushed) (inl none) = inr (ap (λ (s : Stream). s.is_flushed) none ∙ flushed)
