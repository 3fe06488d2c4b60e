-- What the text of a reply says about the answer.
use Rattle.std.proofs.Common.{◌≡◌, ℕ, get_or, Bool, true, false, true≢false, List, refl, sym, ap, ◌∙◌, arith, inl, inr}
use Rattle.std.specs.Fmt.{digits}
use Rattle.std.specs.Prelude.{◌==◌, ◌&&◌, Some, None}
use Rattle.lattice.specs.declared.height.Height.TheVariants as height
use Rattle.lattice.specs.declared.refusal.Refusal.{Refusal}
use Rattle.lattice.specs.declared.refusal.Refusal.TheVariants.{Device}
use Rattle.engine.specs.declared.event.Reply.{Reply}
use Rattle.engine.specs.declared.event.Reply.TheVariants as reply
use Rattle.lines.specs.Replies.{done_text, refusal_text}
use Rattle.lines.specs.Telling.{Tells}
use Rattle.serving.specs.Promises.{IsOkText}

pub not_ok : (r : Refusal) (text : List ℕ) → text ≡ refusal_text r → IsOkText text → ⊥
not_ok r text is (rest, ok) = let first : ◌≡◌ {A = ℕ} 69 79 = ap (λ (l : List ℕ). get_or l 0 0) (sym is ∙ ok) in omega (arith, first)

-- `ERR 20`
abbrev is_fault : List ℕ → Bool
is_fault text = (get_or text 0 0 == 69) && ((get_or text 4 0 == 50) && (get_or text 5 0 == 48))

fault_is : (r : Refusal) → is_fault (refusal_text r) ≡ true → r ≡ Device
unfolding digits
fault_is Device e = refl
fault_is r e = absurd (true≢false (sym e))

fault_text : is_fault (refusal_text Device) ≡ true
unfolding digits
fault_text = refl

pub only_device : (r : Refusal) → refusal_text r ≡ refusal_text Device → r ≡ Device
only_device r e = fault_is r (ap is_fault e ∙ fault_text)

another : (text other : List ℕ) → text ≡ other → is_fault other ≡ false → text ≡ refusal_text Device → ⊥
another text other is differs e = true≢false (sym fault_text ∙ ap is_fault (sym e ∙ is) ∙ differs)

pub done_is_no_fault : (text : List ℕ) → text ≡ done_text → text ≡ refusal_text Device → ⊥
done_is_no_fault text is e = another text done_text is refl e

-- Only a fault of the disk has the text `ERR 20 Device`.
pub blames : (answer : Reply) (text : List ℕ) → Tells answer text → text ≡ refusal_text Device → answer ≡ reply.Refused Device
unfolding digits
blames answer text (inr (memory, is)) e = absurd (another text _ is refl e)
blames (reply.Refused r) text (inl is) e = ap (λ (q : Refusal). reply.Refused q) (only_device r (sym is ∙ e))
blames (reply.Elevation height.Outside) text (inl is) e = absurd (another text _ is refl e)
blames (reply.Elevation height.Void) text (inl is) e = absurd (another text _ is refl e)
blames (reply.Elevation (height.At metres)) text (inl is) e = absurd (another text _ is refl e)
blames (reply.Stepped (Some c)) text (inl is) e = absurd (another text _ is refl e)
blames (reply.Stepped None) text (inl is) e = absurd (another text _ is refl e)
blames answer text (inl is) e = absurd (another text _ is refl e)

-- A refusal is written with its number and word.
pub refusal_told : (r : Refusal) (text : List ℕ) → Tells (reply.Refused r) text → text ≡ refusal_text r
refusal_told r text (inl is) = is
refusal_told r text (inr (memory, is)) = absurd (true≢false (sym memory))
