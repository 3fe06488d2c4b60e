-- The laws of the trait `Disk`, for the calls of a file.
use Rattle.std.specs.Prelude.{◌≡◌, ℕ, ◌≤◌, List, [], ◌∷◌, length, Bool, true, false, if◌then◌else◌, ◌==◌}
use Rattle.std.proofs.Common.{refl, sym, ◌∙◌, ap, inl, inr, ⊎_elim, arith}
use Rattle.std.proofs.lemmas.Bool.{cases_eq}
use Rattle.std.proofs.lemmas.Bool.Decides.{nat_tests}
use Rattle.disk.specs.Disk.{Image}
use Rattle.disk.specs.Memory.{State, MayLeave}
use Rattle.disk.specs.FileCalls.{Answered, read, written, synced, forgotten, aside, Aside, resized, length_synced, after_answer, IsRight, state_after, IsHonest, LeftSince}
use Rattle.disk.specs.FileSteps.{with_asides, HasLengthened}

still_left : (call : Answered) (st : State) (image : Image) → IsRight call st image → MayLeave st st.seen → MayLeave (after_answer call image st) image
still_left (read s ok bytes) st image right held k shut = ap (λ (i : Image). i k) right.1 ∙ held k shut
still_left (written s ok bytes) st image right held k shut = elim (cases_eq k s) [
  | inl same ↦ absurd (cc (sym shut ∙ opened same))
  | inr other ↦ sym (right.1 k other) ∙ held k (grind (arith, nat_tests))
]
  where
    opened : k ≡ s → (if k == s then true else st.unsettled k) ≡ true
    opened same = grind (arith, nat_tests)
still_left (synced true) st image right held k shut = ap (λ (i : Image). i k) (right.0 refl)
still_left (synced false) st image right held k shut = sym (right.1 k shut) ∙ held k shut
still_left (forgotten ok) st image right held k shut = sym (right k shut) ∙ held k shut
still_left (aside call) st image right held k shut = ap (λ (i : Image). i k) right ∙ held k shut

-- the trait's laws: `seen` is in `may`; `may` is in `since`; `since` at the present moment is `may`
module _ (images : ℕ → Image) where
  pub seen_left : (calls : List Answered) → IsHonest images calls → MayLeave (state_after images calls) (state_after images calls).seen
  seen_left [] honest = λ k shut. refl
  seen_left (read s ok bytes ∷ earlier) honest = still_left (read s ok bytes) (state_after images earlier) (images (length (read s ok bytes ∷ earlier))) honest.0 (seen_left earlier honest.1)
  seen_left (written s ok bytes ∷ earlier) honest = still_left (written s ok bytes) (state_after images earlier) (images (length (written s ok bytes ∷ earlier))) honest.0 (seen_left earlier honest.1)
  seen_left (synced ok ∷ earlier) honest = still_left (synced ok) (state_after images earlier) (images (length (synced ok ∷ earlier))) honest.0 (seen_left earlier honest.1)
  seen_left (forgotten ok ∷ earlier) honest = still_left (forgotten ok) (state_after images earlier) (images (length (forgotten ok ∷ earlier))) honest.0 (seen_left earlier honest.1)
  seen_left (aside call ∷ earlier) honest = still_left (aside call) (state_after images earlier) (images (length (aside call ∷ earlier))) honest.0 (seen_left earlier honest.1)

  pub now_left : (calls : List Answered) (t : ℕ) (c : Image) → t ≤ length calls → MayLeave (state_after images calls) c → LeftSince images calls t c
  now_left [] t c le now = (le, now)
  now_left (call ∷ earlier) t c le now = inl (le, now)

  is_past : (calls : List Answered) (t : ℕ) (c : Image) → LeftSince images calls t c → t ≤ length calls
  is_past [] t c left = left.0
  is_past (call ∷ earlier) t c left = ⊎_elim (λ now. now.0) (λ past. omega (arith, is_past earlier t c past)) left

  pub only_left : (calls : List Answered) (c : Image) → LeftSince images calls (length calls) c → MayLeave (state_after images calls) c
  only_left [] c left = left.1
  only_left (call ∷ earlier) c left = ⊎_elim (λ now. now.1) (λ past. absurd (omega (arith, is_past earlier (length (call ∷ earlier)) c past))) left

  -- Calls that change no sector add no image.
  module _ (old : List Answered) where
    pub asides_later : (calls : List Aside) → length old ≤ length (with_asides calls old)
    asides_later [] = omega arith
    asides_later (call ∷ earlier) = omega (arith, asides_later earlier)

    pub asides_honest : (calls : List Aside) → IsHonest images (with_asides calls old) → IsHonest images old
    asides_honest [] honest = honest
    asides_honest (call ∷ earlier) honest = asides_honest earlier honest.1

    pub asides_seen : (calls : List Aside) → IsHonest images (with_asides calls old) → (state_after images (with_asides calls old)).seen ≡ (state_after images old).seen
    asides_seen [] honest = refl
    asides_seen (call ∷ earlier) honest = honest.0 ∙ asides_seen earlier honest.1

    pub asides_may : (calls : List Aside) (c : Image) → MayLeave (state_after images (with_asides calls old)) c → MayLeave (state_after images old) c
    asides_may [] c left = left
    asides_may (call ∷ earlier) c left = asides_may earlier c left

    pub asides_since : (calls : List Aside) (t : ℕ) (c : Image) → t ≤ length old → LeftSince images (with_asides calls old) t c → LeftSince images old t c
    asides_since [] t c le left = left
    asides_since (call ∷ earlier) t c le left = ⊎_elim (λ now. now_left old t c le (asides_may earlier c now.1)) (λ past. asides_since earlier t c le past) left

-- Lengthening a file makes only calls that change no sector.
pub lengthened : (has wanted : ℕ) (ok : Bool) (old new : List Answered) → HasLengthened has wanted old new ok → (calls : List Aside) × (new ≡ with_asides calls old)
lengthened has wanted ok old new (inl (le, same)) = ([], same)
lengthened has wanted true old new (inr (lt, same)) = (length_synced true ∷ resized wanted true ∷ resized has true ∷ [], same)
lengthened has wanted false old new (inr (lt, which)) = elim which [
  | inl same ↦ (resized has false ∷ [], same)
  | inr later ↦ ⊎_elim (λ same. (resized wanted false ∷ resized has true ∷ [], same)) (λ same. (length_synced false ∷ resized wanted true ∷ resized has true ∷ [], same)) later
]
