-- A disk that meets its contract has an honest record.
use Rattle.std.proofs.Common.{◌≡◌, ◌≢◌, ℕ, if◌then◌else◌, ◌==◌, ◌⊎◌, inl, inr, ⊎_elim, ◌≤◌, List, [], ◌∷◌, length, Bool, true, false, refl, sym, ◌∙◌, ap, subst, arith}
use Rattle.std.proofs.lemmas.Bool.{cases_eq, cases_lt}
use Rattle.std.proofs.lemmas.Bool.Decides.{nat_tests}
use Rattle.disk.specs.Disk.{Image, NoneNew, TornAt, Only}
use Rattle.disk.specs.Memory.{State, MayLeave}
use Rattle.disk.specs.FileCalls.{Answered, read, written, synced, forgotten, aside, after_answer, IsRight, state_after, LeftSince}
use Rattle.disk.specs.FileLaws.{Tells, AreTold, IsTrueRecord}
use Rattle.disk.specs.declared.disk.Disk.{Ghosts}

opened : (k s : ℕ) (was : Bool) → k ≡ s → (if k == s then true else was) ≡ true
opened k s was same = grind (arith, nat_tests)

still : (k s : ℕ) (was : Bool) → k ≢ s → (if k == s then true else was) ≡ false → was ≡ false
still k s was other shut = grind (arith, nat_tests)

torn_left : (st : State) (s : ℕ) (ok : Bool) (bytes : List ℕ) (seen c : Image) → TornAt s (MayLeave st) c → MayLeave (after_answer (written s ok bytes) seen st) c
torn_left st s ok bytes seen c torn k shut = elim (cases_eq k s) [
  | inl same ↦ absurd (cc (sym shut ∙ opened k s (st.unsettled k) same))
  | inr other ↦ sym (torn.2 k other) ∙ torn.1 k (still k s (st.unsettled k) other shut)
]

shown_is : (images : ℕ → Image) (calls : List Answered) → (state_after images calls).seen ≡ images (length calls)
shown_is images [] = refl
shown_is images (read s ok bytes ∷ earlier) = refl
shown_is images (written s ok bytes ∷ earlier) = refl
shown_is images (synced ok ∷ earlier) = refl
shown_is images (forgotten ok ∷ earlier) = refl
shown_is images (aside call ∷ earlier) = refl

module _ {D : Type 0} (g : Ghosts D) (seen_may : (disk : D) → g.honest disk → g.may disk (g.seen disk))
    (only_now : (disk : D) (c : Image) → g.honest disk → g.since disk (g.moment disk) c → g.may disk c)
    (at : ℕ → D) (honest : (n : ℕ) → g.honest (at n)) where
  abbrev images : ℕ → Image
  images n = g.seen (at n)

  module _ (old new : D) (now : g.may new (g.seen new)) (st : State) (here : st.seen ≡ g.seen old) (held : NoneNew (MayLeave st) (g.may old)) (was : g.may old (g.seen old)) where
    is_right : (call : Answered) → Tells g call old new → IsRight call st (g.seen new)
    is_right (read s ok bytes) told = (λ yes. told.0 yes ∙ sym (ap (λ (i : Image). i s) here), told.1 ∙ sym here)
    is_right (written s ok bytes) told = (told.0, λ k other. ap (λ (i : Image). i k) here ∙ told.1 k other)
    is_right (synced true) told = let same = told.0 refl (g.seen new) now ∙ sym here in (λ yes. same, λ k shut. sym (ap (λ (i : Image). i k) same))
    is_right (synced false) told = (λ yes. absurd (cc yes), λ k shut. ap (λ (i : Image). i k) here ∙ held (g.seen old) was k shut ∙ sym (held (g.seen new) (told.1 (g.seen new) now) k shut))
    is_right (forgotten ok) told = absurd told
    is_right (aside call) told = absurd told

    holds : (call : Answered) → Tells g call old new → NoneNew (MayLeave (after_answer call (g.seen new) st)) (g.may new)
    holds (read s ok bytes) told c left k shut = held c (told.2 c left) k shut
    holds (written s ok bytes) told c left k shut = let torn = told.2 c left in torn_left st s ok bytes (g.seen new) c (torn.0, held torn.0 torn.1, torn.2) k shut
    holds (synced true) told c left k shut = ap (λ (i : Image). i k) (told.0 refl c left ∙ sym here)
    holds (synced false) told c left k shut = held c (told.1 c left) k shut
    holds (forgotten ok) told c left k shut = absurd told
    holds (aside call) told c left k shut = absurd told

    later : (call : Answered) → Tells g call old new → g.moment old ≤ g.moment new
    later (read s ok bytes) told = told.3.later
    later (written s ok bytes) told = told.3.later
    later (synced ok) told = told.2.later
    later (forgotten ok) told = absurd told
    later (aside call) told = absurd told

    -- what a stop might have left since an earlier moment
    gained : (call : Answered) → Tells g call old new → (t : ℕ) (c : Image) → t ≤ g.moment old → g.since new t c → g.since old t c ⊎ MayLeave (after_answer call (g.seen new) st) c
    gained (read s ok bytes) told t c le left = ⊎_elim (λ past. inl past) (λ none. absurd none) (told.3.nothing_else t c le left)
    gained (written s ok bytes) told t c le left =
        ⊎_elim (λ past. inl past) (λ torn. inr (torn_left st s ok bytes (g.seen new) c (torn.0, held torn.0 torn.1, torn.2))) (told.3.nothing_else t c le left)
    gained (synced ok) told t c le left = ⊎_elim (λ past. inl past) (λ none. absurd none) (told.2.nothing_else t c le left)
    gained (forgotten ok) told t c le left = absurd told
    gained (aside call) told t c le left = absurd told

  module _ (call : Answered) (earlier : List Answered) (tells : Tells g call (at (length earlier)) (at (length (call ∷ earlier)))) (was : IsTrueRecord g at earlier)
      (rises : (n : ℕ) → n ≤ length earlier → g.moment (at n) ≤ g.moment (at (length earlier))) where
    abbrev old : D
    old = at (length earlier)

    abbrev new : D
    new = at (length (call ∷ earlier))

    abbrev st : State
    st = state_after images earlier

    now_may : g.may new (g.seen new)
    now_may = seen_may new (honest (length (call ∷ earlier)))

    old_may : g.may old (g.seen old)
    old_may = seen_may old (honest (length earlier))

    left_now : NoneNew (MayLeave (state_after images (call ∷ earlier))) (g.may new)
    left_now = holds old new now_may st (shown_is images earlier) was.left old_may call tells

    since_then : (n : ℕ) (c : Image) → n ≤ length (call ∷ earlier) → g.since new (g.moment (at n)) c → LeftSince images (call ∷ earlier) n c
    since_then n c le left = elim (cases_lt (length earlier) n) [
      | inr past ↦ ⊎_elim (λ before. inr (was.left_since n c past before)) (λ added. inl (le, added))
          (gained old new now_may st (shown_is images earlier) was.left old_may call tells (g.moment (at n)) c (rises n past) left)
      | inl last ↦
          let same : n ≡ length (call ∷ earlier) = omega (arith, le, last) in
          let here : g.since new (g.moment new) c = subst (λ (m : ℕ). g.since new (g.moment (at m)) c) same left in
          inl (le, left_now c (only_now new c (honest (length (call ∷ earlier))) here))
    ]

    one_more : IsTrueRecord g at (call ∷ earlier)
    one_more = record {
      honest = (is_right old new now_may st (shown_is images earlier) was.left old_may call tells, was.honest);
      left = left_now;
      left_since = since_then;
    }

    rises_on : (n : ℕ) → n ≤ length (call ∷ earlier) → g.moment (at n) ≤ g.moment new
    rises_on n le = elim (cases_lt (length earlier) n) [
      | inr past ↦ omega (arith, rises n past, later old new now_may st (shown_is images earlier) was.left old_may call tells)
      | inl last ↦
          let same : n ≡ length (call ∷ earlier) = omega (arith, le, last) in
          subst (λ (m : ℕ). g.moment (at m) ≤ g.moment new) (sym same) (omega arith)
    ]

  settled_at_first : Only (g.seen (at 0)) (g.may (at 0)) → IsTrueRecord g at []
  settled_at_first only = record {
    honest = tt;
    left = λ c left k shut. ap (λ (i : Image). i k) (only c left);
    left_since = λ n c le left.
        let same : n ≡ 0 = omega (arith, le) in
        let here : g.since (at 0) (g.moment (at 0)) c = subst (λ (m : ℕ). g.since (at 0) (g.moment (at m)) c) same left in
        (le, λ k shut. ap (λ (i : Image). i k) (only c (only_now (at 0) c (honest 0) here)));
  }

  record_and_moments : (calls : List Answered) → AreTold g at calls → IsTrueRecord g at calls × ((n : ℕ) → n ≤ length calls → g.moment (at n) ≤ g.moment (at (length calls)))
  record_and_moments [] told = (settled_at_first told, λ n le. let same : n ≡ 0 = omega (arith, le) in subst (λ (m : ℕ). g.moment (at m) ≤ g.moment (at 0)) (sym same) (omega arith))
  record_and_moments (call ∷ earlier) told =
      let before = record_and_moments earlier told.1 in
      (one_more call earlier told.0 before.0 before.1, rises_on call earlier told.0 before.0 before.1)

  pub true_record : (calls : List Answered) → AreTold g at calls → IsTrueRecord g at calls
  true_record calls told = (record_and_moments calls told).0
