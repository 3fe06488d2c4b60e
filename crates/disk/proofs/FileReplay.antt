-- What each call on a file changes, for one call and for a list of calls.
use Rattle.std.proofs.Common.{◌≡◌, ◌⊎◌, inl, inr, ⊎_elim, ℕ, if◌then◌else◌, ◌==◌, List, [], ◌∷◌, length, Bool, true, false, Result, Ok, Err, OnOk, is_ok, refl, sym, ◌∙◌, ap, subst, arith}
use Rattle.std.proofs.lemmas.Bool.{cases_eq}
use Rattle.std.proofs.lemmas.Bool.Decides.{nat_tests}
use Rattle.disk.specs.Disk.{Image, SameBut, TornAt, NoneNew, Only, Elapses, Nothing}
use Rattle.disk.specs.Memory.{State, MayLeave}
use Rattle.disk.specs.FileCalls.{Answered, read, written, synced, forgotten, aside, Aside, noted, cleared, after_answer, state_after, IsHonest, LeftSince}
use Rattle.disk.specs.FileMembers.{seen_left, now_left}
use Rattle.disk.specs.FileSteps.{unsynced_of, noting, writing, WritesAgain, Mends, Syncs}
use Rattle.disk.specs.Unsynced.{with_written}
use Rattle.disk.specs.declared.unsynced.Unsynced.{Unsynced}
use Rattle.disk.specs.declared.unsynced.Unsynced.TheVariants.{Clean, Lone, Many}

torn : (s : ℕ) (ok : Bool) (bytes : List ℕ) (image : Image) (st : State) (c : Image) → MayLeave (after_answer (written s ok bytes) image st) c → TornAt s (MayLeave st) c
torn s ok bytes image st c left = (d, before, others)
  where
    d : Image
    d k = if k == s then st.settled k else c k

    before : MayLeave st d
    before k shut = elim (cases_eq k s) [
      | inl same ↦ grind (arith, nat_tests)
      | inr other ↦ let was = left k in grind (arith, nat_tests)
    ]

    others : SameBut s d c
    others k other = grind (arith, nat_tests)

-- Writing a sector that is already unsettled adds no image that a stop may leave.
still : (s : ℕ) (st : State) (c : Image) → st.unsettled s ≡ true → ((k : ℕ) → (if k == s then true else st.unsettled k) ≡ false → c k ≡ st.settled k) → MayLeave st c
still s st c loose left k shut = elim (cases_eq k s) [
  | inl same ↦ absurd (cc (sym shut ∙ ap st.unsettled same ∙ loose))
  | inr other ↦ left k (grind (arith, nat_tests))
]

-- A value `Lone s` comes from the branch `Lone only`, so `s` is the sector `only`.
lone_is : (b : Bool) (only s : ℕ) → (if b then Lone only else Many) ≡ Lone s → (b ≡ true) × (only ≡ s)
lone_is true only s same = (refl, cc)
lone_is false only s same = absurd (cc same)

written_alone : (u : Unsynced) (k s : ℕ) → with_written u k ≡ Lone s → s ≡ k
written_alone Clean k s same = cc
written_alone (Lone only) k s same = let is = lone_is (only == k) only s same in grind (arith, nat_tests, is.0, is.1)
written_alone Many k s same = absurd (cc same)

module _ (images : ℕ → Image) where
  pub lone_unsettled : (calls : List Answered) (s : ℕ) → unsynced_of calls ≡ Lone s → (state_after images calls).unsettled s ≡ true
  lone_unsettled [] s same = absurd (cc same)
  lone_unsettled (read k ok bytes ∷ earlier) s same = lone_unsettled earlier s same
  lone_unsettled (written k ok bytes ∷ earlier) s same = let is : s ≡ k = written_alone (unsynced_of earlier) k s same in grind (arith, nat_tests)
  lone_unsettled (synced true ∷ earlier) s same = absurd (cc same)
  lone_unsettled (synced false ∷ earlier) s same = lone_unsettled earlier s same
  lone_unsettled (forgotten ok ∷ earlier) s same = lone_unsettled earlier s same
  lone_unsettled (aside call ∷ earlier) s same = lone_unsettled earlier s same

  -- The new record extends the old one, and no new image is among those that a stop may leave or might have left.
  pub record AddsNone (old new : List Answered) : Type 0 where
    pub honest : IsHonest images new → IsHonest images old
    pub may : IsHonest images new → NoneNew (MayLeave (state_after images old)) (MayLeave (state_after images new))
    pub time : IsHonest images new → Elapses (length old) (length new) (LeftSince images old) (LeftSince images new) Nothing

  pub one_more : (call : Answered) (earlier : List Answered) (added : Image → Type 0)
      → ((c : Image) → MayLeave (state_after images (call ∷ earlier)) c → added c ⊎ MayLeave (state_after images earlier) c)
      → Elapses (length earlier) (length (call ∷ earlier)) (LeftSince images earlier) (LeftSince images (call ∷ earlier)) added
  one_more call earlier added step = record {
    later = omega arith;
    nothing_else = λ t c le left. ⊎_elim (λ now. ⊎_elim (λ new. inr new) (λ old. inl (now_left images earlier t c le old)) (step c now.1)) (λ past. inl past) left;
    keeps = λ t c le past. inr past;
  }

  none_more : (call : Answered) (earlier : List Answered) → (IsHonest images (call ∷ earlier) → NoneNew (MayLeave (state_after images earlier)) (MayLeave (state_after images (call ∷ earlier)))) → AddsNone earlier (call ∷ earlier)
  none_more call earlier keeps = record {
    honest = λ honest. honest.1;
    may = keeps;
    time = λ honest. one_more call earlier Nothing (λ c left. inr (keeps honest c left));
  }

  then_elapses : (old mid new : List Answered) (added : Image → Type 0) → Elapses (length old) (length mid) (LeftSince images old) (LeftSince images mid) Nothing
      → Elapses (length mid) (length new) (LeftSince images mid) (LeftSince images new) added → Elapses (length old) (length new) (LeftSince images old) (LeftSince images new) added
  then_elapses old mid new added first second = record {
    later = omega (arith, first.later, second.later);
    nothing_else = λ t c le left. ⊎_elim (λ past. ⊎_elim (λ was. inl was) (λ none. absurd none) (first.nothing_else t c le past)) (λ new. inr new)
        (second.nothing_else t c (omega (arith, le, first.later)) left);
    keeps = λ t c le past. second.keeps t c (omega (arith, le, first.later)) (first.keeps t c le past);
  }

  pub in_turn : (old mid new : List Answered) → AddsNone old mid → AddsNone mid new → AddsNone old new
  in_turn old mid new first second = record {
    honest = λ honest. first.honest (second.honest honest);
    may = λ honest c left. first.may (second.honest honest) c (second.may honest c left);
    time = λ honest. then_elapses old mid new Nothing (first.time (second.honest honest)) (second.time honest);
  }

  pub no_call : (calls : List Answered) → AddsNone calls calls
  no_call calls = record {
    honest = λ honest. honest;
    may = λ honest c left. left;
    time = λ honest. record { later = omega arith; nothing_else = λ t c le left. inl left; keeps = λ t c le past. past };
  }

  pub reads : (s : ℕ) (ok : Bool) (bytes : List ℕ) (earlier : List Answered) → AddsNone earlier (read s ok bytes ∷ earlier)
  reads s ok bytes earlier = none_more (read s ok bytes) earlier (λ honest c left. left)

  rewrites : (s : ℕ) (ok : Bool) (bytes : List ℕ) (earlier : List Answered) → (state_after images earlier).unsettled s ≡ true → AddsNone earlier (written s ok bytes ∷ earlier)
  rewrites s ok bytes earlier loose = none_more (written s ok bytes) earlier (λ honest c left. still s (state_after images earlier) c loose left)

  synced_left : (ok : Bool) (earlier : List Answered) → IsHonest images earlier → (c : Image) → MayLeave (state_after images (synced ok ∷ earlier)) c → MayLeave (state_after images earlier) c
  synced_left true earlier honest c left = λ k shut. left k refl ∙ seen_left images earlier honest k shut
  synced_left false earlier honest c left = left

  syncs : (ok : Bool) (earlier : List Answered) → AddsNone earlier (synced ok ∷ earlier)
  syncs ok earlier = none_more (synced ok) earlier (λ honest. synced_left ok earlier honest.1)

  forgets : (ok : Bool) (earlier : List Answered) → AddsNone earlier (forgotten ok ∷ earlier)
  forgets ok earlier = none_more (forgotten ok) earlier (λ honest c left. left)

  asides : (call : Aside) (earlier : List Answered) → AddsNone earlier (aside call ∷ earlier)
  asides call earlier = none_more (aside call) earlier (λ honest c left. left)

  clears_and_syncs : (ok : Bool) (old : List Answered) → AddsNone old (synced ok ∷ aside (cleared ok) ∷ old)
  clears_and_syncs ok old = in_turn old (aside (cleared ok) ∷ old) (synced ok ∷ aside (cleared ok) ∷ old) (asides (cleared ok) old) (syncs ok (aside (cleared ok) ∷ old))

  writes_again : (s : ℕ) (calls new : List Answered) (ok : Bool) → (state_after images calls).unsettled s ≡ true → WritesAgain s calls new ok → AddsNone calls new
  writes_again s calls new ok loose (bytes, inl (unread, same)) = subst (AddsNone calls) (sym same) (reads s false bytes calls)
  writes_again s calls new ok loose (bytes, inr same) =
      let came = read s true bytes ∷ calls in
      subst (AddsNone calls) (sym same) (in_turn calls came (written s ok bytes ∷ came) (reads s true bytes calls) (rewrites s ok bytes came loose))

  mends : (u : Unsynced) (calls new : List Answered) → ((s : ℕ) → u ≡ Lone s → (state_after images calls).unsettled s ≡ true) → Mends u calls new → AddsNone calls new
  mends Clean calls new loose same = subst (AddsNone calls) (sym same) (no_call calls)
  mends (Lone only) calls new loose (ok, again) = writes_again only calls new ok (loose only refl) again
  mends Many calls new loose same = subst (AddsNone calls) (sym same) (no_call calls)

  pub syncing : (ok : Bool) (old new : List Answered) → Syncs old new ok → AddsNone old new
  syncing true old new same = subst (AddsNone old) (sym same) (clears_and_syncs true old)
  syncing false old new (let_go, mended) =
      let failed = synced false ∷ aside (cleared false) ∷ old in
      in_turn old (forgotten let_go ∷ failed) new (in_turn old failed (forgotten let_go ∷ failed) (clears_and_syncs false old) (forgets let_go failed))
      (mends (unsynced_of old) (forgotten let_go ∷ failed) new (lone_unsettled old) mended)

  pub durable : {T E : Type 0} (result : Result T E) (old new : List Answered) → IsHonest images new → Syncs old new (is_ok result) → OnOk result (Only (state_after images old).seen (MayLeave (state_after images new)))
  durable (Ok done) old new honest same = λ c left.
      let all : MayLeave (state_after images (synced true ∷ aside (cleared true) ∷ old)) c = subst (λ (calls : List Answered). MayLeave (state_after images calls) c) same left in
      let seen : images (length (aside (cleared true) ∷ old)) ≡ (state_after images old).seen = (subst (IsHonest images) same honest).1.0 in
      (λ i k. (all k refl ∙ ap (λ (image : Image). image k) seen) i)
  durable (Err fault) old new honest failed = tt

  -- the calls of a write, with the call that may make a note of its sector
  noting_adds : (u : Unsynced) (s : ℕ) (old : List Answered) → AddsNone old (noting u s old)
  noting_adds Clean s old = asides (noted s) old
  noting_adds (Lone only) s old = no_call old
  noting_adds Many s old = no_call old

  noting_seen : (u : Unsynced) (s : ℕ) (old : List Answered) → IsHonest images (noting u s old) → (state_after images (noting u s old)).seen ≡ (state_after images old).seen
  noting_seen Clean s old honest = honest.0
  noting_seen (Lone only) s old honest = refl
  noting_seen Many s old honest = refl

  module _ (s : ℕ) (ok : Bool) (bytes : List ℕ) (old new : List Answered) (same : new ≡ writing s ok bytes old) where
    abbrev mid : List Answered
    mid = noting (unsynced_of old) s old

    noted_first : AddsNone old mid
    noted_first = noting_adds (unsynced_of old) s old

    now_honest : IsHonest images new → IsHonest images (writing s ok bytes old)
    now_honest honest = subst (IsHonest images) same honest

    pub writing_honest : IsHonest images new → IsHonest images old
    writing_honest honest = noted_first.honest (now_honest honest).1

    writing_bytes : IsHonest images new → ok ≡ true → (state_after images new).seen s ≡ bytes
    writing_bytes honest done = subst (λ (calls : List Answered). (state_after images calls).seen s ≡ bytes) (sym same) ((now_honest honest).0.0 done)

    pub writing_told : {T E : Type 0} (result : Result T E) → ok ≡ is_ok result → IsHonest images new → OnOk result ((state_after images new).seen s ≡ bytes)
    writing_told (Ok value) done honest = writing_bytes honest done
    writing_told (Err fault) failed honest = tt

    pub writing_others : IsHonest images new → SameBut s (state_after images old).seen (state_after images new).seen
    writing_others honest = subst (λ (calls : List Answered). SameBut s (state_after images old).seen (state_after images calls).seen) (sym same)
        (λ k other. ap (λ (i : Image). i k) (sym (noting_seen (unsynced_of old) s old (now_honest honest).1)) ∙ (now_honest honest).0.1 k other)

    torn_before : IsHonest images mid → (c : Image) → MayLeave (state_after images (writing s ok bytes old)) c → TornAt s (MayLeave (state_after images old)) c
    torn_before honest c left =
        let was = torn s ok bytes (images (length (writing s ok bytes old))) (state_after images mid) c left in
        (was.0, noted_first.may honest was.0 was.1, was.2)

    pub writing_may : IsHonest images new → NoneNew (TornAt s (MayLeave (state_after images old))) (MayLeave (state_after images new))
    writing_may honest c left = torn_before (now_honest honest).1 c (subst (λ (calls : List Answered). MayLeave (state_after images calls) c) same left)

    pub writing_time : IsHonest images new → Elapses (length old) (length new) (LeftSince images old) (LeftSince images new) (TornAt s (MayLeave (state_after images old)))
    writing_time honest =
        let added = TornAt s (MayLeave (state_after images old)) in
        let before = (now_honest honest).1 in
        subst (λ (calls : List Answered). Elapses (length old) (length calls) (LeftSince images old) (LeftSince images calls) added) (sym same)
        (then_elapses old mid (writing s ok bytes old) added (noted_first.time before) (one_more (written s ok bytes) mid added (λ c left. inl (torn_before before c left))))

-- the record of a call whose answer is known to be Ok or an error
pub told_as : (calls : Bool → List Answered) (new mid : List Answered) (ok was : Bool) → new ≡ mid → mid ≡ calls was → ok ≡ was → new ≡ calls ok
told_as calls new now ok was same added told = same ∙ added ∙ ap calls (sym told)

pub sync_told_as : (old new mid : List Answered) (ok was : Bool) → new ≡ mid → Syncs old mid was → ok ≡ was → Syncs old new ok
sync_told_as old new mid ok was same added told = subst (λ (calls : List Answered). Syncs old calls ok) (sym same) (subst (Syncs old mid) (sym told) added)
