-- What one more call at the end of the record changes.
use Rattle.std.proofs.Common.{◌≡◌, ◌⊎◌, inl, inr, ⊎_elim, ℕ, ◌<◌, ◌≤◌, List, [], ◌∷◌, ◌++◌, length, take, false, refl, sym, ◌∙◌, ap, subst, arith, length-append}
use Rattle.std.proofs.lemmas.Bool.{cases_eq, cases_lt}
use Rattle.std.proofs.lemmas.Bool.Decides.{nat_tests}
use Rattle.std.proofs.lemmas.List.{take_all, take-append-le}
use Rattle.disk.specs.Disk.{Image, SameBut, TornAt, NoneNew, Elapses, Nothing}
use Rattle.disk.specs.Memory.{State, put, happens, replay, at_first, left_by, MayLeave, LeftSince}
use Rattle.disk.specs.Record.{seen_left, now_left}
use Rattle.disk.specs.declared.torn.Torn.{Torn}
use Rattle.disk.specs.declared.memory.Call.{Call}
use Rattle.disk.specs.declared.memory.Call.TheVariants.{Wrote, Synced, StoppedAt, Stopped}

replay_on : (st : State) (calls : List Call) (call : Call) → replay st (calls ++ call ∷ []) ≡ happens (replay st calls) call
replay_on st [] call = refl
replay_on st (first ∷ calls) call = replay_on (happens st first) calls call

pub replay_last : (calls later : List Call) (call : Call) → later ≡ calls ++ call ∷ [] → replay at_first later ≡ happens (replay at_first calls) call
replay_last calls later call same = ap (λ (l : List Call). replay at_first l) same ∙ replay_on at_first calls call

wrote_may : (st : State) (s : ℕ) (bytes : List ℕ) (c : Image) → MayLeave (happens st (Wrote s bytes)) c → TornAt s (MayLeave st) c
wrote_may st s bytes c left = (put s (st.settled s) c, before, others)
  where
    before : MayLeave st (put s (st.settled s) c)
    before k shut = elim (cases_eq k s) [
      | inl same ↦ subst (λ (j : ℕ). put s (st.settled s) c j ≡ st.settled j) (sym same) (here s)
      | inr other ↦ let was = left k in grind (arith, nat_tests)
    ]
      where
        here : (j : ℕ) → put j (st.settled j) c j ≡ st.settled j
        here j = grind (arith, nat_tests)

    others : SameBut s (put s (st.settled s) c) c
    others k other = grind (arith, nat_tests)

-- An image that a sync or a stop leaves is one that an earlier stop might have left.
stopped_at_may : (st : State) (s : ℕ) (torn : Torn) (c : Image) → MayLeave st st.seen → MayLeave (happens st (StoppedAt s torn)) c → MayLeave st c
stopped_at_may st s torn c seen left k shut = elim (cases_eq k s) [
  | inl same ↦ subst (λ (j : ℕ). c j ≡ st.settled j) (sym same) (here (ap st.unsettled (sym same) ∙ shut))
  | inr other ↦ let was = left k in grind (arith, nat_tests)
]
  where
    here : st.unsettled s ≡ false → c s ≡ st.settled s
    here closed = let was = left s in let now = seen s closed in grind (arith, nat_tests)

stopped_may : (st : State) (torn : Torn) (c : Image) → MayLeave st st.seen → MayLeave (happens st (Stopped torn)) c → MayLeave st c
stopped_may st torn c seen left k shut = let was = left k refl in let now = seen k shut in grind (arith, nat_tests)

module _ (calls later : List Call) where
  abbrev st : State
  st = replay at_first calls

  pub unmoved_elapses : (added : Image → Type 0) → later ≡ calls → Elapses (length calls) (length later) (LeftSince calls) (LeftSince later) added
  unmoved_elapses added same = subst (λ (l : List Call). Elapses (length calls) (length l) (LeftSince calls) (LeftSince l) added) (sym same) (record {
    later = omega arith;
    nothing_else = λ t c le left. inl left;
    keeps = λ t c le left. left;
  })

  pub unmoved_torn : (s : ℕ) → later ≡ calls → NoneNew (TornAt s (MayLeave st)) (MayLeave (replay at_first later))
  unmoved_torn s same c left = (c, subst (λ (l : List Call). MayLeave (replay at_first l) c) same left, λ k other. refl)

module _ (calls : List Call) (call : Call) where
  front : (k : ℕ) → k ≤ length calls → take k (calls ++ call ∷ []) ≡ take k calls
  front k le = take-append-le k calls (call ∷ []) le

  elapses_push : (added : Image → Type 0) → ((c : Image) → MayLeave (replay at_first (calls ++ call ∷ [])) c → added c ⊎ MayLeave (replay at_first calls) c)
      → Elapses (length calls) (length (calls ++ call ∷ [])) (LeftSince calls) (LeftSince (calls ++ call ∷ [])) added
  elapses_push added step = record {
    later = omega (arith, length-append calls (call ∷ []));
    nothing_else = was;
    keeps = λ t c le left. (left.0, left.1, omega (arith, left.2, length-append calls (call ∷ [])), subst (λ (l : List Call). MayLeave (replay at_first l) c) (sym (front left.0 left.2)) left.3);
  }
    where
      last : (t k : ℕ) (c : Image) → t ≤ length calls → length calls < k → MayLeave (replay at_first (take k (calls ++ call ∷ []))) c → LeftSince calls t c ⊎ added c
      last t k c le past left =
          let all = subst (λ (l : List Call). MayLeave (replay at_first l) c) (take_all k (calls ++ call ∷ []) (omega (arith, length-append calls (call ∷ [])))) left in
          ⊎_elim (λ new. inr new) (λ old. inl (now_left calls t c le old)) (step c all)

      was : (t : ℕ) (c : Image) → t ≤ length calls → LeftSince (calls ++ call ∷ []) t c → LeftSince calls t c ⊎ added c
      was t c le left = ⊎_elim
          (λ (past : length calls < left.0). last t left.0 c le past left.3)
          (λ (inside : left.0 ≤ length calls). inl (left.0, left.1, inside, subst (λ (l : List Call). MayLeave (replay at_first l) c) (front left.0 inside) left.3))
          (cases_lt (length calls) left.0)

-- the contract's clauses for a call that appends to the record
module _ (calls later : List Call) where
  abbrev before : State
  before = replay at_first calls

  after : (call : Call) → later ≡ calls ++ call ∷ [] → (c : Image) → MayLeave (replay at_first later) c → MayLeave (happens before call) c
  after call same c left = subst (λ (u : State). MayLeave u c) (replay_last calls later call same) left

  elapsed : (call : Call) (added : Image → Type 0) → later ≡ calls ++ call ∷ [] → ((c : Image) → MayLeave (replay at_first later) c → added c ⊎ MayLeave before c)
      → Elapses (length calls) (length later) (LeftSince calls) (LeftSince later) added
  elapsed call added same step = subst (λ (l : List Call). Elapses (length calls) (length l) (LeftSince calls) (LeftSince l) added) (sym same)
      (elapses_push calls call added (λ c left. step c (subst (λ (l : List Call). MayLeave (replay at_first l) c) (sym same) left)))

  pub wrote_torn : (s : ℕ) (bytes : List ℕ) → later ≡ calls ++ Wrote s bytes ∷ [] → NoneNew (TornAt s (MayLeave before)) (MayLeave (replay at_first later))
  wrote_torn s bytes same c left = wrote_may before s bytes c (after (Wrote s bytes) same c left)

  pub wrote_elapses : (s : ℕ) (bytes : List ℕ) → later ≡ calls ++ Wrote s bytes ∷ [] → Elapses (length calls) (length later) (LeftSince calls) (LeftSince later) (TornAt s (MayLeave before))
  wrote_elapses s bytes same = elapsed (Wrote s bytes) (TornAt s (MayLeave before)) same (λ c left. inl (wrote_torn s bytes same c left))

  pub wrote_here : (s : ℕ) (bytes : List ℕ) → later ≡ calls ++ Wrote s bytes ∷ [] → (replay at_first later).seen s ≡ bytes
  wrote_here s bytes same = subst (λ (u : State). u.seen s ≡ bytes) (sym (replay_last calls later (Wrote s bytes) same)) (grind (arith, nat_tests))

  pub wrote_others : (s : ℕ) (bytes : List ℕ) → later ≡ calls ++ Wrote s bytes ∷ [] → SameBut s before.seen (replay at_first later).seen
  wrote_others s bytes same = subst (λ (u : State). SameBut s before.seen u.seen) (sym (replay_last calls later (Wrote s bytes) same)) (λ k other. grind (arith, nat_tests))

  pub synced_only : later ≡ calls ++ Synced ∷ [] → (c : Image) → MayLeave (replay at_first later) c → c ≡ before.seen
  synced_only same c left = λ i k. after Synced same c left k refl i

  pub synced_none : later ≡ calls ++ Synced ∷ [] → NoneNew (MayLeave before) (MayLeave (replay at_first later))
  synced_none same c left = subst (MayLeave before) (sym (synced_only same c left)) (seen_left calls)

  pub synced_elapses : later ≡ calls ++ Synced ∷ [] → Elapses (length calls) (length later) (LeftSince calls) (LeftSince later) Nothing
  synced_elapses same = elapsed Synced Nothing same (λ c left. inr (synced_none same c left))

  pub stopped_at_none : (s : ℕ) (torn : Torn) → later ≡ calls ++ StoppedAt s torn ∷ [] → NoneNew (MayLeave before) (MayLeave (replay at_first later))
  stopped_at_none s torn same c left = stopped_at_may before s torn c (seen_left calls) (after (StoppedAt s torn) same c left)

  pub stopped_at_elapses : (s : ℕ) (torn : Torn) → later ≡ calls ++ StoppedAt s torn ∷ [] → Elapses (length calls) (length later) (LeftSince calls) (LeftSince later) Nothing
  stopped_at_elapses s torn same = elapsed (StoppedAt s torn) Nothing same (λ c left. inr (stopped_at_none s torn same c left))

  pub stopped_at_here : (s : ℕ) (torn : Torn) → later ≡ calls ++ StoppedAt s torn ∷ [] → (replay at_first later).seen s ≡ left_by torn before s
  stopped_at_here s torn same = subst (λ (u : State). u.seen s ≡ left_by torn before s) (sym (replay_last calls later (StoppedAt s torn) same)) (grind (arith, nat_tests))

  pub stopped_at_others : (s : ℕ) (torn : Torn) → later ≡ calls ++ StoppedAt s torn ∷ [] → SameBut s before.seen (replay at_first later).seen
  stopped_at_others s torn same = subst (λ (u : State). SameBut s before.seen u.seen) (sym (replay_last calls later (StoppedAt s torn) same)) (λ k other. grind (arith, nat_tests))

  pub stopped_none : (torn : Torn) → later ≡ calls ++ Stopped torn ∷ [] → NoneNew (MayLeave before) (MayLeave (replay at_first later))
  stopped_none torn same c left = stopped_may before torn c (seen_left calls) (after (Stopped torn) same c left)

  pub stopped_elapses : (torn : Torn) → later ≡ calls ++ Stopped torn ∷ [] → Elapses (length calls) (length later) (LeftSince calls) (LeftSince later) Nothing
  stopped_elapses torn same = elapsed (Stopped torn) Nothing same (λ c left. inr (stopped_none torn same c left))

  pub stopped_only : (torn : Torn) → later ≡ calls ++ Stopped torn ∷ [] → (c : Image) → MayLeave (replay at_first later) c → c ≡ (replay at_first later).seen
  stopped_only torn same c left = (λ i k. after (Stopped torn) same c left k refl i) ∙ ap (λ (u : State). u.seen) (sym (replay_last calls later (Stopped torn) same))

  pub stopped_at_shut : (s : ℕ) (torn : Torn) → later ≡ calls ++ StoppedAt s torn ∷ [] → (replay at_first later).unsettled s ≡ false
  stopped_at_shut s torn same = subst (λ (u : State). u.unsettled s ≡ false) (sym (replay_last calls later (StoppedAt s torn) same)) (grind (arith, nat_tests))

  pub stopped_stays : (torn : Torn) → later ≡ calls ++ Stopped torn ∷ [] → (k : ℕ) → before.unsettled k ≡ false → (replay at_first later).seen k ≡ before.seen k
  stopped_stays torn same k shut = subst (λ (u : State). u.seen k ≡ before.seen k) (sym (replay_last calls later (Stopped torn) same)) (grind (arith, nat_tests))
