-- The record of an honest run is honest.
use Rattle.std.proofs.Common.{◌≡◌, ◌≢◌, ℕ, suc, ◌≤◌, if◌then◌else◌, List, [], ◌∷◌, length, Bool, true, false, refl, sym, ◌∙◌, ap, subst, arith}
use Rattle.std.proofs.lemmas.Bool.Decides.{nat_tests}
use Rattle.disk.specs.Disk.{Image}
use Rattle.disk.specs.Memory.{State, put}
use Rattle.disk.specs.FileCalls.{Answered, read, written, synced, forgotten, aside, after_answer, IsRight, state_after, IsHonest}
use Rattle.disk.specs.FileLaws.{Step, reads, read_fails, writes, write_fails, syncs, sync_fails, next, answer, state_of_run, answers, shown, IsRecordOf, FalseReadsShow, LostWritesShow}

put_same : (s : ℕ) (bytes : List ℕ) (image : Image) → put s bytes image s ≡ bytes
put_same s bytes image = grind (arith, nat_tests)

put_other : (s : ℕ) (bytes : List ℕ) (image : Image) (k : ℕ) → k ≢ s → image k ≡ put s bytes image k
put_other s bytes image k other = grind (arith, nat_tests)

where_settled : (b : Bool) (x y : List ℕ) → b ≡ false → y ≡ (if b then x else y)
where_settled true x y shut = absurd (cc shut)
where_settled false x y shut = refl

right : (st : State) (step : Step) → IsRight (answer st step) st (next st step).seen
right st (reads s) = (λ ok. refl, refl)
right st (read_fails s bytes) = (λ ok. absurd (cc ok), refl)
right st (writes s bytes) = (λ ok. put_same s bytes st.seen, put_other s bytes st.seen)
right st (write_fails s bytes left) = (λ ok. absurd (cc ok), put_other s left st.seen)
right st syncs = (λ ok. refl, λ k shut. refl)
right st (sync_fails left) = (λ ok. absurd (cc ok), λ k shut. where_settled (st.unsettled k) (left k) (st.seen k) shut)

reached : (st : State) (step : Step) → after_answer (answer st step) (next st step).seen st ≡ next st step
reached st (reads s) = refl
reached st (read_fails s bytes) = refl
reached st (writes s bytes) = refl
reached st (write_fails s bytes left) = refl
reached st syncs = refl
reached st (sync_fails left) = refl

as_many : (first : Image) (steps : List Step) → length (answers first steps) ≡ length steps
as_many first [] = refl
as_many first (step ∷ earlier) = ap suc (as_many first earlier)

until : (first : Image) (step : Step) (earlier : List Step) (n : ℕ) → n ≤ length earlier → shown first (step ∷ earlier) n ≡ shown first earlier n
until first step earlier n le = grind (arith, nat_tests)

last : (first : Image) (steps : List Step) → shown first steps (length steps) ≡ (state_of_run first steps).seen
last first [] = refl
last first (step ∷ earlier) = grind (arith, nat_tests)

-- Two families of images that agree on the calls so far give the same states.
module _ (one other : ℕ → Image) where
  same_state : (calls : List Answered) → ((n : ℕ) → n ≤ length calls → one n ≡ other n) → state_after one calls ≡ state_after other calls
  same_state [] same = ap (λ (i : Image). record { seen = i; settled = i; unsettled = λ k. false }) (same 0 (omega arith))
  same_state (call ∷ earlier) same =
      ap (λ (i : Image). after_answer call i (state_after one earlier)) (same (length (call ∷ earlier)) (omega arith))
      ∙ ap (after_answer call (other (length (call ∷ earlier)))) (same_state earlier (λ n le. same n (omega (arith, le))))

  same_honest : (calls : List Answered) → ((n : ℕ) → n ≤ length calls → one n ≡ other n) → IsHonest one calls → IsHonest other calls
  same_honest [] same honest = tt
  same_honest (call ∷ earlier) same honest = (
    subst (λ (u : State). IsRight call u (other (length (call ∷ earlier)))) (same_state earlier (λ n le. same n (omega (arith, le))))
        (subst (IsRight call (state_after one earlier)) (same (length (call ∷ earlier)) (omega arith)) honest.0),
    same_honest earlier (λ n le. same n (omega (arith, le))) honest.1,
  )

module _ (first : Image) (step : Step) (earlier : List Step) (was : IsRecordOf first earlier) where
  abbrev st : State
  st = state_of_run first earlier

  abbrev call : Answered
  call = answer st step

  abbrev past : List Answered
  past = answers first earlier

  abbrev now : ℕ → Image
  now = shown first (step ∷ earlier)

  kept : (n : ℕ) → n ≤ length past → shown first earlier n ≡ now n
  kept n le = sym (until first step earlier n (subst (λ (m : ℕ). n ≤ m) (as_many first earlier) le))

  before : state_after now past ≡ st
  before = sym (same_state (shown first earlier) now past kept) ∙ was.state

  after : now (length (call ∷ past)) ≡ (next st step).seen
  after = ap now (as_many first (step ∷ earlier)) ∙ last first (step ∷ earlier)

  here : IsRight call (state_after now past) (now (length (call ∷ past)))
  here = subst (λ (u : State). IsRight call u (now (length (call ∷ past)))) (sym before) (subst (IsRight call st) (sym after) (right st step))

  one_step : IsRecordOf first (step ∷ earlier)
  one_step = record {
    honest = (here, same_honest (shown first earlier) now past kept was.honest);
    state = ap (λ (i : Image). after_answer call i (state_after now past)) after ∙ ap (after_answer call (next st step).seen) before ∙ reached st step;
  }

pub record_of : (first : Image) (steps : List Step) → IsRecordOf first steps
record_of first [] = record { honest = tt; state = refl }
record_of first (step ∷ earlier) = one_step first step earlier (record_of first earlier)

pub false_read : FalseReadsShow
false_read images earlier s bytes differs honest = differs (honest.0.0 refl ∙ here earlier)
  where
    here : (calls : List Answered) → (state_after images calls).seen s ≡ images (length calls) s
    here [] = refl
    here (read k ok given ∷ more) = refl
    here (written k ok given ∷ more) = refl
    here (synced ok ∷ more) = refl
    here (forgotten ok ∷ more) = refl
    here (aside kind ∷ more) = refl
