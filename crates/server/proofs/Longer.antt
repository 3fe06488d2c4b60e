-- The disk of a file that was to be lengthened.
use Rattle.std.proofs.Common.{◌≡◌, inl, ℕ, ◌≤◌, max, List, length, Bool, Result, Ok, Err, OnOk, OnErr, refl, sym, subst, arith}
use Rattle.disk.specs.Disk.{Image, CountsFault}
use Rattle.disk.specs.FileCalls.{Answered, Aside, state_after, IsHonest, LeftSince}
use Rattle.disk.specs.FileDisk.{calls_of, sectors_of, failures_of, writes_of, IsHonestFor, seen_for}
use Rattle.disk.specs.FileMembers.{only_left, asides_later, asides_honest, asides_seen, asides_may, asides_since, lengthened}
use Rattle.disk.specs.FileSteps.{with_asides, HasLengthened}
use Rattle.disk.specs.FileWorlds.{giving}
use Rattle.disk.specs.Memory.{MayLeave}
use Rattle.disk.specs.Stops.{AddsNothing}
use Rattle.disk.specs.declared.disk.Fault.{Fault}
use Rattle.disk.specs.declared.file.FileDisk.{FileDisk}
use Rattle.server.specs.Places.{HasGrown, HasNotGrown}

module _ {V : Type 0} (images : ℕ → Image) (old new : FileDisk V) (has wanted : ℕ) (ok : Bool) (longer : HasLengthened has wanted (calls_of old) (calls_of new) ok) (writes : writes_of new ≡ writes_of old) where
  abbrev was : List Answered
  was = calls_of old

  abbrev added : List Aside
  added = (lengthened has wanted ok was (calls_of new) longer).0

  same : calls_of new ≡ with_asides added was
  same = (lengthened has wanted ok was (calls_of new) longer).1

  -- Each call added to the record leaves the sectors unchanged.
  adds_nothing : IsHonestFor images new → AddsNothing (giving images) old new
  adds_nothing honest = record {
    honest = asides_honest images was added (subst (IsHonest images) same honest);
    run = record {
      later = subst (λ (calls : List Answered). length was ≤ length calls) (sym same) (asides_later images was added);
      each = λ c left. only_left images was c (asides_since images was added (length was) c (omega arith) (subst (λ (calls : List Answered). LeftSince images calls (length was) c) same left));
      now = λ c left. asides_may images was added c (subst (λ (calls : List Answered). MayLeave (state_after images calls) c) same left);
      before = λ t c le left. inl (asides_since images was added t c le (subst (λ (calls : List Answered). LeftSince images calls t c) same left));
    };
  }

  seen : IsHonestFor images new → seen_for images new ≡ seen_for images old
  seen honest = subst (λ (calls : List Answered). (state_after images calls).seen ≡ seen_for images old) (sym same) (asides_seen images was added (subst (IsHonest images) same honest))

  pub has_grown : (most : ℕ) (result : Result (Unit {0}) Fault) → OnOk result (sectors_of new ≡ max (sectors_of old) most) → CountsFault (failures_of old) (failures_of new) result
      → OnOk result (HasGrown (giving images) most old new)
  has_grown most (Ok done) size failures = record { size = size; failures = failures.ok refl; writes = writes; seen = seen; nothing = adds_nothing }
  has_grown most (Err fault) size failures = tt

  pub has_not_grown : (result : Result (Unit {0}) Fault) → OnErr result (sectors_of new ≡ sectors_of old) → CountsFault (failures_of old) (failures_of new) result
      → OnErr result (HasNotGrown (giving images) old new)
  has_not_grown (Ok done) as_before failures = tt
  has_not_grown (Err fault) as_before failures = record { size = as_before; failures = failures.failed refl; writes = writes; seen = seen; nothing = adds_nothing }
