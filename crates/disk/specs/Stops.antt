-- What a stop may leave during a call or a run of calls: definitions for the layers above.
use Rattle.std.specs.Prelude.{◌⊎◌, ℕ, ◌≤◌, Result, IsErr}
use Rattle.std.proofs.Common.{inl, inr, ⊎_elim, arith}
use Rattle.disk.specs.Disk.{Image, HasRisen, Elapses}
use Rattle.disk.specs.declared.disk.Disk.{Ghosts}

-- A stop at any moment of the run from `old` to `new` leaves only images with P.
pub record LeavesOnly {D : Type 0} (g : Ghosts D) (old new : D) (P : Image → Type 0) : Type 0 where
  pub later : g.moment old ≤ g.moment new
  pub each : (c : Image) → g.since new (g.moment old) c → P c
  -- a stop after the run, before the next call
  pub now : (c : Image) → g.may new c → P c
  -- for a run that starts before `old`
  pub before : (t : ℕ) (c : Image) → t ≤ g.moment old → g.since new t c → g.since old t c ⊎ P c

-- Over a run of calls, the result is a fault only if the count of failures has risen. That count never falls.
pub record HasCause {T E : Type 0} (before now : ℕ) (result : Result T E) : Type 0 where
  pub later : before ≤ now
  pub failed : IsErr result → HasRisen before now

-- A run that adds no image, such as reads and syncs, on a disk that was honest before it.
pub record AddsNothing {D : Type 0} (g : Ghosts D) (old new : D) : Type 0 where
  pub honest : g.honest old
  pub run : LeavesOnly g old new (g.may old)

module _ {D : Type 0} (g : Ghosts D) where
  -- the rule for one call
  pub by_call : (old new : D) (P added : Image → Type 0) → ((c : Image) → g.since old (g.moment old) c → P c) → ((c : Image) → added c → P c) → ((c : Image) → g.may new c → P c)
      → Elapses (g.moment old) (g.moment new) (g.since old) (g.since new) added → LeavesOnly g old new P
  by_call old new P added at_first adds ends time = record {
    later = time.later;
    each = λ c left. ⊎_elim (at_first c) (adds c) (time.nothing_else (g.moment old) c (omega arith) left);
    now = ends;
    before = λ t c le left. ⊎_elim (λ was. inl was) (λ new. inr (adds c new)) (time.nothing_else t c le left);
  }

  -- the rule for one run followed by another
  pub in_turn : (old mid new : D) (P : Image → Type 0) → LeavesOnly g old mid P → LeavesOnly g mid new P → LeavesOnly g old new P
  in_turn old mid new P first second = record {
    later = omega (arith, first.later, second.later);
    each = λ c left. ⊎_elim (first.each c) (λ here. here) (second.before (g.moment old) c first.later left);
    now = second.now;
    before = λ t c le left. ⊎_elim (first.before t c le) (λ here. inr here) (second.before t c (omega (arith, le, first.later)) left);
  }

  -- If P implies Q, a run that leaves only P leaves only Q.
  pub weaker : (old new : D) (P Q : Image → Type 0) → ((c : Image) → P c → Q c) → LeavesOnly g old new P → LeavesOnly g old new Q
  weaker old new P Q implies run = record {
    later = run.later;
    each = λ c left. implies c (run.each c left);
    now = λ c left. implies c (run.now c left);
    before = λ t c le left. ⊎_elim (λ was. inl was) (λ here. inr (implies c here)) (run.before t c le left);
  }

  -- the rule for no call, by the disk's law that only present images count since the present moment
  pub nothing_done : (disk : D) → ((c : Image) → g.honest disk → g.since disk (g.moment disk) c → g.may disk c) → g.honest disk → AddsNothing g disk disk
  nothing_done disk only_now honest = record {
    honest = honest;
    run = record { later = omega arith; each = λ c left. only_now c honest left; now = λ c left. left; before = λ t c le left. inl left };
  }

  pub nothing_twice : (old mid new : D) → AddsNothing g old mid → AddsNothing g mid new → AddsNothing g old new
  nothing_twice old mid new first second = record {
    honest = first.honest;
    run = in_turn old mid new (g.may old) first.run (weaker mid new (g.may mid) (g.may old) first.run.now second.run);
  }
