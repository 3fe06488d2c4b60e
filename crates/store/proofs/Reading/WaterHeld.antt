-- The cache of a mosaic's water stays right through the calls of a store.
use Rattle.std.proofs.Common.{rules}
use Rattle.store.proofs.Prelude.{AppliesNot, Bool, Command, Contents, Corner, Device, DrainageCache, Err, Failed, Ghosts, IsHeldOf, IsHolding, IsInState, IsUpgraded, Mosaic, NoMemory, None, NotOld, Ok, OnOk, Option, Refusal, Result, Some, State, StepsNot, TooSmall, Tree, Upgrades, UpgradesNot, Worn, ℕ, ap, disk_of, effect, inl, inr, root_of, subst, sym, upgrade_ending, working, ◌≡◌, ◌⊎◌}
use Rattle.stored_mosaic.specs.Ended.{Ending, EndsAt, IsApplied, IsStepped, command_ending, step_ending}

-- ---- commands

-- The cache is right for the old mosaic and, if the command was done, for the new one.
abbrev pub IsLeftBy : ℕ → Mosaic → Command → Result ℕ Refusal → DrainageCache → Type 0
IsLeftBy capacity m command result held = IsHeldOf m held × OnOk result ((made : Mosaic) → effect capacity m command ≡ Ok made → IsHeldOf made held)

pub left_by : (capacity : ℕ) (m : Mosaic) (command : Command) (result : Result ℕ Refusal) (held : DrainageCache) → IsHeldOf m held → ((made : Mosaic) → effect capacity m command ≡ Ok made → IsHeldOf made held) → IsLeftBy capacity m command result held
left_by capacity m command (Ok k) held still made = (still, made)
left_by capacity m command (Err r) held still made = (still, tt)

refused_left : (capacity : ℕ) (m : Mosaic) (command : Command) (result : Result ℕ Refusal) (r : Refusal) (held : DrainageCache) → result ≡ Err r → IsHeldOf m held → IsLeftBy capacity m command result held
refused_left capacity m command (Ok k) r held is still = absurd (cc)
refused_left capacity m command (Err x) r held is still = (still, tt)

-- A refused command leaves the mosaic unchanged.
refused : (capacity : ℕ) (s : State) (c : Command) (r : Refusal) (t : State) → AppliesNot capacity s c r t → t.contents.mosaic ≡ s.contents.mosaic
refused capacity s c Failed t is = ap (λ (z : State). z.contents.mosaic) is.same
refused capacity s c Device t is = ap (λ (z : State). z.contents.mosaic) is.fails
refused capacity s c NoMemory t is = ap (λ (z : State). z.contents.mosaic) is.same
refused capacity s c Worn t is = ap (λ (z : State). z.contents.mosaic) is.stays.same
refused capacity s c r t is = ap (λ (z : State). z.contents.mosaic) is.stays.same

left_right : (capacity : ℕ) (s t : State) (c : Command) (result : Result ℕ Refusal) (held : DrainageCache) → IsLeftBy capacity s.contents.mosaic c result held → (command_ending capacity c).Happens s result t → IsHeldOf t.contents.mosaic held
left_right capacity s t c (Ok k) held left is = subst (λ (z : State). IsHeldOf z.contents.mosaic held) (sym is.effect_is.1.1) (left.1 is.effect_is.0 is.effect_is.1.0)
left_right capacity s t c (Err r) held left is = subst (λ (m : Mosaic). IsHeldOf m held) (sym (refused capacity s c r t is)) left.0

-- ---- steps and upgrades

-- A refused step leaves the mosaic unchanged.
steps_not : (s : State) (r : Refusal) (t : State) → StepsNot s r t → t.contents.mosaic ≡ s.contents.mosaic
steps_not s Failed t is = ap (λ (z : State). z.contents.mosaic) is.same
steps_not s Device t is = ap (λ (z : State). z.contents.mosaic) is.1.1.fails
steps_not s NoMemory t is = ap (λ (z : State). z.contents.mosaic) is.same
steps_not s Worn t is = ap (λ (z : State). z.contents.mosaic) is.0.stays.same
steps_not s r t is = absurd is

steps : (capacity : ℕ) (s t : State) (result : Result (Option Corner) Refusal) → (step_ending capacity).Happens s result t → t.contents.mosaic ≡ s.contents.mosaic
steps capacity s t (Ok None) is = ap (λ (z : State). z.contents.mosaic) is.0.same
steps capacity s t (Ok (Some c)) is = ap (λ (z : State). z.contents.mosaic) is.1.made_is
steps capacity s t (Err r) is = steps_not s r t is

-- A refused upgrade leaves the mosaic unchanged.
upgrades_not : (room : Bool) (s : State) (r : Refusal) (t : State) → UpgradesNot room s r t → t.contents.mosaic ≡ s.contents.mosaic
upgrades_not room s Failed t is = ap (λ (z : State). z.contents.mosaic) is.same
upgrades_not room s NotOld t is = ap (λ (z : State). z.contents.mosaic) is.0.same
upgrades_not room s TooSmall t is = ap (λ (z : State). z.contents.mosaic) is.0.same
upgrades_not room s Worn t is = ap (λ (z : State). z.contents.mosaic) is.0.stays.same
upgrades_not room s Device t is = ap (λ (z : State). z.contents.mosaic) is.1.fails
upgrades_not room s NoMemory t is = ap (λ (z : State). z.contents.mosaic) is.same
upgrades_not room s r t is = absurd is

upgrades : (room : Bool) (s t : State) (result : Result (Unit {0}) Refusal) → Upgrades room s result t → t.contents.mosaic ≡ s.contents.mosaic
upgrades room s t (Ok u) is = ap (λ (z : State). z.contents.mosaic) is.1.made_is
upgrades room s t (Err r) is = upgrades_not room s r t is

-- ---- an opening, after which the cache is empty

module _ {D : Type 0} (g : Ghosts D) (tree : Tree D g) (held : DrainageCache) (none : (m : Mosaic) → IsHeldOf m held) where
  holding_none : (s : State) → IsInState g tree s → IsHolding g tree held s
  holding_none s at = record { in_state = at; right = none s.contents.mosaic }

  -- The tree is in one of two states.
  pub one_holding : (a b : Contents) → IsInState g tree (working a) ⊎ IsInState g tree (working b) → IsHolding g tree held (working a) ⊎ IsHolding g tree held (working b)
  one_holding a b (inl at) = inl (holding_none (working a) at)
  one_holding a b (inr at) = inr (holding_none (working b) at)

  -- The tree is in the last known state, or in that of the commit in doubt.
  pub known_holding : (s : State) → IsInState g tree (working s.contents) ⊎ ((doubted : Contents) × (s.doubt ≡ Some doubted) × IsInState g tree (working doubted))
      → IsHolding g tree held (working s.contents) ⊎ ((doubted : Contents) × (s.doubt ≡ Some doubted) × IsHolding g tree held (working doubted))
  known_holding s (inl at) = inl (holding_none (working s.contents) at)
  known_holding s (inr (doubted, some, at)) = inr (doubted, some, holding_none (working doubted) at)

-- ---- calls with the cache

module _ {D : Type 0} (g : Ghosts D) (old new : Tree D g) where
  -- a call after which the cache is right, from states that meet its premise
  ended_holding : {T : Type 0} (ending : Ending T) (was now : DrainageCache) (result : Result T Refusal) (Was : State → Type 0) → ((s : State) → IsHolding g old was s → Was s)
      → (g.honest (disk_of new) → (s t : State) → IsInState g old s → IsHeldOf s.contents.mosaic was → ending.Happens s result t → IsHeldOf t.contents.mosaic now)
      → EndsAt g ending result old new Was (λ t. IsInState g new t) → EndsAt g ending result old new (λ s. IsHolding g old was s) (λ t. IsHolding g new now t)
  ended_holding ending was now result Was leads left is = record {
    returns = is.returns;
    side = is.side;
    capacity = is.capacity;
    causes = is.causes;
    quiet = is.quiet;
    known = is.known;
    last_known = is.last_known;
    unwritten = is.unwritten;
    idle = is.idle;
    outcome = λ honest s at.
        let step = is.outcome honest s (leads s at) in
        (step.0, (record { in_state = step.1.0; right = left honest s step.0 at.in_state at.right step.1.1 }, step.1.1, step.1.2));
  }

  -- a command after which the cache is right
  pub done_holding : (was now : DrainageCache) (c : Command) (result : Result ℕ Refusal)
      → (g.honest (disk_of new) → (s : State) → IsInState g old s → IsHeldOf s.contents.mosaic was → IsLeftBy (root_of old).capacity s.contents.mosaic c result now)
      → IsApplied g c result old new → EndsAt g (command_ending (root_of old).capacity c) result old new (λ s. IsHolding g old was s) (λ t. IsHolding g new now t)
  done_holding was now c result left = search rules

  -- a refused command that leaves the cache unchanged
  pub unchanged_holding : (held : DrainageCache) (c : Command) (result : Result ℕ Refusal) {r : Refusal} → result ≡ Err r
      → IsApplied g c result old new → EndsAt g (command_ending (root_of old).capacity c) result old new (λ s. IsHolding g old held s) (λ t. IsHolding g new held t)
  unchanged_holding held c result {r} refused = done_holding held held c result (λ honest s at right. refused_left (root_of old).capacity s.contents.mosaic c result r held refused right)

  -- a call that leaves the mosaic and the cache unchanged
  still_holding : {T : Type 0} (ending : Ending T) (held : DrainageCache) (result : Result T Refusal) (Was : State → Type 0) → ((s : State) → IsHolding g old held s → Was s)
      → ((s t : State) → ending.Happens s result t → t.contents.mosaic ≡ s.contents.mosaic)
      → EndsAt g ending result old new Was (λ t. IsInState g new t) → EndsAt g ending result old new (λ s. IsHolding g old held s) (λ t. IsHolding g new held t)
  still_holding ending held result Was leads same =
      ended_holding ending held held result Was leads (λ honest s t at right happens. subst (λ (m : Mosaic). IsHeldOf m held) (sym (same s t happens)) right)

  -- a step, from states whose mosaic the cache is right for
  pub stepped_holding : (held : DrainageCache) (result : Result (Option Corner) Refusal) → IsStepped g (λ m. IsHeldOf m held) result old new
      → EndsAt g (step_ending (root_of old).capacity) result old new (λ s. IsHolding g old held s) (λ t. IsHolding g new held t)
  stepped_holding held result =
      still_holding (step_ending (root_of old).capacity) held result (λ s. IsInState g old s × IsHeldOf s.contents.mosaic held) (λ s at. (at.in_state, at.right)) (λ s t. steps (root_of old).capacity s t result)

  pub upgraded_holding : (held : DrainageCache) (result : Result (Unit {0}) Refusal) → IsUpgraded g result old new
      → EndsAt g (upgrade_ending (g.size (disk_of old)) (root_of old)) result old new (λ s. IsHolding g old held s) (λ t. IsHolding g new held t)
  upgraded_holding held result = still_holding (upgrade_ending (g.size (disk_of old)) (root_of old)) held result (λ s. IsInState g old s) (λ s at. at.in_state) (λ s t. upgrades _ s t result)
