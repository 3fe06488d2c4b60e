-- Facts about an accepted command and its effect.
use Rattle.std.proofs.Common.{◌≡◌, ℕ, ◌*◌, pos, Bool, true, false, cond, not, nat_eq, nat_lt, length, refl}
use Rattle.edits.proofs.Prelude.{Burn, Command, Err, Height, Import, Mosaic, NoSink, None, Ok, Option, Patch, Point, Refusal, Remove, Result, Sink, Some, Unsink, Wall, added, burnt, effect, first_fault, has_void, height_of, is_box, is_depth, is_height, is_present, is_repeated, is_sink, most_sinks, patched, samples_in, sunk, sunk_at, unless_fault, unsunk, walled, with_point, with_sinks, without, without_point}
use Rattle.lattice.specs.declared.height.Height.TheVariants as height

abbrev pub IsMade : ℕ → Mosaic → Command → Mosaic → Type 0
IsMade capacity m (Import c bytes) new =
    (nat_eq (length bytes) (2 * (m.side * m.side)) ≡ true) × (is_present m c ≡ false) × (nat_lt (length m.tiles) capacity ≡ true) × (new ≡ added (record { corner = c; samples = samples_in bytes }) m)
IsMade capacity m (Remove c) new = new ≡ without c m
IsMade capacity m (Patch from to h) new = (is_height h ≡ true) × (new ≡ patched from to h m)
IsMade capacity m (Burn depth points) new = (is_depth depth ≡ true) × (first_fault m depth points.items ≡ None) × (new ≡ burnt depth points.items m)
IsMade capacity m (Wall h points) new = (is_height h ≡ true) × (first_fault m (pos 0) points.items ≡ None) × (new ≡ walled h points.items m)
IsMade capacity m (Sink p) new = (sunk m p ≡ Ok new) × (new ≡ with_sinks (with_point p m.sinks) m)
IsMade capacity m (Unsink p) new = (unsunk m p ≡ Ok new) × (new ≡ with_sinks (without_point p m.sinks) m)

ok_is : (a b : Mosaic) → ◌≡◌ {A = Result Mosaic Refusal} (Ok a) (Ok b) → b ≡ a
ok_is a b e = cc

not_ok : {r : Refusal} {X : Type 0} (a : Mosaic) → ◌≡◌ {A = Result Mosaic Refusal} (Err r) (Ok a) → X
not_ok a e = cc

module _ (new : Mosaic) where
  unless_fault_is : (fine : Mosaic) (fault : Option Refusal) → unless_fault fault fine ≡ Ok new → (fault ≡ None) × (new ≡ fine)
  unless_fault_is fine None e = (refl, ok_is fine new e)
  unless_fault_is fine (Some r) e = not_ok new e

  first_test : {X : Type 0} (r : Refusal) (later : Result Mosaic Refusal) (b : Bool) → cond (not b) (Err r) later ≡ Ok new → (b ≡ true → later ≡ Ok new → X) → X
  first_test r later true e then_ = then_ refl e
  first_test r later false e then_ = not_ok new e

  first_test_not : {X : Type 0} (r : Refusal) (later : Result Mosaic Refusal) (b : Bool) → cond b (Err r) later ≡ Ok new → (b ≡ false → later ≡ Ok new → X) → X
  first_test_not r later false e then_ = then_ refl e
  first_test_not r later true e then_ = not_ok new e

  sunk_is : (h : Height) (m : Mosaic) (p : Point) → sunk_at h p m ≡ Ok new → new ≡ with_sinks (with_point p m.sinks) m
  sunk_is height.Outside m p e = not_ok new e
  sunk_is height.Void m p e = not_ok new e
  sunk_is (height.At h) m p e =
      first_test_not _ _ (is_sink m p) e (λ absent rest.
      first_test _ _ (nat_lt (length m.sinks) most_sinks) rest (λ room made.
      ok_is (with_sinks (with_point p m.sinks) m) new made))

  unsunk_is : (m : Mosaic) (p : Point) (b : Bool) → cond b (Ok (with_sinks (without_point p m.sinks) m)) (Err NoSink) ≡ Ok new → new ≡ with_sinks (without_point p m.sinks) m
  unsunk_is m p true e = ok_is (with_sinks (without_point p m.sinks) m) new e
  unsunk_is m p false e = not_ok new e

pub accepted_is : (capacity : ℕ) (m : Mosaic) (c : Command) (new : Mosaic) → effect capacity m c ≡ Ok new → IsMade capacity m c new
accepted_is capacity m (Import c bytes) new e =
    first_test new _ _ (nat_eq (length bytes) (2 * (m.side * m.side))) e (λ whole rest.
    first_test_not new _ _ (is_present m c) rest (λ absent last.
    first_test new _ _ (nat_lt (length m.tiles) capacity) last (λ room made.
    (whole, absent, room, ok_is (added (record { corner = c; samples = samples_in bytes }) m) new made))))
accepted_is capacity m (Remove c) new e =
    first_test new _ _ (is_present m c) e (λ there made. ok_is (without c m) new made)
accepted_is capacity m (Patch from to h) new e =
    first_test new _ _ (is_height h) e (λ in_range rest.
    first_test new _ _ (is_box m.side from to) rest (λ box last.
    first_test new _ _ (has_void m from to) last (λ void made.
    (in_range, ok_is (patched from to h m) new made))))
accepted_is capacity m (Burn depth points) new e =
    first_test new _ _ (is_depth depth) e (λ in_range rest.
    first_test_not new _ _ (is_repeated points.items) rest (λ single made.
    let sound = unless_fault_is new (burnt depth points.items m) (first_fault m depth points.items) made in
    (in_range, sound.0, sound.1)))
accepted_is capacity m (Wall h points) new e =
    first_test new _ _ (is_height h) e (λ in_range rest.
    first_test_not new _ _ (is_repeated points.items) rest (λ single made.
    let sound = unless_fault_is new (walled h points.items m) (first_fault m (pos 0) points.items) made in
    (in_range, sound.0, sound.1)))
accepted_is capacity m (Sink p) new e = (e, sunk_is new (height_of m p) m p e)
accepted_is capacity m (Unsink p) new e = (e, unsunk_is new m p (is_sink m p) e)
