-- The effect of commands on whole tiles, from the code's tests.
use Rattle.std.proofs.Common.{◌≡◌, ℕ, ◌*◌, ◌<◌, ◌≤◌, ◌↔◌, Bool, true, false, IsTrue, List, length, nat_eq, nat_lt, refl, sym, ◌∙◌, ap, subst, arith}
use Rattle.edits.proofs.Prelude.{Contains, Corner, Err, Full, Import, Mosaic, NoTile, Ok, Remove, TileThere, added, corners_of, effect, is_present, length-map, present_iff, samples_in, without}
use Rattle.std.proofs.lemmas.Bool.{false≢true, false_from_ne_true, eq-eqb, lt-ltb, le-ltb}

module _ (m : Mosaic) (cs : List Corner) (same : corners_of m ≡ cs) (c : Corner) (present : Bool) (says : IsTrue present ↔ Contains cs c) where
  pub present_is : is_present m c ≡ present
  present_is = by present (subst (λ l. IsTrue present ↔ Contains l c) (sym same) says)
    where
      by : (b : Bool) → (IsTrue b ↔ Contains (corners_of m) c) → is_present m c ≡ b
      by true h = (present_iff m c).1 (h.0 refl)
      by false h = false_from_ne_true (is_present m c) (λ e. false≢true (h.1 ((present_iff m c).0 e)))

  pub remove_refused : (capacity : ℕ) → present ≡ false → effect capacity m (Remove c) ≡ Err NoTile
  remove_refused capacity absent = rw (present_is ∙ absent) refl

  pub remove_accepted : (capacity : ℕ) → present ≡ true → effect capacity m (Remove c) ≡ Ok (without c m)
  remove_accepted capacity there = rw (present_is ∙ there) refl

  module _ (capacity : ℕ) (bytes : List ℕ) (whole : length bytes ≡ 2 * (m.side * m.side)) where
    whole_is : nat_eq (length bytes) (2 * (m.side * m.side)) ≡ true
    whole_is = eq-eqb (length bytes) (2 * (m.side * m.side)) whole

    pub import_there : present ≡ true → effect capacity m (Import c bytes) ≡ Err TileThere
    import_there there = rw (whole_is, present_is ∙ there) refl

    count_is : length m.tiles ≡ length cs
    count_is = sym (length-map m.tiles (λ t. t.corner)) ∙ ap length same

    pub import_full : present ≡ false → capacity ≤ length cs → effect capacity m (Import c bytes) ≡ Err Full
    import_full absent full =
        let no_room : nat_lt (length m.tiles) capacity ≡ false = le-ltb (length m.tiles) capacity (omega (arith, count_is)) in
        rw (whole_is, present_is ∙ absent, no_room) refl

    pub import_accepted : present ≡ false → length cs < capacity → effect capacity m (Import c bytes) ≡ Ok (added (record { corner = c; samples = samples_in bytes }) m)
    import_accepted absent room =
        let some_room : nat_lt (length m.tiles) capacity ≡ true = lt-ltb (length m.tiles) capacity (omega (arith, count_is)) in
        rw (whole_is, present_is ∙ absent, some_room) refl
