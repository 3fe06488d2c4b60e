-- If the test finds one run around a point, its neighbours in the run are connected.
use Rattle.std.proofs.Common.{rules}
use Rattle.tile_flood.proofs.Prelude.{HangTogether, IsInWindow, IsRun, IsTrue, List, ℕ, ℤ, [], ap, arith, cases_eq, cases_lt, inl, inr, is_beside, refl, subst, sym, ◌%◌, ◌++◌, ◌+◌, ◌-◌, ◌/◌, ◌<◌, ◌∙◌, ◌∷◌, ◌≡◌, ◌≢◌, ◌≤◌, ◌⊎◌}
use Rattle.tile_flood.specs.Sparing.{IsAround, LeadsAround, IsSeen, in_round}
use Rattle.tile_flood.proofs.Dependence.{window_point_of, one_window_point, beside_back}

-- two places of the window are at most one row and one column apart
pub record AreNear (c d : ℕ) : Type 0 where
  pub north : c / 3 ≤ d / 3 + 1
  pub south : d / 3 ≤ c / 3 + 1
  pub west : c % 3 ≤ d % 3 + 1
  pub east : d % 3 ≤ c % 3 + 1

near_beside : (n p c d y z : ℕ) → IsInWindow n p c y → IsInWindow n p d z → AreNear c d → IsTrue (is_beside n y z)
near_beside n p c d y z at_y at_z near = search rules

-- each place of the window except the centre is one of the eight around it (`in_round`)
place_of : (d : ℕ) → d < 9 → d ≢ 4 → (r : ℕ) × ((r < 8) × (in_round r ≡ d))
place_of d small other = elim (cases_eq d 0) [
  | inl is ↦ (0, (omega arith, sym is))
  | inr not_0 ↦ elim (cases_eq d 1) [
    | inl is ↦ (1, (omega arith, sym is))
    | inr not_1 ↦ elim (cases_eq d 2) [
      | inl is ↦ (2, (omega arith, sym is))
      | inr not_2 ↦ elim (cases_eq d 5) [
        | inl is ↦ (3, (omega arith, sym is))
        | inr not_5 ↦ elim (cases_eq d 8) [
          | inl is ↦ (4, (omega arith, sym is))
          | inr not_8 ↦ elim (cases_eq d 7) [
            | inl is ↦ (5, (omega arith, sym is))
            | inr not_7 ↦ elim (cases_eq d 6) [
              | inl is ↦ (6, (omega arith, sym is))
              | inr not_6 ↦ elim (cases_eq d 3) [
                | inl is ↦ (7, (omega arith, sym is))
                | inr not_3 ↦ absurd (omega arith)
              ]
            ]
          ]
        ]
      ]
    ]
  ]
]

-- eight places counted around the centre from any start are all eight
from_start : (start r : ℕ) → start < 8 → r < 8 → (k : ℕ) × ((k < 8) × ((start + k) % 8 ≡ r))
from_start start r small in_round = elim (cases_lt r start) [
  | inl before ↦ (r + 8 - start, (omega arith, omega arith))
  | inr on ↦ (r - start, (omega arith, omega arith))
]

module _ (n : ℕ) (levels : List ℤ) (labels : List ℕ) (p start : ℕ) where
  abbrev Seen : ℕ → ℕ → Type 0
  Seen k z = IsSeen n levels labels p start k z

  abbrev Leads : ℕ → List ℕ → ℕ → Type 0
  Leads z way f = LeadsAround n levels labels p z way f

  seen_more : (k z : ℕ) → Seen k z → Seen (k + 1) z
  seen_more k z seen = let before = seen.before in record { place = seen.place; before = omega arith; spot = seen.spot; around = seen.around }

  -- a point of the first k + 1 places is one of the first k places, or at the next place
  seen_or_there : (k z : ℕ) → Seen (k + 1) z → Seen k z ⊎ (IsInWindow n p (in_round ((start + k) % 8)) z × IsAround n levels labels p z)
  seen_or_there k z seen = elim (cases_lt seen.place k) [
    | inl before ↦ inl (record { place = seen.place; before = before; spot = seen.spot; around = seen.around })
    | inr on ↦
        let at : seen.place ≡ k = omega arith in
        inr (subst (λ j. IsInWindow n p (in_round ((start + j) % 8)) z) at seen.spot, seen.around)
  ]

  on_to : (z : ℕ) (way : List ℕ) (f g : ℕ) → Leads z way f → IsTrue (is_beside n f g) → IsAround n levels labels p g → Leads z (way ++ (g ∷ [])) g
  on_to z [] f g leads beside around = (subst (λ x. IsTrue (is_beside n x g)) (sym leads) beside, (around, refl))
  on_to z (h ∷ way) f g leads beside around = (leads.0, (leads.1.0, on_to h way f g leads.1.1 beside around))

  pub run_begun : IsRun n levels labels p start 0 4
  run_begun = search rules

  module _ (k last : ℕ) (run : IsRun n levels labels p start k last) where
    -- the run stays as it is if the next place has no neighbour with p's label and at most its level
    pub run_passed : ((z : ℕ) → IsInWindow n p (in_round ((start + k) % 8)) z → IsAround n levels labels p z → ⊥) → IsRun n levels labels p start (k + 1) last
    run_passed none = record {
      small = run.small;
      end = elim run.end [ inl nobody ↦ inl (nobody.0, λ z seen. nobody.1 z (before z seen)) | inr some ↦ inr (some.0, (some.1.0, seen_more k some.0 some.1.1)) ];
      together = λ z f a b. run.together z f (before z a) (before f b);
    }
      where
        before : (z : ℕ) → Seen (k + 1) z → Seen k z
        before z seen = elim (seen_or_there k z seen) [ inl was ↦ was | inr there ↦ absurd (none z there.0 there.1) ]

    -- y is at the next place, which is near the last
    pub run_on : (y : ℕ) → in_round ((start + k) % 8) < 9 → IsInWindow n p (in_round ((start + k) % 8)) y → IsAround n levels labels p y → AreNear last (in_round ((start + k) % 8)) → IsRun n levels labels p start (k + 1) (in_round ((start + k) % 8))
    run_on y small spot around near = record {
      small = small;
      end = inr (y, (spot, record { place = k; before = omega arith; spot = spot; around = around }));
      together = λ z f a b. elim (seen_or_there k z a) [
        | inl z_was ↦ elim (seen_or_there k f b) [
          | inl f_was ↦ run.together z f z_was f_was
          | inr f_there ↦ subst (λ g. (way : List ℕ) × Leads z way g) (is_y f f_there.0) (to_y z z_was)
        ]
        | inr z_there ↦ subst (λ g. (way : List ℕ) × Leads g way f) (is_y z z_there.0) (elim (seen_or_there k f b) [
          | inl f_was ↦ from_y f f_was
          | inr f_there ↦ ([], is_y f f_there.0)
        ])
      ];
    }
      where
        is_y : (z : ℕ) → IsInWindow n p (in_round ((start + k) % 8)) z → y ≡ z
        is_y z there = one_window_point n p (in_round ((start + k) % 8)) y z spot there

        -- the last neighbour before y is next to y
        to_y : (z : ℕ) → Seen k z → (way : List ℕ) × Leads z way y
        to_y z seen = elim run.end [
          | inl nobody ↦ absurd (nobody.1 z seen)
          | inr some ↦ let way = run.together z some.0 seen some.1.1 in (way.0 ++ (y ∷ []), on_to z way.0 some.0 y way.1 (near_beside n p last (in_round ((start + k) % 8)) some.0 y some.1.0 spot near) around)
        ]

        from_y : (f : ℕ) → Seen k f → (way : List ℕ) × Leads y way f
        from_y f seen = elim run.end [
          | inl nobody ↦ absurd (nobody.1 f seen)
          | inr some ↦
              let way = run.together some.0 f some.1.1 seen in
              (some.0 ∷ way.0, (beside_back n some.0 y (near_beside n p last (in_round ((start + k) % 8)) some.0 y some.1.0 spot near), (some.1.1.around, way.1)))
        ]

  pub run_whole : start < 8 → (last : ℕ) → IsRun n levels labels p start 8 last → HangTogether n levels labels p
  run_whole small last run z f a b = run.together z f (seen z a) (seen f b)
    where
      seen : (z : ℕ) → IsAround n levels labels p z → Seen 8 z
      seen z around =
          let spot = window_point_of n p z around.beside in
          let at_centre : IsInWindow n p 4 p = (omega arith, omega arith) in
          let other : spot.0 ≢ 4 = λ is. around.apart (one_window_point n p 4 z p (subst (λ d. IsInWindow n p d z) is spot.1.1) at_centre) in
          let r = place_of spot.0 spot.1.0 other in
          let k = from_start start r.0 small r.1.0 in
          record {
            place = k.0;
            before = k.1.0;
            spot = subst (λ d. IsInWindow n p d z) (sym (ap in_round k.1.1 ∙ r.1.1)) spot.1.1;
            around = around;
          }
