-- Points that depended on a point at its own level are supported without it, if its dependents around it are connected.
use Rattle.tile_flood.proofs.Prelude.{HangTogether, IsAround, IsFalse, IsHeldBy, IsHeldUp, IsMending, IsTrue, LeadsAround, List, ℕ, ℤ, [], ap, arith, block_of, cases_eq, clamps, get_or, inl, inr, int_max, ints, is_beside, is_exit, is_linked, is_marked, le_or_above, ne_eqb, not, refl, subst, sym, true≢false, void, ◌∙◌, ◌∷◌, ◌≢◌, ◌≤ℤ◌, ◌⊎◌}
use Rattle.labelling.proofs.Squares.{test_if, not_void_if, linked_parts, linked_from, solid_below}
use Rattle.tile_flood.proofs.Dependence.{beside_back}
use Rattle.tile_flood.proofs.Held.{Passes, passes_by, first_below, below_max}
use Rattle.labelling.proofs.Squares.{apart_if}

max_on : (h g m p : ℤ) → h ≤ℤ m → g ≤ℤ p → p ≤ℤ m → int_max h g ≤ℤ m
max_on h g m p own le on = omega (arith, ints, clamps)

module _ (n : ℕ) (heights : List ℤ) (sinks : List ℕ) (levels : List ℤ) (labels : List ℕ) (Waiting Suspect : ℕ → Type 0) (s : IsMending n heights sinks levels labels Waiting Suspect)
    (p : ℕ) (inner : IsFalse (is_exit (block_of n heights sinks) p)) (sound : Suspect p → ⊥) where
  abbrev Held : ℕ → List ℕ → Type 0
  Held = IsHeldBy n heights sinks levels labels Suspect

  -- e is supported along a path that doesn't pass through p
  abbrev HeldOff : ℕ → Type 0
  HeldOff e = (rest : List ℕ) × (Held e rest × (Passes p e rest → ⊥))

  -- a path of support through p goes on to a point that supports p and is itself supported by a path that avoids p
  past : (e : ℕ) (rest : List ℕ) → Held e rest → (Passes p e rest → ⊥) ⊎ ((f : ℕ) × (IsHeldUp n heights sinks levels labels p f × HeldOff f))
  past e [] by = elim (cases_eq e p) [
    | inl is ↦ absurd (elim by [
      | inl suspect ↦ sound (subst Suspect is suspect)
      | inr seed ↦ true≢false (sym (subst (λ z. IsTrue (is_exit (block_of n heights sinks) z)) is seed.exit) ∙ inner)
    ])
    | inr other ↦ inl (λ is. other is)
  ]
  past e (f ∷ rest) by = elim (past f rest by.1) [
    | inl off ↦ elim (cases_eq e p) [
      | inl is ↦ inr (f, (subst (λ z. IsHeldUp n heights sinks levels labels z f) is by.0, (rest, (by.1, off))))
      | inr other ↦ inl (λ passes. elim passes [ inl is ↦ other is | inr on ↦ off on ])
    ]
    | inr found ↦ inr found
  ]

  begins_at : (rest : List ℕ) → Passes p p rest
  begins_at [] = refl
  begins_at (f ∷ rest) = inl refl

  pub giver : IsTrue (is_marked levels p) → (f : ℕ) × (IsHeldUp n heights sinks levels labels p f × HeldOff f)
  giver on = let by = s.held p on in elim (past p by.0 by.1) [ inl off ↦ absurd (off (begins_at by.0)) | inr found ↦ found ]

  -- the point that supports p is one of the neighbours around it
  giver_around : (f : ℕ) → IsHeldUp n heights sinks levels labels p f → IsAround n levels labels p f
  giver_around f up =
      let l = linked_parts n heights p f up.link in
      record {
        inside = solid_below n heights f l.to;
        beside = l.beside;
        apart = λ is. apart_if p f l.apart (sym is);
        marked = test_if (get_or levels f void) up.full;
        label = sym up.label;
        level = below_max (get_or heights p void) (get_or levels f void) (get_or levels p void) up.level;
      }

  link_of : (z g : ℕ) → z ≢ g → IsAround n levels labels p z → IsAround n levels labels p g → IsTrue (is_beside n z g) → IsTrue (is_linked (block_of n heights sinks) z g)
  link_of z g other a b beside = linked_from n heights z g (record { from = s.ground z a.marked; to = s.ground g b.marked; apart = ap not (ne_eqb z g other); beside = beside })

  -- if a path around p leads to a point supported without p, all points on it are supported without p
  around : (z : ℕ) (way : List ℕ) (f : ℕ) → IsAround n levels labels p z → LeadsAround n levels labels p z way f → HeldOff f → HeldOff z
  around z [] f a is off = subst HeldOff (sym is) off
  around z (g ∷ way) f a leads off =
      let on = around g way f leads.1.0 leads.1.1 off in
      let by = s.held z a.marked in
      elim (cases_eq z g) [
        | inl same ↦ subst HeldOff (sym same) on
        | inr other ↦ elim (le_or_above (get_or levels p void) (get_or levels z void)) [
          | inl level ↦ step by.0 by.1 level other on
          | inr lower ↦ (by.0, (by.1, passes_by n heights sinks levels labels Suspect p z by.0 by.1 lower))
        ]
      ]
    where
      step : (rest : List ℕ) → Held z rest → get_or levels p void ≤ℤ get_or levels z void → z ≢ g → HeldOff g → HeldOff z
      step [] by level other on = ([], (by, λ is. a.apart is))
      step (h ∷ rest) by level other on = (
        g ∷ on.0,
        (
          (
            record {
              inner = by.0.inner;
              link = link_of z g other a leads.1.0 leads.0;
              own = by.0.own;
              full = not_void_if levels g leads.1.0.marked;
              label = a.label ∙ sym leads.1.0.label;
              level = max_on (get_or heights z void) (get_or levels g void) (get_or levels z void) (get_or levels p void)
                  (first_below (get_or heights z void) (get_or levels h void) (get_or levels z void) by.0.level) leads.1.0.level level;
            },
            on.1.0,
          ),
          λ passes. elim passes [ inl is ↦ a.apart is | inr further ↦ on.1.1 further ],
        ),
      )

  -- a point at most at p's level that p supported is supported without p
  pub held_off : IsTrue (is_marked levels p) → HangTogether n levels labels p → (z : ℕ) → IsHeldUp n heights sinks levels labels z p → get_or levels z void ≤ℤ get_or levels p void → HeldOff z
  held_off on together z up low =
      let from = giver on in
      let l = linked_parts n heights z p up.link in
      let here : IsAround n levels labels p z = record {
        inside = solid_below n heights z l.from;
        beside = beside_back n z p l.beside;
        apart = λ is. apart_if z p l.apart is;
        marked = test_if (get_or levels z void) up.own;
        label = up.label;
        level = low;
      } in
      let there = giver_around from.0 from.1.0 in
      let way = together z from.0 here there in
      around z way.0 from.0 here way.1 from.1.1
