-- If all points that a mending affected in a band lie off borders between labels, the band's passages are unchanged.
use Rattle.std.proofs.Common.{rules}
use Rattle.tile_flood.proofs.Prelude.{Affected, AreCarried, AreChangesListed, IsLabelling, IsListed, IsTrue, List, Spill, ℕ, ℤ, arith, bare_block, block_of, cases_lt, get_or, inl, inr, int_eq, is_beside, is_linked, is_marked, is_solid, length, mod-lt, mul-le-mul_right, not-true, slice_index, subst, sym, void, ◌%◌, ◌*◌, ◌+◌, ◌-◌, ◌/◌, ◌<◌, ◌∙◌, ◌≡◌, ◌≤◌, ◌⊎◌}
use Rattle.labelling.proofs.Squares.{apart_of, cell_of, linked_parts, solid_height, solid_below, solid_if, test_if}
use Rattle.tile_flood.specs.Bands.{AreOfBand, IsOffBorder}
use Rattle.tile_flood.proofs.Dependence.{full_at, beside_itself, beside_back}
use Rattle.tile_flood.proofs.RowBands.{IsStillBetween, range_stays}

-- a point with a level is ground
ground_if : (n : ℕ) (heights : List ℤ) (sinks : List ℕ) (levels : List ℤ) (labels : List ℕ) → IsLabelling (block_of n heights sinks) levels labels → (e : ℕ) → IsTrue (is_solid (bare_block n levels) e) → IsTrue (is_solid (bare_block n heights) e)
ground_if n heights sinks levels labels is e on = search rules

-- the band in which a point lies
row_in_band : (n b e : ℕ) → 0 < n → (b * 32) * n ≤ e → e < (b * 32 + 32) * n → (b * 32 ≤ e / n) × (e / n < b * 32 + 32)
row_in_band n b e some low high =
    let cell = cell_of n e in
    let column : e % n < n = mod-lt e some in (
      elim (cases_lt (e / n) (b * 32)) [ inl less ↦ (let next : e / n + 1 ≤ b * 32 = omega arith in let rows : (e / n + 1) * n ≤ (b * 32) * n = mul-le-mul_right n next in absurd (omega arith)) | inr enough ↦ enough ],
      elim (cases_lt (e / n) (b * 32 + 32)) [ inl less ↦ less | inr past ↦ (let rows : (b * 32 + 32) * n ≤ (e / n) * n = mul-le-mul_right n past in absurd (omega arith)) ],
    )

-- a point before x and next to it lies in the band of x's row, or of the row above
pub band_of_row : (n b e x : ℕ) → 0 < n → (b * 32) * n ≤ e → e < (b * 32 + 32) * n → e ≤ x → IsTrue (is_beside n e x) → (b ≡ (x / n) / 32) ⊎ (b ≡ (x / n - 1) / 32)
band_of_row n b e x some low high before beside =
    let rows = row_in_band n b e some low high in
    let apart = apart_of n e x beside in
    let south = apart.south in
    let from = rows.0 in
    let to = rows.1 in
    let cell = cell_of n e in
    let cell' = cell_of n x in
    let column : e % n < n = mod-lt e some in
    let column' : x % n < n = mod-lt x some in
    let up : e / n ≤ x / n = elim (cases_lt (x / n) (e / n)) [ inl less ↦ (let next : (x / n + 1) * n ≤ (e / n) * n = mul-le-mul_right n (omega arith) in absurd (omega arith)) | inr enough ↦ enough ] in
    elim (cases_lt (e / n) (x / n)) [ inl less ↦ inr (omega arith) | inr same ↦ inl (omega arith) ]

-- levels and labels before a mending and after it
module _ (n : ℕ) (heights₀ heights : List ℤ) (sinks : List ℕ) (levels₀ levels : List ℤ) (labels₀ labels : List ℕ) (affected : List Affected)
    (before : IsLabelling (block_of n heights₀ sinks) levels₀ labels₀) (now : IsLabelling (block_of n heights sinks) levels labels)
    (same_ground : (e : ℕ) → is_solid (block_of n heights₀ sinks) e ≡ is_solid (block_of n heights sinks) e) (carried : AreCarried (block_of n heights sinks) levels labels)
    (listed : AreChangesListed n heights levels₀ labels₀ levels labels affected) where
  marked_if : (e : ℕ) → IsTrue (is_solid (bare_block n levels) e) → IsTrue (is_marked levels e)
  marked_if e on = test_if (get_or levels e void) (solid_height n levels e on)

  solid_still : (e : ℕ) → IsTrue (is_solid (bare_block n levels₀) e) → IsTrue (is_solid (bare_block n levels) e)
  solid_still e on =
      let ground = sym (same_ground e) ∙ ground_if n heights₀ sinks levels₀ labels₀ before e on in
      solid_if n levels e (solid_below n levels₀ e on) (not-true (int_eq (get_or levels e void) void) (full_at n heights sinks levels labels now carried e ground))

  -- two linked points both have levels now, and are neighbours
  solid_both : (e f : ℕ) → IsTrue (is_linked (bare_block n levels₀) e f) ⊎ IsTrue (is_linked (bare_block n levels) e f) → IsTrue (is_solid (bare_block n levels) e) × (IsTrue (is_solid (bare_block n levels) f) × IsTrue (is_beside n e f))
  solid_both e f link = elim link [
    | inl old ↦ let l = linked_parts n levels₀ e f old in (solid_still e l.from, (solid_still f l.to, l.beside))
    | inr new ↦ let l = linked_parts n levels e f new in (l.from, (l.to, l.beside))
  ]

  module _ (b : ℕ) (off : (j : ℕ) (d : Affected) → j < length affected → IsOffBorder n levels labels b (get_or affected j d)) where
    -- around an affected point next to one of the band, all labels are its old one
    label_around : (e x z : ℕ) → (b * 32) * n ≤ e → e < (b * 32 + 32) * n → e ≤ x → IsTrue (is_beside n e x) → IsListed affected x (slice_index labels₀ x) → IsTrue (is_solid (bare_block n levels) z) → IsTrue (is_beside n x z) → slice_index labels z ≡ slice_index labels₀ x
    label_around e x z low high before beside a on near =
        let d : Affected = record { point = 0; label = 0 } in
        let at : x ≡ (get_or affected a.0 d).point = sym (a.1.1 d).0 in
        off a.0 d a.1.0 e z low high (subst (λ y. e ≤ y) at before) (subst (λ y. IsTrue (is_beside n e y)) at beside) (solid_below n levels z on) (subst (λ y. IsTrue (is_beside n y z)) at near) (marked_if z on)
        ∙ (a.1.1 d).1

    still_between : (e f : ℕ) → (b * 32) * n ≤ e → e < (b * 32 + 32) * n → e < f → IsTrue (is_linked (bare_block n levels₀) e f) ⊎ IsTrue (is_linked (bare_block n levels) e f) → IsStillBetween n levels₀ levels labels₀ labels e f
    still_between e f low high later link =
        let on = solid_both e f link in
        let self = beside_itself n e in
        let back = beside_back n e f on.1.1 in
        let of_e : IsListed affected e (slice_index labels₀ e) → (z : ℕ) → IsTrue (is_solid (bare_block n levels) z) → IsTrue (is_beside n e z) → slice_index labels z ≡ slice_index labels₀ e = λ a z. label_around e e z low high (omega arith) self a in
        let of_f : IsListed affected f (slice_index labels₀ f) → (z : ℕ) → IsTrue (is_solid (bare_block n levels) z) → IsTrue (is_beside n f z) → slice_index labels z ≡ slice_index labels₀ f = λ a z. label_around e f z low high (omega arith) on.1.1 a in
        elim (listed.others e) [
          | inl same_e ↦ elim (listed.others f) [
            | inl same_f ↦ inl (same_e, same_f)
            | inr a ↦ (let now_e = of_f a e on.0 back in let now_f = of_f a f on.1.0 (beside_itself n f) in inr (sym same_e.1 ∙ now_e, now_e ∙ sym now_f))
          ]
          | inr a ↦ (
              let now_e = of_e a e on.0 self in
              let now_f = of_e a f on.1.0 on.1.1 in
              elim (listed.others f) [
                | inl same_f ↦ inr (sym now_f ∙ same_f.1, now_e ∙ sym now_f)
                | inr a' ↦ inr (sym now_f ∙ of_f a' f on.1.0 (beside_itself n f), now_e ∙ sym now_f)
              ]
              )
        ]

    pub band_still : (found : List Spill) → AreOfBand n levels₀ labels₀ b found → AreOfBand n levels labels b found
    band_still = range_stays n levels₀ levels labels₀ labels ((b * 32) * n) ((b * 32 + 32) * n) still_between
