-- The levels and labels of a valid labelling fit each other.
use Rattle.std.proofs.Common.{rules}
use Rattle.std.proofs.Common.{◌≡◌, ◌≢◌, inl, inr, ℕ, ◌+◌, ◌-◌, ◌*◌, ◌<◌, ◌≤◌, ℤ, ◌≤ℤ◌, IsTrue, List, [], ◌∷◌, ◌++◌, length, length-append, get_or, slice_index, Some, None, sym, ap, ◌∙◌, subst, arith, true≢false, nat_eq}
use Rattle.std.proofs.lemmas.Bool.{cases_Bool, cases_lt, cond-true, cond-false, eqb-true, eqb-false}
use Rattle.std.proofs.lemmas.Bool.Decides.{Decides-int_eq}
use Rattle.std.proofs.lemmas.List.{get_or_append_left}
use Rattle.std.proofs.Math.Seq.{get_or-append_seam}
use Rattle.lattice.specs.Block.{block_terrain, is_solid, is_rim, rim_number}
use Rattle.lattice.specs.Mosaic.{void, is_void}
use Rattle.lattice.specs.RimPoints.{IsRimPoint}
use Rattle.lattice.specs.Terrain.{end_of}
use Rattle.lattice.specs.Limits.{largest_side}
use Rattle.lattice.proofs.Lawful.{block_is_lawful}
use Rattle.lattice.proofs.RimNumbers.{one_index}
use Rattle.labelling.specs.Blocks.{block_of, bare_block}
use Rattle.labelling.specs.Labelling.{IsLabelling, OUT, NO_LABEL}
use Rattle.labelling.specs.Raising.{raised_level}
use Rattle.labelling.proofs.Passages.{not_void, solid_has_level}
use Rattle.labelling.proofs.Heights.{rim_number_below}
use Rattle.tile_flood.proofs.Raised.{raised_over, raised_out, raised_void}
use Rattle.labelling.proofs.Squares.{solid_below}
use Rattle.tile_labellings.specs.Labellings.{AreLevelsOfRim}

none_is_some : {A : Type 0} {x : A} → Some x ≡ None → ⊥
none_is_some h = cc

module _ (n : ℕ) (heights : List ℤ) (sinks : List ℕ) (levels : List ℤ) (labels : List ℕ) (low : 3 ≤ n) (high : n ≤ largest_side) (least : (e : ℕ) → void ≤ℤ get_or heights e void)
    (is : IsLabelling (block_of n heights sinks) levels labels) (rim : List ℤ) (of_rim : AreLevelsOfRim n levels rim) where
  -- a label that names a ground rim point
  over_rim : (e : ℕ) → IsTrue (is_solid (bare_block n heights) e) → (r : ℕ) → IsTrue (is_solid (bare_block n heights) r) → IsTrue (is_rim n r) → slice_index labels e ≡ rim_number n r
      → raised_level rim (get_or levels e void) (slice_index labels e) ≢ None
  over_rim e solid r on on_rim label none =
      let inside = solid_below n heights r on in
      let small : rim_number n r < 4 * (n - 1) = rim_number_below n r low inside in
      let some : slice_index labels e ≢ NO_LABEL = λ same. absurd (omega arith) in
      let inner : slice_index labels e ≢ OUT = λ same. absurd (omega arith) in
      let at : get_or rim (slice_index labels e) void ≡ get_or levels r void = ap (λ k. get_or rim k void) label ∙ of_rim.each r inside on_rim in
      let there : get_or rim (slice_index labels e) void ≢ void = λ same. solid_has_level n heights sinks levels labels least is r on (sym at ∙ same) in
      none_is_some (sym (raised_over rim (get_or levels e void) (slice_index labels e) some (solid_has_level n heights sinks levels labels least is e solid) inner there) ∙ none)

  pub marks_fit : (e : ℕ) → e < n * n → raised_level rim (get_or levels e void) (slice_index labels e) ≢ None
  marks_fit e small none = elim (cases_Bool (is_solid (bare_block n heights) e)) [
    | inl solid ↦
        let label = is.label e solid in
        let last = end_of (block_terrain (block_of n heights sinks)) e label.way.0 in
        let on : IsTrue (is_solid (bare_block n heights) last) = (block_is_lawful (block_of n heights sinks)).outlet_ground last label.way.1.1.1.0 in
        elim label.way.1.1.1.1 [
          | inl named ↦ over_rim e solid last on named.0 named.1 none
          | inr out ↦ none_is_some (sym (raised_out rim (get_or levels e void) (slice_index labels e) out.1 (solid_has_level n heights sinks levels labels least is e solid)) ∙ none)
        ]
    | inr off ↦
        let gap = is.void_points e small off in
        none_is_some (sym (raised_void rim (get_or levels e void) (slice_index labels e) gap.1 gap.0) ∙ none)
  ]

-- ---- the levels of a rim, one after another

pub record AreFirstOfRim (n : ℕ) (levels rim : List ℤ) (count : ℕ) : Type 0 where
  pub whole : length rim ≡ count
  pub each : (k e : ℕ) → k < count → IsRimPoint n k e → get_or rim k void ≡ get_or levels e void

pub one_more_level : (n : ℕ) (levels rim : List ℤ) (count e : ℕ) (level : ℤ) → 3 ≤ n → IsRimPoint n count e → level ≡ get_or levels e void → AreFirstOfRim n levels rim count
    → AreFirstOfRim n levels (rim ++ level ∷ []) (count + 1)
one_more_level n levels rim count e level low here is done = record {
  whole = length-append rim (level ∷ []) ∙ ap (λ k. k + 1) done.whole;
  each = λ k f less point. elim (cases_lt k count) [
    | inl earlier ↦ get_or_append_left rim (level ∷ []) void k (subst (λ c. k < c) (sym done.whole) earlier) ∙ done.each k f earlier point
    | inr later ↦
        let last : k ≡ count = omega arith in
        let same : e ≡ f = one_index n count e f low here (subst (λ j. IsRimPoint n j f) last point) in
        ap (λ j. get_or (rim ++ level ∷ []) j void) (last ∙ sym done.whole) ∙ (get_or-append_seam rim level [] void ∙ (is ∙ ap (λ i. get_or levels i void) same))
  ];
}

-- ---- a label that fits some level fits any level

pub any_level : (rim : List ℤ) (label : ℕ) (level other : ℤ) → level ≢ void → other ≢ void → raised_level rim level label ≢ None → raised_level rim other label ≢ None
any_level rim label level other full full' some none = search rules

-- each point so far fits its label, and so does one more
pub one_more_fits : (rim levels : List ℤ) (labels : List ℕ) (k : ℕ) → raised_level rim (get_or levels k void) (slice_index labels k) ≢ None → ((e : ℕ) → e < k → raised_level rim (get_or levels e void) (slice_index labels e) ≢ None)
    → (e : ℕ) → e < k + 1 → raised_level rim (get_or levels e void) (slice_index labels e) ≢ None
one_more_fits rim levels labels k here fit e less = elim (cases_lt e k) [
  | inl earlier ↦ fit e earlier
  | inr later ↦ let same : k ≡ e = omega arith in subst (λ j. raised_level rim (get_or levels j void) (slice_index labels j) ≢ None) same here
]
