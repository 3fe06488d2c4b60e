-- The levels and labels that a list of cells contains.
use Rattle.std.proofs.Common.{rules}
use Rattle.tile_flood.proofs.Prelude.{AreCells, Cell, Decides-int_eq, IsOwnLabel, IsTrue, List, NO_LABEL, ℕ, ℤ, and_from, ap, arith, bare_block, block_of, cases_Bool, cases_eq, cases_lt, eq-eqb, eqb-true, false, get_or, get_or-set_other, get_or-set_same, get_or_default, get_or_past, inl, inr, is_marked, is_solid, label_of, labels_of, length, length-map, length-set, level_of, levels_of, lt-ltb, nat_eq, nat_lt, not, pos, set, slice_index, subst, sym, true, true≢false, void, ◌*◌, ◌+◌, ◌<◌, ◌∙◌, ◌≡◌, ◌≢◌}
use Rattle.std.proofs.lemmas.List.{get_or-map, map-set}
use Rattle.lattice.specs.Limits.{IsSide}
use Rattle.tile_flood.specs.Cells.{OPEN, IsFresh, IsMark}
use Rattle.tile_flood.proofs.Steps.{unmarked_void}
use Rattle.labelling.proofs.Squares.{not_void_if, test_if, solid_height, solid_below}
use Rattle.labelling.proofs.Heights.{rim_number_below}

abbrev pub none : Cell
none = record { level = pos 0; label = 0 }

pub void_if : (cell : Cell) → cell.label ≡ OPEN → (level_of cell ≡ void) × (label_of cell ≡ NO_LABEL)
void_if cell is = search rules

pub value_if : (cell : Cell) → cell.label ≢ OPEN → (level_of cell ≡ cell.level) × (label_of cell ≡ cell.label)
value_if cell other = search rules

module _ (cells : List Cell) (e : ℕ) (d : Cell) (inside : e < length cells) where
  pub level_at : get_or (levels_of cells) e void ≡ level_of (get_or cells e d)
  level_at = get_or-map level_of cells e d void inside

  pub label_at : slice_index (labels_of cells) e ≡ label_of (get_or cells e d)
  label_at = get_or-map label_of cells e d 0 inside

  -- an open point isn't marked
  pub off_if : (get_or cells e d).label ≡ OPEN → is_marked (levels_of cells) e ≡ false
  off_if is = ap not ((Decides-int_eq (get_or (levels_of cells) e void) void).1 (level_at ∙ (void_if (get_or cells e d) is).0))

  -- a marked point isn't open
  pub closed_if : IsTrue (is_marked (levels_of cells) e) → (get_or cells e d).label ≢ OPEN
  closed_if on is = true≢false (sym on ∙ off_if is)

-- a point gets a level and a label
module _ (cells : List Cell) (e : ℕ) (cell : Cell) (labelled : cell.label ≢ NO_LABEL) (closed : cell.label ≢ OPEN) where
  pub set_levels : levels_of (set cells e cell) ≡ set (levels_of cells) e cell.level
  set_levels = map-set level_of cells e cell ∙ ap (set (levels_of cells) e) (value_if cell closed).0

  pub set_labels : labels_of (set cells e cell) ≡ set (labels_of cells) e cell.label
  set_labels = map-set label_of cells e cell ∙ ap (set (labels_of cells) e) (value_if cell closed).1

  there : (f : ℕ) (d : Cell) → f ≢ e → get_or (set cells e cell) f d ≡ get_or cells f d
  there f d other = get_or-set_other cells e f cell d other

  pub set_cells : e < length cells → (heights : List ℤ) → AreCells heights cells → AreCells heights (set cells e cell)
  set_cells inside heights s = record {
    whole = length-set cells e cell ∙ s.whole;
    ground = λ f d below is. elim (cases_eq f e) [
      | inl same ↦ absurd (closed (sym (ap (λ c. c.label) (here f d same)) ∙ is))
      | inr other ↦
          let before = s.ground f d (subst (λ k. f < k) (length-set cells e cell) below) (sym (ap (λ c. c.label) (there f d other)) ∙ is) in
          (ap (λ c. c.level) (there f d other) ∙ before.0, before.1)
    ];
    gaps = λ f d below is. elim (cases_eq f e) [
      | inl same ↦ absurd (labelled (sym (ap (λ c. c.label) (here f d same)) ∙ is))
      | inr other ↦ s.gaps f d (subst (λ k. f < k) (length-set cells e cell) below) (sym (ap (λ c. c.label) (there f d other)) ∙ is)
    ];
  }
    where
      here : (f : ℕ) (d : Cell) → f ≡ e → get_or (set cells e cell) f d ≡ cell
      here f d same = ap (λ k. get_or (set cells e cell) k d) same ∙ get_or-set_same cells e cell d inside

-- an outlet's own label is a real label
pub own_labelled : (n : ℕ) (heights : List ℤ) (sinks : List ℕ) (e label : ℕ) → IsSide n → e < n * n → IsOwnLabel (block_of n heights sinks) e label → (label ≢ NO_LABEL) × (label ≢ OPEN)
own_labelled n heights sinks e label side small own = elim own.names [
  | inl rim ↦
      let low = side.0 in
      let below = rim_number_below n e low small in
      (λ is. omega arith, λ is. omega arith)
  | inr inner ↦ let at = inner.1 in (λ is. omega arith, λ is. omega arith)
]

-- a ground point without a label
pub record IsOpen (n : ℕ) (heights : List ℤ) (cells : List Cell) (e : ℕ) : Type 0 where
  pub solid : IsTrue (is_solid (bare_block n heights) e)
  pub off : is_marked (levels_of cells) e ≡ false
  pub height : (d : Cell) → (get_or cells e d).level ≡ get_or heights e void

pub open_if : (n : ℕ) (heights : List ℤ) (cells : List Cell) (e : ℕ) → length heights ≡ n * n → AreCells heights cells → e < n * n → (cell : Cell) → cell ≡ get_or cells e none →
    nat_eq cell.label OPEN ≡ true → IsOpen n heights cells e
open_if n heights cells e whole s below cell is test =
    let inside : e < length cells = omega arith in
    let label : (get_or cells e none).label ≡ OPEN = sym (ap (λ c. c.label) is) ∙ eqb-true cell.label OPEN test in
    let ground = s.ground e none inside label in
    record {
      solid = and_from (nat_lt e (n * n)) (is_marked heights e) (lt-ltb e (n * n) below) (test_if (get_or heights e void) ground.1);
      off = off_if cells e none inside label;
      height = λ d. ap (λ c. c.level) (get_or_default cells e d none inside) ∙ ground.0;
    }

-- a ground point that isn't open is marked
pub marked_unless_open : (n : ℕ) (heights : List ℤ) (cells : List Cell) (e : ℕ) → length heights ≡ n * n → AreCells heights cells → (is_marked (levels_of cells) e ≡ false → slice_index (labels_of cells) e ≡ NO_LABEL) → e < n * n → (cell : Cell) → cell ≡ get_or cells e none →
    nat_eq cell.label OPEN ≡ false → IsTrue (is_solid (bare_block n heights) e) → IsTrue (is_marked (levels_of cells) e)
marked_unless_open n heights cells e whole s unlabelled below cell is test solid = elim (cases_Bool (is_marked (levels_of cells) e)) [
  | inl on ↦ on
  | inr off ↦
      let inside : e < length cells = omega arith in
      let closed : (get_or cells e none).label ≢ OPEN = λ same. true≢false (sym (eq-eqb cell.label OPEN (ap (λ c. c.label) is ∙ same)) ∙ test) in
      let label : (get_or cells e none).label ≡ NO_LABEL = sym (label_at cells e none inside ∙ (value_if (get_or cells e none) closed).1) ∙ unlabelled off in
      absurd (solid_height n heights e solid (s.gaps e none inside label))
]

-- the level and the label of a marked point satisfy `IsMark`
pub marked_mark : (n : ℕ) (heights : List ℤ) (cells : List Cell) (c : ℕ) → length heights ≡ n * n → AreCells heights cells → IsTrue (is_solid (bare_block n heights) c) → IsTrue (is_marked (levels_of cells) c) → IsMark (get_or (levels_of cells) c void) (slice_index (labels_of cells) c)
marked_mark n heights cells c whole s solid on =
    let below = solid_below n heights c solid in
    let inside : c < length cells = omega arith in
    let closed = closed_if cells c none inside on in
    let at : (get_or cells c none).label ≡ slice_index (labels_of cells) c = sym (label_at cells c none inside ∙ (value_if (get_or cells c none) closed).1) in
    (not_void_if (levels_of cells) c on, λ is. solid_height n heights c solid (s.gaps c none inside (at ∙ is)), λ is. closed (at ∙ is))

-- a marked point's label is in its cell
pub label_in_cell : (cells : List Cell) (e : ℕ) → e < length cells → IsTrue (is_marked (levels_of cells) e) → slice_index (labels_of cells) e ≡ (get_or cells e none).label
label_in_cell cells e inside on = label_at cells e none inside ∙ (value_if (get_or cells e none) (closed_if cells e none inside on)).1

-- lists that agree before place e agree before place e + 1 after setting that element
pub one_more : {X : Type 0} (d : X) (xs ys : List X) (e : ℕ) (v : X) → e < length xs → v ≡ get_or ys e d → ((f : ℕ) → f < e → get_or xs f d ≡ get_or ys f d) → (f : ℕ) → f < e + 1 → get_or (set xs e v) f d ≡ get_or ys f d
one_more d xs ys e v inside is before f below = search rules

-- the cells of a block before a flood
module _ (heights : List ℤ) (cells : List Cell) (whole : length cells ≡ length heights) (fresh : (f : ℕ) (d : Cell) → f < length heights → IsFresh heights f (get_or cells f d)) where
  pub fresh_cells : AreCells heights cells
  fresh_cells = record {
    whole = whole;
    ground = λ e d below is.
        let f = fresh e d (omega arith) in
        elim (cases_Bool (is_marked heights e)) [
          | inl on ↦ (f.level, not_void_if heights e on)
          | inr off ↦ let gap = f.gap off in absurd (omega arith)
        ];
    gaps = λ e d below is.
        let f = fresh e d (omega arith) in
        elim (cases_Bool (is_marked heights e)) [
          | inl on ↦ let ground = f.ground on in absurd (omega arith)
          | inr off ↦ unmarked_void heights e off
        ];
  }

  values : (e : ℕ) → e < length heights → (level_of (get_or cells e none) ≡ void) × (label_of (get_or cells e none) ≡ NO_LABEL)
  values e below = search rules

  pub fresh_level : (e : ℕ) → get_or (levels_of cells) e void ≡ void
  fresh_level e = elim (cases_lt e (length heights)) [
    | inl below ↦ level_at cells e none (omega arith) ∙ (values e below).0
    | inr past ↦ get_or_past (levels_of cells) e void (let long = length-map cells level_of in omega arith)
  ]

  pub fresh_label : (e : ℕ) → e < length heights → slice_index (labels_of cells) e ≡ NO_LABEL
  fresh_label e below = label_at cells e none (omega arith) ∙ (values e below).1
