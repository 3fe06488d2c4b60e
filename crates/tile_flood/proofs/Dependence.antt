-- What a labelling keeps when a height changes. Also: carried levels that no link can lower are a labelling.
use Rattle.std.proofs.Common.{rules}
use Rattle.std.proofs.Common.{◌≡◌, ◌≢◌, ℕ, ◌+◌, ◌*◌, ◌/◌, ◌%◌, ◌<◌, ◌≤◌, ℤ, ◌≤ℤ◌, Bool, true, false, not, ◌-◌, IsTrue, List, [], ◌∷◌, length, get_or, set, get_or-set_same, slice_index, inl, inr, refl, sym, ap, ap₂, ◌∙◌, subst, arith, true≢false, ◌&&◌, ◌||◌, nat_eq, nat_lt, lt-ltb}
use Rattle.tile_flood.proofs.Prelude.{AreCarried, AreRelaxed, IsCarriedBy, IsFilledLevel, IsInWindow, IsLabelling, IsPath, LeadsOut, Names, and_from, around, bare_block, block_is_lawful, block_of, block_terrain, cases_Bool, cases_lt, crest, end_of, get_or_past, int_max, is_beside, is_exit, is_inner_outlet, is_linked, is_marked, is_rim, is_sink_at, is_solid, le-max_left, le-max_right, list_all, max-le, max_one_of, void, ≤ℤ_same, ≤ℤ_trans}
use Rattle.labelling.specs.Labelling.{IsLabelAt, OUT}
use Rattle.tile_flood.specs.Carried.{IsCarried}
use Rattle.labelling.proofs.Squares.{not_void_if, test_if, linked_parts, solid_height, solid_below, row_of_cell, column_of_cell, apart_of, beside_if}

-- the path along which a label is carried
module _ (n : ℕ) (heights : List ℤ) (sinks : List ℕ) (levels : List ℤ) (labels : List ℕ) where
  pub record Reaches (e : ℕ) (rest : List ℕ) : Type 0 where
    pub path : IsPath (block_terrain (block_of n heights sinks)) e rest
    pub crest_is : crest (block_terrain (block_of n heights sinks)) e rest ≡ get_or levels e void
    pub exit : IsTrue (is_exit (block_of n heights sinks) (end_of (block_terrain (block_of n heights sinks)) e rest))
    pub names : Names (block_of n heights sinks) (slice_index labels e) (end_of (block_terrain (block_of n heights sinks)) e rest)

  pub reaches : (e : ℕ) (rest : List ℕ) → IsCarriedBy (block_of n heights sinks) levels labels e rest → Reaches e rest
  reaches e [] by = record {
    path = (block_is_lawful (block_of n heights sinks)).outlet_ground e by.exit;
    crest_is = sym by.level;
    exit = by.exit;
    names = by.names;
  }
  reaches e (f ∷ rest) by =
      let on = reaches f rest by.1 in
      record {
        path = (by.0.link, on.path);
        crest_is = ap (int_max (get_or heights e void)) on.crest_is ∙ sym by.0.level;
        exit = on.exit;
        names = subst (λ l. Names (block_of n heights sinks) l (end_of (block_terrain (block_of n heights sinks)) f rest)) (sym by.0.label) on.names;
      }

  -- the label of an inner outlet is OUT
  out_if : (e : ℕ) (rest : List ℕ) → IsCarriedBy (block_of n heights sinks) levels labels e rest → IsTrue (is_inner_outlet (block_of n heights sinks) e) → slice_index labels e ≡ OUT
  out_if e [] by inner = by.inner_outlet inner
  out_if e (f ∷ rest) by inner = absurd (true≢false (sym (exit_if (is_solid (bare_block n heights) e && is_rim n e) inner) ∙ by.0.inner))
    where
      exit_if : {b : Bool} (a : Bool) → IsTrue b → IsTrue (a || b)
      exit_if true h = refl
      exit_if false h = h

  pub label_at : (e : ℕ) → IsCarried (block_of n heights sinks) levels labels e → IsLabelAt (block_of n heights sinks) e (get_or levels e void) (slice_index labels e)
  label_at e by =
      let r = reaches e by.0 by.1 in
      record { way = (by.0, (r.path, (r.crest_is, (r.exit, r.names)))); inner_outlet = out_if e by.0 by.1 }

  -- a carried level that is a lower bound is the filled level
  pub filled_if : (e : ℕ) → IsCarried (block_of n heights sinks) levels labels e → ((rest : List ℕ) → LeadsOut (block_terrain (block_of n heights sinks)) e rest → get_or levels e void ≤ℤ crest (block_terrain (block_of n heights sinks)) e rest) →
      IsFilledLevel (block_terrain (block_of n heights sinks)) e (get_or levels e void)
  filled_if e by least =
      let r = reaches e by.0 by.1 in
      record { reached = (by.0, (record { path = r.path; outlet = r.exit }, r.crest_is)); least = least }

-- tests with the same results give the same result for all points
all_same : (f g : ℕ → Bool) (xs : List ℕ) → ((x : ℕ) → f x ≡ g x) → list_all f xs ≡ list_all g xs
all_same f g [] same = refl
all_same f g (x ∷ xs) same = ap₂ (λ a b. a && b) (same x) (all_same f g xs same)

-- two blocks with the same ground and the same sinks
module _ (n : ℕ) (heights₀ heights : List ℤ) (sinks : List ℕ) (same : (e : ℕ) → is_solid (block_of n heights₀ sinks) e ≡ is_solid (block_of n heights sinks) e) where
  pub same_inner : (e : ℕ) → is_inner_outlet (block_of n heights₀ sinks) e ≡ is_inner_outlet (block_of n heights sinks) e
  same_inner e = ap₂ (λ a b. a && not (is_rim n e) && (not b || is_sink_at (block_of n heights sinks) e)) (same e)
      (all_same (is_solid (block_of n heights₀ sinks)) (is_solid (block_of n heights sinks)) (around n e) same)

  pub same_exit : (e : ℕ) → is_exit (block_of n heights₀ sinks) e ≡ is_exit (block_of n heights sinks) e
  same_exit e = ap₂ (λ a b. (a && is_rim n e) || b) (same e) (same_inner e)

  pub same_link : (e f : ℕ) → is_linked (block_of n heights₀ sinks) e f ≡ is_linked (block_of n heights sinks) e f
  same_link e f = ap₂ (λ a b. a && b && not (nat_eq e f) && is_beside n e f) (same e) (same f)

  pub same_names : (label e : ℕ) → Names (block_of n heights₀ sinks) label e → Names (block_of n heights sinks) label e
  same_names label e (inl rim) = inl rim
  same_names label e (inr out) = inr (sym (same_inner e) ∙ out.0, out.1)

-- a ground point's index is within the list
pub solid_inside : (n : ℕ) (heights : List ℤ) (sinks : List ℕ) (e : ℕ) → IsTrue (is_solid (block_of n heights sinks) e) → e < length heights
solid_inside n heights sinks e solid = elim (cases_lt e (length heights)) [
  | inl below ↦ below
  | inr beyond ↦ absurd (solid_height n heights e solid (get_or_past heights e void beyond))
]

-- a ground point with a new height is still ground
module _ (n : ℕ) (heights : List ℤ) (sinks : List ℕ) (e : ℕ) (h : ℤ) (inside : e < length heights) (ground : IsTrue (is_solid (block_of n heights sinks) e)) (full : h ≢ void) where
  still_ground : IsTrue (is_solid (block_of n (set heights e h) sinks) e)
  still_ground = and_from (nat_lt e (n * n)) (is_marked (set heights e h) e) (lt-ltb e (n * n) (solid_below n heights e ground)) (test_if (get_or (set heights e h) e void) (subst (λ v. v ≢ void) (sym (get_or-set_same heights e h void inside)) full))

  pub same_ground : (z : ℕ) → is_solid (block_of n heights sinks) z ≡ is_solid (block_of n (set heights e h) sinks) z
  same_ground z = search rules

-- a neighbour of e is one of the nine points of its window
pub window_point_of : (n e y : ℕ) → IsTrue (is_beside n e y) → (d : ℕ) × ((d < 9) × IsInWindow n e d y)
window_point_of n e y beside =
    let a = apart_of n e y beside in
    let r = y / n + 1 - e / n in
    let q = y % n + 1 - e % n in
    let r_small : r < 3 = omega arith in
    let q_small : q < 3 = omega arith in
    let row : (r * 3 + q) / 3 ≡ r = row_of_cell 3 r q q_small in
    let column : (r * 3 + q) % 3 ≡ q = column_of_cell 3 r q q_small in
    (r * 3 + q, (omega arith, (omega arith, omega arith)))

-- each of the nine points of a window is next to its centre
pub window_beside : (n e d z : ℕ) → d < 9 → IsInWindow n e d z → IsTrue (is_beside n e z)
window_beside n e d z small spot = search rules

pub beside_itself : (n e : ℕ) → IsTrue (is_beside n e e)
beside_itself n e = beside_if n e e (record { north = omega arith; south = omega arith; west = omega arith; east = omega arith })

pub beside_back : (n e f : ℕ) → IsTrue (is_beside n e f) → IsTrue (is_beside n f e)
beside_back n e f beside = search rules

-- a window has one point at each place
pub one_window_point : (n e d y z : ℕ) → IsInWindow n e d y → IsInWindow n e d z → y ≡ z
one_window_point n e d y z a b = search rules

pub max_mono : (a b c d : ℤ) → a ≤ℤ c → b ≤ℤ d → int_max a b ≤ℤ int_max c d
max_mono a b c d ac bd = max-le a b (int_max c d) (≤ℤ_trans a c (int_max c d) ac (le-max_left c d)) (≤ℤ_trans b d (int_max c d) bd (le-max_right c d))

-- the points that a carried labelling gives a level
module _ (n : ℕ) (heights : List ℤ) (sinks : List ℕ) (levels : List ℤ) (labels : List ℕ) (labelling : IsLabelling (block_of n heights sinks) levels labels) (carried : AreCarried (block_of n heights sinks) levels labels) where
  full_by : (e : ℕ) (rest : List ℕ) → IsTrue (is_solid (block_of n heights sinks) e) → IsCarriedBy (block_of n heights sinks) levels labels e rest → get_or levels e void ≢ void
  full_by e [] solid by none = solid_height n heights e solid (sym by.level ∙ none)
  full_by e (f ∷ rest) solid by none = elim (max_one_of (get_or heights e void) (get_or levels f void)) [
    | inl h ↦ solid_height n heights e solid (sym h ∙ (sym by.0.level ∙ none))
    | inr h ↦ by.0.full (sym h ∙ (sym by.0.level ∙ none))
  ]

  pub full_at : (e : ℕ) → IsTrue (is_solid (block_of n heights sinks) e) → IsTrue (is_marked levels e)
  full_at e solid = let by = carried e solid in test_if (get_or levels e void) (full_by e by.0 solid by.1)

  pub solid_at : (e : ℕ) → IsTrue (is_marked levels e) → IsTrue (is_solid (block_of n heights sinks) e)
  solid_at e on = elim (cases_Bool (is_solid (block_of n heights sinks) e)) [
    | inl solid ↦ solid
    | inr gap ↦ elim (cases_lt e (n * n)) [
      | inl below ↦ absurd (not_void_if levels e on (labelling.void_points e below gap).0)
      | inr beyond ↦ absurd (not_void_if levels e on (get_or_past levels e void (subst (λ k. k ≤ e) (sym labelling.levels_whole) beyond)))
    ]
  ]

-- relaxed levels are lower bounds of crests
pub relaxed_least : (n : ℕ) (heights : List ℤ) (sinks : List ℕ) (levels : List ℤ) → AreRelaxed (block_of n heights sinks) levels → (e : ℕ) (rest : List ℕ) → LeadsOut (block_terrain (block_of n heights sinks)) e rest →
    get_or levels e void ≤ℤ crest (block_terrain (block_of n heights sinks)) e rest
relaxed_least n heights sinks levels s e [] way = s.exits e way.outlet
relaxed_least n heights sinks levels s e (f ∷ rest) way =
    ≤ℤ_trans (get_or levels e void) (int_max (get_or heights e void) (get_or levels f void)) (int_max (get_or heights e void) (crest (block_terrain (block_of n heights sinks)) f rest))
    (s.links f e ((block_is_lawful (block_of n heights sinks)).both_ways e f way.path.0))
    (max_mono (get_or heights e void) (get_or levels f void) (get_or heights e void) (crest (block_terrain (block_of n heights sinks)) f rest) (≤ℤ_same (get_or heights e void))
    (relaxed_least n heights sinks levels s f rest (record { path = way.path.1; outlet = way.outlet })))

-- a labelling's levels are relaxed
pub labelling_relaxed : (n : ℕ) (heights : List ℤ) (sinks : List ℕ) (levels : List ℤ) (labels : List ℕ) → IsLabelling (block_of n heights sinks) levels labels → AreRelaxed (block_of n heights sinks) levels
labelling_relaxed n heights sinks levels labels labelling = record {
  exits = λ e out. let solid = (block_is_lawful (block_of n heights sinks)).outlet_ground e out in (labelling.level e solid).least [] (record { path = solid; outlet = out });
  links = λ x y link.
      let back = (block_is_lawful (block_of n heights sinks)).both_ways x y link in
      let l = linked_parts n heights x y link in
      let from_x = (labelling.level x l.from).reached in
      subst (λ v. get_or levels y void ≤ℤ int_max (get_or heights y void) v) from_x.1.1
      ((labelling.level y l.to).least (x ∷ from_x.0) (record { path = (back, from_x.1.0.path); outlet = from_x.1.0.outlet }));
}
