-- Points of a block: rows and columns, adjacency, outlets, and a path from each ground point to an outlet.
use Rattle.std.proofs.Common.{rules}
use Rattle.std.proofs.Common.{◌≡◌, ◌≢◌, ℕ, zero, suc, ◌+◌, ◌*◌, ◌-◌, ◌/◌, ◌%◌, ◌<◌, ◌≤◌, ℤ, false, not, IsTrue, ◌&&◌, ◌||◌, List, [], ◌∷◌, get_or, sym, ap, ◌∙◌, arith, true≢false, nat_le, nat_lt, nat_eq, mod-lt, inl, inr, int_eq}
use Rattle.std.proofs.lemmas.Bool.Decides.{Decides-int_eq}
use Rattle.lattice.specs.Terrain.{LeadsOut}
use Rattle.std.proofs.lemmas.Bool.{and_from, cases_Bool, ne_eqb, or_left, or_right}
use Rattle.lattice.specs.Block.{around, block_terrain, is_beside, is_exit, is_inner_outlet, is_linked, is_rim, is_sink_at, is_solid}
use Rattle.labelling.specs.Blocks.{bare_block, block_of, is_marked}
use Rattle.std.specs.List.{list_all}
use Rattle.lattice.specs.Mosaic.{void}
use Rattle.std.proofs.lemmas.Bool.{and_parts, ltb-true, lt-ltb, leb-true, le-leb, and_left, and_right, eqb-false, or_parts}
use Rattle.std.proofs.lemmas.Nat.{rows}

pub not_void_if : (levels : List ℤ) (e : ℕ) → IsTrue (is_marked levels e) → get_or levels e void ≢ void
not_void_if levels e on h = absurd (true≢false (sym on ∙ ap not ((Decides-int_eq (get_or levels e void) void).1 h)))

pub test_if : (v : ℤ) → v ≢ void → IsTrue (not (int_eq v void))
test_if v ne = elim (cases_Bool (int_eq v void)) [ inl h ↦ absurd (ne ((Decides-int_eq v void).0 h)) | inr h ↦ ap not h ]

pub record Linked (n : ℕ) (heights : List ℤ) (e f : ℕ) : Type 0 where
  pub from : IsTrue (is_solid (bare_block n heights) e)
  pub to : IsTrue (is_solid (bare_block n heights) f)
  pub apart : IsTrue (not (nat_eq e f))
  pub beside : IsTrue (is_beside n e f)

pub linked_parts : (n : ℕ) (heights : List ℤ) (e f : ℕ) → IsTrue (is_linked (bare_block n heights) e f) → Linked n heights e f
linked_parts n heights e f h = search rules

pub linked_from : (n : ℕ) (heights : List ℤ) (e f : ℕ) → Linked n heights e f → IsTrue (is_linked (bare_block n heights) e f)
linked_from n heights e f l = search rules

pub solid_height : (n : ℕ) (heights : List ℤ) (e : ℕ) → IsTrue (is_solid (bare_block n heights) e) → get_or heights e void ≢ void
solid_height n heights e h = not_void_if heights e (and_parts (nat_lt e (n * n)) (is_marked heights e) h).1

pub solid_below : (n : ℕ) (heights : List ℤ) (e : ℕ) → IsTrue (is_solid (bare_block n heights) e) → e < n * n
solid_below n heights e h = ltb-true e (n * n) (and_parts (nat_lt e (n * n)) (is_marked heights e) h).0

pub solid_if : (n : ℕ) (heights : List ℤ) (e : ℕ) → e < n * n → int_eq (get_or heights e void) void ≡ false → IsTrue (is_solid (bare_block n heights) e)
solid_if n heights e below off = and_from (nat_lt e (n * n)) (is_marked heights e) (lt-ltb e (n * n) below) (ap not off)

pub row_of_cell : (n i j : ℕ) → j < n → (i * n + j) / n ≡ i
row_of_cell n i j h = grind (arith, rows)

pub column_of_cell : (n i j : ℕ) → j < n → (i * n + j) % n ≡ j
column_of_cell n i j h = grind (arith, rows)

pub cell_of : (n z : ℕ) → z ≡ (z / n) * n + z % n
cell_of n z = grind (arith, rows)

pub row_below : (n z : ℕ) → z < n * n → z / n < n
row_below n z h = grind (arith, rows)

pub in_square : (n i j : ℕ) → i < n → j < n → i * n + j < n * n
in_square n i j row column = grind (arith, rows)

pub linked_below : (n : ℕ) (heights : List ℤ) (c z : ℕ) → IsTrue (is_linked (bare_block n heights) c z) → z < n * n
linked_below n heights c z link = solid_below n heights z (linked_parts n heights c z link).to

-- the rows and columns of two linked points differ by at most one
pub record Apart (n c z : ℕ) : Type 0 where
  pub north : c / n ≤ z / n + 1
  pub south : z / n ≤ c / n + 1
  pub west : c % n ≤ z % n + 1
  pub east : z % n ≤ c % n + 1

pub apart_of : (n c z : ℕ) → IsTrue (is_beside n c z) → Apart n c z
apart_of n c z h = search rules

pub linked_apart : (n : ℕ) (heights : List ℤ) (c z : ℕ) → IsTrue (is_linked (bare_block n heights) c z) → Apart n c z
linked_apart n heights c z h = apart_of n c z (linked_parts n heights c z h).beside

pub beside_if : (n c z : ℕ) → Apart n c z → IsTrue (is_beside n c z)
beside_if n c z a = search rules

-- the point above a point that isn't in the first row
pub record North (n e : ℕ) : Type 0 where
  pub row : (e - n) / n + 1 ≡ e / n
  pub column : (e - n) % n ≡ e % n
  pub inside : n ≤ e

north : (n e : ℕ) → 0 < n → 1 ≤ e / n → North n e
north n e some high =
    let below : e % n < n = mod-lt e some in
    let row : e / n ≡ (e / n - 1) + 1 = omega arith in
    let cell : e ≡ ((e / n - 1) + 1) * n + e % n = cell_of n e ∙ ap (λ r. r * n + e % n) row in
    let above : e - n ≡ (e / n - 1) * n + e % n = omega arith in
    let at_row : (e - n) / n ≡ e / n - 1 = ap (λ v. v / n) above ∙ row_of_cell n (e / n - 1) (e % n) below in
    record {
      row = omega arith;
      column = ap (λ v. v % n) above ∙ column_of_cell n (e / n - 1) (e % n) below;
      inside = omega arith;
    }

inner_high : (n e : ℕ) → is_rim n e ≡ false → 1 ≤ e / n
inner_high n e inner = search rules

linked_north : (n : ℕ) (heights : List ℤ) (e : ℕ) → 0 < n → is_rim n e ≡ false → IsTrue (is_solid (bare_block n heights) e) → IsTrue (is_solid (bare_block n heights) (e - n)) → IsTrue (is_linked (bare_block n heights) e (e - n))
linked_north n heights e some inner solid above =
    let o = north n e some (inner_high n e inner) in
    let a = o.row in let b = o.column in let d = o.inside in
    linked_from n heights e (e - n) (record {
      from = solid;
      to = above;
      apart = ap not (ne_eqb e (e - n) (λ h. absurd (omega arith)));
      beside = beside_if n e (e - n) (record { north = omega arith; south = omega arith; west = omega arith; east = omega arith });
    })

-- when a point is an outlet of its block, and its own label
module _ (n : ℕ) (heights : List ℤ) (sinks : List ℕ) (e : ℕ) where
  pub rim_is_exit : IsTrue (is_solid (bare_block n heights) e) → IsTrue (is_rim n e) → IsTrue (is_exit (block_of n heights sinks) e)
  rim_is_exit solid rim = or_left (is_solid (bare_block n heights) e && is_rim n e) (is_inner_outlet (block_of n heights sinks) e) (and_from (is_solid (bare_block n heights) e) (is_rim n e) solid rim)

  -- a point off the rim that is next to a void or is a sink
  pub inner_at : IsTrue (is_solid (bare_block n heights) e) → is_rim n e ≡ false →
      IsTrue (not (list_all (is_solid (bare_block n heights)) (around n e)) || is_sink_at (block_of n heights sinks) e) → IsTrue (is_inner_outlet (block_of n heights sinks) e)
  inner_at solid off out = search rules

  -- a point off the rim that is next to a void
  inner_from : IsTrue (is_solid (bare_block n heights) e) → is_rim n e ≡ false → list_all (is_solid (bare_block n heights)) (around n e) ≡ false → IsTrue (is_inner_outlet (block_of n heights sinks) e)
  inner_from solid off gap = inner_at solid off (or_left (not (list_all (is_solid (bare_block n heights)) (around n e))) (is_sink_at (block_of n heights sinks) e) (ap not gap))

  pub inner_is_exit : IsTrue (is_solid (bare_block n heights) e) → is_rim n e ≡ false → list_all (is_solid (bare_block n heights)) (around n e) ≡ false → IsTrue (is_exit (block_of n heights sinks) e)
  inner_is_exit solid off gap = or_right (is_solid (bare_block n heights) e && is_rim n e) (is_inner_outlet (block_of n heights sinks) e) (inner_from solid off gap)

-- from each ground point a path north leads to an outlet
pub leads : (n : ℕ) (heights : List ℤ) (sinks : List ℕ) (k e : ℕ) → 0 < n → e / n < k → IsTrue (is_solid (bare_block n heights) e) → (rest : List ℕ) × LeadsOut (block_terrain (block_of n heights sinks)) e rest
leads n heights sinks zero e some low solid = absurd (omega arith)
leads n heights sinks (suc k) e some low solid = elim (cases_Bool (is_rim n e)) [
  | inl rim ↦ ([], record { path = solid; outlet = rim_is_exit n heights sinks e solid rim })
  | inr inner ↦ elim (cases_Bool (is_solid (bare_block n heights) (e - n))) [
    | inl above ↦
        let o = north n e some (inner_high n e inner) in
        let row : (e - n) / n + 1 ≡ e / n = o.row in
        let rest = leads n heights sinks k (e - n) some (omega arith) above in
        ((e - n) ∷ rest.0, record { path = (linked_north n heights e some inner solid above, rest.1.path); outlet = rest.1.outlet })
    | inr gap ↦ (
      [],
      record {
        path = solid;
        outlet = inner_is_exit n heights sinks e solid inner (and_right (is_solid (bare_block n heights) (e - n - 1)) (list_all (is_solid (bare_block n heights)) ((e - n) ∷ (e - n + 1) ∷ (e - 1) ∷ (e + 1) ∷ (e + n - 1) ∷ (e + n) ∷ (e + n + 1) ∷ []))
            (and_left (is_solid (bare_block n heights) (e - n)) (list_all (is_solid (bare_block n heights)) ((e - n + 1) ∷ (e - 1) ∷ (e + 1) ∷ (e + n - 1) ∷ (e + n) ∷ (e + n + 1) ∷ [])) gap));
      },
    )
  ]
]

pub apart_if : (z y : ℕ) → IsTrue (not (nat_eq z y)) → z ≡ y → ⊥
apart_if z y apart is = elim (cases_Bool (nat_eq z y)) [ inl is_so ↦ true≢false (sym apart ∙ ap not is_so) | inr isnt ↦ eqb-false z y isnt is ]
