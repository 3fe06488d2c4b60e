-- The outlets of a mosaic are the ground points with fewer than eight adjacent points, and the sinks.
use Rattle.std.proofs.Common.{◌≡◌, ℕ, ◌<◌, ◌≤◌, ℤ, Bool, cond, arith, true, false, ◌&&◌, ◌||◌, IsTrue, IsFalse, ap, ◌∙◌, nat_lt, count_by}
use Rattle.flow_d8.proofs.Prelude.{Dir, East, North, NorthEast, NorthWest, Point, South, SouthEast, SouthWest, Terrain, West, directions, nat_tests, step}

at_most_one : (a : Bool) → cond a 1 0 ≤ 1
at_most_one true = omega arith
at_most_one false = omega arith

few : (n : ℕ) → n < 8 → nat_lt n 8 ≡ true
few n small = grind (arith, nat_tests)

many : (n : ℕ) → 8 ≤ n → nat_lt n 8 ≡ false
many n large = grind (arith, nat_tests)

module _ (adjacent : Point → Point → Bool) (p : Point) where
  abbrev has : Dir → ℕ
  has d = cond (adjacent p (step d p)) 1 0

  one : (d : Dir) → has d ≤ 1
  one d = at_most_one (adjacent p (step d p))

  -- if the neighbour in one direction isn't adjacent, fewer than eight points are
  pub fewer : (d : Dir) → IsFalse (adjacent p (step d p)) → nat_lt (count_by (λ e. adjacent p (step e p)) directions) 8 ≡ true
  fewer d gap = few (count_by (λ e. adjacent p (step e p)) directions) (less d (ap (λ b. cond b 1 0) gap))
    where
      less : (d : Dir) → has d ≡ 0 → count_by (λ e. adjacent p (step e p)) directions < 8
      less East none = omega (arith, one SouthEast, one South, one SouthWest, one West, one NorthWest, one North, one NorthEast)
      less SouthEast none = omega (arith, one East, one South, one SouthWest, one West, one NorthWest, one North, one NorthEast)
      less South none = omega (arith, one East, one SouthEast, one SouthWest, one West, one NorthWest, one North, one NorthEast)
      less SouthWest none = omega (arith, one East, one SouthEast, one South, one West, one NorthWest, one North, one NorthEast)
      less West none = omega (arith, one East, one SouthEast, one South, one SouthWest, one NorthWest, one North, one NorthEast)
      less NorthWest none = omega (arith, one East, one SouthEast, one South, one SouthWest, one West, one North, one NorthEast)
      less North none = omega (arith, one East, one SouthEast, one South, one SouthWest, one West, one NorthWest, one NorthEast)
      less NorthEast none = omega (arith, one East, one SouthEast, one South, one SouthWest, one West, one NorthWest, one North)

  -- if all neighbours are adjacent, eight points are
  pub all_eight : ((d : Dir) → IsTrue (adjacent p (step d p))) → nat_lt (count_by (λ e. adjacent p (step e p)) directions) 8 ≡ false
  all_eight all = many (count_by (λ e. adjacent p (step e p)) directions)
      (omega (arith, full East, full SouthEast, full South, full SouthWest, full West, full NorthWest, full North, full NorthEast))
    where
      full : (d : Dir) → has d ≡ 1
      full d = ap (λ b. cond b 1 0) (all d)

-- the rule for an outlet: ground that has fewer than eight adjacent points or is a sink
module _ (t : Terrain Point) (level : Point → ℤ) (p : Point) (sink : Bool)
    (rule : t.is_outlet p ≡ (t.is_ground p && (nat_lt (count_by (λ d. t.is_adjacent p (step d p)) directions) 8 || sink))) (solid : IsTrue (t.is_ground p)) where
  outlet_is : t.is_outlet p ≡ (nat_lt (count_by (λ d. t.is_adjacent p (step d p)) directions) 8 || sink)
  outlet_is = rule ∙ ap (λ b. b && (nat_lt (count_by (λ d. t.is_adjacent p (step d p)) directions) 8 || sink)) solid

  pub edge_off : (d : Dir) → IsFalse (t.is_adjacent p (step d p)) → IsTrue (t.is_outlet p)
  edge_off d gap = outlet_is ∙ ap (λ b. b || sink) (fewer t.is_adjacent p d gap)

  pub inner_is : ((d : Dir) → IsTrue (t.is_adjacent p (step d p))) → t.is_outlet p ≡ sink
  inner_is all = outlet_is ∙ ap (λ b. b || sink) (all_eight t.is_adjacent p all)
