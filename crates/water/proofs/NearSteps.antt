-- A step leads to another point nearby.
use Rattle.lattice.specs.Ground.{is_near, same_point}
use Rattle.lattice.specs.Steps.{step}
use Rattle.lattice.specs.declared.direction.Dir.{Dir}
use Rattle.lattice.specs.declared.direction.Dir.TheVariants.{East, North, NorthEast, NorthWest, South, SouthEast, SouthWest, West}
use Rattle.lattice.specs.declared.point.Point.{Point}
use Rattle.std.proofs.Common.{Bool, ℤ, ap, arith, false, nat_abs, nat_lt, negsuc, pos, refl, true, ◌&&◌, ◌+ℤ◌, ◌-ℤ◌, ◌∙◌, ◌≡◌}
use Rattle.std.proofs.lemmas.Bool.{and_from}
use Rattle.std.proofs.lemmas.Int.{ints}
use Rattle.std.specs.Ordering.{int_eq}

-- a step leads to another point, at most one row and one column away
near_by : (a b : ℤ) → (b ≡ a +ℤ pos 0) → nat_lt (nat_abs (a -ℤ b)) 2 ≡ true
near_by a b e = ap (λ d. nat_lt d 2) (let z : nat_abs (a -ℤ b) ≡ 0 = omega (arith, ints) in z)

near_up : (a b : ℤ) → (b ≡ a +ℤ pos 1) → nat_lt (nat_abs (a -ℤ b)) 2 ≡ true
near_up a b e = ap (λ d. nat_lt d 2) (let z : nat_abs (a -ℤ b) ≡ 1 = omega (arith, ints) in z)

near_down : (a b : ℤ) → (b ≡ a +ℤ negsuc 0) → nat_lt (nat_abs (a -ℤ b)) 2 ≡ true
near_down a b e = ap (λ d. nat_lt d 2) (let z : nat_abs (a -ℤ b) ≡ 1 = omega (arith, ints) in z)

not_up : (a : ℤ) → int_eq a (a +ℤ pos 1) ≡ false
not_up a = grind (arith, ints)

not_down : (a : ℤ) → int_eq a (a +ℤ negsuc 0) ≡ false
not_down a = grind (arith, ints)

and_false : (a : Bool) → (a && false) ≡ false
and_false true = refl
and_false false = refl

pub step_near : (p : Point) (d : Dir) → is_near p (step d p) ≡ true
step_near p East = and_from (nat_lt (nat_abs (p.y -ℤ (p.y +ℤ pos 0))) 2) (nat_lt (nat_abs (p.x -ℤ (p.x +ℤ pos 1))) 2) (near_by p.y _ refl) (near_up p.x _ refl)
step_near p SouthEast = and_from (nat_lt (nat_abs (p.y -ℤ (p.y +ℤ negsuc 0))) 2) (nat_lt (nat_abs (p.x -ℤ (p.x +ℤ pos 1))) 2) (near_down p.y _ refl) (near_up p.x _ refl)
step_near p South = and_from (nat_lt (nat_abs (p.y -ℤ (p.y +ℤ negsuc 0))) 2) (nat_lt (nat_abs (p.x -ℤ (p.x +ℤ pos 0))) 2) (near_down p.y _ refl) (near_by p.x _ refl)
step_near p SouthWest = and_from (nat_lt (nat_abs (p.y -ℤ (p.y +ℤ negsuc 0))) 2) (nat_lt (nat_abs (p.x -ℤ (p.x +ℤ negsuc 0))) 2) (near_down p.y _ refl) (near_down p.x _ refl)
step_near p West = and_from (nat_lt (nat_abs (p.y -ℤ (p.y +ℤ pos 0))) 2) (nat_lt (nat_abs (p.x -ℤ (p.x +ℤ negsuc 0))) 2) (near_by p.y _ refl) (near_down p.x _ refl)
step_near p NorthWest = and_from (nat_lt (nat_abs (p.y -ℤ (p.y +ℤ pos 1))) 2) (nat_lt (nat_abs (p.x -ℤ (p.x +ℤ negsuc 0))) 2) (near_up p.y _ refl) (near_down p.x _ refl)
step_near p North = and_from (nat_lt (nat_abs (p.y -ℤ (p.y +ℤ pos 1))) 2) (nat_lt (nat_abs (p.x -ℤ (p.x +ℤ pos 0))) 2) (near_up p.y _ refl) (near_by p.x _ refl)
step_near p NorthEast = and_from (nat_lt (nat_abs (p.y -ℤ (p.y +ℤ pos 1))) 2) (nat_lt (nat_abs (p.x -ℤ (p.x +ℤ pos 1))) 2) (near_up p.y _ refl) (near_up p.x _ refl)

pub step_other : (p : Point) (d : Dir) → same_point p (step d p) ≡ false
step_other p East = ap (λ b. int_eq p.y (p.y +ℤ pos 0) && b) (not_up p.x) ∙ and_false _
step_other p SouthEast = ap (λ b. b && int_eq p.x (p.x +ℤ pos 1)) (not_down p.y)
step_other p South = ap (λ b. b && int_eq p.x (p.x +ℤ pos 0)) (not_down p.y)
step_other p SouthWest = ap (λ b. b && int_eq p.x (p.x +ℤ negsuc 0)) (not_down p.y)
step_other p West = ap (λ b. int_eq p.y (p.y +ℤ pos 0) && b) (not_down p.x) ∙ and_false _
step_other p NorthWest = ap (λ b. b && int_eq p.x (p.x +ℤ negsuc 0)) (not_up p.y)
step_other p North = ap (λ b. b && int_eq p.x (p.x +ℤ pos 0)) (not_up p.y)
step_other p NorthEast = ap (λ b. b && int_eq p.x (p.x +ℤ pos 1)) (not_up p.y)
