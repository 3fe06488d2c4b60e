-- When two points are the same.
use Rattle.std.proofs.Common.{rules}
use Rattle.lattice.proofs.Prelude.{Decides-int_eq, Point, ℤ, and_from, and_parts, ap, ap₂, int_eq, same_point, true, ◌≡◌}

pub same_place : (p q : Point) → p.y ≡ q.y → p.x ≡ q.x → p ≡ q
same_place p q y x = ap₂ (λ (v u : ℤ). record { y = v; x = u }) y x

pub same_point_says : (p q : Point) → same_point p q ≡ true → p ≡ q
same_point_says p q e = search rules

pub same_point_from : (p q : Point) → p ≡ q → same_point p q ≡ true
same_point_from p q e = search rules
