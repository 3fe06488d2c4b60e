-- A step and the opposite step.
use Rattle.lattice.specs.declared.direction.Dir.{Dir}
use Rattle.lattice.specs.declared.direction.Dir.TheVariants.{East}
use Rattle.lattice.specs.declared.point.Point.{Point}
use Rattle.std.proofs.Common.{ℤ, ap₂, arith, pos, refl, ◌+ℤ◌, ◌≡◌}
use Rattle.water.specs.Flows.{back_of}
use Rattle.lattice.specs.Steps.{east_of, north_of, step}
use Rattle.std.proofs.lemmas.Int.{ints}

there : (v a b : ℤ) → a +ℤ b ≡ pos 0 → ((v +ℤ a) +ℤ b) ≡ v
there v a b zero_sum = omega (arith, ints)

norths : (e : Dir) → (north_of e +ℤ north_of (back_of e)) ≡ pos 0
norths East = refl
norths _ = refl

easts : (e : Dir) → (east_of e +ℤ east_of (back_of e)) ≡ pos 0
easts East = refl
easts _ = refl

-- a step followed by the opposite step leads back
pub step_back : (e : Dir) (x : Point) → step (back_of e) (step e x) ≡ x
step_back e x = ap₂ (λ (v w : ℤ). let p : Point = record { y = v; x = w } in p) (there x.y (north_of e) (north_of (back_of e)) (norths e)) (there x.x (east_of e) (east_of (back_of e)) (easts e))

pub back_twice : (e : Dir) → back_of (back_of e) ≡ e
back_twice East = refl
back_twice _ = refl
