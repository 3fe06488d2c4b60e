-- What is read at a named point, and the refusals of an edit there.
use Rattle.edits.proofs.Prelude.{Bool, Height, IsTrue, List, Lower, Option, Point, PointEdit, Raise, Refusal, Some, ℕ, ℤ, [], ap, arith, both_ways, false, fault_at, get_or, if◌then◌else◌, length, pos, refl, suc, true, zero, ◌<◌, ◌∙◌, ◌∷◌, ◌≡◌, ◌≢◌}
use Rattle.std.proofs.lemmas.Bool.Decides.{Decides-int_eq}
use Rattle.lattice.specs.declared.height.Height.TheVariants as height
use Rattle.lattice.specs.declared.refusal.Refusal.TheVariants.{Outside, Void, Device, Failed, Damaged}
use Rattle.lattice.specs.Mosaic.{Mosaic, void, is_void}
use Rattle.lattice.specs.Height.{height_of, first_height, by_seam_rule, samples_at}
use Rattle.edits.specs.PointEdits.{depth_of, fault_of, is_fault}

-- a default point, as the code reads one at an index
abbrev pub origin : Point
origin = record { y = pos 0; x = pos 0 }

pub read_anyhow : (ps : List Point) (i : ℕ) (d : Point) → i < length ps → get_or ps i d ≡ get_or ps i (get_or ps i d)
read_anyhow [] i d within = absurd (omega arith)
read_anyhow (p ∷ ps) zero d within = refl
read_anyhow (p ∷ ps) (suc i) d within = read_anyhow ps i d (omega arith)

-- The height of a point isn't the void sample.
first_height_is : (samples : List ℤ) (h : ℤ) → first_height samples ≡ height.At h → h ≢ void
first_height_is [] h e = absurd (cc)
first_height_is (s ∷ later) h e = by (is_void s) refl (first_height_is later h) e
  where
    by : (b : Bool) → is_void s ≡ b → (first_height later ≡ height.At h → h ≢ void) → (if b then first_height later else height.At s) ≡ height.At h → h ≢ void
    by true yes_ again e = again e
    by false no_ again e = λ h_void. let same : s ≡ h = cc in both_ways (is_void s) no_ ((Decides-int_eq s void).1 (same ∙ h_void))

pub height_not_void : (m : Mosaic) (p : Point) (h : ℤ) → height_of m p ≡ height.At h → h ≢ void
height_not_void m p h e = by (samples_at m p) e
  where
    by : (l : List ℤ) → by_seam_rule l ≡ height.At h → h ≢ void
    by [] e = absurd (cc)
    by (s ∷ later) e = first_height_is (s ∷ later) h e

-- the refusal of an edit at a point
pub fault_says : (t : PointEdit) (h : Height) (r : Refusal) (later : Option Refusal) → fault_of h r → IsTrue (is_fault t r) → fault_at (depth_of t) h later ≡ Some r
fault_says t h Outside later why fault = ap (λ v. fault_at (depth_of t) v later) why
fault_says t h Void later why fault = ap (λ v. fault_at (depth_of t) v later) why
fault_says (Lower by) h Device later why fault = absurd (both_ways false refl fault)
fault_says (Raise to) h Device later why fault = absurd (both_ways false refl fault)
fault_says (Lower by) h Failed later why fault = absurd (both_ways false refl fault)
fault_says (Raise to) h Failed later why fault = absurd (both_ways false refl fault)
fault_says (Lower by) h Damaged later why fault = absurd (both_ways false refl fault)
fault_says (Raise to) h Damaged later why fault = absurd (both_ways false refl fault)
fault_says t h _ later why fault = absurd why
