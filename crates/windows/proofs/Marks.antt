-- Marks of the points in runs.
use Rattle.std.proofs.Common.{◌≡◌, ◌⊎◌, ◌↔◌, ◌+◌, ◌<◌, ℕ, List, length, get_or, min, inl, inr, sym, ◌∙◌, subst, arith}
use Rattle.std.proofs.lemmas.Bool.{cases_lt}
use Rattle.std.proofs.lemmas.Int.{ints, by_lt_z}
use Rattle.std.proofs.lemmas.List.{get_or_default}
use Rattle.lattice.specs.Ground.{terrain}
use Rattle.lattice.specs.Mosaic.{Mosaic}
use Rattle.lattice.specs.declared.point.Point.{Point}
use Rattle.water.specs.CountLaws.{points_in}
use Rattle.water.specs.Runs.{Cover, IsInRun}
use Rattle.water.specs.declared.run.Run.{Run}
use Rattle.std.specs.Global.{Vec}
use Rattle.water.proofs.OneCount.{count_of_runs}
use Rattle.windows.specs.Windows.{AreOfAll, IsMark, IsShed}
use Rattle.windows.specs.declared.window.Window.{Window}
use Rattle.windows.proofs.Told.{AreRunsOf}

-- The point is in one of the first runs.
abbrev pub CoverTo : List Run → ℕ → Point → Type 0
CoverTo runs count p = (i : ℕ) × (r : Run) × (i < count) × (i < length runs) × (get_or runs i r ≡ r) × IsInRun r p

pub decided : (r : Run) (p : Point) → IsInRun r p ⊎ ¬ IsInRun r p
decided r p =
    by_lt_z p.y r.y (λ south. inr (λ lies. let same = lies.0 in absurd (omega (arith, ints)))) (λ north.
    by_lt_z r.y p.y (λ over. inr (λ lies. let same = lies.0 in absurd (omega (arith, ints)))) (λ under.
    by_lt_z p.x r.first (λ west. inr (λ lies. let from = lies.1.0 in absurd (omega (arith, ints)))) (λ from.
    by_lt_z r.last p.x (λ east. inr (λ lies. let to = lies.1.1 in absurd (omega (arith, ints)))) (λ to. inl (omega (arith, ints), (from, to))))))

-- One more run: its points are marked, and other marks stay.
pub one_more : (runs : List Run) (count : ℕ) (r : Run) (p : Point) (was now : ℕ) → count < length runs → get_or runs count r ≡ r → (IsInRun r p → now ≡ 1) → (¬ IsInRun r p → now ≡ was)
    → IsMark (CoverTo runs count p) was → IsMark (CoverTo runs (count + 1) p) now
one_more runs count r p was now inside is marks leaves before = elim (decided r p) [
  | inl lies ↦ inl (marks lies, (count, r, omega arith, inside, is, lies))
  | inr out ↦ elim before [
    | inl (one, cover) ↦ inl (leaves out ∙ one, (cover.0, cover.1, omega (arith, cover.2), cover.3, cover.4, cover.5))
    | inr (none, not) ↦ inr (
      leaves out ∙ none,
      (λ cover. elim (cases_lt cover.0 count) [
        | inl sooner ↦ not (cover.0, cover.1, sooner, cover.3, cover.4, cover.5)
        | inr last ↦
            let at : cover.0 ≡ count = omega (arith, cover.2, last) in
            let same : cover.1 ≡ r = sym cover.4 ∙ subst (λ i. get_or runs i cover.1 ≡ get_or runs count r) (sym at) (get_or_default runs count cover.1 r inside) ∙ is in
            out (subst (λ run. IsInRun run p) same cover.5)
      ]),
    )
  ]
]

pub all_of : (runs : List Run) (p : Point) (mark : ℕ) → IsMark (CoverTo runs (length runs) p) mark → IsMark (Cover runs p) mark
all_of runs p mark (inl (one, cover)) = inl (one, (cover.0, cover.1, cover.3, cover.4, cover.5))
all_of runs p mark (inr (none, not)) = inr (none, (λ cover. not (cover.0, cover.1, cover.2, cover.2, cover.3, cover.4)))

alike : (A B : Type 0) (mark : ℕ) → A ↔ B → IsMark A mark → IsMark B mark
alike A B mark same (inl (one, a)) = inl (one, same.0 a)
alike A B mark same (inr (none, not)) = inr (none, (λ b. not (same.1 b)))

-- the marks of a watershed's runs are those of its points
pub shed : (m : Mosaic) (p : Point) (w : Window) (runs : Vec Run) (marks : List ℕ) (count : ℕ) → AreRunsOf m p runs → AreOfAll w (λ q mark. IsMark (Cover runs.items q) mark) marks
    → count ≡ min (points_in runs.items) 18446744073709551615 → IsShed m p w marks count
shed m p w runs marks count are marked counted = record {
  on_ground = are.on_ground;
  marked = λ level filled. record {
    whole = marked.whole;
    each = λ blank k small. alike _ _ _ ((are.says level filled).covers _) (marked.each blank k small);
  };
  counted = λ level filled. (points_in runs.items, (count_of_runs (terrain m) level p runs.items are.on_ground (are.says level filled), counted));
}
