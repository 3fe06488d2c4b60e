use Rattle.std.proofs.Common.{arith, ◌≡◌, ◌<◌, ◌+◌, ◌==◌, ◌++◌, ◌∷◌, ◌∙◌, ◌↔◌, ℕ, Bool, List, [], IsTrue, flat_map, length, length-append, ap, sym, refl}
use Rattle.std.proofs.lemmas.Bool.{eq-eqb, eqb-true}
use Rattle.std.proofs.lemmas.List.{nil_from_length}
use Rattle.lattice.specs.declared.point.Point.{Point}
use Rattle.lines.specs.Held.{text_left}
use Rattle.lines.specs.Replies.{line_of, point_line, run_line}
use Rattle.lines.proofs.lists.Elements.is_made.Goals as goal
use Rattle.std.specs.Fmt.{signed_decimal}
use Rattle.water.specs.declared.run.Run.{Run}

-- a line has an LF
line_some : (text : List ℕ) → 0 < length (line_of text)
line_some text = let size : length (line_of text) ≡ length text + 1 = length-append text (10 ∷ []) in omega (arith, size)

-- A list's text is empty only if the list is.
none_left : {T : Type 0} (text : T → List ℕ) → ((x : T) → 0 < length (text x)) → (elements : List T) → flat_map text elements ≡ [] → length elements ≡ 0
none_left text some [] e = refl
none_left text some (x ∷ rest) e =
    let size : length (text x ++ flat_map text rest) ≡ length (text x) + length (flat_map text rest) = length-append (text x) (flat_map text rest) in
    let none : length (text x ++ flat_map text rest) ≡ 0 = ap length e in
    absurd (omega (arith, size, none, some x))

-- So the length of the list shows whether text is left.
told : {T : Type 0} (text : T → List ℕ) → ((x : T) → 0 < length (text x)) → (elements : List T) (test : Bool) (left : List ℕ)
    → test ≡ (length elements == 0) → flat_map text elements ≡ left → IsTrue test ↔ (left ≡ [])
told text some elements test left is all = (
  λ t. sym all ∙ ap (flat_map text) (nil_from_length elements (eqb-true (length elements) 0 (sym is ∙ t))),
  λ none. is ∙ eq-eqb (length elements) 0 (none_left text some elements (all ∙ none)),
)

point_some : (p : Point) → 0 < length (point_line p)
point_some p = line_some (signed_decimal p.y ++ 32 ∷ signed_decimal p.x)

run_some : (r : Run) → 0 < length (run_line r)
run_some r = line_some (signed_decimal r.y ++ 32 ∷ (signed_decimal r.first ++ 32 ∷ signed_decimal r.last))

pub returns-in-Points : goal.returns-in-Points
returns-in-Points c = told point_line point_some c.in-Points.points.now c.is_empty.result (text_left c.args.self) c.is_empty.ensures (sym (ap text_left c.in-Points.is))

pub returns-in-Runs : goal.returns-in-Runs
returns-in-Runs c = told run_line run_some c.in-Runs.runs.now c.is_empty-in-Runs.result (text_left c.args.self) c.is_empty-in-Runs.ensures (sym (ap text_left c.in-Runs.is))
