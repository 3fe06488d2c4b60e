-- The steps found so far, and the steps in the remaining directions.
use Rattle.lattice.proofs.Prelude.{IsTrue, List, Point, Step, ℕ, [], add-one, ap, append_assoc, cond-false, cond-true, drop, drop-cons, false_from_ne_true, get_or, length, refl, step, sym, ◌++◌, ◌+◌, ◌<◌, ◌∙◌, ◌∷◌, ◌≡◌}
use Rattle.lattice.specs.declared.direction.Dir.{Dir}
use Rattle.lattice.specs.Stepping.{reach_of, fits_point}

turn : (ds : List Dir) (i : ℕ) (d : Dir) → i < length ds → drop i ds ≡ get_or ds i d ∷ drop (i + 1) ds
turn ds i d small = rw (add-one, drop-cons ds i d) refl

pub taken : (p : Point) (ds : List Dir) (i : ℕ) (d : Dir) (found whole : List Step) (to : Point) → i < length ds →
    IsTrue (fits_point (step (get_or ds i d) p)) × (to ≡ step (get_or ds i d) p) → found ++ reach_of p (drop i ds) ≡ whole →
    (found ++ record { direction = get_or ds i d; to = to } ∷ []) ++ reach_of p (drop (i + 1) ds) ≡ whole
taken p ds i d found whole to small fits so_far =
    let here = get_or ds i d in
    let rest = reach_of p (drop (i + 1) ds) in
    let next : List Step = record { direction = here; to = step here p } ∷ rest in
    let more : reach_of p (drop i ds) ≡ next = ap (reach_of p) (turn ds i d small) ∙ cond-true (fits_point (step here p)) next rest fits.0 in
    append_assoc found (record { direction = here; to = to } ∷ []) rest ∙ ap (λ (t : Point). found ++ record { direction = here; to = t } ∷ rest) fits.1 ∙ ap (λ (s : List Step). found ++ s) (sym more) ∙ so_far

pub passed : (p : Point) (ds : List Dir) (i : ℕ) (d : Dir) (found whole : List Step) → i < length ds →
    (IsTrue (fits_point (step (get_or ds i d) p)) → ⊥) → found ++ reach_of p (drop i ds) ≡ whole → found ++ reach_of p (drop (i + 1) ds) ≡ whole
passed p ds i d found whole small far so_far =
    let here = get_or ds i d in
    let rest = reach_of p (drop (i + 1) ds) in
    let next : List Step = record { direction = here; to = step here p } ∷ rest in
    let more : reach_of p (drop i ds) ≡ rest = ap (reach_of p) (turn ds i d small) ∙ cond-false (fits_point (step here p)) next rest (false_from_ne_true (fits_point (step here p)) far) in
    ap (λ (s : List Step). found ++ s) (sym more) ∙ so_far
