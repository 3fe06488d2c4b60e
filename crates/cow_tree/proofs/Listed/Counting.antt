-- Page numbers, counted by how often lists contain them.
use Rattle.cow_tree.proofs.Prelude.{All, All-contains, Bool, Contains, List, ℕ, [], all_numbers, ap, append-nil, arith, cond, drop, false, flat_map-append, get_or, length, length-append, member_of_times, refl, subst, suc, sym, take, take-append-drop, take_more, times, times-append, true, zero, ◌++◌, ◌+◌, ◌<◌, ◌∙◌, ◌∷◌, ◌≡◌, ◌≤◌}
use Rattle.std.specs.List.{filter, flat_map}
use Rattle.page_map.proofs.Occurrences.{times_other}

-- A property of all numbers in a list holds for each number that is there at least once.
pub at_times : (P : ℕ → Type 0) (q : ℕ) (xs : List ℕ) → All P xs → 1 ≤ times q xs → P q
at_times P q xs all some = All-contains P xs q all (member_of_times xs q some)

-- A property of all numbers of a list holds for all of another list that has no number more often.
pub all_of_fewer : (P : ℕ → Type 0) (xs ys : List ℕ) → ((q : ℕ) → times q xs ≤ times q ys) → All P ys → All P xs
all_of_fewer P xs ys fewer all = all_numbers P xs (λ q some. at_times P q ys all (omega (arith, some, fewer q)))

pub times_among : {X : Type 0} (f : X → List ℕ) (p : ℕ) (xs : List X) (x : X) → Contains xs x → times p (f x) ≤ times p (flat_map f xs)
times_among f p [] x (k, lt, here) = absurd (omega (arith, lt))
times_among f p (y ∷ ys) x (zero, lt, here) = let split = times-append p (f y) (flat_map f ys) in subst (λ z. times p (f z) ≤ times p (flat_map f (y ∷ ys))) here (omega (arith, split))
times_among f p (y ∷ ys) x (suc k, lt, here) = let split = times-append p (f y) (flat_map f ys) in let later = times_among f p ys x (k, omega arith, here) in omega (arith, split, later)

pub flat_more : {X Y : Type 0} (f : X → List Y) (xs : List X) (k : ℕ) (x : X) → k < length xs → get_or xs k x ≡ x → flat_map f (take (k + 1) xs) ≡ flat_map f (take k xs) ++ f x
flat_more f xs k x lt here =
    ap (flat_map f) (take_more xs k x lt) ∙ flat_map-append f (take k xs) (get_or xs k x ∷ [])
    ∙ ap (λ ys. flat_map f (take k xs) ++ ys) (append-nil (f (get_or xs k x)) ∙ ap f here)

-- A prefix of a list isn't longer than the list.
pub take_few : (k : ℕ) (xs : List ℕ) → length (take k xs) ≤ length xs
take_few k xs = let whole = ap (λ (l : List ℕ). length l) (take-append-drop k xs) in omega (arith, whole, length-append (take k xs) (drop k xs))

pub times_first : (k : ℕ) (xs : List ℕ) (q : ℕ) → times q (take k xs) ≤ times q xs
times_first k xs q = let whole = ap (times q) (take-append-drop k xs) in omega (arith, whole, times-append q (take k xs) (drop k xs))

-- A filtered list contains a number at most as often as the list.
pub times_passing : (q : ℕ) (test : ℕ → Bool) (xs : List ℕ) → times q (filter test xs) ≤ times q xs
times_passing q test [] = omega arith
times_passing q test (x ∷ xs) =
    let later = times_passing q test xs in
    let all = times-append q (x ∷ []) xs in
    elim (test x) as (λ (v : Bool). times q (cond v (x ∷ filter test xs) (filter test xs)) ≤ times q (x ∷ xs)) [
      | true ↦ (let here = times-append q (x ∷ []) (filter test xs) in omega (arith, later, here, all))
      | false ↦ omega (arith, later, all)
    ]

pub times_failing : (q : ℕ) (test : ℕ → Bool) → test q ≡ false → (xs : List ℕ) → times q (filter test xs) ≡ 0
times_failing q test fails [] = refl
times_failing q test fails (x ∷ xs) =
    elim (test x) as (λ (v : Bool). test x ≡ v → times q (cond v (x ∷ filter test xs) (filter test xs)) ≡ 0) [
      | true ↦ λ passes. times_other q x (filter test xs) (λ same. let no : true ≡ false = sym passes ∙ sym (ap test same) ∙ fails in cc) ∙ times_failing q test fails xs
      | false ↦ λ _. times_failing q test fails xs
    ] refl
