-- Tile names with their corners, and the words of a command line.
use Rattle.std.proofs.Common.{arith, ◌≡◌, ℕ, ◌+◌, ◌<◌, List, [], ◌∷◌, ◌++◌, length, map, take, get_or, sym, ap, ◌∙◌, subst}
use Rattle.std.specs.Global.{Global}
use Rattle.std.specs.Prelude.{string_bytes, Result, Ok, Err, IfErr, IsErrAnd}
use Rattle.std.proofs.Common.{String}
use Rattle.lattice.specs.declared.refusal.Refusal.{Refusal}
use Rattle.std.proofs.lemmas.List.{take_more, map-append}
use Rattle.lattice.specs.Corners.{Corner}
use Rattle.hgt.specs.Names.{IsName}
use Rattle.mosaic_tiles.specs.Layers.{AreNames}

one_more : (names : List (List ℕ)) (corners : List Corner) (name : List ℕ) (c : Corner) → AreNames names corners → IsName name c → AreNames (names ++ name ∷ []) (corners ++ c ∷ [])
one_more [] [] name c all is = (is, tt)
one_more [] (d ∷ ds) name c all is = absurd all
one_more (n ∷ ns) [] name c all is = absurd all
one_more (n ∷ ns) (d ∷ ds) name c all is = (all.0, one_more ns ds name c all.1 is)

-- One more name is read.
pub names_to : (names : List (String Global)) (i : ℕ) (name : String Global) (corners : List Corner) (c : Corner) → i < length names → name ≡ get_or names i name
    → AreNames (map string_bytes (take i names)) corners → IsName (string_bytes name) c → AreNames (map string_bytes (take (i + 1) names)) (corners ++ c ∷ [])
names_to names i name corners c below is all so =
    let more : map string_bytes (take (i + 1) names) ≡ map string_bytes (take i names) ++ string_bytes name ∷ [] =
    ap (map string_bytes) (take_more names i name below ∙ ap (λ (s : String Global). take i names ++ s ∷ []) (sym is)) ∙ map-append string_bytes (take i names) (name ∷ []) in
    subst (λ (texts : List (List ℕ)). AreNames texts (corners ++ c ∷ [])) (sym more) (one_more (map string_bytes (take i names)) corners (string_bytes name) c all so)

pub told_as : {X : Type 0} (result : Result X Refusal) (r : Refusal) (P : Refusal → Type 0) → IsErrAnd result (λ why. why ≡ r) → P r → IfErr result P
told_as (Ok x) r P is p = tt
told_as (Err why) r P is p = subst P (sym is) p

-- There is only one name.
pub alone : (names : List (String Global)) (name : String Global) (text : List ℕ) → length names ≡ 1 → name ≡ get_or names 0 name → string_bytes name ≡ text → map string_bytes names ≡ text ∷ []
alone [] name text long is says = absurd (omega (arith, long))
alone (n ∷ []) name text long is says = ap (λ (t : List ℕ). t ∷ []) (ap string_bytes (sym is) ∙ says)
alone (n ∷ m ∷ ns) name text long is says = absurd (omega (arith, long))
