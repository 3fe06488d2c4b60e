-- Joining by outlines. Each part has links, and an outline: links between its shared places over which these reach one
-- another as low. Then the least level at which water leaves from a shared place is the same over the outlines. The law is
-- for any places and links.
use Rattle.std.proofs.Common.{Bool, IsFalse, IsTrue, List, ℤ, [], arith, inl, inr, refl, subst, sym, true≢false, ◌∙◌, ◌∷◌, ◌++◌, ◌≡◌, ◌≤ℤ◌, ◌⊎◌}
use Rattle.std.proofs.lemmas.Bool.{cases_Bool}
use Rattle.std.proofs.lemmas.Int.{ints}
use Rattle.water.specs.Parts.{IsLinkBelow, IsWayBelow, IsJoinedLevel, IsAnyLink, IsAnyOutline, AreOutlines}

module _ {Q : Type 0} (IsLink : Q → Q → ℤ → Type 0) where
  -- a path from x to y, continued by a path from y to z, is a path from x to z
  pub way_on : (level : ℤ) (x y z : Q) (rest further : List Q) → IsWayBelow IsLink y level x rest → IsWayBelow IsLink z level y further → IsWayBelow IsLink z level x (rest ++ further)
  way_on level x y z [] further here on = subst (λ v. IsWayBelow IsLink z level v further) (sym here) on
  way_on level x y z (u ∷ rest) further way on = (way.0, way_on level u y z rest further way.1 on)

  pub way_up : (level more : ℤ) (x y : Q) (rest : List Q) → level ≤ℤ more → IsWayBelow IsLink y level x rest → IsWayBelow IsLink y more x rest
  way_up level more x y [] up way = way
  way_up level more x y (u ∷ rest) up way = let low : way.0.0 ≤ℤ level = way.0.1.1 in ((way.0.0, (way.0.1.0, omega (arith, ints))), way_up level more u y rest up way.1)

-- The links of part i, and its outline.
module _ {Q I : Type 0} (Link Outline : I → Q → Q → ℤ → Type 0) (is_shared : Q → Bool) (out : Q) where
  abbrev AnyLink : Q → Q → ℤ → Type 0
  AnyLink = IsAnyLink Link Outline is_shared out

  abbrev AnyOutline : Q → Q → ℤ → Type 0
  AnyOutline = IsAnyOutline Link Outline is_shared out

  module _ (are : AreOutlines Link Outline is_shared out) where
    -- a path over one part's links is a path over all links
    of_part : (i : I) (level : ℤ) (x y : Q) (rest : List Q) → IsWayBelow (Link i) y level x rest → IsWayBelow AnyLink y level x rest
    of_part i level x y [] way = way
    of_part i level x y (u ∷ rest) way = ((way.0.0, ((i, way.0.1.0), way.0.1.1)), of_part i level u y rest way.1)

    of_outline : (i : I) (level : ℤ) (x y : Q) (rest : List Q) → IsWayBelow (Outline i) y level x rest → IsWayBelow AnyOutline y level x rest
    of_outline i level x y [] way = way
    of_outline i level x y (u ∷ rest) way = ((way.0.0, ((i, way.0.1.0), way.0.1.1)), of_outline i level u y rest way.1)

    -- the state of a walk from a shared place: a path within one part, with its last link
    record IsUnderWay (level : ℤ) (x z : Q) : Type 0 where
      part : I
      rest : List Q
      way : IsWayBelow (Link part) z level x rest
      from : Q
      at : ℤ
      last : Link part from z at

    -- if a path within a part ends at a shared place, the part's outline leads as low
    close : (level : ℤ) (x z : Q) → IsTrue (is_shared x) → IsTrue (is_shared z) → IsUnderWay level x z → (r : List Q) × IsWayBelow AnyOutline z level x r
    close level x z from to w =
        let r = are.kept w.part x z level w.rest from to w.way in
        (r.0, of_outline w.part level x z r.0 r.1)

    begin : (level : ℤ) (x y : Q) → IsLinkBelow AnyLink out level x y → IsUnderWay level x y
    begin level x y link = record {
      part = link.1.0.0;
      rest = y ∷ [];
      way = ((link.0, (link.1.0.1, link.1.1)), refl);
      from = x;
      at = link.0;
      last = link.1.0.1;
    }

    further : (level : ℤ) (x z y : Q) → IsFalse (is_shared z) → IsUnderWay level x z → IsLinkBelow AnyLink out level z y → IsUnderWay level x y
    further level x z y inside w link = elim (are.meet w.part link.1.0.0 w.from z y w.at link.0 w.last link.1.0.1) [
      | inl same ↦
          let here : Link w.part z y link.0 = subst (λ i. Link i z y link.0) same link.1.0.1 in
          record {
            part = w.part;
            rest = w.rest ++ y ∷ [];
            way = way_on (Link w.part) level x z y w.rest (y ∷ []) w.way ((link.0, (here, link.1.1)), refl);
            from = z;
            at = link.0;
            last = here;
          }
      | inr shared ↦ absurd (true≢false (sym shared ∙ inside))
    ]

    -- for each path over links to the way out, the outlines give one that is no higher
    out_by_outlines : (level : ℤ) (x z : Q) (rest : List Q) → IsTrue (is_shared x) → IsUnderWay level x z → IsWayBelow AnyLink out level z rest → (r : List Q) × IsWayBelow AnyOutline out level x r
    out_by_outlines level x z [] from w here = close level x out from are.leaves (subst (IsUnderWay level x) here w)
    out_by_outlines level x z (y ∷ rest) from w way = elim (cases_Bool (is_shared z)) [
      | inl shared ↦
          let first = close level x z from shared w in
          let then = out_by_outlines level z y rest shared (begin level z y way.0) way.1 in
          (first.0 ++ then.0, way_on AnyOutline level x z out first.0 then.0 first.1 then.1)
      | inr inside ↦ out_by_outlines level x y rest from (further level x z y inside w way.0) way.1
    ]

    pub outlined : (level : ℤ) (x : Q) (rest : List Q) → IsTrue (is_shared x) → IsWayBelow AnyLink out level x rest → (r : List Q) × IsWayBelow AnyOutline out level x r
    outlined level x [] from here = ([], here)
    outlined level x (y ∷ rest) from way = out_by_outlines level x y rest from (begin level x y way.0) way.1

    -- for each path over outlines to the way out, the links give one that is no higher
    pub by_links : (level : ℤ) (x : Q) (rest : List Q) → IsWayBelow AnyOutline out level x rest → (r : List Q) × IsWayBelow AnyLink out level x r
    by_links level x [] here = ([], here)
    by_links level x (y ∷ rest) way =
        let first = are.only way.0.1.0.0 x y way.0.0 way.0.1.0.1 in
        let then = by_links level y rest way.1 in
        let up = way_up (Link way.0.1.0.0) way.0.0 level x y first.0 way.0.1.1 first.1 in
        (first.0 ++ then.0, way_on AnyLink level x y out first.0 then.0 (of_part way.0.1.0.0 level x y first.0 up) then.1)

    -- the least level at which water leaves from a shared place is the same over the outlines alone
    pub joined_by_outlines : (x : Q) (level : ℤ) → IsTrue (is_shared x) → IsJoinedLevel AnyOutline out x level → IsJoinedLevel AnyLink out x level
    joined_by_outlines x level from joined = record {
      reached = by_links level x joined.reached.0 joined.reached.1;
      least = λ lower rest way. let r = outlined lower x rest from way in joined.least lower r.0 r.1;
    }

    pub joined_by_links : (x : Q) (level : ℤ) → IsTrue (is_shared x) → IsJoinedLevel AnyLink out x level → IsJoinedLevel AnyOutline out x level
    joined_by_links x level from joined = record {
      reached = outlined level x joined.reached.0 from joined.reached.1;
      least = λ lower rest way. let r = by_links lower x rest way in joined.least lower r.0 r.1;
    }
