-- Changes that set samples, and their effect on a mosaic.
use Rattle.std.proofs.Common.{◌≡◌, ℕ, ◌+◌, ◌<◌, ⊎_elim, ℤ, Bool, true, false, ◌||◌, List, [], ◌∷◌, ◌++◌, length, map, take, get_or, refl, sym, ◌∙◌, ap, subst, arith}
use Rattle.edits.proofs.Prelude.{All, ArePlaces, Change, Corner, IsMosaic, IsPlace, Mosaic, NewHeight, Place, Point, both_ways, corners_of, edited, false≢true, filled, if◌then◌else◌, is_named, is_repeated, list_any-append, or-false, or_cases, or_left, or_right, points_of, same_point, same_point_says, with_height, with_heights, with_sample}
use Rattle.std.proofs.lemmas.List.{get_or-map, length-map, map-append, take-map, take_more}
use Rattle.std.proofs.lemmas.List.Elements.{All-append, All-map, All-weaker}
use Rattle.edits.specs.Changes.{CanBeSet, SetOnce, Sets, changed, all_changed}
use Rattle.edits.proofs.Edited.{edited_none, edited_twice, edited_alike, heights_edit, heights_next}
use Rattle.edits.proofs.EditedHeights.{edited_corners}
use Rattle.edits.proofs.Plans.Once.{not_named, once_at, once_none, once_within, set_to}
use Rattle.edits.proofs.Placing.{placed, placed_edit, whole_tiles, edited_whole}

all_on : (old more : List Change) (m : Mosaic) → all_changed (old ++ more) m ≡ all_changed more (all_changed old m)
all_on [] more m = refl
all_on (x ∷ old) more m = all_on old more (changed x m)

all_placed : (s : ℤ) (places : List Place) (m : Mosaic) → all_changed (map (set_to s) places) m ≡ placed s places m
all_placed s [] m = refl
all_placed s (x ∷ rest) m = all_placed s rest (with_sample x.corner x.index s m)

either : (a b : Bool) (s u : ℤ) → (if b then s else (if a then s else u)) ≡ (if a || b then s else u)
either true true s u = refl
either true false s u = refl
either false b s u = refl

module _ (n : ℕ) (cs : List Corner) where
  -- the changes at one point
  pub sets_at : (p : Point) (s : ℤ) (places : List Place) → ArePlaces n cs p places → (old new : List Change) → new ≡ old ++ map (set_to s) places → Sets n cs (λ q. same_point q p) s old new
  sets_at p s places are old new is = record {
    makes = λ m f valid side same was.
        let mid : Mosaic = edited f m in
        let here : ArePlaces m.side (corners_of mid) p places = subst (λ k. ArePlaces k (corners_of mid) p places) (sym side) (subst (λ (l : List Corner). ArePlaces n l p places) (sym same ∙ sym (edited_corners f m)) are) in
        ap (λ (l : List Change). all_changed l m) is
        ∙ all_on old (map (set_to s) places) m
        ∙ ap (all_changed (map (set_to s) places)) was
        ∙ all_placed s places mid
        ∙ placed_edit mid (edited_whole f m (whole_tiles m valid)) p s places here
        ∙ edited_twice f (λ q v. if same_point q p then s else v) m;
    once = λ before apart single. subst (SetOnce n (λ q. before q || same_point q p)) (sym is) (once_at n cs p s places are before apart old single);
  }

  pub sets_fit : (p : Point) (s : ℤ) (places : List Place) → ArePlaces n cs p places → (old new : List Change) → new ≡ old ++ map (set_to s) places → All (CanBeSet n cs) old → All (CanBeSet n cs) new
  sets_fit p s places are old new is fit =
      subst (All (CanBeSet n cs)) (sym is) (All-append (CanBeSet n cs) old (map (set_to s) places) fit
      (All-map (CanBeSet n cs) (set_to s) places (All-weaker (IsPlace n cs p) (λ x. CanBeSet n cs (set_to s x)) (λ x at. (at.present, at.within)) places are.each)))

  pub sets_none : (test : Point → Bool) (s : ℤ) → ((p : Point) → test p ≡ false) → (a : List Change) → Sets n cs test s a a
  sets_none test s none a = record {
    makes = λ m f valid side same was. was ∙ edited_alike f (λ p v. if test p then s else f p v) (λ p v. sym (ap (λ b. if b then s else f p v) (none p))) m;
    once = λ before apart single. once_within n before (λ p. before p || test p) (λ p was. or_left (before p) (test p) was) a single;
  }

  -- changes at the points of one test, and then at those of another
  pub sets_on : (first second both : Point → Bool) (s : ℤ) → ((p : Point) → both p ≡ (first p || second p)) → ((p : Point) → first p ≡ true → second p ≡ true → ⊥) → (a b c : List Change) → Sets n cs first s a b → Sets n cs second s b c → Sets n cs both s a c
  sets_on first second both s joined disjoint a b c one two = record {
    makes = λ m f valid side same was.
        two.makes m (λ p v. if first p then s else f p v) valid side same (one.makes m f valid side same was)
        ∙ edited_alike (λ p v. if second p then s else (if first p then s else f p v)) (λ p v. if both p then s else f p v)
        (λ p v. either (first p) (second p) s (f p v) ∙ sym (ap (λ b. if b then s else f p v) (joined p))) m;
    once = λ before apart single.
        let once_first = one.once before (λ p was now. apart p was (joined p ∙ or_left (first p) (second p) now)) single in
        once_within n (λ p. (before p || first p) || second p) (λ p. before p || both p) (λ p is. regrouped (before p) (first p) (second p) is (joined p)) c
        (two.once (λ p. before p || first p) (λ p was now. ⊎_elim (λ early. apart p early (joined p ∙ or_right (first p) (second p) now)) (λ here. disjoint p here now) (or_cases (before p) (first p) was)) once_first);
  }
    where
      regrouped : (x y z : Bool) {w : Bool} → ((x || y) || z) ≡ true → w ≡ (y || z) → (x || w) ≡ true
      regrouped true y z some is = refl
      regrouped false y z some is = is ∙ some

  -- equal tests
  pub sets_alike : (one other : Point → Bool) (s : ℤ) → ((p : Point) → one p ≡ other p) → (a b : List Change) → Sets n cs one s a b → Sets n cs other s a b
  sets_alike one other s same_tests a b so = record {
    makes = λ m f valid side same was.
        so.makes m f valid side same was ∙ edited_alike (λ p v. if one p then s else f p v) (λ p v. if other p then s else f p v) (λ p v. ap (λ b. if b then s else f p v) (same_tests p)) m;
    once = λ before apart single.
        once_within n (λ p. before p || one p) (λ p. before p || other p) (λ p is. ap (λ b. before p || b) (sym (same_tests p)) ∙ is) b
        (so.once before (λ p was now. apart p was (sym (same_tests p) ∙ now)) single);
  }

  -- changes after no earlier ones
  pub sets_all : (test : Point → Bool) (s : ℤ) (new : List Change) → Sets n cs test s [] new → (m : Mosaic) → IsMosaic m → m.side ≡ n → corners_of m ≡ cs → all_changed new m ≡ filled test s m
  sets_all test s new so m valid side same = so.makes m (λ p v. v) valid side same (sym (edited_none m))

  pub once_all : (test : Point → Bool) (s : ℤ) (new : List Change) → Sets n cs test s [] new → SetOnce n test new
  once_all test s new so = so.once (λ p. false) (λ p never now. false≢true never) (once_none n (λ p. false))

  -- These changes give the points their heights.
  abbrev pub GiveHeights : List NewHeight → List Change → Type 0
  GiveHeights hs changes = (m : Mosaic) → IsMosaic m → m.side ≡ n → corners_of m ≡ cs → all_changed changes m ≡ with_heights hs m

  pub heights_more : (hs : List NewHeight) (i : ℕ) (h : NewHeight) (a b : List Change) → i < length hs → h ≡ get_or hs i h → GiveHeights (take i hs) a → Sets n cs (λ q. same_point q h.point) h.metres a b → GiveHeights (take (i + 1) hs) b
  heights_more hs i h a b below is so sets m valid side same =
      let edit = heights_edit (take i hs) m in
      sets.makes m edit.0 valid side same (so m valid side same ∙ edit.1)
      ∙ sym (edited_twice edit.0 (λ q v. if same_point q h.point then h.metres else v) m)
      ∙ ap (with_height h.point h.metres) (sym edit.1)
      ∙ sym (heights_next hs i h m below is)

  -- No two of the changes set one sample, if no point has two heights.
  pub heights_once : (hs : List NewHeight) (i : ℕ) (h : NewHeight) (a b : List Change) → i < length hs → h ≡ get_or hs i h → is_repeated (points_of hs) ≡ false → SetOnce n (is_named (points_of (take i hs))) a
      → Sets n cs (λ q. same_point q h.point) h.metres a b → SetOnce n (is_named (points_of (take (i + 1) hs))) b
  heights_once hs i h a b below is apart single sets =
      once_within n (λ q. is_named (points_of (take i hs)) q || same_point q h.point) (is_named (points_of (take (i + 1) hs))) (λ q so. more q ∙ so) b
      (sets.once (is_named (points_of (take i hs))) (λ q named here. both_ways (is_named (points_of (take i hs)) q) (subst (λ (p : Point). is_named (points_of (take i hs)) p ≡ false) (sym (same_point_says q h.point here)) fresh) named) single)
    where
      -- h is the next of the heights, at a point not named before.
      fresh : is_named (points_of (take i hs)) h.point ≡ false
      fresh =
          subst (λ (l : List Point). is_named l h.point ≡ false) (take-map (λ (x : NewHeight). x.point) i hs)
          (subst (λ (p : Point). is_named (take i (points_of hs)) p ≡ false) (get_or-map (λ (x : NewHeight). x.point) hs i h h.point below ∙ ap (λ (x : NewHeight). x.point) (sym is))
          (not_named (points_of hs) i h.point apart (omega (arith, below, length-map hs (λ (x : NewHeight). x.point)))))

      more : (q : Point) → is_named (points_of (take (i + 1) hs)) q ≡ (is_named (points_of (take i hs)) q || same_point q h.point)
      more q =
          ap (λ (l : List NewHeight). is_named (points_of l) q) (take_more hs i h below ∙ ap (λ (x : NewHeight). take i hs ++ x ∷ []) (sym is))
          ∙ ap (λ (l : List Point). is_named l q) (map-append (λ (x : NewHeight). x.point) (take i hs) (h ∷ []))
          ∙ list_any-append (same_point q) (points_of (take i hs)) (h.point ∷ [])
          ∙ ap (λ b. is_named (points_of (take i hs)) q || b) (or-false (same_point q h.point))

-- the same for an equal list of tiles
pub sets_kept : (test : Point → Bool) (s : ℤ) (n k : ℕ) (cs ds : List Corner) (a b : List Change) → n ≡ k → cs ≡ ds → Sets n cs test s a b → Sets k ds test s a b
sets_kept test s n k cs ds a b side corners so = subst (λ i. Sets i ds test s a b) side (subst (λ (l : List Corner). Sets n l test s a b) corners so)

pub fits_kept : (n k : ℕ) (cs ds : List Corner) (a b : List Change) → n ≡ k → cs ≡ ds → (All (CanBeSet n cs) a → All (CanBeSet n cs) b) → All (CanBeSet k ds) a → All (CanBeSet k ds) b
fits_kept n k cs ds a b side corners fits before =
    subst (λ i. All (CanBeSet i ds) b) side (subst (λ (l : List Corner). All (CanBeSet n l) b) corners
    (fits (subst (λ i. All (CanBeSet i cs) a) (sym side) (subst (λ (l : List Corner). All (CanBeSet k l) a) (sym corners) before))))
