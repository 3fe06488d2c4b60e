-- What is loaded as tiles are loaded one after another.
use Rattle.levels.proofs.Prelude.{AreKept, AreLoaded, Corner, Fits, Ghosts, List, Mosaic, Summarizes, Summary, TileGraph, ℕ, ap, cases_eq, corner_at, get_or, get_or-set_other, get_or-set_same, get_or_default, inl, inr, length, length-set, loaded_at, subst, sym, true, true≢false, ◌<◌, ◌∙◌, ◌≡◌}
use Rattle.std.specs.Prelude.{Option, Some, None, is_some, slice_set}

pub fits_before : {S : Type 0} (g : Ghosts S) (a b : S) (side : ℕ) (corners : List Corner) (loaded : List (Option TileGraph)) (side' : ℕ) (corners' : List Corner) (loaded' : List (Option TileGraph)) (n : ℕ) (summaries : List Summary)
    → AreKept g a b side corners loaded side' corners' loaded' → Fits side' corners' loaded' n summaries → Fits side corners loaded n summaries
fits_before g a b side corners loaded side' corners' loaded' n summaries kept fits = record {
  mosaic = fits.mosaic;
  is = fits.is;
  all = fits.all;
  whole = fits.whole;
  same_side = fits.same_side ∙ kept.same_side;
  same_corners = fits.same_corners ∙ kept.same_corners;
  agree = λ t ways is. fits.agree t ways (kept.still t ways is);
}

-- a tile with a loaded graph has one
pub some_there : (loaded : List (Option TileGraph)) (t : ℕ) (o : Option TileGraph) → t < length loaded → o ≡ get_or loaded t o → is_some o ≡ true → (ways : TileGraph) × (loaded_at loaded t ≡ Some ways)
some_there loaded t o small is some = by o some (get_or_default loaded t None o small ∙ sym is)
  where
    by : (p : Option TileGraph) → is_some p ≡ true → get_or loaded t None ≡ p → (ways : TileGraph) × (loaded_at loaded t ≡ Some ways)
    by None some is = absurd (true≢false (sym some))
    by (Some ways) some is = (ways, is)

pub some_is : (a b : TileGraph) → ◌≡◌ {A = Option TileGraph} (Some a) (Some b) → a ≡ b
some_is a b e = cc

pub not_both : (a : TileGraph) → ◌≡◌ {A = Option TileGraph} None (Some a) → ⊥
not_both a e = cc

pub none_told : (m : Mosaic) (side : ℕ) (corners : List Corner) (loaded : List (Option TileGraph)) → length loaded ≡ length corners → ((t : ℕ) → loaded_at loaded t ≡ None) → AreLoaded m side corners loaded
none_told m side corners loaded whole none = record {
  whole = whole;
  sides = λ t ways is. absurd (not_both ways (sym (none t) ∙ is));
  places = λ t ways is. absurd (not_both ways (sym (none t) ∙ is));
  summaries = λ t ways is. absurd (not_both ways (sym (none t) ∙ is));
}

-- loading the graph of tile t
module _ (side : ℕ) (corners : List Corner) (loaded : List (Option TileGraph)) (t : ℕ) (c : Corner) (ways : TileGraph) (inside : t < length loaded) where
  this : (u : ℕ) (w : TileGraph) → u ≡ t → loaded_at (slice_set loaded t (Some ways)) u ≡ Some w → ways ≡ w
  this u w here is = some_is ways w (sym (get_or-set_same loaded t (Some ways) None inside) ∙ (ap (loaded_at (slice_set loaded t (Some ways))) (sym here) ∙ is))

  pub told_more : (m : Mosaic) → corner_at corners t ≡ c → ways.side ≡ side → ways.summary.corner ≡ c → Summarizes m ways.summary → AreLoaded m side corners loaded → AreLoaded m side corners (slice_set loaded t (Some ways))
  told_more m place same corner summary r = record {
    whole = length-set loaded t (Some ways) ∙ r.whole;
    sides = λ u w is. elim (cases_eq u t) [
      | inl here ↦ ap (λ (x : TileGraph). x.side) (sym (this u w here is)) ∙ same
      | inr other ↦ r.sides u w (sym (get_or-set_other loaded t u (Some ways) None other) ∙ is)
    ];
    places = λ u w is. elim (cases_eq u t) [
      | inl here ↦ ap (λ (x : TileGraph). x.summary.corner) (sym (this u w here is)) ∙ (corner ∙ (sym place ∙ ap (corner_at corners) (sym here)))
      | inr other ↦ r.places u w (sym (get_or-set_other loaded t u (Some ways) None other) ∙ is)
    ];
    summaries = λ u w is. elim (cases_eq u t) [
      | inl here ↦ subst (λ (x : TileGraph). Summarizes m x.summary) (this u w here is) summary
      | inr other ↦ r.summaries u w (sym (get_or-set_other loaded t u (Some ways) None other) ∙ is)
    ];
  }
