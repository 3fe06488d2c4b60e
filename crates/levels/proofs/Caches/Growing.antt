-- The cached results grow as tiles are loaded and labellings cached.
use Rattle.levels.proofs.Prelude.{Agrees, AreKept, AreLoaded, Corner, Ghosts, HeldLabelling, IsEntered, IsGrown, IsRight, IsRimLevel, IsTileLabelling, Known, LabellingCache, List, Mosaic, Option, RimGraph, Some, Summary, TileLabelling, ℕ, ℤ, ap, corner_at, level_of, refl, subst, sym, ◌∙◌, ◌≡◌}
use Rattle.levels.specs.Kept.{ready_later}
use Rattle.levels.proofs.Caches.LoadingTiles.{fits_before}

-- the results in these parts of a tile cache
abbrev pub known_by : RimGraph → LabellingCache → List (Option ℤ) → Known
known_by rim_graph labellings levels = record { side = rim_graph.side; corners = rim_graph.corners.items; loaded = rim_graph.loaded.items; labellings = labellings.held.items; levels = levels }

module _ {S : Type 0} (g : Ghosts S) (a b : S) (known known' : Known) (kept : AreKept g a b known.side known.corners known.loaded known'.side known'.corners known'.loaded) (levels : known'.levels ≡ known.levels) where
  levels_later : IsRight (g.mosaic a) known → (x : ℕ) (level : ℤ) → level_of known'.levels x ≡ Some level → IsRimLevel (g.mosaic a) known'.corners x level
  levels_later right x level is = subst (λ (cs : List Corner). IsRimLevel (g.mosaic a) cs x level) (sym kept.same_corners)
      (right.levels x level (ap (λ (l : List (Option ℤ)). level_of l x) (sym levels) ∙ is))

  -- results stay right when one more labelling is cached
  pub grown_by : (t : ℕ) (c : Corner) (labelling : TileLabelling) → corner_at known.corners t ≡ c → (g.is_honest b → IsRight (g.mosaic a) known → IsTileLabelling (g.mosaic a) c labelling)
      → (g.is_honest b → IsRight (g.mosaic a) known → AreLoaded (g.mosaic a) known.side known.corners known'.loaded)
      → ((m : Mosaic) (d : Corner) (u : ℕ) → (u ≡ t → IsTileLabelling m d labelling) → IsEntered m d known.labellings u → IsEntered m d known'.labellings u) → IsGrown g a b known known'
  grown_by t c labelling place valid loaded only = record {
    kept = kept;
    levels = levels;
    right = λ honest right. record {
      ready = ready_later g a b known.side known.corners known.loaded known'.side known'.corners known'.loaded kept right.ready (loaded honest right);
      labellings = λ u. subst (λ (cs : List Corner). IsEntered (g.mosaic a) (corner_at cs u) known'.labellings u) (sym kept.same_corners)
          (only (g.mosaic a) (corner_at known.corners u) u
          (λ here. subst (λ (d : Corner). IsTileLabelling (g.mosaic a) d labelling) (sym place ∙ ap (corner_at known.corners) (sym here)) (valid honest right))
          (right.labellings u));
      levels = levels_later right;
    };
  }

-- dropping labellings, with no other change and only reads
pub grown_fewer : {S : Type 0} (g : Ghosts S) (a b : S) (known : Known) (labellings : List HeldLabelling) → (g.is_honest b → g.is_honest a) → (g.is_honest b → g.mosaic b ≡ g.mosaic a)
    → ((m : Mosaic) (c : Corner) (u : ℕ) → IsEntered m c known.labellings u → IsEntered m c labellings u)
    → IsGrown g a b known (record { side = known.side; corners = known.corners; loaded = known.loaded; labellings = labellings; levels = known.levels })
grown_fewer g a b known labellings honest mosaic left = record {
  kept = record { honest = honest; mosaic = mosaic; same_side = refl; same_corners = refl; still = λ t ways is. is };
  levels = refl;
  right = λ _ right. record { ready = right.ready; labellings = λ u. left (g.mosaic a) (corner_at known.corners u) u (right.labellings u); levels = right.levels };
}

-- summaries that agree with the later results agreed with the earlier ones
pub agrees_before : {S : Type 0} (g : Ghosts S) (a b : S) (known known' : Known) → IsGrown g a b known known' → (n : ℕ) (summaries : List Summary) → Agrees known' n summaries → Agrees known n summaries
agrees_before g a b known known' grown n summaries agrees = record {
  fits = fits_before g a b known.side known.corners known.loaded known'.side known'.corners known'.loaded n summaries grown.kept agrees.fits;
  knows = λ x level is. agrees.knows x level (ap (λ (l : List (Option ℤ)). level_of l x) grown.levels ∙ is);
}
