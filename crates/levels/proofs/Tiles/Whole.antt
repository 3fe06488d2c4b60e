-- If some tiles are loaded, there are summaries of all tiles that agree with them.
use Rattle.levels.proofs.Prelude.{AreReady, Corner, Fits, IsMosaic, IsTrue, List, Mosaic, None, Option, Some, Summary, Tile, TileGraph, ℕ, [], ap, ap₂, arith, cases_lt, corner_at, corners_of, get_or, get_or-map, get_or_past, inl, inr, is_corner, length, length-map, loaded_at, map, pos, refl, subst, suc, sym, ◌<◌, ◌∙◌, ◌∷◌, ◌≡◌}
use Rattle.border_graph.specs.Joining.{summary_at, Summarizes, AreSummaries}
use Rattle.border_graph.proofs.Forests.Sufficing.{summarizes_all}
use Rattle.border_graph.proofs.Tabulated.{tabulated, length-tabulated, at_number}
use Rattle.border_graph.proofs.SummariesExist.{summary_exists}
use Rattle.levels.proofs.Caches.LoadingTiles.{some_is, not_both}

same_list : {X : Type 0} (d : X) (xs ys : List X) → length xs ≡ length ys → ((i : ℕ) → i < length xs → get_or xs i d ≡ get_or ys i d) → xs ≡ ys
same_list d [] [] whole each = refl
same_list d [] (y ∷ ys) whole each = absurd (omega arith)
same_list d (x ∷ xs) [] whole each = absurd (omega arith)
same_list d (x ∷ xs) (y ∷ ys) whole each = ap₂ (λ a b. a ∷ b) (each 0 (omega arith)) (same_list d xs ys (omega arith) (λ i small. each (suc i) (omega arith)))

abbrev no_tile : Summary
no_tile = record { corner = record { lat = pos 0; lon = pos 0 }; rim = []; spills = [] }

module _ (m : Mosaic) (is : IsMosaic m) (side : ℕ) (corners : List Corner) (loaded : List (Option TileGraph)) (ready : AreReady m side corners loaded) where
  corners_are : corners ≡ corners_of m
  corners_are = ready.all

  corner_valid : (t : ℕ) → t < length corners → IsTrue (is_corner (corner_at corners t))
  corner_valid t small =
      let none : Tile = record { corner = record { lat = pos 0; lon = pos 0 }; samples = [] } in
      let at : corner_at corners t ≡ (get_or m.tiles t (record { corner = record { lat = pos 0; lon = pos 0 }; samples = [] })).corner = ap (λ (cs : List Corner). corner_at cs t) corners_are ∙ get_or-map (λ (x : Tile). x.corner) m.tiles t (record { corner = record { lat = pos 0; lon = pos 0 }; samples = [] }) in
      let many : length corners ≡ length m.tiles = ap length corners_are ∙ length-map m.tiles (λ (x : Tile). x.corner) in
      subst (λ c. IsTrue (is_corner c)) (sym at) (is.tiles t (record { corner = record { lat = pos 0; lon = pos 0 }; samples = [] }) (subst (λ k. t < k) many small)).corner

  record IsPicked (t : ℕ) (b : Summary) : Type 0 where
    of : Summarizes m b
    place : b.corner ≡ corner_at corners t
    tells : (ways : TileGraph) → loaded_at loaded t ≡ Some ways → b ≡ ways.summary

  picked_by : (t : ℕ) → t < length corners → (o : Option TileGraph) → loaded_at loaded t ≡ o → (b : Summary) × IsPicked t b
  picked_by t small (Some ways) at = (
    ways.summary,
    record {
      of = ready.tiles.summaries t ways at;
      place = ready.tiles.places t ways at;
      tells = λ w also. ap (λ (x : TileGraph). x.summary) (some_is ways w (sym at ∙ also));
    },
  )
  picked_by t small None at =
      let found = summary_exists m is (corner_at corners t) (corner_valid t small) in
      (found.0, record { of = summarizes_all m found.0 found.1.0; place = found.1.1; tells = λ w also. absurd (not_both w (sym at ∙ also)) })

  picked : (t : ℕ) → (b : Summary) × (t < length corners → IsPicked t b)
  picked t = elim (cases_lt t (length corners)) [
    | inl small ↦ let p = picked_by t small (loaded_at loaded t) refl in (p.0, λ _. p.1)
    | inr past ↦ (no_tile, λ small. absurd (omega arith))
  ]

  pick : ℕ → Summary
  pick t = (picked t).0

  pick_is : (t : ℕ) → t < length corners → IsPicked t (pick t)
  unfolding pick
  pick_is t small = (picked t).1 small

  pub summaries : List Summary
  summaries = tabulated pick 0 (length corners)

  many : length summaries ≡ length corners
  unfolding summaries
  many = length-tabulated pick 0 (length corners)

  at_place : (t : ℕ) (d : Summary) → t < length corners → get_or summaries t d ≡ pick t
  unfolding summaries
  at_place t d small = at_number pick (length corners) t d small

  same_corners : map (λ (b : Summary). b.corner) summaries ≡ corners
  same_corners = same_list (record { lat = pos 0; lon = pos 0 }) (map (λ (b : Summary). b.corner) summaries) corners (length-map summaries (λ (b : Summary). b.corner) ∙ many) (λ i small.
      let below : i < length corners = subst (λ k. i < k) (length-map summaries (λ (b : Summary). b.corner) ∙ many) small in
      get_or-map (λ (b : Summary). b.corner) summaries i (record { corner = record { lat = pos 0; lon = pos 0 }; rim = []; spills = [] }) ∙ (ap (λ (b : Summary). b.corner) (at_place i (record { corner = record { lat = pos 0; lon = pos 0 }; rim = []; spills = [] }) below) ∙ (pick_is i below).place))

  pub are_summaries : AreSummaries m summaries
  are_summaries = record {
    corners = same_corners ∙ corners_are;
    each = λ t d small.
        let below : t < length corners = subst (λ k. t < k) many small in
        subst (Summarizes m) (sym (at_place t d below)) (pick_is t below).of;
  }

  told_below : (t : ℕ) (ways : TileGraph) → loaded_at loaded t ≡ Some ways → t < length corners
  told_below t ways at = elim (cases_lt t (length loaded)) [
    | inl small ↦ subst (λ k. t < k) ready.tiles.whole small
    | inr past ↦ absurd (not_both ways (sym (get_or_past loaded t None past) ∙ at))
  ]

  pub all_fit : Fits side corners loaded m.side summaries
  all_fit = record {
    mosaic = m;
    is = is;
    all = are_summaries;
    whole = refl;
    same_side = sym ready.same_side;
    same_corners = same_corners;
    agree = λ t ways at.
        let below = told_below t ways at in
        (ready.tiles.sides t ways at ∙ ready.same_side, at_place t (record { corner = record { lat = pos 0; lon = pos 0 }; rim = []; spills = [] }) below ∙ (pick_is t below).tells ways at);
  }

  pub as_many : length summaries ≡ length corners
  as_many = many

  pub corner_of_summary : (t : ℕ) → t < length corners → (summary_at summaries t).corner ≡ corner_at corners t
  corner_of_summary t small = ap (λ (b : Summary). b.corner) (at_place t (record { corner = record { lat = pos 0; lon = pos 0 }; rim = []; spills = [] }) small) ∙ (pick_is t small).place
