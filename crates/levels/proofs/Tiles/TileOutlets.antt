-- Which points are adjacent to a ground point of a tile, from the tile's labelling.
use Rattle.std.proofs.Common.{◌≡◌, ◌≢◌, ℕ, zero, suc, ◌<◌, Bool, true, false, not, cond, ◌&&◌, ◌||◌, IsTrue, List, [], ◌∷◌, length, get_or, refl, sym, ap, ◌∙◌, subst, arith, Contains}
use Rattle.levels.proofs.Prelude.{Corner, Dir, Holds, IsBlockOf, IsFlooded, IsIndexOf, IsLabelling, IsMosaic, LabelledGround, Mosaic, NO_LABEL, Point, Step, block_of, corners_of, degree_of, is_adjacent, is_ground, is_near, is_outlet, is_present, is_sink, nat_lt, present_iff, same_point, share_tile, shared_from, slice_index, step}
use Rattle.lattice.specs.Stepping.{reach_of, fits_point}
use Rattle.levels.proofs.Questions.Asked.{IsAt, is_at}
use Rattle.levels.proofs.Flows.Over.{ground_labelled, never_unlabelled}

-- each step of the list starts at the point
pub reach_from : (p : Point) (ds : List Dir) (k : ℕ) (d : Step) → k < length (reach_of p ds) → (get_or (reach_of p ds) k d).to ≡ step (get_or (reach_of p ds) k d).direction p
reach_from p [] k d inside = absurd (omega arith)
reach_from p (e ∷ rest) k d inside = over (λ j lt. reach_from p rest j d lt) (fits_point (step e p)) k inside
  where
    over : ((j : ℕ) → j < length (reach_of p rest) → (get_or (reach_of p rest) j d).to ≡ step (get_or (reach_of p rest) j d).direction p) → (b : Bool) (j : ℕ) → j < length (cond b (record { direction = e; to = step e p } ∷ reach_of p rest) (reach_of p rest)) →
        (get_or (cond b (record { direction = e; to = step e p } ∷ reach_of p rest) (reach_of p rest)) j d).to ≡ step (get_or (cond b (record { direction = e; to = step e p } ∷ reach_of p rest) (reach_of p rest)) j d).direction p
    over more true zero lt = refl
    over more true (suc j) lt = more j (omega arith)
    over more false j lt = more j lt

module _ (m : Mosaic) (is : IsMosaic m) (c : Corner) (there : Contains (corners_of m) c) (labelled : LabelledGround) (flooded : IsFlooded m c labelled) where
  of : IsBlockOf m c (block_of m.side flooded.valid.0.heights flooded.valid.0.sinks)
  of = subst (λ n. IsBlockOf m c (record { side = n; heights = flooded.valid.0.heights; sinks = flooded.valid.0.sinks })) flooded.valid.1.0.side flooded.valid.1.0

  labelling : IsLabelling (block_of m.side flooded.valid.0.heights flooded.valid.0.sinks) labelled.levels labelled.labels
  labelling = subst (λ n. IsLabelling (record { side = n; heights = flooded.valid.0.heights; sinks = flooded.valid.0.sinks }) labelled.levels labelled.labels) flooded.valid.1.0.side flooded.valid.1.1

  present : IsTrue (is_present m c)
  present = (present_iff m c).1 there

  -- a point of the tile is ground if its label isn't NO_LABEL
  module _ (p : Point) (e : ℕ) (at : IsIndexOf m.side c p e) where
    pub ground_by_label : slice_index labelled.labels e ≢ NO_LABEL → is_ground m p ≡ true
    ground_by_label some =
        let here = is_at m c m.side p e refl at in
        subst (λ q. is_ground m q ≡ true) here.point (ground_labelled m is c present flooded.valid.0.heights flooded.valid.0.sinks of labelled.levels labelled.labels labelling e here.below some)

    pub void_by_label : slice_index labelled.labels e ≡ NO_LABEL → is_ground m p ≡ false
    void_by_label none = by (is_ground m p) refl
      where
        here : IsAt m c p e
        here = is_at m c m.side p e refl at

        by : (on : Bool) → is_ground m p ≡ on → is_ground m p ≡ false
        by false gap = gap
        by true on = absurd (never_unlabelled m is c present flooded.valid.0.heights flooded.valid.0.sinks of labelled.levels labelled.labels labelling e here.below (subst (λ q. is_ground m q ≡ true) (sym here.point) on) none)

-- a ground point p and a point q one step from it
module _ (m : Mosaic) (is : IsMosaic m) (p q : Point) (ground : is_ground m p ≡ true) (near : is_near p q ≡ true) (other : same_point p q ≡ false) where
  adjacent_is : is_adjacent m p q ≡ (is_ground m q && share_tile m p q)
  adjacent_is = by (is_ground m q)
    where
      by : (b : Bool) → (is_ground m p && b && not (same_point p q) && is_near p q && share_tile m p q) ≡ (b && share_tile m p q)
      by true = ap (λ a. a && true && not (same_point p q) && is_near p q && share_tile m p q) ground ∙ (ap (λ a. true && true && not a && is_near p q && share_tile m p q) other ∙ ap (λ a. true && true && true && a && share_tile m p q) near)
      by false = ap (λ a. a && false && not (same_point p q) && is_near p q && share_tile m p q) ground

  -- if they share a tile, they are adjacent exactly if q is ground
  pub beside : share_tile m p q ≡ true → is_adjacent m p q ≡ is_ground m q
  beside shared = adjacent_is ∙ by (is_ground m q)
    where
      by : (b : Bool) → (b && share_tile m p q) ≡ b
      by true = shared
      by false = refl

  pub beside_in_tile : (c : Corner) → Contains (corners_of m) c → Holds m.side c p → Holds m.side c q → is_adjacent m p q ≡ is_ground m q
  beside_in_tile c there here holds = beside (shared_from m p q c is there here holds)

-- an outlet is a ground point that is a sink or has fewer than eight adjacent points
module _ (m : Mosaic) (p : Point) where
  pub outlet_if_ground : is_ground m p ≡ false → is_outlet m p ≡ false
  outlet_if_ground gap = ap (λ b. b && (nat_lt (degree_of m p) 8 || is_sink m p)) gap

  pub outlet_by_sink : is_ground m p ≡ true → is_sink m p ≡ true → is_outlet m p ≡ true
  outlet_by_sink ground sink = ap (λ b. b && (nat_lt (degree_of m p) 8 || is_sink m p)) ground ∙ (ap (λ b. true && (nat_lt (degree_of m p) 8 || b)) sink ∙ by (nat_lt (degree_of m p) 8))
    where
      by : (b : Bool) → (b || true) ≡ true
      by true = refl
      by false = refl

  pub outlet_by_degree : is_ground m p ≡ true → is_sink m p ≡ false → is_outlet m p ≡ nat_lt (degree_of m p) 8
  outlet_by_degree ground none = ap (λ b. b && (nat_lt (degree_of m p) 8 || is_sink m p)) ground ∙ (ap (λ b. true && (nat_lt (degree_of m p) 8 || b)) none ∙ by (nat_lt (degree_of m p) 8))
    where
      by : (b : Bool) → (b || false) ≡ b
      by true = refl
      by false = refl
