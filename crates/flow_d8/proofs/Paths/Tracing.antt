-- The state of a trace: the path from its first point to the current one.
use Rattle.flow_d8.proofs.Prelude.{Beside, Dir, Flat, FlatTo, Flow, IsDirection, IsFalse, IsFlowPath, IsFollowed, IsMosaic, IsTellingAll, IsTrue, List, Mosaic, NoGround, None, Option, Outlet, Point, Some, To, Unknown, ℕ, ℤ, [], arith, cases_Bool, cases_lt, count_of, direction_of, fits_point, get_or_past, inl, inr, is_ground, is_held, length, none-some, refl, step, subst, suc, sym, terrain, zero, ⊎_elim, ◌++◌, ◌<◌, ◌↔◌, ◌∙◌, ◌∷◌, ◌≡◌}
use Rattle.water.proofs.Following.{followed_more, followed_end}
use Rattle.flow_d8.proofs.Samples.Numbers.{number_past}
use Rattle.water.proofs.MosaicGrid.{mosaic_is_grid}
use Rattle.water.proofs.Fitting.{ground_fits}
use Rattle.flow_d8.specs.Directions.{Directions, AreWhole, AreDirectionsOf, number_in, flow_at, flow_in, direction_in, distance_in, walk}
use Rattle.flow_d8.proofs.Paths.Crossing.{told_in, walk_is, walk_nowhere}

-- a sample with a flow other than NoGround exists
pub some_sample : (d : Directions) → (k : ℕ) → (flow_at d k ≡ NoGround → ⊥) → k < length d.drains
some_sample d k told = elim (cases_lt k (length d.drains)) [
  | inl within ↦ within
  | inr past ↦ absurd (told (get_or_past d.drains k NoGround past))
]

-- a flow without direction and distance is NoGround
walk_some : (d : Directions) (n k : ℕ) → 0 < n → flow_at d k ≡ Outlet → walk d n k ≡ Some 0
walk_some d zero k some at = absurd (omega arith)
walk_some d (suc n) k some at = walk_is d n k Outlet at

neither : (d : Directions) (whole : AreWhole d) (p : Point) → direction_in d p ≡ None → distance_in d p ≡ None → flow_in d p ≡ NoGround
neither d whole p direction distance = by (flow_in d p) refl
  where
    by : (f : Flow) → flow_in d p ≡ f → flow_in d p ≡ NoGround
    by Unknown at = absurd (subst IsTellingAll at (told_in d whole p))
    by NoGround at = at
    by Outlet at =
        let low : number_in d p < length d.drains = some_sample d (number_in d p) (λ none. no (sym at ∙ none)) in
        absurd (none-some 0 (sym distance ∙ walk_some d (count_of d.tiles) (number_in d p) (omega (arith, low, whole.whole)) at))
      where
        no : Outlet ≡ NoGround → ⊥
        no same = cc
    by (To e) at = absurd (none-some e (sym direction ∙ ap_direction at))
      where
        ap_direction : flow_in d p ≡ To e → direction_in d p ≡ Some e
        ap_direction same = subst (λ f. direction_of f ≡ Some e) (sym same) refl
    by (Beside e) at = absurd (none-some e (sym direction ∙ subst (λ f. direction_of f ≡ Some e) (sym at) refl))
    by Flat at = absurd (subst IsTellingAll at (told_in d whole p))
    by (FlatTo e) at = absurd (none-some e (sym direction ∙ subst (λ f. direction_of f ≡ Some e) (sym at) refl))

module _ (m : Mosaic) (level : Point → ℤ) (d : Directions) (are : AreDirectionsOf m level d) where
  -- a ground point's flow isn't NoGround
  pub ground_told : (p : Point) → IsTrue (is_ground m p) → flow_in d p ≡ NoGround → ⊥
  ground_told p solid none = let dist = are.distance p solid in none-some dist.0 (sym (walk_nowhere d (count_of d.tiles) (number_in d p) none) ∙ dist.1.0)

  pub off_none : AreWhole d → (p : Point) → IsFalse (is_ground m p) → flow_in d p ≡ NoGround
  off_none whole p off = let e = are.elsewhere p off in neither d whole p e.0 e.1

  pub none_is_off : AreWhole d → (p : Point) → (flow_in d p ≡ NoGround) ↔ IsFalse (is_ground m p)
  none_is_off whole p = (
    λ none. elim (cases_Bool (is_ground m p)) [ inl solid ↦ absurd (ground_told p solid none) | inr off ↦ off ],
    off_none whole p,
  )

  -- a point whose flow isn't NoGround is ground
  pub told_ground : AreWhole d → (p : Point) → (flow_in d p ≡ NoGround → ⊥) → IsTrue (is_ground m p)
  told_ground whole p told = elim (cases_Bool (is_ground m p)) [
    | inl solid ↦ solid
    | inr off ↦ absurd (told (off_none whole p off))
  ]

  -- tiles hold each ground point
  pub ground_held : AreWhole d → (p : Point) → IsTrue (is_ground m p) → IsTrue (is_held d.tiles.side d.tiles.corners p)
  ground_held whole p solid = elim (cases_Bool (is_held d.tiles.side d.tiles.corners p)) [
    | inl held ↦ held
    | inr off ↦
        let low = some_sample d (number_in d p) (ground_told p solid) in
        absurd (omega (arith, low, whole.whole, number_past d.tiles.side d.tiles.corners p off))
  ]

module _ (m : Mosaic) (level : Point → ℤ) (d : Directions) (is : IsMosaic m) (are : AreDirectionsOf m level d) where
  -- the point that a ground point drains to is ground
  pub drains_to_ground : (p : Point) (e : Dir) → IsTrue (is_ground m p) → direction_in d p ≡ Some e → IsDirection (terrain m) level p (Some e) × IsTrue (is_ground m (step e p))
  drains_to_ground p e solid at =
      let drains = subst (IsDirection (terrain m) level p) at (are.direction p solid) in
      (drains, (mosaic_is_grid m is).lawful.to_ground p (step e p) (⊎_elim (λ steep. steep.lower.beside) (λ flat. flat.1.1.nearer.beside) drains))

  pub follow_more : (first last to : Point) (path : List Point) (e : Dir) → direction_in d last ≡ Some e → to ≡ step e last → IsFollowed (terrain m) level first last path → IsFollowed (terrain m) level first to (path ++ to ∷ [])
  follow_more first last to path e at is_to so_far = followed_more (terrain m) (mosaic_is_grid m is) level first last to path (e, (subst (IsDirection (terrain m) level last) at (are.direction last so_far.solid), is_to)) so_far

  pub follow_end : (first last : Point) (path : List Point) → ((e : Dir) → direction_in d last ≡ Some e → IsTrue (fits_point (step e last)) → ⊥) → IsFollowed (terrain m) level first last path → IsFlowPath (terrain m) level first path
  follow_end first last path off so_far = followed_end (terrain m) (mosaic_is_grid m is) level first last path (ended (direction_in d last) refl) so_far
    where
      ended : (o : Option Dir) → direction_in d last ≡ o → IsDirection (terrain m) level last None
      ended None at = subst (IsDirection (terrain m) level last) at (are.direction last so_far.solid)
      ended (Some e) at = absurd (off e at (ground_fits m is (step e last) (drains_to_ground last e so_far.solid at).1))
