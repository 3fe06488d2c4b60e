-- What a flow that drains says about its point, and that each flow drains once its flat is resolved.
use Rattle.std.proofs.Common.{rules}
use Rattle.flow_d8.proofs.Prelude.{AreFlows, AreKnown, Beside, CrossesFlat, Dir, Drains, Flat, FlatTo, Flow, IfNone, IsDirection, IsFalse, IsFlow, IsFlowNear, IsFull, IsMosaic, IsOfFlat, IsTellingAll, IsTrue, List, Mosaic, Names, NoGround, None, Option, Outlet, Point, Some, Tells, Terrain, To, Unknown, ℕ, ℤ, ap, direction_of, inl, inr, is_ground, none-some, refl, slice_index_or, step, subst, sym, terrain, terrain_is_lawful, true≢false, ◌⊎◌, ◌<◌, ◌∙◌, ◌≡◌}
use Rattle.std.specs.Prelude.{◌↔◌}
use Rattle.flow_d8.specs.Filled.{number_of}
use Rattle.flow_d8.specs.Tiles.{Tiles, AreTiles, IsSampleOf, count_of, place_of}
use Rattle.flow_d8.specs.Resolution.{AreResolved}
use Rattle.flow_d8.proofs.Samples.TilePlaces.{place_number}
use Rattle.water.proofs.Unique.{one_direction}

-- what is true is true where there is none
pub IfNone_from : {X : Type 0} (r : Option X) {P : Type 0} → P → IfNone r P
IfNone_from None so = so
IfNone_from (Some x) so = tt

-- what follows from what a clause says of a `None`
pub IfNone_then : {X : Type 0} (r : Option X) {P Q : Type 0} → IfNone r P → (P → Q) → IfNone r Q
IfNone_then None none follows = follows none
IfNone_then (Some x) none follows = tt

-- the flow names the point's direction
pub flow_direction : (t : Terrain Point) (level : Point → ℤ) (p : Point) (f : Flow) → IsFlow t level p f → Drains f → IsDirection t level p (direction_of f)
flow_direction t level p Outlet is drains = is
flow_direction t level p (To d) is drains = inl is
flow_direction t level p (Beside d) is drains = is.1.1
flow_direction t level p (FlatTo d) is drains = is.1.1
flow_direction t level p _ is drains = absurd drains

-- a resolved flow has the direction of a ground point
pub telling_direction : (t : Terrain Point) (level : Point → ℤ) (p : Point) (f : Flow) → IsFlow t level p f → IsTellingAll f → IsTrue (t.is_ground p) → IsDirection t level p (direction_of f)
telling_direction t level p NoGround is all ground = absurd (true≢false (sym ground ∙ is))
telling_direction t level p Outlet is all ground = is
telling_direction t level p (To d) is all ground = inl is
telling_direction t level p (Beside d) is all ground = is.1.1
telling_direction t level p (FlatTo d) is all ground = is.1.1
telling_direction t level p _ is all ground = absurd all

-- a point with a resolved flow other than NoGround is ground
pub telling_ground : (m : Mosaic) (level : Point → ℤ) (p : Point) (f : Flow) → IsFlow (terrain m) level p f → IsTellingAll f → (f ≡ NoGround → ⊥) → IsTrue (is_ground m p)
telling_ground m level p NoGround so all some = absurd (some refl)
telling_ground m level p Outlet so all some = (terrain_is_lawful m).outlet_ground p so.1
telling_ground m level p (To d) so all some = (terrain_is_lawful m).from_ground p (step d p) so.lower.beside
telling_ground m level p (Beside d) so all some = so.0.ground
telling_ground m level p (FlatTo d) so all some = so.0.ground
telling_ground m level p _ so all some = absurd all

-- the resolved flow of a point that isn't ground has no direction
pub telling_none : (m : Mosaic) → IsMosaic m → (level : Point → ℤ) (p : Point) (f : Flow) → IsFlow (terrain m) level p f → IsTellingAll f → IsFalse (is_ground m p) → direction_of f ≡ None
telling_none m is level p NoGround so all off = refl
telling_none m is level p Outlet so all off = refl
telling_none m is level p (To d) so all off = absurd (true≢false (sym ((terrain_is_lawful m).from_ground p (step d p) so.lower.beside) ∙ off))
telling_none m is level p (Beside d) so all off = absurd (true≢false (sym so.0.ground ∙ off))
telling_none m is level p (FlatTo d) so all off = absurd (true≢false (sym so.0.ground ∙ off))
telling_none m is level p _ so all off = absurd all

-- a resolved flow has the direction d exactly if the point is ground and drains that way
pub names_donor : (m : Mosaic) (level : Point → ℤ) (p : Point) (f : Flow) (d : Dir) → IsFlow (terrain m) level p f → IsTellingAll f
    → (direction_of f ≡ Some d) ↔ (IsTrue (is_ground m p) × IsDirection (terrain m) level p (Some d))
names_donor m level p f d so all = (
  λ names.
      let ground : IsTrue (is_ground m p) = telling_ground m level p f so all (λ none. none-some d (sym (ap direction_of none) ∙ names)) in
      (ground, subst (IsDirection (terrain m) level p) names (telling_direction (terrain m) level p f so all ground)),
  λ drains. one_direction (terrain m) level p (direction_of f) (Some d) (telling_direction (terrain m) level p f so all drains.0) drains.1,
)

-- a flow that the levels around a point show is right
pub near_flow : (t : Terrain Point) (level : Point → ℤ) (p : Point) (f : Flow) → IsFlowNear t level p f → IsFlow t level p f
near_flow t level p Unknown is = tt
near_flow t level p Outlet is = is
near_flow t level p (To d) is = is
near_flow t level p _ is = absurd is

-- a flow that is known but not resolved lies inside a flat
pub flat_unless : (f : Flow) → (IsTellingAll f → ⊥) → (f ≡ Unknown → ⊥) → IsOfFlat f
flat_unless Unknown telling some = absurd (some refl)
flat_unless Flat telling some = tt
flat_unless NoGround telling some = absurd (telling tt)
flat_unless Outlet telling some = absurd (telling tt)
flat_unless (To d) telling some = absurd (telling tt)
flat_unless (Beside d) telling some = tt
flat_unless (FlatTo d) telling some = tt

-- a flow is unknown or known
pub decide_known : (f : Flow) → (f ≡ Unknown) ⊎ (f ≡ Unknown → ⊥)
decide_known Unknown = inl refl
decide_known NoGround = inr (λ e. cc)
decide_known Outlet = inr (λ e. cc)
decide_known Flat = inr (λ e. cc)
decide_known (To d) = inr (λ e. cc)
decide_known (Beside d) = inr (λ e. cc)
decide_known (FlatTo d) = inr (λ e. cc)

-- a flow that drains is resolved
pub drains_all : (f : Flow) → Drains f → IsTellingAll f
drains_all Unknown drains = absurd drains
drains_all NoGround drains = absurd drains
drains_all Flat drains = absurd drains
drains_all Outlet drains = tt
drains_all (To d) drains = tt
drains_all (Beside d) drains = tt
drains_all (FlatTo d) drains = tt

-- a sample's known flow stays known
pub known_at : (old new : List Flow) (k : ℕ) → Tells old new → (slice_index_or old k Unknown ≡ Unknown → ⊥) → slice_index_or new k Unknown ≡ Unknown → ⊥
known_at old new k tells known unknown = search rules

-- if all flows are known, they stay known
pub known_still : (old new : List Flow) → AreKnown old → Tells old new → AreKnown new
known_still old new known tells k small unknown = search rules

module _ (tiles : Tiles) (valid : AreTiles tiles) (p : Point) (old new : List Flow) where
  abbrev seed : ℕ
  seed = number_of tiles.side tiles.corners p

  -- each sample of the point has a flow that drains, if its flat was resolved or it wasn't inside one
  pub drains_at : (k : ℕ) → IsSampleOf tiles p k → (slice_index_or new k Unknown ≡ Unknown → ⊥)
      → ((e : ℕ) → (IsOfFlat (slice_index_or old e Unknown) → ⊥) → slice_index_or new e Unknown ≡ slice_index_or old e Unknown)
      → (t : Terrain Point) (level : Point → ℤ) → AreFlows t level (place_of tiles) new → IsTrue (t.is_ground p)
      → (IsOfFlat (slice_index_or old k Unknown) → (d : Dir) × Names (slice_index_or new k Unknown) d) → Drains (slice_index_or new k Unknown)
  drains_at k at known kept t level are ground named = search rules

  pub resolved_sample : AreResolved tiles seed old new → seed < count_of tiles → (k : ℕ) → IsSampleOf tiles p k → (t : Terrain Point) (level : Point → ℤ) → IsFull t → AreFlows t level (place_of tiles) old → (j : ℕ) → CrossesFlat t level p j
      → IsOfFlat (slice_index_or old k Unknown) → (d : Dir) × Names (slice_index_or new k Unknown) d
  resolved_sample resolved small k at t level full are j crosses flat =
      let place : place_of tiles seed ≡ p = place_number tiles valid p small in
      let r = resolved 0 seed k refl (record { small = at.small; here = at.here ∙ sym place }) flat t level full are j (subst (λ q. CrossesFlat t level q j) (sym place) crosses) in
      (r.0, r.1.0)
