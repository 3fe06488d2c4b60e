-- What a resolved flow of a point says to a search over flows.
use Rattle.std.proofs.Common.{◌≡◌, ℤ, Bool, IsFalse, Option, Some, None, List, Result, Ok, Err, refl, sym, ◌∙◌, subst, true≢false}
use Rattle.drainage.proofs.Prelude.{AreFilledLevels, Beside, Flat, FlatTo, Flow, IfOk, IfSome, IsToldOf, Mosaic, NoGround, OnLevels, Outlet, Point, Refusal, To, Unknown, is_ground, terrain}
use Rattle.water.specs.Donors.{AreToldBy, DrainsBack}
use Rattle.flow_d8.specs.Flows.{IsFlow}
use Rattle.water.specs.Flows.{IsTellingAll, Drains}
use Rattle.flow_d8.proofs.Sayings.Draining.{telling_direction, telling_ground}

pub draining_tells : (f : Flow) → Drains f → IsTellingAll f
draining_tells Unknown drains = absurd drains
draining_tells NoGround drains = absurd drains
draining_tells Outlet drains = tt
draining_tells (To d) drains = tt
draining_tells (Beside d) drains = tt
draining_tells Flat drains = absurd drains
draining_tells (FlatTo d) drains = tt

module _ (m : Mosaic) (level : Point → ℤ) (p : Point) where
  module _ (f : Flow) (so : IsFlow (terrain m) level p f) (all : IsTellingAll f) (off : IsFalse (is_ground m p)) where
    never : (f ≡ NoGround → ⊥) → ⊥
    never other = true≢false (sym (telling_ground m level p f so all other) ∙ off)

  -- the resolved flow of a point that isn't ground is NoGround
  pub none_told : (f : Flow) → IsFlow (terrain m) level p f → IsTellingAll f → IsFalse (is_ground m p) → f ≡ NoGround
  none_told Unknown so all off = absurd all
  none_told NoGround so all off = refl
  none_told Outlet so all off = absurd (never Outlet so all off (λ e. absurd (cc)))
  none_told (To d) so all off = absurd (never (To d) so all off (λ e. absurd (cc)))
  none_told (Beside d) so all off = absurd (never (Beside d) so all off (λ e. absurd (cc)))
  none_told Flat so all off = absurd all
  none_told (FlatTo d) so all off = absurd (never (FlatTo d) so all off (λ e. absurd (cc)))

  pub told_of : (f : Flow) → IsFlow (terrain m) level p f → IsTellingAll f → IsToldOf (terrain m) level p f
  told_of f so all = record {
    on_ground = telling_direction (terrain m) level p f so all;
    elsewhere = ((λ none. subst (IsFlow (terrain m) level p) none so), none_told f so all);
  }

  pub no_ground : IsFalse (is_ground m p) → IsToldOf (terrain m) level p NoGround
  no_ground off = told_of NoGround off tt

-- a flow that drains is right and resolved, for each function of filled levels
pub drained_told : (m : Mosaic) (p : Point) (result : Result Flow Refusal) → IfOk result (λ flow. OnLevels m (λ level. IsFlow (terrain m) level p flow)) → IfOk result Drains
    → IfOk result (λ flow. OnLevels m (λ level. IsToldOf (terrain m) level p flow))
drained_told m p (Ok f) so drains = λ level filled. told_of m level p f (so level filled) (draining_tells f drains)
drained_told m p (Err r) so drains = tt

-- a premise of a statement about an Ok result becomes a premise about its value
pub given_late : {T : Type 0} (H : Type 0) (result : Result T Refusal) (P : T → Type 0) → (H → IfOk result P) → IfOk result (λ x. H → P x)
given_late H (Ok x) P told = told
given_late H (Err r) P told = tt

-- the donors of a point are right for each function of filled levels, on each mosaic equal to m
pub donors_told : (found : Option (List Bool)) (H : Type 0) (m : Mosaic) (p : Point) → (H → IfSome found (λ donors. OnLevels m (λ level. AreToldBy (DrainsBack (terrain m) level p) donors 8)))
    → IfSome found (λ donors. (n : Mosaic) (level : Point → ℤ) → H × ((n ≡ m) × AreFilledLevels (terrain n) level) → AreToldBy (DrainsBack (terrain n) level p) donors 8)
donors_told None H m p told = tt
donors_told (Some donors) H m p told = λ n level tells.
    subst (λ (k : Mosaic). AreFilledLevels (terrain k) level → AreToldBy (DrainsBack (terrain k) level p) donors 8) (sym tells.1.0) (told tells.0 level) tells.1.1
