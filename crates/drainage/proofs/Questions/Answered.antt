-- A call's contract answers the query, unless a read was refused or damage was found. Over a table neither happens.
use Rattle.std.proofs.Common.{◌≡◌, ◌≢◌, ◌↔◌, ℤ, IsTrue, refl, ap, Result, Ok, Err}
use Rattle.std.specs.Prelude.{IsOk, IfOk, IfErr, IsErrOf, MatchResult}
use Rattle.drainage.proofs.Prelude.{AreFilledLevels, IsMosaic, Mosaic, Point, Refusal, corners_of, ends_any, false≢true, height_of, is_ground, terrain}
use Rattle.lattice.specs.declared.height.Height.TheVariants as height
use Rattle.lattice.specs.declared.refusal.Refusal.TheVariants.{Outside, Void, Device, NoMemory, Failed, Damaged}
use Rattle.catalogue.specs.Asked.{IsOwnRefusal}
use Rattle.water.specs.Questions.{IsAnswered, IsUnanswered}
use Rattle.levels.specs.Asking.{IsHeldByNone, may_refuse}
use Rattle.levels.proofs.Caches.Holders.{outside_from}

-- the answer to a query that has no refusal of its own, such as Outside
pub told_or_short : {T : Type 0} (Says : T → Type 0) (result : Result T Refusal) → IfErr result IsOwnRefusal → result ≢ Err Damaged → IfOk result Says → IfErr result (λ r. IsTrue (ends_any r)) → MatchResult result Says (λ r. r ≡ NoMemory)
told_or_short Says (Ok x) own sound found may = found
told_or_short Says (Err NoMemory) own sound found may = refl
told_or_short Says (Err Damaged) own sound found may = absurd (sound refl)
told_or_short Says (Err Device) own sound found may = absurd own
told_or_short Says (Err Failed) own sound found may = absurd own
told_or_short Says (Err _) own sound found may = absurd (false≢true may)

module _ (m : Mosaic) (is : IsMosaic m) (p : Point) where
  unanswered : (r : Refusal) → IsTrue (may_refuse r) → IsOwnRefusal r → (r ≢ Damaged) → (r ≡ Outside → IsHeldByNone m.side (corners_of m) p) → (r ≡ Void → height_of m p ≡ height.Void) → IsUnanswered m p r
  unanswered Outside may own sound outside void = outside_from m p is (outside refl)
  unanswered Void may own sound outside void = void refl
  unanswered NoMemory may own sound outside void = tt
  unanswered Device may own sound outside void = absurd own
  unanswered Failed may own sound outside void = absurd own
  unanswered Damaged may own sound outside void = absurd (sound refl)
  unanswered _ may own sound outside void = absurd (false≢true may)

  -- the answer to a query about one point: a level, a direction, a flow path or a watershed
  module _ {T : Type 0} where
    pub told : (Says : T → Type 0) (result : Result T Refusal) → IfErr result IsOwnRefusal → result ≢ Err Damaged → IfOk result Says → (IsErrOf result Outside ↔ IsHeldByNone m.side (corners_of m) p)
        → (IsErrOf result Void → height_of m p ≡ height.Void) → IfErr result (λ r. IsTrue (may_refuse r)) → MatchResult result Says (IsUnanswered m p)
    told Says (Ok x) own sound found outside void may = found
    told Says (Err r) own sound found outside void may = unanswered r may own (λ e. sound (ap (λ (x : Refusal). Err x) e)) (λ e. outside.0 (ap (λ (x : Refusal). Err x) e)) (λ e. void (ap (λ (x : Refusal). Err x) e))

    -- the answer to a query, for statements about every function that gives the filled levels
    pub told_of_levels : (Says : T → (Point → ℤ) → Type 0) (result : Result T Refusal) → IfErr result IsOwnRefusal → result ≢ Err Damaged → IfOk result (λ x. (level : Point → ℤ) → AreFilledLevels (terrain m) level → Says x level)
        → (IsOk result → IsTrue (is_ground m p)) → (IsErrOf result Outside ↔ IsHeldByNone m.side (corners_of m) p) → (IsErrOf result Void → height_of m p ≡ height.Void)
        → IfErr result (λ r. IsTrue (may_refuse r)) → MatchResult result (λ x. IsAnswered m p (Says x)) (IsUnanswered m p)
    told_of_levels Says result own sound found on outside void may = told (λ x. IsAnswered m p (Says x)) result own sound (both result found on) outside void may
      where
        both : (result : Result T Refusal) → IfOk result (λ x. (level : Point → ℤ) → AreFilledLevels (terrain m) level → Says x level) → (IsOk result → IsTrue (is_ground m p)) → IfOk result (λ x. IsAnswered m p (Says x))
        both (Ok x) found on = record { on_ground = on refl; says = found }
        both (Err r) found on = tt
