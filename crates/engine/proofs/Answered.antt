-- An answer that is right for a mosaic is right in a state with that mosaic, which stays.
use Rattle.std.proofs.Common.{◌≡◌, ℕ, ℤ, List, IsTrue, Result, Ok, Err, refl, sym, subst}
use Rattle.std.specs.Prelude.{MatchResult, Contains, Option, Some, None, is_some}
use Rattle.std.specs.Global.{Vec}
use Rattle.lattice.specs.declared.point.Point.{Point}
use Rattle.lattice.specs.declared.refusal.Refusal.{Refusal}
use Rattle.lattice.specs.declared.refusal.Refusal.TheVariants.{Outside, Void, NoMemory}
use Rattle.lattice.specs.Terrain.{IsFilledLevel}
use Rattle.lattice.specs.Corners.{Corner}
use Rattle.lattice.specs.Mosaic.{Mosaic, is_present, samples_of}
use Rattle.lattice.specs.Ground.{terrain}
use Rattle.catalogue.specs.Tiles.{corners_of}
use Rattle.catalogue.proofs.Presence.{present_iff, some-samples}
use Rattle.water.specs.FlowPath.{IsFlowPath, IsInWatershed}
use Rattle.water.specs.declared.run.Run.{Run}
use Rattle.water.specs.Runs.{AreRuns}
use Rattle.water.specs.Questions.{DrainsBy, IsAnswered, IsUnanswered}
use Rattle.engine.specs.State.{State}
use Rattle.engine.specs.Engines.{items_in}
use Rattle.engine.specs.Outcomes.{Stays, AnswersNot, TellsTile, Fills, Directs, Traces, Sheds}

pub no_samples : (m : Mosaic) (c : Corner) → ¬ Contains (corners_of m) c → samples_of m c ≡ None
no_samples m c absent = by (samples_of m c) (some-samples c m.tiles)
  where
    by : (o : Option (List ℤ)) → is_some o ≡ is_present m c → o ≡ None
    by None e = refl
    by (Some samples) e = absurd (absent ((present_iff m c).0 (sym e)))

-- Right values for all samples of a present tile are a right answer in a state with that mosaic.
pub tells : {X : Type 0} (Says : Mosaic → Corner → List X → Type 0) (s t : State) → Stays s t → (c : Corner) → IsTrue (is_present s.contents.mosaic c)
    → (result : Result (Vec X) Refusal) → MatchResult result (λ values. Says s.contents.mosaic c values.items) (λ r. r ≡ NoMemory) → TellsTile Says s c (items_in result) t
tells Says s t stays c present (Ok values) is = (stays, (present, is))
tells Says s t stays c present (Err r) is = subst (λ (why : Refusal). TellsTile Says s c (Err why) t) (sym is) stays

module _ (s t : State) (stays : Stays s t) (p : Point) where
  abbrev here : Mosaic
  here = s.contents.mosaic

  unanswered : (r : Refusal) → IsUnanswered here p r → AnswersNot s p r t
  unanswered Outside is = (stays, is)
  unanswered Void is = (stays, is)
  unanswered NoMemory is = stays
  unanswered _ is = absurd is

  pub fills : (result : Result ℤ Refusal) → MatchResult result (IsFilledLevel (terrain here) p) (IsUnanswered here p) → Fills s p result t
  fills (Ok level) is = (stays, is)
  fills (Err r) is = unanswered r is

  pub directs : (result : Result ℕ Refusal) → MatchResult result (λ code. IsAnswered here p (λ level. DrainsBy (terrain here) level p code)) (IsUnanswered here p) → Directs s p result t
  directs (Ok code) is = (stays, is)
  directs (Err r) is = unanswered r is

  pub traces : (result : Result (Vec Point) Refusal) → MatchResult result (λ path. IsAnswered here p (λ level. IsFlowPath (terrain here) level p path.items)) (IsUnanswered here p)
      → MatchResult result (λ path. Traces s p (Ok path.items) t) (λ r. Traces s p (Err r) t)
  traces (Ok path) is = (stays, is)
  traces (Err r) is = unanswered r is

  pub sheds : (result : Result (Vec Run) Refusal) → MatchResult result (λ runs. IsAnswered here p (λ level. AreRuns (IsInWatershed (terrain here) level p) runs.items)) (IsUnanswered here p)
      → MatchResult result (λ runs. Sheds s p (Ok runs.items) t) (λ r. Sheds s p (Err r) t)
  sheds (Ok runs) is = (stays, is)
  sheds (Err r) is = unanswered r is
