use Rattle.std.proofs.Common.{Vec, Global, Result, Ok, Err, [], sym, ◌∙◌, true≢false, ◌≡◌, ℤ, IsFalse, IfOk}
use Rattle.flow_d8.proofs.Prelude.{AreDirectionsOf, Mosaic, Point, is_ground}
use Rattle.flow_d8.proofs.Paths.Tracing.{ground_told, off_none}
use Rattle.flow_d8.proofs.directions.Directions.trace.Goals as goal

any_ok : {A B : Type 0} (P : A → Type 0) (r : Result A B) → ((x : A) → P x) → IfOk r P
any_ok P (Ok x) each = each x
any_ok P (Err e) each = tt

pub returns-then-not-is_told-clause-path : goal.returns-then-not-is_told-clause-path
returns-then-not-is_told-clause-path c m level is are solid = absurd (true≢false (sym (c.is_told.ensures.told.1 (ground_told m level c.args.self.now are c.args.point solid)) ∙ c.if-not-is_told.true))

pub returns-clause-elsewhere : goal.returns-clause-elsewhere
returns-clause-elsewhere c =
    any_ok (λ (path : Vec Point Global). (m : Mosaic) (level : Point → ℤ) → AreDirectionsOf m level c.args.self.now → IsFalse (is_ground m c.args.point) → path.items ≡ []) c.follow.result
    (λ path m level are off. absurd (c.is_told.ensures.told.0 c.if-not-is_told.false (off_none m level c.args.self.now are c.is_told.ensures.whole c.args.point off)))
