use Rattle.std.proofs.Common.{rules}
use Rattle.drainage.proofs.Prelude.{Contains, Corner, IfSome, List, None, Option, Some, [], both_ways, false, subst, sym, true, ◌∷◌, ◌≡◌}
use Rattle.std.specs.Global.{Vec}
use Rattle.catalogue.proofs.Presence.{listed_from, listed_says}
use Rattle.catalogue.specs.Tiles.{is_listed}
use Rattle.std.proofs.lemmas.List.Elements.{Contains-append_left, Contains-push}
use Rattle.drainage.proofs.far_tiles.with_corner.Goals as goal

pub returns-then-is_listed-clause-among : goal.returns-then-is_listed-clause-among
returns-then-is_listed-clause-among c =
    let there : is_listed c.args.corner c.in-Some.corners.items ≡ true = search rules in
    (c.in-Some.corners, (c.in-Some.is, (listed_says c.args.corner c.in-Some.corners.items there, λ d there. there)))

pub returns-in-Ok-clause-among : goal.returns-in-Ok-clause-among
returns-in-Ok-clause-among c =
    let was = c.in-Some.corners.items in
    let corner = c.args.corner in
    let pushed = c.in-Ok.ensures.pushed in (
      c.in-Some.corners,
      (
        c.in-Some.is,
        (
          subst (λ (l : List Corner). Contains l corner) (sym pushed) (Contains-push was corner),
          λ d there. subst (λ (l : List Corner). Contains l d) (sym pushed) (Contains-append_left was (corner ∷ []) d there),
        ),
      ),
    )

pub returns-in-Ok-clause-same : goal.returns-in-Ok-clause-same
returns-in-Ok-clause-same c =
    let off : is_listed c.args.corner c.in-Some.corners.items ≡ false = search rules in
    subst (λ (o : Option (Vec Corner)). IfSome o (λ before. Contains before.items c.args.corner → Some c.push.new.items ≡ Some before)) (sym c.in-Some.is)
    (λ there. absurd (both_ways (is_listed c.args.corner c.in-Some.corners.items) off (listed_from c.args.corner c.in-Some.corners.items there)))

pub returns-in-Err-clause-same : goal.returns-in-Err-clause-same
returns-in-Err-clause-same c =
    let off : is_listed c.args.corner c.in-Some.corners.items ≡ false = search rules in
    subst (λ (o : Option (Vec Corner)). IfSome o (λ before. Contains before.items c.args.corner → None ≡ Some before)) (sym c.in-Some.is)
    (λ there. absurd (both_ways (is_listed c.args.corner c.in-Some.corners.items) off (listed_from c.args.corner c.in-Some.corners.items there)))
