use Rattle.cow_tree.proofs.Prelude.{KeptLocations, Levels, None, Option, PlaneLocation, Some, option_map, refl, ◌≡◌}
use Rattle.page_map.proofs.Lookup.{held_plane}
use Rattle.cow_tree.proofs.tree.Tree.keeps.Goals as goal

pub returns-clause-levels : goal.returns-clause-levels
returns-clause-levels g c = rw c.is_some.ensures (held_plane c.args.c Levels c.args.self.now.page_map.staged c.plane.result c.plane.ensures.found c.plane.ensures.none)

-- A tile that keeps one of the two planes keeps the other, too.
with_it : (f h : KeptLocations → PlaneLocation) (o : Option KeptLocations) (p : PlaneLocation) → option_map f o ≡ Some p → (q : PlaneLocation) × (option_map h o ≡ Some q)
with_it f h None p is = cc
with_it f h (Some k) p is = (h k, refl)

pub returns-clause-labels : goal.returns-clause-labels
returns-clause-labels g c =
    let held = held_plane c.args.c Levels c.args.self.now.page_map.staged c.plane.result c.plane.ensures.found c.plane.ensures.none in
    rw c.is_some.ensures (
      λ yes. let (p, (t, (there, (at, is)))) = held.0 yes in let (q, other) = with_it (λ k. k.levels) (λ k. k.labels) t.kept p is in (q, (t, (there, (at, other)))),
      λ (p, (t, (there, (at, is)))). let (q, other) = with_it (λ k. k.labels) (λ k. k.levels) t.kept p is in held.1 (q, (t, (there, (at, other)))),
    )
