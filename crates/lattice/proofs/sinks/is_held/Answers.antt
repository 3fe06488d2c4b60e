use Rattle.std.proofs.Common.{◌≡◌, ◌==◌, ℕ, ◌≤◌, Bool, true, false, List, [], ◌∷◌, length, refl, sym, arith}
use Rattle.std.specs.Prelude.{IsTrue, not, ◌↔◌}
use Rattle.lattice.proofs.Prelude.{Contains, Corner, Holds, Point, eqb-true}
use Rattle.std.proofs.lemmas.List.Elements.{Contains-get_or, at_from_Contains}
use Rattle.lattice.proofs.Samples.{holds_is}
use Rattle.lattice.specs.Mosaic.{IsHeld}
use Rattle.lattice.proofs.sinks.is_held.Goals as goal

-- Some corner's tile has the point exactly if the list of holders isn't empty.
some_holder : (side : ℕ) (p : Point) (holders : List Corner) (is_empty : Bool) → 3 ≤ side → is_empty ≡ (length holders == 0) → ((c : Corner) → Contains holders c ↔ Holds side c p) → IsTrue (not is_empty) ↔ IsHeld side p
some_holder side p [] is_empty low is held = (
  λ e. absurd (cc (e, is)),
  λ sink.
      let at = at_from_Contains [] sink.0 ((held sink.0).1 ((holds_is side sink.0 p low sink.1.0).0 sink.1.1)) in
      absurd (omega (arith, at.1)),
)
some_holder side p (c ∷ more) true low is held = let none : length (c ∷ more) ≡ 0 = eqb-true (length (c ∷ more)) 0 (sym is) in absurd (omega (arith, none))
some_holder side p (c ∷ more) false low is held = (
  λ _.
      let here : Holds side c p = (held c).0 (Contains-get_or (c ∷ more) 0 c (omega arith)) in
      (c, (here.corner, (holds_is side c p low here.corner).1 here)),
  λ _. refl,
)

pub returns : goal.returns
returns c = some_holder c.args.side c.args.point c.holders.result.items c.is_empty.result c.edge-edge.ensures.low c.is_empty.ensures c.holders.ensures.exactly
