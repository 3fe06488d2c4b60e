use Rattle.flow_d8.proofs.Prelude.{ap, arith, get_or-map-range_with_len, get_or_default, get_or_past, length, length-map-range_with_len, mark_in, sym, ℕ, ◌/◌}
use Rattle.flow_d8.proofs.marks.Marks.mark.Goals as goal

pub returns-then-k-self : goal.returns-then-k-self
returns-then-k-self c =
    let words = c.self.inside.words.items in
    rw (← c.self.view_is) (grind (arith, get_or-map-range_with_len (mark_in words) 0 c.self.inside.count c.args.k c.args.k 3, c.index.ensures, get_or_default words (c.args.k / 32) c.index.result.now 0))

pub returns-else-k-self : goal.returns-else-k-self
returns-else-k-self c = sym (get_or_past c.args.self.now c.args.k 3 (omega (arith, ap length c.self.view_is, length-map-range_with_len {X = ℕ})))
