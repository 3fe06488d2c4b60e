use Rattle.flow_d8.proofs.Prelude.{Flow, List, Unknown, ℕ, ap, arith, cases_eq, div-mul-add, get_or, get_or-set_other, get_or-set_same, inl, inr, length, length-set, set, sym, ◌*◌, ◌+◌, ◌/◌, ◌<◌, ◌∙◌, ◌≡◌, ◌≢◌}
use Rattle.flow_d8.proofs.grid.copy_tile.Goals as goal

pub loop-i-preserved : goal.loop-i-preserved
loop-i-preserved c =
    let old = c.loop-i.flows in
    let new = c.set_flow.new.flows in
    let area = c.args.area in
    let i = c.loop-i.i in
    let at : ℕ = c.args.to * area + i in
    let inv = c.loop-i.invariant in
    let small : i < area = c.loop-i-test.true in
    let is : new ≡ set old at c.flow_at-flow.result = c.set_flow.ensures in
    let within : at < length old = omega (arith, inv.whole, c.requires.to, small) in
    let from_slot : (c.args.from * area + i) / area ≡ c.args.from = div-mul-add c.args.from area i small in
    let slot : at / area ≡ c.args.to = div-mul-add c.args.to area i small in
    let read : c.flow_at-flow.result ≡ get_or c.args.flows.now (c.args.from * area + i) Unknown =
    c.flow_at-flow.ensures ∙ inv.others (c.args.from * area + i) (λ same. c.requires.apart (sym from_slot ∙ same)) in
    record {
      whole = ap (λ (l : List Flow). length l) is ∙ (length-set old at c.flow_at-flow.result ∙ inv.whole);
      moved = λ e less. elim (cases_eq e i) [
        | inl this ↦
            ap (λ k. get_or new (c.args.to * area + k) Unknown) this ∙ ap (λ (l : List Flow). get_or l at Unknown) is ∙ get_or-set_same old at c.flow_at-flow.result Unknown within
            ∙ read ∙ ap (λ k. get_or c.args.flows.now (c.args.from * area + k) Unknown) (sym this)
        | inr other ↦
            let apart : c.args.to * area + e ≢ at = λ same. other (omega (arith, same)) in
            ap (λ (l : List Flow). get_or l (c.args.to * area + e) Unknown) is ∙ get_or-set_other old at (c.args.to * area + e) c.flow_at-flow.result Unknown apart ∙ inv.moved e (omega (arith, less, other))
      ];
      others = λ k off.
          let apart : k ≢ at = λ same. off (ap (λ j. j / area) same ∙ slot) in
          ap (λ (l : List Flow). get_or l k Unknown) is ∙ get_or-set_other old at k c.flow_at-flow.result Unknown apart ∙ inv.others k off;
    }
