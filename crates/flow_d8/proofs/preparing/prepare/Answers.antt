use Rattle.flow_d8.proofs.Prelude.{AreEnded, AreTileFlows, IsClosing, ap, drop, length, rules, subst, sym, take, ◌*◌, ◌++◌, ◌∙◌, ◌≡◌}
use Rattle.flow_d8.proofs.Padded.Closing.{vec_back}
use Rattle.flow_d8.proofs.Padded.Prepared.{tile_of_side}
use Rattle.flow_d8.proofs.preparing.prepare.Goals as goal

pub returns-clause-flows : goal.returns-clause-flows
returns-clause-flows c m is side padded =
    let n = c.args.side in
    let levels = c.args.levels.now in
    let sides = c.args.sides.now in
    let around = c.tell_around.new.flows in
    let old = c.in_ok-flows.flows.items in
    let new = c.close_sides.new.flows in
    let len_around : c.in_ok-around.around.len ≡ length c.in_ok-around.around.items = search rules in
    let seen : c.deref.result.now ≡ around = c.deref.ensures.value
    ∙ vec_back c.in_ok-around.around.len around c.in_ok-around.around.items (c.tell_around.ensures.whole ∙ ap (λ l. length l) c.deref_mut.ensures.value) len_around in
    let ended = subst (λ l. AreEnded n levels l (n * n) old) seen c.in_ok-flows.ensures.ended in
    let closing = subst (λ l. IsClosing n levels sides l new) c.deref_mut-2.ensures.value c.close_sides.ensures.closing in
    let len_flows : c.in_ok-flows.flows.len ≡ length old = search rules in
    let whole : take c.in_ok-flows.flows.len (new ++ drop (length new) old) ≡ new = vec_back c.in_ok-flows.flows.len new old closing.whole len_flows in
    subst (AreTileFlows m c.args.corner) (sym whole)
    (tile_of_side m is c.args.corner levels sides c.args.sinks.now n side padded around old new c.tell_around.ensures.told ended closing c.close_sides.ensures.told)
