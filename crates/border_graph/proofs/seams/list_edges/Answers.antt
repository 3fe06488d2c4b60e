use Rattle.border_graph.proofs.Prelude.{refl, rules, sym, ◌*◌, ◌-◌, ◌≡◌}
use Rattle.border_graph.proofs.seams.list_edges.Goals as goal

pub returns-clause-edges : goal.returns-clause-edges
returns-clause-edges c =
    let graph = c.args.graph.now in
    let side : graph.side ≡ c.args.side = search rules in
    let first : (c.in-Some.last - 1) - c.rim-2.result ≡ c.args.t * (4 * (c.args.side - 1)) = search rules in
    rw (sym side) (let others = c.in_ok-edges_to_others.ensures.edges in
    record {
      side = refl;
      first = c.edges_out.new.into.items;
      second = c.edges_across.new.into.items;
      out = c.in_ok-edges_out.ensures;
      across = search rules;
      index = others.index;
      rim = others.rim;
      nothing = others.nothing;
      others = others.others;
    })
