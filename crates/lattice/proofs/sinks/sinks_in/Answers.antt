use Rattle.lattice.proofs.Prelude.{ArrayVec, IsTrue, List, ℕ, ap, arith, array_vec_len, drop, false_from_ne_true, false≢true, is_corner, refl, sinks_in, subst, ◌++◌, ◌+◌, ◌∙◌, ◌≤◌}
use Rattle.lattice.proofs.Samples.{holds_is, index_is}
use Rattle.lattice.proofs.SinkIndices.{index_found, none_found}
use Rattle.lattice.proofs.sinks.sinks_in.Goals as goal
use Rattle.lattice.proofs.sinks.sinks_in.Goals.{in-Some, in_default}

pub loop-sink-preserved : goal.loop-sink-preserved
loop-sink-preserved c =
    let n = c.args.side in
    let sinks = c.args.sinks.now in
    let i = c.loop-sink.sink-index in
    let found = c.loop-sink.found.items in
    let so = c.loop-sink.invariant in
    let low : 3 ≤ n = c.edge-edge.ensures.low in
    let corner : IsTrue (is_corner c.args.corner) = subst (λ k. IsTrue (is_corner k)) c.corner.view_is c.corner.invariant in
    elim c.match-index_in.branch [
      | in-Some w ↦
          let held = w.in-Some.ensures.held.0 refl in record {
            short = omega (arith, so.short, ap (λ (v : ArrayVec ℕ). array_vec_len v) w.found-is);
            whole = ap (λ (v : ArrayVec ℕ). v.items ++ sinks_in n c.args.corner (drop (i + 1) sinks)) w.found-is
                ∙ ap (λ (l : List ℕ). l ++ sinks_in n c.args.corner (drop (i + 1) sinks)) w.push.ensures.items
                ∙ index_found n c.args.corner sinks i _ found (sinks_in n c.args.corner sinks) c.loop-sink-test.true so.whole w.in-Some.index
                ((holds_is n c.args.corner _ low corner).1 held) (index_is n c.args.corner _ w.in-Some.index w.in-Some.ensures.index);
          }
      | in_default w ↦
          let out = false_from_ne_true _ (λ held. false≢true (w.in_default.ensures.held.1 ((holds_is n c.args.corner _ low corner).0 held))) in record {
            short = omega (arith, so.short, ap (λ (v : ArrayVec ℕ). array_vec_len v) w.found-is);
            whole = ap (λ (v : ArrayVec ℕ). v.items ++ sinks_in n c.args.corner (drop (i + 1) sinks)) w.found-is
                ∙ none_found n c.args.corner sinks i _ found (sinks_in n c.args.corner sinks) c.loop-sink-test.true so.whole out;
          }
    ]
