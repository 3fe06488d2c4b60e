use Rattle.edits.proofs.Prelude.{AreSinks, IsHeld, List, Point, ℕ, arith, both_ways, length, most_sinks, subst, sym, with_point, ◌<◌, ◌∙◌, ◌≡◌}
use Rattle.edits.proofs.SinkLists.{outside_refused, sinks_with}
use Rattle.edits.proofs.sinks.new_sink_height.Goals as goal

pub returns-then-not-is_held-clause-refused : goal.returns-then-not-is_held-clause-refused
returns-then-not-is_held-clause-refused g c = λ honest own.
    let now = c.args.samples.now in
    let m = g.S.Samples.mosaic now in
    let side : c.side.result ≡ m.side = c.side.ensures ∙ sym (g.met.S.Samples.same_side now honest) in
    outside_refused m c.args.point (g.met.S.Samples.is_mosaic now honest)
    (λ held. both_ways c.is_held.result c.if-not-is_held.true (c.is_held.ensures.1 (subst (λ (n : ℕ). IsHeld n c.args.point) (sym side) held)))

pub returns-clause-fits : goal.returns-clause-fits
returns-clause-fits g c =
    let old = c.args.samples.now in
    let n = g.S.Samples.side_of old in
    let reads = c.in_ok-metres.ensures.reads in
    let sinks = c.sinks-sinks.result.now in
    let same : sinks ≡ g.S.Samples.sinks_of old = c.sinks-sinks.ensures.sinks ∙ reads.sinks in
    let are : AreSinks n sinks = subst (λ (l : List Point). AreSinks n l) (sym c.sinks-sinks.ensures.sinks) (subst (λ (k : ℕ). AreSinks k (g.S.Samples.sinks_of c.ground.new.samples)) reads.side c.sinks-sinks.ensures.valid) in
    let held : IsHeld n c.args.point = subst (λ (k : ℕ). IsHeld k c.args.point) c.side.ensures (c.is_held.ensures.0 c.if-not-is_held.false) in
    let few = c.if-sinks-ge-MOST_SINKS.false in
    let room : length sinks < most_sinks = omega (arith, few) in
    subst (λ (l : List Point). AreSinks n (with_point c.args.point l)) same (sinks_with n c.args.point sinks (sym c.is_among.ensures ∙ c.if-is_among.false) room held are)
