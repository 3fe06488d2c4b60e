use Rattle.page_codec.proofs.Prelude.{All-push, Follows, IsHeld, List, Point, ℕ, ap, arith, flat_map, is_all_zero, length, length_push, subst, sym, true, ◌++◌, ◌<◌, ◌∙◌, ◌≡◌}
use Rattle.page_codec.specs.Sinks.{SinkIsBefore, sink_bytes}
use Rattle.page_codec.proofs.SinkBytes.{one_sink, length-sink_bytes}
use Rattle.page_codec.proofs.Ordered.{no_items, order_push, padded_are, padded_from_parts}
use Rattle.page_codec.proofs.Items.{items_push}
use Rattle.page_codec.proofs.sinks.read_sinks.Goals as goal

pub returns-in_err-sink-clause-none : goal.returns-in_err-sink-clause-none
returns-in_err-sink-clause-none c =
    let parts = c.loop.invariant.parts ∙ ap (λ (l : List ℕ). flat_map sink_bytes c.loop.sinks.items ++ l) c.split_at.ensures.by_index.0 in
    let lt : length c.loop.sinks.items < c.args.count = omega arith in
    let none : (e : Point) → IsHeld c.args.side e → Follows SinkIsBefore c.loop.sinks.items e → c.split_at.result.0.now ≡ sink_bytes e → ⊥ =
    λ e sink follows spelled. c.in_err-sink.ensures.none e sink (subst (λ (xs : List Point). Follows SinkIsBefore xs e) (sym c.as_slice.ensures.value) follows) spelled in
    let no_list = no_items SinkIsBefore sink_bytes (IsHeld c.args.side) (one_sink c.args.side c.requires.side) 8 length-sink_bytes 192 c.args.bytes.now c.split_at.result.0.now c.split_at.result.1.now c.loop.sinks.items c.args.count parts c.loop.invariant.each lt c.split_at.ensures.front_len none in
    rw c.from_residual.ensures (λ sinks count are spelled. no_list sinks count are.held are.in_order spelled)

pub loop-preserved : goal.loop-preserved
loop-preserved c =
    let found = c.in_ok-sink.ensures in
    let follows : Follows SinkIsBefore c.loop.sinks.items c.in_ok-sink.sink = subst (λ (xs : List Point). Follows SinkIsBefore xs c.in_ok-sink.sink) c.as_slice.ensures.value found.follows in
    let front = c.split_at.ensures.by_index.0 ∙ ap (λ (l : List ℕ). l ++ c.split_at.result.1.now) found.spelled in
    rw c.push.ensures.items (record {
      len = omega (arith, length_push c.loop.sinks.items c.in_ok-sink.sink, c.loop.invariant.len);
      each = All-push (IsHeld c.args.side) c.loop.sinks.items c.in_ok-sink.sink c.loop.invariant.each found.held;
      in_order = order_push SinkIsBefore c.loop.sinks.items c.in_ok-sink.sink c.loop.invariant.in_order follows;
      parts = items_push sink_bytes c.loop.sinks.items c.in_ok-sink.sink c.args.bytes.now c.loop.rest.now c.split_at.result.1.now c.loop.invariant.parts front;
      behind = omega (arith, c.loop.invariant.behind, c.split_at.ensures.back_len);
    })

pub returns-then-is_zero-clause-spelled : goal.returns-then-is_zero-clause-spelled
returns-then-is_zero-clause-spelled c =
    let zero : is_all_zero c.loop.rest.now ≡ true = cc in
    padded_from_parts 192 c.args.bytes.now (flat_map sink_bytes c.loop.sinks.items) c.loop.rest.now c.loop.invariant.parts zero (omega arith)

pub returns-else-is_zero-clause-none : goal.returns-else-is_zero-clause-none
returns-else-is_zero-clause-none c = λ sinks count are spelled.
    let same : length c.loop.sinks.items ≡ length sinks = omega (arith, c.loop.invariant.len, count) in
    let zero : is_all_zero c.loop.rest.now ≡ true = (padded_are sink_bytes (IsHeld c.args.side) (one_sink c.args.side c.requires.side) 192 c.args.bytes.now c.loop.rest.now c.loop.sinks.items sinks c.loop.invariant.parts c.loop.invariant.each are.held same spelled).1 in
    cc
