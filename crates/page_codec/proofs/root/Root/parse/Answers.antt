use Rattle.page_codec.proofs.Prelude.{AreNumbers, AreSinks, Format, RootValue, Version, ℕ, ap, arith, is_all_zero, subst, sym, true, ◌∙◌, ◌≡◌}
use Rattle.page_codec.proofs.Bodies.{HasRoom, Splits, parts_at, body_is, numbers_from, format_in, body_from_parts}
use Rattle.page_codec.proofs.root.Root.parse.Goals as goal

pub returns-then-not-is_zero-clause-none : goal.returns-then-not-is_zero-clause-none
returns-then-not-is_zero-clause-none c = λ r rules version spelled.
    let h = c.split.result.0 in
    let room : HasRoom h = record { side_fits = omega arith; capacity_fits = omega arith; tiles_fit = omega arith; number_fits = omega arith; count_fits = omega arith; sinks_fit = omega arith } in
    let parts = parts_at h _ _ _ _ c.requires.body c.split.ensures.parts c.split_at.ensures.by_index.0 c.split_at.ensures.front_len in
    let zero : is_all_zero c.split_at.result.0.now ≡ true = (body_is h _ _ _ _ _ _ r room parts rules spelled).zero in
    cc

pub returns-in_err-format-clause-none : goal.returns-in_err-format-clause-none
returns-in_err-format-clause-none c = rw c.from_residual.ensures (λ r rules version spelled.
    let h = c.split.result.0 in
    let room : HasRoom h = record { side_fits = omega arith; capacity_fits = omega arith; tiles_fit = omega arith; number_fits = omega arith; count_fits = omega arith; sinks_fit = omega arith } in
    let parts = parts_at h _ _ _ _ c.requires.body c.split.ensures.parts c.split_at.ensures.by_index.0 c.split_at.ensures.front_len in
    let is = body_is h _ _ _ _ _ _ r room parts rules spelled in
    c.in_err-format.ensures (subst (λ (v : Version). AreNumbers (format_in v h) h.tiles h.number h.count h.sinks) version (numbers_from h r is.same rules)))

pub returns-in_err-entries-clause-none : goal.returns-in_err-entries-clause-none
returns-in_err-entries-clause-none c = rw c.from_residual-in_err-entries.ensures (λ r rules version spelled.
    let h = c.split.result.0 in
    let room : HasRoom h = record { side_fits = omega arith; capacity_fits = omega arith; tiles_fit = omega arith; number_fits = omega arith; count_fits = omega arith; sinks_fit = omega arith } in
    let parts : Splits _ _ _ _ c.split_at-2.result.0.now c.split_at-2.result.1.now h = record { whole = c.requires.body; numbers = c.split.ensures.parts; free_bytes = c.split_at.ensures.by_index.0; free_len = c.split_at.ensures.front_len; rooms = c.split_at-2.ensures.by_index.0; entries_len = c.split_at-2.ensures.front_len } in
    let is = body_is h _ _ _ _ _ _ r room parts rules spelled in
    c.in_err-entries.ensures.none r.entries (sym is.same.tiles_are) rules.entries rules.in_order is.entries_are)

pub returns-in_err-sinks-clause-none : goal.returns-in_err-sinks-clause-none
returns-in_err-sinks-clause-none c = rw c.from_residual-in_err-sinks.ensures (λ r rules version spelled.
    let h = c.split.result.0 in
    let room : HasRoom h = record { side_fits = omega arith; capacity_fits = omega arith; tiles_fit = omega arith; number_fits = omega arith; count_fits = omega arith; sinks_fit = omega arith } in
    let parts : Splits _ _ _ _ c.split_at-2.result.0.now c.split_at-2.result.1.now h = record { whole = c.requires.body; numbers = c.split.ensures.parts; free_bytes = c.split_at.ensures.by_index.0; free_len = c.split_at.ensures.front_len; rooms = c.split_at-2.ensures.by_index.0; entries_len = c.split_at-2.ensures.front_len } in
    let is = body_is h _ _ _ _ _ _ r room parts rules spelled in
    let side : r.side ≡ c.side.result = sym (c.side.ensures.value ∙ ap (λ (f : Format). f.side) c.in_ok-format.ensures.1 ∙ is.same.side_is) in
    c.in_err-sinks.ensures.none r.sinks (sym is.same.sinks_are) (subst (λ (n : ℕ). AreSinks n r.sinks) side rules.sinks) is.sinks_are)

pub returns-clause-found : goal.returns-clause-found
returns-clause-found c =
    let h = c.split.result.0 in
    let free : is_all_zero c.split_at.result.0.now ≡ true = cc in
    let entries = c.in_ok-entries.ensures in
    let sinks = c.in_ok-sinks.ensures in
    let parts : Splits _ _ _ _ c.split_at-2.result.0.now c.split_at-2.result.1.now h = record { whole = c.requires.body; numbers = c.split.ensures.parts; free_bytes = c.split_at.ensures.by_index.0; free_len = c.split_at.ensures.front_len; rooms = c.split_at-2.ensures.by_index.0; entries_len = c.split_at-2.ensures.front_len } in
    let side : c.side.result ≡ h.side = c.side.ensures.value ∙ ap (λ (f : Format). f.side) c.in_ok-format.ensures.1 in
    let points = subst (λ (n : ℕ). AreSinks n c.in_ok-sinks.sinks.items) side sinks.sinks in
    let made = ap (λ (f : Format). let r : RootValue = record { version = f.version; side = f.side; capacity = f.capacity; number = h.number; count = h.count; sinks = c.in_ok-sinks.sinks.items; entries = c.in_ok-entries.entries.items } in r) c.in_ok-format.ensures.1 in
    body_from_parts c.args.version h _ _ _ _ _ _ _ _ c.in_ok-format.ensures.0 parts free entries.len entries.each entries.in_order entries.spelled sinks.len points sinks.spelled _ made
