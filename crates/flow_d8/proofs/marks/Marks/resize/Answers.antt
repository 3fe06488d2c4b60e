use Rattle.flow_d8.proofs.Prelude.{ap, arith, get_or-map-range_with_len, get_or_past, length, length-map-range_with_len, length-set, mark_at, mark_in, mark_of, refl, ℕ, ◌*◌, ◌+◌, ◌/◌, ◌%◌, ◌<◌, ◌∙◌, ◌≡◌}
use Rattle.std.proofs.lemmas.Grind.{common_steps}
use Rattle.std.proofs.lemmas.Nat.{shr-shr}
use Rattle.std.proofs.lemmas.Nat.Bits.{bit_at_ones}
use Rattle.flow_d8.proofs.marks.Marks.resize.Goals as goal

none_set : (place : ℕ) → place < 32 → mark_of 18446744073709551615 place ≡ 3
none_set place small = omega (arith, bit_at_ones 64 (2 * place + 1) (omega arith), bit_at_ones 64 (2 * place) (omega arith), shr-shr 18446744073709551615 (2 * place) 1)

pub loop-i-init : goal.loop-i-init
loop-i-init c =
    let old = c.self.inside in
    let new = c.resize.new.self.items in
    let count : length c.args.self.now ≡ old.count = omega (arith, ap length c.self.view_is, length-map-range_with_len {X = ℕ}) in
    record {
      whole = length-map-range_with_len (mark_in new) 0 c.args.count;
      kept = λ j is at.
          let told = c.in_ok-resize.ensures.by_index in
          let past = get_or_past c.args.self.now j 3 in
          grind (arith, get_or-map-range_with_len (mark_in new) 0 c.args.count j j 3 is, get_or-map-range_with_len (mark_in old.words.items) 0 old.count j j 3, ap (λ marks. mark_at marks j) c.self.view_is, past, told.0 (j / 32) 0, told.1 (j / 32) 0 refl, none_set (j % 32), old.words.ok.0);
    }

pub loop-i-preserved : goal.loop-i-preserved
loop-i-preserved c =
    let count : length c.args.self.now ≡ c.self.inside.count = omega (arith, ap length c.self.view_is, length-map-range_with_len {X = ℕ}) in
    rw c.set.ensures (record {
      whole = length-set c.loop-i.self c.saturating_add.result 3 ∙ c.loop-i.invariant.whole;
      kept = λ j is at. grind (arith, common_steps, c.loop-i.invariant.kept j is, get_or_past c.args.self.now j 3, c.saturating_add.ensures);
    })
