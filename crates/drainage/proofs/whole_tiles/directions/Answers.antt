use Rattle.drainage.proofs.Prelude.{AreCodesTo, IsCodeOrNone, IsHeldOf, IsToldOf, Mosaic, Ok, OnLevels, ℕ, ap₂, length, point_of, reads_on, rules, subst, sym, terrain, ◌∙◌, ◌≡◌}
use Rattle.catalogue.proofs.Questioned.{answered, asked_reads, short_here}
use Rattle.drainage.proofs.Tiles.WholeTiles.{code_more, told_code}
use Rattle.drainage.proofs.whole_tiles.directions.Goals as goal

pub returns-in_err-codes-clause-asked : goal.returns-in_err-codes-clause-asked
returns-in_err-codes-clause-asked g c = short_here g.S.Samples g.met.S.Samples.keeps_itself c.args.samples.now c.from_residual.result (search rules)

pub tile-preserved : goal.tile-preserved
tile-preserved g c =
    let now = c.args.samples.now in
    let so = c.tile.invariant in
    let told = c.in_ok-flow.ensures in
    let read = asked_reads g.S.Samples c.tile.samples c.flow_anywhere.new.samples _ told.asked in
    let reads = reads_on g.S.Samples g.met.S.Samples.keeps_on now c.tile.samples c.flow_anywhere.new.samples tt (Ok tt) so.reads read in
    record {
      reads = reads;
      held = told.held;
      whole = c.in_ok-push_cached_codes.ensures.whole;
      codes = λ honest.
          let mid = read.honest honest in
          let first = so.reads.honest mid in
          let m = g.S.Samples.mosaic now in
          let is = g.met.S.Samples.is_mosaic now first in
          let old = c.tile.codes.items in
          let new = c.push.new.items.items in
          let side : c.side-side.result ≡ m.side = c.side-side.ensures ∙ sym (g.met.S.Samples.same_side now first) in
          let long : c.len-in-tile.result ≡ length old = (let size = c.len-in-tile.ensures in search rules) in
          let there : c.point_at-point.result ≡ point_of m.side c.args.corner (length old) = c.point_at-point.ensures.value ∙ ap₂ (λ (n k : ℕ). point_of n c.args.corner k) side long in
          let flow = subst (λ (k : Mosaic). OnLevels k (λ level. IsToldOf (terrain k) level c.point_at-point.result c.in_ok-flow.flow)) (so.reads.mosaic mid) (told.flow honest) in
          let code = subst (λ (k : ℕ). IsCodeOrNone m c.point_at-point.result k) (sym c.code_told.ensures) (told_code m is c.point_at-point.result c.in_ok-flow.flow flow) in
          let more = code_more m is c.args.corner old new (length old) c.code_told.result c.in_ok-push.ensures.pushed
          (subst (λ p. IsCodeOrNone m p c.code_told.result) there code) (so.codes mid) in
          c.in_ok-push_cached_codes.ensures.codes m is side (subst (λ (k : Mosaic). IsHeldOf k c.flow_anywhere.new.held) (reads.mosaic honest) (told.held honest))
          (subst (λ k. AreCodesTo m c.args.corner k new) (sym more.whole) more);
    }

pub returns-clause-asked : goal.returns-clause-asked
returns-clause-asked g c = answered g.S.Samples c.args.samples.now c.tile.samples _ c.tile.invariant.reads
