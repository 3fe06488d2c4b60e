use Rattle.std.proofs.Common.{◌≡◌, ◌<◌, None, Ok, inl, inr, length, get_or, set, ap, ◌∙◌, subst, arith, get_or-set_other, get_or-set_same, length-set}
use Rattle.drainage.proofs.Prelude.{East, Mosaic, OnLevels, all_around, beside_of, cases_eq, dir_at_place, directions, order_below, order_of, reads_on, terrain}
use Rattle.catalogue.proofs.Questioned.{asked_reads, answered}
use Rattle.drainage.proofs.levels_near.levels_around.Goals as goal

pub loop-i-preserved : goal.loop-i-preserved
loop-i-preserved g c =
    let i = c.loop-i.i in
    let v = c.in_ok-found.field-0 in
    let found = c.loop-i.found in
    let inv = c.loop-i.invariant in
    let told = c.in_ok-found.ensures in
    let read = asked_reads g.S.Samples c.loop-i.samples c.level_beside.new.samples _ told.asked in
    let within : i < length found = let small = c.loop-i-test.true in let eight = inv.eight in omega arith in
    record {
      reads = reads_on g.S.Samples g.met.S.Samples.keeps_on c.args.samples.now c.loop-i.samples c.level_beside.new.samples tt (Ok tt) inv.reads read;
      held = told.held;
      eight = length-set found i v ∙ inv.eight;
      levels = λ honest level filled d below.
          let before = read.honest honest in
          let m = g.S.Samples.mosaic c.args.samples.now in
          elim (cases_eq (order_of d) i) [
            | inl this ↦
                let here = subst (λ (n : Mosaic). OnLevels n (λ level. v ≡ beside_of (terrain n) level c.args.point (get_or directions i East))) (inv.reads.mosaic before) (told.beside honest) level filled in
                ap (λ k. get_or (set found i v) k None) this ∙ get_or-set_same found i v None within ∙ here ∙ ap (λ e. beside_of (terrain m) level c.args.point e) (dir_at_place d East i this)
            | inr other ↦ get_or-set_other found i (order_of d) v None other ∙ inv.levels before level filled d (omega arith)
          ];
    }

pub returns-clause-around : goal.returns-clause-around
returns-clause-around g c honest level filled =
    all_around (terrain (g.S.Samples.mosaic c.args.samples.now)) level c.args.point c.loop-i.found c.loop-i.invariant.eight
    (λ d. c.loop-i.invariant.levels honest level filled d (let all = c.loop-i-test.false in omega (arith, order_below d)))

pub returns-clause-asked : goal.returns-clause-asked
returns-clause-asked g c = answered g.S.Samples c.args.samples.now c.loop-i.samples _ c.loop-i.invariant.reads
