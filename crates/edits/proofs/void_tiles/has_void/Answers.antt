use Rattle.edits.proofs.Prelude.{Bool, Corner, Err, Mosaic, Ok, Refusal, ap, arith, err_from_is_err_and, false, length, of_z, reads_on, rules, subst, sym, take, to_z, to_z-of_z, true, ℕ, ◌*◌, ◌+◌, ◌∙◌, ◌≡◌}
use mir.Syntax.{w16, w32}
use mir.Val.{SFits}
use Rattle.std.specs.Prelude.{◌-◌}
use Rattle.std.proofs.lemmas.List.{length-take-le}
use Rattle.catalogue.specs.Readers.{reads_of}
use Rattle.edits.specs.TileRows.{HasVoid}
use Rattle.edits.proofs.BoxVoids.RowsRead.{found_in_row, none_in_rows}
use Rattle.edits.proofs.BoxVoids.Searching.{each_on, each_start}
use Rattle.edits.proofs.StepsWithin.{steps_at}
use Rattle.edits.proofs.void_tiles.has_void.Goals as goal

pub loop-row-init : goal.loop-row-init
loop-row-init g c = each_start g.S.Samples (λ m i. HasVoid m c.args.corner ((c.side-side.result - 1 - c.steps_within-rows.result.first - i) * c.side-side.result + c.steps_within-columns.result.first) c.steps_within-columns.result.count false) g.met.S.Samples.keeps_itself c.args.samples.now

pub loop-row-preserved : goal.loop-row-preserved
loop-row-preserved g c = each_on g.S.Samples (λ m i. HasVoid m c.args.corner ((c.side-side.result - 1 - c.steps_within-rows.result.first - i) * c.side-side.result + c.steps_within-columns.result.first) c.steps_within-columns.result.count false) g.met.S.Samples.keeps_on
    c.loop-row.row c.args.samples.now c.loop-row.samples c.has_void_in_row.new.samples c.loop-row.invariant c.in_ok-has_void_in_row.ensures.reads
    (λ honest.
    let first : (c.edge.result - c.steps_within-rows.result.first - c.loop-row.row) * c.samples.result + c.steps_within-columns.result.first ≡ (c.side-side.result - 1 - c.steps_within-rows.result.first - c.loop-row.row) * c.side-side.result + c.steps_within-columns.result.first =
    ap (λ e. (e - c.steps_within-rows.result.first - c.loop-row.row) * c.samples.result + c.steps_within-columns.result.first) c.edge.ensures.value
    ∙ ap (λ n. (c.side-side.result - 1 - c.steps_within-rows.result.first - c.loop-row.row) * n + c.steps_within-columns.result.first) c.samples.ensures.value in
    let long : length (take c.steps_within-columns.result.count c.loop-row.own) ≡ c.steps_within-columns.result.count = length-take-le c.steps_within-columns.result.count c.loop-row.own (omega (arith, c.steps_within-columns.ensures.few, c.edge.ensures.high)) in
    subst (λ (b : Bool). HasVoid (g.S.Samples.mosaic c.loop-row.samples) c.args.corner ((c.side-side.result - 1 - c.steps_within-rows.result.first - c.loop-row.row) * c.side-side.result + c.steps_within-columns.result.first) c.steps_within-columns.result.count b) c.if-branch.false
    (subst (λ (n : ℕ). HasVoid (g.S.Samples.mosaic c.loop-row.samples) c.args.corner ((c.side-side.result - 1 - c.steps_within-rows.result.first - c.loop-row.row) * c.side-side.result + c.steps_within-columns.result.first) n c.in_ok-has_void_in_row.field-0) long
    (subst (λ (e : ℕ). HasVoid (g.S.Samples.mosaic c.loop-row.samples) c.args.corner e (length (take c.steps_within-columns.result.count c.loop-row.own)) c.in_ok-has_void_in_row.field-0) first
    (c.in_ok-has_void_in_row.ensures.void honest))))

pub returns-in_err-has_void_in_row-clause-reads : goal.returns-in_err-has_void_in_row-clause-reads
returns-in_err-has_void_in_row-clause-reads g c =
    let p = err_from_is_err_and c.from_residual.result c.from_residual.ensures.1 in
    let ended : c.from_residual.result ≡ Err c.in_err-has_void_in_row.field-0.0 = p.1 ∙ ap (λ (r : Refusal). Err r) p.2 in
    rw ended (reads_on g.S.Samples g.met.S.Samples.keeps_on c.args.samples.now c.loop-row.samples c.has_void_in_row.new.samples tt (reads_of {T = Bool} (Err c.in_err-has_void_in_row.field-0.0)) c.loop-row.invariant.reads c.in_err-has_void_in_row.ensures.reads)

pub returns-then-branch-clause-reads : goal.returns-then-branch-clause-reads
returns-then-branch-clause-reads g c = reads_on g.S.Samples g.met.S.Samples.keeps_on c.args.samples.now c.loop-row.samples c.has_void_in_row.new.samples tt (Ok tt) c.loop-row.invariant.reads c.in_ok-has_void_in_row.ensures.reads

pub returns-then-branch-clause-void : goal.returns-then-branch-clause-void
returns-then-branch-clause-void g c honest t there same =
    let old = c.args.samples.now in
    let m = g.S.Samples.mosaic old in
    let n = c.side-side.result in
    let from = c.args.from in
    let to = c.args.to in
    let rows = c.steps_within-rows.result in
    let columns = c.steps_within-columns.result in
    let lat : SFits w16 c.corner.inside.lat = search rules in
    let lon : SFits w16 c.corner.inside.lon = search rules in
    let south : SFits w32 from.y = search rules in
    let north : SFits w32 to.y = search rules in
    let west : SFits w32 from.x = search rules in
    let east : SFits w32 to.x = search rules in
    let mid = c.loop-row.samples in
    let r = c.loop-row.row in
    let was = c.in_ok-has_void_in_row.ensures.reads.honest honest in
    let first = c.loop-row.invariant.reads.honest was in
    let side : n ≡ m.side = c.side-side.ensures ∙ sym (g.met.S.Samples.same_side old first) in
    let in_rows = steps_at n m.side c.args.corner.lat (to_z w16 (of_z w16 c.corner.inside.lat)) from.y (to_z w32 (of_z w32 from.y)) to.y (to_z w32 (of_z w32 to.y)) rows side
    (to_z-of_z w16 c.corner.inside.lat lat ∙ ap (λ (d : Corner). d.lat) c.corner.view_is) (to_z-of_z w32 from.y south) (to_z-of_z w32 to.y north) c.steps_within-rows.ensures in
    let in_columns = steps_at n m.side c.args.corner.lon (to_z w16 (of_z w16 c.corner.inside.lon)) from.x (to_z w32 (of_z w32 from.x)) to.x (to_z w32 (of_z w32 to.x)) columns side
    (to_z-of_z w16 c.corner.inside.lon lon ∙ ap (λ (d : Corner). d.lon) c.corner.view_is) (to_z-of_z w32 from.x west) (to_z-of_z w32 to.x east) c.steps_within-columns.ensures in
    let start : (c.edge.result - rows.first - r) * c.samples.result + columns.first ≡ (n - 1 - rows.first - r) * n + columns.first =
    ap (λ e. (e - rows.first - r) * c.samples.result + columns.first) c.edge.ensures.value ∙ ap (λ k. (n - 1 - rows.first - r) * k + columns.first) c.samples.ensures.value in
    let long : length (take columns.count c.loop-row.own) ≡ columns.count = length-take-le columns.count c.loop-row.own (omega (arith, c.steps_within-columns.ensures.few, c.edge.ensures.high)) in
    found_in_row m (g.met.S.Samples.is_mosaic old first) from to c.args.corner rows columns in_rows in_columns r c.loop-row-test.true
    (subst (λ (k : ℕ). HasVoid m c.args.corner ((k - 1 - rows.first - r) * k + columns.first) columns.count true) side
    (subst (λ (x : Mosaic). HasVoid x c.args.corner ((n - 1 - rows.first - r) * n + columns.first) columns.count true) (c.loop-row.invariant.reads.mosaic was)
    (subst (λ (b : Bool). HasVoid (g.S.Samples.mosaic mid) c.args.corner ((n - 1 - rows.first - r) * n + columns.first) columns.count b) c.if-branch.true
    (subst (λ (k : ℕ). HasVoid (g.S.Samples.mosaic mid) c.args.corner ((n - 1 - rows.first - r) * n + columns.first) k c.in_ok-has_void_in_row.field-0) long
    (subst (λ (e : ℕ). HasVoid (g.S.Samples.mosaic mid) c.args.corner e (length (take columns.count c.loop-row.own)) c.in_ok-has_void_in_row.field-0) start
    (c.in_ok-has_void_in_row.ensures.void honest)))))) t there same

pub returns-clause-void : goal.returns-clause-void
returns-clause-void g c honest t there same =
    let old = c.args.samples.now in
    let m = g.S.Samples.mosaic old in
    let n = c.side-side.result in
    let from = c.args.from in
    let to = c.args.to in
    let rows = c.steps_within-rows.result in
    let columns = c.steps_within-columns.result in
    let lat : SFits w16 c.corner.inside.lat = search rules in
    let lon : SFits w16 c.corner.inside.lon = search rules in
    let south : SFits w32 from.y = search rules in
    let north : SFits w32 to.y = search rules in
    let west : SFits w32 from.x = search rules in
    let east : SFits w32 to.x = search rules in
    let first = c.loop-row.invariant.reads.honest honest in
    let side : n ≡ m.side = c.side-side.ensures ∙ sym (g.met.S.Samples.same_side old first) in
    let in_rows = steps_at n m.side c.args.corner.lat (to_z w16 (of_z w16 c.corner.inside.lat)) from.y (to_z w32 (of_z w32 from.y)) to.y (to_z w32 (of_z w32 to.y)) rows side
    (to_z-of_z w16 c.corner.inside.lat lat ∙ ap (λ (d : Corner). d.lat) c.corner.view_is) (to_z-of_z w32 from.y south) (to_z-of_z w32 to.y north) c.steps_within-rows.ensures in
    let in_columns = steps_at n m.side c.args.corner.lon (to_z w16 (of_z w16 c.corner.inside.lon)) from.x (to_z w32 (of_z w32 from.x)) to.x (to_z w32 (of_z w32 to.x)) columns side
    (to_z-of_z w16 c.corner.inside.lon lon ∙ ap (λ (d : Corner). d.lon) c.corner.view_is) (to_z-of_z w32 from.x west) (to_z-of_z w32 to.x east) c.steps_within-columns.ensures in
    none_in_rows m (g.met.S.Samples.is_mosaic old first) from to c.args.corner rows columns in_rows in_columns
    (λ r below. subst (λ (k : ℕ). HasVoid m c.args.corner ((k - 1 - rows.first - r) * k + columns.first) columns.count false) side (c.loop-row.invariant.each honest r (omega (arith, below, c.loop-row-test.false)))) t there same
