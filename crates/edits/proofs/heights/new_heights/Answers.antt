use Rattle.edits.proofs.Prelude.{IsTrue, List, NewHeight, Point, Refusal, TooDeep, ℤ, [], ap, ap₂, depth_of, edit_points, edited_metres, err_from_is_err_and, false, get_or, negsuc, of_z, reads_on, refuses, rules, subst, sym, to_z, to_z-of_z, true, void, with_heights, ◌++◌, ◌+◌, ◌-ℤ◌, ◌∙◌, ◌∷◌, ◌≡◌, ◌≢◌}
use Rattle.std.specs.Prelude.{Result, Ok, Err, IfErr, int_lt}
use mir.Syntax.{w16}
use mir.Val.{SFits}
use Rattle.edits.proofs.NewHeights.{HaveHeights, heights_more, heights_made, heights_earlier, ends_editing, deep_editing}
use Rattle.edits.proofs.PointEditing.{origin, read_anyhow, height_not_void}
use Rattle.edits.proofs.heights.new_heights.Goals as goal

pub loop-point-preserved : goal.loop-point-preserved
loop-point-preserved g c =
    let points = c.as_slice-points.result.now in
    let i = c.loop-point.point-index in
    let p = get_or points i origin in
    let h = c.in_ok-height.height in
    let s = c.in_ok-metres.metres in
    let fits : SFits w16 h = search rules in
    let whole : SFits w16 s = search rules in
    let same : to_z w16 (of_z w16 h) ≡ h = to_z-of_z w16 h fits in
    let more = heights_more g.S.Samples c.args.point_edit points i p c.args.samples.now c.loop-point.samples c.ground.new.samples c.loop-point.heights.items c.loop-point-test.true (read_anyhow points i origin c.loop-point-test.true) c.loop-point.invariant
    g.met.S.Samples.keeps_on h s c.in_ok-height.ensures.reads c.in_ok-height.ensures.metres (c.in_ok-metres.ensures.sample ∙ ap (edited_metres c.args.point_edit) same)
    (subst (λ v. v ≢ void → int_lt (v -ℤ depth_of c.args.point_edit) (negsuc 32766) ≡ false) same c.in_ok-metres.ensures.deep) in
    let pushed : c.push.new.self.items ≡ c.loop-point.heights.items ++ record { point = p; was = h; metres = s } ∷ [] =
    c.push.ensures.items ∙ ap₂ (λ (u v : ℤ). c.loop-point.heights.items ++ record { point = p; was = u; metres = v } ∷ []) same (to_z-of_z w16 s whole) in
    subst (λ (l : List NewHeight). HaveHeights g.S.Samples c.args.point_edit points (i + 1) c.args.samples.now c.ground.new.samples l) (sym pushed) more

pub returns-in_err-height-clause-refused : goal.returns-in_err-height-clause-refused
returns-in_err-height-clause-refused g c = λ honest.
    let p = err_from_is_err_and c.from_residual.result c.from_residual.ensures.1 in
    let ended : c.from_residual.result ≡ Err c.in_err-height.field-0.0 = p.1 ∙ ap (λ (r : Refusal). Err r) p.2 in
    let m = g.S.Samples.mosaic c.args.samples.now in
    let points = c.as_slice-points.result.now in
    let i = c.loop-point.point-index in
    subst (λ (res : Result _ Refusal). IfErr res (λ r. IsTrue (refuses c.args.point_edit r) → edit_points c.args.point_edit m c.args.points.now.items ≡ Err r)) (sym ended)
    (λ own. subst (λ (l : List Point). edit_points c.args.point_edit m l ≡ Err c.in_err-height.field-0.0) c.as_slice-points.ensures.value
    (ends_editing g.S.Samples c.args.point_edit points i (get_or points i origin) c.args.samples.now c.loop-point.samples c.ground.new.samples c.loop-point.heights.items c.loop-point-test.true (read_anyhow points i origin c.loop-point-test.true) c.loop-point.invariant
    (sym c.is_repeated.ensures ∙ c.if-is_repeated.false) c.in_err-height.field-0.0 (c.in_err-height.ensures.reads.honest honest) (c.in_err-height.ensures.refused honest) own))

pub returns-in_err-metres-clause-refused : goal.returns-in_err-metres-clause-refused
returns-in_err-metres-clause-refused g c = λ honest.
    let p = err_from_is_err_and c.from_residual-in_err-metres.result c.from_residual-in_err-metres.ensures.1 in
    let ended : c.from_residual-in_err-metres.result ≡ Err TooDeep = p.1 ∙ ap (λ (r : Refusal). Err r) (p.2 ∙ c.in_err-metres.ensures.refusal.0) in
    let m = g.S.Samples.mosaic c.args.samples.now in
    let points = c.as_slice-points.result.now in
    let i = c.loop-point.point-index in
    let h = c.in_ok-height.height in
    let fits : SFits w16 h = search rules in
    let same : to_z w16 (of_z w16 h) ≡ h = to_z-of_z w16 h fits in
    let at = c.in_ok-height.ensures.metres honest in
    let deep : int_lt (h -ℤ depth_of c.args.point_edit) (negsuc 32766) ≡ true =
    subst (λ v. v ≢ void → int_lt (v -ℤ depth_of c.args.point_edit) (negsuc 32766) ≡ true) same c.in_err-metres.ensures.deep (height_not_void (g.S.Samples.mosaic c.loop-point.samples) (get_or points i origin) h at) in
    subst (λ (res : Result _ Refusal). IfErr res (λ r. IsTrue (refuses c.args.point_edit r) → edit_points c.args.point_edit m c.args.points.now.items ≡ Err r)) (sym ended)
    (λ own. subst (λ (l : List Point). edit_points c.args.point_edit m l ≡ Err TooDeep) c.as_slice-points.ensures.value
    (deep_editing g.S.Samples c.args.point_edit points i (get_or points i origin) c.args.samples.now c.loop-point.samples c.ground.new.samples c.loop-point.heights.items c.loop-point-test.true (read_anyhow points i origin c.loop-point-test.true) c.loop-point.invariant
    (sym c.is_repeated.ensures ∙ c.if-is_repeated.false) h (c.in_ok-height.ensures.reads.honest honest) at deep))

pub returns-in_err-metres-clause-reads : goal.returns-in_err-metres-clause-reads
returns-in_err-metres-clause-reads g c =
    let p = err_from_is_err_and c.from_residual-in_err-metres.result c.from_residual-in_err-metres.ensures.1 in
    let ended : c.from_residual-in_err-metres.result ≡ Err TooDeep = p.1 ∙ ap (λ (r : Refusal). Err r) (p.2 ∙ c.in_err-metres.ensures.refusal.0) in
    rw ended (reads_on g.S.Samples g.met.S.Samples.keeps_on c.args.samples.now c.loop-point.samples c.ground.new.samples tt (Ok tt) c.loop-point.invariant.reads c.in_ok-height.ensures.reads)

pub returns-clause-made : goal.returns-clause-made
returns-clause-made g c = λ honest.
    let m = g.S.Samples.mosaic c.args.samples.now in
    subst (λ (l : List Point). edit_points c.args.point_edit m l ≡ Ok (with_heights c.loop-point.heights.items m)) c.as_slice-points.ensures.value
    (heights_made g.S.Samples c.args.point_edit c.as_slice-points.result.now c.loop-point.point-index c.args.samples.now c.loop-point.samples c.loop-point.heights.items c.loop-point-test.false c.loop-point.invariant
    (sym c.is_repeated.ensures ∙ c.if-is_repeated.false) honest)

pub returns-clause-earlier : goal.returns-clause-earlier
returns-clause-earlier g c = λ honest.
    let old = c.args.samples.now in
    heights_earlier g.S.Samples c.args.point_edit c.as_slice-points.result.now c.loop-point.point-index old c.loop-point.samples c.loop-point.heights.items c.loop-point-test.false c.loop-point.invariant
    (g.met.S.Samples.is_mosaic old (c.loop-point.invariant.reads.honest honest)) (sym c.is_repeated.ensures ∙ c.if-is_repeated.false) honest
