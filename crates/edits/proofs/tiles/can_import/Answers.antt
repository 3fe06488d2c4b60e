use Rattle.edits.proofs.Prelude.{ap, length, sym, ◌*◌, ◌∙◌, ◌≡◌}
use Rattle.edits.proofs.WholeTiles.{import_there, import_full, import_accepted}
use Rattle.edits.proofs.tiles.can_import.Goals as goal

pub returns-then-present-clause-refused : goal.returns-then-present-clause-refused
returns-then-present-clause-refused g c = λ m side corners.
    let whole : length c.args.bytes.now ≡ 2 * (m.side * m.side) = c.if-bytes-file_bytes.false ∙ c.file_bytes.ensures.value ∙ ap (λ n. 2 * (n * n)) (c.side.ensures ∙ sym side) in
    import_there m (g.S.Samples.corners c.args.samples.now) corners c.args.corner c.present.result c.present.ensures.answer c.args.capacity c.args.bytes.now whole c.if-present.true

pub returns-then-is_full-clause-refused : goal.returns-then-is_full-clause-refused
returns-then-is_full-clause-refused g c = λ m side corners.
    let whole : length c.args.bytes.now ≡ 2 * (m.side * m.side) = c.if-bytes-file_bytes.false ∙ c.file_bytes.ensures.value ∙ ap (λ n. 2 * (n * n)) (c.side.ensures ∙ sym side) in
    import_full m (g.S.Samples.corners c.args.samples.now) corners c.args.corner c.present.result c.present.ensures.answer c.args.capacity c.args.bytes.now whole c.if-present.false (c.is_full.ensures.full c.if-is_full.true)

pub returns-clause-accepted : goal.returns-clause-accepted
returns-clause-accepted g c = λ m side corners.
    let whole : length c.args.bytes.now ≡ 2 * (m.side * m.side) = c.if-bytes-file_bytes.false ∙ c.file_bytes.ensures.value ∙ ap (λ n. 2 * (n * n)) (c.side.ensures ∙ sym side) in
    import_accepted m (g.S.Samples.corners c.args.samples.now) corners c.args.corner c.present.result c.present.ensures.answer c.args.capacity c.args.bytes.now whole c.if-present.false (c.is_full.ensures.room c.if-is_full.false)
