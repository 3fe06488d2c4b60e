use Rattle.tile_flood.proofs.Prelude.{AreFoundStill, arith, ◌+◌, ◌≡◌}
use Rattle.labelling.proofs.Passages.{met_still, found_still, row_found, beside_east, beside_south, beside_south_east, beside_south_west}
use Rattle.tile_flood.proofs.passing.gather_row.Goals as goal

pub gather-requires-clause-beside : goal.gather-requires-clause-beside
gather-requires-clause-beside c = beside_east c.args.labelled.now.n c.args.i c.requires.row

pub gather-requires-2-clause-beside : goal.gather-requires-2-clause-beside
gather-requires-2-clause-beside c = let row = c.requires.row in beside_south c.args.labelled.now.n c.args.i (omega arith)

pub gather-requires-3-clause-beside : goal.gather-requires-3-clause-beside
gather-requires-3-clause-beside c = let row = c.requires.row in beside_south_east c.args.labelled.now.n c.args.i (omega arith)

pub gather-requires-4-clause-beside : goal.gather-requires-4-clause-beside
gather-requires-4-clause-beside c = let row = c.requires.row in beside_south_west c.args.labelled.now.n c.args.i (omega arith)

pub returns-then-i-n-clause-upto : goal.returns-then-i-n-clause-upto
returns-then-i-n-clause-upto c from before =
    let n = c.args.labelled.now.n in
    let levels = c.args.labelled.now.levels.now in
    let labels = c.args.labelled.now.labels.now in
    let last : c.args.i + 1 ≡ n = c.if-i-n.true in
    let one = c.in_ok-gather.ensures.gathered in
    row_found n levels labels c.gather.new.passages.found.items c.args.i c.requires.row one.found (λ more. absurd (omega arith)) (λ more. absurd (omega arith)) (λ more. absurd (omega arith)) from
    (λ e f on less later. found_still n levels labels c.args.passages.now.found.items c.gather.new.passages.found.items e f one.still (before e f on less later))

pub returns-then-i-n-clause-places : goal.returns-then-i-n-clause-places
returns-then-i-n-clause-places c from to low high all = c.in_ok-gather.ensures.places from to low (omega arith) all

pub returns-clause-upto : goal.returns-clause-upto
returns-clause-upto c from before =
    let n = c.args.labelled.now.n in
    let levels = c.args.labelled.now.levels.now in
    let labels = c.args.labelled.now.labels.now in
    let one = c.gather.new.passages.found.items in
    let two = c.gather-2.new.passages.found.items in
    let three = c.gather-3.new.passages.found.items in
    let four = c.gather-4.new.passages.found.items in
    let in_three : AreFoundStill three four = c.in_ok-gather-4.ensures.gathered.still in
    let in_two : AreFoundStill two four = λ q met. met_still three four q in_three (c.in_ok-gather-3.ensures.gathered.still q met) in
    let in_one : AreFoundStill one four = λ q met. met_still two four q in_two (c.in_ok-gather-2.ensures.gathered.still q met) in
    row_found n levels labels four c.args.i c.requires.row
    (λ k less. found_still n levels labels one four _ _ in_one (c.in_ok-gather.ensures.gathered.found k less))
    (λ _ k less. found_still n levels labels two four _ _ in_two (c.in_ok-gather-2.ensures.gathered.found k less))
    (λ _ k less. found_still n levels labels three four _ _ in_three (c.in_ok-gather-3.ensures.gathered.found k less))
    (λ _. c.in_ok-gather-4.ensures.gathered.found)
    from
    (λ e f on less later. found_still n levels labels one four e f in_one (found_still n levels labels c.args.passages.now.found.items one e f c.in_ok-gather.ensures.gathered.still (before e f on less later)))

pub returns-clause-places : goal.returns-clause-places
returns-clause-places c from to low high all =
    c.in_ok-gather-4.ensures.places from to (omega arith) (omega arith)
    (c.in_ok-gather-3.ensures.places from to low (omega arith) (c.in_ok-gather-2.ensures.places from to low (omega arith) (c.in_ok-gather.ensures.places from to low (omega arith) all)))
