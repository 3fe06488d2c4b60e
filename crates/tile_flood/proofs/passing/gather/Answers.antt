use Rattle.tile_flood.proofs.Prelude.{cases_lt, inl, ◌-◌, arith, inr, subst, ◌*◌, ◌+◌, ◌<◌, ◌≡◌, ◌≢◌, IsFound, AreGathered}
use borrow.Author.Count.{below_more}
use Rattle.labelling.proofs.Passages.{found_at, none_there, met_still, passages_more, found_now, found_still}
use Rattle.tile_flood.proofs.RowBands.{places_more}
use Rattle.tile_flood.proofs.passing.gather.Goals as goal
use Rattle.tile_flood.proofs.passing.gather.Goals.{in-Some+in_ok-list, in_default, then-not-are_alike+else-loop-k-test, else-not-are_alike}

pub loop-k-preserved : goal.loop-k-preserved
loop-k-preserved c =
    let n = c.args.labelled.now.n in
    let levels = c.args.labelled.now.levels.now in
    let labels = c.args.labelled.now.labels.now in
    let k = c.loop-k.k in
    let in_e : c.args.e + k < n * n = omega arith in
    let in_f : c.args.f + k < n * n = omega arith in
    let other : c.args.e + k ≢ c.args.f + k = omega arith in
    elim c.match-passage.branch [
      | in-Some+in_ok-list w ↦ rw w.passages-is (
          let passage = w.in-Some.ensures.some in
          let listed = w.in_ok-list.ensures in
          record {
            gathered = record {
              passages = passages_more n levels labels c.loop-k.passages.found.items w.list.new.self.found.items w.in-Some.passage (c.args.e + k) (c.args.f + k) listed c.loop-k.invariant.gathered.passages
                  in_e in_f other (c.requires.beside.beside k (omega arith)) passage;
              still = λ p has. met_still c.loop-k.passages.found.items w.list.new.self.found.items p listed.still (c.loop-k.invariant.gathered.still p has);
              found = below_more (λ j. IsFound n levels labels w.list.new.self.found.items (c.args.e + j) (c.args.f + j)) k
                  (λ j less. found_still n levels labels c.loop-k.passages.found.items w.list.new.self.found.items (c.args.e + j) (c.args.f + j) listed.still (c.loop-k.invariant.gathered.found j less))
                  (found_now n levels labels c.loop-k.passages.found.items w.list.new.self.found.items w.in-Some.passage (c.args.e + k) (c.args.f + k) listed passage);
            };
            places = λ from to low high all. places_more n levels labels from to c.loop-k.passages.found.items w.list.new.self.found.items w.in-Some.passage (c.args.e + k) (c.args.f + k) listed (c.loop-k.invariant.places from to low high all)
                (omega arith) (omega arith) (let later = c.requires.beside.apart in omega arith) in_e in_f (c.requires.beside.beside k (omega arith)) passage;
          })
      | in_default w ↦ rw w.passages-is (record {
        gathered = record {
          passages = c.loop-k.invariant.gathered.passages;
          still = c.loop-k.invariant.gathered.still;
          found = below_more (λ j. IsFound n levels labels c.loop-k.passages.found.items (c.args.e + j) (c.args.f + j)) k c.loop-k.invariant.gathered.found
              (none_there n levels labels c.loop-k.passages.found.items (c.args.e + k) (c.args.f + k) w.in_default.ensures.none);
        };
        places = c.loop-k.invariant.places;
      })
    ]

pub strips-preserved : goal.strips-preserved
strips-preserved c =
    let n = c.args.labelled.now.n in
    let levels = c.args.labelled.now.levels.now in
    let labels = c.args.labelled.now.labels.now in
    let from = c.strips.from in
    let found = c.strips.passages.found.items in
    let so_far = c.strips.invariant.gathered in
    elim c.if-not-are_alike.branch [
      | then-not-are_alike+else-loop-k-test w ↦
          let end : w.loop-k.k ≡ from + c.min-width.result = omega arith in
          rw w.passages-is (record {
            from = omega (arith, c.min-width.ensures, c.strips.invariant.from);
            gathered = subst (AreGathered n levels labels c.args.passages.now.found.items w.loop-k.passages.found.items c.args.e c.args.f) end w.loop-k.invariant.gathered;
            places = w.loop-k.invariant.places;
          })
      | else-not-are_alike w ↦ rw w.passages-is (record {
        from = omega (arith, c.min-width.ensures, c.strips.invariant.from);
        gathered = record {
          passages = so_far.passages;
          still = so_far.still;
          found = λ k below. elim (cases_lt k from) [
            | inl before ↦ so_far.found k before
            | inr after ↦ found_at n levels labels found (c.args.e + k) (c.args.f + k) (c.args.e + from + (k - from)) (c.args.f + from + (k - from)) (omega arith) (omega arith)
                (none_there n levels labels found _ _ (inr (inr (c.are_alike.ensures w.if-not-are_alike.false (k - from) (omega arith)))))
          ];
        };
        places = c.strips.invariant.places;
      })
    ]
