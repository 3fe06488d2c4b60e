use Rattle.levels.proofs.Prelude.{Corner, IsRefused, List, ap, arith, err_from_is_err_and, inl, inr, known_of, length, subst, sym, ◌*◌, ◌-◌, ◌/◌, ◌<◌, ◌∙◌, ◌≤◌}
use Rattle.levels.proofs.Caches.Growing.{agrees_before}
use Rattle.levels.proofs.Questions.Questioned.{own_refused}
use Rattle.levels.proofs.Tiles.Numbered.{of_fits, no_ways, told_ways, told_of}
use Rattle.levels.proofs.tile_cache.TileCacheEdgeSource.edges_from.Goals as goal

pub returns-in_default-corner-clause-answer : goal.returns-in_default-corner-clause-answer
returns-in_default-corner-clause-answer g c n summaries agrees _ =
    no_ways c.args.self.now.rim_graph.side c.args.self.now.rim_graph.corners.items c.args.self.now.rim_graph.loaded.items n summaries agrees.fits c.args.node c.rim.result c.rim-2.result c.requires.node
    c.rim.ensures.low c.rim.ensures.value c.rim-2.ensures.value c.in_default-corner.ensures.none c.args.into.now.items c.requires.empty

pub returns-clause-answer : goal.returns-clause-answer
returns-clause-answer g c n summaries agrees _ =
    let loaded = c.in_ok-load_tile.ensures.loaded in
    let at = c.in-Some-corner.ensures.some in
    let kept = c.in_ok-load_tile.ensures.grown.kept in
    let same = sym kept.same_side in
    told_ways c.load_tile.new.self.rim_graph.side c.load_tile.new.self.rim_graph.corners.items c.load_tile.new.self.rim_graph.loaded.items n summaries agrees.fits c.args.node c.rim.result c.rim-2.result c.requires.node
    (subst (λ s. 3 ≤ s) same c.rim.ensures.low) (c.rim.ensures.value ∙ ap (λ s. 4 * (s - 1)) same) (c.rim-2.ensures.value ∙ ap (λ s. 4 * (s - 1)) same)
    loaded.0 loaded.1 (subst (λ (cs : List Corner). (c.args.node - 1) / c.rim.result < length cs) (sym kept.same_corners) at.0) c.args.into.now.items c.list.new.into.items c.requires.empty (c.in_ok-list.ensures.ways loaded.0 loaded.1)

pub returns-in_default-corner-clause-all : goal.returns-in_default-corner-clause-all
returns-in_default-corner-clause-all g c n summaries agrees = (returns-in_default-corner-clause-answer g c n summaries agrees (of_fits agrees.fits)).all

pub returns-clause-all : goal.returns-clause-all
returns-clause-all g c n summaries agrees = (returns-clause-answer g c n summaries agrees (of_fits agrees.fits)).all

pub returns-in_err-load_tile-clause-asked : goal.returns-in_err-load_tile-clause-asked
returns-in_err-load_tile-clause-asked g c n summaries agrees =
    let same = sym c.in_err-load_tile.ensures.grown.kept.same_side in
    told_of c.load_tile.new.self.rim_graph.side c.load_tile.new.self.rim_graph.corners.items c.load_tile.new.self.rim_graph.loaded.items n summaries agrees.fits c.args.node c.rim.result c.rim-2.result c.requires.node
    (subst (λ s. 3 ≤ s) same c.rim.ensures.low) (c.rim.ensures.value ∙ ap (λ s. 4 * (s - 1)) same) (c.rim-2.ensures.value ∙ ap (λ s. 4 * (s - 1)) same) c.args.self.now.rim_graph.loaded.items c.in_err-load_tile.ensures.only

pub returns-in_err-list-clause-asked : goal.returns-in_err-list-clause-asked
returns-in_err-list-clause-asked g c n summaries agrees =
    let same = sym c.in_ok-load_tile.ensures.grown.kept.same_side in
    told_of c.load_tile.new.self.rim_graph.side c.load_tile.new.self.rim_graph.corners.items c.load_tile.new.self.rim_graph.loaded.items n summaries agrees.fits c.args.node c.rim.result c.rim-2.result c.requires.node
    (subst (λ s. 3 ≤ s) same c.rim.ensures.low) (c.rim.ensures.value ∙ ap (λ s. 4 * (s - 1)) same) (c.rim-2.ensures.value ∙ ap (λ s. 4 * (s - 1)) same) c.args.self.now.rim_graph.loaded.items c.in_ok-load_tile.ensures.only

pub returns-clause-asked : goal.returns-clause-asked
returns-clause-asked g c n summaries agrees =
    let same = sym c.in_ok-load_tile.ensures.grown.kept.same_side in
    told_of c.load_tile.new.self.rim_graph.side c.load_tile.new.self.rim_graph.corners.items c.load_tile.new.self.rim_graph.loaded.items n summaries agrees.fits c.args.node c.rim.result c.rim-2.result c.requires.node
    (subst (λ s. 3 ≤ s) same c.rim.ensures.low) (c.rim.ensures.value ∙ ap (λ s. 4 * (s - 1)) same) (c.rim-2.ensures.value ∙ ap (λ s. 4 * (s - 1)) same) c.args.self.now.rim_graph.loaded.items c.in_ok-load_tile.ensures.only

pub returns-in_err-list-clause-refusal : goal.returns-in_err-list-clause-refusal
returns-in_err-list-clause-refusal g c =
    let p = err_from_is_err_and c.from_residual-in_err-list.result c.from_residual-in_err-list.ensures.1 in
    let a = c.args.source.now in
    let b = c.load_tile.new.samples in
    let grown = c.in_ok-load_tile.ensures.grown in
    let loaded = c.in_ok-load_tile.ensures.loaded in
    rw p.1 (subst (IsRefused g.S.Samples a b (known_of c.args.self.now) (known_of c.load_tile.new.self)) (sym p.2)
    (own_refused g.S.Samples a b (known_of c.args.self.now) (known_of c.load_tile.new.self) c.in_err-list.field-0.0 _ grown c.in_ok-load_tile.ensures.reads c.in_err-list.ensures.refusal
    (λ honest right never.
    let then_ = (grown.right honest right).ready in
    elim (never loaded.0 loaded.1) [
      | inl apart ↦ apart (then_.tiles.sides _ loaded.0 loaded.1)
      | inr many ↦ let room = then_.room in omega arith
    ])))

pub returns-in_err-load_tile-clause-fits : goal.returns-in_err-load_tile-clause-fits
returns-in_err-load_tile-clause-fits g c n summaries agrees = agrees_before g.S.Samples c.args.source.now c.load_tile.new.samples (known_of c.args.self.now) (known_of c.load_tile.new.self) c.in_err-load_tile.ensures.grown n summaries agrees

pub returns-in_err-list-clause-fits : goal.returns-in_err-list-clause-fits
returns-in_err-list-clause-fits g c n summaries agrees = agrees_before g.S.Samples c.args.source.now c.load_tile.new.samples (known_of c.args.self.now) (known_of c.load_tile.new.self) c.in_ok-load_tile.ensures.grown n summaries agrees

pub returns-clause-fits : goal.returns-clause-fits
returns-clause-fits g c n summaries agrees = agrees_before g.S.Samples c.args.source.now c.load_tile.new.samples (known_of c.args.self.now) (known_of c.load_tile.new.self) c.in_ok-load_tile.ensures.grown n summaries agrees
