use Rattle.store.proofs.Prelude.{Contains, Corner, List, root_of, subst, sym}
use Rattle.stored_mosaic.proofs.Reading.HeldTiles.{corners_held}
use Rattle.stored_mosaic.proofs.Reading.Holding.{held}
use Rattle.stored_mosaic.proofs.KeptPlanes.SteppedTiles.{stored_mosaic, stored_right}
use Rattle.store.proofs.store.Store.stale.Goals as goal

pub returns-clause-fresh : goal.returns-clause-fresh
returns-clause-fresh g c honest works s at present fresh =
    let root = root_of c.args.self.now.tree in
    let sound = at.in_state.sound works in
    let corners = corners_held root.side sound.stored.tiles s.contents.mosaic (held root.side root.capacity sound.stored s.contents sound.holds) in
    record {
      stored = sound.stored;
      at = sound.tree;
      mosaic = stored_mosaic root.side root.capacity sound.stored s.contents sound.holds;
      fresh = c.stale.ensures.kept honest sound.stored sound.tree (stored_right root.side root.capacity sound.stored s.contents sound.holds)
          (subst (λ (cs : List Corner). Contains cs c.args.corner) (sym corners) present) fresh;
    }
