-- Kept planes stay right through any events.
use Rattle.store.proofs.Prelude.{Contents, Ghosts, Image, List, StandsFor, StandsForState, State, Store, ℕ, [], inl, inr, last_of, members, subst, sym, ◌∷◌}
use Rattle.engine.specs.Engines.{Members, AreAt}
use Rattle.store.specs.KeptRight.{KeepsPlanesOf, KeepsPlanes, PlanesStayRight}
use Rattle.store.specs.Stores.{disk_of, IsAt}
use Rattle.stored_mosaic.proofs.Reading.HeldTiles.{corners_held}
use Rattle.stored_mosaic.proofs.Reading.Holding.{held}

-- The last engine is in the last state.
at_last : {E : Type 0} (of : Members E) (old : E) (engines : List E) (s : State) (states : List State) → AreAt of (old ∷ engines) (s ∷ states) → of.is_at (last_of old engines) (last_of s states)
at_last of old [] s [] at = at.0
at_last of old (next ∷ engines) s (t ∷ states) at = at_last of next engines t states at.1
at_last of old [] s (t ∷ states) at = absurd at.1
at_last of old (next ∷ engines) s [] at = absurd at.1

keeps : (sectors side capacity : ℕ) (image : Image) (c : Contents) → StandsFor sectors side capacity image c → KeepsPlanesOf sectors c image
keeps sectors side capacity image c (stored, stands, holds) =
    record { stored = stored; stands = stands; tiles = corners_held side stored.tiles c.mosaic (held side capacity stored c holds); kept = holds.kept; stale = holds.stale }

keeps_in : (sectors side capacity : ℕ) (image : Image) (s : State) → StandsForState sectors side capacity image s → KeepsPlanes sectors s image
keeps_in sectors side capacity image s (inl known) = inl (keeps sectors side capacity image s.contents known)
keeps_in sectors side capacity image s (inr (doubted, is, stands)) = inr (doubted, is, keeps sectors side capacity image doubted stands)

pub planes_stay_right : {D : Type 0} (g : Ghosts D) → PlanesStayRight g
planes_stay_right g old new events answers s (stores, (is, run)) honest at =
    let ended = subst (λ (store : Store _ g). g.honest (disk_of store)) (sym is) honest in
    let (states, through) = run.states ended s at in
    let last = subst (λ (store : Store _ g). IsAt g store (last_of s states)) is (at_last (members g) old stores s states through.at) in
    (states, through.run, last, λ image may. keeps_in _ _ _ image (last_of s states) (last.in_state.images image may))
