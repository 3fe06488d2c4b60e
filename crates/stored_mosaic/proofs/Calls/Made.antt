-- How a staged edit changes the mosaic.
use Rattle.stored_mosaic.proofs.Prelude.{AreTilesOf, ComesIn, Command, Corner, Edit, Ghosts, IsInState, IsMade, IsMosaic, KeepFresh, KeepsBut, List, Mosaic, None, Ok, Point, State, StoredTile, Tree, ℕ, ap, edit_made, effect, false, goes_stale, has_failed, inl, inr, keepers, not, refl, root_of, same_corner, sinks_of, staged_in, staled, subst, sym, true, with_sinks, with_tile, without_tile, ⊎_elim, ◌∙◌, ◌≡◌}
use Rattle.stored_mosaic.specs.Staging.{WillHold}
use Rattle.stored_mosaic.proofs.Reading.Holding.{holds_with}
use Rattle.stored_mosaic.proofs.KeptPlanes.Keeping.{contains_left, found_keeper, found_with, keep_but, staled_keep}

-- ---- the kept planes of tiles

pub kept_as : (made : Edit) (was now : List StoredTile) → keepers now ≡ keepers was → KeepsBut made was now
kept_as made was now same t there = inr (found_keeper now was t same there)

pub kept_left : (made : Edit) (c : Corner) (tiles : List StoredTile) → KeepsBut made tiles (without_tile c tiles)
kept_left made c tiles t there = inr (t, (contains_left (λ u. not (same_corner u.corner c)) tiles t there, (refl, refl)))

pub kept_with : (made : Edit) (new : StoredTile) (tiles : List StoredTile) → ComesIn made new.corner → new.kept ≡ None → KeepsBut made tiles (with_tile new tiles)
kept_with made new tiles comes none t there =
    ⊎_elim
    (λ is. inl (subst (λ (x : StoredTile). ComesIn made x.corner) is comes, ap (λ (x : StoredTile). x.kept) (sym is) ∙ none))
    (λ among. inr (t, (among, (refl, refl))))
    (found_with new tiles t there)

-- ---- the tiles

-- ---- the contents of the next commit

module _ {D : Type 0} (g : Ghosts D) (old marked mid : Tree D g) (works : has_failed old ≡ false) (command : Command) (s : State) (at : IsInState g old s) (made : Edit) where
  abbrev m : Mosaic
  m = s.contents.mosaic

  pub made_holds : effect (root_of old).capacity m command ≡ Ok (edit_made made m) → IsMosaic (edit_made made m) → (root_of marked).side ≡ (root_of old).side
      → staged_in g marked ≡ staled (goes_stale m command) (at.sound works).stored.tiles → ((c : Corner) → ComesIn made c → goes_stale m command c ≡ true) → IsMade g made m marked mid
      → WillHold g old mid command s (at.sound works).stored
  made_holds makes valid side staged stale is =
      let sound = at.sound works in
      record {
        made = edit_made made m;
        makes = makes;
        will = holds_with (root_of old).side (root_of old).capacity sound.stored s.contents command (edit_made made m) (sinks_of mid) (staged_in g mid) sound.holds makes is.sinks valid
            (subst (λ (n : ℕ). AreTilesOf n (staged_in g mid) (edit_made made m)) side is.tiles)
            (keep_but m command sound.stored.tiles made (staged_in g marked) (staged_in g mid) stale
            (subst (KeepFresh m command sound.stored.tiles) (sym staged) (staled_keep m command sound.stored.tiles sound.stored.tiles (λ t there. there)))
            is.kept);
      }
