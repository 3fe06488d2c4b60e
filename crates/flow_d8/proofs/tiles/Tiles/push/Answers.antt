use Rattle.flow_d8.proofs.Prelude.{Tiles, ℕ, get_or, length, most_samples, no_corner, subst, sym, ◌*◌, ◌+◌, ◌<◌, ◌≡◌, ◌≤◌}
use Rattle.flow_d8.proofs.Samples.Slots.{tiles_push}
use Rattle.flow_d8.proofs.tiles.Tiles.push.Goals as goal

pub invariant_of-self-2 : goal.invariant_of-self-2
invariant_of-self-2 c =
    let t : Tiles = record { side = c.self.inside.side; corners = c.self.inside.corners.items } in
    tiles_push t c.self.invariant (subst (λ (s : Tiles). (length s.corners + 1) * (s.side * s.side) ≤ most_samples) (sym c.self.view_is) c.requires.few) c.push.new.self.items c.args.corner c.in_ok-push.ensures.items c.latitude-latitude.ensures
    (subst (λ (s : Tiles). (i : ℕ) → i < length s.corners → get_or s.corners i no_corner ≡ c.args.corner → ⊥) (sym c.self.view_is) c.requires.other)
