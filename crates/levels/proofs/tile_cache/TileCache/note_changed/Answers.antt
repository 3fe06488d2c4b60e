use Rattle.levels.proofs.Prelude.{Corner, DifferAt, IsEntered, IsHeldAt, IsHeldStill, IsSetFrom, List, TileLabelling, ℕ, ap, can_note, corner_at, false, holds, inl, inr, is_height, known_of, length, refl, subst, sym, true, ◌<◌, ◌↔◌, ◌∙◌, ◌≡◌}
use Rattle.levels.proofs.Caches.Growing.{known_by}
use Rattle.levels.proofs.Changes.Invalidated.{noted_right}
use Rattle.levels.proofs.Changes.Reached.{unmoved}
use Rattle.levels.proofs.Changes.SparedLevels.{spared_level}
use Rattle.levels.proofs.tile_cache.TileCache.note_changed.Goals as goal

pub returns-clause-left : goal.returns-clause-left
returns-clause-left c =
    let was = c.args.self.now in
    let rim_graph = c.note_changed.ensures in
    let h = c.args.height.now in
    record {
      same_side = rim_graph.side;
      same_corners = rim_graph.corners;
      whole = rim_graph.whole;
      loaded = rim_graph.loaded;
      labellings = subst (λ (cs : List Corner). (t : ℕ) → t < length cs → holds was.rim_graph.side (corner_at cs t) h.point ≡ false → (l : TileLabelling) → IsHeldAt c.note_changed-2.new.self.held.items t l ↔ IsHeldAt was.labellings.held.items t l)
          (c.deref.ensures.value ∙ c.note_changed.ensures.corners) c.note_changed-2.ensures.kept;
      mended = subst (λ (cs : List Corner). (t : ℕ) → t < length cs → (l : TileLabelling) → IsHeldAt was.labellings.held.items t l → can_note l ≡ true → IsHeldStill c.note_changed-2.new.self.held.items t l)
          (c.deref.ensures.value ∙ c.note_changed.ensures.corners) c.note_changed-2.ensures.mended;
      same_levels = refl;
    }

pub returns-clause-still : goal.returns-clause-still
returns-clause-still c m right =
    let was = c.args.self.now in
    let h = c.args.height.now in
    let same : DifferAt m m h.point = record { around = unmoved m h.point h.point; all_sinks = λ q. refl } in
    noted_right m m h (known_of was) (known_by c.note_changed.new.self c.note_changed-2.new.self was.levels) same (inl refl)
    (returns-clause-left c)
    (λ t. subst (λ (cs : List Corner). IsEntered m (corner_at cs t) was.labellings.held.items t → IsEntered m (corner_at cs t) c.note_changed-2.new.self.held.items t) (c.deref.ensures.value ∙ c.note_changed.ensures.corners)
    (c.note_changed-2.ensures.noted m m t same (inl refl) (sym right.ready.same_side)))
    right.levels right

pub returns-clause-right : goal.returns-clause-right
returns-clause-right c m new differ before set spared right =
    let was = c.args.self.now in
    let h = c.args.height.now in
    let corners = was.rim_graph.corners.items in
    let set_from : IsSetFrom m new h.point h.was h.metres = elim set [ inl same ↦ inl same | inr to ↦ inr (before, λ full. to full (ap is_height before)) ] in
    noted_right m new h (known_of was) (known_by c.note_changed.new.self c.note_changed-2.new.self was.levels) differ set_from
    (returns-clause-left c)
    (λ t. subst (λ (cs : List Corner). IsEntered m (corner_at cs t) was.labellings.held.items t → IsEntered new (corner_at cs t) c.note_changed-2.new.self.held.items t) (c.deref.ensures.value ∙ c.note_changed.ensures.corners)
    (c.note_changed-2.ensures.noted m new t differ set_from (sym right.ready.same_side)))
    (λ x level at. spared_level m new h.point differ h.was h.metres before set corners x level (spared x level at) (right.levels x level at))
    right
