-- Where no height changes, all results about tiles stay right.
use Rattle.levels.proofs.Prelude.{Bool, Corner, DifferAt, DifferBetween, IsFilledLevel, IsRight, Known, Mosaic, Point, Summarizes, Summary, Terrain, ℕ, ℤ, and_parts, ap, arith, cases_Bool, corner_at, false, false_from_ne_true, fun_ext, inl, inr, int_le, ints, is_adjacent, is_between, is_ground, is_height, is_outlet, le_true, metres, pos, reaches, reaches_along, refl, subst, sym, terrain, ◌&&◌, ◌*ℤ◌, ◌+ℤ◌, ◌-ℤ◌, ◌-◌, ◌∙◌, ◌≡◌}
use Rattle.lattice.specs.Height.{height_of}
use Rattle.levels.proofs.Changes.Reached.{between_itself}
use Rattle.levels.proofs.Changes.SparedLevels.{adjacent_still, outlet_still, rim_level_still}
use Rattle.levels.proofs.Changes.Unreached.{labelling_still, summarizes_still}

-- a point that isn't near any tile with this corner
abbrev far_from : ℕ → Corner → Point
far_from n c = record { y = c.lat *ℤ pos (n - 1) +ℤ pos (n - 1) +ℤ pos 2; x = pos 0 }

far_along : (k : ℕ) (corner from to : ℤ) → from ≡ corner *ℤ pos k +ℤ pos k +ℤ pos 2 → reaches_along (pos k) corner from to ≡ false
far_along k corner from to at = false_from_ne_true (reaches_along (pos k) corner from to) (λ on.
    let ends = and_parts (int_le (corner *ℤ pos k -ℤ pos 1) to) (int_le from (corner *ℤ pos k +ℤ pos k +ℤ pos 1)) on in
    let low = le_true from (corner *ℤ pos k +ℤ pos k +ℤ pos 1) ends.1 in
    omega (arith, ints))

far_unreached : (n : ℕ) (c : Corner) → reaches n c (far_from n c) (far_from n c) ≡ false
far_unreached n c = ap (λ b. b && reaches_along (pos (n - 1)) c.lon (pos 0) (pos 0)) (far_along (n - 1) c.lat (far_from n c).y (far_from n c).y refl)

module _ (m new : Mosaic) (p : Point) (differ : DifferAt m new p) (here : height_of new p ≡ height_of m p) where
  heights : (q : Point) → height_of new q ≡ height_of m q
  heights q = elim (cases_Bool (is_between p p q)) [
    | inl within ↦ subst (λ r. height_of new r ≡ height_of m r) (between_itself p q within) here
    | inr out ↦ differ.around.heights q out
  ]

  anywhere : (from to : Point) → DifferBetween m new from to
  anywhere from to = record { same_side = differ.around.same_side; same_corners = differ.around.same_corners; heights = λ q out. heights q; sinks = λ q out. differ.all_sinks q }

  pub ground : (q : Point) → is_ground new q ≡ is_ground m q
  ground q = ap is_height (heights q)

  abbrev made : (Point → Bool) → (Point → ℤ) → (Point → Point → Bool) → (Point → Bool) → Terrain Point
  made g h a o = record { is_ground = g; height = h; is_adjacent = a; is_outlet = o }

  pub same_terrain : terrain m ≡ terrain new
  same_terrain =
      ap (λ g. made g (λ q. metres (height_of m q)) (is_adjacent m) (is_outlet m)) (fun_ext (λ q. sym (ground q)))
      ∙ ap (λ h. made (is_ground new) h (is_adjacent m) (is_outlet m)) (fun_ext (λ q. sym (ap metres (heights q))))
      ∙ ap (λ a. made (is_ground new) (λ q. metres (height_of new q)) a (is_outlet m)) (fun_ext (λ q. fun_ext (λ r. sym (adjacent_still m new p differ.around ground q r))))
      ∙ ap (λ o. made (is_ground new) (λ q. metres (height_of new q)) (is_adjacent new) o) (fun_ext (λ q. sym (outlet_still m new p differ ground q)))

  pub unchanged_summary : (b : Summary) → Summarizes m b → Summarizes new b
  unchanged_summary b = summarizes_still m new (far_from m.side b.corner) (far_from m.side b.corner) (anywhere (far_from m.side b.corner) (far_from m.side b.corner)) b (far_unreached m.side b.corner)

  pub known_still : (known : Known) → IsRight m known → IsRight new known
  known_still known right = record {
    ready = record {
      same_side = right.ready.same_side ∙ sym differ.around.same_side;
      all = right.ready.all ∙ sym differ.around.same_corners;
      room = right.ready.room;
      tiles = record {
        whole = right.ready.tiles.whole;
        sides = right.ready.tiles.sides;
        places = right.ready.tiles.places;
        summaries = λ t ways is. unchanged_summary ways.summary (right.ready.tiles.summaries t ways is);
      };
    };
    labellings = λ t labelling is.
        let c = corner_at known.corners t in
        labelling_still m new (far_from m.side c) (far_from m.side c) (anywhere (far_from m.side c) (far_from m.side c)) c (far_unreached m.side c) labelling (right.labellings t labelling is);
    levels = λ x level is. rim_level_still m new differ.around.same_side known.corners x level (λ q. subst (λ t. IsFilledLevel t q level) same_terrain) (right.levels x level is);
  }
