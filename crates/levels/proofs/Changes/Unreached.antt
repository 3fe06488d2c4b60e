-- A tile that the box doesn't reach keeps its block and its summary, if two mosaics differ only in that box.
use Rattle.std.proofs.Common.{◌≡◌, inl, inr, ℕ, ◌-◌, ◌*◌, ◌/◌, ◌%◌, ◌<◌, ℤ, pos, ◌+ℤ◌, ◌-ℤ◌, ◌*ℤ◌, nat_abs, int_le, Bool, true, false, not, ◌&&◌, ◌||◌, IsTrue, List, [], ◌∷◌, map, refl, sym, ◌∙◌, ap, ap₂, subst, arith}
use Rattle.levels.proofs.Prelude.{AreSpills, Block, Corner, DifferBetween, Dir, Flooded, Height, IsBlockOf, IsFlooded, IsLabelling, IsSummaryOf, IsTileLabelling, Kept, LabelledGround, Mosaic, Point, Summarizes, Summary, Tile, TileLabelling, and_from, and_parts, block_of, both_ways, count_by, degree_of, directions, false_from_ne_true, fun_ext, height_of, ints, is_adjacent, is_between, is_ground, is_height, is_near, is_outlet, is_rim, is_sink, le_from, le_true, list_any, ltb-true, metres, nat_lt, reaches, reaches_along, rim_number, rim_point, same_point, share_tile, slice_index, slice_index_or, some_side, step, void}
use Rattle.lattice.specs.Lattice.{IsSampleAt, is_along, holds, point_of}
use Rattle.lattice.proofs.Along.{parts}
use Rattle.lattice.proofs.Samples.{along_of_sample, row_below}
use Rattle.lattice.proofs.BoolTests.{fourth_fails}

-- ---- the box reaches a tile if one of its points is next to one of the tile's

along_reached : (m : ℕ) (corner from to v w : ℤ) → IsTrue (is_along (pos m) corner v) → nat_abs (v -ℤ w) < 2 → int_le from w ≡ true → int_le w to ≡ true → reaches_along (pos m) corner from to ≡ true
along_reached m corner from to v w held near low high =
    let within = parts m corner v held in
    let above = le_true from w low in
    let below = le_true w to high in
    and_from (int_le (corner *ℤ pos m -ℤ pos 1) to) (int_le from (corner *ℤ pos m +ℤ pos m +ℤ pos 1))
    (le_from (corner *ℤ pos m -ℤ pos 1) to (omega (arith, ints))) (le_from from (corner *ℤ pos m +ℤ pos m +ℤ pos 1) (omega (arith, ints)))

module _ (n : ℕ) (c : Corner) (from to : Point) (out : reaches n c from to ≡ false) (p : Point) (held : holds n c p ≡ true) where
  pub beside_unreached : (q : Point) → nat_abs (p.y -ℤ q.y) < 2 → nat_abs (p.x -ℤ q.x) < 2 → is_between from to q ≡ false
  beside_unreached q row column = false_from_ne_true (is_between from to q) (λ within.
      let in_tile = and_parts (is_along (pos (n - 1)) c.lat p.y) (is_along (pos (n - 1)) c.lon p.x) held in
      let three = and_parts (int_le from.y q.y && int_le q.y to.y && int_le from.x q.x) (int_le q.x to.x) within in
      let two = and_parts (int_le from.y q.y && int_le q.y to.y) (int_le from.x q.x) three.0 in
      let one = and_parts (int_le from.y q.y) (int_le q.y to.y) two.0 in
      both_ways (reaches n c from to) out
      (and_from (reaches_along (pos (n - 1)) c.lat from.y to.y) (reaches_along (pos (n - 1)) c.lon from.x to.x)
      (along_reached (n - 1) c.lat from.y to.y p.y q.y in_tile.0 row one.0 one.1)
      (along_reached (n - 1) c.lon from.x to.x p.x q.x in_tile.1 column two.1 three.1)))

  pub itself_unreached : is_between from to p ≡ false
  itself_unreached = beside_unreached p (omega (arith, ints)) (omega (arith, ints))

-- ---- the points of a tile

pub held_by_index : (n : ℕ) (c : Corner) (e : ℕ) → e < n * n → holds n c (point_of n c e) ≡ true
held_by_index n c e small =
    let some = some_side n e small in
    let row : e / n < n = row_below n e some small in
    let column : e % n < n = omega arith in
    let sample : IsSampleAt n c (e / n) (e % n) (point_of n c e) = record { row = row; column = column; y = omega (arith, ints); x = refl } in
    let along = along_of_sample n c (point_of n c e) (e / n) (e % n) sample in
    and_from (is_along (pos (n - 1)) c.lat (point_of n c e).y) (is_along (pos (n - 1)) c.lon (point_of n c e).x) along.0 along.1

any_corner : (f : Corner → Bool) (ts : List Tile) → list_any (λ t. f t.corner) ts ≡ list_any f (map (λ t. t.corner) ts)
any_corner f [] = refl
any_corner f (t ∷ ts) = ap (λ b. f t.corner || b) (any_corner f ts)

-- ---- two mosaics with the same heights and sinks in a tile

module _ (m new : Mosaic) (c : Corner) (same_side : new.side ≡ m.side) (heights : (e : ℕ) → e < m.side * m.side → height_of new (point_of m.side c e) ≡ height_of m (point_of m.side c e))
    (sinks : (e : ℕ) → e < m.side * m.side → is_sink new (point_of m.side c e) ≡ is_sink m (point_of m.side c e)) where
  smaller : (e : ℕ) → e < new.side * new.side → e < m.side * m.side
  smaller e small = subst (λ n. e < n * n) same_side small

  height_as : (e : ℕ) → e < new.side * new.side → metres (height_of m (point_of m.side c e)) ≡ metres (height_of new (point_of new.side c e))
  height_as e small = ap metres (sym (heights e (smaller e small))) ∙ ap (λ n. metres (height_of new (point_of n c e))) (sym same_side)

  sink_as : (e : ℕ) → e < new.side * new.side → is_sink m (point_of m.side c e) ≡ is_sink new (point_of new.side c e)
  sink_as e small = sym (sinks e (smaller e small)) ∙ ap (λ n. is_sink new (point_of n c e)) (sym same_side)

  pub same_block : (b : Block) → IsBlockOf m c b → IsBlockOf new c b
  same_block b is = record {
    side = is.side ∙ sym same_side;
    heights = record {
      whole = is.heights.whole ∙ ap (λ n. n * n) (sym same_side);
      values = λ e small. is.heights.values e (smaller e small) ∙ height_as e small;
    };
    sinks = λ e small. is.sinks e (smaller e small) ∙ sink_as e small;
  }

  flooded_same : (labelled : LabelledGround) → IsFlooded m c labelled → IsFlooded new c labelled
  flooded_same labelled is = record { side = is.side ∙ sym same_side; valid = (is.valid.0, (same_block is.valid.0 is.valid.1.0, is.valid.1.1)) }

  pub tile_still : (labelling : TileLabelling) → IsTileLabelling m c labelling → IsTileLabelling new c labelling
  tile_still (Kept labelled) is = flooded_same labelled is
  tile_still (Flooded flooded) is = record {
    block = record {
      side = is.block.side ∙ sym same_side;
      whole = is.block.whole ∙ ap (λ n. n * n) (sym same_side);
      heights = λ e small. elim (is.block.heights e (smaller e small)) [
        | inl right ↦ inl (right ∙ height_as e small)
        | inr has ↦ inr has
      ];
      sinks = λ e small. is.block.sinks e (smaller e small) ∙ sink_as e small;
    };
    still = λ on. flooded_same flooded.labelled (is.still on);
  }

-- ---- two mosaics that differ only in the box

module _ (m new : Mosaic) (from to : Point) (differ : DifferBetween m new from to) where
  pub shared_still : (p q : Point) → share_tile new p q ≡ share_tile m p q
  shared_still p q =
      any_corner (λ c. holds new.side c p && holds new.side c q) new.tiles
      ∙ ap₂ (λ (n : ℕ) (cs : List Corner). list_any (λ c. holds n c p && holds n c q) cs) differ.same_side differ.same_corners
      ∙ sym (any_corner (λ c. holds m.side c p && holds m.side c q) m.tiles)

  module _ (c : Corner) (out : reaches m.side c from to ≡ false) where
    module _ (p : Point) (held : holds m.side c p ≡ true) where
      height_still : height_of new p ≡ height_of m p
      height_still = differ.heights p (itself_unreached m.side c from to out p held)

      sink_still : is_sink new p ≡ is_sink m p
      sink_still = differ.sinks p (itself_unreached m.side c from to out p held)

      adjacent_by : (q : Point) (b : Bool) → is_near p q ≡ b → is_adjacent new p q ≡ is_adjacent m p q
      adjacent_by q true beside =
          let both = and_parts (nat_lt (nat_abs (p.y -ℤ q.y)) 2) (nat_lt (nat_abs (p.x -ℤ q.x)) 2) beside in
          let there : height_of new q ≡ height_of m q =
          differ.heights q (beside_unreached m.side c from to out p held q (ltb-true (nat_abs (p.y -ℤ q.y)) 2 both.0) (ltb-true (nat_abs (p.x -ℤ q.x)) 2 both.1)) in
          ap₂ (λ (h k : Height). is_height h && is_height k && not (same_point p q) && is_near p q && share_tile new p q) height_still there
          ∙ ap (λ b. is_ground m p && is_ground m q && not (same_point p q) && is_near p q && b) (shared_still p q)
      adjacent_by q false far =
          fourth_fails (is_ground new p) (is_ground new q) (not (same_point p q)) (is_near p q) (share_tile new p q) far
          ∙ sym (fourth_fails (is_ground m p) (is_ground m q) (not (same_point p q)) (is_near p q) (share_tile m p q) far)

      degree_still : degree_of new p ≡ degree_of m p
      degree_still = ap (λ (f : Dir → Bool). count_by f directions) (fun_ext (λ d. adjacent_by (step d p) (is_near p (step d p)) refl))

      outlet_still : is_outlet new p ≡ is_outlet m p
      outlet_still =
          ap₂ (λ (h : Height) (k : ℕ). is_height h && (nat_lt k 8 || is_sink new p)) height_still degree_still
          ∙ ap (λ b. is_ground m p && (nat_lt (degree_of m p) 8 || b)) sink_still

    points_still : (e : ℕ) → e < m.side * m.side → height_of new (point_of m.side c e) ≡ height_of m (point_of m.side c e)
    points_still e small = height_still (point_of m.side c e) (held_by_index m.side c e small)

    sinks_still : (e : ℕ) → e < m.side * m.side → is_sink new (point_of m.side c e) ≡ is_sink m (point_of m.side c e)
    sinks_still e small = sink_still (point_of m.side c e) (held_by_index m.side c e small)

    block_still : (b : Block) → IsBlockOf m c b → IsBlockOf new c b
    block_still = same_block m new c differ.same_side points_still sinks_still

    pub labelling_still : (labelling : TileLabelling) → IsTileLabelling m c labelling → IsTileLabelling new c labelling
    labelling_still = tile_still m new c differ.same_side points_still sinks_still

    outlets_still : (b : Summary) → ((e : ℕ) → e < m.side * m.side → IsTrue (is_rim m.side e) → IsTrue (is_ground m (point_of m.side c e)) → (rim_point b (rim_number m.side e)).outlet ≡ is_outlet m (point_of m.side c e))
        → (e : ℕ) → e < m.side * m.side → IsTrue (is_rim m.side e) → IsTrue (is_ground new (point_of m.side c e)) → (rim_point b (rim_number m.side e)).outlet ≡ is_outlet new (point_of m.side c e)
    outlets_still b outlet e small rim ground =
        let p = point_of m.side c e in
        let held = held_by_index m.side c e small in
        outlet e small rim (ap is_height (sym (height_still p held)) ∙ ground) ∙ sym (outlet_still p held)

  summary_still : (b : Summary) → reaches m.side b.corner from to ≡ false → IsSummaryOf m b → IsSummaryOf new b
  summary_still b out is =
      let back : m.side ≡ new.side = sym differ.same_side in
      record {
        heights = is.heights;
        sinks = is.sinks;
        levels = is.levels;
        labels = is.labels;
        block = subst (λ n. IsBlockOf new b.corner (block_of n is.heights is.sinks)) back (block_still b.corner out (block_of m.side is.heights is.sinks) is.block);
        labelling = subst (λ n. IsLabelling (block_of n is.heights is.sinks) is.levels is.labels) back is.labelling;
        spills = subst (λ n. AreSpills n is.heights is.levels is.labels b.spills) back is.spills;
        rim = record {
          whole = is.rim.whole ∙ ap (λ n. 4 * (n - 1)) back;
          height = subst (λ n. (e : ℕ) → e < n * n → IsTrue (is_rim n e) → (rim_point b (rim_number n e)).height ≡ slice_index_or is.heights e void) back is.rim.height;
          label = subst (λ n. (e : ℕ) → e < n * n → IsTrue (is_rim n e) → (rim_point b (rim_number n e)).label ≡ slice_index is.labels e) back is.rim.label;
          outlet = subst (λ n. (e : ℕ) → e < n * n → IsTrue (is_rim n e) → IsTrue (is_ground new (point_of n b.corner e)) → (rim_point b (rim_number n e)).outlet ≡ is_outlet new (point_of n b.corner e)) back
              (outlets_still b.corner out b is.rim.outlet);
        };
      }

  -- the reduced summary, with fewer spills, stays too
  pub summarizes_still : (b : Summary) → reaches m.side b.corner from to ≡ false → Summarizes m b → Summarizes new b
  summarizes_still b out is = record { all = is.all; of = summary_still (record b { spills = is.all }) out is.of; kept = is.kept }
