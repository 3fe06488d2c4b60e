-- Kept planes after a command: those of tiles that aren't made stale stay right, and the other tiles are stale.
use Rattle.stored_mosaic.proofs.Prelude.{All-contains, All-contains_itself, All-filter, AllAfter, AreRight, Bool, ComesIn, Command, Contains, Corner, Edit, IfSome, IsLabelling, IsMosaic, IsTrue, KeepFresh, KeepRight, KeepsBut, KeptPlanes, List, Mosaic, None, Ok, Option, Rising, StoredTile, ℕ, [], ap, arith, cond, contains-map, corners_of_stored, effect, false, filter, get_or, goes_stale, inl, inr, is_before, is_none, keeper, keepers, labels_in, length, levels_in, list_any, or-false, plane_bytes, refl, same_corner, stale_after, stale_corners, stale_tile, staled, staled_in, subst, suc, sym, true, with_tile, zero, ◌<◌, ◌||◌, ◌∙◌, ◌∷◌, ◌≡◌, ◌⊎◌}
use Rattle.std.proofs.lemmas.Bool.{or_left, or_right, both_ways}
use Rattle.std.proofs.lemmas.Option.{IfSome_then}
use Rattle.std.proofs.lemmas.List.{length-map, get_or-map, get_or_default}
use Rattle.lattice.proofs.CornerOrder.{same_from, before_not_same, after_not_same}
use Rattle.catalogue.specs.Tiles.{corners_of}
use Rattle.edits.proofs.FreshSinks.{block_stays}
use Rattle.stored_mosaic.proofs.Reading.Finding.{stored_corner, after_contained, rising_stored}
use Rattle.stored_mosaic.proofs.Reading.HeldTiles.{AreTilesOf, corners_held, keepers_held}

-- ---- tiles made stale are the same tiles

pub staled_held : (n : ℕ) (test : Corner → Bool) (tiles : List StoredTile) (m : Mosaic) → AreTilesOf n tiles m → AreTilesOf n (staled test tiles) m
staled_held n test = keepers_held n (staled_in test) (λ t. by t (test t.corner))
  where
    by : (t : StoredTile) (b : Bool) → cond b (stale_tile t.corner t.heights) t ≡ record t { kept = (cond b (stale_tile t.corner t.heights) t).kept }
    by t true = refl
    by t false = refl

-- ---- the kept planes of stale tiles, and of an added one

pub contains_left : (p : StoredTile → Bool) (tiles : List StoredTile) (t : StoredTile) → Contains (filter p tiles) t → Contains tiles t
contains_left p tiles t there = All-contains (Contains tiles) (filter p tiles) t (All-filter p (Contains tiles) tiles (All-contains_itself tiles)) there

found_staled : (test : Corner → Bool) (tiles : List StoredTile) (t : StoredTile) → Contains (staled test tiles) t → (u : StoredTile) × (Contains tiles u × (staled_in test u ≡ t))
found_staled test [] t (k, below, here) = absurd (omega (arith, below))
found_staled test (u ∷ rest) t (zero, below, here) = (u, ((0, omega arith, refl), here))
found_staled test (u ∷ rest) t (suc k, below, here) =
    let later = found_staled test rest t (k, omega (arith, below), here) in
    (later.0, ((suc later.1.0.0, omega (arith, later.1.0.1), later.1.0.2), later.1.1))

pub found_with : (new : StoredTile) (tiles : List StoredTile) (t : StoredTile) → Contains (with_tile new tiles) t → (new ≡ t) ⊎ Contains tiles t
found_with new [] t (zero, below, here) = inl here
found_with new [] t (suc k, below, here) = absurd (omega (arith, below))
found_with new (u ∷ rest) t there = by (is_before new.corner u.corner) (found_with new rest t) there
  where
    later : (new ≡ t) ⊎ Contains rest t → (new ≡ t) ⊎ Contains (u ∷ rest) t
    later (inl is) = inl is
    later (inr (k, below, here)) = inr (suc k, omega (arith, below), here)

    by : (b : Bool) → (Contains (with_tile new rest) t → (new ≡ t) ⊎ Contains rest t) → Contains (cond b (new ∷ (u ∷ rest)) (u ∷ with_tile new rest)) t → (new ≡ t) ⊎ Contains (u ∷ rest) t
    by true find (zero, below, here) = inl here
    by true find (suc k, below, here) = inr (k, omega (arith, below), here)
    by false find (zero, below, here) = inr (0, omega arith, here)
    by false find (suc k, below, here) = later (find (k, omega (arith, below), here))

pub found_keeper : (now others : List StoredTile) (t : StoredTile) → keepers now ≡ keepers others → Contains now t → (u : StoredTile) × (Contains others u × ((u.corner ≡ t.corner) × (u.kept ≡ t.kept)))
found_keeper now others t same (k, below, here) =
    let within : k < length others = omega (arith, below, sym (length-map now keeper) ∙ ap length same ∙ length-map others keeper) in
    let u : StoredTile = get_or others k t in
    let is : keeper u ≡ keeper t =
    sym (get_or-map keeper others k t (keeper t) within) ∙ ap (λ (l : List (Corner × Option KeptPlanes)). get_or l k (keeper t)) (sym same) ∙ get_or-map keeper now k t (keeper t) below ∙ ap keeper here in
    (u, ((k, within, get_or_default others k u t within), (ap (λ z. z.0) is, ap (λ z. z.1) is)))

module _ (m : Mosaic) (command : Command) (was : List StoredTile) where
  abbrev test : Corner → Bool
  test = goes_stale m command

  pub staled_keep : (tiles : List StoredTile) → ((t : StoredTile) → Contains tiles t → Contains was t) → KeepFresh m command was (staled test tiles)
  staled_keep tiles among = record {
    fresh = λ t there passes_not. let u = found_staled test tiles t there in fresh u.0 t (among u.0 u.1.0) passes_not (test u.0.corner) refl u.1.1;
    stale = λ t there passes. let u = found_staled test tiles t there in stale u.0 t passes (test u.0.corner) refl u.1.1;
  }
    where
      fresh : (u t : StoredTile) → Contains was u → test t.corner ≡ false → (b : Bool) → test u.corner ≡ b → cond b (stale_tile u.corner u.heights) u ≡ t
          → (u : StoredTile) × (Contains was u × ((u.corner ≡ t.corner) × (u.kept ≡ t.kept)))
      fresh u t there passes_not true passes is = absurd (both_ways (test u.corner) (ap (λ (x : StoredTile). test x.corner) is ∙ passes_not) passes)
      fresh u t there passes_not false _ is = (u, (there, (ap (λ (x : StoredTile). x.corner) is, ap (λ (x : StoredTile). x.kept) is)))

      stale : (u t : StoredTile) → test t.corner ≡ true → (b : Bool) → test u.corner ≡ b → cond b (stale_tile u.corner u.heights) u ≡ t → t.kept ≡ None
      stale u t passes true _ is = sym (ap (λ (x : StoredTile). x.kept) is)
      stale u t passes false passes_not is = absurd (both_ways (test u.corner) passes_not (ap (λ (x : StoredTile). test x.corner) is ∙ passes))

  -- the kept planes after a staged edit, which adds only a stale tile
  pub keep_but : (made : Edit) (before now : List StoredTile) → ((c : Corner) → ComesIn made c → test c ≡ true) → KeepFresh m command was before → KeepsBut made before now → KeepFresh m command was now
  keep_but made before now stale keep kept = record {
    fresh = λ t there passes_not. fresh t passes_not (kept t there);
    stale = λ t there passes. gone t passes (kept t there);
  }
    where
      fresh : (t : StoredTile) → test t.corner ≡ false → (ComesIn made t.corner × (t.kept ≡ None)) ⊎ ((u : StoredTile) × (Contains before u × ((u.corner ≡ t.corner) × (u.kept ≡ t.kept))))
          → (u : StoredTile) × (Contains was u × ((u.corner ≡ t.corner) × (u.kept ≡ t.kept)))
      fresh t passes_not (inl comes) = absurd (both_ways (test t.corner) passes_not (stale t.corner comes.0))
      fresh t passes_not (inr u) =
          let old = keep.fresh u.0 u.1.0 (ap test u.1.1.0 ∙ passes_not) in
          (old.0, (old.1.0, (old.1.1.0 ∙ u.1.1.0, old.1.1.1 ∙ u.1.1.1)))

      gone : (t : StoredTile) → test t.corner ≡ true → (ComesIn made t.corner × (t.kept ≡ None)) ⊎ ((u : StoredTile) × (Contains before u × ((u.corner ≡ t.corner) × (u.kept ≡ t.kept)))) → t.kept ≡ None
      gone t passes (inl comes) = comes.1
      gone t passes (inr u) = sym u.1.1.1 ∙ keep.stale u.0 u.1.0 (ap test u.1.1.0 ∙ passes)

-- ---- the stale corners

stale_by : (tiles : List StoredTile) (says : Corner → Bool) → ((t : StoredTile) → Contains tiles t → says t.corner ≡ is_none t.kept) → filter says (corners_of_stored tiles) ≡ stale_corners tiles
stale_by [] says same = refl
stale_by (t ∷ rest) says same =
    ap (λ b. cond b (t.corner ∷ filter says (corners_of_stored rest)) (filter says (corners_of_stored rest))) (same t (0, omega arith, refl))
    ∙ by (is_none t.kept) (stale_by rest says (λ u there. same u (suc there.0, omega (arith, there.1), there.2)))
  where
    by : (b : Bool) → filter says (corners_of_stored rest) ≡ stale_corners rest
        → cond b (t.corner ∷ filter says (corners_of_stored rest)) (filter says (corners_of_stored rest))
        ≡ corners_of_stored (cond b (t ∷ filter (λ u. is_none u.kept) rest) (filter (λ u. is_none u.kept) rest))
    by true later = ap (λ (cs : List Corner). t.corner ∷ cs) later
    by false later = later

none_after : (c : Corner) (tiles : List StoredTile) → AllAfter stored_corner c tiles → list_any (same_corner c) (stale_corners tiles) ≡ false
none_after c [] after = refl
none_after c (t ∷ rest) after = by (is_none t.kept) (none_after c rest after.1)
  where
    by : (b : Bool) → list_any (same_corner c) (stale_corners rest) ≡ false
        → list_any (same_corner c) (corners_of_stored (cond b (t ∷ filter (λ u. is_none u.kept) rest) (filter (λ u. is_none u.kept) rest))) ≡ false
    by true later = ap (λ b. b || list_any (same_corner c) (stale_corners rest)) (before_not_same c t.corner after.0) ∙ later
    by false later = later

-- The corner of a tile is among the stale ones exactly if the tile keeps nothing.
listed_where : (tiles : List StoredTile) (t : StoredTile) → Rising stored_corner tiles → Contains tiles t → list_any (same_corner t.corner) (stale_corners tiles) ≡ is_none t.kept
listed_where [] t rising (k, below, here) = absurd (omega (arith, below))
listed_where (u ∷ rest) t rising (zero, below, here) = subst (λ (x : StoredTile). list_any (same_corner x.corner) (stale_corners (u ∷ rest)) ≡ is_none x.kept) here (by (is_none u.kept))
  where
    by : (b : Bool) → list_any (same_corner u.corner) (corners_of_stored (cond b (u ∷ filter (λ v. is_none v.kept) rest) (filter (λ v. is_none v.kept) rest))) ≡ b
    by true = or_left (same_corner u.corner u.corner) (list_any (same_corner u.corner) (stale_corners rest)) (same_from u.corner u.corner refl)
    by false = none_after u.corner rest rising.0
listed_where (u ∷ rest) t rising (suc k, below, here) =
    let there : Contains rest t = (k, omega (arith, below), here) in
    let before : IsTrue (is_before u.corner t.corner) = after_contained u.corner rest t rising.0 there in
    by (is_none u.kept) (after_not_same u.corner t.corner before) (listed_where rest t rising.1 there)
  where
    by : (b : Bool) → same_corner t.corner u.corner ≡ false → list_any (same_corner t.corner) (stale_corners rest) ≡ is_none t.kept
        → list_any (same_corner t.corner) (corners_of_stored (cond b (u ∷ filter (λ v. is_none v.kept) rest) (filter (λ v. is_none v.kept) rest))) ≡ is_none t.kept
    by true other later = ap (λ b. b || list_any (same_corner t.corner) (stale_corners rest)) other ∙ later
    by false other later = later

-- ---- from one commit to the next

module _ (n capacity : ℕ) (m new : Mosaic) (command : Command) (was now : List StoredTile) (valid : IsMosaic m) (makes : effect capacity m command ≡ Ok new)
    (are_was : AreTilesOf n was m) (are_now : AreTilesOf n now new) (keep : KeepFresh m command was now) where
  same_side : new.side ≡ m.side
  same_side = ap (λ (x : Mosaic). x.side) are_now.mosaic ∙ sym (ap (λ (x : Mosaic). x.side) are_was.mosaic)

  right_stays : (c : Corner) → Contains (corners_of m) c → goes_stale m command c ≡ false → (k : KeptPlanes) → AreRight m c k → AreRight new c k
  right_stays c there fresh k right = record {
    levels = right.levels;
    labels = right.labels;
    labelling = record {
      block = right.labelling.block;
      ground = block_stays capacity m command new c right.labelling.block valid makes there fresh right.labelling.ground;
      labelling = subst (λ (s : ℕ). IsLabelling right.labelling.block (levels_in (plane_bytes s k.levels)) (labels_in (plane_bytes s k.labels))) (sym same_side) right.labelling.labelling;
    };
  }

  -- The kept planes are right in the new mosaic.
  pub right_next : KeepRight m was → KeepRight new now
  right_next right k d below = one (get_or now k d) (All-contains_itself now k d below)
    where
      one : (t : StoredTile) → Contains now t → IfSome t.kept (AreRight new t.corner)
      one t there = by (goes_stale m command t.corner) refl
        where
          by : (b : Bool) → goes_stale m command t.corner ≡ b → IfSome t.kept (AreRight new t.corner)
          by true stale = subst (λ (o : Option KeptPlanes). IfSome o (AreRight new t.corner)) (sym (keep.stale t there stale)) tt
          by false fresh =
              let u = keep.fresh t there fresh in
              let present : Contains (corners_of m) t.corner =
              subst (λ (c : Corner). Contains (corners_of m) c) u.1.1.0 (subst (λ (cs : List Corner). Contains cs u.0.corner) (corners_held n was m are_was) (contains-map stored_corner was u.0 u.1.0)) in
              let before : IfSome t.kept (AreRight m t.corner) =
              subst (λ (o : Option KeptPlanes). IfSome o (AreRight m t.corner)) u.1.1.1
              (subst (λ (c : Corner). IfSome u.0.kept (AreRight m c)) u.1.1.0 (All-contains (λ (x : StoredTile). IfSome x.kept (AreRight m x.corner)) was u.0 right u.1.0)) in
              IfSome_then t.kept before (right_stays t.corner present fresh)

  -- The other tiles are stale.
  pub stale_next : stale_after m command (stale_corners was) new ≡ stale_corners now
  stale_next = ap (filter says) (sym (corners_held n now new are_now)) ∙ stale_by now says one
    where
      says : Corner → Bool
      says p = list_any (same_corner p) (stale_corners was) || goes_stale m command p

      one : (t : StoredTile) → Contains now t → says t.corner ≡ is_none t.kept
      one t there = by (goes_stale m command t.corner) refl
        where
          by : (b : Bool) → goes_stale m command t.corner ≡ b → says t.corner ≡ is_none t.kept
          by true stale = or_right (list_any (same_corner t.corner) (stale_corners was)) (goes_stale m command t.corner) stale ∙ sym (ap is_none (keep.stale t there stale))
          by false fresh =
              let u = keep.fresh t there fresh in
              ap (λ b. list_any (same_corner t.corner) (stale_corners was) || b) fresh
              ∙ or-false (list_any (same_corner t.corner) (stale_corners was))
              ∙ ap (λ (c : Corner). list_any (same_corner c) (stale_corners was)) (sym u.1.1.0)
              ∙ listed_where was u.0 (rising_stored n was m are_was valid) u.1.0
              ∙ ap is_none u.1.1.1
