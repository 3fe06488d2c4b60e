-- The new heights of the named points, one after another.
use Rattle.edits.proofs.Prelude.{All-push, AreEarlier, ArrayVec, Burn, Ghosts, IsMosaic, IsTrue, List, Lower, Mosaic, NewHeight, OnlyReads, Point, PointEdit, Raise, Refusal, Repeated, TooDeep, Wall, ℕ, ℤ, [], ap, ap₂, at_drop_all, at_drop_more, burnt, corners_are, drop, edited, effect, false, fault_at, first_fault, get_or, height_of, is_depth, is_height, is_repeated, length, map, map-append, metres, negsuc, points_of, pos, reads_on, sym, take, take_all, take_more, true, unless_fault, void, walled, with_heights, ◌++◌, ◌+◌, ◌-ℤ◌, ◌<◌, ◌∙◌, ◌∷◌, ◌≡◌, ◌≢◌, ◌≤◌}
use Rattle.std.specs.Prelude.{Option, Some, Result, Ok, Err, IfOk, All, int_lt, if◌then◌else◌}
use Rattle.lattice.specs.declared.height.Height.TheVariants as height
use Rattle.edits.specs.PointEdits.{edited_metres, depth_of, edited_sample, fault_of, refuses, edit_points}
use Rattle.edits.proofs.Edited.{height_by, named_heights}
use Rattle.edits.proofs.EarlierHeights.{are_earlier}
use Rattle.edits.proofs.PointEditing.{height_not_void, fault_says}

abbrev pub metres_at : Mosaic → Point → ℤ
metres_at m p = metres (height_of m p)

-- the new height of a point
abbrev pub edited_at : PointEdit → Mosaic → Point → ℤ
edited_at t m p = edited_metres t (metres (height_of m p))

-- The first of these points have their new heights.
pub record HaveHeights {S : Type 0} (g : Ghosts S) (t : PointEdit) (points : List Point) (i : ℕ) (old now : S) (heights : List NewHeight) : Type 0 where
  pub reads : OnlyReads {T = Unit {0}} g old now (Ok tt)
  pub named : points_of heights ≡ take i points
  pub values : g.is_honest now → heights ≡ map (height_by (metres_at (g.mosaic old)) (edited_at t (g.mosaic old))) (take i points)
  pub earlier : g.is_honest now → All (λ h. height_of (g.mosaic old) h.point ≡ height.At h.was) heights
  pub faults : g.is_honest now → first_fault (g.mosaic old) (depth_of t) points ≡ first_fault (g.mosaic old) (depth_of t) (drop i points)

module _ {S : Type 0} (g : Ghosts S) (t : PointEdit) (points : List Point) where
  module _ (i : ℕ) (p : Point) (old mid now : S) (heights : List NewHeight) (within : i < length points) (is : p ≡ get_or points i p) (so : HaveHeights g t points i old mid heights) where
    -- The first fault among the remaining points is this point's or a later one's.
    fault_from : g.is_honest mid → first_fault (g.mosaic old) (depth_of t) points ≡ fault_at (depth_of t) (height_of (g.mosaic mid) p) (first_fault (g.mosaic old) (depth_of t) (drop (i + 1) points))
    fault_from honest =
        so.faults honest
        ∙ at_drop_more (first_fault (g.mosaic old) (depth_of t)) points i p within
        ∙ ap₂ (λ (m : Mosaic) (q : Point). fault_at (depth_of t) (height_of m q) (first_fault (g.mosaic old) (depth_of t) (drop (i + 1) points))) (sym (so.reads.mosaic honest)) (sym is)

    next : take i points ++ p ∷ [] ≡ take (i + 1) points
    next = ap (λ (q : Point). take i points ++ q ∷ []) is ∙ sym (take_more points i p within)

    pub heights_more : (keeps_on : (a b c : S) → g.keeps a b → g.keeps b c → g.keeps a c) (h s : ℤ) → OnlyReads {T = Unit {0}} g mid now (Ok tt) →
        (g.is_honest now → height_of (g.mosaic mid) p ≡ height.At h) → s ≡ edited_metres t h →
        (h ≢ void → int_lt (h -ℤ depth_of t) (negsuc 32766) ≡ false) →
        HaveHeights g t points (i + 1) old now (heights ++ record { point = p; was = h; metres = s } ∷ [])
    heights_more keeps_on h s read at value shallow = record {
      reads = reads_on g keeps_on old mid now tt (Ok tt) so.reads read;
      named = map-append (λ (n : NewHeight). n.point) heights (record { point = p; was = h; metres = s } ∷ []) ∙ ap (λ (l : List Point). l ++ p ∷ []) so.named ∙ next;
      values = λ honest.
          let was = read.honest honest in
          let same : w p ≡ h = ap metres (there honest) in
          let here : s ≡ f p = value ∙ ap (edited_metres t) (sym same) in
          ap₂ (λ (l : List NewHeight) (n : NewHeight). l ++ n ∷ []) (so.values was) (ap₂ (λ (u v : ℤ). record { point = p; was = u; metres = v }) (sym same) here)
          ∙ sym (map-append (height_by w f) (take i points) (p ∷ []))
          ∙ ap (map (height_by w f)) next;
      earlier = λ honest. All-push (λ (n : NewHeight). height_of (g.mosaic old) n.point ≡ height.At n.was) heights (record { point = p; was = h; metres = s }) (so.earlier (read.honest honest)) (there honest);
      faults = λ honest. fault_from (read.honest honest) ∙ ap (λ v. fault_at (depth_of t) v (first_fault (g.mosaic old) (depth_of t) (drop (i + 1) points))) (at honest)
          ∙ ap (λ b. if b then Some TooDeep else first_fault (g.mosaic old) (depth_of t) (drop (i + 1) points)) (shallow (height_not_void (g.mosaic mid) p h (at honest)));
    }
      where
        w : Point → ℤ
        w = metres_at (g.mosaic old)

        f : Point → ℤ
        f = edited_at t (g.mosaic old)

        there : g.is_honest now → height_of (g.mosaic old) p ≡ height.At h
        there honest = ap (λ (m : Mosaic). height_of m p) (sym (so.reads.mosaic (read.honest honest))) ∙ at honest

    -- The point has no height, or would be too low.
    pub heights_end : is_repeated points ≡ false → (r : Refusal) → g.is_honest mid → fault_at (depth_of t) (height_of (g.mosaic mid) p) (first_fault (g.mosaic old) (depth_of t) (drop (i + 1) points)) ≡ Some r →
        edit_points t (g.mosaic old) points ≡ Err r
    heights_end single r honest fault =
        ap (λ b. if b then Err Repeated else unless_fault (first_fault (g.mosaic old) (depth_of t) points) made) single
        ∙ ap (λ f. unless_fault f made) (fault_from honest ∙ fault)
      where
        made : Mosaic
        made = edited (edited_sample t (g.mosaic old) points) (g.mosaic old)

  module _ (i : ℕ) (old now : S) (heights : List NewHeight) (all : length points ≤ i) (so : HaveHeights g t points i old now heights) where
    pub heights_named : points_of heights ≡ points
    heights_named = so.named ∙ take_all i points all

    pub heights_made : is_repeated points ≡ false → g.is_honest now → edit_points t (g.mosaic old) points ≡ Ok (with_heights heights (g.mosaic old))
    heights_made single honest =
        let m = g.mosaic old in
        ap (λ b. if b then Err Repeated else unless_fault (first_fault m (depth_of t) points) (edited (edited_sample t m points) m)) single
        ∙ ap (λ f. unless_fault f (edited (edited_sample t m points) m)) (so.faults honest ∙ at_drop_all (first_fault m (depth_of t)) points i all)
        ∙ ap (λ (n : Mosaic). Ok n) (sym (ap (λ (l : List NewHeight). with_heights l m) (so.values honest ∙ ap (map (height_by (metres_at m) (edited_at t m))) (take_all i points all))
        ∙ named_heights (metres_at m) (edited_at t m) points m))

    pub heights_earlier : IsMosaic (g.mosaic old) → is_repeated points ≡ false → g.is_honest now → AreEarlier heights (g.mosaic old)
    heights_earlier valid single honest = are_earlier heights (g.mosaic old) valid.side_low (corners_are (g.mosaic old) valid) (ap is_repeated heights_named ∙ single) (so.earlier honest)

-- the refusals of an edit at a point
pub ends_editing : {S : Type 0} (g : Ghosts S) (t : PointEdit) (points : List Point) (i : ℕ) (p : Point) (old mid now : S) (heights : List NewHeight) → i < length points → p ≡ get_or points i p
    → HaveHeights g t points i old mid heights → is_repeated points ≡ false → (r : Refusal) → g.is_honest mid → fault_of (height_of (g.mosaic mid) p) r → IsTrue (refuses t r) → edit_points t (g.mosaic old) points ≡ Err r
ends_editing g t points i p old mid now heights within is so single r honest why fault =
    heights_end g t points i p old mid now heights within is so single r honest (by r why fault)
  where
    later : Option Refusal
    later = first_fault (g.mosaic old) (depth_of t) (drop (i + 1) points)

    by : (r : Refusal) → fault_of (height_of (g.mosaic mid) p) r → IsTrue (refuses t r) → fault_at (depth_of t) (height_of (g.mosaic mid) p) later ≡ Some r
    by Repeated why fault = absurd why
    by r why fault = fault_says t (height_of (g.mosaic mid) p) r later why fault

pub deep_editing : {S : Type 0} (g : Ghosts S) (t : PointEdit) (points : List Point) (i : ℕ) (p : Point) (old mid now : S) (heights : List NewHeight) → i < length points → p ≡ get_or points i p
    → HaveHeights g t points i old mid heights → is_repeated points ≡ false → (h : ℤ) → g.is_honest mid → height_of (g.mosaic mid) p ≡ height.At h → int_lt (h -ℤ depth_of t) (negsuc 32766) ≡ true
    → edit_points t (g.mosaic old) points ≡ Err TooDeep
deep_editing g t points i p old mid now heights within is so single h honest at deep =
    heights_end g t points i p old mid now heights within is so single TooDeep honest
    (ap (λ v. fault_at (depth_of t) v later) at ∙ ap (λ b. if b then Some TooDeep else later) deep)
  where
    later : Option Refusal
    later = first_fault (g.mosaic old) (depth_of t) (drop (i + 1) points)

-- the effect of burns and walls, from the edits of their points

pub burn_made : (capacity : ℕ) (m : Mosaic) (depth : ℤ) (by_ : ℕ) (points : ArrayVec Point) (result : Result (ArrayVec NewHeight) Refusal) → is_depth depth ≡ true → depth ≡ pos by_ →
    IfOk result (λ heights. edit_points (Lower by_) m points.items ≡ Ok (with_heights heights.items m)) → IfOk result (λ heights. effect capacity m (Burn depth points) ≡ Ok (with_heights heights.items m))
burn_made capacity m depth by_ points (Ok heights) in_range same made =
    rw in_range (ap (λ d. if is_repeated points.items then Err Repeated else unless_fault (first_fault m d points.items) (burnt d points.items m)) same ∙ made)
burn_made capacity m depth by_ points (Err r) in_range same made = tt

pub wall_made : (capacity : ℕ) (m : Mosaic) (h to : ℤ) (points : ArrayVec Point) (result : Result (ArrayVec NewHeight) Refusal) → is_height h ≡ true → h ≡ to →
    IfOk result (λ heights. edit_points (Raise to) m points.items ≡ Ok (with_heights heights.items m)) → IfOk result (λ heights. effect capacity m (Wall h points) ≡ Ok (with_heights heights.items m))
wall_made capacity m h to points (Ok heights) in_range same made =
    rw in_range (ap (λ k. if is_repeated points.items then Err Repeated else unless_fault (first_fault m (pos 0) points.items) (walled k points.items m)) same ∙ made)
wall_made capacity m h to points (Err r) in_range same made = tt
