use Rattle.page_map.proofs.Prelude.{AreBalanced, AreInUse, FreePages, Fresh, List, ℕ, [], ap, ap₂, arith, free_times, fresh_in, page_times, pages_behind, refl, times, used_in, ◌++◌, ◌∙◌, ◌≡◌}
use Rattle.page_map.proofs.Times.{differing-nil}
use Rattle.page_map.proofs.FreeTimes.{balanced-append, balanced_same, in_use-first, in_use-last, rest_in_use_still}
use Rattle.page_map.proofs.PlaneChanges.{nil_parts, taken_balanced, taken_fresh}
use Rattle.page_map.proofs.tile_entry.TileEntry.keep.Goals as goal
use Rattle.page_map.proofs.tile_entry.TileEntry.keep.Goals.{In-Ok}

module _ (c : In-Ok) where
  kept_in_use : AreInUse (used_in c.args.self.now.levels ++ used_in c.args.self.now.labels) c.args.free.now
  kept_in_use = in_use-last (used_in c.args.self.now.heights) (used_in c.args.self.now.levels ++ used_in c.args.self.now.labels) c.args.free.now c.requires.in_use

  levels_in_use : AreInUse (used_in c.args.self.now.levels) c.args.free.now
  levels_in_use = in_use-first (used_in c.args.self.now.levels) (used_in c.args.self.now.labels) c.args.free.now kept_in_use

  nothing : (fresh_in c.args.self.now.levels ≡ []) × (fresh_in c.args.self.now.labels ≡ [])
  nothing = nil_parts (fresh_in c.args.self.now.levels) (fresh_in c.args.self.now.labels) c.requires.none

  levels_balanced : AreBalanced (used_in c.args.self.now.levels) (used_in (record (c.args.self.now.levels) { staged = Fresh c.in_ok-levels.levels })) c.args.free.now c.fresh_plane.new.free
  levels_balanced = taken_balanced c.args.self.now.levels c.in_ok-levels.levels c.args.free.now c.fresh_plane.new.free levels_in_use c.in_ok-levels.ensures.taken nothing.0

  labels_in_use : AreInUse (used_in c.args.self.now.labels) c.fresh_plane.new.free
  labels_in_use = rest_in_use_still (used_in c.args.self.now.levels) _ (used_in c.args.self.now.labels) c.args.free.now c.fresh_plane.new.free levels_balanced kept_in_use

  labels_balanced : AreBalanced (used_in c.args.self.now.labels) (used_in (record (c.args.self.now.labels) { staged = Fresh c.in-Ok.labels })) c.fresh_plane.new.free c.fresh_plane-2.new.free
  labels_balanced = taken_balanced c.args.self.now.labels c.in-Ok.labels c.fresh_plane.new.free c.fresh_plane-2.new.free labels_in_use c.in-Ok.ensures.taken nothing.1

pub returns-in-Ok-clause-kept : goal.returns-in-Ok-clause-kept
returns-in-Ok-clause-kept c =
    let at = (goal.at.returns-in-Ok-clause-kept c).In-Ok in
    record {
      levels = c.in_ok-levels.levels;
      labels = c.in-Ok.labels;
      whole_levels = record { index_pages = c.in_ok-levels.ensures.index_pages ∙ c.index_pages-index_pages.ensures; pages = c.in_ok-levels.ensures.pages ∙ c.data_pages-pages.ensures.value };
      whole_labels = record { index_pages = c.in-Ok.ensures.index_pages ∙ c.index_pages-index_pages.ensures; pages = c.in-Ok.ensures.pages ∙ c.data_pages-pages.ensures.value };
      changed = refl;
      fresh = ap₂ (λ (xs ys : List ℕ). xs ++ ys) (taken_fresh c.args.self.now.levels c.in_ok-levels.levels c.args.free.now c.fresh_plane.new.free (levels_in_use at) c.in_ok-levels.ensures.taken)
          (taken_fresh c.args.self.now.labels c.in-Ok.labels c.fresh_plane.new.free c.fresh_plane-2.new.free (labels_in_use at) c.in-Ok.ensures.taken);
    }

pub returns-in-Ok-clause-balanced : goal.returns-in-Ok-clause-balanced
returns-in-Ok-clause-balanced c =
    let at = (goal.at.returns-in-Ok-clause-balanced c).In-Ok in
    balanced-append (used_in c.args.self.now.heights) (used_in c.args.self.now.heights) (used_in c.args.self.now.levels ++ used_in c.args.self.now.labels) c.args.free.now c.args.free.now (balanced_same _ _) _ c.fresh_plane-2.new.free
    (balanced-append (used_in c.args.self.now.levels) _ (used_in c.args.self.now.labels) c.args.free.now c.fresh_plane.new.free (levels_balanced at) _ c.fresh_plane-2.new.free (labels_balanced at))

pub give_replaced-requires : goal.give_replaced-requires
give_replaced-requires c = λ p.
    let taken = c.in_ok-levels.ensures.taken in
    let all = ap (times p) (differing-nil (pages_behind c.in_ok-levels.levels)) in
    let free = ap (λ (s : FreePages). free_times s p) c.in-Err.ensures.unchanged in
    let total = ap (λ (s : FreePages). page_times s.range p) c.in-Err.ensures.unchanged in
    let first = ap (λ n. page_times n p) taken.same_range in
    omega (arith, all, taken.each p, free, total, first, c.requires.in_use p)

pub returns-in-Err-clause-balanced : goal.returns-in-Err-clause-balanced
returns-in-Err-clause-balanced c =
    let taken = c.in_ok-levels.ensures.taken in
    record {
      same_range = c.give_replaced.ensures.same_range ∙ (ap (λ (s : FreePages). s.range) c.in-Err.ensures.unchanged ∙ taken.same_range);
      each = λ p.
          let all = ap (times p) (differing-nil (pages_behind c.in_ok-levels.levels)) in
          let free = ap (λ (s : FreePages). free_times s p) c.in-Err.ensures.unchanged in
          omega (arith, all, free, taken.each p, c.give_replaced.ensures.each p);
    }
