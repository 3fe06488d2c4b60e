use Rattle.cow_tree.proofs.Prelude.{All, Format, List, ℕ, ap, arith, get_or, length, pages_of, subst, sym, ◌<◌, ◌∙◌, ◌≡◌, ◌≤◌}
use Rattle.cow_tree.proofs.PageReads.{plane_pages, whole_plane, page_there}
use Rattle.cow_tree.proofs.tree.Tree.page_number.Goals as goal
use Rattle.cow_tree.proofs.tree.Tree.page_number.Goals.{In-Some}

-- the plane has a page at the index
module _ (g : _) (c : In-Some g) where
  within : c.args.i < length c.in-Some.location.now.pages
  within =
      let page_map = c.args.self.now.page_map in
      let whole : length c.in-Some.location.now.pages ≡ pages_of page_map.format.side = whole_plane page_map.format page_map.staged c.args.c c.in-Some.location.now c.rules.ensures.staged.whole c.args.plane c.in-Some.ensures.found in
      let index : c.args.i < pages_of page_map.format.side = subst (λ (n : ℕ). c.args.i < pages_of n) (sym (ap (λ (f : Format). f.side) c.args.self.now.format)) c.requires.index in
      omega (arith, whole, index)

pub returns-clause-low : goal.returns-clause-low
returns-clause-low g c =
    let page_map = c.args.self.now.page_map in
    let location = c.in-Some.location.now in
    let low : All (λ p. 4 ≤ p) location.pages = plane_pages (λ p. 4 ≤ p) page_map.staged c.args.c location c.rules.ensures.staged.page_rule.low c.args.plane c.in-Some.ensures.found in
    subst (λ (pages : List ℕ). 4 ≤ get_or pages c.args.i 0) (sym c.pages.ensures) (low c.args.i 0 (within g (goal.at.returns-clause-low g c).In-Some))

pub returns-clause-high : goal.returns-clause-high
returns-clause-high g c =
    let old = c.args.self.now in
    let page_map = old.page_map in
    let location = c.in-Some.location.now in
    let high : All (λ p. p < page_map.sectors) location.pages = plane_pages (λ p. p < page_map.sectors) page_map.staged c.args.c location c.rules.ensures.staged.page_rule.high c.args.plane c.in-Some.ensures.found in
    subst (λ (pages : List ℕ). get_or pages c.args.i 0 < g.D.Disk.size old.roots.disk) (sym c.pages.ensures)
    (subst (λ (n : ℕ). get_or location.pages c.args.i 0 < n) old.sectors (high c.args.i 0 (within g (goal.at.returns-clause-high g c).In-Some)))

pub returns-clause-page : goal.returns-clause-page
returns-clause-page g c image bytes is =
    page_there image c.args.self.now.page_map.staged c.args.c c.in-Some.location.now c.args.i bytes (within g (goal.at.returns-clause-page g c).In-Some)
    (is ∙ ap (λ (pages : List ℕ). image (get_or pages c.args.i 0)) c.pages.ensures) c.args.plane c.in-Some.ensures.found
