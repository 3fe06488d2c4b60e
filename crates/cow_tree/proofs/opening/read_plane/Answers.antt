use Rattle.cow_tree.proofs.Prelude.{IfOk, Image, IsIndexed, IsRecord, IsRefusedFor, List, NoneIndexed, NoneListed, NonePlane, Two, ℕ, ap, length, record_bytes, subst, sym, ◌<◌, ◌∙◌, ◌≡◌}
use Rattle.std.proofs.lemmas.Result.{IfErr-weaker}
use Rattle.page_codec.specs.Sizes.{listed_in}
use Rattle.cow_tree.proofs.Listed.Indexed.{second_read, none_behind}
use Rattle.cow_tree.proofs.ReadOnly.{refused_for, handed_on}
use Rattle.cow_tree.proofs.Reasons.{none_listed}
use Rattle.cow_tree.proofs.opening.read_plane.Goals as goal
use Rattle.cow_tree.proofs.opening.read_plane.Goals.{After-read_indexed}

pub returns-in_err-listed-clause-refused : goal.returns-in_err-listed-clause-refused
returns-in_err-listed-clause-refused g c honest =
    let d = g.D.Disk in
    let old = c.args.roots.now.disk in
    handed_on _ c.from_residual.result c.in_err-listed.field-0.0 c.from_residual.ensures.1 (refused_for _ _ c.in_err-listed.field-0.0
    (λ none. none_listed c.args.format (d.size old) (d.seen old) c.args.record_page
    (subst (NoneListed (d.size old) (d.seen old) c.args.record_page) c.listed.ensures.value none)) (c.in_err-listed.ensures.refused honest))

-- the index pages that the record lists
module _ (g : _) (c : After-read_indexed g) (honest : g.D.Disk.honest c.read_indexed.new.roots.disk) where
  abbrev index : List ℕ
  index = c.in_ok-behind.behind.items

  items : index ≡ c.in_ok-listed.listed.items
  items = c.in_ok-behind.ensures.items ∙ c.as_slice.ensures.value

  spelt : IsRecord (listed_in c.args.format) index
  spelt = subst (IsRecord (listed_in c.args.format)) (sym items) (subst (λ (n : ℕ). IsRecord n c.in_ok-listed.listed.items) c.listed.ensures.value c.in_ok-listed.ensures.count)

  two : c.args.format.version ≡ Two
  two = sym c.version.ensures ∙ c.in-Two.is

  first : g.D.Disk.honest c.read_listed.new.roots.disk
  first = c.read_indexed.ensures.reads.honest honest

  wrote : g.D.Disk.seen c.args.roots.now.disk c.args.record_page ≡ record_bytes index
  wrote = c.in_ok-listed.ensures.listed first ∙ ap record_bytes (sym items)

pub returns-in-Two-clause-record : goal.returns-in-Two-clause-record
returns-in-Two-clause-record g c honest =
    let d = g.D.Disk in
    let at = (goal.at.returns-in-Two-clause-record g c).After-read_indexed in
    second_read c.args.format (d.seen c.args.roots.now.disk) c.args.record_page (index g at honest) (spelt g at honest) (two g at honest) (wrote g at honest) c.read_indexed.result
    c.read_indexed.ensures.at c.read_indexed.ensures.index c.read_indexed.ensures.pages c.read_indexed.ensures.each
    (subst (λ (i : Image). IfOk c.read_indexed.result (λ plane. (t : ℕ) → t < length plane.index_pages → IsIndexed i plane t)) (c.in_ok-listed.ensures.reads.seen (first g at honest)) (c.read_indexed.ensures.indexed honest))

pub returns-in-Two-clause-refused : goal.returns-in-Two-clause-refused
returns-in-Two-clause-refused g c honest =
    let d = g.D.Disk in
    let at = (goal.at.returns-in-Two-clause-refused g c).After-read_indexed in
    let old = c.args.roots.now.disk in
    let mid = c.read_listed.new.roots.disk in
    IfErr-weaker c.read_indexed.result (IsRefusedFor (NoneIndexed c.args.format (d.size mid) (d.seen mid) (index g at honest))) (IsRefusedFor (NonePlane c.args.format (d.size old) (d.seen old) c.args.record_page))
    (λ why refused. refused_for (NoneIndexed c.args.format (d.size mid) (d.seen mid) (index g at honest)) (NonePlane c.args.format (d.size old) (d.seen old) c.args.record_page) why
    (λ none. none_behind c.args.format (d.seen old) c.args.record_page (index g at honest) (spelt g at honest) (d.size old) (two g at honest) (wrote g at honest)
    (subst (λ (n : ℕ). NoneIndexed c.args.format n (d.seen old) (index g at honest)) c.in_ok-listed.ensures.reads.size
    (subst (λ (i : Image). NoneIndexed c.args.format (d.size mid) i (index g at honest)) (c.in_ok-listed.ensures.reads.seen (first g at honest)) none))) refused)
    (c.read_indexed.ensures.refused honest)
