use Rattle.cow_tree.proofs.Prelude.{Err, Image, IsRecord, IsRefusedFor, List, NoneIndexed, NoneListed, Ok, PlaneLocation, ℕ, ap, arith, below_more, drop, get_or, index_pages_by, length, min, pages_of, part_of, record_bytes, refl, subst, sym, take, ◌++◌, ◌+◌, ◌-◌, ◌/◌, ◌<◌, ◌∙◌, ◌≡◌}
use Rattle.std.proofs.Math.Seq.{take-append_seam}
use Rattle.std.proofs.lemmas.List.{get_or_append_left, get_or_read}
use Rattle.cow_tree.proofs.Listed.Indexed.{AreReadTo, within as index_within, read_more, part_same, part_read, none_indexed}
use Rattle.cow_tree.proofs.ReadOnly.{refused_for, handed_on, read_on, works_ok, refused_again, read_well}
use Rattle.cow_tree.proofs.opening.read_indexed.Goals as goal
use Rattle.cow_tree.proofs.opening.read_indexed.Goals.{After-read_listed}

-- the index page of this pass through the loop
module _ (g : _) (c : After-read_listed g) where
  within : c.loop-t.t < length c.args.index.items
  within = omega (arith, c.loop-t-test.true, c.len-index_count.ensures)

  more : c.loop-t.t < (pages_of c.args.format.side + 1023) / 1024
  more = omega (arith, within, c.requires.count, ap (λ v. index_pages_by v (pages_of c.args.format.side)) c.requires.second)

  here_is : c.index.result.now ≡ get_or c.loop-t.behind.items c.loop-t.t 0
  here_is =
      get_or_read c.loop-t.behind.items c.loop-t.t c.index.result.now
      (omega (arith, within, index_within c.args.index.items (pages_of c.args.format.side) c.loop-t.t c.loop-t.left c.loop-t.behind.items c.loop-t.invariant.read)) c.index.ensures 0

  among : c.index.result.now ≡ get_or c.args.index.items c.loop-t.t 0
  among = here_is ∙ (ap (λ l. get_or l c.loop-t.t 0) c.loop-t.invariant.read.is ∙ get_or_append_left c.args.index.items (drop (length c.args.index.items) c.loop-t.behind.items) 0 c.loop-t.t within)

pub returns-in_err-listed-clause-refused : goal.returns-in_err-listed-clause-refused
returns-in_err-listed-clause-refused g c honest =
    let d = g.D.Disk in
    let at = (goal.at.returns-in_err-listed-clause-refused g c).After-read_listed in
    let here = c.loop-t.invariant in
    let old = c.args.roots.now.disk in
    let mid = c.loop-t.roots.disk in
    let reason : Type 0 = NoneIndexed c.args.format (d.size old) (d.seen old) c.args.index.items in
    handed_on (IsRefusedFor reason) c.from_residual.result c.in_err-listed.field-0.0 c.from_residual.ensures.1 (refused_for (NoneListed (d.size mid) (d.seen mid) c.index.result.now c.min-count.result) reason c.in_err-listed.field-0.0
    (λ none. none_indexed c.args.index.items (pages_of c.args.format.side) c.loop-t.t c.loop-t.left c.loop-t.behind.items here.read c.args.format (d.size old) (d.seen old) c.requires.second refl c.requires.count (within g at)
    (subst (λ (n : ℕ). NoneListed n (d.seen old) (get_or c.loop-t.behind.items c.loop-t.t 0) (min c.loop-t.left 1024)) here.reads.size
    (subst (λ (i : Image). NoneListed (d.size mid) i (get_or c.loop-t.behind.items c.loop-t.t 0) (min c.loop-t.left 1024)) (here.reads.seen (c.in_err-listed.ensures.reads.honest honest))
    (subst (λ (q : ℕ). NoneListed (d.size mid) (d.seen mid) q (min c.loop-t.left 1024)) (here_is g at)
    (subst (NoneListed (d.size mid) (d.seen mid) c.index.result.now) c.min-count.ensures none)))))
    (c.in_err-listed.ensures.refused honest))

pub loop-t-preserved : goal.loop-t-preserved
loop-t-preserved g c =
    let d = g.D.Disk in
    let at = (goal.at.loop-t-preserved g c).After-read_listed in
    let here = c.loop-t.invariant in
    let listed = c.in_ok-listed.listed in
    let read = c.in_ok-listed.ensures.reads in
    let works = works_ok listed c.read_listed.new.roots.failed read.works in
    let index = c.args.index.items in
    let count = pages_of c.args.format.side in
    let spelt : IsRecord (min c.loop-t.left 1024) listed.items = subst (λ (n : ℕ). IsRecord n listed.items) c.min-count.ensures c.in_ok-listed.ensures.count in
    let items_are : c.extend_from_slice.new.self.items ≡ c.loop-t.behind.items ++ listed.items =
    c.in_ok-extend_from_slice.ensures.items ∙ ap (λ (l : List ℕ). c.loop-t.behind.items ++ l) c.as_slice.ensures.value in
    record {
      works = works;
      reads = read_well d c.args.roots.now c.read_listed.new.roots listed tt (read_on d c.args.roots.now c.loop-t.roots c.read_listed.new.roots (Ok listed) here.reads here.works read);
      read = subst (λ (l : List ℕ). AreReadTo index count (c.loop-t.t + 1) (c.loop-t.left - c.min-count.result) l) (sym items_are)
          (subst (λ (n : ℕ). AreReadTo index count (c.loop-t.t + 1) (c.loop-t.left - n) (c.loop-t.behind.items ++ listed.items)) (sym c.min-count.ensures)
          (read_more index count c.loop-t.t c.loop-t.left c.loop-t.behind.items here.read (more g at) listed.items spelt));
      parts = λ honest.
          let mid_honest = read.honest honest in
          let seen = d.seen c.args.roots.now.disk in
          below_more (λ (k : ℕ). seen (get_or index k 0) ≡ record_bytes (part_of k (drop (length index) c.extend_from_slice.new.self.items))) c.loop-t.t
          (λ k less. here.parts mid_honest k less
          ∙ sym (ap (λ (l : List ℕ). record_bytes (part_of k (drop (length index) l))) items_are ∙ ap record_bytes (part_same index count c.loop-t.t c.loop-t.left c.loop-t.behind.items here.read (more g at) listed.items spelt k less)))
          (ap seen (sym (among g at)) ∙ (ap (λ (i : Image). i c.index.result.now) (sym (here.reads.seen mid_honest)) ∙ (c.in_ok-listed.ensures.listed honest
          ∙ sym (ap (λ (l : List ℕ). record_bytes (part_of c.loop-t.t (drop (length index) l))) items_are ∙ ap record_bytes (part_read index count c.loop-t.t c.loop-t.left c.loop-t.behind.items here.read (more g at) listed.items spelt)))));
    }

pub returns-clause-indexed : goal.returns-clause-indexed
returns-clause-indexed g c honest t lt =
    let d = g.D.Disk in
    let seen = d.seen c.args.roots.now.disk in
    let here = c.loop-t.invariant in
    let index = c.args.index.items in
    let behind = c.loop-t.behind.items in
    let n = c.len-index_count.result in
    let long : n ≡ length index = omega (arith, c.len-index_count.ensures) in
    let front : c.new.result.index_pages ≡ index = ap (λ (p : PlaneLocation). p.index_pages) c.new.ensures ∙ (ap (λ (l : List ℕ). take n l) here.read.is ∙ (ap (λ (k : ℕ). take k (index ++ drop (length index) behind)) long ∙ take-append_seam index (drop (length index) behind))) in
    let pages : c.new.result.pages ≡ drop (length index) behind = ap (λ (p : PlaneLocation). p.pages) c.new.ensures ∙ ap (λ (k : ℕ). drop k behind) long in
    let below : t < length index = omega (arith, lt, ap length front) in
    ap (λ (l : List ℕ). seen (get_or l t 0)) front ∙ (here.parts honest t (omega (arith, below, long, c.loop-t-test.false)) ∙ sym (ap (λ (l : List ℕ). record_bytes (part_of t l)) pages))

pub returns-in_err-listed-clause-reads : goal.returns-in_err-listed-clause-reads
returns-in_err-listed-clause-reads g c =
    refused_again g.D.Disk c.args.roots.now c.read_listed.new.roots c.in_err-listed.field-0.0 c.from_residual.result c.from_residual.ensures.1
    (read_on g.D.Disk c.args.roots.now c.loop-t.roots c.read_listed.new.roots (Err c.in_err-listed.field-0.0) c.loop-t.invariant.reads c.loop-t.invariant.works c.in_err-listed.ensures.reads)

pub returns-clause-reads : goal.returns-clause-reads
returns-clause-reads g c = read_well g.D.Disk c.args.roots.now c.loop-t.roots tt _ c.loop-t.invariant.reads
