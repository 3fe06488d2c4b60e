use Rattle.std.proofs.Common.{◌≡◌, ap, sym, ◌∙◌, arith, length, true}
use Rattle.std.proofs.lemmas.List.{with_items_is}
use Rattle.page_alloc.specs.Bits.{has_bit}
use Rattle.page_alloc.specs.Pages.{without_page}
use Rattle.page_alloc.proofs.PageLemmas.{free_is_bit, len-free, some_free, without_bit}
use Rattle.page_alloc.proofs.allocator.Pages.remove.Goals as goal
use Rattle.page_alloc.proofs.allocator.Pages.remove.Goals.{After-self}

-- the page's bit is set at the start
is_set : (c : After-self) → has_bit c.self.inside.words.items c.args.page ≡ true
is_set c = sym (free_is_bit c.self.invariant c.args.self.now c.self.view_is c.args.page) ∙ c.requires

pub clear-requires : goal.clear-requires
clear-requires c =
    let set = is_set (goal.at.clear-requires c).After-self in
    omega (arith, c.self.invariant.only_pages c.args.page set, ap length c.deref_mut.ensures.value)

pub overflow_sub-self : goal.overflow_sub-self
overflow_sub-self c =
    let set = is_set (goal.at.overflow_sub-self c).After-self in
    omega (arith, some_free c.self.invariant c.args.self.now c.self.view_is c.args.page set, len-free c.self.invariant c.args.self.now c.self.view_is)

pub invariant_of-self : goal.invariant_of-self
invariant_of-self c =
    let set = is_set (goal.at.invariant_of-self c).After-self in
    let items = with_items_is c.self.inside.words c.clear.new.words (omega arith) in
    rw items (without_bit c.self.invariant _ c.clear.new.words c.deref_mut.ensures.value (omega arith) c.args.page set c.clear.ensures).1

pub returns : goal.returns
returns c =
    let set = is_set (goal.at.returns c).After-self in
    let items = with_items_is c.self.inside.words c.clear.new.words (omega arith) in
    let free = (without_bit c.self.invariant _ c.clear.new.words c.deref_mut.ensures.value (omega arith) c.args.page set c.clear.ensures).0 in
    rw (items, free) (ap (λ s. without_page s c.args.page) c.self.view_is)
