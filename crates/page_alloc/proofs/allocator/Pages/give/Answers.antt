use Rattle.std.proofs.Common.{◌≡◌, ap, ◌∙◌, arith, length, false}
use Rattle.std.proofs.lemmas.Bool.{false_from_ne_true}
use Rattle.std.proofs.lemmas.List.{with_items_is}
use Rattle.page_alloc.specs.Bits.{has_bit}
use Rattle.page_alloc.specs.Pages.{with_page, IsPage}
use Rattle.page_alloc.proofs.PageLemmas.{free_is_bit, room_for_bit, with_bit}
use Rattle.page_alloc.proofs.allocator.Pages.give.Goals as goal
use Rattle.page_alloc.proofs.allocator.Pages.give.Goals.{After-self}

-- the page's bit is clear at the start
is_clear : (c : After-self) → has_bit c.self.inside.words.items c.args.page ≡ false
is_clear c =
    false_from_ne_true _ (λ set. c.requires.in_use (free_is_bit c.self.invariant c.args.self.now c.self.view_is c.args.page ∙ set))

is_page : (c : After-self) → IsPage c.self.inside.total c.args.page
is_page c = rw (ap (λ s. s.total) c.self.view_is) c.requires.in_range

pub set-requires : goal.set-requires
set-requires c =
    let page = is_page (goal.at.set-requires c).After-self in
    omega (arith, ap length c.deref_mut.ensures.value)

pub overflow_add-self : goal.overflow_add-self
overflow_add-self c =
    let page = is_page (goal.at.overflow_add-self c).After-self in
    let clear = is_clear (goal.at.overflow_add-self c).After-self in
    omega (arith, room_for_bit c.self.invariant c.args.page page.1 clear)

pub invariant_of-self : goal.invariant_of-self
invariant_of-self c =
    let page = is_page (goal.at.invariant_of-self c).After-self in
    let clear = is_clear (goal.at.invariant_of-self c).After-self in
    let items = with_items_is c.self.inside.words c.set.new.words (omega arith) in
    rw items (with_bit c.self.invariant _ c.set.new.words c.deref_mut.ensures.value (omega arith) c.args.page page clear c.set.ensures).1

pub returns : goal.returns
returns c =
    let page = is_page (goal.at.returns c).After-self in
    let clear = is_clear (goal.at.returns c).After-self in
    let items = with_items_is c.self.inside.words c.set.new.words (omega arith) in
    let free = (with_bit c.self.invariant _ c.set.new.words c.deref_mut.ensures.value (omega arith) c.args.page page clear c.set.ensures).0 in
    rw (items, free) (ap (λ s. with_page s c.args.page) c.self.view_is)
