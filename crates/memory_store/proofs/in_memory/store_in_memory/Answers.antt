use Rattle.std.proofs.Common.{rules, ◌≡◌, ◌≢◌, ◌≤◌, ◌⊎◌, inl, inr, ⊎_elim, refl, arith}
use Rattle.lattice.specs.Limits.{largest_side, most_tiles}
use Rattle.lattice.specs.declared.refusal.Refusal.{Refusal}
use Rattle.lattice.specs.declared.refusal.Refusal.TheVariants.{BadCapacity, BadSide, Device, NoMemory, TooSmall}
use Rattle.page_codec.specs.Sizes.{sectors_asked}
use Rattle.store.specs.Formatted.{format_2}
use Rattle.engine.specs.State.{fresh}
use Rattle.memory_store.proofs.in_memory.store_in_memory.Goals as goal

pub returns-in-Ok-open-clause-fresh : goal.returns-in-Ok-open-clause-fresh
returns-in-Ok-open-clause-fresh c =
    let at = c.in-Ok-open.ensures.at tt c.args.side c.args.capacity (fresh c.args.side) (fresh c.args.side) (λ image may. inl (c.in_ok-format.ensures.formatted tt image may)) in
    ⊎_elim (λ is. is) (λ is. is) at.1.1

pub returns-in-Ok-open-clause-side : goal.returns-in-Ok-open-clause-side
returns-in-Ok-open-clause-side c =
    (c.in-Ok-open.ensures.at tt c.args.side c.args.capacity (fresh c.args.side) (fresh c.args.side) (λ image may. inl (c.in_ok-format.ensures.formatted tt image may))).0

pub returns-in-Ok-open-clause-capacity : goal.returns-in-Ok-open-clause-capacity
returns-in-Ok-open-clause-capacity c =
    (c.in-Ok-open.ensures.at tt c.args.side c.args.capacity (fresh c.args.side) (fresh c.args.side) (λ image may. inl (c.in_ok-format.ensures.formatted tt image may))).1.0

pub returns-in-Err-clause-sure : goal.returns-in-Err-clause-sure
returns-in-Err-clause-sure c low high least most room =
    c.in-Err.ensures.sure tt c.args.side c.args.capacity (fresh c.args.side) (fresh c.args.side) (λ image may. inl (c.in_ok-format.ensures.formatted tt image may))

not_sizes : (r : Refusal) → (r ≡ Device) ⊎ (r ≡ NoMemory) → (r ≢ BadSide) × (r ≢ BadCapacity) × (r ≢ TooSmall)
not_sizes r (inl is) = (λ told. absurd (cc), λ told. absurd (cc), λ told. absurd (cc))
not_sizes r (inr is) = (λ told. absurd (cc), λ told. absurd (cc), λ told. absurd (cc))

pub returns-in-Err-clause-bad_side : goal.returns-in-Err-clause-bad_side
returns-in-Err-clause-bad_side c =
    let why = c.in-Err.ensures.sure tt c.args.side c.args.capacity (fresh c.args.side) (fresh c.args.side) (λ image may. inl (c.in_ok-format.ensures.formatted tt image may)) in
    let format = c.in_ok-wanted.ensures.good.0 refl in
    let low : 3 ≤ c.args.side = format.side_low in
    let high : c.args.side ≤ largest_side = format.side_high in (
      λ told. absurd ((not_sizes c.in-Err.not_opened.refusal why).0 (cc)),
      λ out. absurd (⊎_elim (λ below. omega (arith, below, low)) (λ above. omega (arith, above, high)) out),
    )

pub returns-in-Err-clause-bad_capacity : goal.returns-in-Err-clause-bad_capacity
returns-in-Err-clause-bad_capacity c =
    let why = c.in-Err.ensures.sure tt c.args.side c.args.capacity (fresh c.args.side) (fresh c.args.side) (λ image may. inl (c.in_ok-format.ensures.formatted tt image may)) in
    let format = c.in_ok-wanted.ensures.good.0 refl in
    let low : 1 ≤ c.args.capacity = format.capacity_low in
    let high : c.args.capacity ≤ most_tiles = format.capacity_high in (
      λ told. absurd ((not_sizes c.in-Err.not_opened.refusal why).1 (cc)),
      λ out. absurd (⊎_elim (λ below. omega (arith, below, low)) (λ above. omega (arith, above, high)) out.2),
    )

pub returns-in-Err-clause-too_small : goal.returns-in-Err-clause-too_small
returns-in-Err-clause-too_small c =
    let why = c.in-Err.ensures.sure tt c.args.side c.args.capacity (fresh c.args.side) (fresh c.args.side) (λ image may. inl (c.in_ok-format.ensures.formatted tt image may)) in
    let room : sectors_asked (format_2 c.args.side c.args.capacity) ≤ c.args.sectors = search rules in (
      λ told. absurd ((not_sizes c.in-Err.not_opened.refusal why).2 (cc)),
      λ small. absurd (let less = small.4 in omega (arith, less, room)),
    )
