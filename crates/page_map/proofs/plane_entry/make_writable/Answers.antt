use Rattle.page_map.proofs.Prelude.{arith, false≢true, get_or, length, pages_behind, sym, ◌<◌, ◌∙◌, ◌≡◌, ◌≢◌}
use Rattle.page_map.proofs.Times.{differing-less}
use Rattle.page_map.proofs.Owning.{owned_already, owned_now, room_after}
use Rattle.page_map.proofs.plane_entry.make_writable.Goals as goal

pub returns-then-not-stands_at-clause-owned : goal.returns-then-not-stands_at-clause-owned
returns-then-not-stands_at-clause-owned c =
    let apart : c.args.at < length c.args.committed.now → get_or (pages_behind c.args.location.now) c.args.at 0 ≢ get_or c.args.committed.now c.args.at 0 =
    λ within same. false≢true (sym c.if-not-stands_at.true ∙ c.stands_at.ensures.1 (within, rw c.behind.ensures (sym same))) in
    rw c.behind.ensures (owned_already c.args.committed.now (pages_behind c.args.location.now) c.args.at c.args.free.now c.requires.index apart)

pub returns-clause-owned : goal.returns-clause-owned
returns-clause-owned c =
    let there = c.stands_at.ensures.0 c.if-not-stands_at.false in
    let same : get_or (pages_behind c.args.location.now) c.args.at 0 ≡ get_or c.args.committed.now c.args.at 0 = rw (← c.behind.ensures) (sym there.1) in
    rw c.set_behind.ensures.moved
    (owned_now c.args.committed.now (pages_behind c.args.location.now) c.args.at c.take-page.result c.args.free.now c.take-page.new.self c.requires.index there.0 same c.requires.apart c.take-page.ensures.taken)

pub take-page-requires : goal.take-page-requires
take-page-requires c =
    let there = c.stands_at.ensures.0 c.if-not-stands_at.false in
    let same : get_or (pages_behind c.args.location.now) c.args.at 0 ≡ get_or c.args.committed.now c.args.at 0 = rw (← c.behind.ensures) (sym there.1) in
    omega (arith, c.requires.room, differing-less (pages_behind c.args.location.now) c.args.committed.now c.args.at c.requires.index there.0 same)

pub returns-clause-left : goal.returns-clause-left
returns-clause-left c =
    let there = c.stands_at.ensures.0 c.if-not-stands_at.false in
    let same : get_or (pages_behind c.args.location.now) c.args.at 0 ≡ get_or c.args.committed.now c.args.at 0 = rw (← c.behind.ensures) (sym there.1) in
    rw c.set_behind.ensures.moved
    (room_after c.args.committed.now (pages_behind c.args.location.now) c.args.at c.take-page.result c.args.free.now c.take-page.new.self c.requires.index there.0 same c.requires.apart
    c.take-page.ensures.taken c.take-page.ensures.left c.requires.room)
