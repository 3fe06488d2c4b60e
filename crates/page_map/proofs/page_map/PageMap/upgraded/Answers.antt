use Rattle.page_map.proofs.Prelude.{AllByRecursion, AreTaken, Entry, Err, Format, IsSound, IsWholeTile, KeepsPageRule, List, One, PageMapValue, ℕ, [], ap, append-nil, arith, committed_tiles, index_pages_of, len, length, map, sectors_asked, staged_tiles, subst, sym, tile_at, upgraded, ⊎_elim, ◌*◌, ◌++◌, ◌+◌, ◌∙◌, ◌∷◌, ◌≡◌, ◌≤◌}
use Rattle.page_map.proofs.Refused.{ended_with}
use Rattle.page_map.specs.Upgraded.{IsUpgraded, data_of, listings}
use Rattle.page_map.proofs.Clean.{none_fresh}
use Rattle.page_map.proofs.Room.{room_to_upgrade}
use Rattle.page_map.proofs.UpgradedTiles.{all_before, data_more, fresh_listings, left_after, room_below, room_next, rule, taken_more}
use Rattle.page_map.proofs.page_map.PageMap.upgraded.Goals as goal

pub upgraded_planes-requires-clause-room : goal.upgraded_planes-requires-clause-room
upgraded_planes-requires-clause-room c =
    let format = c.self.inside.format in
    let entries = c.self.inside.entries.entries in
    let free = c.self.inside.free in
    let clean : staged_tiles entries ≡ committed_tiles entries = subst (λ (v : PageMapValue). v.staged ≡ v.committed) (sym c.self.view_is) c.requires.clean in
    let made = c.loop-corner.page_map.committed in
    let alike = subst (λ (l : List Entry). map data_of made ++ map data_of (committed_tiles l) ≡ map data_of (committed_tiles entries)) c.in-Some.ensures.steps c.loop-corner.invariant.alike in
    let first : format.version ≡ One = subst (λ (v : PageMapValue). v.format.version ≡ One) (sym c.self.view_is) c.requires.first in
    let size : sectors_asked (upgraded format) ≤ free.range.sectors = subst (λ (v : PageMapValue). sectors_asked (upgraded v.format) ≤ v.sectors) (sym c.self.view_is) c.requires.room in
    let side : 3 ≤ format.side = subst (λ (f : Format). 3 ≤ f.side) c.upgraded-format.ensures c.side-side.ensures.rules.side_low in
    let all = room_to_upgrade format entries free c.self.invariant (none_fresh format entries free c.self.invariant clean) first side size in
    room_next format entries free c.self.invariant clean made c.in-Some.corner.now c.in-Some.entry.now c.next.new.self alike c.in-Some-committed.heights c.in-Some-committed.is (3 * (1 + index_pages_of c.upgraded-format.result)) (len c.loop-corner.free.free)
    (subst (λ (f : Format). 3 * (1 + index_pages_of f) * length (committed_tiles entries) ≤ len free.free) (sym c.upgraded-format.ensures) all) c.loop-corner.invariant.left

pub load-requires-clause-after : goal.load-requires-clause-after
load-requires-clause-after c =
    let format = c.self.inside.format in
    let entries = c.self.inside.entries.entries in
    let free = c.self.inside.free in
    let clean : staged_tiles entries ≡ committed_tiles entries = subst (λ (v : PageMapValue). v.staged ≡ v.committed) (sym c.self.view_is) c.requires.clean in
    let made = c.loop-corner.page_map.committed in
    let alike = subst (λ (l : List Entry). map data_of made ++ map data_of (committed_tiles l) ≡ map data_of (committed_tiles entries)) c.in-Some.ensures.steps c.loop-corner.invariant.alike in
    all_before format entries free c.self.invariant clean made c.in-Some.corner.now c.in-Some.entry.now c.next.new.self alike c.in-Some-committed.heights c.in-Some-committed.is

pub load-requires-clause-room : goal.load-requires-clause-room
load-requires-clause-room c =
    let format = c.self.inside.format in
    let entries = c.self.inside.entries.entries in
    let free = c.self.inside.free in
    let clean : staged_tiles entries ≡ committed_tiles entries = subst (λ (v : PageMapValue). v.staged ≡ v.committed) (sym c.self.view_is) c.requires.clean in
    let made = c.loop-corner.page_map.committed in
    let alike = subst (λ (l : List Entry). map data_of made ++ map data_of (committed_tiles l) ≡ map data_of (committed_tiles entries)) c.in-Some.ensures.steps c.loop-corner.invariant.alike in
    let below = room_below format entries free c.self.invariant clean made c.in-Some.corner.now c.in-Some.entry.now c.next.new.self alike c.in-Some-committed.heights c.in-Some-committed.is in
    let capacity = ap (λ (f : Format). f.capacity) (c.loop-corner.invariant.format ∙ c.upgraded-format.ensures) in
    omega (arith, below, capacity, c.self.invariant.committed_room)

pub load-requires-clause-whole : goal.load-requires-clause-whole
load-requires-clause-whole c =
    subst (λ (f : Format). IsWholeTile f (tile_at c.in-Some.corner.now c.in_ok-planes.planes)) (sym c.loop-corner.invariant.format) (c.in_ok-planes.ensures.whole c.in-Some.corner.now)

pub returns-in_err-page_map-2-clause-refused : goal.returns-in_err-page_map-2-clause-refused
returns-in_err-page_map-2-clause-refused c =
    let format = c.self.inside.format in
    let entries = c.self.inside.entries.entries in
    let free = c.self.inside.free in
    let clean : staged_tiles entries ≡ committed_tiles entries = subst (λ (v : PageMapValue). v.staged ≡ v.committed) (sym c.self.view_is) c.requires.clean in
    let made = c.loop-corner.page_map.committed in
    let alike = subst (λ (l : List Entry). map data_of made ++ map data_of (committed_tiles l) ≡ map data_of (committed_tiles entries)) c.in-Some.ensures.steps c.loop-corner.invariant.alike in
    let keeps = rule format entries free c.self.invariant clean made c.in-Some.corner.now c.in-Some.entry.now c.next.new.self alike c.in-Some-committed.heights c.in-Some-committed.is
    c.in_ok-planes.planes (c.in_ok-planes.ensures.same_pages c.in-Some.corner.now) c.loop-corner.free c.upgraded_planes.new.free c.loop-corner.invariant.taken c.in_ok-planes.ensures.taken in
    let ended : c.from_residual-in_err-page_map-2.result ≡ Err c.in_err-page_map-2.field-0.0 = ended_with c.from_residual-in_err-page_map-2.result c.in_err-page_map-2.field-0.0 c.from_residual-in_err-page_map-2.ensures.1 in
    rw ended
    (⊎_elim (λ memory. memory)
    (λ damaged. absurd (damaged.1 (subst (λ (n : ℕ). KeepsPageRule n (made ++ tile_at c.in-Some.corner.now c.in_ok-planes.planes ∷ [])) (sym c.loop-corner.invariant.sectors) keeps)))
    c.in_err-page_map-2.ensures.refused)

pub loop-corner-preserved-in-Some-committed : goal.loop-corner-preserved-in-Some-committed
loop-corner-preserved-in-Some-committed c =
    let format = c.self.inside.format in
    let entries = c.self.inside.entries.entries in
    let free = c.self.inside.free in
    let clean : staged_tiles entries ≡ committed_tiles entries = subst (λ (v : PageMapValue). v.staged ≡ v.committed) (sym c.self.view_is) c.requires.clean in
    let made = c.loop-corner.page_map.committed in
    let alike = subst (λ (l : List Entry). map data_of made ++ map data_of (committed_tiles l) ≡ map data_of (committed_tiles entries)) c.in-Some.ensures.steps c.loop-corner.invariant.alike in
    let here = c.loop-corner.invariant in
    let new = c.in_ok-planes.planes in
    let same = c.in_ok-planes.ensures.same_pages c.in-Some.corner.now in
    let loaded = c.in_ok-page_map-2.ensures.loaded in
    record {
      rules = c.in_ok-page_map-2.ensures.rules;
      sectors = ap (λ (x : PageMapValue). x.sectors) loaded ∙ here.sectors;
      format = ap (λ (x : PageMapValue). x.format) loaded ∙ here.format;
      clean = ap (λ (x : PageMapValue). x.staged) loaded ∙ sym (ap (λ (x : PageMapValue). x.committed) loaded);
      alike = ap (λ (x : PageMapValue). map data_of x.committed ++ map data_of (committed_tiles c.next.new.self)) loaded ∙ data_more format entries free c.self.invariant clean made c.in-Some.corner.now c.in-Some.entry.now c.next.new.self alike c.in-Some-committed.heights c.in-Some-committed.is new same;
      sound = (subst (λ (l : List Entry). AllByRecursion (IsSound format) l) c.in-Some.ensures.steps here.sound).1;
      taken = subst (λ (x : PageMapValue). AreTaken (listings x.committed) free c.upgraded_planes.new.free) (sym loaded)
          (taken_more format entries free c.self.invariant clean made c.in-Some.corner.now c.in-Some.entry.now c.next.new.self alike c.in-Some-committed.heights c.in-Some-committed.is new same c.loop-corner.free c.upgraded_planes.new.free here.taken c.in_ok-planes.ensures.taken);
      left = subst (λ (x : PageMapValue). len free.free ≤ len c.upgraded_planes.new.free.free + 3 * (1 + index_pages_of c.upgraded-format.result) * length x.committed) (sym loaded)
          (left_after format entries free c.self.invariant clean made c.in-Some.corner.now c.in-Some.entry.now c.next.new.self alike c.in-Some-committed.heights c.in-Some-committed.is new same (3 * (1 + index_pages_of c.upgraded-format.result)) (len c.loop-corner.free.free) (len c.upgraded_planes.new.free.free) here.left c.in_ok-planes.ensures.left);
    }

pub returns-clause-upgraded : goal.returns-clause-upgraded
returns-clause-upgraded c =
    let format = c.self.inside.format in
    let entries = c.self.inside.entries.entries in
    let free = c.self.inside.free in
    let clean : staged_tiles entries ≡ committed_tiles entries = subst (λ (v : PageMapValue). v.staged ≡ v.committed) (sym c.self.view_is) c.requires.clean in
    let here = c.loop-corner.invariant in
    let made = c.loop-corner.page_map.committed in
    subst (λ (v : PageMapValue). IsUpgraded v c.loop-corner.page_map) c.self.view_is
    (record {
      sectors = here.sectors;
      format = here.format ∙ c.upgraded-format.ensures;
      clean = here.clean;
      stays = sym (append-nil (map data_of made)) ∙ subst (λ (l : List Entry). map data_of made ++ map data_of (committed_tiles l) ≡ map data_of (committed_tiles entries)) c.in-None.ensures.steps.0 here.alike;
      fresh = fresh_listings format entries free c.self.invariant clean made c.loop-corner.free here.taken;
    })
