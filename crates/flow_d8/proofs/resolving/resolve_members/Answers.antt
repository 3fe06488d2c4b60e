use Rattle.flow_d8.proofs.Prelude.{AreLaid, AreMarked, CrossesFlat, IsMember, IsTold, LiesInside, ℕ, arith, length, slice_index_or, subst, sym}
use Rattle.water.specs.declared.flow.Flow.TheVariants.{Unknown}
use Rattle.flow_d8.specs.Tiles.{place_of, by_of}
use Rattle.flow_d8.proofs.Waves.Beginning.{marked, seed_member, connected, was_member}
use Rattle.flow_d8.proofs.Sayings.Said.{inside_of, told_inside, named_told, told_is}
use Rattle.flow_d8.proofs.Waves.Runs.{flat_small}
use Rattle.flow_d8.proofs.Samples.TilePlaces.{laid}
use Rattle.flow_d8.proofs.resolving.resolve_members.Goals as goal

pub returns-in_err-spread-clause-facts : goal.returns-in_err-spread-clause-facts
returns-in_err-spread-clause-facts c t level full so =
    let tiles = c.args.tiles.now in
    let laid_out : AreLaid (by_of tiles) (length c.args.flows.now) (place_of tiles) = subst (λ n. AreLaid (by_of tiles) n (place_of tiles)) (sym c.requires.tiles) (laid tiles c.tiles-valid.ensures.valid) in
    c.in_err-spread.ensures.facts t level (place_of tiles) full laid_out so

pub returns-clause-facts : goal.returns-clause-facts
returns-clause-facts c t level full so =
    let tiles = c.args.tiles.now in
    let laid_out : AreLaid (by_of tiles) (length c.args.flows.now) (place_of tiles) = subst (λ n. AreLaid (by_of tiles) n (place_of tiles)) (sym c.requires.tiles) (laid tiles c.tiles-valid.ensures.valid) in
    c.tell.ensures.facts t level (c.in_ok-spread.ensures.facts t level (place_of tiles) full laid_out so)

pub returns-clause-resolved : goal.returns-clause-resolved
returns-clause-resolved c n k e joins sample flat t level full so j crosses =
    let tiles = c.args.tiles.now in
    let place = place_of tiles in
    let flows = c.args.flows.now in
    let spread = c.spread.new.flows in
    let marks = c.args.marks.now in
    let runs = c.args.runs.now in
    let new = c.first_wave.new.marks in
    let wave = c.in_ok-wave.wave.items in
    let is = c.requires.collected in
    let valid = c.tiles-valid.ensures.valid in
    let first = c.in_ok-wave.ensures.first in
    let laid_out : AreLaid (by_of tiles) (length flows) place = subst (λ m. AreLaid (by_of tiles) m place) (sym c.requires.tiles) (laid tiles c.tiles-valid.ensures.valid) in
    let by_spread = c.in_ok-spread.ensures in
    let facts = by_spread.facts t level place full laid_out so in
    let marked_new : AreMarked flows (by_of tiles) new = marked tiles valid flows c.requires.tiles marks runs c.args.seed new wave is first in
    let settled = connected flows (by_of tiles) new marked_new c.args.seed (seed_member tiles valid flows c.requires.tiles marks runs c.args.seed new wave is first) n k joins in
    let lies_e : LiesInside t level (place k) = subst (LiesInside t level) sample.here (inside_of t level (place e) (slice_index_or flows e Unknown) flat (so e)) in
    let member : IsMember new k = settled.member (told_inside t level (place k) (slice_index_or flows k Unknown) settled.known (so k) lies_e.ground lies_e.inside) in
    let told_at : (m : ℕ) → IsMember new m → CrossesFlat t level (place m) j → IsTold (slice_index_or spread m Unknown) =
    λ m inside crosses_m.
    let name = by_spread.resolved m inside t level place full laid_out so j crosses_m in
    let lies : LiesInside t level (place m) = inside_of t level (place m) (slice_index_or flows m Unknown) (marked_new.flat m inside) (so m) in
    named_told t level (place m) (slice_index_or spread m Unknown) name.0 name.1 (facts m) lies in
    let covers = is.found.listed k (was_member tiles valid flows c.requires.tiles marks runs c.args.seed new wave is first k member) in
    let told : IsTold (slice_index_or c.tell.new.flows e Unknown) =
    c.tell.ensures.twins k e covers (told_at k member crosses) sample (by_spread.tells.flat e flat) in
    told_is t level (place e) (slice_index_or c.tell.new.flows e Unknown) told (c.tell.ensures.facts t level facts e)

pub spread-requires-clause-members : goal.spread-requires-clause-members
spread-requires-clause-members c = marked c.args.tiles.now c.tiles-valid.ensures.valid c.args.flows.now c.requires.tiles c.args.marks.now c.args.runs.now c.args.seed c.first_wave.new.marks c.in_ok-wave.wave.items c.requires.collected c.in_ok-wave.ensures.first

pub tell-requires-clause-small : goal.tell-requires-clause-small
tell-requires-clause-small c k covers = omega (arith, c.in_ok-spread.ensures.tells.whole, flat_small c.args.flows.now k (c.requires.collected.found.flat k (c.requires.collected.found.members k covers)))
