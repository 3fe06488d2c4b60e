use Rattle.std.proofs.Common.{◌≡◌, ◌<◌, ℕ, ℤ, pos, List, [], ◌∷◌, length, get_or, refl, sym, subst, arith, rules}
use Rattle.std.proofs.lemmas.Int.{to_z-of_z}
use mir.Syntax.{w16}
use mir.Val.{SFits}
use Rattle.cow_tree.proofs.Prelude.{StoredTile, mosaic_of, samples_in, samples_of_plane, staged_in, tile_at_corner, tile_in}
use Rattle.catalogue.specs.Reading.{IsSampleOf}
use Rattle.cow_tree.proofs.Listed.Adding.{contains-map}
use Rattle.cow_tree.proofs.Listed.Due.{located_tile}
use Rattle.cow_tree.proofs.SampleReads.{samples_are, as_many, part_read, one_sample}
use Rattle.cow_tree.proofs.TreeReads.{was_readable}
use Rattle.cow_tree.proofs.samples.TreeSamples.sample.Goals as goal

first_of : (l : List ℤ) → 0 < length l → get_or l 0 (pos 0) ≡ get_or l 0 (get_or l 0 (pos 0))
first_of [] some = absurd (omega (arith, some))
first_of (x ∷ xs) some = refl

pub read_two-requires-clause-held : goal.read_two-requires-clause-held
read_two-requires-clause-held g c = tile_at_corner c.args.c c.args.self.now.page_map.staged c.requires.present

pub returns-clause-sample : goal.returns-clause-sample
returns-clause-sample g c readable =
    let old = c.args.self.now in
    let was = was_readable g.D.Disk old c.read_two.new.self c.in_ok-read_two.ensures.reads.keeps readable in
    let seen = g.D.Disk.seen old.roots.disk in
    let found = located_tile c.args.c old.page_map.staged c.requires.present in
    let among = contains-map (tile_in seen) old.page_map.staged found.0 found.1.0 in
    let t : StoredTile = tile_in seen found.0 in
    let all = samples_are old.roots.root.side old.sinks.points (staged_in g.D.Disk old) c.args.c t was.valid among found.1.1 in
    let many = as_many old.roots.root.side old.sinks.points (staged_in g.D.Disk old) c.args.c t was.valid among found.1.1 in
    let into = c.read_samples.new.samples in
    let held = c.in_ok-read_two.ensures.two readable.honest in
    let s : ℤ = get_or into 0 (pos 0) in
    let fits : SFits w16 s = search rules in
    subst (λ (x : ℤ). IsSampleOf (mosaic_of g.D.Disk old) c.args.c c.args.i x) (sym (to_z-of_z w16 s fits))
    (one_sample (mosaic_of g.D.Disk old) c.args.c (samples_of_plane old.roots.root.side t.heights) c.args.i into s all (omega (arith, many, c.requires.index)) (omega arith) (first_of into (omega arith))
    (part_read old.roots.root.side old.sinks.points (staged_in g.D.Disk old) c.args.c c.args.i 1 _ held.0 into was.valid was.pages
    (omega arith) (omega arith) (omega (arith, c.requires.index)) (omega arith) (subst (λ (l : List ℕ). into ≡ samples_in l) (sym held.1.1) c.read_samples.ensures) held.1.0
    (samples_of_plane old.roots.root.side t.heights) all))
