use Rattle.cow_tree.proofs.Prelude.{IsSomeAnd, List, Mosaic, Option, StoredTile, ℕ, ℤ, ap, arith, length, samples_of, samples_of_plane, slice_range, staged_in, subst, sym, take_all, tile_in, ◌+◌, ◌-◌, ◌∙◌, ◌≡◌, ◌≤◌}
use Rattle.cow_tree.specs.Reading.{read_again}
use Rattle.cow_tree.proofs.Listed.Adding.{contains-map}
use Rattle.cow_tree.proofs.Listed.Due.{located_tile}
use Rattle.cow_tree.proofs.SampleReads.{samples_are, read_further, length_further}
use Rattle.cow_tree.proofs.TreeReads.{was_readable, same_mosaic}
use Rattle.cow_tree.proofs.samples.TreeSamples.read_samples.Goals as goal

pub loop-done-preserved : goal.loop-done-preserved
loop-done-preserved g c =
    let old = c.args.self.now in
    let mid = c.loop-done.self in
    let new = c.read_part.new.tree in
    let kept = c.in_ok-read_part.ensures.reads.keeps in
    let end : c.min-end.result ≤ length c.loop-done.into = omega arith in
    let le : c.loop-done.done ≤ c.min-end.result = omega arith in
    let long : length c.read_part.new.into ≡ c.min-end.result - c.loop-done.done = omega arith in
    let whole = length_further c.loop-done.into c.read_part.new.into c.loop-done.done c.min-end.result le end long in
    record {
      reads = read_again g.D.Disk old mid new c.loop-done.invariant.reads kept;
      works = λ _. c.in_ok-read_part.ensures.reads.not_failed;
      as_many = whole ∙ c.loop-done.invariant.as_many;
      within = omega (arith, whole, end);
      read = λ readable all is.
          let mid_readable = was_readable g.D.Disk mid new kept readable in
          read_further all c.loop-done.into c.read_part.new.into c.args.first c.loop-done.done c.min-end.result le (omega (arith, le, end)) long
          (c.loop-done.invariant.read mid_readable all is)
          (c.in_ok-read_part.ensures.samples readable all (ap (λ (m : Mosaic). samples_of m c.args.c) (same_mosaic g.D.Disk old mid c.loop-done.invariant.reads mid_readable.honest) ∙ is));
    }

pub returns-clause-samples : goal.returns-clause-samples
returns-clause-samples g c readable =
    let old = c.args.self.now in
    let was = was_readable g.D.Disk old c.loop-done.self c.loop-done.invariant.reads readable in
    let seen = g.D.Disk.seen old.roots.disk in
    let found = located_tile c.args.c old.page_map.staged c.requires.present in
    let among = contains-map (tile_in seen) old.page_map.staged found.0 found.1.0 in
    let t : StoredTile = tile_in seen found.0 in
    let all = samples_are old.roots.root.side old.sinks.points (staged_in g.D.Disk old) c.args.c t was.valid among found.1.1 in
    let done : c.loop-done.done ≡ length c.loop-done.into = omega arith in
    subst (λ (o : Option (List ℤ)). IsSomeAnd o (λ l. slice_range l c.args.first (c.args.first + length c.loop-done.into) ≡ c.loop-done.into)) (sym all)
    (subst (λ (n : ℕ). slice_range (samples_of_plane old.roots.root.side t.heights) c.args.first (c.args.first + n) ≡ c.loop-done.into) done
    (c.loop-done.invariant.read readable (samples_of_plane old.roots.root.side t.heights) all ∙ take_all c.loop-done.done c.loop-done.into (omega arith)))
