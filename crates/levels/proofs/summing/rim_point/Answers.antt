use Rattle.levels.proofs.Prelude.{AreRemembered, Decides-int_eq, Err, IsFlooded, IsRimPoint, List, Mosaic, OnlyReads, Option, Refusal, RimPoint, SFits, ℕ, ℤ, ap, err_from_is_err_and, false≢true, get_or_default, height_of, inl, inr, int_eq, is_outlet, length, metres, of_z, or_cases, or_parts, point_of, pos, rules, slice_index_or, subst, sym, to_z, to_z-of_z, true, void, w16, ◌*◌, ◌<◌, ◌||◌, ◌∙◌, ◌≡◌}
use Rattle.catalogue.proofs.Reading.{reads_as, reads_on, reads_refused}
use Rattle.levels.proofs.Tiles.Summed.{rim_height}
use Rattle.levels.proofs.summing.rim_point.Goals as goal

-- reading a level gives the level in the list
same_level : (read levels : List ℤ) (e : ℕ) → e < length read → read ≡ levels → SFits w16 (slice_index_or read e (pos 0)) → to_z w16 (of_z w16 (slice_index_or read e (pos 0))) ≡ slice_index_or levels e void
same_level read levels e small same fits = to_z-of_z w16 (slice_index_or read e (pos 0)) fits ∙ (get_or_default read e (pos 0) void small ∙ ap (λ (l : List ℤ). slice_index_or l e void) same)

pub returns-then-not-branch-clause-point : goal.returns-then-not-branch-clause-point
returns-then-not-branch-clause-point g c honest _ =
    let a = c.args.samples.now in
    let m = g.S.Samples.mosaic a in
    let e = c.rim_index-index.result in
    let rim = c.rim_index-index.ensures in
    let seen = c.in_ok-is_rim_height.ensures in
    let side : c.side-side.result ≡ m.side = c.side-side.ensures ∙ (c.requires.labelled_side ∙ sym (g.met.S.Samples.same_side a (seen.reads.honest honest))) in
    let point : c.point_at-point.result ≡ point_of m.side c.args.tile.now.corner e = c.point_at-point.ensures.value ∙ ap (λ n. point_of n c.args.tile.now.corner e) side in
    let levels = c.levels.ensures in
    let small : e < length c.levels.result.now = subst (λ k. e < k) (sym (ap length levels.value ∙ (levels.whole ∙ ap (λ n. n * n) (sym c.side-side.ensures)))) rim.small in
    let fits : SFits w16 (slice_index_or c.levels.result.now e (pos 0)) = search rules in
    let level = same_level c.levels.result.now c.args.tile.now.labelled.now.levels e small levels.value fits in
    record {
      number = c.args.number;
      index = e;
      rim = subst (λ n. IsRimPoint n c.args.number e) side (record { small = rim.small; rim = rim.rim; number = rim.number });
      differs = λ same.
          let other = or_parts c.args.is_flooded (int_eq _ (metres (height_of m c.point_at-point.result))) (sym (seen.value honest) ∙ c.if-not-branch.true) in
          false≢true (sym other.1 ∙ (Decides-int_eq _ _).1 (level ∙ (same ∙ ap (λ p. metres (height_of m p)) (sym point))));
    }

pub returns-in_err-is_outlet-clause-reads : goal.returns-in_err-is_outlet-clause-reads
returns-in_err-is_outlet-clause-reads g c =
    let a = c.args.samples.now in
    let b = c.is_rim_height.new.samples in
    let d = c.is_tile_outlet.new.samples in
    let p = err_from_is_err_and c.from_residual-in_err-is_outlet.result c.from_residual-in_err-is_outlet.ensures.1 in
    rw p.1 (subst (λ (r : Refusal). OnlyReads {T = Option RimPoint} g.S.Samples a d (Err r)) (sym p.2)
    (reads_on g.S.Samples g.met.S.Samples.keeps_on a b d c.in_ok-is_rim_height.field-0 (Err c.in_err-is_outlet.field-0.0) c.in_ok-is_rim_height.ensures.reads
    (reads_refused g.S.Samples b d c.in_err-is_outlet.field-0.0 c.in_err-is_outlet.ensures.reads)))

pub returns-clause-point : goal.returns-clause-point
returns-clause-point g c honest flooded =
    let a = c.args.samples.now in
    let m = g.S.Samples.mosaic a in
    let e = c.rim_index-index.result in
    let rim = c.rim_index-index.ensures in
    let seen = c.in_ok-is_rim_height.ensures.reads in
    let mid = c.in_ok-is_outlet.ensures.reads.honest honest in
    let side : c.side-side.result ≡ m.side = c.side-side.ensures ∙ (c.requires.labelled_side ∙ sym (g.met.S.Samples.same_side a (seen.honest mid))) in
    let point : c.point_at-point.result ≡ point_of m.side c.args.tile.now.corner e = c.point_at-point.ensures.value ∙ ap (λ n. point_of n c.args.tile.now.corner e) side in
    let levels = c.levels.ensures in
    let small : e < length c.levels.result.now = subst (λ k. e < k) (sym (ap length levels.value ∙ (levels.whole ∙ ap (λ n. n * n) (sym c.side-side.ensures)))) rim.small in
    let fits : SFits w16 (slice_index_or c.levels.result.now e (pos 0)) = search rules in
    let level = same_level c.levels.result.now c.args.tile.now.labelled.now.levels e small levels.value fits in
    let on : IsRimPoint m.side c.args.number e = subst (λ n. IsRimPoint n c.args.number e) side (record { small = rim.small; rim = rim.rim; number = rim.number }) in
    let seen_true : c.args.is_flooded || int_eq (to_z w16 (of_z w16 (slice_index_or c.levels.result.now e (pos 0)))) (metres (height_of m c.point_at-point.result)) ≡ true = sym (c.in_ok-is_rim_height.ensures.value mid) ∙ c.if-not-branch.false in
    record {
      index = e;
      number = on;
      height = elim (or_cases c.args.is_flooded (int_eq (to_z w16 (of_z w16 (slice_index_or c.levels.result.now e (pos 0)))) (metres (height_of m c.point_at-point.result))) seen_true) [
        | inl sure ↦ level ∙ rim_height m c.args.tile.now.corner c.args.tile.now.labelled.now flooded c.args.number e on
        | inr same ↦ (Decides-int_eq _ _).0 same ∙ ap (λ p. metres (height_of m p)) point
      ];
      label = search rules;
      outlet = c.in_ok-is_outlet.ensures.value honest (subst (λ (s : Mosaic). IsFlooded s c.args.tile.now.corner c.args.tile.now.labelled.now) (sym (seen.mosaic mid)) flooded) ∙ (ap (λ (s : Mosaic). is_outlet s c.point_at-point.result) (seen.mosaic mid) ∙ ap (is_outlet m) point);
    }

pub returns-clause-reads : goal.returns-clause-reads
returns-clause-reads g c =
    reads_on g.S.Samples g.met.S.Samples.keeps_on c.args.samples.now c.is_rim_height.new.samples c.is_tile_outlet.new.samples c.in_ok-is_rim_height.field-0 _ c.in_ok-is_rim_height.ensures.reads
    (reads_as g.S.Samples c.is_rim_height.new.samples c.is_tile_outlet.new.samples c.in_ok-is_outlet.is_outlet _ c.in_ok-is_outlet.ensures.reads)

pub returns-then-not-branch-clause-ground_cache : goal.returns-then-not-branch-clause-ground_cache
returns-then-not-branch-clause-ground_cache g c honest =
    let reads = c.in_ok-is_rim_height.ensures.reads in
    subst (λ (m : Mosaic). AreRemembered m c.args.ground_cache.now) (sym (reads.mosaic honest)) (c.requires.ground_cache (reads.honest honest))

pub is_tile_outlet-requires-clause-ground_cache : goal.is_tile_outlet-requires-clause-ground_cache
is_tile_outlet-requires-clause-ground_cache g c honest =
    let reads = c.in_ok-is_rim_height.ensures.reads in
    subst (λ (m : Mosaic). AreRemembered m c.args.ground_cache.now) (sym (reads.mosaic honest)) (c.requires.ground_cache (reads.honest honest))
