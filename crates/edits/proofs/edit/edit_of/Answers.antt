use Rattle.edits.proofs.Prelude.{Burn, Command, Corner, List, Patch, Point, Remove, Wall, ℤ, and_parts, ap, effect, goes_stale, holds_one, is_near_one, negsuc, of_z, patched, pos, rules, subst, sym, to_z, to_z-of_z, true, with_heights, without, ◌∙◌, ◌≡◌}
use Rattle.std.specs.Prelude.{Ok, All, Contains, int_le}
use mir.Syntax.{w16, w32}
use mir.Val.{SFits}
use Rattle.edits.proofs.EditStale.{stale_holders, stale_named, stale_voids}
use Rattle.edits.proofs.edit.edit_of.Goals as goal

height_fits : (h : ℤ) → int_le (negsuc 32766) h ≡ true → int_le h (pos 32767) ≡ true → SFits w16 h
height_fits h low high = search rules

pub returns-in_err-can_remove-in-Remove-clause-refused : goal.returns-in_err-can_remove-in-Remove-clause-refused
returns-in_err-can_remove-in-Remove-clause-refused g c = λ honest.
    let now = c.args.samples.now in
    let m = g.S.Samples.mosaic now in
    let told = c.in_err-can_remove-in-Remove.ensures.refused c.args.capacity m (g.met.S.Samples.same_corners now honest) in
    let same : Remove c.in-Remove.corner ≡ c.args.command.now = sym c.in-Remove.is in
    search (rules, told, same)

pub returns-in_ok-can_remove-in-Remove-clause-made : goal.returns-in_ok-can_remove-in-Remove-clause-made
returns-in_ok-can_remove-in-Remove-clause-made g c = λ honest.
    let now = c.args.samples.now in
    let m = g.S.Samples.mosaic now in
    subst (λ (k : Command). effect c.args.capacity m k ≡ Ok (without c.in-Remove.corner m)) (sym c.in-Remove.is)
    (c.in_ok-can_remove-in-Remove.ensures.accepted c.args.capacity m (g.met.S.Samples.same_corners now honest))

pub returns-in_ok-metres-in-Sink-clause-stale : goal.returns-in_ok-metres-in-Sink-clause-stale
returns-in_ok-metres-in-Sink-clause-stale g c = λ honest p.
    let old = c.args.samples.now in
    let m = g.S.Samples.mosaic old in
    let was = c.in_ok-metres-in-Sink.ensures.reads.honest honest in
    stale_holders m (g.S.Samples.side_of old) (g.S.Samples.corners old) (g.met.S.Samples.same_side old was) (g.met.S.Samples.same_corners old was) c.in-Sink.point p
    ∙ ap (λ (k : Command). goes_stale m k p) (sym c.in-Sink.is)

pub returns-in_ok-metres-in-Unsink-clause-stale : goal.returns-in_ok-metres-in-Unsink-clause-stale
returns-in_ok-metres-in-Unsink-clause-stale g c = λ honest p.
    let old = c.args.samples.now in
    let m = g.S.Samples.mosaic old in
    let was = c.in_ok-metres-in-Unsink.ensures.reads.honest honest in
    stale_holders m (g.S.Samples.side_of old) (g.S.Samples.corners old) (g.met.S.Samples.same_side old was) (g.met.S.Samples.same_corners old was) c.in-Unsink.point p
    ∙ ap (λ (k : Command). goes_stale m k p) (sym c.in-Unsink.is)

pub returns-in_err-tiles-in-Patch-clause-refused : goal.returns-in_err-tiles-in-Patch-clause-refused
returns-in_err-tiles-in-Patch-clause-refused g c = λ honest.
    let fits : SFits w32 c.in-Patch.height = search rules in
    let same : (Patch c.in-Patch.from c.in-Patch.to (to_z w32 (of_z w32 c.in-Patch.height))) ≡ c.args.command.now = ap (λ (d : ℤ). Patch c.in-Patch.from c.in-Patch.to d) (to_z-of_z w32 c.in-Patch.height fits) ∙ sym c.in-Patch.is in
    let told = c.in_err-tiles-in-Patch.ensures.refused c.args.capacity honest in
    search (rules, told, same)

pub returns-in_err-heights-in-Burn-clause-refused : goal.returns-in_err-heights-in-Burn-clause-refused
returns-in_err-heights-in-Burn-clause-refused g c = λ honest.
    let fits : SFits w32 c.in-Burn.depth = search rules in
    let same : (Burn (to_z w32 (of_z w32 c.in-Burn.depth)) c.in-Burn.points) ≡ c.args.command.now = ap (λ (d : ℤ). Burn d c.in-Burn.points) (to_z-of_z w32 c.in-Burn.depth fits) ∙ sym c.in-Burn.is in
    let told = c.in_err-heights-in-Burn.ensures.refused c.args.capacity honest in
    search (rules, told, same)

pub returns-in_err-heights-in-Wall-clause-refused : goal.returns-in_err-heights-in-Wall-clause-refused
returns-in_err-heights-in-Wall-clause-refused g c = λ honest.
    let fits : SFits w32 c.in-Wall.height = search rules in
    let same : (Wall (to_z w32 (of_z w32 c.in-Wall.height)) c.in-Wall.points) ≡ c.args.command.now = ap (λ (d : ℤ). Wall d c.in-Wall.points) (to_z-of_z w32 c.in-Wall.height fits) ∙ sym c.in-Wall.is in
    let told = c.in_err-heights-in-Wall.ensures.refused c.args.capacity honest in
    search (rules, told, same)

pub returns-in_ok-tiles-in-Patch-clause-made : goal.returns-in_ok-tiles-in-Patch-clause-made
returns-in_ok-tiles-in-Patch-clause-made g c = λ honest.
    let m = g.S.Samples.mosaic c.args.samples.now in
    let h = c.in-Patch.height in
    let fits : SFits w32 h = search rules in
    let kept : to_z w32 (of_z w32 h) ≡ h = to_z-of_z w32 h fits in
    let range = and_parts (int_le (negsuc 32766) (to_z w32 (of_z w32 h))) (int_le (to_z w32 (of_z w32 h)) (pos 32767)) c.in_ok-tiles-in-Patch.ensures.height in
    let low : int_le (negsuc 32766) h ≡ true = subst (λ z. int_le (negsuc 32766) z ≡ true) kept range.0 in
    let high : int_le h (pos 32767) ≡ true = subst (λ z. int_le z (pos 32767) ≡ true) kept range.1 in
    let small : SFits w16 h = height_fits h low high in
    let sample : to_z w16 (of_z w16 (to_z w32 (of_z w32 h))) ≡ to_z w32 (of_z w32 h) = ap (λ v. to_z w16 (of_z w16 v)) kept ∙ to_z-of_z w16 h small ∙ sym kept in
    let same : (Patch c.in-Patch.from c.in-Patch.to (to_z w32 (of_z w32 h))) ≡ c.args.command.now = ap (λ (d : ℤ). Patch c.in-Patch.from c.in-Patch.to d) kept ∙ sym c.in-Patch.is in
    subst (λ (k : Command). effect c.args.capacity m k ≡ Ok (patched c.in-Patch.from c.in-Patch.to (to_z w16 (of_z w16 (to_z w32 (of_z w32 h)))) m)) same
    (c.in_ok-tiles-in-Patch.ensures.made c.args.capacity honest ∙ ap (λ (s : ℤ). Ok (patched c.in-Patch.from c.in-Patch.to s m)) (sym sample))

pub returns-in_ok-tiles-in-Patch-clause-stale : goal.returns-in_ok-tiles-in-Patch-clause-stale
returns-in_ok-tiles-in-Patch-clause-stale g c = λ honest p.
    let old = c.args.samples.now in
    let m = g.S.Samples.mosaic old in
    let is = c.in_ok-tiles-in-Patch.ensures in
    let was = is.reads.honest honest in
    let tiles = c.in_ok-tiles-in-Patch.tiles.items in
    stale_voids m c.in-Patch.from c.in-Patch.to tiles (is.voids honest) (subst (λ (cs : List Corner). All (Contains cs) tiles) (sym (g.met.S.Samples.same_corners old was)) is.tiles.are.present) p
    ∙ ap (λ (k : Command). goes_stale m k p) (sym c.in-Patch.is)

pub returns-in_ok-heights-in-Burn-clause-made : goal.returns-in_ok-heights-in-Burn-clause-made
returns-in_ok-heights-in-Burn-clause-made g c = λ honest.
    let m = g.S.Samples.mosaic c.args.samples.now in
    let fits : SFits w32 c.in-Burn.depth = search rules in
    let same : (Burn (to_z w32 (of_z w32 c.in-Burn.depth)) c.in-Burn.points) ≡ c.args.command.now = ap (λ (d : ℤ). Burn d c.in-Burn.points) (to_z-of_z w32 c.in-Burn.depth fits) ∙ sym c.in-Burn.is in
    subst (λ (k : Command). effect c.args.capacity m k ≡ Ok (with_heights c.in_ok-heights-in-Burn.heights.items m)) same (c.in_ok-heights-in-Burn.ensures.made c.args.capacity honest)

pub returns-in_ok-heights-in-Wall-clause-made : goal.returns-in_ok-heights-in-Wall-clause-made
returns-in_ok-heights-in-Wall-clause-made g c = λ honest.
    let m = g.S.Samples.mosaic c.args.samples.now in
    let fits : SFits w32 c.in-Wall.height = search rules in
    let same : (Wall (to_z w32 (of_z w32 c.in-Wall.height)) c.in-Wall.points) ≡ c.args.command.now = ap (λ (d : ℤ). Wall d c.in-Wall.points) (to_z-of_z w32 c.in-Wall.height fits) ∙ sym c.in-Wall.is in
    subst (λ (k : Command). effect c.args.capacity m k ≡ Ok (with_heights c.in_ok-heights-in-Wall.heights.items m)) same (c.in_ok-heights-in-Wall.ensures.made c.args.capacity honest)

pub returns-in_ok-heights-in-Burn-clause-stale : goal.returns-in_ok-heights-in-Burn-clause-stale
returns-in_ok-heights-in-Burn-clause-stale g c = λ honest p.
    let old = c.args.samples.now in
    let m = g.S.Samples.mosaic old in
    let is = c.in_ok-heights-in-Burn.ensures in
    let was = is.reads.honest honest in
    stale_named m (g.S.Samples.side_of old) (g.S.Samples.corners old) (g.met.S.Samples.same_side old was) (g.met.S.Samples.same_corners old was) c.in_ok-heights-in-Burn.heights.items p
    ∙ ap (λ (l : List Point). is_near_one (λ t. holds_one m l t.corner) m p) is.points
    ∙ ap (λ (k : Command). goes_stale m k p) (sym c.in-Burn.is)

pub returns-in_ok-heights-in-Wall-clause-stale : goal.returns-in_ok-heights-in-Wall-clause-stale
returns-in_ok-heights-in-Wall-clause-stale g c = λ honest p.
    let old = c.args.samples.now in
    let m = g.S.Samples.mosaic old in
    let is = c.in_ok-heights-in-Wall.ensures in
    let was = is.reads.honest honest in
    stale_named m (g.S.Samples.side_of old) (g.S.Samples.corners old) (g.met.S.Samples.same_side old was) (g.met.S.Samples.same_corners old was) c.in_ok-heights-in-Wall.heights.items p
    ∙ ap (λ (l : List Point). is_near_one (λ t. holds_one m l t.corner) m p) is.points
    ∙ ap (λ (k : Command). goes_stale m k p) (sym c.in-Wall.is)
