use Rattle.drainage.proofs.Prelude.{ArePadded, AreTileLevels, IsFilledAround, IsHeldFor, IsHeldOf, IsTileCopied, List, Mosaic, Ok, ℤ, ap, drop, length, reads_on, rules, subst, sym, take, ◌*◌, ◌++◌, ◌+◌, ◌∙◌, ◌≡◌}
use Rattle.drainage.proofs.Tiles.PaddedLevels.{all_padded, vec_back}
use Rattle.catalogue.proofs.Questioned.{answered, asked_reads, refused_after}
use Rattle.drainage.proofs.preparing.padded_at.Goals as goal
use Rattle.drainage.proofs.preparing.padded_at.Goals.{After-put}

pub returns-in_err-tile_cache-clause-held : goal.returns-in_err-tile_cache-clause-held
returns-in_err-tile_cache-clause-held g c honest = c.take.ensures.left (g.S.Samples.mosaic c.levels.new.samples) (c.in_ok-tile.ensures.held honest)

-- putting the found levels back keeps the cache right
held : (g : _) (c : After-put g) → IsHeldFor g.S.Samples c.fill_around-filled.new.samples c.put.new.self
held g c honest =
    let read = c.fill_around-filled.ensures.asked.reads in
    let left = c.in_ok-tile_cache.ensures.left (g.S.Samples.mosaic c.levels.new.samples) (c.in_ok-tile.ensures.held (read.honest honest)) in
    c.put.ensures.right (g.S.Samples.mosaic c.fill_around-filled.new.samples) (c.fill_around-filled.ensures.right honest) (subst (λ (n : Mosaic). IsHeldOf n c.take.new.self) (sym (read.mosaic honest)) left)

pub returns-in_err-filled-clause-held : goal.returns-in_err-filled-clause-held
returns-in_err-filled-clause-held g c = held g (goal.at.returns-in_err-filled-clause-held g c).After-put

pub returns-clause-held : goal.returns-clause-held
returns-clause-held g c = held g (goal.at.returns-clause-held g c).After-put

pub returns-in_err-filled-clause-asked : goal.returns-in_err-filled-clause-asked
returns-in_err-filled-clause-asked g c =
    let a = c.args.samples.now in
    let b = c.levels.new.samples in
    refused_after g.S.Samples g.met.S.Samples.keeps_on a b c.fill_around-filled.new.samples c.from_residual-in_err-filled.result c.in_err-filled.field-0.0 c.from_residual-in_err-filled.ensures.1 (asked_reads g.S.Samples a b _ c.in_ok-tile.ensures.asked) c.in_err-filled.ensures.asked

pub returns-clause-asked : goal.returns-clause-asked
returns-clause-asked g c =
    let a = c.args.samples.now in
    let b = c.levels.new.samples in
    let d = c.fill_around-filled.new.samples in
    answered g.S.Samples a d _ (reads_on g.S.Samples g.met.S.Samples.keeps_on a b d tt (Ok tt) (asked_reads g.S.Samples a b _ c.in_ok-tile.ensures.asked) (asked_reads g.S.Samples b d _ c.in_ok-filled.ensures.asked))

pub returns-clause-levels : goal.returns-clause-levels
returns-clause-levels g c honest =
    let a = c.args.samples.now in
    let m = g.S.Samples.mosaic a in
    let laws = g.met.S.Samples in
    let told = c.in_ok-tile.ensures in
    let filled = c.in_ok-filled.ensures in
    let mid = filled.asked.reads.honest honest in
    let before = told.asked.reads.honest mid in
    let all = c.in_ok-padded.padded in
    let first = c.deref_mut.result.now in
    let copied = c.copy_tile.new.levels in
    let new = c.fill_around-filled.new.levels in
    let len : all.len ≡ length all.items = search rules in
    let whole : length copied ≡ length all.items = c.copy_tile.ensures.whole ∙ ap (λ (l : List ℤ). length l) c.deref_mut.ensures.value in
    let inner = take all.len (copied ++ drop (length copied) all.items) in
    let back : inner ≡ copied = vec_back all.len copied all.items whole len in
    let new_whole : length new ≡ length inner = c.fill_around-filled.ensures.whole ∙ ap (λ (l : List ℤ). length l) c.deref_mut-2.ensures.value in
    let out = vec_back all.len new inner new_whole (len ∙ sym whole ∙ sym (ap (λ (l : List ℤ). length l) back)) in
    let side : c.side-side.result ≡ m.side = c.side-side.ensures ∙ told.asked.reads.side ∙ sym (laws.same_side a before) in
    let count : length first ≡ (c.side-side.result + 4) * (c.side-side.result + 4) = search rules in
    let size = subst (λ n. length first ≡ (n + 4) * (n + 4)) side count in
    let tile = subst (AreTileLevels m c.args.corner) (sym c.deref.ensures.value) (told.levels mid) in
    let copy = subst (λ n. IsTileCopied n n c.deref.result.now first copied) side c.copy_tile.ensures in
    let around = subst (λ (l : List ℤ). IsFilledAround m c.args.corner l new) (c.deref_mut-2.ensures.value ∙ back) (subst (λ (n : Mosaic). IsFilledAround n c.args.corner c.deref_mut-2.result.now new) (told.asked.reads.mosaic mid) (filled.filled honest)) in
    subst (ArePadded m c.args.corner) (sym out) (all_padded m c.args.corner (laws.is_mosaic a before).side_low c.deref.result.now first copied new size tile copy around)
