use Rattle.levels.proofs.Prelude.{Corner, Decides-int_eq, Ghosts, IsFilledLevel, IsGroundNode, IsGrown, IsHeldByNone, IsRight, IsRimLevel, Known, List, Mosaic, Ok, OnlyReads, Option, Refusal, Result, Rim, SFits, ℤ, ap, ap₂, asked_refused, corners_of, false≢true, height_of, int_max, known_of, metres, node_number, reads_as, reads_on, right_still, rules, subst, sym, terrain, to_z-of_z, void, w16, ◌∙◌, ◌≡◌}
use Rattle.levels.proofs.Questions.Filled.{void_there, no_height_there, level_inside, rim_there, level_over}
use Rattle.levels.proofs.Caches.Holders.{no_ground}
use Rattle.catalogue.proofs.Questioned.{answered, answered_here, asked_reads, refused_after, stopped}
use Rattle.levels.proofs.filling.level_in.Goals as goal

pub returns-in_default-clause-level : goal.returns-in_default-clause-level
returns-in_default-clause-level g c honest =
    let m = g.S.Samples.mosaic c.args.samples.now in
    let w = known_of c.args.tile_cache.now in
    let right = c.requires.right honest in
    no_ground m c.args.point (g.met.S.Samples.is_mosaic c.args.samples.now honest)
    (subst (λ n. IsHeldByNone n (corners_of m) c.args.point) right.ready.same_side
    (subst (λ (cs : List Corner). IsHeldByNone w.side cs c.args.point) (c.deref.ensures.value ∙ right.ready.all) c.in_default.ensures.none))

pub returns-in_default-clause-asked : goal.returns-in_default-clause-asked
returns-in_default-clause-asked g c = answered_here g.S.Samples g.met.S.Samples.keeps_itself c.args.samples.now _

-- results that are right after a query are right after one more read
right_read : {S T : Type 0} (g : Ghosts S) (a b d : S) (known known' : Known) (result : Result T Refusal) → IsGrown g a b known known' → OnlyReads g b d result → g.is_honest d → IsRight (g.mosaic a) known → IsRight (g.mosaic d) known'
right_read g a b d known known' result grown reads honest right = subst (λ (m : Mosaic). IsRight m known') (sym (reads.mosaic honest)) (right_still g a b known known' grown (reads.honest honest) right)

pub returns-in_err-is_height-clause-asked : goal.returns-in_err-is_height-clause-asked
returns-in_err-is_height-clause-asked g c =
    let b = c.label_at.new.samples in
    let d = c.is_height.new.samples in
    let r = c.in_err-is_height.field-0.0 in
    refused_after {U = Option ℤ} g.S.Samples g.met.S.Samples.keeps_on c.args.samples.now b d c.from_residual-in_err-is_height.result r c.from_residual-in_err-is_height.ensures.1 c.in_ok-level.ensures.reads
    (asked_refused g.S.Samples b d r c.in_err-is_height.ensures.reads)

pub returns-then-not-branch-clause-right : goal.returns-then-not-branch-clause-right
returns-then-not-branch-clause-right g c honest =
    let spotted = c.in_ok-level.ensures in
    let seen = c.in_ok-is_height.ensures.reads in
    right_read g.S.Samples c.args.samples.now c.label_at.new.samples c.is_height.new.samples (known_of c.args.tile_cache.now) (known_of c.label_at.new.self) (Ok c.in_ok-is_height.field-0) spotted.grown seen honest
    (c.requires.right (spotted.reads.honest (seen.honest honest)))

pub returns-then-not-branch-clause-asked : goal.returns-then-not-branch-clause-asked
returns-then-not-branch-clause-asked g c =
    let a = c.args.samples.now in
    let b = c.label_at.new.samples in
    let d = c.is_height.new.samples in
    let spotted = c.in_ok-level.ensures in
    let seen = c.in_ok-is_height.ensures in
    stopped g.S.Samples a d (reads_on g.S.Samples g.met.S.Samples.keeps_on a b d tt (Ok tt) spotted.reads (reads_as g.S.Samples b d c.in_ok-is_height.field-0 tt seen.reads)) (λ honest.
    let mid = seen.reads.honest honest in
    let before = spotted.reads.honest mid in
    let none = no_height_there (g.S.Samples.mosaic a) (g.met.S.Samples.is_mosaic a before) c.args.point (known_of c.args.tile_cache.now) (c.requires.right before) c.deref.result.now c.deref.ensures.value c.in-Some.t c.in-Some.index c.in-Some.ensures.some
    c.in_ok-level.level c.in_ok-level.label (spotted.label_at mid (c.requires.right before)) c.if-label.true in
    let same : metres (height_of (g.S.Samples.mosaic b) c.args.point) ≡ void = ap (λ (m : Mosaic). metres (height_of m c.args.point)) (spotted.reads.mosaic mid) ∙ none in
    false≢true (sym c.if-not-branch.true ∙ (seen.value honest ∙ (Decides-int_eq void _).1 (sym same))))

pub returns-then-label-clause-level : goal.returns-then-label-clause-level
returns-then-label-clause-level g c honest =
    let a = c.args.samples.now in
    let spotted = c.in_ok-level.ensures in
    let mid = c.in_ok-is_height.ensures.reads.honest honest in
    let before = spotted.reads.honest mid in
    void_there (g.S.Samples.mosaic a) (g.met.S.Samples.is_mosaic a before) c.args.point (known_of c.args.tile_cache.now) (c.requires.right before) c.deref.result.now c.deref.ensures.value c.in-Some.t c.in-Some.index c.in-Some.ensures.some
    c.in_ok-level.level c.in_ok-level.label (spotted.label_at mid (c.requires.right before)) c.if-label.true

pub returns-then-label-clause-right : goal.returns-then-label-clause-right
returns-then-label-clause-right g c honest =
    let spotted = c.in_ok-level.ensures in
    let seen = c.in_ok-is_height.ensures.reads in
    right_read g.S.Samples c.args.samples.now c.label_at.new.samples c.is_height.new.samples (known_of c.args.tile_cache.now) (known_of c.label_at.new.self) (Ok c.in_ok-is_height.field-0) spotted.grown seen honest
    (c.requires.right (spotted.reads.honest (seen.honest honest)))

pub returns-then-label-clause-asked : goal.returns-then-label-clause-asked
returns-then-label-clause-asked g c =
    let a = c.args.samples.now in
    let b = c.label_at.new.samples in
    let d = c.is_height.new.samples in
    answered g.S.Samples a d _ (reads_on g.S.Samples g.met.S.Samples.keeps_on a b d tt (Ok tt) c.in_ok-level.ensures.reads (reads_as g.S.Samples b d c.in_ok-is_height.field-0 tt c.in_ok-is_height.ensures.reads))

pub returns-then-label-2-clause-level : goal.returns-then-label-2-clause-level
returns-then-label-2-clause-level g c honest =
    let a = c.args.samples.now in
    let m = g.S.Samples.mosaic a in
    let spotted = c.in_ok-level.ensures in
    let before = spotted.reads.honest honest in
    let in_range : SFits w16 c.in_ok-level.level = search rules in
    subst (IsFilledLevel (terrain m) c.args.point) (sym (to_z-of_z w16 c.in_ok-level.level in_range))
    (level_inside m (g.met.S.Samples.is_mosaic a before) c.args.point (known_of c.args.tile_cache.now) (c.requires.right before) c.deref.result.now c.deref.ensures.value c.in-Some.t c.in-Some.index c.in-Some.ensures.some
    c.in_ok-level.level c.in_ok-level.label (spotted.label_at honest (c.requires.right before)) c.if-label.false c.if-label-2.true)

pub returns-then-label-2-clause-asked : goal.returns-then-label-2-clause-asked
returns-then-label-2-clause-asked g c = answered g.S.Samples c.args.samples.now c.label_at.new.samples _ c.in_ok-level.ensures.reads

pub rim_level-requires-clause-there : goal.rim_level-requires-clause-there
rim_level-requires-clause-there g c honest =
    let a = c.args.samples.now in
    let spotted = c.in_ok-level.ensures in
    let before = spotted.reads.honest honest in
    subst (λ (m : Mosaic). IsGroundNode m c.label_at.new.self.rim_graph.corners.items c.in-Some.t c.in_ok-level.label) (sym (spotted.reads.mosaic honest))
    (subst (λ (cs : List Corner). IsGroundNode (g.S.Samples.mosaic a) cs c.in-Some.t c.in_ok-level.label) (sym spotted.grown.kept.same_corners)
    (rim_there (g.S.Samples.mosaic a) (g.met.S.Samples.is_mosaic a before) c.args.point (known_of c.args.tile_cache.now) (c.requires.right before) c.deref.result.now c.deref.ensures.value c.in-Some.t c.in-Some.index c.in-Some.ensures.some
    c.in_ok-level.level c.in_ok-level.label (spotted.label_at honest (c.requires.right before)) c.if-label.false c.if-label-2.false))

pub returns-in_err-over-clause-asked : goal.returns-in_err-over-clause-asked
returns-in_err-over-clause-asked g c =
    refused_after g.S.Samples g.met.S.Samples.keeps_on c.args.samples.now c.label_at.new.samples c.rim_level.new.samples c.from_residual-in_err-over.result c.in_err-over.field-0.0 c.from_residual-in_err-over.ensures.1
    c.in_ok-level.ensures.reads c.in_err-over.ensures.asked

pub returns-clause-level : goal.returns-clause-level
returns-clause-level g c honest =
    let a = c.args.samples.now in
    let m = g.S.Samples.mosaic a in
    let w = known_of c.args.tile_cache.now in
    let spotted = c.in_ok-level.ensures in
    let mid = c.in_ok-over.ensures.asked.reads.honest honest in
    let before = spotted.reads.honest mid in
    let in_range : SFits w16 c.max.result = record { sfits = c.max.type_inv } in
    let higher : c.max.result ≡ int_max c.in_ok-level.level c.in_ok-over.over =
    c.max.ensures.value ∙ ap₂ int_max (to_z-of_z w16 c.in_ok-level.level (search rules)) (to_z-of_z w16 c.in_ok-over.over (search rules)) in
    let rim : IsRimLevel m w.corners (node_number m.side (Rim c.in-Some.t c.in_ok-level.label)) c.in_ok-over.over =
    subst (λ (n : Mosaic). IsRimLevel n w.corners (node_number n.side (Rim c.in-Some.t c.in_ok-level.label)) c.in_ok-over.over) (spotted.reads.mosaic mid)
    (subst (λ (cs : List Corner). IsRimLevel (g.S.Samples.mosaic c.label_at.new.samples) cs (node_number (g.S.Samples.mosaic c.label_at.new.samples).side (Rim c.in-Some.t c.in_ok-level.label)) c.in_ok-over.over) spotted.grown.kept.same_corners (c.in_ok-over.ensures.level honest)) in
    subst (IsFilledLevel (terrain m) c.args.point) (sym higher ∙ sym (to_z-of_z w16 c.max.result in_range))
    (level_over m (g.met.S.Samples.is_mosaic a before) c.args.point w (c.requires.right before) c.deref.result.now c.deref.ensures.value c.in-Some.t c.in-Some.index c.in-Some.ensures.some
    c.in_ok-level.level c.in_ok-level.label (spotted.label_at mid (c.requires.right before)) c.if-label.false c.if-label-2.false c.in_ok-over.over rim)

pub returns-clause-asked : goal.returns-clause-asked
returns-clause-asked g c =
    answered g.S.Samples c.args.samples.now c.rim_level.new.samples _
    (reads_on g.S.Samples g.met.S.Samples.keeps_on c.args.samples.now c.label_at.new.samples c.rim_level.new.samples tt (Ok tt) c.in_ok-level.ensures.reads
    (asked_reads g.S.Samples c.label_at.new.samples c.rim_level.new.samples _ c.in_ok-over.ensures.asked))
