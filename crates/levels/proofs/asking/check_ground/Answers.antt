use Rattle.levels.proofs.Prelude.{Corner, Err, IsHeldByNone, List, Outside, Void, asked, corners_of, inl, inr, reads_as, reads_nothing, subst, sym, ◌∙◌}
use Rattle.levels.proofs.Caches.Holders.{outside_says, ground_at}
use Rattle.catalogue.proofs.Questioned.{answered}
use Rattle.levels.proofs.asking.check_ground.Goals as goal

pub returns-then-not-is_held-clause-asked : goal.returns-then-not-is_held-clause-asked
returns-then-not-is_held-clause-asked g c =
    let old = c.args.samples.now in
    asked g.S.Samples old old c.args.point (Err Outside) (reads_nothing g.S.Samples g.met.S.Samples.keeps_itself old c.args.point) tt (λ _ _ e. cc)

pub returns-in-Void-clause-asked : goal.returns-in-Void-clause-asked
returns-in-Void-clause-asked g c = asked g.S.Samples c.args.samples.now c.height.new.samples c.in_ok-height.field-0 (Err Void) c.in_ok-height.ensures.reads tt (λ _ _ e. cc)

pub returns-in-Outside : goal.returns-in-Outside
returns-in-Outside g c =
    let laws = g.met.S.Samples in
    let old = c.args.samples.now in
    let m = g.S.Samples.mosaic old in
    let held = c.is_held.ensures.held c.if-not-is_held.false in
    record {
      on_ground = λ honest _.
          let was = c.in_ok-height.ensures.reads.honest honest in
          let value = c.in_ok-height.ensures.value honest in
          elim c.in-Outside.is [
            | inl outside ↦
                let none : IsHeldByNone m.side (corners_of m) c.args.point = outside_says m c.args.point (laws.is_mosaic old was) (sym value ∙ outside) in
                absurd (held (subst (λ n. IsHeldByNone n (g.S.Samples.corners old) c.args.point) (laws.same_side old was) (subst (λ (cs : List Corner). IsHeldByNone m.side cs c.args.point) (laws.same_corners old was) none)))
            | inr at ↦ ground_at m c.args.point at.0 (sym at.1 ∙ value)
          ];
      outside = ((λ e. absurd (cc)), λ none. absurd (held none));
      void = λ honest e. absurd (cc);
      causes = tt;
      asked = answered g.S.Samples old c.height.new.samples (tt {0}) (reads_as g.S.Samples old c.height.new.samples c.in_ok-height.field-0 (tt {0}) c.in_ok-height.ensures.reads);
    }
