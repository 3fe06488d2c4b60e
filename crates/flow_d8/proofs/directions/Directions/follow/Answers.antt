use Rattle.std.proofs.Common.{Vec, Global, List, [], ◌∷◌, ◌-◌, inl, inr, ⊎_elim, length, get_or, length-append, sym, ap, ◌∙◌, subst, arith, ◌≡◌, ◌⊎◌, Result, IfErr}
use Rattle.std.proofs.lemmas.Result.{err_from_is_err_and}
use Rattle.flow_d8.specs.Prelude.{Point, Refusal, NoMemory, Damaged, terrain}
use Rattle.flow_d8.specs.Directions.{AreOfNoMosaic, IsChain}
use Rattle.water.specs.FlowSteps.{IsFollowed}
use Rattle.flow_d8.proofs.Paths.Chains.{chain_longer, chain_once, ends_with}
use Rattle.flow_d8.proofs.Paths.OnePath.{goes_on_in}
use Rattle.flow_d8.proofs.Paths.Tracing.{follow_more, follow_end, ground_held, told_ground}
use Rattle.flow_d8.proofs.directions.Directions.follow.Goals as goal

pub steps-preserved : goal.steps-preserved
steps-preserved c = record {
  chain = subst (IsChain c.args.self.now) (sym c.in_ok-add-2.ensures.path) (chain_longer c.args.self.now c.steps.path.items c.steps.invariant.chain c.steps.last c.steps.invariant.ends c.in-Some.to c.in-Some.ensures.to);
  ends = λ x. subst (λ (l : List Point). get_or l (length l - 1) x ≡ c.in-Some.to) (sym c.in_ok-add-2.ensures.path) (ends_with c.steps.path.items c.in-Some.to x);
  some = omega (arith, ap (λ (l : List Point). length l) c.in_ok-add-2.ensures.path, length-append c.steps.path.items (c.in-Some.to ∷ []));
  short = c.in_ok-add-2.ensures.short;
  followed = λ m level is are solid.
      let to = c.in-Some.ensures.to in
      subst (IsFollowed (terrain m) level c.args.point c.in-Some.to) (sym c.in_ok-add-2.ensures.path)
      (follow_more m level c.args.self.now is are c.args.point c.steps.last c.in-Some.to c.steps.path.items to.0 to.1.0 to.1.1.0 (c.steps.invariant.followed m level is are solid));
}

pub returns-clause-once : goal.returns-clause-once
returns-clause-once c = chain_once c.args.self.now c.steps.path.items c.steps.invariant.chain c.steps.last c.steps.invariant.ends c.in_default.ensures.off

pub returns-clause-path : goal.returns-clause-path
returns-clause-path c = λ m level is are solid. follow_end m level c.args.self.now is are c.args.point c.steps.last c.steps.path.items c.in_default.ensures.off (c.steps.invariant.followed m level is are solid)

pub returns-in_err-add-2-clause-refusal : goal.returns-in_err-add-2-clause-refusal
returns-in_err-add-2-clause-refusal c =
    let d = c.args.self.now in
    let whole = c.count-most.ensures.valid in
    let p = err_from_is_err_and c.from_residual-in_err-add-2.result c.from_residual-in_err-add-2.ensures.1 in
    let to = c.in-Some.ensures.to in
    subst (λ (r : Result (Vec Point Global) Refusal). IfErr r (λ r. (r ≡ NoMemory) ⊎ ((r ≡ Damaged) × AreOfNoMosaic d))) (sym p.1)
    (⊎_elim (λ is. inl (p.2 ∙ is)) (λ is. inr (
      p.2 ∙ is.0,
      λ m level mosaic filled are.
          let solid = told_ground m level d are whole c.args.point c.requires in
          goes_on_in m mosaic level filled d.tiles.side d.tiles.corners whole.valid.side_low (ground_held m level d are whole) c.args.point c.in-Some.to c.steps.path.items solid
          (follow_more m level d mosaic are c.args.point c.steps.last c.in-Some.to c.steps.path.items to.0 to.1.0 to.1.1.0 (c.steps.invariant.followed m level mosaic are solid))
          (inr (omega (arith, is.1, c.count-most.ensures.value))),
    ))
    c.in_err-add-2.ensures.refusal)
