use Rattle.watershed.proofs.Prelude.{Cover, IsRank, Point, bit_at, inl, inr, subst, sym, ⊎_elim, ◌≡◌, ◌⊎◌}
use Rattle.watershed.proofs.Found.{runs_alike}
use Rattle.watershed.proofs.Marked.{one_point, rank_before}
use Rattle.watershed.proofs.marks.add_bit.Goals as goal

pub add_point-requires-clause-past : goal.add_point-requires-clause-past
add_point-requires-clause-past c q has = let before = c.requires.past q has in rank_before q c.point_at.result before.0 c.args.rank before.1.0 c.point_at.ensures before.1.1

pub returns : goal.returns
returns c =
    let old = c.args.runs.now.items in
    let p = c.point_at.result in
    let r = c.args.rank in
    runs_alike (λ q. Cover old q ⊎ (q ≡ p)) (λ q. Cover old q ⊎ ((bit_at c.args.bits c.args.bit ≡ 1) × IsRank q r)) c.add_point.new.runs.items
    (λ q. (
      (λ has. ⊎_elim (λ before. inl before) (λ same. inr (c.has_bit.ensures.0 c.if-not-has_bit.false, subst (λ (z : Point). IsRank z r) (sym same) c.point_at.ensures)) has),
      (λ has. ⊎_elim (λ before. inl before) (λ new. inr (one_point q p r new.1 c.point_at.ensures)) has),
    )) c.in_ok-add_point.ensures
