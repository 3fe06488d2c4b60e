use Rattle.tile_flood.proofs.Prelude.{ap, arith, cases_lt, get_or_default, inl, inr, slice_index_or, subst, sym, ◌∙◌, ◌≡◌}
use Rattle.tile_flood.specs.Bands.{IsOffBorder}
use Rattle.tile_flood.proofs.flood.Flood.changed_bands.Goals as goal

pub loop-k-preserved : goal.loop-k-preserved
loop-k-preserved c b j d off less =
    let affected = c.args.self.now.affected.items in
    let k = c.loop-k.k in
    elim (cases_lt j k) [
      | inl before ↦ c.loop-k.invariant b j d (c.look_at_affected.ensures.still b off) before
      | inr ge ↦
          let same : j ≡ k = omega arith in
          let is : slice_index_or affected j d ≡ c.index-affected.result.now = ap (λ i. slice_index_or affected i d) same ∙ (get_or_default affected k d c.index-affected.result.now (omega arith) ∙ sym c.index-affected.ensures) in
          subst (IsOffBorder c.args.n c.args.self.now.levels.items c.args.self.now.labels.items b) (sym is) (c.look_at_affected.ensures.off b off)
    ]
