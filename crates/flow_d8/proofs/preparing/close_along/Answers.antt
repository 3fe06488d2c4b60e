use Rattle.flow_d8.proofs.Prelude.{Dir, East, Flow, IsClosedAt, IsClosedFlow, IsClosing, List, North, Sides, South, West, ℕ, ℤ, along_of, ap₂, arith, false, flow_in, subst, sym, ◌*◌, ◌+◌, ◌-◌, ◌≡◌}
use Rattle.flow_d8.proofs.Padded.Closing.{closed_still}
use Rattle.flow_d8.proofs.preparing.close_along.Goals as goal

module _ (n : ℕ) (levels : List ℤ) (sides : Sides) where
  abbrev IsTold : ℕ → List Flow → Type 0
  IsTold e flows = IsClosedFlow n levels sides e (flow_in flows e)

  -- a sample on one of the four edges is set by that edge's step, and unchanged by the other three
  along : (i last : ℕ) → last ≡ n - 1 → (one two three four : List Flow) → IsClosing n levels sides one two → IsClosing n levels sides two three → IsClosing n levels sides three four
      → (d : Dir) (r s : ℕ) → IsClosedAt n sides d r s → along_of d r s ≡ i
      → (sides.north ≡ false → IsTold (0 * n + i) one) → (sides.east ≡ false → IsTold (i * n + last) two) → (sides.south ≡ false → IsTold (last * n + i) three) → (sides.west ≡ false → IsTold (i * n + 0) four)
      → IsTold (r * n + s) four
  along i last is one two three four on_2 on_3 on_4 d r s at same north east south west = by d at same
    where
      there : (h k : ℕ) → h ≡ r → k ≡ s → IsTold (h * n + k) four → IsTold (r * n + s) four
      there h k row column told = subst (λ e. IsTold e four) (ap₂ (λ a b. a * n + b) row column) told

      by : (e : Dir) → IsClosedAt n sides e r s → along_of e r s ≡ i → IsTold (r * n + s) four
      by North at same = there 0 i (sym at.1) (sym same)
          (closed_still n levels sides three four on_4 (0 * n + i) (closed_still n levels sides two three on_3 (0 * n + i) (closed_still n levels sides one two on_2 (0 * n + i) (north at.0))))
      by East at same = there i last (sym same) (omega (arith, at.1, is)) (closed_still n levels sides three four on_4 (i * n + last) (closed_still n levels sides two three on_3 (i * n + last) (east at.0)))
      by South at same = there last i (omega (arith, at.1, is)) (sym same) (closed_still n levels sides three four on_4 (last * n + i) (south at.0))
      by West at same = there i 0 (sym same) (sym at.1) (west at.0)
      by _ at same = absurd at

pub returns-clause-told : goal.returns-clause-told
returns-clause-told c d r s at same =
    along c.args.tile.now.side c.args.tile.now.levels.now c.args.tile.now.sides.now c.args.i (c.samples.result - 1) (omega (arith, c.samples.ensures.value))
    c.close_unless.new.flows c.close_unless-2.new.flows c.close_unless-3.new.flows c.close_unless-4.new.flows
    c.close_unless-2.ensures.closing c.close_unless-3.ensures.closing c.close_unless-4.ensures.closing
    d r s at same c.close_unless.ensures.told c.close_unless-2.ensures.told c.close_unless-3.ensures.told c.close_unless-4.ensures.told
