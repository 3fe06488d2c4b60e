use Rattle.std.proofs.Common.{◌≡◌, ◌≢◌, ◌<◌, ◌-◌, ◌*◌, ◌≤◌, ℕ, Bool, true, false, nat_eq, length, set, Ok, refl, sym, ap, ap₂, ◌∙◌, subst, arith, get_or-set_same, get_or-set_other, ◌&&◌, slice_index_or}
use Rattle.stored_mosaic.proofs.Prelude.{IsRimPoint, Mosaic, Point, eqb-false, eqb-true, is_in_box, is_void_at, point_of}
use Rattle.lattice.proofs.RimNumbers.{one_index}
use Rattle.catalogue.proofs.Reading.{reads_as, reads_on}
use Rattle.stored_mosaic.proofs.rims.read_rim.Goals as goal

pub loop-number-preserved : goal.loop-number-preserved
loop-number-preserved g c =
    let laws = g.met.S.Samples in
    let now = c.args.samples.now in
    let mid = c.loop-number.samples in
    let so = c.loop-number.invariant in
    let n : ℕ = g.S.Samples.side_of now in
    let at : ℕ = c.loop-number.number in
    let read = c.in_ok-is_void.ensures in
    let holds : Mosaic → Point → Bool = λ m p. is_in_box c.args.patch.from c.args.patch.to p && is_void_at m p in
    record {
      reads = reads_on g.S.Samples laws.keeps_on now mid c.is_void_in_box.new.samples tt (Ok tt) so.reads (reads_as g.S.Samples mid c.is_void_in_box.new.samples c.in_ok-is_void.is_void tt read.reads);
      whole = so.whole;
      known = λ honest e k below point.
          let honest_mid = read.reads.honest honest in
          let bits = c.loop-number.voids.items in
          let value : Bool = c.in_ok-is_void.is_void in
          let rim : c.rim-number-end.result ≡ 4 * (c.side-side.result - 1) = c.rim-number-end.ensures.value in
          let side : c.side-side.result ≡ n = c.side-side.ensures in
          let inside : at < length bits =
          let less = c.loop-number-test.true in let end = subst (λ (x : ℕ). c.rim-number-end.result ≡ 4 * (x - 1)) side rim in let whole = so.whole in let long = c.loop-number.voids.ok.0 in omega (arith, less, end, whole, long) in
          let by : (b : Bool) → nat_eq k at ≡ b → slice_index_or (set bits at value) k false ≡ holds (g.S.Samples.mosaic now) (point_of n c.args.corner e) =
          λ b. elim b as (λ (b : Bool). nat_eq k at ≡ b → slice_index_or (set bits at value) k false ≡ holds (g.S.Samples.mosaic now) (point_of n c.args.corner e)) [
            | true ↦ λ same.
                let here : k ≡ at = eqb-true k at same in
                let index : IsRimPoint n at c.rim_index.result = subst (λ (x : ℕ). IsRimPoint x at c.rim_index.result) side (record { small = c.rim_index.ensures.small; rim = c.rim_index.ensures.rim; number = c.rim_index.ensures.number }) in
                let e_is : e ≡ c.rim_index.result = one_index n at e c.rim_index.result (subst (λ (x : ℕ). 3 ≤ x) side c.rim.ensures.low) (subst (λ (x : ℕ). IsRimPoint n x e) here point) index in
                ap (λ (x : ℕ). slice_index_or (set bits at value) x false) here ∙ get_or-set_same bits at value false inside
                ∙ read.value honest ∙ ap₂ holds (so.reads.mosaic honest_mid) (c.point_at-point.ensures.value ∙ ap₂ (λ (x y : ℕ). point_of x c.args.corner y) side (sym e_is))
            | false ↦ λ other.
                let apart : k ≢ at = eqb-false k at other in
                get_or-set_other bits at k value false apart ∙ so.known honest_mid e k (omega (arith, below, apart)) point
          ] in
          by (nat_eq k at) refl;
    }
