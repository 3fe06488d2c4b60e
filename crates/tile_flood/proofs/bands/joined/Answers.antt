use Rattle.std.specs.Global.{Vec}
use Rattle.tile_flood.proofs.Prelude.{Spill, ap, arith, mul-le-mul_right, rules, subst, sym, ℕ, ◌*◌, ◌++◌, ◌+◌, ◌∙◌, ◌≡◌, ◌≤◌, length}
use Rattle.tile_flood.specs.Bands.{AreOfPoints}
use Rattle.tile_flood.proofs.RowBands.{nothing_found, two_ranges}
use Rattle.tile_flood.proofs.bands.joined.Goals as goal

pub loop-b-init : goal.loop-b-init
loop-b-init c n levels labels are = subst (AreOfPoints n levels labels 0 ((0 * 32) * n)) (search rules) (nothing_found n levels labels 0 ((0 * 32) * n) (omega arith))

pub loop-b-preserved : goal.loop-b-preserved
loop-b-preserved c n levels labels are =
    let b = c.loop-b.b in
    let found = c.loop-b.found.items in
    let band : AreOfPoints n levels labels ((b * 32) * n) ((b * 32 + 32) * n) c.index-bands-b.result.items =
    subst (λ (v : Vec Spill). AreOfPoints n levels labels ((b * 32) * n) ((b * 32 + 32) * n) v.items) (sym c.index-bands-b.is) (are.each b c.index-bands-b.result c.loop-b-test.true) in
    let longer : (b * 32) * n ≤ (b * 32 + 32) * n = mul-le-mul_right n (omega arith) in
    let end : (b * 32 + 32) * n ≡ ((b + 1) * 32) * n = ap (λ k. k * n) (omega arith) in
    let list : found ++ c.index-bands-b.result.items ≡ c.extend_from_slice.new.self.items = sym (c.in_ok-extend_from_slice.ensures.items ∙ ap (λ xs. found ++ xs) c.deref.ensures.value) in
    subst (λ to. AreOfPoints n levels labels 0 to c.extend_from_slice.new.self.items) end
    (subst (AreOfPoints n levels labels 0 ((b * 32 + 32) * n)) list (two_ranges n levels labels 0 ((b * 32) * n) ((b * 32 + 32) * n) found c.index-bands-b.result.items (omega arith) longer (c.loop-b.invariant n levels labels are) band))

pub returns : goal.returns
returns c n levels labels are =
    let past = c.loop-b-test.false in
    let within = c.loop-b.auto.b-end in
    let all : c.loop-b.b ≡ length c.args.bands.now = omega arith in
    subst (λ b. AreOfPoints n levels labels 0 ((b * 32) * n) c.loop-b.found.items) all (c.loop-b.invariant n levels labels are)
