use Rattle.flow_cache.proofs.Prelude.{Corner, IsFlow, NoGround, Unknown, ap, arith, get_or, get_or_default, length, mul-add-lt, point_of, subst, sym, terrain, ◌%◌, ◌*◌, ◌+◌, ◌/◌, ◌<◌, ◌∙◌, ◌≡◌, ℕ}
use Rattle.std.proofs.Common.{ap₂, rules}
use Rattle.std.proofs.lemmas.Nat.{div-mul-add, mod-mul-add}
use Rattle.flow_d8.specs.Tiles.{no_corner, place_of}
use Rattle.flow_cache.proofs.flow_cache.FlowCache.sample_flow.Goals as goal

pub returns : goal.returns
unfolding place_of
returns c m right level filled =
    let grid = c.args.self.now.grid in
    let t = grid.tiles in
    let n = t.side in
    let area = n * n in
    let slot = c.args.self.now.last in
    let e = c.args.index in
    let k : ℕ = slot * area + e in
    let low : e < area = search rules in
    let corner : get_or t.corners slot no_corner ≡ c.args.corner = search rules in
    let tile_is : k / area ≡ slot = div-mul-add slot area e low in
    let index_is : k % area ≡ e = mod-mul-add slot area e low in
    let at : place_of t k ≡ point_of m.side c.args.corner e =
    ap₂ (λ i j. point_of n (get_or t.corners i no_corner) j) tile_is index_is ∙ ap₂ (λ (s : ℕ) (d : Corner). point_of s d e) right.grid.same_side corner in
    let flows = grid.flows.items in
    let square : c.area-area.result ≡ area = c.area-area.ensures.value ∙ ap (λ (v : ℕ). v * v) c.side.ensures in
    let small : k < length t.corners * area = omega (arith, mul-add-lt slot area e (length t.corners) (search rules) low) in
    let read : get_or flows k NoGround ≡ get_or flows k Unknown = get_or_default flows k NoGround Unknown (subst (λ n. k < n) (sym grid.whole) small) in
    let said : c.sample_flow.result ≡ get_or flows k Unknown = c.sample_flow.ensures ∙ ap (λ (a : ℕ). get_or flows (slot * a + e) NoGround) square ∙ read in
    subst (λ q. IsFlow (terrain m) level q c.sample_flow.result) at
    (subst (IsFlow (terrain m) level (place_of t k)) (sym said) (right.grid.told level filled k))
