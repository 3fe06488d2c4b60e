use Rattle.std.proofs.Common.{◌≡◌, false, List, ℕ, Option, Some, None, ◌∙◌, subst, sym}
use Rattle.std.specs.Prelude.{Contains, IfSome, IfNone}
use Rattle.std.specs.Option.{is_some}
use Rattle.catalogue.proofs.Prelude.{Corner, Holds, IsMosaic, Mosaic, Point, corners_of, share_tile}
use Rattle.catalogue.proofs.Sharing.{shared_from}
use Rattle.catalogue.proofs.adjacency.share_tile.Goals as goal

told : (m : Mosaic) (p q : Point) → IsMosaic m → (tile : Option Corner) → IfSome tile (λ c. Contains (corners_of m) c × (Holds m.side c p × Holds m.side c q)) → IfNone tile (share_tile m p q ≡ false)
    → is_some tile ≡ share_tile m p q
told m p q is (Some c) both none = sym (shared_from m p q c is both.0 both.1.0 both.1.1)
told m p q is None both none = sym none

pub returns : goal.returns
returns g c honest =
    let laws = g.met.S.Samples in
    let now = c.args.samples.now in
    let tile = c.tile_of_both.result in
    let m = g.S.Samples.mosaic now in
    c.is_some.ensures
    ∙ told m c.args.p c.args.q (laws.is_mosaic now honest) tile
    (subst (λ (n : ℕ). IfSome tile (λ d. Contains (corners_of m) d × (Holds n d c.args.p × Holds n d c.args.q))) (sym (laws.same_side now honest))
    (subst (λ (cs : List Corner). IfSome tile (λ d. Contains cs d × (Holds (g.S.Samples.side_of now) d c.args.p × Holds (g.S.Samples.side_of now) d c.args.q))) (sym (laws.same_corners now honest)) c.tile_of_both.ensures.some))
    (c.tile_of_both.ensures.none honest)
