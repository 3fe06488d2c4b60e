-- A query's point, by its index in a tile that holds it.
use Rattle.levels.proofs.Prelude.{Corner, IsIndexOf, Mosaic, Point, ℕ, point_of, subst, ◌*◌, ◌<◌, ◌≡◌}
use Rattle.lattice.proofs.Samples.{index_below, point_at_index}

pub record IsAt (m : Mosaic) (c : Corner) (p : Point) (e : ℕ) : Type 0 where
  pub below : e < m.side * m.side
  pub point : point_of m.side c e ≡ p

pub is_at : (m : Mosaic) (c : Corner) (n : ℕ) (p : Point) (e : ℕ) → n ≡ m.side → IsIndexOf n c p e → IsAt m c p e
is_at m c n p e side index =
    let here : IsIndexOf m.side c p e = subst (λ k. IsIndexOf k c p e) side index in
    record { below = index_below m.side c p e here; point = point_at_index m.side c p e here }
