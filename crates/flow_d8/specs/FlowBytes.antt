-- The bytes that store flows.
use Rattle.std.specs.Prelude.{◌≡◌, ℕ, zero, suc, ◌+◌, ◌<◌, Bool, true, ◌&&◌, ◌==◌, List, map, ◌++◌, ◌∷◌, slice_index_or, refl}
use Rattle.std.proofs.lemmas.Bool.Decides.{Decides-below_and, Decides-eqb}
use Rattle.flow_d8.specs.Prelude.{directions, order_of, Flow, Unknown, NoGround, Outlet, To, Beside, Flat, FlatTo}

-- the flows, indexed by their bytes
abbrev pub flows_by_byte : List Flow
flows_by_byte = Unknown ∷ NoGround ∷ Outlet ∷ Flat ∷ (map To directions ++ map Beside directions ++ map FlatTo directions)

abbrev pub flow_at : ℕ → Flow
flow_at byte = slice_index_or flows_by_byte byte Unknown

abbrev pub byte_of : Flow → ℕ
byte_of Unknown = 0
byte_of NoGround = 1
byte_of Outlet = 2
byte_of Flat = 3
byte_of (To d) = 4 + order_of d
byte_of (Beside d) = 12 + order_of d
byte_of (FlatTo d) = 20 + order_of d

abbrev are_bytes : ℕ → Bool
are_bytes zero = true
are_bytes (suc n) = (byte_of (flow_at n) == n) && are_bytes n

pub byte_of_flow_at : (byte : ℕ) → byte < 28 → byte_of (flow_at byte) ≡ byte
byte_of_flow_at byte small = (Decides-below_and (λ n. byte_of (flow_at n) == n) (λ n. byte_of (flow_at n) ≡ n) are_bytes (λ n. Decides-eqb (byte_of (flow_at n)) n) refl (λ _. refl) 28).0 refl byte small
