-- Adjacent points are ground and adjacent both ways, and outlets are ground: on a mosaic and in a block.
use Rattle.std.proofs.Common.{rules}
use Rattle.lattice.proofs.Prelude.{Bool, IsLawful, IsTrue, List, Mosaic, Point, Tile, ℕ, ℤ, [], and_from, and_parts, ap, ap₂, arith, false, holds, ints, list_any, nat_abs, not, or_cases, refl, true, ⊎_elim, ◌%◌, ◌&&◌, ◌+◌, ◌-ℤ◌, ◌/◌, ◌||◌, ◌∙◌, ◌∷◌, ◌≡◌}
use Rattle.std.specs.Prelude.{nat_lt, nat_le, nat_eq}
use Rattle.std.proofs.lemmas.Bool.Decides.{nat_tests}
use Rattle.std.proofs.Math.Bool.{and_comm}
use Rattle.lattice.specs.Ground.{is_ground, same_point, is_near, share_tile, is_adjacent, terrain}
use Rattle.lattice.proofs.IntTests.{int_eq-swap}
use Rattle.lattice.specs.Block.{is_solid, is_linked, is_beside, is_exit, is_inner_outlet, is_rim, Block, block_terrain}

pub record AllFive (a b c d e : Bool) : Type 0 where
  pub first : a ≡ true
  pub second : b ≡ true
  pub third : c ≡ true
  pub fourth : d ≡ true
  pub fifth : e ≡ true

pub five_parts : (a b c d e : Bool) → (a && b && c && d && e) ≡ true → AllFive a b c d e
five_parts a b c d e h = search rules

pub five_from : (a b c d e : Bool) → AllFive a b c d e → (a && b && c && d && e) ≡ true
five_from a b c d e h = search rules

nat_abs-swap : (a b : ℤ) → nat_abs (a -ℤ b) ≡ nat_abs (b -ℤ a)
nat_abs-swap a b = omega (arith, ints)

share_tile-swap : (n : ℕ) (tiles : List Tile) (p q : Point) →
    list_any (λ t. holds n t.corner p && holds n t.corner q) tiles ≡ list_any (λ t. holds n t.corner q && holds n t.corner p) tiles
share_tile-swap n [] p q = refl
share_tile-swap n (t ∷ rest) p q = ap₂ ◌||◌ (and_comm (holds n t.corner p) (holds n t.corner q)) (share_tile-swap n rest p q)

near-swap : (p q : Point) → is_near p q ≡ is_near q p
near-swap p q = ap₂ ◌&&◌ (ap (λ d. nat_lt d 2) (nat_abs-swap p.y q.y)) (ap (λ d. nat_lt d 2) (nat_abs-swap p.x q.x))

same_point-swap : (p q : Point) → same_point p q ≡ same_point q p
same_point-swap p q = ap₂ ◌&&◌ (int_eq-swap p.y q.y) (int_eq-swap p.x q.x)

pub adjacent_both_ways : (m : Mosaic) (p q : Point) → IsTrue (is_adjacent m p q) → IsTrue (is_adjacent m q p)
adjacent_both_ways m p q h =
    let parts = five_parts (is_ground m p) (is_ground m q) (not (same_point p q)) (is_near p q) (share_tile m p q) h in
    five_from (is_ground m q) (is_ground m p) (not (same_point q p)) (is_near q p) (share_tile m q p)
    (record {
      first = parts.second;
      second = parts.first;
      third = ap not (same_point-swap q p) ∙ parts.third;
      fourth = near-swap q p ∙ parts.fourth;
      fifth = share_tile-swap m.side m.tiles q p ∙ parts.fifth;
    })

pub terrain_is_lawful : (m : Mosaic) → IsLawful (terrain m)
terrain_is_lawful m = record {
  from_ground = λ p q h. (five_parts (is_ground m p) (is_ground m q) (not (same_point p q)) (is_near p q) (share_tile m p q) h).first;
  to_ground = λ p q h. (five_parts (is_ground m p) (is_ground m q) (not (same_point p q)) (is_near p q) (share_tile m p q) h).second;
  both_ways = adjacent_both_ways m;
  outlet_ground = λ p h. (and_parts (is_ground m p) _ h).0;
}

turned : (a b c d : Bool) → (a && b && c && d) ≡ (b && a && d && c)
turned a b c d = ap₂ (λ x y. x && y) (ap₂ (λ x y. x && y) (and_comm a b) refl) refl ∙ rest (b && a)
  where
    rest : (x : Bool) → (x && c && d) ≡ (x && d && c)
    rest true = and_comm c d
    rest false = refl

module _ (b : Block) where
  linked_parts : (e f : ℕ) → IsTrue (is_linked b e f) → AllFive (is_solid b e) (is_solid b f) (not (nat_eq e f)) (is_beside b.side e f) true
  linked_parts e f h = five_parts (is_solid b e) (is_solid b f) (not (nat_eq e f)) (is_beside b.side e f) true (and_from (is_linked b e f) true h refl)

  linked_both_ways : (e f : ℕ) → IsTrue (is_linked b e f) → IsTrue (is_linked b f e)
  linked_both_ways e f h = search rules

  exit_is_solid : (e : ℕ) → IsTrue (is_exit b e) → IsTrue (is_solid b e)
  exit_is_solid e h = search rules

  pub block_is_lawful : IsLawful (block_terrain b)
  block_is_lawful = search rules
