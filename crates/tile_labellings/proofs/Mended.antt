-- Mending a block's labelling: changed heights are read one by one, and then the block is that of its tile.
use Rattle.std.proofs.Common.{rules}
use Rattle.std.proofs.Common.{◌≡◌, ◌≢◌, ℕ, ◌+◌, ◌*◌, ◌<◌, ◌≤◌, ◌⊎◌, inl, inr, ℤ, ◌≤ℤ◌, ◌<ℤ◌, ◌++◌, IsTrue, List, [], ◌∷◌, length, get_or, set, refl, sym, ap, ◌∙◌, subst, arith, get_or-set_same, get_or-set_other}
use Rattle.std.specs.Prelude.{Contains}
use Rattle.std.proofs.lemmas.Bool.{cases_eq}
use Rattle.std.proofs.lemmas.List.{length-set, get_or_default}
use Rattle.std.proofs.lemmas.List.Elements.{Contains-append_left, Contains-append_right}
use Rattle.lattice.specs.Block.{Block, is_solid, is_sink_at}
use Rattle.lattice.specs.Corners.{Corner}
use Rattle.lattice.specs.Ground.{metres, is_sink}
use Rattle.lattice.specs.Height.{height_of}
use Rattle.lattice.specs.Lattice.{point_of}
use Rattle.lattice.specs.Mosaic.{Mosaic, void}
use Rattle.labelling.specs.Blocks.{LabelledGround, block_of}
use Rattle.tile_flood.specs.Mending.{IsLabelledBefore}
use Rattle.tile_flood.proofs.BelowLevel.{carried_still, labelling_still}
use Rattle.tile_flood.proofs.Dependence.{same_ground, solid_inside}
use Rattle.tile_labellings.specs.Labellings.{IsFloodOf, IsBlockBut}
use Rattle.tile_labellings.specs.Updating.{IsUpdated, IsListedUnlessBelow}

-- ---- a flooded block has a labelling that mending can start from

pub labelled_now : (b : Block) (labelled : LabelledGround) (changed : List ℕ) → IsFloodOf b labelled → IsLabelledBefore b changed labelled.levels labelled.labels
labelled_now b labelled changed is = record { heights = b.heights; labelling = is.labelling; carried = is.carried; ground = λ e. refl; others = λ e solid. inl refl }

module _ (n : ℕ) (heights : List ℤ) (sinks : List ℕ) (e : ℕ) (h : ℤ) (inside : e < length heights) (ground : IsTrue (is_solid (block_of n heights sinks) e)) (full : h ≢ void) where
  now_at : get_or (set heights e h) e void ≡ h
  now_at = get_or-set_same heights e h void inside

  same_now : (z : ℕ) → is_solid (block_of n heights sinks) z ≡ is_solid (block_of n (set heights e h) sinks) z
  same_now = same_ground n heights sinks e h inside ground full

  -- one of the listed points gets another height
  pub labelled_still : (points : List ℕ) (levels : List ℤ) (labels : List ℕ) → Contains points e → IsLabelledBefore (block_of n heights sinks) points levels labels → IsLabelledBefore (block_of n (set heights e h) sinks) points levels labels
  labelled_still points levels labels has before = record {
    heights = before.heights;
    labelling = before.labelling;
    carried = before.carried;
    ground = λ z. before.ground z ∙ same_now z;
    others = λ z solid. elim (cases_eq z e) [
      | inl same ↦ inr (subst (Contains points) (sym same) has)
      | inr other ↦ elim (before.others z (same_now z ∙ solid)) [
        | inl alike ↦ inl (alike ∙ sym (get_or-set_other heights e z h void other))
        | inr among ↦ inr among
      ]
    ];
  }

  -- the point lay below its level, and doesn't rise above it
  pub labelled_beside : (points : List ℕ) (levels : List ℤ) (labels : List ℕ) → get_or heights e void <ℤ get_or levels e void → h ≤ℤ get_or levels e void → IsLabelledBefore (block_of n heights sinks) points levels labels →
      IsLabelledBefore (block_of n (set heights e h) sinks) points levels labels
  labelled_beside points levels labels below low before = elim (before.others e ground) [
    | inr has ↦ labelled_still points levels labels has before
    | inl alike ↦
        let was = before.heights in
        let ground_was : IsTrue (is_solid (block_of n was sinks) e) = before.ground e ∙ ground in
        let inside_was : e < length was = solid_inside n was sinks e ground_was in
        let same = same_ground n was sinks e h inside_was ground_was full in
        let below_was : get_or was e void <ℤ get_or levels e void = subst (λ v. v <ℤ get_or levels e void) (sym alike) below in
        record {
          heights = set was e h;
          labelling = labelling_still n was sinks levels labels before.labelling e h inside_was same below_was low;
          carried = carried_still n was sinks levels labels before.labelling e h inside_was same below_was low before.carried ground_was;
          ground = λ z. sym (same z) ∙ (before.ground z ∙ same_now z);
          others = λ z solid. elim (cases_eq z e) [
            | inl is ↦ inl (subst (λ x. get_or (set was e h) x void ≡ get_or (set heights e h) x void) (sym is) (get_or-set_same was e h void inside_was ∙ sym now_at))
            | inr other ↦ elim (before.others z (same_now z ∙ solid)) [
              | inl equal ↦ inl (get_or-set_other was e z h void other ∙ (equal ∙ sym (get_or-set_other heights e z h void other)))
              | inr among ↦ inr among
            ]
          ];
        }
  ]

  pub labelled_listed : (points points' : List ℕ) (levels : List ℤ) (labels : List ℕ) → IsListedUnlessBelow levels (set heights e h) e (get_or heights e void) points points' → IsLabelledBefore (block_of n heights sinks) points levels labels →
      IsLabelledBefore (block_of n (set heights e h) sinks) points' levels labels
  labelled_listed points points' levels labels listed before = elim listed [
    | inl passed ↦
        subst (λ (xs : List ℕ). IsLabelledBefore (block_of n (set heights e h) sinks) xs levels labels) (sym passed.0)
        (labelled_beside points levels labels passed.1.0 (subst (λ v. v ≤ℤ get_or levels e void) now_at passed.1.1) before)
    | inr added ↦
        subst (λ (xs : List ℕ). IsLabelledBefore (block_of n (set heights e h) sinks) xs levels labels) (sym added)
        (labelled_still (points ++ e ∷ []) levels labels (Contains-append_right points (e ∷ []) e (0, omega arith, refl)) (more points (points ++ e ∷ []) levels labels (Contains-append_left points (e ∷ [])) before))
  ]
    where
      more : (points points' : List ℕ) (levels : List ℤ) (labels : List ℕ) → ((z : ℕ) → Contains points z → Contains points' z) → IsLabelledBefore (block_of n heights sinks) points levels labels → IsLabelledBefore (block_of n heights sinks) points' levels labels
      more points points' levels labels still before = record {
        heights = before.heights;
        labelling = before.labelling;
        carried = before.carried;
        ground = before.ground;
        others = λ z solid. elim (before.others z solid) [ inl alike ↦ inl alike | inr has ↦ inr (still z has) ];
      }

pub updated_before : (b new : Block) (e : ℕ) (was h : ℤ) (points points' : List ℕ) (levels : List ℤ) (labels : List ℕ) → was ≡ get_or b.heights e void → IsUpdated b e h new → IsListedUnlessBelow levels new.heights e was points points' → IsLabelledBefore b points levels labels →
    IsLabelledBefore new points' levels labels
updated_before b new e was h points points' levels labels at is listed before =
    subst (λ (x : Block). IsLabelledBefore x points' levels labels) (sym is.is)
    (labelled_listed b.side b.heights b.sinks e h is.inside is.ground is.full points points' levels labels
    (subst (λ v. IsListedUnlessBelow levels (set b.heights e h) e v points points') at (subst (λ (x : Block). IsListedUnlessBelow levels x.heights e was points points') is.is listed)) before)

-- ---- heights that are read again

-- the point is in the list of changed ones, at place k or later
abbrev pub IsUnread : List ℕ → ℕ → ℕ → Type 0
IsUnread changed k e = (j : ℕ) × (k ≤ j) × (j < length changed) × (get_or changed j e ≡ e)

-- the first k changed points have their current heights
pub record AreRead (m : Mosaic) (c : Corner) (changed : List ℕ) (k : ℕ) (b : Block) : Type 0 where
  pub side : b.side ≡ m.side
  pub whole : length b.heights ≡ m.side * m.side
  pub heights : (e : ℕ) → e < m.side * m.side → (get_or b.heights e void ≡ metres (height_of m (point_of m.side c e))) ⊎ IsUnread changed k e
  pub sinks : (e : ℕ) → e < m.side * m.side → is_sink_at b e ≡ is_sink m (point_of m.side c e)

pub one_read : (m : Mosaic) (c : Corner) (changed : List ℕ) (k : ℕ) (b new : Block) (e : ℕ) (h : ℤ) → (d : ℕ) → k < length changed → get_or changed k d ≡ e → IsUpdated b e h new
    → h ≡ metres (height_of m (point_of b.side c e)) → AreRead m c changed k b → AreRead m c changed (k + 1) new
one_read m c changed k b new e h d below at is value so =
    subst (AreRead m c changed (k + 1)) (sym is.is) (record {
      side = so.side;
      whole = length-set b.heights e h ∙ so.whole;
      heights = λ z small. elim (cases_eq z e) [
        | inl same ↦ inl (ap (λ x. get_or (set b.heights e h) x void) same ∙ (get_or-set_same b.heights e h void is.inside
            ∙ (value ∙ (ap (λ n. metres (height_of m (point_of n c e))) so.side ∙ ap (λ x. metres (height_of m (point_of m.side c x))) (sym same)))))
        | inr other ↦ elim (so.heights z small) [
          | inl right ↦ inl (get_or-set_other b.heights e z h void other ∙ right)
          | inr left ↦ inr (later z other left)
        ]
      ];
      sinks = so.sinks;
    })
  where
    later : (z : ℕ) → z ≢ e → IsUnread changed k z → IsUnread changed (k + 1) z
    later z other left = elim (cases_eq left.0 k) [
      | inl here ↦ absurd (other (sym left.3 ∙ (ap (λ j. get_or changed j z) here ∙ (get_or_default changed k z d below ∙ at))))
      | inr further ↦ (left.0, (let from = left.1 in omega arith), left.2, left.3)
    ]

pub all_read : (m : Mosaic) (c : Corner) (changed : List ℕ) (k : ℕ) (b : Block) → length changed ≤ k → AreRead m c changed k b → IsBlockBut m c [] b
all_read m c changed k b end so = search rules

-- ---- a block without changed heights
