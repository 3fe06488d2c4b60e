-- What one changed sector leaves of two roots behind gates, for images without a disk.
use Rattle.std.proofs.Common.{◌≡◌, ◌≢◌, ◌⊎◌, inl, inr, ◌≤◌, ◌<◌, ℕ, List, Bool, true, false, refl, sym, ◌∙◌, ap, subst, arith}
use Rattle.disk.specs.Disk.{Image, SameBut}
use Rattle.page_codec.specs.Roots.{RootValue}
use Rattle.roots.specs.declared.slot.Slot.{Slot}
use Rattle.roots.specs.declared.slot.Slot.TheVariants.{A, B}
use Rattle.roots.specs.Slots.{is_open, gate, root_sector, other, IsSpelledBy, IsLaterThan, IsCurrentIn, IsCurrent, IsAt, SamePages}

-- The sectors of both slots are the same, except this slot's.
pub record SameSlots (s : Slot) (d c : Image) : Type 0 where
  pub gate_is : d (gate s) ≡ c (gate s)
  pub root_is : d (root_sector s) ≡ c (root_sector s)

pub beside_root : (s : Slot) (d c : Image) → SameBut (root_sector (other s)) d c → SameSlots s d c × (d (gate (other s)) ≡ c (gate (other s)))
beside_root A d c but = (record { gate_is = but 0 (omega arith); root_is = but 1 (omega arith) }, but 2 (omega arith))
beside_root B d c but = (record { gate_is = but 2 (omega arith); root_is = but 3 (omega arith) }, but 0 (omega arith))

pub beside_gate : (s : Slot) (d c : Image) → SameBut (gate (other s)) d c → SameSlots s d c × (d (root_sector (other s)) ≡ c (root_sector (other s)))
beside_gate A d c but = (record { gate_is = but 0 (omega arith); root_is = but 1 (omega arith) }, but 3 (omega arith))
beside_gate B d c but = (record { gate_is = but 2 (omega arith); root_is = but 3 (omega arith) }, but 1 (omega arith))

pub beside_page : (s : Slot) (p : ℕ) (d c : Image) → 4 ≤ p → SameBut p d c → SameSlots s d c
beside_page A p d c le but = record { gate_is = but 0 (omega (arith, le)); root_is = but 1 (omega (arith, le)) }
beside_page B p d c le but = record { gate_is = but 2 (omega (arith, le)); root_is = but 3 (omega (arith, le)) }

-- The current root stays current if the other slot still has an earlier root or a closed gate.
stays : (s : Slot) (root : RootValue) (d c : Image) → SameSlots s d c → IsCurrentIn s root d
    → (is_open (c (gate (other s))) ≡ true → IsLaterThan root (c (root_sector (other s)))) → IsCurrentIn s root c
stays s root d c same h greatest = record {
  opened = ap is_open (sym same.gate_is) ∙ h.opened;
  here = subst (λ (l : List ℕ). IsSpelledBy root l) same.root_is h.here;
  greatest = greatest;
}

pub closed_not_open : (b : Bool) → b ≡ false → ¬ (b ≡ true)
closed_not_open b shut shown = absurd (cc (sym shut ∙ shown))

-- the case of a changed page
pub page_torn : (s : Slot) (root : RootValue) (p : ℕ) (d c : Image) → 4 ≤ p → SameBut p d c → IsCurrentIn s root d → IsCurrentIn s root c
page_torn s root p d c le but h =
    let there = beside_page (other s) p d c le but in
    stays s root d c (beside_page s p d c le but) h
    (λ shown. subst (λ (l : List ℕ). IsLaterThan root l) there.root_is (h.greatest (ap is_open there.gate_is ∙ shown)))

pub page_kept : (s : Slot) (o : Bool) (root : RootValue) (p : ℕ) (d c : Image) → 4 ≤ p → SameBut p d c → IsAt s o root d → IsAt s o root c
page_kept s o root p d c le but h =
    let there = beside_page (other s) p d c le but in
    record {
      current = page_torn s root p d c le but h.current;
      shown = λ is. ap is_open (sym there.gate_is) ∙ h.shown is;
      shut = λ is. ap is_open (sym there.gate_is) ∙ h.shut is;
      earlier = λ is. subst (λ (l : List ℕ). IsLaterThan root l) there.root_is (h.earlier is);
    }

-- the case of a changed gate of the other slot, where an earlier root is behind it
pub gate_torn : (s : Slot) (root : RootValue) (d c : Image) → SameBut (gate (other s)) d c → IsAt s true root d → IsCurrentIn s root c
gate_torn s root d c but h =
    let same = beside_gate s d c but in
    stays s root d c same.0 h.current (λ _. subst (λ (l : List ℕ). IsLaterThan root l) same.1 (h.earlier refl))

-- the case of a gate of the other slot that is closed now, where an earlier root is behind it
pub gate_closed : (s : Slot) (root : RootValue) (d c : Image) → SameBut (gate (other s)) d c → IsCurrentIn s root d → is_open (c (gate (other s))) ≡ false → IsAt s false root c
gate_closed s root d c but h shut =
    let same = beside_gate s d c but in
    record {
      current = stays s root d c same.0 h (λ shown. absurd (closed_not_open _ shut shown));
      shown = λ is. absurd (cc is);
      shut = λ _. shut;
      earlier = λ is. absurd (cc is);
    }

-- the case of a changed root of the other slot, whose gate is closed
pub root_torn : (s : Slot) (root : RootValue) (d c : Image) → SameBut (root_sector (other s)) d c → IsAt s false root d → IsAt s false root c
root_torn s root d c but h =
    let same = beside_root s d c but in
    let shut : is_open (c (gate (other s))) ≡ false = ap is_open (sym same.1) ∙ h.shut refl in
    record {
      current = stays s root d c same.0 h.current (λ shown. absurd (closed_not_open _ shut shown));
      shown = λ is. absurd (cc is);
      shut = λ _. shut;
      earlier = λ is. absurd (cc is);
    }

-- the gate of the other slot is open now, and a later root stands behind it
pub taken : (s : Slot) (root next : RootValue) (c : Image) → is_open (c (gate (other s))) ≡ true → IsSpelledBy next (c (root_sector (other s))) → is_open (c (gate s)) ≡ true → IsSpelledBy root (c (root_sector s)) → root.number < next.number → IsAt (other s) true next c
taken A root next c shown is still was less = record { current = record { opened = shown; here = is; greatest = λ _. (root, was, less) }; shown = λ _. still; shut = λ x. absurd (cc x); earlier = λ _. (root, was, less) }
taken B root next c shown is still was less = record { current = record { opened = shown; here = is; greatest = λ _. (root, was, less) }; shown = λ _. still; shut = λ x. absurd (cc x); earlier = λ _. (root, was, less) }

-- the case of a torn gate of the other slot: the current root is the old or the new one
pub turned : (s : Slot) (root next : RootValue) (d c : Image) → SameBut (gate (other s)) d c → IsCurrentIn s root d → IsSpelledBy next (d (root_sector (other s))) → root.number < next.number
    → IsCurrent root c ⊎ IsCurrent next c
turned s root next d c but h is less =
    let same = beside_gate s d c but in
    elim (either (is_open (c (gate (other s))))) [
      | inl shown ↦ inr (other s, (taken s root next c shown (subst (λ (l : List ℕ). IsSpelledBy next l) same.1 is) (ap is_open (sym same.0.gate_is) ∙ h.opened) (subst (λ (l : List ℕ). IsSpelledBy root l) same.0.root_is h.here) less).current)
      | inr shut ↦ inl (s, (gate_closed s root d c but h shut).current)
    ]
  where
    either : (b : Bool) → (b ≡ true) ⊎ (b ≡ false)
    either true = inl refl
    either false = inr refl

-- A change of a root's sector changes no page.
pub pages_root : (s : Slot) (d c : Image) → SameBut (root_sector s) d c → SamePages d c
pages_root A d c but k le = but k (omega (arith, le))
pages_root B d c but k le = but k (omega (arith, le))

pub pages_gate : (s : Slot) (d c : Image) → SameBut (gate s) d c → SamePages d c
pages_gate A d c but k le = but k (omega (arith, le))
pages_gate B d c but k le = but k (omega (arith, le))

-- Only the two sectors of the other slot may differ.
pub beside_slot : (s : Slot) (d c : Image) → ((k : ℕ) → k ≢ gate (other s) → k ≢ root_sector (other s) → d k ≡ c k) → d (root_sector s) ≡ c (root_sector s)
beside_slot A d c but = but 1 (omega arith) (omega arith)
beside_slot B d c but = but 3 (omega arith) (omega arith)

pub gate_beside : (s : Slot) (d c : Image) → ((k : ℕ) → k ≢ gate (other s) → k ≢ root_sector (other s) → d k ≡ c k) → d (gate s) ≡ c (gate s)
gate_beside A d c but = but 0 (omega arith) (omega arith)
gate_beside B d c but = but 2 (omega arith) (omega arith)
