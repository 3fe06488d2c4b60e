-- What a stop leaves of a root that isn't the current one, for who reads beside the writer.
use Rattle.std.proofs.Common.{◌≡◌, ◌≢◌, ◌⊎◌, inl, inr, ⊎_elim, ◌≤◌, ◌<◌, ℕ, List, Bool, true, false, refl, sym, ◌∙◌, ap, subst, arith}
use Rattle.disk.specs.Disk.{Image, SameBut, TornAt}
use Rattle.disk.specs.Stops.{LeavesOnly, in_turn, weaker}
use Rattle.disk.specs.declared.disk.Disk.{Ghosts}
use Rattle.page_codec.specs.Roots.{RootValue}
use Rattle.page_codec.proofs.RootBytes.{same_roots}
use Rattle.roots.specs.declared.slot.Slot.{Slot}
use Rattle.roots.specs.declared.slot.Slot.TheVariants.{A, B}
use Rattle.roots.specs.Found.{Filling, KeepsEarlierYet}
use Rattle.roots.specs.Slots.{is_open, gate, root_sector, other, IsSpelledBy, IsCurrentIn, IsAt, SamePages, StandsOpen, KeepsEarlier}
use Rattle.roots.proofs.Turns.{SameSlots, beside_root, beside_gate, beside_page, root_torn, page_torn, closed_not_open, pages_gate}

same_root : (a b : RootValue) (bytes : List ℕ) → IsSpelledBy a bytes → IsSpelledBy b bytes → a ≡ b
same_root a b bytes h k = same_roots a b h.rules k.rules (sym h.spelled ∙ k.spelled)

-- a slot is this one or the other
which : (s t : Slot) → (t ≡ s) ⊎ (t ≡ other s)
which A A = inl refl
which A B = inr refl
which B A = inr refl
which B B = inl refl

-- a root other than the one in this slot stands in the other slot
pub in_other : (s : Slot) (root earlier : RootValue) (c : Image) → IsSpelledBy root (c (root_sector s)) → earlier ≢ root → StandsOpen earlier c
    → (is_open (c (gate (other s))) ≡ true) × IsSpelledBy earlier (c (root_sector (other s)))
in_other s root earlier c here differs stands = ⊎_elim
    (λ same. absurd (differs (same_root earlier root (c (root_sector s)) (subst (λ (t : Slot). IsSpelledBy earlier (c (root_sector t))) same stands.2) here)))
    (λ same. subst (λ (t : Slot). (is_open (c (gate t)) ≡ true) × IsSpelledBy earlier (c (root_sector t))) same (stands.1, stands.2))
    (which s stands.0)

-- behind a closed gate none does
pub none_earlier : (s : Slot) (root : RootValue) (images : Image → Type 0) (c : Image) → IsSpelledBy root (c (root_sector s)) → is_open (c (gate (other s))) ≡ false → KeepsEarlier root images c
none_earlier s root images c here shut earlier differs stands = absurd (closed_not_open _ shut (in_other s root earlier c here differs stands).0)

-- where nothing was done
pub stays_earlier : (root : RootValue) (images : Image → Type 0) (c : Image) → images c → KeepsEarlier root images c
stays_earlier root images c is earlier differs stands = (c, is, stands, λ k le. refl)

-- while the other gate is closed
pub closing_earlier : (s : Slot) (root : RootValue) (images : Image → Type 0) (c : Image) → ((d : Image) → images d → IsAt s true root d) → TornAt (gate (other s)) images c → KeepsEarlier root images c
closing_earlier s root images c each torn earlier differs stands =
    let d = torn.0 in
    let at = each d torn.1 in
    let same = beside_gate s d c torn.2 in
    let there = in_other s root earlier c (subst (λ (l : List ℕ). IsSpelledBy root l) same.0.root_is at.current.here) differs stands in
    (d, torn.1, (other s, at.shown refl, subst (λ (l : List ℕ). IsSpelledBy earlier l) (sym same.1) there.1), pages_gate (other s) d c torn.2)

-- while the closed slot is filled: none but the two
pub filling_earlier : (s : Slot) (root next : RootValue) (images : Image → Type 0) (seen c : Image) → ((d : Image) → images d → IsAt s false root d) → images seen → Filling (other s) next images seen c
    → (earlier : RootValue) → earlier ≢ root → earlier ≢ next → ¬ StandsOpen earlier c
filling_earlier s root next images seen c each here (inl torn) earlier differs _ stands =
    let at = root_torn s root torn.0 c torn.2 (each torn.0 torn.1) in
    closed_not_open _ (at.shut refl) (in_other s root earlier c at.current.here differs stands).0
filling_earlier s root next images seen c each here (inr f) earlier differs later stands =
    let at = root_torn s root seen f.0 f.1 (each seen here) in
    let same = beside_gate s f.0 c f.3 in
    let there = in_other s root earlier c (subst (λ (l : List ℕ). IsSpelledBy root l) same.0.root_is at.current.here) differs stands in
    later (same_root earlier next _ there.1 (subst (λ (l : List ℕ). IsSpelledBy next l) same.1 f.2))

module _ {D : Type 0} (g : Ghosts D) (old mid : D) (root : RootValue) (first : LeavesOnly g old mid (KeepsEarlier root (g.may old))) where
  -- what is kept of what was kept
  again : (c : Image) → KeepsEarlier root (g.may mid) c → KeepsEarlier root (g.may old) c
  again c keeps earlier differs stands =
      let then = keeps earlier differs stands in
      let was = first.now then.0 then.1 earlier differs then.2 in
      (was.0, was.1, was.2, λ k le. was.3 k le ∙ then.3 k le)

  pub then_kept : (new : D) → LeavesOnly g mid new (KeepsEarlier root (g.may mid)) → LeavesOnly g old new (KeepsEarlier root (g.may old))
  then_kept new second = in_turn g old mid new (KeepsEarlier root (g.may old)) first (weaker g mid new (KeepsEarlier root (g.may mid)) (KeepsEarlier root (g.may old)) again second)

  yet : (next : RootValue) (c : Image) → KeepsEarlier root (g.may old) c → KeepsEarlierYet root next (g.may old) c
  yet next c keeps earlier differs _ = keeps earlier differs

  pub kept_yet : (next : RootValue) → LeavesOnly g old mid (KeepsEarlierYet root next (g.may old))
  kept_yet next = weaker g old mid (KeepsEarlier root (g.may old)) (KeepsEarlierYet root next (g.may old)) (yet next) first

  -- begun, and then the closed slot is filled
  pub then_filled : (s t : Slot) (now next : RootValue) (new : D) → now ≡ root → t ≡ other s → ((d : Image) → g.may mid d → IsAt s false now d) → g.may mid (g.seen mid)
      → LeavesOnly g mid new (Filling t next (g.may mid) (g.seen mid)) → LeavesOnly g old new (KeepsEarlierYet root next (g.may old))
  then_filled s t now next new same t_is each here second =
      in_turn g old mid new (KeepsEarlierYet root next (g.may old)) (kept_yet next)
      (weaker g mid new (Filling t next (g.may mid) (g.seen mid)) (KeepsEarlierYet root next (g.may old))
      (λ c filling earlier differs later stands. absurd (filling_earlier s root next (g.may mid) (g.seen mid) c
      (subst (λ (r : RootValue). (d : Image) → g.may mid d → IsAt s false r d) same each) here
      (subst (λ (u : Slot). Filling u next (g.may mid) (g.seen mid) c) t_is filling) earlier differs later stands))
      second)
