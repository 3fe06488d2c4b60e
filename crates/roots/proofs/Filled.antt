-- What a stop leaves while the other slot is closed and filled.
use Rattle.std.proofs.Common.{◌≡◌, ◌⊎◌, inl, inr, ⊎_elim, ◌<◌, ℕ, List, Bool, true, false, refl, sym, ap, ◌≢◌, ◌∙◌, subst, arith}
use Rattle.disk.specs.Disk.{Image, SameBut, TornAt}
use Rattle.disk.specs.Stops.{LeavesOnly, AddsNothing, weaker}
use Rattle.disk.specs.declared.disk.Disk.{Ghosts}
use Rattle.page_codec.specs.Roots.{RootValue}
use Rattle.roots.specs.declared.slot.Slot.{Slot}
use Rattle.roots.specs.declared.slot.Slot.TheVariants.{A}
use Rattle.roots.specs.Found.{Filling}
use Rattle.roots.specs.Slots.{is_open, gate, root_sector, other, IsSpelledBy, IsAt, SamePages, KeepsAll}
use Rattle.roots.specs.Found.{HasMoved}
use Rattle.roots.proofs.Begun.{then_committed}
use Rattle.roots.proofs.Turns.{taken, beside_slot, gate_torn, root_torn, closed_not_open, turned, pages_root, pages_gate, gate_beside}

-- A run without calls, or with reads alone, leaves the current root and the pages.
pub kept_all : {D : Type 0} (g : Ghosts D) (s : Slot) (o : Bool) (root : RootValue) (old new : D) → ((c : Image) → g.may old c → IsAt s o root c) → AddsNothing g old new → LeavesOnly g old new (KeepsAll root (g.may old))
kept_all g s o root old new each nothing = weaker g old new (g.may old) (KeepsAll root (g.may old)) (λ c may. ((s, (each c may).current), (c, may, λ k le. refl))) nothing.run

-- a write to the other slot's gate, where an earlier root is behind it
pub closing : {D : Type 0} (g : Ghosts D) (s : Slot) (root : RootValue) (old new : D) → ((c : Image) → g.may old c → IsAt s true root c) → LeavesOnly g old new (TornAt (gate (other s)) (g.may old)) → LeavesOnly g old new (KeepsAll root (g.may old))
closing g s root old new each run = weaker g old new (TornAt (gate (other s)) (g.may old)) (KeepsAll root (g.may old)) torn_at run
  where
    torn_at : (c : Image) → TornAt (gate (other s)) (g.may old) c → KeepsAll root (g.may old) c
    torn_at c torn = ((s, gate_torn s root torn.0 c torn.2 (each torn.0 torn.1)), (torn.0, torn.1, pages_gate (other s) torn.0 c torn.2))

-- a write of the root and then of the gate of the other slot, whose gate is closed at first
pub moved : (s : Slot) (root next : RootValue) (images : Image → Type 0) (seen c : Image) → ((d : Image) → images d → IsAt s false root d) → root.number < next.number → images seen
    → Filling (other s) next images seen c → KeepsAll root images c ⊎ HasMoved next seen c
moved s root next images seen c each less here (inl torn) =
    inl ((s, (root_torn s root torn.0 c torn.2 (each torn.0 torn.1)).current), (torn.0, torn.1, pages_root (other s) torn.0 c torn.2))
moved s root next images seen c each less here (inr f) =
    let at = root_torn s root seen f.0 f.1 (each seen here) in
    let pages : SamePages seen c = λ k le. pages_root (other s) seen f.0 f.1 k le ∙ pages_gate (other s) f.0 c f.3 k le in
    ⊎_elim (λ before. inl (before, (seen, here, pages))) (λ after. inr (after, pages)) (turned s root next f.0 c f.3 at.current f.2 less)

-- what a stop leaves during the whole run
pub moving : {D : Type 0} (g : Ghosts D) (s : Slot) (root next : RootValue) (old new : D) → ((d : Image) → g.may old d → IsAt s false root d) → root.number < next.number → g.may old (g.seen old)
    → LeavesOnly g old new (Filling (other s) next (g.may old) (g.seen old)) → LeavesOnly g old new (λ c. KeepsAll root (g.may old) c ⊎ HasMoved next (g.seen old) c)
moving g s root next old new each less here run =
    weaker g old new (Filling (other s) next (g.may old) (g.seen old)) (λ c. KeepsAll root (g.may old) c ⊎ HasMoved next (g.seen old) c)
    (λ c filling. moved s root next (g.may old) (g.seen old) c each less here filling) run

-- what a stop leaves during the whole run, where the commit was begun before
pub committing : {D : Type 0} (g : Ghosts D) (s t : Slot) (root now next : RootValue) (old mid new : D) → now ≡ root → t ≡ other s → LeavesOnly g old mid (KeepsAll root (g.may old)) → SamePages (g.seen old) (g.seen mid)
    → ((d : Image) → g.may mid d → IsAt s false now d) → root.number < next.number → g.may mid (g.seen mid)
    → LeavesOnly g mid new (Filling t next (g.may mid) (g.seen mid)) → LeavesOnly g old new (λ c. KeepsAll root (g.may old) c ⊎ HasMoved next (g.seen old) c)
committing g s t root now next old mid new same t_is first pages each less here run =
    then_committed g old mid root first new next pages
    (moving g s root next mid new (subst (λ (r : RootValue). (d : Image) → g.may mid d → IsAt s false r d) same each) less here
    (subst (λ (u : Slot). LeavesOnly g mid new (Filling u next (g.may mid) (g.seen mid))) t_is run))

-- what a stop leaves after the run
pub committed : (s t : Slot) (root next kept : RootValue) (d i : Image) → t ≡ other s → kept ≡ next → IsAt s false root d → root.number < next.number
    → ((k : ℕ) → k ≢ gate t → k ≢ root_sector t → d k ≡ i k) → IsSpelledBy next (i (root_sector t)) → is_open (i (gate t)) ≡ true → IsAt t true kept i
committed s t root next kept d i t_is kept_is at less =
    subst (λ (u : Slot). ((k : ℕ) → k ≢ gate u → k ≢ root_sector u → d k ≡ i k) → IsSpelledBy next (i (root_sector u)) → is_open (i (gate u)) ≡ true → IsAt u true kept i) (sym t_is)
    (λ others is shown.
    let was = subst (λ (l : List ℕ). IsSpelledBy root l) (beside_slot s d i others) at.current.here in
    let still : is_open (i (gate s)) ≡ true = ap is_open (sym (gate_beside s d i others)) ∙ at.current.opened in
    subst (λ (r : RootValue). IsAt (other s) true r i) (sym kept_is) (taken s root next i shown is still was less))

-- Both gates are closed, and then slot A is filled.
pub formatted_at : (root : RootValue) (closed settled image : Image) → is_open (closed 2) ≡ false → settled ≡ closed → ((k : ℕ) → k ≢ 0 → k ≢ 1 → settled k ≡ image k)
    → IsSpelledBy root (image 1) → is_open (image 0) ≡ true → IsAt A false root image
formatted_at root closed settled image shut same others is shown =
    let still : is_open (image 2) ≡ false = ap is_open (sym (others 2 (omega arith) (omega arith)) ∙ ap (λ (i : Image). i 2) same) ∙ shut in
    record {
      current = record { opened = shown; here = is; greatest = λ open_too. absurd (closed_not_open _ still open_too) };
      shown = λ x. absurd (cc x);
      shut = λ _. still;
      earlier = λ x. absurd (cc x);
    }

pub formatted_pages : (first second closed settled image : Image) → SameBut 0 first second → SameBut 2 second closed → settled ≡ closed → ((k : ℕ) → k ≢ 0 → k ≢ 1 → settled k ≡ image k) → SamePages first image
formatted_pages first second closed settled image one two same others k le =
    one k (omega (arith, le)) ∙ two k (omega (arith, le)) ∙ sym (ap (λ (i : Image). i k) same) ∙ others k (omega (arith, le)) (omega (arith, le))
