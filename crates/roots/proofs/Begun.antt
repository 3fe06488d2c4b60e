-- What a stop leaves after `begin` and the calls that follow it.
use Rattle.std.proofs.Common.{◌⊎◌, inl, inr, ⊎_elim, ℕ, ◌∙◌}
use Rattle.disk.specs.Disk.{Image}
use Rattle.disk.specs.Stops.{LeavesOnly, in_turn, weaker}
use Rattle.disk.specs.declared.disk.Disk.{Ghosts}
use Rattle.page_codec.specs.Roots.{RootValue}
use Rattle.roots.specs.Slots.{SamePages, KeepsAll, KeepsBut}
use Rattle.roots.specs.Found.{HasMoved}

module _ {D : Type 0} (g : Ghosts D) (old mid : D) (root : RootValue) (first : LeavesOnly g old mid (KeepsAll root (g.may old))) where
  all_again : (i : Image) → KeepsAll root (g.may mid) i → KeepsAll root (g.may old) i
  all_again i keeps = let was = first.now keeps.1.0 keeps.1.1 in (keeps.0, (was.1.0, was.1.1, λ k le. was.1.2 k le ∙ keeps.1.2 k le))

  -- `begin` alone leaves every page, so it leaves all pages but one.
  pub begun_for_page : (p : ℕ) → LeavesOnly g old mid (KeepsBut p root (g.may old))
  begun_for_page p = weaker g old mid (KeepsAll root (g.may old)) (KeepsBut p root (g.may old)) (λ i keeps. (keeps.0, (keeps.1.0, keeps.1.1, λ k le other. keeps.1.2 k le))) first

  pub begun_for_root : (next : RootValue) → LeavesOnly g old mid (λ i. KeepsAll root (g.may old) i ⊎ HasMoved next (g.seen old) i)
  begun_for_root next = weaker g old mid (KeepsAll root (g.may old)) (λ i. KeepsAll root (g.may old) i ⊎ HasMoved next (g.seen old) i) (λ i keeps. inl keeps) first

  pub then_written : (new : D) (p : ℕ) → LeavesOnly g mid new (KeepsBut p root (g.may mid)) → LeavesOnly g old new (KeepsBut p root (g.may old))
  then_written new p second =
      in_turn g old mid new (KeepsBut p root (g.may old)) (begun_for_page p)
      (weaker g mid new (KeepsBut p root (g.may mid)) (KeepsBut p root (g.may old))
      (λ i keeps. let was = first.now keeps.1.0 keeps.1.1 in (keeps.0, (was.1.0, was.1.1, λ k le other. was.1.2 k le ∙ keeps.1.2 k le other))) second)

  pub then_committed : (new : D) (next : RootValue) → SamePages (g.seen old) (g.seen mid)
      → LeavesOnly g mid new (λ i. KeepsAll root (g.may mid) i ⊎ HasMoved next (g.seen mid) i) → LeavesOnly g old new (λ i. KeepsAll root (g.may old) i ⊎ HasMoved next (g.seen old) i)
  then_committed new next same second =
      let P : Image → Type 0 = λ i. KeepsAll root (g.may old) i ⊎ HasMoved next (g.seen old) i in
      in_turn g old mid new P (begun_for_root next)
      (weaker g mid new (λ i. KeepsAll root (g.may mid) i ⊎ HasMoved next (g.seen mid) i) P (λ i leaves. ⊎_elim (λ keeps. inl (all_again i keeps)) (λ moved. inr (moved.0, λ k le. same k le ∙ moved.1 k le)) leaves) second)
