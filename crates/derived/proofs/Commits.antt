-- A commit that follows calls which commit nothing.
use Rattle.std.proofs.Common.{◌≡◌, ◌⊎◌, inl, ℕ, ◌+◌, Result, Ok, OnOk, OnErr, ap, ◌∙◌, subst}
use Rattle.disk.specs.Stops.{LeavesOnly, weaker, in_turn}
use Rattle.disk.specs.declared.disk.Disk.{Ghosts}
use Rattle.lattice.specs.declared.refusal.Refusal.{Refusal}
use Rattle.page_codec.specs.Roots.{RootValue}
use Rattle.cow_tree.specs.Layout.{Stands}
use Rattle.cow_tree.specs.Stored.{Stored}
use Rattle.cow_tree.specs.Trees.{disk_of, root_of}
use Rattle.cow_tree.specs.Uncommitted.{CommitsNothing}
use Rattle.cow_tree.proofs.Uncommitted.{returns_on}
use Rattle.cow_tree.specs.declared.tree.Tree.{Tree}
use Rattle.derived.specs.Steps.{Commits}

pub commits_after : {D T U : Type 0} (g : Ghosts D) (Makes : Stored → Stored) (old mid new : Tree D g) (x : T) (result : Result U Refusal) → CommitsNothing g old mid (Ok x) → Commits g Makes mid new result → Commits g Makes old new result
commits_after g Makes old mid new x result done is = record {
  returns = returns_on g old mid new x result done.returns is.returns;
  side = is.side ∙ ap (λ (r : RootValue). r.side) done.root;
  capacity = is.capacity ∙ ap (λ (r : RootValue). r.capacity) done.root;
  number = subst (λ (r : RootValue). OnOk result ((root_of new).number ≡ r.number + 1)) done.root is.number;
  last_known = subst (λ (r : RootValue). OnErr result (root_of new ≡ r)) done.root is.last_known;
  clean = is.clean;
  declared = is.declared;
  at = λ h s at. is.at h s (done.at (is.returns.honest h) s at done.returns.works);
  run = λ h s at.
      let n : ℕ = g.size (disk_of old) in
      in_turn g (disk_of old) (disk_of mid) (disk_of new) (λ image. Stands n image s ⊎ Stands n image (Makes s))
      (weaker g (disk_of old) (disk_of mid) (λ image. Stands n image s) (λ image. Stands n image s ⊎ Stands n image (Makes s)) (λ image was. inl was) (done.run (is.returns.honest h) s at))
      (subst (λ (k : ℕ). LeavesOnly g (disk_of mid) (disk_of new) (λ image. Stands k image s ⊎ Stands k image (Makes s))) done.returns.size (is.run h s (done.at (is.returns.honest h) s at done.returns.works)));
}
