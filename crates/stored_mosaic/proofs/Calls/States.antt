-- The states of a store before and after a call that leaves its tree's root.
use Rattle.std.proofs.Common.{rules}
use Rattle.stored_mosaic.proofs.Prelude.{Contents, Ghosts, Holds, Image, IsInState, IsSound, None, RootValue, StandsFor, StandsForState, State, Tree, ℕ, ap, failing, false, inl, inr, number_of, refl, stale_in, subst, sym, true, true≢false, ◌∙◌, ◌≡◌}
use Rattle.std.proofs.lemmas.Option.{none-some}
use Rattle.cow_tree.specs.Trees.{disk_of, root_of, has_failed, sinks_of, staged_in, IsAt as IsTreeAt}

module _ {D : Type 0} (g : Ghosts D) (old new : Tree D g) (root : root_of new ≡ root_of old) (size : g.size (disk_of new) ≡ g.size (disk_of old)) (s : State) (at : IsInState g old s) where
  abbrev Stands : State → Image → Type 0
  Stands t image = StandsForState (g.size (disk_of old)) (root_of old).side (root_of old).capacity image t

  -- a state with the same contents
  same_contents : (t : State) → t.contents ≡ s.contents → ((image : Image) → g.may (disk_of new) image → Stands t image) → has_failed new ≡ t.failed → (has_failed new ≡ false → IsSound g new t) → IsInState g new t
  same_contents t same images failed sound = search rules

  -- the same state, of a tree that hasn't failed
  pub stays_in : has_failed new ≡ false → s.failed ≡ false → ((image : Image) → g.may (disk_of new) image → Stands s image) → (sound : IsSound g old s)
      → IsTreeAt g new sound.stored → staged_in g new ≡ sound.stored.tiles → sinks_of new ≡ sound.stored.sinks → IsInState g new s
  stays_in works working images sound tree tiles sinks = search rules

  -- a state with the same contents, of a tree that has failed
  pub fails_in : has_failed new ≡ true → (t : State) → t.contents ≡ s.contents → t.failed ≡ true → ((image : Image) → g.may (disk_of new) image → Stands t image) → IsInState g new t
  fails_in fails t same is images = same_contents t same images (fails ∙ sym is) (λ works. absurd (true≢false (sym fails ∙ works)))

  -- A call that only read has failed, and no commit is in doubt.
  pub reads_fail : has_failed new ≡ true → s.doubt ≡ None → ((image : Image) → g.may (disk_of new) image → g.may (disk_of old) image) → IsInState g new (failing s None)
  reads_fail fails none none_new = fails_in fails (failing s None) refl refl (λ image may. inl (contents image (at.images image (none_new image may))))
    where
      contents : (image : Image) → Stands s image → StandsFor (g.size (disk_of old)) (root_of old).side (root_of old).capacity image s.contents
      contents image (inl is) = is
      contents image (inr (made, some, is)) = absurd (none-some made (sym none ∙ some))
