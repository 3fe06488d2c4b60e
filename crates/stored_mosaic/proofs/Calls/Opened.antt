-- When opening succeeds, and the state of a store whose tree was opened.
use Rattle.stored_mosaic.proofs.Prelude.{Contents, Device, Err, Ghosts, Holds, Image, IsInState, List, NoMemory, Ok, Refusal, Result, RootValue, Some, StandsFor, StandsForState, State, Stored, TileLocation, Tree, ℕ, ap, inl, inr, number_of, one_stored, refl, subst, sym, working, ◌∙◌, ◌≡◌, ◌⊎◌}
use Rattle.roots.specs.Opening.{OpensAs}
use Rattle.roots.proofs.OneAnswer.{only_root}
use Rattle.cow_tree.specs.Layout.{IsLaidOut, Stands}
use Rattle.cow_tree.specs.Trees.{MayRefuse, disk_of, root_of, sinks_of, staged_in, IsAt as IsTreeAt}
use Rattle.derived.proofs.RootStored.{side_at, version_at, capacity_at, count_at, number_at, sinks_at, stale_at}

ok_same : (a b : RootValue) → ◌≡◌ {A = Result RootValue Refusal} (Ok a) (Ok b) → a ≡ b
ok_same a b e = cc

module _ (sectors : ℕ) (image : Image) where
  -- The roots of the image open.
  pub roots_open : (s : Stored) (why : Refusal) → Stands sectors image s → OpensAs sectors image (Err why) → ⊥
  roots_open s why stands opens = let same = only_root sectors image stands.0 (Err why) stands.2.laid_out.store opens in cc

  -- The tiles of the root that they answer are at the locations of its entries.
  pub tiles_lie : (s : Stored) (root : RootValue) → Stands sectors image s → OpensAs sectors image (Ok root) → (tiles : List TileLocation) × IsLaidOut sectors image root tiles
  tiles_lie s root stands opens =
      let same : root ≡ stands.0 = ok_same root stands.0 (only_root sectors image stands.0 (Ok root) stands.2.laid_out.store opens) in
      (stands.1, subst (λ (r : RootValue). IsLaidOut sectors image r stands.1) (sym same) stands.2.laid_out)

  -- So opening is refused only with Device or NoMemory.
  pub refused_for : (s : Stored) (why : Refusal) → Stands sectors image s → MayRefuse sectors image why → (why ≡ Device) ⊎ (why ≡ NoMemory)
  refused_for s why stands (inl device) = inl device
  refused_for s why stands (inr (inl memory)) = inr memory
  refused_for s why stands (inr (inr (inl opens))) = absurd (roots_open s why stands opens)
  refused_for s why stands (inr (inr (inr (damaged, (root, (opens, none)))))) = let lie = tiles_lie s root stands opens in absurd (none lie.0 lie.1)

  -- What opening finds are the contents.
  pub found_holds : (side capacity : ℕ) (s : Stored) (c : Contents) → Stands sectors image s → StandsFor sectors side capacity image c → Holds side capacity s c
  found_holds side capacity s c stands is = subst (λ (x : Stored). Holds side capacity x c) (one_stored sectors image is.0 s is.1 stands) is.2

  -- What opening finds are those of the two contents that the image stores.
  pub found_one : (side capacity : ℕ) (s : Stored) (a b : Contents) → Stands sectors image s → StandsFor sectors side capacity image a ⊎ StandsFor sectors side capacity image b
      → Holds side capacity s a ⊎ Holds side capacity s b
  found_one side capacity s a b stands (inl is) = inl (found_holds side capacity s a stands is)
  found_one side capacity s a b stands (inr is) = inr (found_holds side capacity s b stands is)

-- a tree that hasn't failed, with nothing staged, which stores contents
module _ {D : Type 0} (g : Ghosts D) (tree : Tree D g) (stored : Stored) (at : IsTreeAt g tree stored) (clean : staged_in g tree ≡ stored.tiles) (seen : g.may (disk_of tree) (g.seen (disk_of tree))) where
  -- The side and the capacity of the contents are the root's.
  held_by_root : (side capacity : ℕ) (c : Contents) → Holds side capacity stored c → Holds (root_of tree).side (root_of tree).capacity stored c
  held_by_root side capacity c holds =
      subst (λ (n : ℕ). Holds n (root_of tree).capacity stored c) (sym holds.stored_side ∙ side_at g tree stored at seen)
      (subst (λ (n : ℕ). Holds side n stored c) (sym holds.stored_capacity ∙ capacity_at g tree stored at seen) holds)

  pub in_state : sinks_of tree ≡ (root_of tree).sinks → (side capacity : ℕ) (c : Contents) → Holds side capacity stored c → IsInState g tree (working c)
  in_state declared side capacity c held =
      let holds = held_by_root side capacity c held in
      record {
        images = λ image may. inl (stored, (root_of tree, tree.page_map.committed, at.each image may), holds);
        side_is = holds.side_is;
        version = sym (holds.version ∙ ap number_of (version_at g tree stored at seen));
        count = sym (count_at g tree stored at seen) ∙ holds.count;
        number = sym (number_at g tree stored at seen) ∙ holds.number;
        stale = stale_at g tree stored at seen ∙ sym holds.stale;
        failed_is = at.ready.works;
        sound = λ _. record { stored = stored; tree = at; holds = holds; nothing_staged = clean; none_declared = declared ∙ sym (sinks_at g tree stored at seen); no_doubt = refl };
      }

  module _ (side capacity : ℕ) where
    numbers : (a : Contents) → Holds side capacity stored a → ((root_of tree).side ≡ side) × ((root_of tree).capacity ≡ capacity)
    numbers a holds = (sym (side_at g tree stored at seen) ∙ holds.stored_side, sym (capacity_at g tree stored at seen) ∙ holds.stored_capacity)

    -- the tree in one of two states
    pub in_one : sinks_of tree ≡ (root_of tree).sinks → (a b : Contents) → Holds side capacity stored a ⊎ Holds side capacity stored b
        → ((root_of tree).side ≡ side) × (((root_of tree).capacity ≡ capacity) × (IsInState g tree (working a) ⊎ IsInState g tree (working b)))
    in_one declared a b (inl holds) = let are = numbers a holds in (are.0, (are.1, inl (in_state declared side capacity a holds)))
    in_one declared a b (inr holds) = let are = numbers b holds in (are.0, (are.1, inr (in_state declared side capacity b holds)))

    -- the tree in the last known state, or in that of the commit in doubt
    pub in_known : sinks_of tree ≡ (root_of tree).sinks → (sectors : ℕ) (image : Image) (s : State) → Stands sectors image stored → StandsForState sectors side capacity image s
        → IsInState g tree (working s.contents) ⊎ ((doubted : Contents) × (s.doubt ≡ Some doubted) × IsInState g tree (working doubted))
    in_known declared sectors image s stands (inl is) = inl (in_state declared side capacity s.contents (found_holds sectors image side capacity stored s.contents stands is))
    in_known declared sectors image s stands (inr (doubted, some, is)) = inr (doubted, some, in_state declared side capacity doubted (found_holds sectors image side capacity stored doubted stands is))

    -- The side and the capacity are those of the state.
    pub sized_as_known : (sectors : ℕ) (image : Image) (s : State) → Stands sectors image stored → StandsForState sectors side capacity image s → ((root_of tree).side ≡ side) × ((root_of tree).capacity ≡ capacity)
    sized_as_known sectors image s stands (inl is) = numbers s.contents (found_holds sectors image side capacity stored s.contents stands is)
    sized_as_known sectors image s stands (inr (doubted, some, is)) = numbers doubted (found_holds sectors image side capacity stored doubted stands is)
