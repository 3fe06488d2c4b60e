-- Laws of what a stop leaves of a store over a run of calls.
use Rattle.std.proofs.Common.{arith, refl, ◌∙◌, ◌≡◌, ℕ, List, ◌∷◌, ◌++◌, Contains}
use Rattle.std.proofs.lemmas.List.Elements.{Contains-append_left, Contains-append_right}
use Rattle.disk.specs.Disk.{Image}
use Rattle.disk.specs.Stops.{in_turn, weaker, nothing_done as no_call}
use Rattle.disk.specs.declared.disk.Disk.{Ghosts}
use Rattle.engine.specs.State.{State}
use Rattle.stored_mosaic.specs.States.{StandsForState}
use Rattle.store.specs.Stores.{disk_of, side_of, capacity_of, IsAt}
use Rattle.store.specs.declared.store.Store.{Store}
use Rattle.store.specs.StoreState.{StandsForOne, LeavesStates}

first_contained : (s : State) (others : List State) → Contains (s ∷ others) s
first_contained s others = (0, omega arith, refl)

-- An image stores the same for equal sizes, sides and capacities.
pub same_stands : (a b c d e f : ℕ) → a ≡ d → b ≡ e → c ≡ f → (image : Image) (s : State) → StandsForState a b c image s → StandsForState d e f image s
same_stands a b c d e f size side capacity image s stands = rw (← size, ← side, ← capacity) stands

module _ {D : Type 0} {g : Ghosts D} where
  -- an image that the state allows
  pub allowed : (store : Store D g) (s : State) (others : List State) → IsAt g store s → (image : Image) → g.may (disk_of store) image
      → StandsForOne (g.size (disk_of store)) (side_of store) (capacity_of store) (s ∷ others) image
  allowed store s others is image may = (s, first_contained s others, is.in_state.images image may)

  -- the case of no call, on a disk whose law says that only present images count since the present moment
  pub nothing_done : (store : Store D g) (s : State) (others : List State)
      → ((image : Image) → g.honest (disk_of store) → g.since (disk_of store) (g.moment (disk_of store)) image → g.may (disk_of store) image)
      → g.honest (disk_of store) → IsAt g store s → LeavesStates g store store (s ∷ others)
  nothing_done store s others only_now honest is = record {
    size = refl;
    side = refl;
    capacity = refl;
    run = weaker g (disk_of store) (disk_of store) (g.may (disk_of store)) (StandsForOne (g.size (disk_of store)) (side_of store) (capacity_of store) (s ∷ others))
        (allowed store s others is) (no_call g (disk_of store) only_now honest).run;
  }

  -- If a stop leaves one of some states, it leaves one of any longer list with these states.
  pub among_more : (old new : Store D g) (states more : List State) → ((s : State) → Contains states s → Contains more s) → LeavesStates g old new states → LeavesStates g old new more
  among_more old new states more among leaves = record {
    size = leaves.size;
    side = leaves.side;
    capacity = leaves.capacity;
    run = weaker g (disk_of old) (disk_of new) (StandsForOne (g.size (disk_of old)) (side_of old) (capacity_of old) states) (StandsForOne (g.size (disk_of old)) (side_of old) (capacity_of old) more)
        (λ image (s, one, stands). (s, among s one, stands)) leaves.run;
  }

  -- one run followed by another
  pub one_by_one : (old mid new : Store D g) (states more : List State) → LeavesStates g old mid states → LeavesStates g mid new more → LeavesStates g old new (states ++ more)
  one_by_one old mid new states more first second = record {
    size = second.size ∙ first.size;
    side = second.side ∙ first.side;
    capacity = second.capacity ∙ first.capacity;
    run = in_turn g (disk_of old) (disk_of mid) (disk_of new) Allowed
        (weaker g (disk_of old) (disk_of mid) (StandsForOne (g.size (disk_of old)) (side_of old) (capacity_of old) states) Allowed before first.run)
        (weaker g (disk_of mid) (disk_of new) (StandsForOne (g.size (disk_of mid)) (side_of mid) (capacity_of mid) more) Allowed after second.run);
  }
    where
      Allowed : Image → Type 0
      Allowed = StandsForOne (g.size (disk_of old)) (side_of old) (capacity_of old) (states ++ more)

      before : (image : Image) → StandsForOne (g.size (disk_of old)) (side_of old) (capacity_of old) states image → Allowed image
      before image (s, one, stands) = (s, Contains-append_left states more s one, stands)

      after : (image : Image) → StandsForOne (g.size (disk_of mid)) (side_of mid) (capacity_of mid) more image → Allowed image
      after image (s, one, stands) = (s, Contains-append_right states more s one, same_stands _ _ _ _ _ _ first.size first.side first.capacity image s stands)
