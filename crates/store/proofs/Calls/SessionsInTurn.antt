-- Sessions one after another: what each leaves, and what each opening finds.
use Rattle.std.proofs.Common.{rules}
use Rattle.store.proofs.Prelude.{Bool, ComesBy, Command, Contains-push_cases, Contents, Err, Ghosts, IfErr, Image, IsMadeOf, LeavesStates, List, Ok, Result, Since, StandsFor, StandsForOne, StandsForState, State, Store, ℕ, [], arith, has_room, inl, inr, none_asked, refl, subst, sym, true≢false, working, ⊎_elim, ◌++◌, ◌∙◌, ◌∷◌, ◌≡◌, ◌≤◌, ◌⊎◌}
use Rattle.engine.specs.declared.event.Event.TheVariants as ask
use Rattle.engine.specs.declared.event.Reply.TheVariants as reply
use Rattle.cow_tree.specs.Longer.{AgreesBelow}
use Rattle.cow_tree.proofs.LongerDisks.{stands_where_longer}
use Rattle.roots.specs.declared.roots.NotOpened.{NotOpened}
use Rattle.store.specs.Accepted.{found_too}
use Rattle.store.specs.Sessions.{Call, CallHappens, IsAnswered, Asked, Upgraded, CountedSeams, known_by, known_without, HoldsEither, IsOpening, IsRefusedWithCause, IsMade, Made, AreMade, last_store, Unopened, Ended, Stopped, MayLeave, TakesOver, Visit, AreSessions, InTurn, FindsMore, FindsBy, EachFindsIn, EachFinds, SessionsCompose}
use Rattle.store.specs.StoreRuns.{same_stands}
use Rattle.store.specs.Stores.{disk_of, root_of, side_of, capacity_of, disk_after, IsAt}
use Rattle.store.proofs.Calls.AcceptedInTurn.{by_none, comes_by_both}
use Rattle.store.proofs.Calls.StoreCalls.{ended_leaves, question_leaves}
use Rattle.store.proofs.Calls.Moves.{MayHold, Moves, Knows, IsKnownBy, known_first, held_made, moved, one_of_two, second_held, second_of}

-- A longer disk with the same first sectors stores the same.
longer_stands : (sectors more side capacity : ℕ) (image longer : Image) (c : Contents) → sectors ≤ more → AgreesBelow sectors image longer → StandsFor sectors side capacity image c → StandsFor more side capacity longer c
longer_stands sectors more side capacity image longer c le same (stored, stands, holds) = (stored, stands_where_longer sectors more image longer stored le same stands, holds)

-- Each of these images stores one of two contents.
abbrev pub EachEither : (sectors side capacity : ℕ) → (Image → Type 0) → Contents → Contents → Type 0
EachEither sectors side capacity Left a b = (image : Image) → Left image → StandsFor sectors side capacity image a ⊎ StandsFor sectors side capacity image b

-- An image that a state allows stores contents that the state allows.
stands_held : (sectors side capacity : ℕ) (image : Image) (s : State) → StandsForState sectors side capacity image s → (c : Contents) × (MayHold s c × StandsFor sectors side capacity image c)
stands_held sectors side capacity image s (inl known) = (s.contents, (inl refl, known))
stands_held sectors side capacity image s (inr (doubted, is, stands)) = (doubted, (inr is, stands))

-- An image that one of two states allows is allowed by the first or by the second.
one_stands : (sectors side capacity : ℕ) (image : Image) (s t : State) → StandsForOne sectors side capacity (s ∷ t ∷ []) image → (c : Contents) × ((MayHold s c ⊎ MayHold t c) × StandsFor sectors side capacity image c)
one_stands sectors side capacity image s t (u, among, stands) = ⊎_elim
    (λ first. ⊎_elim (λ none. absurd (omega (arith, none.1))) (λ is. held_by (inl (subst (λ (x : State). StandsForState sectors side capacity image x) (sym is) stands))) (Contains-push_cases [] s u first))
    (λ is. held_by (inr (subst (λ (x : State). StandsForState sectors side capacity image x) (sym is) stands))) (Contains-push_cases (s ∷ []) t u among)
  where
    held_by : StandsForState sectors side capacity image s ⊎ StandsForState sectors side capacity image t → (c : Contents) × ((MayHold s c ⊎ MayHold t c) × StandsFor sectors side capacity image c)
    held_by (inl known) = let (c, (held, is)) = stands_held sectors side capacity image s known in (c, (inl held, is))
    held_by (inr known) = let (c, (held, is)) = stands_held sectors side capacity image t known in (c, (inr held, is))

same_one : (a b c d e f : ℕ) → a ≡ d → b ≡ e → c ≡ f → (states : List State) (image : Image) → StandsForOne a b c states image → StandsForOne d e f states image
same_one a b c d e f size side capacity states image stands = rw (← size, ← side, ← capacity) stands

-- If all these contents are one of two, the image stores one of the two.
either_of : (sectors side capacity : ℕ) (image : Image) (c a b : Contents) → (c ≡ a) ⊎ (c ≡ b) → StandsFor sectors side capacity image c → StandsFor sectors side capacity image a ⊎ StandsFor sectors side capacity image b
either_of sectors side capacity image c a b is stands = search rules

same_size : (n m side capacity : ℕ) → n ≡ m → (image : Image) (a b : Contents) → StandsFor n side capacity image a ⊎ StandsFor n side capacity image b → StandsFor m side capacity image a ⊎ StandsFor m side capacity image b
same_size n m side capacity is image a b stands = subst (λ (k : ℕ). StandsFor k side capacity image a ⊎ StandsFor k side capacity image b) is stands

module _ {D : Type 0} (g : Ghosts D) (only_now : (disk : D) (image : Image) → g.honest disk → g.since disk (g.moment disk) image → g.may disk image) (side capacity : ℕ) where
  -- The next session's disk stores one of the two contents.
  taken : (sectors : ℕ) (Left : Image → Type 0) (disk : D) (a b : Contents) → TakesOver g sectors Left disk → EachEither sectors side capacity Left a b → HoldsEither g disk side capacity a b
  taken sectors Left disk a b takes each image may =
      let (left, was, same) = takes.holds image may in
      ⊎_elim (λ stands. inl (longer_stands sectors (g.size disk) side capacity left image a takes.longer same stands))
      (λ stands. inr (longer_stands sectors (g.size disk) side capacity left image b takes.longer same stands)) (each left was)

  -- ---- the calls of a session

  -- the state of an open store
  record Found (store : Store D g) (size : ℕ) (s : State) : Type 0 where
    at : IsAt g store s
    same_side : side_of store ≡ side
    same_capacity : capacity_of store ≡ capacity
    same_size : g.size (disk_of store) ≡ size

  honest_before : (old new : Store D g) (call : Call) → IsMade g old call new → g.honest (disk_of new) → g.honest (disk_of old)
  honest_before old new (Asked event answer) made honest = made.honest honest
  honest_before old new (Upgraded result) made honest = made.0.returns.honest honest
  honest_before old new (CountedSeams result) made honest = (made.0.nothing honest).honest

  honest_first : (store : Store D g) (calls : List (Made g)) → AreMade g store calls → g.honest (disk_of (last_store g store calls)) → g.honest (disk_of store)
  honest_first store [] made honest = honest
  honest_first store (m ∷ more) (made, rest) honest = honest_before store m.store m.call made (honest_first m.store more rest honest)

  -- the result of one call
  record CallLeaves (old new : Store D g) (call : Call) (size : ℕ) (e : Contents) (since : Since) (s : State) : Type 0 where
    after : State
    room : Bool
    happens : CallHappens capacity room s call after
    found : Found new size after
    moves : Moves capacity e (known_without since call) (IsKnownBy capacity e since call) s after
    leaves : (image : Image) → g.since (disk_of new) (g.moment (disk_of old)) image → (c : Contents) × ((MayHold s c ⊎ MayHold after c) × StandsFor size side capacity image c)

  -- an image that a stop may leave on the disk now
  held_now : (store : Store D g) (size : ℕ) (s : State) → Found store size s → (image : Image) → g.may (disk_of store) image → (c : Contents) × (MayHold s c × StandsFor size side capacity image c)
  held_now store size s found image may = search rules

  -- a state after the call, as the call's answer determines it, and what a stop leaves
  record Leads (old new : Store D g) (call : Call) (s : State) : Type 0 where
    after : State
    at : IsAt g new after
    happens : CallHappens (capacity_of old) (has_room (g.size (disk_of old)) (root_of old)) s call after
    leaves : LeavesStates g old new (s ∷ after ∷ [])

  leads : (old new : Store D g) (call : Call) → IsMade g old call new → g.honest (disk_of new) → (s : State) → IsAt g old s → Leads old new call s
  leads old new (Asked event answer) made honest s at = let (t, (is, happens, leaves)) = made.happens honest s at in record { after = t; at = is; happens = happens; leaves = leaves }
  leads old new (Upgraded result) (made, untouched) honest s at =
      let (t, (is, happens, leaves)) = made.outcome honest s at in
      record {
        after = t;
        at = is;
        happens = happens;
        leaves = record { size = made.returns.size; side = made.side; capacity = made.capacity; run = ended_leaves g only_now old new untouched s t (made.returns.honest honest) leaves at };
      }
  leads old new (CountedSeams result) (reads, outcome) honest s at =
      let (t, (is, counts)) = outcome honest s at in
      record { after = t; at = is; happens = counts; leaves = question_leaves g old new result s t reads honest at }

  one_call : (old new : Store D g) (call : Call) → IsMade g old call new → g.honest (disk_of new) → (size : ℕ) (e : Contents) (since : Since) (s : State) → Knows capacity e since s → Found old size s → CallLeaves old new call size e since s
  one_call old new call made honest size e since s knows found =
      let to = leads old new call made honest s found.at in
      let leaves = to.leaves in
      let room = has_room (g.size (disk_of old)) (root_of old) in
      record {
        after = to.after;
        room = room;
        happens = subst (λ (n : ℕ). CallHappens n room s call to.after) found.same_capacity to.happens;
        found = record { at = to.at; same_side = leaves.side ∙ found.same_side; same_capacity = leaves.capacity ∙ found.same_capacity; same_size = leaves.size ∙ found.same_size };
        moves = moved capacity e since s to.after knows room call (subst (λ (n : ℕ). CallHappens n room s call to.after) found.same_capacity to.happens);
        leaves = λ image left. one_stands size side capacity image s to.after
            (same_one (g.size (disk_of old)) (side_of old) (capacity_of old) size side capacity found.same_size found.same_side found.same_capacity (s ∷ to.after ∷ []) image (leaves.run.each image left));
      }

  -- ---- a session

  -- One of two contents is left, and each meets this relation.
  record LeavesTwo (sectors : ℕ) (Left : Image → Type 0) (Comes : Contents → Type 0) : Type 0 where
    one : Contents
    other : Contents
    each : EachEither sectors side capacity Left one other
    one_comes : Comes one
    other_comes : Comes other

  ended : (store : Store D g) (size : ℕ) (e : Contents) (since : Since) (s : State) → Knows capacity e since s → Found store size s
      → LeavesTwo (g.size (disk_of store)) (λ image. g.may (disk_of store) image) (IsMadeOf capacity e since)
  ended store size e since s knows found = record {
    one = s.contents;
    other = second_of s;
    each = λ image may.
        let (c, (held, stands)) = held_now store size s found image may in
        same_size size (g.size (disk_of store)) side capacity (sym found.same_size) image s.contents (second_of s) (either_of size side capacity image c s.contents (second_of s) (one_of_two s c held) stands);
    one_comes = held_made capacity e since s knows s.contents (inl refl);
    other_comes = held_made capacity e since s knows (second_of s) (second_held s);
  }

  stopped : (old : Store D g) (last : Made g) → IsMade g old last.call last.store → g.honest (disk_of last.store) → (size : ℕ) (e : Contents) (since : Since) (s : State) → Knows capacity e since s → Found old size s
      → LeavesTwo (g.size (disk_of last.store)) (λ image. g.since (disk_of last.store) (g.moment (disk_of old)) image) (IsMadeOf capacity e (known_without since last.call))
  stopped old last made honest size e since s knows found =
      let call = one_call old last.store last.call made honest size e since s knows found in
      record {
        one = call.moves.one;
        other = call.moves.other;
        each = λ image left.
            let (c, (held, stands)) = call.leaves image left in
            same_size size (g.size (disk_of last.store)) side capacity (sym call.found.same_size) image call.moves.one call.moves.other
            (either_of size side capacity image c call.moves.one call.moves.other (call.moves.either c held) stands);
        one_comes = call.moves.one_made;
        other_comes = call.moves.other_made;
      }

  -- The opening found the store.
  opened_at : (disk : D) (store : Store D g) → IsOpening g disk (Ok store) → g.honest (disk_of store) → (a b : Contents) → HoldsEither g disk side capacity a b
      → Found store (g.size disk) (working a) ⊎ Found store (g.size disk) (working b)
  opened_at disk store opening honest a b holds =
      let (same_side, (same_capacity, at)) = opening.at honest side capacity a b holds in
      ⊎_elim
      (λ known. inl (record { at = known; same_side = same_side; same_capacity = same_capacity; same_size = opening.size }))
      (λ known. inr (record { at = known; same_side = same_side; same_capacity = same_capacity; same_size = opening.size })) at

  -- the cause of a refused opening
  cause : (disk : D) (opened : Result (Store D g) (NotOpened D)) → IsOpening g disk opened → g.honest (disk_after opened) → (a b : Contents) → HoldsEither g disk side capacity a b → IfErr opened (λ e. IsRefusedWithCause g disk e)
  cause disk (Ok store) opening honest a b holds = tt
  cause disk (Err e) opening honest a b holds = ⊎_elim (λ fault. inl (fault, opening.device fault)) (λ memory. inr memory) (opening.sure honest side capacity a b holds)

-- ---- sessions, each of which may have its own ghosts for the disk

module _ {I D : Type 0} (gs : I → Ghosts D) (only_now : (i : I) (disk : D) (image : Image) → (gs i).honest disk → (gs i).since disk ((gs i).moment disk) image → (gs i).may disk image) (side capacity : ℕ) (was : Contents) where
  abbrev IsFound : (i : I) → Store D (gs i) → ℕ → State → Type 0
  IsFound i store size s = Found (gs i) (only_now i) side capacity store size s

  -- An opening found the contents after the accepted commands.
  found_more : (i : I) (store : Store D (gs i)) (size : ℕ) (found : List Command) (c : Contents) → ComesBy capacity was found c → (since : Since) (e : Contents) → IsMadeOf capacity c since e → IsFound i store size (working e)
      → (Then : List Command → Type 0) → ((now : List Command) → ComesBy capacity was now e → Then now) → FindsMore gs side capacity was found since i store Then
  found_more i store size found c comes since e (late, accepted, makes, keeps) is Then go_on =
      let both = comes_by_both capacity was c e found late comes makes in
      (late, accepted, record { contents = e; comes_by = both; upgraded = keeps; at = is.at; same_side = is.same_side; same_capacity = is.same_capacity }, go_on (found ++ late) both)

  found_by : (i : I) (call : Call) (store : Store D (gs i)) (size : ℕ) (found : List Command) (c : Contents) → ComesBy capacity was found c → (since : Since) (t : State) → IsKnownBy capacity c since call t → IsFound i store size t
      → (Then : List Command → Since → Type 0) → ((now : List Command) (e : Contents) (later : Since) → ComesBy capacity was now e → Knows capacity e later t → Then now later) → FindsBy gs side capacity was i call store found since Then
  found_by i (Asked ask.Reopen reply.Reopened) store size found c comes since t (e, made, is) at Then go_on =
      found_more i store size found c comes since e made (subst (λ (u : State). IsFound i store size u) is at) (λ now. Then now (found_too since))
      (λ now comes_now. go_on now e (found_too since) comes_now (subst (λ (u : State). Knows capacity e (found_too since) u) (sym is) (known_first capacity since e made.3)))
  found_by i call store size found c comes since t knows at Then go_on = go_on found c (known_by since call) comes knows

  -- the results of the calls, one after another
  found_in : (i : I) (store : Store D (gs i)) (calls : List (Made (gs i))) → AreMade (gs i) store calls → (gs i).honest (disk_of (last_store (gs i) store calls)) → (size : ℕ) (found : List Command) (c : Contents) → ComesBy capacity was found c
      → (since : Since) (s : State) → Knows capacity c since s → IsFound i store size s → (Then : List Command → Since → Type 0)
      → ((now : List Command) (e : Contents) (later : Since) (t : State) → ComesBy capacity was now e → Knows capacity e later t → IsFound i (last_store (gs i) store calls) size t → Then now later)
      → EachFindsIn gs side capacity was i calls found since Then
  found_in i store [] made honest size found c comes since s knows at Then go_on = go_on found c since s comes knows at
  found_in i store (call ∷ more) (one, made) honest size found c comes since s knows at Then go_on =
      let by = one_call (gs i) (only_now i) side capacity store call.store call.call one (honest_first (gs i) (only_now i) side capacity call.store more made honest) size c since s knows at in (
        record { before = s; after = by.after; has_room = by.room; comes_by = comes_by_both capacity was c s.contents found since.done comes knows.known; upgraded = knows.keeps; happens = by.happens },
        found_by i call.call call.store size found c comes since by.after by.moves.next by.found (λ now known. EachFindsIn gs side capacity was i more now known Then)
            (λ now e later comes_now knows_now. found_in i call.store more made honest size now e comes_now later by.after knows_now by.found Then go_on),
      )

  -- The opening found one of the two contents, and then the calls were made.
  found_in_session : (i : I) (disk : D) (store : Store D (gs i)) (calls : List (Made (gs i))) → IsOpening (gs i) disk (Ok store) → AreMade (gs i) store calls → (gs i).honest (disk_of (last_store (gs i) store calls))
      → (found : List Command) (c : Contents) → ComesBy capacity was found c → (since : Since) (a b : Contents) → IsMadeOf capacity c since a → IsMadeOf capacity c since b → HoldsEither (gs i) disk side capacity a b
      → (Then : List Command → Since → Type 0)
      → ((now : List Command) (e : Contents) (later : Since) (t : State) → ComesBy capacity was now e → Knows capacity e later t → IsFound i (last_store (gs i) store calls) ((gs i).size disk) t → Then now later)
      → FindsMore gs side capacity was found since i store (λ now. EachFindsIn gs side capacity was i calls now (found_too since) Then)
  found_in_session i disk store calls opening made honest found c comes since a b of_a of_b holds Then go_on =
      ⊎_elim (λ at. by a of_a at) (λ at. by b of_b at) (opened_at (gs i) (only_now i) side capacity disk store opening (honest_first (gs i) (only_now i) side capacity store calls made honest) a b holds)
    where
      by : (e : Contents) → IsMadeOf capacity c since e → IsFound i store ((gs i).size disk) (working e) → FindsMore gs side capacity was found since i store (λ now. EachFindsIn gs side capacity was i calls now (found_too since) Then)
      by e of_e at = found_more i store ((gs i).size disk) found c comes since e of_e at (λ now. EachFindsIn gs side capacity was i calls now (found_too since) Then)
          (λ now comes_now. found_in i store calls made honest ((gs i).size disk) now e comes_now (found_too since) (working e) (known_first capacity since e of_e.3) at Then go_on)

  each_finds : (sectors : ℕ) (Left : Image → Type 0) (sessions : List (Visit gs)) → AreSessions gs sessions → InTurn gs sectors Left sessions → (found : List Command) (c : Contents) → ComesBy capacity was found c
      → (since : Since) (a b : Contents) → IsMadeOf capacity c since a → IsMadeOf capacity c since b → EachEither sectors side capacity Left a b → EachFinds gs side capacity was found since sessions
  each_finds sectors Left [] are turns found c comes since a b of_a of_b each = tt
  each_finds sectors Left ((i, Unopened disk opened) ∷ more) (opening, are) (takes, honest, turns) found c comes since a b of_a of_b each =
      let holds = taken (gs i) (only_now i) side capacity sectors Left disk a b takes each in (
        cause (gs i) (only_now i) side capacity disk opened opening honest a b holds,
        each_finds ((gs i).size (disk_after opened)) (MayLeave (gs i) (Unopened disk opened)) more are turns found c comes since a b of_a of_b
            (λ image left. same_size ((gs i).size disk) ((gs i).size (disk_after opened)) side capacity (sym opening.size) image a b (holds image ((opening.nothing honest).run.each image left))),
      )
  each_finds sectors Left ((i, Ended disk store calls) ∷ more) ((opening, made), are) (takes, honest, turns) found c comes since a b of_a of_b each =
      found_in_session i disk store calls opening made honest found c comes since a b of_a of_b (taken (gs i) (only_now i) side capacity sectors Left disk a b takes each) (λ last known. EachFinds gs side capacity was last known more)
      (λ now e later t comes_now knows at.
      let left = ended (gs i) (only_now i) side capacity (last_store (gs i) store calls) ((gs i).size disk) e later t knows at in
      each_finds ((gs i).size (disk_of (last_store (gs i) store calls))) (MayLeave (gs i) (Ended disk store calls)) more are turns now e comes_now later left.one left.other left.one_comes left.other_comes left.each)
  each_finds sectors Left ((i, Stopped disk store calls last) ∷ more) ((opening, made, stop), are) (takes, honest, turns) found c comes since a b of_a of_b each =
      found_in_session i disk store calls opening made (honest_before (gs i) (only_now i) side capacity (last_store (gs i) store calls) last.store last.call stop honest) found c comes since a b of_a of_b
      (taken (gs i) (only_now i) side capacity sectors Left disk a b takes each) (λ now known. EachFinds gs side capacity was now (known_without known last.call) more)
      (λ now e later t comes_now knows at.
      let left = stopped (gs i) (only_now i) side capacity (last_store (gs i) store calls) last stop honest ((gs i).size disk) e later t knows at in
      each_finds ((gs i).size (disk_of last.store)) (MayLeave (gs i) (Stopped disk store calls last)) more are turns now e comes_now (known_without later last.call) left.one left.other left.one_comes left.other_comes left.each)

nothing_made : (capacity : ℕ) (was : Contents) → IsMadeOf capacity was none_asked was
nothing_made capacity was = ([], inl refl, by_none capacity was, λ up. absurd (true≢false (sym up)))

pub sessions_compose : {I D : Type 0} (gs : I → Ghosts D) → ((i : I) (disk : D) (image : Image) → (gs i).honest disk → (gs i).since disk ((gs i).moment disk) image → (gs i).may disk image) → SessionsCompose gs
sessions_compose gs only_now side capacity was i start sessions holds are turns =
    each_finds gs only_now side capacity was ((gs i).size start) (λ image. (gs i).may start image) sessions are turns [] was (by_none capacity was) none_asked was was
    (nothing_made capacity was) (nothing_made capacity was) (λ image may. inl (holds image may))
