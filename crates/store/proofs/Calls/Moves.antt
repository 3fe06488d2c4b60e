-- How a call of a store changes the accepted contents: a stop inside it leaves the contents before or after it.
use Rattle.std.proofs.Common.{rules}
use Rattle.store.proofs.Prelude.{Bool, Command, Corner, CountsSeams, Device, Event, Failed, List, Mosaic, NoMemory, NoTile, NotOld, Outside, Point, Refusal, Reply, TooSmall, Void, Worn, ℕ, [], ap, effect, false, inl, inr, refl, subst, sym, true, true≢false, ⊎_elim, ◌++◌, ◌∙◌, ◌∷◌, ◌≡◌, ◌⊎◌}
use Rattle.std.specs.Prelude.{Result, Ok, Err, Some, None, Option, unwrap_or, nat_lt, if◌then◌else◌, IsFalse}
use Rattle.engine.specs.State.{Contents, State, working, failing, made_by, would_make, if_numbered, in_doubt, last_number}
use Rattle.engine.specs.Outcomes.{Fails, AppliesNot, ElevatesNot, ExportsNot, ListsNot, AnswersNot}
use Rattle.engine.specs.Steps.{Commits, stepped, step_in_doubt, StepsNot, Steps, upgraded, Upgrades, UpgradesNot}
use Rattle.engine.specs.Events.{Happens, Reopens, ReopensNot}
use Rattle.engine.specs.declared.event.Event.TheVariants as ask
use Rattle.engine.specs.declared.event.Reply.TheVariants as reply
use Rattle.store.specs.Accepted.{Since, found_too, done_too, doubted_too, upgraded_too, KeepsUpgrade, ComesBy, IsMadeOf}
use Rattle.store.specs.Sessions.{Call, Asked, Upgraded, CountedSeams, CallHappens, known_by, known_without}
use Rattle.store.proofs.Calls.AcceptedInTurn.{by_none, as_well, one_more, still_doubted}

-- The contents are those of the state, or of its commit in doubt.
abbrev pub MayHold : State → Contents → Type 0
MayHold s c = (c ≡ s.contents) ⊎ (s.doubt ≡ Some c)

abbrev pub second_of : State → Contents
second_of s = unwrap_or s.doubt s.contents

-- A state allows at most two contents.
pub one_of_two : (s : State) (c : Contents) → MayHold s c → (c ≡ s.contents) ⊎ (c ≡ second_of s)
one_of_two s c (inl is) = inl is
one_of_two s c (inr is) = inr (sym (ap (λ (d : Option Contents). unwrap_or d s.contents) is))

pub second_held : (s : State) → MayHold s (second_of s)
second_held s = by s.doubt refl
  where
    by : (doubt : Option Contents) → s.doubt ≡ doubt → MayHold s (unwrap_or doubt s.contents)
    by (Some d) is = inr is
    by None is = inl refl

pub not_some : (c : Contents) → ◌≡◌ {A = Option Contents} None (Some c) → ⊥
not_some c is = cc is

module _ (capacity : ℕ) where
  -- What is known about a state, since an opening found these contents. Its contents come from the accepted commands,
  -- and so do those of its commit in doubt. Nothing is in doubt before the disk fails.
  pub record Knows (found : Contents) (since : Since) (s : State) : Type 0 where
    pub known : ComesBy capacity found since.done s.contents
    pub doubted : (d : Contents) → s.doubt ≡ Some d → IsMadeOf capacity found since d
    pub sober : s.failed ≡ false → (s.doubt ≡ None) × (since.doubt ≡ None)
    pub keeps : KeepsUpgrade since s.contents

  -- The disk was reopened.
  abbrev pub IsFoundAgain : Contents → Since → State → Type 0
  IsFoundAgain found since t = (e : Contents) × IsMadeOf capacity found since e × (t ≡ working e)

  -- A call leads from one state to the other, and this is known afterwards. A stop inside the call leaves one of two
  -- contents, each made by accepted commands, as is known without an answer.
  pub record Moves (found : Contents) (without : Since) (Then : State → Type 0) (s t : State) : Type 0 where
    pub next : Then t
    pub one : Contents
    pub other : Contents
    pub either : (c : Contents) → MayHold s c ⊎ MayHold t c → (c ≡ one) ⊎ (c ≡ other)
    pub one_made : IsMadeOf capacity found without one
    pub other_made : IsMadeOf capacity found without other

  -- The contents that a state allows are made by accepted commands.
  pub held_made : (found : Contents) (since : Since) (s : State) → Knows found since s → (c : Contents) → MayHold s c → IsMadeOf capacity found since c
  held_made found since s knows c (inl same) = subst (λ (x : Contents). IsMadeOf capacity found since x) (sym same) (since.done, inl refl, knows.known, knows.keeps)
  held_made found since s knows c (inr is) = knows.doubted c is

  -- the knowledge after an opening
  pub known_first : (since : Since) (e : Contents) → KeepsUpgrade since e → Knows e (found_too since) (working e)
  known_first since e keeps = record { known = by_none capacity e; doubted = λ d is. absurd (not_some d is); sober = λ works. (refl, refl); keeps = keeps }

  module _ (found : Contents) (since without : Since) (s : State) (knows : Knows found since s) (more : (c : Contents) → IsMadeOf capacity found since c → IsMadeOf capacity found without c) where
    -- The contents that the new state allows were allowed before.
    at_most : (Then : State → Type 0) (t : State) → Then t → ((c : Contents) → MayHold t c → MayHold s c) → Moves found without Then s t
    at_most Then t is held = record {
      next = is;
      one = s.contents;
      other = second_of s;
      either = λ c. ⊎_elim (λ before. one_of_two s c before) (λ after. one_of_two s c (held c after));
      one_made = more s.contents (held_made found since s knows s.contents (inl refl));
      other_made = more (second_of s) (held_made found since s knows (second_of s) (second_held s));
    }

    pub stays : (t : State) → t ≡ s → Moves found without (Knows found since) s t
    stays t same = subst (λ (u : State). Moves found without (Knows found since) s u) (sym same) (at_most (Knows found since) s knows (λ c may. may))

    pub opened_again : (t : State) (e : Contents) → MayHold s e → t ≡ working e → Moves found without (IsFoundAgain found since) s t
    opened_again t e held is = subst (λ (u : State). Moves found without (IsFoundAgain found since) s u) (sym is)
        (at_most (IsFoundAgain found since) (working e) (e, held_made found since s knows e held, refl)
        (λ c. ⊎_elim (λ same. subst (λ (x : Contents). MayHold s x) (sym same) held) (λ doubt. absurd (not_some c doubt))))

    pub not_opened : (t : State) → t ≡ record s { failed = true } → Moves found without (Knows found since) s t
    not_opened t is = search rules

    -- ---- the case of a commit that was made or is in doubt

    module _ (works : IsFalse s.failed) where
      no_doubt : (c : Contents) → MayHold s c → c ≡ s.contents
      no_doubt c (inl same) = same
      no_doubt c (inr doubt) = absurd (not_some c (sym (knows.sober works).0 ∙ doubt))

      now_made : IsMadeOf capacity found without s.contents
      now_made = more s.contents (held_made found since s knows s.contents (inl refl))

      pub fails : (after : Since) → ComesBy capacity found after.done s.contents → KeepsUpgrade after s.contents → (t : State) (doubt : Option Contents) → t ≡ failing s doubt
          → ((c : Contents) → doubt ≡ Some c → IsMadeOf capacity found after c × IsMadeOf capacity found without c) → Moves found without (Knows found after) s t
      fails after comes keeps t doubt is made = subst (λ (u : State). Moves found without (Knows found after) s u) (sym is) (by doubt made)
        where
          next : (doubt : Option Contents) → ((c : Contents) → doubt ≡ Some c → IsMadeOf capacity found after c × IsMadeOf capacity found without c) → Knows found after (failing s doubt)
          next doubt made = record { known = comes; doubted = λ d some. (made d some).0; sober = λ failed. absurd (true≢false failed); keeps = keeps }

          by : (doubt : Option Contents) → ((c : Contents) → doubt ≡ Some c → IsMadeOf capacity found after c × IsMadeOf capacity found without c) → Moves found without (Knows found after) s (failing s doubt)
          by None made = record {
            next = next None made;
            one = s.contents;
            other = s.contents;
            either = λ c. ⊎_elim (λ before. inl (no_doubt c before)) (λ after. inl (⊎_elim (λ same. same) (λ none. absurd (not_some c none)) after));
            one_made = now_made;
            other_made = now_made;
          }
          by (Some d) made = record {
            next = next (Some d) made;
            one = s.contents;
            other = d;
            either = λ c. ⊎_elim (λ before. inl (no_doubt c before)) (λ after. ⊎_elim (λ same. inl same) (λ some. inr (let same : d ≡ c = cc some in sym same)) after);
            one_made = now_made;
            other_made = (made d refl).1;
          }

      pub commits : (after : Since) (t : State) (c : Contents) → t ≡ record s { contents = c } → ComesBy capacity found after.done c → KeepsUpgrade after c → after.doubt ≡ since.doubt → IsMadeOf capacity found without c
          → Moves found without (Knows found after) s t
      commits after t c is comes keeps same_doubt made = subst (λ (u : State). Moves found without (Knows found after) s u) (sym is) (record {
        next = record {
          known = comes;
          doubted = λ d some. absurd (not_some d (sym (knows.sober works).0 ∙ some));
          sober = λ failed. ((knows.sober works).0, same_doubt ∙ (knows.sober works).1);
          keeps = keeps;
        };
        one = s.contents;
        other = c;
        either = λ x. ⊎_elim (λ before. inl (no_doubt x before)) (λ now. inr (⊎_elim (λ same. same) (λ some. absurd (not_some x (sym (knows.sober works).0 ∙ some))) now));
        one_made = now_made;
        other_made = made;
      })

  -- the knowledge after a call
  abbrev pub IsKnownBy : Contents → Since → Call → State → Type 0
  IsKnownBy found since (Asked ask.Reopen reply.Reopened) t = IsFoundAgain found since t
  IsKnownBy found since call t = Knows found (known_by since call) t

  -- ---- by the kind of call

  doubt_makes : (was : Contents) (c : Command) (made : Contents) → in_doubt capacity was c ≡ Some made → (new : Mosaic) × ((effect capacity was.mosaic c ≡ Ok new) × (made ≡ made_by was c new))
  doubt_makes was c made is = by_room (nat_lt was.number last_number) is
    where
      by_effect : (result : Result Mosaic Refusal) → effect capacity was.mosaic c ≡ result → would_make was c result ≡ Some made → (new : Mosaic) × ((effect capacity was.mosaic c ≡ Ok new) × (made ≡ made_by was c new))
      by_effect (Ok new) makes some = (new, (makes, let same : made_by was c new ≡ made = cc some in sym same))
      by_effect (Err r) makes some = absurd (not_some made some)

      by_room : (room : Bool) → (if room then would_make was c (effect capacity was.mosaic c) else None) ≡ Some made → (new : Mosaic) × ((effect capacity was.mosaic c ≡ Ok new) × (made ≡ made_by was c new))
      by_room true some = by_effect (effect capacity was.mosaic c) refl some
      by_room false some = absurd (not_some made some)

  module _ (found : Contents) (since : Since) (s t : State) (knows : Knows found since s) where
    abbrev Still : Type 0
    Still = Moves found since (Knows found since) s t

    module _ (c : Command) where
      more : (made : Contents) → IsMadeOf capacity found since made → IsMadeOf capacity found (doubted_too since c) made
      more made is = still_doubted capacity found since c made is

      same_as : t ≡ s → Moves found (doubted_too since c) (Knows found since) s t
      same_as same = stays found since (doubted_too since c) s knows more t same

      -- The command is the first in doubt.
      doubted_made : IsFalse s.failed → (made : Contents) (new : Mosaic) → effect capacity s.contents.mosaic c ≡ Ok new → made ≡ made_by s.contents c new → IsMadeOf capacity found (doubted_too since c) made
      doubted_made works made new makes is = (
        since.done ++ c ∷ [],
        inr (c, ap (λ (d : Option Command). Some (unwrap_or d c)) (knows.sober works).1, refl),
        one_more capacity found s.contents made since.done c new knows.known makes is,
        λ up. ap (λ (x : Contents). x.version) is ∙ knows.keeps up,
      )

      refused : (r : Refusal) → AppliesNot capacity s c r t → Moves found (doubted_too since c) (Knows found (known_by since (Asked (ask.Do c) (reply.Refused r)))) s t
      refused Failed is = same_as is.same
      refused Device is = fails found since (doubted_too since c) s knows more is.working (doubted_too since c) knows.known knows.keeps t (in_doubt capacity s.contents c) is.fails
          (λ made some. let (new, (makes, same)) = doubt_makes s.contents c made some in (doubted_made is.working made new makes same, doubted_made is.working made new makes same))
      refused NoMemory is = same_as is.same
      refused Worn is = same_as is.stays.same
      refused r is = same_as is.stays.same

      commanded : (answer : Reply) → Happens capacity s (ask.Do c) answer t → Moves found (doubted_too since c) (Knows found (known_by since (Asked (ask.Do c) answer))) s t
      commanded (reply.Done k) is =
          let new = is.effect_is.0 in
          let makes = is.effect_is.1.0 in
          let made = made_by s.contents c new in
          commits found since (doubted_too since c) s knows more is.working (done_too since c) t made is.effect_is.1.1
          (one_more capacity found s.contents made since.done c new knows.known makes refl) knows.keeps refl (doubted_made is.working made new makes refl)
      commanded (reply.Refused r) is = refused r is
      commanded answer is = absurd is

    read : t ≡ s → Still
    read same = stays found since since s knows (λ c made. made) t same

    -- The new contents have the same terrain and count.
    of_same : (c : Contents) → c.mosaic ≡ s.contents.mosaic → c.count ≡ s.contents.count → ComesBy capacity found since.done c
    of_same c mosaic count = as_well capacity found s.contents c since.done knows.known mosaic count

    -- The new contents have the same terrain and count, and the second version.
    abbrev SameTerrain : Contents → Type 0
    SameTerrain c = (c.mosaic ≡ s.contents.mosaic) × (c.count ≡ s.contents.count) × KeepsUpgrade since c

    -- Nothing is in doubt, or a commit with the same terrain is.
    failed_read : (doubt : Option Contents) → Fails s doubt t → ((c : Contents) → doubt ≡ Some c → SameTerrain c) → Still
    failed_read doubt is same = fails found since since s knows (λ c made. made) is.working since knows.known knows.keeps t doubt is.fails
        (λ c some. let (mosaic, count, keeps) = same c some in let made : IsMadeOf capacity found since c = (since.done, inl refl, of_same c mosaic count, keeps) in (made, made))

    failed_asking : Fails s None t → Still
    failed_asking is = failed_read None is (λ c none. absurd (not_some c none))

    committed : (after : Since) → after.done ≡ since.done → after.doubt ≡ since.doubt → (c : Contents) → Commits s c t → c.mosaic ≡ s.contents.mosaic → c.count ≡ s.contents.count → KeepsUpgrade since c → KeepsUpgrade after c
        → Moves found since (Knows found after) s t
    committed after done doubt c is mosaic count keeps now =
        commits found since since s knows (λ c made. made) is.working after t c is.made_is
        (subst (λ (commands : List Command). ComesBy capacity found commands c) (sym done) (of_same c mosaic count)) now doubt (since.done, inl refl, of_same c mosaic count, keeps)

    elevates_not : (r : Refusal) → ElevatesNot s r t → Still
    elevates_not Failed is = read is.same
    elevates_not Device is = failed_asking is
    elevates_not r is = absurd is

    exports_not : (c : Corner) (r : Refusal) → ExportsNot s c r t → Still
    exports_not c Failed is = read is.same
    exports_not c Device is = failed_asking is
    exports_not c NoMemory is = read is.same
    exports_not c NoTile is = read is.0.same
    exports_not c r is = absurd is

    lists_not : (r : Refusal) → ListsNot s r t → Still
    lists_not Failed is = read is.same
    lists_not NoMemory is = read is.same
    lists_not r is = absurd is

    answers_not : (p : Point) (r : Refusal) → AnswersNot s p r t → Still
    answers_not p Outside is = read is.0.same
    answers_not p Void is = read is.0.same
    answers_not p NoMemory is = read is.same
    answers_not p Failed is = read is.same
    answers_not p Device is = failed_asking is
    answers_not p r is = absurd is

    -- The commit with the same terrain is in doubt only if the commit number could grow.
    number_doubted : (made : Contents) → SameTerrain made → (c : Contents) → if_numbered s.contents (Some made) ≡ Some c → SameTerrain c
    number_doubted made is_same c some = by (nat_lt s.contents.number last_number) some
      where
        by : (room : Bool) → (if room then Some made else None) ≡ Some c → SameTerrain c
        by true is = let same : made ≡ c = cc is in subst (λ (x : Contents). SameTerrain x) same is_same
        by false is = absurd (not_some c is)

    step_doubted : (tile : Option Corner) (c : Contents) → step_in_doubt s.contents tile ≡ Some c → SameTerrain c
    step_doubted (Some corner) c some = number_doubted (stepped corner s.contents) (refl, refl, knows.keeps) c some
    step_doubted None c some = absurd (not_some c some)

    steps_not : (r : Refusal) → StepsNot s r t → Still
    steps_not Failed is = read is.same
    steps_not Device (tile, (step, is)) = failed_read (step_in_doubt s.contents tile) is (step_doubted tile)
    steps_not NoMemory is = read is.same
    steps_not Worn is = read is.0.stays.same
    steps_not r is = absurd is

    steps : (result : Result (Option Corner) Refusal) → Steps s result t → Still
    steps (Ok None) is = read is.0.same
    steps (Ok (Some c)) is = committed since refl refl (stepped c s.contents) is.1 refl refl knows.keeps knows.keeps
    steps (Err r) is = steps_not r is

    reopens_not : (r : Refusal) → ReopensNot s r t → Still
    reopens_not Device is = not_opened found since since s knows (λ c made. made) t is
    reopens_not NoMemory is = not_opened found since since s knows (λ c made. made) t is
    reopens_not r is = absurd is

    reopens : Reopens s t → Moves found since (IsFoundAgain found since) s t
    reopens (inl is) = opened_again found since since s knows (λ c made. made) t s.contents (inl refl) is
    reopens (inr (d, doubt, is)) = opened_again found since since s knows (λ c made. made) t d (inr doubt) is

    happened : (event : Event) (answer : Reply) → Happens capacity s event answer t → Moves found (known_without since (Asked event answer)) (IsKnownBy found since (Asked event answer)) s t
    happened (ask.Do c) answer is = commanded c answer is
    happened (ask.Elevation p) (reply.Elevation h) is = read is.0.same
    happened (ask.Elevation p) (reply.Refused r) is = elevates_not r is
    happened (ask.Fill p) (reply.Fill level) is = read is.0.same
    happened (ask.Fill p) (reply.Refused r) is = answers_not p r is
    happened (ask.Direction p) (reply.Direction code) is = read is.0.same
    happened (ask.Direction p) (reply.Refused r) is = answers_not p r is
    happened (ask.Trace p) (reply.Trace path) is = read is.0.same
    happened (ask.Trace p) (reply.Refused r) is = answers_not p r is
    happened (ask.Watershed p) (reply.Watershed runs) is = read is.0.same
    happened (ask.Watershed p) (reply.Refused r) is = answers_not p r is
    happened (ask.Export c) (reply.Export bytes) is = read is.0.same
    happened (ask.Export c) (reply.Refused r) is = exports_not c r is
    happened (ask.Levels c) (reply.Levels levels) is = read is.0.same
    happened (ask.Levels c) (reply.Refused r) is = exports_not c r is
    happened (ask.Directions c) (reply.Directions codes) is = read is.0.same
    happened (ask.Directions c) (reply.Refused r) is = exports_not c r is
    happened (ask.Upstream c) (reply.Upstream counts) is = read is.0.same
    happened (ask.Upstream c) (reply.Refused r) is = exports_not c r is
    happened ask.Tiles (reply.Tiles corners) is = read is.0.same
    happened ask.Tiles (reply.Refused r) is = lists_not r is
    happened ask.Sinks (reply.Sinks points) is = read is.0.same
    happened ask.Sinks (reply.Refused r) is = lists_not r is
    happened ask.Step (reply.Stepped tile) is = steps (Ok tile) is
    happened ask.Step (reply.Refused r) is = steps_not r is
    happened ask.Count (reply.Count count) is = read is.1
    happened ask.Info (reply.Info info) is = read is.0.same
    happened ask.Info (reply.Refused r) is = lists_not r is
    happened ask.Reopen reply.Reopened is = reopens is
    happened ask.Reopen (reply.Refused r) is = reopens_not r is
    happened event answer is = absurd is

    upgrades_not : (has_room : Bool) (r : Refusal) → UpgradesNot has_room s r t → Still
    upgrades_not has_room Failed is = read is.same
    upgrades_not has_room NotOld is = read is.0.same
    upgrades_not has_room TooSmall is = read is.0.same
    upgrades_not has_room Worn is = read is.0.stays.same
    upgrades_not has_room Device is = failed_read (if_numbered s.contents (Some (upgraded s.contents))) is.1 (number_doubted (upgraded s.contents) (refl, refl, λ up. refl))
    upgrades_not has_room NoMemory is = read is.same
    upgrades_not has_room r is = absurd is

    pub moved : (has_room : Bool) (call : Call) → CallHappens capacity has_room s call t → Moves found (known_without since call) (IsKnownBy found since call) s t
    moved has_room (Asked event answer) is = happened event answer is
    moved has_room (Upgraded (Ok u)) is = committed (upgraded_too since) refl refl (upgraded s.contents) is.1 refl refl (λ up. refl) (λ up. refl)
    moved has_room (Upgraded (Err r)) is = upgrades_not has_room r is
    moved has_room (CountedSeams (Ok count)) is = read is.0.same
    moved has_room (CountedSeams (Err r)) is = elevates_not r is
