-- The calls of a session, and two sessions with a cut after each.
use Rattle.std.proofs.Common.{◌≡◌, ℕ, ◌≤◌, List, [], ◌∷◌, ◌++◌, map, refl, sym, ap, ◌∙◌, subst, arith, Result, Ok, Err}
use Rattle.disk.specs.Disk.{Image}
use Rattle.disk.specs.Faulty.{inner_of}
use Rattle.disk.specs.MemDisk.{state_of, sectors_of}
use Rattle.disk.specs.Memory.{MayLeave as MayBeLeft}
use Rattle.disk.specs.declared.disk.Disk.{Ghosts}
use Rattle.disk.specs.declared.memory.MemDisk.{MemDisk}
use Rattle.disk.specs.declared.torn.Torn.{Torn}
use Rattle.edits.specs.declared.command.Command.{Command}
use Rattle.engine.specs.declared.event.Event.{Event}
use Rattle.engine.specs.declared.event.Event.TheVariants as ask
use Rattle.engine.specs.declared.event.Reply.{Reply}
use Rattle.engine.specs.declared.event.Reply.TheVariants as reply
use Rattle.store.specs.Accepted.{Since, none_asked, found_too}
use Rattle.store.specs.Sessions.{Call, Made, Asked, known_by, known_without, IsRefusedWithCause, Session, Unopened, Ended, Stopped, IsSession, first_disk, last_disk, MayLeave, TakesOver, FindsBy, EachFindsIn, EachFinds}
use Rattle.stored_mosaic.specs.Standing.{StandsFor}
use Rattle.store.proofs.Calls.SessionsInTurn.{sessions_compose}
use Rattle.store.specs.declared.store.Store.{Store}
use Rattle.roots.specs.declared.roots.NotOpened.{NotOpened}
use Rattle.engine.specs.State.{Contents}
use Rattle.memory_store.specs.TwoSessions.{CutDisk, HoldsOnly, AsksEvents, WasCutOff}

module _ (g : Ghosts CutDisk) where
  -- An image that a cut leaves of the last disk is one that the session may leave.
  pub left_by_session : ((disk : CutDisk) (t : ℕ) (c : Image) → g.honest disk → t ≤ g.moment disk → g.may disk c → g.since disk t c) → (session : Session g) → IsSession g session → g.honest (last_disk g session)
      → (events : List Event) (answers : List Reply) → AsksEvents g session events answers → (image : Image) → g.may (last_disk g session) image → MayLeave g session image
  left_by_session counts_now (Unopened disk opened) is honest events answers asks image may = counts_now _ (g.moment disk) image honest (is.nothing honest).run.later may
  left_by_session counts_now (Ended disk store calls) is honest events answers asks image may = may
  left_by_session counts_now (Stopped disk store calls last) is honest events answers asks image may = absurd asks

  -- The next disk has the contents that the cut left of the one before.
  pub takes_all : (sectors : ℕ) (Left : Image → Type 0) (next : CutDisk) → sectors ≤ g.size next → ((image : Image) → g.may next image → Left image) → TakesOver g sectors Left next
  takes_all sectors Left next longer holds = record { longer = longer; holds = λ image may. (image, holds image may, λ k below. refl) }

-- the facts about a disk in memory whose calls fail from some call on
pub record IsOverMemory (g : Ghosts CutDisk) : Type 0 where
  pub honest : (disk : CutDisk) → g.honest disk
  pub may : (disk : CutDisk) (image : Image) → g.may disk image → MayBeLeft (state_of (inner_of disk)) image
  pub may_be : (disk : CutDisk) (image : Image) → MayBeLeft (state_of (inner_of disk)) image → g.may disk image
  pub size : (disk : CutDisk) → g.size disk ≡ sectors_of (inner_of disk)
  pub counts_now : (disk : CutDisk) (t : ℕ) (c : Image) → g.honest disk → t ≤ g.moment disk → g.may disk c → g.since disk t c
  pub only_now : (disk : CutDisk) (image : Image) → g.honest disk → g.since disk (g.moment disk) image → g.may disk image

module _ (g : Ghosts CutDisk) (over : IsOverMemory g) where
  -- The next disk is the one that the cut left.
  after_cut : (disk left : MemDisk) (passes : ℕ) (events : List Event) (torn : Torn) (answers : List Reply) (was : WasCutOff g disk passes events torn answers left) (next : CutDisk) → inner_of next ≡ left
      → TakesOver g (g.size (last_disk g was.session)) (λ image. MayLeave g was.session image) next
  after_cut disk left passes events torn answers was next is = takes_all g (g.size (last_disk g was.session)) (λ image. MayLeave g was.session image) next (omega (arith, same))
      (λ image may. left_by_session g over.counts_now was.session was.is (over.honest (last_disk g was.session)) events answers was.asks image
      (over.may_be (last_disk g was.session) image (was.cut.none_new image (subst (λ (d : MemDisk). MayBeLeft (state_of d) image) is (over.may next image may)))))
    where
      same : g.size (last_disk g was.session) ≡ g.size next
      same = over.size (last_disk g was.session) ∙ sym was.cut.sectors ∙ sym (ap sectors_of is) ∙ sym (over.size next)

  -- the disk after two sessions, and in one more
  after_two : (disk between after : MemDisk) (passes later_passes : ℕ) (events later_events : List Event) (torn later_torn : Torn) (early late : List Reply)
      (first : WasCutOff g disk passes events torn early between) (second : WasCutOff g between later_passes later_events later_torn late after)
      (side capacity : ℕ) (was : Contents) → HoldsOnly disk side capacity was
      → (last : Session g) → inner_of (first_disk g last) ≡ after → IsSession g last
      → EachFinds (λ (one : Unit {0}). g) side capacity was [] none_asked ((tt, first.session) ∷ (tt, second.session) ∷ (tt, last) ∷ [])
  after_two disk between after passes later_passes events later_events torn later_torn early late first second side capacity was holds last began is =
      let start = first_disk g first.session in
      sessions_compose (λ (one : Unit {0}). g) (λ one. over.only_now) side capacity was tt start ((tt, first.session) ∷ (tt, second.session) ∷ (tt, last) ∷ [])
      (λ image may. subst (λ (n : ℕ). StandsFor n side capacity image was) (ap sectors_of (sym first.began) ∙ sym (over.size start))
      (holds image (subst (λ (d : MemDisk). MayBeLeft (state_of d) image) first.began (over.may start image may))))
      (first.is, (second.is, (is, tt))) (
        takes_all g (g.size start) (λ image. g.may start image) start (omega arith) (λ image may. may),
        over.honest (last_disk g first.session),
        (
          after_cut disk between passes events torn early first (first_disk g second.session) second.began,
          over.honest (last_disk g second.session),
          (after_cut between after later_passes later_events later_torn late second (first_disk g last) began, over.honest (last_disk g last), tt),
        ),
      )

pub in_turn : {g : Ghosts CutDisk} {disk between after : MemDisk} {passes later_passes : ℕ} {events later_events : List Event} {torn later_torn : Torn} {early late : List Reply}
    (first : WasCutOff g disk passes events torn early between) (second : WasCutOff g between later_passes later_events later_torn late after) → IsOverMemory g
    → (side capacity : ℕ) (was : Contents) → HoldsOnly disk side capacity was → (last : Session g) → inner_of (first_disk g last) ≡ after → IsSession g last
    → EachFinds (λ (one : Unit {0}). g) side capacity was [] none_asked ((tt, first.session) ∷ (tt, second.session) ∷ (tt, last) ∷ [])
in_turn {g} {disk} {between} {after} {passes} {later_passes} {events} {later_events} {torn} {later_torn} {early} {late} first second over =
    after_two g over disk between after passes later_passes events later_events torn later_torn early late first second

-- the cause of the last opening's refusal
module _ (g : Ghosts CutDisk) (side capacity : ℕ) (was : Contents) where
  by_call : (call : Call) (store : Store CutDisk g) (found : List Command) (since : Since) (Then : List Command → Since → Type 0) → FindsBy (λ (one : Unit {0}). g) side capacity was tt call store found since Then
      → (now : List Command) × ((known : Since) × Then now known)
  by_call (Asked ask.Reopen reply.Reopened) store found since Then (late, accepted, after, is) = (found ++ late, (found_too since, is))
  by_call call store found since Then is = (found, (known_by since call, is))

  by_calls : (calls : List (Made g)) (found : List Command) (since : Since) (Then : List Command → Since → Type 0) → EachFindsIn (λ (one : Unit {0}). g) side capacity was tt calls found since Then
      → (now : List Command) × ((known : Since) × Then now known)
  by_calls [] found since Then is = (found, (since, is))
  by_calls (made ∷ more) found since Then (answered, is) =
      let (now, (known, rest)) = by_call made.call made.store found since (λ now known. EachFindsIn (λ (one : Unit {0}). g) side capacity was tt more now known Then) is in
      by_calls more now known Then rest

  pub refused_last : (found : List Command) (since : Since) (sessions : List (Session g)) (next : CutDisk) (e : NotOpened CutDisk)
      → EachFinds (λ (one : Unit {0}). g) side capacity was found since (map (λ (session : Session g). (tt, session)) sessions ++ (tt, Unopened next (Err e)) ∷ []) → IsRefusedWithCause g next e
  refused_last found since [] next e (cause, none) = cause
  refused_last found since (Unopened disk opened ∷ more) next e (cause, finds) = refused_last found since more next e finds
  refused_last found since (Ended disk store calls ∷ more) next e (late, accepted, after, finds) =
      let (now, (known, rest)) = by_calls calls (found ++ late) (found_too since) _ finds in
      refused_last now known more next e rest
  refused_last found since (Stopped disk store calls last ∷ more) next e (late, accepted, after, finds) =
      let (now, (known, rest)) = by_calls calls (found ++ late) (found_too since) _ finds in
      refused_last now (known_without known last.call) more next e rest
