-- Events that a store answered one after another.
use Rattle.store.proofs.Prelude.{Asked, Event, Ghosts, Image, List, MakesCallsOf, Reply, Runs, Store, [], members, refl, subst, ◌∷◌, ◌≡◌, ◌≤◌}
use Rattle.engine.specs.Engines.{IsCall, Calls, Laws}
use Rattle.engine.specs.Runs.{last_of, Through}
use Rattle.engine.proofs.Chains.{keeps, runs}
use Rattle.store.specs.StoreRuns.{nothing_done, one_by_one, among_more}
use Rattle.store.specs.Stores.{disk_of}

module _ {D : Type 0} (g : Ghosts D) where
  module _ (only_now : (disk : D) (image : Image) → g.honest disk → g.since disk (g.moment disk) image → g.may disk image) where
    laws : Laws (members g) (IsCall (members g))
    laws = record {
      is_call = λ old new event answer call. call;
      stays = λ store s honest at. nothing_done store s [] (λ image. only_now (disk_of store) image) honest at;
      in_turn = λ first mid last states more before after. one_by_one first mid last states more before after;
      weaker = λ first last states more among before. among_more first last states more among before;
    }

    pub ran : (old new : Store D g) (events : List Event) (replies : List Reply) → Calls (IsCall (members g)) old events replies new → Runs g old new events replies
    ran old new events replies (stores, (is, chain)) = (
      stores,
      (
        is,
        record {
          answered = chain;
          keeps = keeps (members g) (IsCall (members g)) laws old events replies stores chain;
          states = runs (members g) (IsCall (members g)) laws old events replies stores chain;
        },
      ),
    )

  -- what is known about the last store
  pub known_then : (old new : Store D g) (events : List Event) (replies : List Reply) → Runs g old new events replies
      → (g.size (disk_of new) ≡ g.size (disk_of old)) × (g.failures (disk_of old) ≤ g.failures (disk_of new)) × (g.honest (disk_of new) → g.honest (disk_of old))
  known_then old new events replies (stores, (is, run)) =
      subst (λ (store : Store D g). (g.size (disk_of store) ≡ g.size (disk_of old)) × (g.failures (disk_of old) ≤ g.failures (disk_of store)) × (g.honest (disk_of store) → g.honest (disk_of old))) is
      (run.keeps.sectors, run.keeps.later, run.keeps.honest)

  -- the run as calls of a session
  pub calls_of_run : (old : Store D g) (events : List Event) (answers : List Reply) (stores : List (Store D g)) → Through (IsCall (members g)) old events answers stores
      → MakesCallsOf g old (last_of old stores) events answers
  calls_of_run old [] [] [] run = ([], tt, refl, tt)
  calls_of_run old (event ∷ events) (answer ∷ answers) (next ∷ stores) (one, run) =
      let (calls, made, ends, asks) = calls_of_run next events answers stores run in
      (record { call = Asked event answer; store = next } ∷ calls, (one, made), ends, (refl, asks))
  calls_of_run old [] [] (next ∷ stores) run = absurd run
  calls_of_run old [] (answer ∷ answers) stores run = absurd run
  calls_of_run old (event ∷ events) [] stores run = absurd run
  calls_of_run old (event ∷ events) (answer ∷ answers) [] run = absurd run
