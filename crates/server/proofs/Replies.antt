-- The calls that a session makes for its items.
use Rattle.std.proofs.Common.{◌≡◌, ℕ, List, [], ◌∷◌, ◌++◌, Option, Result, Ok, Err, refl, sym, ap, ◌∙◌, subst}
use Rattle.disk.specs.declared.disk.Disk.{Ghosts}
use Rattle.engine.specs.Runs.{last_of}
use Rattle.engine.specs.Engines.{IsCall}
use Rattle.lines.specs.declared.language.Language.{Language}
use Rattle.serving.specs.Answers.{Replied, Turn, Ask, Refuse, End, ComesTo, Turns}
use Rattle.serving.specs.Items.{Item}
use Rattle.serving.specs.Served.{Outcome, Replies}
use Rattle.serving.specs.declared.session.ServeFault.{ServeFault}
use Rattle.serving.specs.declared.session.ServeFault.TheVariants.{Input, Output}
use Rattle.store.specs.Sessions.{Asked, Made, AreMade, IsMade, last_store}
use Rattle.store.specs.StoreState.{members}
use Rattle.store.specs.Stores.{side_of}
use Rattle.store.specs.declared.store.Store.{Store}
use Rattle.server.specs.Replies.{GoesOnBy, IsReplied}

module _ {D : Type 0} (g : Ghosts D) where
  -- one call more
  last_more : (store : Store D g) (calls : List (Made g)) (made : Made g) → last_store g store (calls ++ made ∷ []) ≡ made.store
  last_more store [] made = refl
  last_more store (c ∷ calls) made = last_more c.store calls made

  made_more : (store : Store D g) (calls : List (Made g)) (made : Made g) → AreMade g store calls → IsMade g (last_store g store calls) made.call made.store → AreMade g store (calls ++ made ∷ [])
  made_more store [] made are one = (one, tt)
  made_more store (c ∷ calls) made (first, are) one = (first, made_more c.store calls made are one)

  module _ (store : Store D g) (IsAnswered : Store D g → Item → List ℕ → Store D g → Type 0)
      (is_replied : (old : Store D g) (i : Item) (text : List ℕ) (new : Store D g) → IsAnswered old i text new → Replied (IsCall (members g)) (λ e. side_of e) old i text new) where
    abbrev side_then : List (Made g) → ℕ
    side_then so_far = side_of (last_store g store so_far)

    -- the calls after those so far, on the store that they led to
    record ByCalls (so_far : List (Made g)) (items : List Item) (text : List ℕ) (last : Store D g) : Type 0 where
      through : List (List (Made g))
      replies : Replies (Replied (GoesOnBy g) side_then) so_far items text through
      made : AreMade g store (last_of so_far through)
      ends : last_store g store (last_of so_far through) ≡ last

    -- the calls for one item
    record OneItem (so_far : List (Made g)) (i : Item) (text : List ℕ) (new : Store D g) : Type 0 where
      more : List (Made g)
      replied : Replied (GoesOnBy g) side_then so_far i text more
      made : AreMade g store more
      ends : last_store g store more ≡ new

    one_item : (so_far : List (Made g)) (old new : Store D g) (i : Item) (text : List ℕ) → AreMade g store so_far → last_store g store so_far ≡ old → Replied (IsCall (members g)) (λ e. side_of e) old i text new
        → OneItem so_far i text new
    one_item so_far old new i text made is (turn, comes, turns) = by turn (subst (λ (n : ℕ). ComesTo n i.asked i.payload turn) (sym (ap (λ (e : Store D g). side_of e) is)) comes) turns
      where
        by : (turn : Turn) → ComesTo (side_then so_far) i.asked i.payload turn → Turns (IsCall (members g)) turn old text new → OneItem so_far i text new
        by (Ask event) comes (answer, call, tells) =
            let one : Made g = record { call = Asked event answer; store = new } in
            record {
              more = so_far ++ one ∷ [];
              replied = (Ask event, comes, (answer, (one, refl, refl), tells));
              made = made_more store so_far one made (subst (λ (e : Store D g). IsCall (members g) e event answer new) (sym is) call);
              ends = last_more store so_far one;
            }
        by (Refuse r) comes (says, same) = record { more = so_far; replied = (Refuse r, comes, (says, refl)); made = made; ends = is ∙ sym same }
        by End comes (says, same) = record { more = so_far; replied = (End, comes, (says, refl)); made = made; ends = is ∙ sym same }

    by_calls : (so_far : List (Made g)) (old : Store D g) (items : List Item) (text : List ℕ) (stores : List (Store D g)) → AreMade g store so_far → last_store g store so_far ≡ old
        → Replies IsAnswered old items text stores → ByCalls so_far items text (last_of old stores)
    by_calls so_far old [] text [] made is right = record { through = []; replies = right; made = made; ends = is }
    by_calls so_far old [] text (new ∷ stores) made is right = absurd right
    by_calls so_far old (i ∷ items) text [] made is right = absurd right
    by_calls so_far old (i ∷ items) text (new ∷ stores) made is (reply, more, parts, told, rest) =
        let one = one_item so_far old new i reply made is (is_replied old i reply new told) in
        let others = by_calls one.more new items more stores one.made one.ends rest in
        record {
          through = one.more ∷ others.through;
          replies = (reply, more, parts, one.replied, others.replies);
          made = others.made;
          ends = others.ends;
        }

    -- the calls of a session, and the replies to its items
    pub record Served (language : Language) (stores : List (Store D g)) (before after written now : Option (List ℕ)) (result : Result (Unit {0}) ServeFault) : Type 0 where
      pub calls : List (Made g)
      pub made : AreMade g store calls
      pub ends : last_store g store calls ≡ last_of store stores
      pub told : IsReplied g language store calls before after written now result

    pub served : (language : Language) (stores : List (Store D g)) (before after written now : Option (List ℕ)) (result : Result (Unit {0}) ServeFault) → Outcome language IsAnswered before after written now store stores result
        → Served language stores before after written now result
    served language stores before after written now (Ok u) (items, text, are, appends, right) =
        let by = by_calls [] store items text stores tt refl right in
        record { calls = last_of [] by.through; made = by.made; ends = by.ends; told = record { through = by.through; replies = (items, text, are, appends, by.replies); all = refl } }
    served language stores before after written now (Err Input) (items, rest, text, each, begun, taken, appends, right) =
        let by = by_calls [] store items text stores tt refl right in
        record { calls = last_of [] by.through; made = by.made; ends = by.ends; told = record { through = by.through; replies = (items, rest, text, each, begun, taken, appends, by.replies); all = refl } }
    served language stores before after written now (Err Output) (items, i, extent, text, n, left, each, item, taken, right, appends) =
        let by = by_calls [] store (items ++ i ∷ []) text stores tt refl right in
        record {
          calls = last_of [] by.through;
          made = by.made;
          ends = by.ends;
          told = record { through = by.through; replies = (items, i, extent, text, n, left, each, item, taken, by.replies, appends); all = refl };
        }
