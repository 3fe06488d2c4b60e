-- Items read one after another, and the replies written for them.
use Rattle.std.proofs.Common.{rules}
use Rattle.std.proofs.Common.{◌≡◌, ◌≢◌, ℕ, List, [], ◌∷◌, ◌++◌, length, Option, Some, None, refl, sym, ap, ◌∙◌, subst, append_assoc, arith, inl, inr, ◌⊎◌, ◌<◌}
use Rattle.std.specs.Prelude.{IfSome, OnOk, flat_map, All, Contains, Result, Ok, Err, Vec, option_map, nat_le, if◌then◌else◌, Bool, true, false}
use Rattle.std.specs.declared.alloc.Global.{Global}
use Rattle.std.specs.Io.KnownBytes.{Appends, Consumes, IsAtEnd, prepend_known}
use Rattle.std.proofs.KnownBytes.{Appends-nil, Appends-trans, Consumes-nil, Consumes-trans}
use Rattle.std.proofs.lemmas.List.{append-nil}
use Rattle.std.proofs.lemmas.List.Elements.{All-nil, All-push, Contains-push, Contains-push_cases, Contains-append_left, Contains-append_right, Contains-append_cases}
use Rattle.std.proofs.lemmas.Grind.{flat_map-append}
use Rattle.lines.specs.declared.request.Request.{Request}
use Rattle.serving.specs.declared.session.ServeFault.{ServeFault}
use Rattle.serving.specs.declared.session.ServeFault.TheVariants.{Input, Output}
use Rattle.serving.specs.declared.session.Next.{Next}
use Rattle.serving.specs.declared.session.Next.TheVariants.{More, End}
use Rattle.lines.specs.declared.source.Extent.{Extent}
use Rattle.lines.specs.declared.source.Extent.TheVariants.{Whole, Cut}
use Rattle.lines.specs.Grammar.{Asked, AskQuit}
use Rattle.lines.specs.Lines.{IsLine, line_feed, kept, Reaches}
use Rattle.lines.specs.declared.language.Language.{Language}
use Rattle.lines.specs.Requests.{asked, IsRequestOf}
use Rattle.serving.specs.Items.{Item, spelled, AsksFor, payload_len, Came, IsItem, GoesOn}
use Rattle.engine.specs.Runs.{last_of}
use Rattle.lines.specs.Ahead.{IsNear, IsRest, Lookahead, to_come}
use Rattle.serving.specs.Moments.{AreTurns, GoesInTurn, IsStep, IsTurn, Moment, ended}
use Rattle.serving.specs.Outputs.{Stream, HasLeft}
use Rattle.serving.specs.Served.{Replies, Ends, AreItemsOf, Outcome, ReadsNoFurther}
use Rattle.serving.specs.Session.{Stored, Holds, Steps, SoFar, EndsReading}
use Rattle.serving.proofs.WriteLemmas.{Appends-second}

-- A line whose bytes are kept has at most 2048 bytes.
pub kept_some : (text bytes : List ℕ) (line : Option (List ℕ)) → line ≡ Some bytes → line ≡ kept text → bytes ≡ text
kept_some text bytes line some is = by (nat_le (length text) 2048) (sym some ∙ is)
  where
    by : (b : Bool) → Some bytes ≡ (if b then Some text else None) → bytes ≡ text
    by true e = cc
    by false e = absurd (cc)

-- An item's payload was read whole, or the end of the input cut it short.
pub came_whole : (fed extent : Extent) (count len : ℕ) → Came fed extent count len → extent ≡ Whole → count ≡ len
came_whole Whole Whole count len came is = came
came_whole Whole Cut count len came is = absurd (cc)
came_whole Cut extent count len came is = absurd (let cut = came.0 in cc)

pub came_cut : (fed extent : Extent) (count len : ℕ) → Came fed extent count len → extent ≡ Cut → (count < len) ⊎ (count ≡ 0)
came_cut Whole Whole count len came is = absurd (cc)
came_cut Whole Cut count len came is = inl came
came_cut Cut extent count len came is = inr came.1

pub nothing_taken : (ahead : List ℕ) (r : Option (List ℕ)) → Consumes (prepend_known ahead r) (prepend_known ahead r) []
nothing_taken ahead r = Consumes-nil (prepend_known ahead r)

-- A line was taken, and then its payload.
pub item_taken : (a b c : Option (List ℕ)) (i : Item) (text : List ℕ) (fed : Extent) → i.line ≡ text → i.fed ≡ fed
    → Consumes a b (text ++ line_feed fed) → Consumes b c i.payload → Consumes a c (spelled i)
item_taken a b c i text fed e f x y =
    subst (Consumes a c) (append_assoc i.line (line_feed i.fed) i.payload)
    (Consumes-trans a b c (i.line ++ line_feed i.fed) i.payload (rw (e, f) x) y)

-- A line was taken, and then a prefix of its payload.
pub begun_taken : (a b c : Option (List ℕ)) (text bytes : List ℕ) → Consumes a b (text ++ (10 ∷ [])) → Consumes b c bytes → Consumes a c (text ++ (10 ∷ bytes))
begun_taken a b c text bytes x y =
    subst (Consumes a c) (append_assoc text (10 ∷ []) bytes) (Consumes-trans a b c (text ++ (10 ∷ [])) bytes x y)

module _ {X : Type 0} (IsRight : X → Item → List ℕ → X → Type 0) where
  -- one item and its reply
  pub one_reply : (s : X) (i : Item) (reply : List ℕ) (t : X) → IsRight s i reply t → Replies IsRight s (i ∷ []) reply (t ∷ [])
  one_reply s i reply t q = (reply, [], sym (append-nil reply), q, refl)

  -- Replies to some items, and then replies to more, are replies to all.
  replies_append : (s : X) (items more : List Item) (text reply : List ℕ) (us vs : List X) → Replies IsRight s items text us → Replies IsRight (last_of s us) more reply vs
      → Replies IsRight s (items ++ more) (text ++ reply) (us ++ vs)
  replies_append s [] more text reply [] vs e q = rw e q
  replies_append s [] more text reply (t ∷ us) vs h q = absurd h
  replies_append s (i ∷ is) more text reply [] vs h q = absurd h
  replies_append s (i ∷ is) more text reply (t ∷ us) vs (first, rest, e, p, r) q =
      (first, rest ++ reply, ap (λ l. l ++ reply) e ∙ append_assoc first rest reply, p, replies_append t is more rest reply us vs r q)

ahead_taken : (ahead : List ℕ) (r : Option (List ℕ)) → Consumes (prepend_known ahead r) r ahead
ahead_taken ahead None = tt
ahead_taken ahead (Some xs) = refl

one_spelled : (items : List Item) (i : Item) → flat_map spelled (items ++ i ∷ []) ≡ flat_map spelled items ++ spelled i
one_spelled items i = flat_map-append spelled items (i ∷ []) ∙ ap (λ l. flat_map spelled items ++ l) (append-nil (spelled i))

-- If the buffer is empty, the reader has all bytes still to be taken.
none_ahead : (ahead : List ℕ) (r : Option (List ℕ)) → ahead ≡ [] → prepend_known ahead r ≡ r
none_ahead ahead None e = refl
none_ahead ahead (Some xs) e = rw e refl

abbrev fault_of : ServeFault → Result Next ServeFault
fault_of e = Err e

-- A step begins in the state in which the steps before it end.
module _ {X : Type 0} (IsRight : X → Item → List ℕ → X → Type 0) where
  then_on : (s x : X) (items more : List Item) (text reply : List ℕ) (us vs : List X) → last_of s us ≡ x → Replies IsRight s items text us → Replies IsRight x more reply vs
      → Replies IsRight s (items ++ more) (text ++ reply) (us ++ vs)
  then_on s x items more text reply us vs is r p = replies_append IsRight s items more text reply us vs r (subst (λ (y : X). Replies IsRight y more reply vs) (sym is) p)

module _ {X : Type 0} where
  -- the last state of two runs, one after the other
  pub last_of-append : (s : X) (us vs : List X) → last_of s (us ++ vs) ≡ last_of (last_of s us) vs
  last_of-append s [] vs = refl
  last_of-append s (t ∷ us) vs = last_of-append t us vs

  last_contained : (s : X) (us : List X) → Contains (s ∷ us) (last_of s us)
  last_contained s [] = Contains-push [] s
  last_contained s (t ∷ us) = Contains-append_right (s ∷ []) (t ∷ us) (last_of t us) (last_contained t us)

  only_one : (x y : X) → Contains (y ∷ []) x → y ≡ x
  only_one x y h = by (Contains-push_cases [] y x h)
    where
      by : Contains [] x ⊎ (y ≡ x) → y ≡ x
      by (inl none) = absurd (let below = none.1 in omega (arith, below))
      by (inr is) = is

  -- A second run begins in the state in which the first ends.
  pub run_joined : (s : X) (us vs : List X) (x : X) → Contains ((s ∷ us) ++ (last_of s us ∷ vs)) x → Contains (s ∷ (us ++ vs)) x
  run_joined s us vs x h = by (Contains-append_cases (s ∷ us) (last_of s us ∷ vs) x h)
    where
      later : Contains (last_of s us ∷ []) x ⊎ Contains vs x → Contains (s ∷ (us ++ vs)) x
      later (inl last) = Contains-append_left (s ∷ us) vs x (subst (Contains (s ∷ us)) (only_one x (last_of s us) last) (last_contained s us))
      later (inr more) = Contains-append_right (s ∷ us) vs x more

      by : Contains (s ∷ us) x ⊎ Contains (last_of s us ∷ vs) x → Contains (s ∷ (us ++ vs)) x
      by (inl before) = Contains-append_left (s ∷ us) vs x before
      by (inr after) = later (Contains-append_cases (last_of s us ∷ []) vs x after)

module _ (language : Language) where
  -- A line asks for what its request asks for.
  pub asks_for : (line : List ℕ) (o : Option Request) → IsRequestOf language line o → AsksFor language line (option_map asked o)
  asks_for line (Some r) h = h
  asks_for line None h = h

  -- an item whose line ends with an LF
  pub holds_whole : (text : List ℕ) (q : Option Request) (p : Option (Vec ℕ Global)) (e : Extent) (bytes : List ℕ) → IsLine text → (Whole ≡ Cut → text ≢ []) → AsksFor language text (option_map asked q)
      → Stored p bytes → Reaches e (length bytes) (payload_len (option_map asked q))
      → Holds language (record { request = q; payload = p; extent = e }) (record { line = text; fed = Whole; asked = option_map asked q; payload = bytes })
  holds_whole text q p e bytes line some right stored came = search rules

  -- an item whose line the end of the input cuts short
  pub holds_cut : (text : List ℕ) (q : Option Request) → IsLine text → text ≢ [] → AsksFor language text (option_map asked q)
      → Holds language (record { request = q; payload = None; extent = Cut }) (record { line = text; fed = Cut; asked = option_map asked q; payload = [] })
  holds_cut text q line some right = search rules

  -- No byte is left to be taken.
  pub ends_none : (ahead : List ℕ) (r old : Option (List ℕ)) → Consumes old (prepend_known ahead r) [] → ahead ≡ [] → IsAtEnd r → IfSome old (λ input. Ends language input [])
  ends_none ahead r None c e end = tt
  ends_none ahead None (Some xs) c e end = absurd c
  ends_none ahead (Some ys) (Some xs) c e end = c ∙ rw (e, end) refl

  -- the last item, if the end of the input cuts it short
  ends_cut : (old : Option (List ℕ)) (ahead : List ℕ) (r : Option (List ℕ)) (i : Item) → Consumes old (prepend_known ahead r) (spelled i)
      → ahead ≡ [] → IsAtEnd r → IsItem language Cut i → IfSome old (λ input. Ends language input (i ∷ []))
  ends_cut None ahead r i c e end item = tt
  ends_cut (Some xs) ahead None i c e end item = absurd c
  ends_cut (Some xs) ahead (Some ys) i c e end item =
      let nothing : ahead ++ ys ≡ [] = rw (e, end) refl in
      inl (item, c ∙ ap (λ l. spelled i ++ l) nothing ∙ append-nil (spelled i))

  -- the last item, if it is `quit`; anything may follow it
  ends_quit : (before after : Option (List ℕ)) (i : Item) → Consumes before after (spelled i) → IsItem language Whole i → i.asked ≡ Some AskQuit → IfSome before (λ input. Ends language input (i ∷ []))
  ends_quit None after i c item e = tt
  ends_quit (Some xs) None i c item e = absurd c
  ends_quit (Some xs) (Some ys) i c item e = inr (ys, item, e, c)

  -- The last item is cut short by the end of the input, or it is `quit`.
  pub ends_last : (old : Option (List ℕ)) (ahead : List ℕ) (r : Option (List ℕ)) (i : Item) (e : Extent) (o : Option Asked) → Consumes old (prepend_known ahead r) (spelled i)
      → o ≡ i.asked → IsItem language e i → (e ≡ Cut → (ahead ≡ []) × IsAtEnd r) → (e ≡ Cut) ⊎ (o ≡ Some AskQuit) → IfSome old (λ input. Ends language input (i ∷ []))
  ends_last old ahead r i Cut o c same item end last = let none = end refl in ends_cut old ahead r i c none.0 none.1 item
  ends_last old ahead r i Whole o c same item end (inl cut) = absurd (cc)
  ends_last old ahead r i Whole o c same item end (inr quit) = ends_quit old (prepend_known ahead r) i c item (sym same ∙ quit)

  pub goes_on : (i : Item) (e : Extent) (o : Option Asked) → o ≡ i.asked → IsItem language e i → ((e ≡ Cut) ⊎ (o ≡ Some AskQuit) → ⊥) → GoesOn language i
  goes_on i Cut o same item not_last = absurd (not_last (inl refl))
  goes_on i Whole o same item not_last = record { whole = item; on = (λ quit. not_last (inr (same ∙ quit))) }

  -- A whole item has a whole line.
  pub whole_fed : (i : Item) → IsItem language Whole i → i.fed ≡ Whole
  whole_fed i item = by i.fed refl
    where
      by : (fed : Extent) → i.fed ≡ fed → i.fed ≡ Whole
      by Whole same = same
      by Cut same = let came = subst (λ (fed : Extent). Came fed Whole (length i.payload) (payload_len i.asked)) same item.came in absurd (let cut = came.0 in cc)

  -- The reading ends with the last item.
  pub ends_reading : (before : Option (List ℕ)) (ahead : List ℕ) (after : Option (List ℕ)) (i : Item) (e : Extent) (o : Option Asked) → Consumes before (prepend_known ahead after) (spelled i)
      → o ≡ i.asked → IsItem language e i → (e ≡ Cut → (ahead ≡ []) × IsAtEnd after) → (i.fed ≡ Whole → o ≡ Some AskQuit → IsNear ahead) → (e ≡ Cut) ⊎ (o ≡ Some AskQuit) → EndsReading language before ahead after
  ends_reading before ahead after i Cut o c same item end near last = inl (end refl)
  ends_reading before ahead after i Whole o c same item end near (inl cut) = absurd (cc)
  ends_reading before ahead after i Whole o c same item end near (inr quit) = inr (i, item, sym same ∙ quit, near (whole_fed i item) quit, c)

  -- The reading ends with the last item, after the items before it.
  pub reads_no_further : {X : Type 0} (IsRight : X → Item → List ℕ → X → Type 0) (before mid w v : Option (List ℕ)) (ahead : List ℕ) (after : Option (List ℕ)) (s : X) (us : List X)
      → SoFar language IsRight before mid w v s us → EndsReading language mid ahead after → ReadsNoFurther language before after
  reads_no_further IsRight before mid w v ahead after s us so_far (inl end) = inl end.1
  reads_no_further IsRight before mid w v ahead after s us (items, text, each, taken, appended, replied) (inr (quit, item, asks, near, last)) =
      inr (
        items,
        quit,
        ahead,
        each,
        item,
        asks,
        near,
        Consumes-trans before (prepend_known ahead after) after (flat_map spelled items ++ spelled quit) ahead (Consumes-trans before mid (prepend_known ahead after) (flat_map spelled items) (spelled quit) taken last) (ahead_taken ahead after),
      )

  -- the items before the last, and then the end
  items_end : (before after : Option (List ℕ)) (items last : List Item) → All (GoesOn language) items → Consumes before after (flat_map spelled items)
      → IfSome after (λ input. Ends language input last) → IfSome before (λ input. AreItemsOf language input (items ++ last))
  items_end None after items last each c e = tt
  items_end (Some xs) None items last each c e = absurd c
  items_end (Some xs) (Some ys) items last each c e = (items, last, ys, each, e, refl, c)

  module _ {X : Type 0} (IsRight : X → Item → List ℕ → X → Type 0) where
    pub so_far_none : (ahead : List ℕ) (r w : Option (List ℕ)) (s : X) → ahead ≡ [] → SoFar language IsRight r (prepend_known ahead r) w w s []
    so_far_none ahead r w s e =
        ([], [], All-nil (GoesOn language), subst (λ l. Consumes r l []) (sym (none_ahead ahead r e)) (Consumes-nil r), Appends-nil w, refl)

    pub so_far_more : (b a c w m v : Option (List ℕ)) (s x : X) (us vs : List X) → last_of s us ≡ x → SoFar language IsRight b a w m s us → Steps language IsRight a c m v x vs (Ok More) → SoFar language IsRight b c w v s (us ++ vs)
    so_far_more b a c w m v s x us vs is (items, text, each, k, y, r) (i, reply, on, k2, y2, p) = (
      items ++ i ∷ [],
      text ++ reply,
      All-push (GoesOn language) items i each on,
      subst (Consumes b c) (sym (one_spelled items i)) (Consumes-trans b a c _ _ k k2),
      Appends-trans w m v _ _ y y2,
      then_on IsRight s x items (i ∷ []) text reply us vs is r p,
    )

    pub so_far_end : (b a c d w m v : Option (List ℕ)) (s x : X) (us vs : List X) → last_of s us ≡ x → SoFar language IsRight b a w m s us → Steps language IsRight a c m v x vs (Ok End)
        → Outcome language IsRight b d w v s (us ++ vs) (Ok tt)
    so_far_end b a c d w m v s x us vs is (items, text, each, k, y, r) (last, reply, e, y2, p) =
        (items ++ last, text ++ reply, items_end b a items last each k e, Appends-trans w m v text reply y y2, then_on IsRight s x items last text reply us vs is r p)

    pub so_far_fault : (b a w m v : Option (List ℕ)) (ahead : List ℕ) (d : Option (List ℕ)) (s x : X) (us vs : List X) (e : ServeFault) → last_of s us ≡ x
        → SoFar language IsRight b a w m s us → (fault_of e ≡ fault_of Input → ahead ≡ []) → Steps language IsRight a (prepend_known ahead d) m v x vs (Err e) → Outcome language IsRight b d w v s (us ++ vs) (Err e)
    so_far_fault b a w m v ahead d s x us vs Input is (items, text, each, k, y, r) none (rest, begun, k2, y2, e) = (
      items,
      rest,
      text,
      each,
      begun,
      subst (λ l. Consumes b l (flat_map spelled items ++ rest)) (none_ahead ahead d (none refl)) (Consumes-trans b a (prepend_known ahead d) _ _ k k2),
      subst (Appends w v) (append-nil text) (Appends-trans w m v text [] y y2),
      subst (λ (states : List X). Replies IsRight s items text states) (sym (ap (λ l. us ++ l) e ∙ append-nil us)) r,
    )
    so_far_fault b a w m v ahead d s x us vs Output is (items, text, each, k, y, r) none (i, extent, reply, j, item, k2, y2, p) =
        let more = Appends-second w m v text reply j y y2 in (
          items,
          i,
          extent,
          text ++ reply,
          more.0,
          prepend_known ahead d,
          each,
          item,
          Consumes-trans b a (prepend_known ahead d) _ _ k k2,
          then_on IsRight s x items (i ∷ []) text reply us vs is r p,
          more.1,
        )

module _ {R O E : Type 0} (IsRight : E → Item → List ℕ → E → Type 0) (language : Language) (remaining : R → Option (List ℕ)) (stream : O → Stream) where
  turns_more : (was : Moment R O E) (moments : List (Moment R O E)) (now : Moment R O E) → AreTurns IsRight language remaining stream was moments → IsTurn IsRight language remaining stream (last_of was moments) now
      → AreTurns IsRight language remaining stream was (moments ++ now ∷ [])
  turns_more was [] now turns turn = (turn, tt)
  turns_more was (next ∷ more) now (first, turns) turn = (first, turns_more next more now turns turn)

  module _ (first : Moment R O E) (moments : List (Moment R O E)) (turns : AreTurns IsRight language remaining stream first moments) (ahead next : Lookahead) (reader : R) (reader_after : R) (writer : O) (writer_after : O) (engine : E) (engine_after : E)
      (is : last_of first moments ≡ record { ahead = ahead; reader = reader; writer = writer; engine = engine }) (engines : List E) (through : last_of engine engines ≡ engine_after) where
    -- the session's state after the step
    abbrev after : Moment R O E
    after = record { ahead = next; reader = reader_after; writer = writer_after; engine = engine_after }

    step_from : (result : Result Next ServeFault) → Steps language IsRight (to_come ahead (remaining reader)) (to_come next (remaining reader_after)) (stream writer).contents (stream writer_after).contents engine engines result
        → OnOk result (HasLeft (stream writer) (stream writer_after)) → IsStep IsRight language remaining stream (last_of first moments) after result
    step_from result steps left = subst (λ (was : Moment R O E). IsStep IsRight language remaining stream was after result) (sym is) (record { engines = engines; engine = through; item = steps; left = left })

    -- a turn more
    pub turn_more : Steps language IsRight (to_come ahead (remaining reader)) (to_come next (remaining reader_after)) (stream writer).contents (stream writer_after).contents engine engines (Ok More)
        → HasLeft (stream writer) (stream writer_after) → IsRest next
        → (more : List (Moment R O E)) × (AreTurns IsRight language remaining stream first more × (last_of first more ≡ record { ahead = next; reader = reader_after; writer = writer_after; engine = engine_after }))
    turn_more steps left rest = (
      moments ++ after ∷ [],
      (turns_more first moments after turns (record { step = step_from (Ok More) steps left; rest = rest }), last_of-append first moments (after ∷ [])),
    )

    -- the step that ends it
    pub goes_in_turn : (result : Result (Unit {0}) ServeFault) → Steps language IsRight (to_come ahead (remaining reader)) (to_come next (remaining reader_after)) (stream writer).contents (stream writer_after).contents engine engines (ended result)
        → OnOk (ended result) (HasLeft (stream writer) (stream writer_after)) → GoesInTurn IsRight language remaining stream first reader_after writer_after engine_after result
    goes_in_turn result steps left = record { moments = moments; turns = turns; ahead = next; last = step_from (ended result) steps left }
