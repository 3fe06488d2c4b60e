-- How clap reads the program's words.
use Rattle.std.proofs.Common.{◌≡◌, ℕ, get_or, Bool, true, false, zero, suc, List, [], ◌∷◌, Option, Some, None, refl, sym, ap, ◌∙◌, subst, arith, map, eqb-true, ap₂, codes, true≢false}
use Rattle.std.specs.Prelude.{if◌then◌else◌, ◌==◌, ◌&&◌, ◌||◌, fold, find, All, Any, MatchOption, IfOk, IfSome, Err, unwrap_or, cond, option_map}
use Rattle.std.specs.List.{list_all, list_any}
use Rattle.std.specs.Option.{ok_or}
use Rattle.std.specs.Str.{bytes_eq}
use Rattle.std.proofs.lemmas.Slice.Eq.{bytes_eq-Decides}
use Rattle.std.proofs.lemmas.List.Elements.{All-cons, All-head, All-nil, All-tail}
use Rattle.clap.specs.Lexer.{strip_byte}
use Rattle.clap.specs.Kinds.{Kinds, or_else}
use Rattle.clap.specs.Faults.{entered_fault, fault_of, is_simple_and_free, walk_fault}
use Rattle.clap.specs.Simple.{App, Shape, built, entered, is_simple, label_of, names_of, rows_at, subcommand_of}
use Rattle.clap.specs.Takes.{takes}
use Rattle.clap.specs.Walk.{Names, Rule, Text, answers_to, idle, is_empty, nothing_held, subcommand_met, subcommand_or_other, after_step, walk, walk_from, walked}
use Rattle.clap.proofs.FaultLemmas.{past}
use Rattle.clap.proofs.OnLiterals.{clap_on_literals}
use Rattle.clap.proofs.SimpleLemmas.{is_nil, label_first}
use Rattle.clap.proofs.WalkLemmas.{both, walk_stopped}
use Rattle.server.specs.CommandLine.{AskedBy, AskNothing, IsOption, SpellsOut}
use Rattle.server.specs.Subcommands.{AskedIn, Texts, program_app, texts_in, texts_of}
use Rattle.server.specs.Subcommands.{check_app, format_app, import_app, serve_app, table_app, upgrade_app}
use Rattle.server.specs.declared.arguments.ArgumentFault.TheVariants.{Bad}
use Rattle.server.specs.declared.arguments.Arguments.{Arguments}
use Rattle.server.specs.declared.arguments.Arguments.TheVariants.{Format, Import, Serve, Table, Check, Upgrade}

pub simple_app : is_simple program_app ≡ true
unfolding clap_on_literals
simple_app = refl

pub free_app : is_simple_and_free program_app ≡ true
unfolding clap_on_literals
free_app = refl

-- ---- words that aren't options

abbrev NoOption : Text → Type 0
NoOption word = IsOption word → ⊥

-- a word that clap doesn't take for an option
record Plain : Type 0 where
  word : Text
  strips : strip_byte 45 word ≡ None
  other : bytes_eq word (45 ∷ 45 ∷ []) ≡ false

tests : (word : Text) → NoOption word → (strip_byte 45 word ≡ None) × (bytes_eq word (45 ∷ 45 ∷ []) ≡ false)
tests [] none = (refl, refl)
tests (b ∷ bs) none = by (b == 45) refl
  where
    by : (t : Bool) → (b == 45) ≡ t → ((if t then Some bs else None) ≡ None) × ((t && bytes_eq bs (45 ∷ [])) ≡ false)
    by true e = absurd (none (bs, ap (λ (c : ℕ). c ∷ bs) (eqb-true b 45 e)))
    by false e = (refl, refl)

abbrev plain_word : (word : Text) → NoOption word → Plain
plain_word word none = record { word = word; strips = (tests word none).0; other = (tests word none).1 }

abbrev words_of : List Plain → List Text
words_of = map (λ (q : Plain). q.word)

plain_words : (ts : List Text) → All NoOption ts → (qs : List Plain) × (words_of qs ≡ ts)
plain_words [] none = ([], refl)
plain_words (t ∷ ts) none =
    let rest = plain_words ts (All-tail NoOption t ts none) in
    (plain_word t (All-head NoOption t ts none) ∷ rest.0, ap (λ (l : List Text). t ∷ l) rest.1)

-- ---- how clap reads the words after a subcommand's name

-- the program's clap command, built as clap builds it
abbrev program : App
program = built program_app

abbrev texts_by : List Text → Option Texts
texts_by ws = texts_of (subcommand_of program_app ws)

-- There is one text for each required one, and no other.
abbrev is_full : List Rule → List Text → Bool
is_full [] [] = true
is_full [] (t ∷ ts) = false
is_full (r ∷ rs) [] = false
is_full (r ∷ rs) (t ∷ ts) = is_full rs ts

abbrev text_at : Text → List Rule → List Text → Option Text
text_at id [] ts = None
text_at id (r ∷ rs) [] = None
text_at id (r ∷ rs) (t ∷ ts) = if bytes_eq r.id id then Some t else text_at id rs ts

abbrev texts_given : Shape → List Text → Texts
texts_given s ts = record {
  name = s.name;
  path = text_at (codes "PATH") s.rules ts;
  tile = text_at (codes "FILE") s.rules ts;
  side = text_at (codes "SIDE") s.rules ts;
  capacity = text_at (codes "CAPACITY") s.rules ts;
}

-- whether clap accepts a subcommand's words, and which texts it reads, if there is one for each required one or if not
abbrev outcome : Bool → Shape → List Text → Bool × Option Texts
outcome true s ts = (takes program_app (s.name ∷ ts), texts_by (s.name ∷ ts))
outcome false s ts = (is_empty (entered_fault program (Some (s.name, ts))), None)

abbrev expected : Bool → Shape → List Text → Bool × Option Texts
expected true s ts = (true, Some (texts_given s ts))
expected false s ts = (false, None)

abbrev outcome_at : List Text → Shape → Bool × Option Texts
outcome_at ts s = outcome (is_full s.rules ts) s ts

abbrev expected_at : List Text → Shape → Bool × Option Texts
expected_at ts s = expected (is_full s.rules ts) s ts

-- By computation for subcommands of one, two and three texts: one word too many is refused, whatever follows it.
abbrev AsExpected : List Shape → List Plain → Type 0
AsExpected shapes qs = map (outcome_at (words_of qs)) shapes ≡ map (expected_at (words_of qs)) shapes

one_text : (qs : List Plain) → AsExpected (serve_app.top ∷ check_app.top ∷ upgrade_app.top ∷ []) qs
unfolding clap_on_literals
one_text [] = refl
one_text (p ∷ []) = rw (p.other, p.strips, p.strips) refl
one_text (p ∷ q ∷ rest) = rw (p.other, p.strips, p.strips) (rw (q.other, q.strips, q.strips) refl)

two_texts : (qs : List Plain) → AsExpected (import_app.top ∷ table_app.top ∷ []) qs
unfolding clap_on_literals
two_texts [] = refl
two_texts (p ∷ []) = rw (p.other, p.strips, p.strips) refl
two_texts (p ∷ q ∷ []) = rw (p.other, p.strips, p.strips) (rw (q.other, q.strips, q.strips) refl)
two_texts (p ∷ q ∷ r ∷ rest) = rw (p.other, p.strips, p.strips) (rw (q.other, q.strips, q.strips) (rw (r.other, r.strips, r.strips) refl))

three_texts : (qs : List Plain) → AsExpected (format_app.top ∷ []) qs
unfolding clap_on_literals
three_texts [] = refl
three_texts (p ∷ []) = rw (p.other, p.strips, p.strips) refl
three_texts (p ∷ q ∷ []) = rw (p.other, p.strips, p.strips) (rw (q.other, q.strips, q.strips) refl)
three_texts (p ∷ q ∷ r ∷ []) = rw (p.other, p.strips, p.strips) (rw (q.other, q.strips, q.strips) (rw (r.other, r.strips, r.strips) refl))
three_texts (p ∷ q ∷ r ∷ s ∷ rest) =
    rw (p.other, p.strips, p.strips) (rw (q.other, q.strips, q.strips) (rw (r.other, r.strips, r.strips) (rw (s.other, s.strips, s.strips) refl)))

-- ---- the program's subcommands, each with a line in the lemmas of this part

abbrev subcommand : Arguments → Shape
subcommand (Format path side capacity) = format_app.top
subcommand (Import path tile) = import_app.top
subcommand (Serve path) = serve_app.top
subcommand (Table side capacity) = table_app.top
subcommand (Check path) = check_app.top
subcommand (Upgrade path) = upgrade_app.top

subcommand_expected : (a : Arguments) (ts : List Text) → All NoOption ts → outcome_at ts (subcommand a) ≡ expected_at ts (subcommand a)
subcommand_expected a ts none = let q = plain_words ts none in subst (λ v. outcome_at v (subcommand a) ≡ expected_at v (subcommand a)) q.1 (by a q.0)
  where
    by : (a : Arguments) (qs : List Plain) → outcome_at (words_of qs) (subcommand a) ≡ expected_at (words_of qs) (subcommand a)
    by (Format path side capacity) qs = ap (λ l. get_or l 0 (false, None)) (three_texts qs)
    by (Import path tile) qs = ap (λ l. get_or l 0 (false, None)) (two_texts qs)
    by (Serve path) qs = ap (λ l. get_or l 0 (false, None)) (one_text qs)
    by (Table side capacity) qs = ap (λ l. get_or l 1 (false, None)) (two_texts qs)
    by (Check path) qs = ap (λ l. get_or l 1 (false, None)) (one_text qs)
    by (Upgrade path) qs = ap (λ l. get_or l 2 (false, None)) (one_text qs)

names_it : (t : Texts) (a : Arguments) → AskedIn (Some t) a → t.name ≡ (subcommand a).name
names_it t (Format path side capacity) h = h.0
names_it t (Import path tile) h = h.0
names_it t (Serve path) h = h.0
names_it t (Table side capacity) h = h.0
names_it t (Check path) h = h.0
names_it t (Upgrade path) h = h.0

-- a property of any texts, as many as are required
abbrev EachText : List Rule → (List Text → Type 0) → Type 0
EachText [] P = P []
EachText (r ∷ rs) P = (t : Text) → EachText rs (λ ts. P (t ∷ ts))

each_text : (rs : List Rule) (ts : List Text) → is_full rs ts ≡ true → (P : List Text → Type 0) → EachText rs P → P ts
each_text [] [] full P h = h
each_text [] (t ∷ ts) full P h = absurd (true≢false (sym full))
each_text (r ∷ rs) [] full P h = absurd (true≢false (sym full))
each_text (r ∷ rs) (t ∷ ts) full P h = each_text rs ts full (λ us. P (t ∷ us)) (h t)

same_text : (a b : Text) → Some a ≡ Some b → a ≡ b
same_text a b e = ap (λ (o : Option Text). unwrap_or o []) e

spells : (a : Arguments) → EachText (subcommand a).rules (λ ts. AskedIn (Some (texts_given (subcommand a) ts)) a → SpellsOut ((subcommand a).name ∷ ts) a)
spells (Format path side capacity) = λ p s c h. (s, c, ap (λ (v : Text). codes "format" ∷ v ∷ s ∷ c ∷ []) (same_text p path.now h.1), h.2, h.3)
spells (Import path tile) = λ p f h. ap₂ (λ (v u : Text). codes "import" ∷ v ∷ u ∷ []) (same_text p path.now h.1) (same_text f tile.now h.2)
spells (Serve path) = λ p h. ap (λ (v : Text). codes "serve" ∷ v ∷ []) (same_text p path.now h.1)
spells (Table side capacity) = λ s c h. (s, c, refl, h.1, h.2)
spells (Check path) = λ p h. ap (λ (v : Text). codes "check" ∷ v ∷ []) (same_text p path.now h.1)
spells (Upgrade path) = λ p h. ap (λ (v : Text). codes "upgrade" ∷ v ∷ []) (same_text p path.now h.1)

abbrev Spelt : List Text → Arguments → Type 0
Spelt ws a = (ts : List Text) × (ws ≡ (subcommand a).name ∷ ts) × (is_full (subcommand a).rules ts ≡ true) × AskedIn (Some (texts_given (subcommand a) ts)) a

spelt : (ws : List Text) (a : Arguments) → SpellsOut ws a → Spelt ws a
spelt ws (Format path side capacity) (s, c, is, side_is, capacity_is) = (path.now ∷ s ∷ c ∷ [], is, refl, (refl, refl, side_is, capacity_is))
spelt ws (Import path tile) is = (path.now ∷ tile.now ∷ [], is, refl, (refl, refl, refl))
spelt ws (Serve path) is = (path.now ∷ [], is, refl, (refl, refl))
spelt ws (Table side capacity) (s, c, is, side_is, capacity_is) = (s ∷ c ∷ [], is, refl, (refl, side_is, capacity_is))
spelt ws (Check path) is = (path.now ∷ [], is, refl, (refl, refl))
spelt ws (Upgrade path) is = (path.now ∷ [], is, refl, (refl, refl))

-- ---- the first word: clap refuses it if it names no subcommand, else that subcommand reads the other words

clash : (k : Kinds) → is_empty k ≡ false → k ≡ [] → ⊥
clash k some none = true≢false (sym (ap is_empty none) ∙ some)

no_first : (a b : Kinds) → or_else a b ≡ [] → a ≡ []
no_first [] b e = refl
no_first (k ∷ ks) b e = e

no_second : (a b : Kinds) → or_else a b ≡ [] → b ≡ []
no_second a b e = sym (past a b (no_first a b e)) ∙ e

stray : (names : Names) (q : Plain) (ts : List Text) → subcommand_met names idle q.word ≡ None → is_empty (walk_fault program.top names (walk_from nothing_held) (q.word ∷ ts)) ≡ false
unfolding clap_on_literals
stray names q ts e = rw (e, q.other, q.strips, q.strips) refl

stops : (rules : List Rule) (names : Names) (w : Text) (ts : List Text) → subcommand_met names idle w ≡ Some w → (walk rules names nothing_held (w ∷ ts)).stopped ≡ Some (w, ts)
unfolding walked
stops rules names w ts met =
    ap (λ o. let m = subcommand_or_other rules o idle 1 w nothing_held in (fold (walked rules names) (after_step rules w (walk_from nothing_held) m.0 m.1) ts).stopped) met
    ∙ ap (λ k. k.stopped) (sym (walk_stopped rules names (walk_from nothing_held) w [] ts))

-- Without aliases, a word that names a subcommand is its name.
found : (w : Text) (subs : List Shape) → list_all (λ s. is_empty s.aliases) subs ≡ true → IfSome (find (λ s. answers_to w (label_of s)) subs) (λ s. s.name ≡ w)
found w [] plain = tt
found w (s ∷ subs) plain = let none = both (is_empty s.aliases) _ plain in by (bytes_eq s.name w) refl (is_nil s.aliases none.0) (found w subs none.1)
  where
    by : (t : Bool) → bytes_eq s.name w ≡ t → s.aliases ≡ [] → IfSome (find (λ s. answers_to w (label_of s)) subs) (λ s. s.name ≡ w)
        → IfSome (cond (t || list_any (λ alias. bytes_eq alias w) s.aliases) (Some s) (find (λ s. answers_to w (label_of s)) subs)) (λ s. s.name ≡ w)
    by true e none rest = (bytes_eq-Decides s.name w).0 e
    by false e none rest = rw none rest

-- The words name a subcommand, which reads the rest of them.
record Enters (w : Text) (ts : List Text) : Type 0 where
  shape : Shape
  named : shape.name ≡ w
  texts : texts_by (w ∷ ts) ≡ Some (texts_in (rows_at shape ts))
  faultless : entered_fault program (Some (w, ts)) ≡ []

enters : (w : Text) (ts : List Text) → NoOption w → fault_of program_app (w ∷ ts) ≡ [] → Enters w ts
enters w ts none e = by (find (λ s. answers_to w (label_of s)) program.subs) refl
  where
    by : (o : Option Shape) → find (λ s. answers_to w (label_of s)) program.subs ≡ o → Enters w ts
    by None f = absurd (clash _ (stray (names_of program) (plain_word w none) ts (sym (label_first w program.subs) ∙ ap (option_map (λ (s : Shape). s.name)) f)) (no_first _ _ e))
    by (Some s) f =
        let named : s.name ≡ w = subst (λ (o : Option Shape). IfSome o (λ s. s.name ≡ w)) f (found w program.subs refl) in
        let met : subcommand_met (names_of program) idle w ≡ Some w = sym (label_first w program.subs) ∙ ap (option_map (λ (s : Shape). s.name)) f ∙ ap (λ (v : Text). Some v) named in
        let stop = stops program.top.rules (names_of program) w ts met in
        record {
          shape = s;
          named = named;
          texts = ap (λ o. texts_of (entered program o)) stop ∙ ap (λ o. texts_of (option_map (λ s. rows_at s ts) o)) f;
          faultless = ap (entered_fault program) (sym stop) ∙ no_first _ _ (no_second _ _ e);
        }

-- ---- what the words ask for, and how clap reads them

if_full : (a : Arguments) (ts : List Text) → All NoOption ts → is_full (subcommand a).rules ts ≡ true → outcome true (subcommand a) ts ≡ expected true (subcommand a) ts
if_full a ts none full = subst (λ t. outcome t (subcommand a) ts ≡ expected t (subcommand a) ts) full (subcommand_expected a ts none)

full_if : (a : Arguments) (ts : List Text) → All NoOption ts → entered_fault program (Some ((subcommand a).name, ts)) ≡ [] → is_full (subcommand a).rules ts ≡ true
full_if a ts none e = by (is_full (subcommand a).rules ts) (subcommand_expected a ts none)
  where
    by : (t : Bool) → outcome t (subcommand a) ts ≡ expected t (subcommand a) ts → t ≡ true
    by true is = refl
    by false is = absurd (clash _ (ap (λ p. p.0) is) e)

spelt_read : (ws : List Text) (a : Arguments) → All NoOption ws → Spelt ws a → (takes program_app ws ≡ true) × AskedIn (texts_by ws) a
spelt_read ws a plain (ts, is, full, given) =
    let read = if_full a ts (All-tail NoOption (subcommand a).name ts (subst (All NoOption) is plain)) full in
    (ap (takes program_app) is ∙ ap (λ p. p.0) read, subst (λ o. AskedIn o a) (sym (ap texts_by is ∙ ap (λ p. p.1) read)) given)

pub takes_asked : (ws : List Text) (a : Arguments) → AskedBy ws a → takes program_app ws ≡ true
takes_asked ws a asked = (spelt_read ws a asked.0 (spelt ws a asked.1)).0

pub asked_in : (ws : List Text) (a : Arguments) → AskedBy ws a → AskedIn (texts_by ws) a
asked_in ws a asked = (spelt_read ws a asked.0 (spelt ws a asked.1)).1

pub asked_by : (ws : List Text) → All NoOption ws → fault_of program_app ws ≡ [] → (a : Arguments) → AskedIn (texts_by ws) a → AskedBy ws a
unfolding clap_on_literals
asked_by [] plain e a asked = absurd asked
asked_by (w ∷ ts) plain e a asked =
    let here = enters w ts (All-head NoOption w ts plain) e in
    let rest = All-tail NoOption w ts plain in
    let name : (subcommand a).name ≡ w = sym (names_it (texts_in (rows_at here.shape ts)) a (subst (λ o. AskedIn o a) here.texts asked)) ∙ here.named in
    let full = full_if a ts rest (ap (λ (v : Text). entered_fault program (Some (v, ts))) name ∙ here.faultless) in
    let given = ap (λ (v : Text). texts_by (v ∷ ts)) (sym name) ∙ ap (λ p. p.1) (if_full a ts rest full) in (
      plain,
      subst (λ (v : Text). SpellsOut (v ∷ ts) a) name
          (each_text (subcommand a).rules ts full (λ us. AskedIn (Some (texts_given (subcommand a) us)) a → SpellsOut ((subcommand a).name ∷ us) a) (spells a)
          (subst (λ o. AskedIn o a) given asked)),
    )

-- words after any texts

pub no_options : {T : Type 0} (text : T → Text) (ws : List T) → (Any (λ w. IsOption (text w)) ws → ⊥) → All NoOption (map text ws)
no_options text [] none = All-nil NoOption
no_options text (w ∷ ws) none =
    All-cons NoOption (text w) (map text ws) (λ h. none (0, w, omega arith, refl, h))
    (no_options text ws (λ some. none (suc some.0, some.1, omega (arith, some.2), some.3, some.4)))

pub some_option : {T : Type 0} (text : T → Text) (ws : List T) → Any (λ w. IsOption (text w)) ws → All NoOption (map text ws) → ⊥
some_option text [] (k, x, within, is, h) plain = omega (arith, within)
some_option text (w ∷ ws) (zero, x, within, is, h) plain =
    All-head NoOption (text w) (map text ws) plain (subst (λ v. IsOption (text v)) (sym is) h)
some_option text (w ∷ ws) (suc k, x, within, is, h) plain =
    some_option text ws (k, x, omega (arith, within), is, h) (All-tail NoOption (text w) (map text ws) plain)

-- what the program reads from clap's matches
module _ (ws : List Text) (o : Option Arguments) (t : Option Texts) (is : t ≡ texts_by ws)
    (read : MatchOption o ((a : Arguments) → AskedIn t a → ⊥) (AskedIn t)) where
  pub read_ok : All NoOption ws → fault_of program_app ws ≡ [] → IfOk (ok_or o Bad) (AskedBy ws)
  read_ok plain e = by o read
    where
      by : (p : Option Arguments) → MatchOption p ((a : Arguments) → AskedIn t a → ⊥) (AskedIn t) → IfOk (ok_or p Bad) (AskedBy ws)
      by None h = tt
      by (Some a) h = asked_by ws plain e a (subst (λ u. AskedIn u a) is h)

  pub read_bad : ok_or o Bad ≡ Err Bad → AskNothing ws
  read_bad = by o read
    where
      by : (p : Option Arguments) → MatchOption p ((a : Arguments) → AskedIn t a → ⊥) (AskedIn t) → ok_or p Bad ≡ Err Bad → AskNothing ws
      by None h e = λ a asked. h a (subst (λ u. AskedIn u a) (sym is) (asked_in ws a asked))
      by (Some b) h e = absurd (cc)
