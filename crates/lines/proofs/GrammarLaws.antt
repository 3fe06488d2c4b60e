-- A line asks for at most one thing.
use Rattle.std.proofs.Common.{arith, refl, ◌≡◌, ℕ, ℤ, pos, neg_ℤ, List, [], ◌∷◌, sym, ap, ◌∙◌, subst, inl, inr}
use Rattle.std.proofs.lemmas.Str.Parse.{digit_from_value}
use Rattle.lattice.specs.declared.point.Point.{Point}
use Rattle.std.specs.Prelude.{Option, Some, None, IfSome, ◌⊎◌}
use Rattle.lattice.specs.Corners.{Corner}
use Rattle.lattice.proofs.SamePoints.{same_place}
use Rattle.hgt.specs.Names.{IsName}
use Rattle.hgt.proofs.NameLemmas.{IsName-same}
use Rattle.edits.specs.declared.command.Command.TheVariants as command
use Rattle.engine.specs.declared.event.Event.{Event}
use Rattle.engine.specs.declared.event.Event.TheVariants as ask
use Rattle.lines.specs.declared.keyword.Keyword.{Keyword}
use Rattle.lines.specs.declared.keyword.Keyword.TheVariants.{Import, Remove, Patch, Burn, Wall, Sink, Unsink, Elev, Fill, Dir, Trace, Watershed, Export, Levels, Directions, Upstream, Tiles, Sinks, Step, Count, Info, Quit}
use Rattle.lines.specs.Grammar.{Asked, AskImport, AskEvent, AskNoTile, NamesNone, AsksImport, AsksOf, AsksBox, AsksAlong, AsksAt, AsksAlone, Takes, AreInts, IsNat, IsInt, coordinates, spelling, LineAsks}
use Rattle.lines.specs.declared.language.Language.{Language}
use Rattle.lines.specs.declared.request.Request.{Request}
use Rattle.lines.specs.Requests.{asked, IsRequestOf}
use Rattle.lines.specs.Words.{cut}
use Rattle.lines.proofs.KeywordLemmas.{spelling_has_no_space, same_keyword}
use Rattle.lines.proofs.WordLemmas.{cut-spaced}
use Rattle.lines.proofs.RequestLemmas.{asks_words, each_takes, arguments_have_no_space}

same_nat : (w : List ℕ) (m n : ℕ) → IsNat w m → IsNat w n → m ≡ n
same_nat w m n h i = h.2 ∙ sym i.2

-- a NAT doesn't begin with `-`
pub no_sign : (ds : List ℕ) (n : ℕ) → IsNat (45 ∷ ds) n → ⊥
no_sign ds n h = let digit = digit_from_value 45 h.0.1.0 in omega (arith, digit)

same_int : (w : List ℕ) (y z : ℤ) → IsInt w y → IsInt w z → y ≡ z
same_int w y z (inl (m, h, e)) (inl (n, i, f)) = e ∙ ap (λ k. pos k) (same_nat w m n h i) ∙ sym f
same_int w y z (inl (m, h, e)) (inr (ds, n, at, i, f)) = absurd (no_sign ds m (subst (λ v. IsNat v m) at h))
same_int w y z (inr (ds, m, at, h, e)) (inl (n, i, f)) = absurd (no_sign ds n (subst (λ v. IsNat v n) at i))
same_int w y z (inr (ds, m, at, h, e)) (inr (es, n, bt, i, f)) =
    let tails : es ≡ ds = cc in
    e ∙ ap (λ k. neg_ℤ (pos k)) (same_nat ds m n h (subst (λ v. IsNat v n) tails i)) ∙ sym f

same_ints : (ws : List (List ℕ)) (ys zs : List ℤ) → AreInts ws ys → AreInts ws zs → ys ≡ zs
same_ints [] [] [] h i = refl
same_ints [] [] (z ∷ zs) h i = absurd i
same_ints [] (y ∷ ys) zs h i = absurd h
same_ints (w ∷ ws) [] zs h i = absurd h
same_ints (w ∷ ws) (y ∷ ys) [] h i = absurd i
same_ints (w ∷ ws) (y ∷ ys) (z ∷ zs) h i =
    let head = same_int w y z h.0 i.0 in let tail = same_ints ws ys zs h.1 i.1 in cc

same_points : (ps qs : List Point) → coordinates ps ≡ coordinates qs → ps ≡ qs
same_points [] [] e = refl
same_points [] (q ∷ qs) e = cc
same_points (p ∷ ps) [] e = cc
same_points (p ∷ ps) (q ∷ qs) e =
    let y : p.y ≡ q.y = cc in
    let x : p.x ≡ q.x = cc in
    let rest : coordinates ps ≡ coordinates qs = cc in
    let head = same_place p q y x in
    let tail = same_points ps qs rest in
    cc

-- ---- the arguments of a command ask for at most one thing

same_import : (args : List (List ℕ)) (a b : Asked) → AsksImport args a → AsksImport args b → a ≡ b
same_import args a b (name, ds, len, at, w, h, is) (other, es, count, bt, v, i, js) =
    let words : name ∷ ds ∷ [] ≡ other ∷ es ∷ [] = sym at ∙ bt in
    let names : name ≡ other = cc in
    let digits : es ≡ ds = cc in
    let lens = same_nat ds len count h (subst (λ d. IsNat d count) digits i) in
    let same : AskImport name len ≡ AskImport other count = cc in
    is ∙ same ∙ sym js

-- what a tile's name asks for
abbrev Named : (Corner → Event) → List ℕ → Asked → Type 0
Named event name a = (NamesNone name × (a ≡ AskNoTile)) ⊎ ((c : Corner) × IsName name c × (a ≡ AskEvent (event c)))

same_named : (event : Corner → Event) (name : List ℕ) (a b : Asked) → Named event name a → Named event name b → a ≡ b
same_named event name a b (inl (none, is)) (inl (also, js)) = is ∙ sym js
same_named event name a b (inl (none, is)) (inr (d, named, js)) = absurd (none d named)
same_named event name a b (inr (c, named, is)) (inl (none, js)) = absurd (none c named)
same_named event name a b (inr (c, named, is)) (inr (d, also, js)) = is ∙ ap (λ (e : Corner). AskEvent (event e)) (IsName-same name c d named also) ∙ sym js

same_of : (event : Corner → Event) (args : List (List ℕ)) (a b : Asked) → AsksOf event args a → AsksOf event args b → a ≡ b
same_of event args a b (name, at, w, said) (other, bt, v, also) =
    let words : name ∷ [] ≡ other ∷ [] = sym at ∙ bt in
    let names : other ≡ name = cc in
    same_named event name a b said (subst (λ (n : List ℕ). Named event n b) names also)

same_box : (event : Point → Point → ℤ → Event) (args : List (List ℕ)) (a b : Asked) → AsksBox event args a → AsksBox event args b → a ≡ b
same_box event args a b (from, to, height, h, is) (from', to', height', i, js) =
    let same = same_ints args _ _ h i in
    let y0 : from.y ≡ from'.y = cc in
    let x0 : from.x ≡ from'.x = cc in
    let y1 : to.y ≡ to'.y = cc in
    let x1 : to.x ≡ to'.x = cc in
    let heights : height ≡ height' = cc in
    let froms = same_place from from' y0 x0 in
    let tos = same_place to to' y1 x1 in
    let events : AskEvent (event from to height) ≡ AskEvent (event from' to' height') = cc in
    is ∙ events ∙ sym js

same_along : (event : ℤ → List Point → Event) (args : List (List ℕ)) (a b : Asked) → AsksAlong event args a → AsksAlong event args b → a ≡ b
same_along event args a b (y, ps, h, few, is) (z, qs, i, also, js) =
    let same = same_ints args (y ∷ coordinates ps) (z ∷ coordinates qs) h i in
    let rest : coordinates ps ≡ coordinates qs = cc in
    let first : y ≡ z = cc in
    let points = same_points ps qs rest in
    let events : AskEvent (event y ps) ≡ AskEvent (event z qs) = cc in
    is ∙ events ∙ sym js

same_at : (event : Point → Event) (args : List (List ℕ)) (a b : Asked) → AsksAt event args a → AsksAt event args b → a ≡ b
same_at event args a b (p, h, is) (q, i, js) =
    let same = same_ints args (p.y ∷ p.x ∷ []) (q.y ∷ q.x ∷ []) h i in
    let y : p.y ≡ q.y = cc in
    let x : p.x ≡ q.x = cc in
    is ∙ ap (λ (r : Point). AskEvent (event r)) (same_place p q y x) ∙ sym js

same_alone : (what : Asked) (args : List (List ℕ)) (a b : Asked) → AsksAlone what args a → AsksAlone what args b → a ≡ b
same_alone what args a b h i = h.1 ∙ sym i.1

same_asked : (keyword : Keyword) (args : List (List ℕ)) (a b : Asked) → Takes keyword args a → Takes keyword args b → a ≡ b
same_asked = each_takes (λ Asks. (args : List (List ℕ)) (a b : Asked) → Asks args a → Asks args b → a ≡ b) same_import same_of same_box same_along same_at same_alone

-- A line has at most one request.
pub only_one : (language : Language) (line : List ℕ) (o : Option Request) → IsRequestOf language line o → IfSome o (λ r. (a : Asked) → LineAsks language line a → a ≡ asked r)
only_one language line None h = tt
only_one language line (Some r) (short, text, is_text, (keyword, args, e, takes, is_in)) = λ a asks.
    let words = ap cut e ∙ cut-spaced (spelling keyword) args (spelling_has_no_space keyword) (arguments_have_no_space keyword args (asked r) takes) in
    let parts = asks_words language line text (spelling keyword) args a is_text words asks in
    same_asked keyword args a (asked r) (subst (λ (k : Keyword). Takes k args a) (same_keyword parts.0 keyword parts.1.0) parts.1.1.0) takes

-- ---- each event has one command; no line asks to reopen the disk

abbrev keyword_for : Event → Option Keyword
keyword_for (ask.Do (command.Import c bytes)) = Some Import
keyword_for (ask.Do (command.Remove c)) = Some Remove
keyword_for (ask.Do (command.Patch from to height)) = Some Patch
keyword_for (ask.Do (command.Burn depth points)) = Some Burn
keyword_for (ask.Do (command.Wall height points)) = Some Wall
keyword_for (ask.Do (command.Sink p)) = Some Sink
keyword_for (ask.Do (command.Unsink p)) = Some Unsink
keyword_for (ask.Elevation p) = Some Elev
keyword_for (ask.Fill p) = Some Fill
keyword_for (ask.Direction p) = Some Dir
keyword_for (ask.Trace p) = Some Trace
keyword_for (ask.Watershed p) = Some Watershed
keyword_for (ask.Export c) = Some Export
keyword_for (ask.Levels c) = Some Levels
keyword_for (ask.Directions c) = Some Directions
keyword_for (ask.Upstream c) = Some Upstream
keyword_for ask.Tiles = Some Tiles
keyword_for ask.Sinks = Some Sinks
keyword_for ask.Step = Some Step
keyword_for ask.Count = Some Count
keyword_for ask.Info = Some Info
keyword_for ask.Reopen = None

by_event : (event other : Event) → AskEvent event ≡ AskEvent other → keyword_for event ≡ keyword_for other
by_event event other is = let same : event ≡ other = cc in ap keyword_for same

by_corner : (keyword : Keyword) (of : Corner → Event) → ((c : Corner) → keyword_for (of c) ≡ Some keyword) → (args : List (List ℕ)) (event : Event) → AsksOf of args (AskEvent event) → keyword_for event ≡ Some keyword
by_corner keyword of so args event (name, e, word, inl (none, is)) = cc
by_corner keyword of so args event (name, e, word, inr (c, named, is)) = by_event event (of c) is ∙ so c

asked_by : (keyword : Keyword) (args : List (List ℕ)) (event : Event) → Takes keyword args (AskEvent event) → keyword_for event ≡ Some keyword
asked_by Import args event (name, ds, len, e, word, nat, is) = cc
asked_by Remove args event takes = by_corner Remove _ (λ c. refl) args event takes
asked_by Patch args event (from, to, height, ints, is) = by_event event _ is
asked_by Burn args event (depth, points, ints, few, is) = by_event event _ is
asked_by Wall args event (height, points, ints, few, is) = by_event event _ is
asked_by Sink args event (p, ints, is) = by_event event _ is
asked_by Unsink args event (p, ints, is) = by_event event _ is
asked_by Elev args event (p, ints, is) = by_event event _ is
asked_by Fill args event (p, ints, is) = by_event event _ is
asked_by Dir args event (p, ints, is) = by_event event _ is
asked_by Trace args event (p, ints, is) = by_event event _ is
asked_by Watershed args event (p, ints, is) = by_event event _ is
asked_by Export args event takes = by_corner Export _ (λ c. refl) args event takes
asked_by Levels args event takes = by_corner Levels _ (λ c. refl) args event takes
asked_by Directions args event takes = by_corner Directions _ (λ c. refl) args event takes
asked_by Upstream args event takes = by_corner Upstream _ (λ c. refl) args event takes
asked_by Tiles args event (e, is) = by_event event _ is
asked_by Sinks args event (e, is) = by_event event _ is
asked_by Step args event (e, is) = by_event event _ is
asked_by Count args event (e, is) = by_event event _ is
asked_by Info args event (e, is) = by_event event _ is
asked_by Quit args event (e, is) = cc

pub never_reopens : (language : Language) (line : List ℕ) (event : Event) → LineAsks language line (AskEvent event) → event ≡ ask.Reopen → ⊥
never_reopens language line event (short, text, is_text, (keyword, args, e, takes, is_in)) is =
    let by : None ≡ Some keyword = sym (ap keyword_for is) ∙ asked_by keyword args event takes in cc
