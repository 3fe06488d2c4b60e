-- The grammar of lines (defined by this product). A line's text is a command word and its arguments, separated by
-- single spaces. Each command has arguments of a fixed form.
use Rattle.std.specs.Prelude.{◌≡◌, ℕ, ◌<◌, ◌≤◌, List, [], ◌∷◌, ◌++◌, All, length, ℤ, pos, neg_ℤ, codes, ◌⊎◌}
use Rattle.std.specs.Str.Parse.{IsNumeral, digits_value}
use Rattle.lattice.specs.Corners.{Corner}
use Rattle.lattice.specs.declared.point.Point.{Point}
use Rattle.hgt.specs.Names.{IsName}
use Rattle.edits.specs.declared.command.Command.TheVariants as command
use Rattle.engine.specs.declared.event.Event.{Event}
use Rattle.engine.specs.declared.event.Event.TheVariants as ask
use Rattle.lines.specs.declared.keyword.Keyword.{Keyword}
use Rattle.lines.specs.declared.language.Language.{Language}
use Rattle.lines.specs.declared.language.Language.TheVariants.{Plain}
use Rattle.lines.specs.declared.keyword.Keyword.TheVariants.{Import, Remove, Patch, Burn, Wall, Sink, Unsink, Elev, Fill, Dir, Trace, Watershed, Export, Levels, Directions, Upstream, Tiles, Sinks, Step, Count, Info, Quit}

-- WORD: one or more bytes from 0x21 to 0x7E
abbrev pub IsWord : List ℕ → Type 0
IsWord word = (0 < length word) × All (λ b. (0x21 ≤ b) × (b ≤ 0x7e)) word

-- NAT: 1 to 9 digits
abbrev pub IsNat : List ℕ → ℕ → Type 0
IsNat word n = IsNumeral 10 word × (length word ≤ 9) × (n ≡ digits_value 10 word)

-- INT: a NAT, or `-` and a NAT
abbrev pub IsInt : List ℕ → ℤ → Type 0
IsInt word z =
    ((n : ℕ) × IsNat word n × (z ≡ pos n))
    ⊎ ((digits : List ℕ) × (n : ℕ) × (word ≡ 45 ∷ digits) × IsNat digits n × (z ≡ neg_ℤ (pos n)))

-- Word number i is INT number i.
abbrev pub AreInts : List (List ℕ) → List ℤ → Type 0
AreInts [] [] = Unit {0}
AreInts [] (z ∷ zs) = ⊥
AreInts (w ∷ ws) [] = ⊥
AreInts (w ∷ ws) (z ∷ zs) = IsInt w z × AreInts ws zs

-- points as numbers: the y and x of each
abbrev pub coordinates : List Point → List ℤ
coordinates [] = []
coordinates (p ∷ ps) = p.y ∷ p.x ∷ coordinates ps

-- What a line can ask for: an import with a payload, an event for the store, an event for a name that isn't a tile's,
-- or the end.
pub data Asked : Type 0 where
  AskImport : (name : List ℕ) (len : ℕ) → Asked
  AskEvent : (event : Event) → Asked
  AskNoTile : Asked
  AskQuit : Asked

-- the command word, in lower case
abbrev pub spelling : Keyword → List ℕ
spelling Import = codes "import"
spelling Remove = codes "remove"
spelling Patch = codes "patch"
spelling Burn = codes "burn"
spelling Wall = codes "wall"
spelling Sink = codes "sink"
spelling Unsink = codes "unsink"
spelling Elev = codes "elev"
spelling Fill = codes "fill"
spelling Dir = codes "dir"
spelling Trace = codes "trace"
spelling Watershed = codes "watershed"
spelling Export = codes "export"
spelling Levels = codes "levels"
spelling Directions = codes "directions"
spelling Upstream = codes "upstream"
spelling Tiles = codes "tiles"
spelling Sinks = codes "sinks"
spelling Step = codes "step"
spelling Count = codes "count"
spelling Info = codes "info"
spelling Quit = codes "quit"

-- 1 to 64 points
abbrev pub IsPointCount : ℕ → Type 0
IsPointCount n = (1 ≤ n) × (n ≤ 64)

-- The name isn't a tile's.
abbrev pub NamesNone : List ℕ → Type 0
NamesNone name = (c : Corner) → IsName name c → ⊥

-- the arguments of `import`: a name and a length
abbrev pub AsksImport : List (List ℕ) → Asked → Type 0
AsksImport args asked = (name digits : List ℕ) × (len : ℕ) × (args ≡ name ∷ digits ∷ []) × IsWord name × IsNat digits len × (asked ≡ AskImport name len)

-- one argument: the name of the tile
abbrev pub AsksOf : (Corner → Event) → List (List ℕ) → Asked → Type 0
AsksOf event args asked = (name : List ℕ) × (args ≡ name ∷ []) × IsWord name
    × ((NamesNone name × (asked ≡ AskNoTile)) ⊎ ((c : Corner) × IsName name c × (asked ≡ AskEvent (event c))))

-- five arguments: two points and a height
abbrev pub AsksBox : (Point → Point → ℤ → Event) → List (List ℕ) → Asked → Type 0
AsksBox event args asked = (from to : Point) × (height : ℤ) × AreInts args (from.y ∷ from.x ∷ to.y ∷ to.x ∷ height ∷ []) × (asked ≡ AskEvent (event from to height))

-- a number, and then 1 to 64 points
abbrev pub AsksAlong : (ℤ → List Point → Event) → List (List ℕ) → Asked → Type 0
AsksAlong event args asked = (number : ℤ) × (points : List Point) × AreInts args (number ∷ coordinates points) × IsPointCount (length points) × (asked ≡ AskEvent (event number points))

-- two arguments: a point
abbrev pub AsksAt : (Point → Event) → List (List ℕ) → Asked → Type 0
AsksAt event args asked = (p : Point) × AreInts args (p.y ∷ p.x ∷ []) × (asked ≡ AskEvent (event p))

-- no arguments
abbrev pub AsksAlone : Asked → List (List ℕ) → Asked → Type 0
AsksAlone what args asked = (args ≡ []) × (asked ≡ what)

-- A command with these arguments asks for this.
abbrev pub Takes : Keyword → List (List ℕ) → Asked → Type 0
Takes Import args asked = AsksImport args asked
Takes Remove args asked = AsksOf (λ c. ask.Do (command.Remove c)) args asked
Takes Patch args asked = AsksBox (λ from to height. ask.Do (command.Patch from to height)) args asked
Takes Burn args asked = AsksAlong (λ depth points. ask.Do (command.Burn depth (record { items = points }))) args asked
Takes Wall args asked = AsksAlong (λ height points. ask.Do (command.Wall height (record { items = points }))) args asked
Takes Sink args asked = AsksAt (λ p. ask.Do (command.Sink p)) args asked
Takes Unsink args asked = AsksAt (λ p. ask.Do (command.Unsink p)) args asked
Takes Elev args asked = AsksAt ask.Elevation args asked
Takes Fill args asked = AsksAt ask.Fill args asked
Takes Dir args asked = AsksAt ask.Direction args asked
Takes Trace args asked = AsksAt ask.Trace args asked
Takes Watershed args asked = AsksAt ask.Watershed args asked
Takes Export args asked = AsksOf ask.Export args asked
Takes Levels args asked = AsksOf ask.Levels args asked
Takes Directions args asked = AsksOf ask.Directions args asked
Takes Upstream args asked = AsksOf ask.Upstream args asked
Takes Tiles args asked = AsksAlone (AskEvent ask.Tiles) args asked
Takes Sinks args asked = AsksAlone (AskEvent ask.Sinks) args asked
Takes Step args asked = AsksAlone (AskEvent ask.Step) args asked
Takes Count args asked = AsksAlone (AskEvent ask.Count) args asked
Takes Info args asked = AsksAlone (AskEvent ask.Info) args asked
Takes Quit args asked = AsksAlone AskQuit args asked

-- words joined by single spaces
abbrev pub spaced : List ℕ → List (List ℕ) → List ℕ
spaced word [] = word
spaced word (w ∷ ws) = word ++ 32 ∷ spaced w ws

-- The language has the command. The plain language has no questions about all samples of a tile or about the store's
-- numbers.
abbrev pub IsIn : Language → Keyword → Type 0
IsIn Plain Levels = ⊥
IsIn Plain Directions = ⊥
IsIn Plain Upstream = ⊥
IsIn Plain Info = ⊥
IsIn language keyword = Unit {0}

-- The text of a line asks for this.
abbrev pub Asks : Language → List ℕ → Asked → Type 0
Asks language text a = (keyword : Keyword) × (args : List (List ℕ)) × (text ≡ spaced (spelling keyword) args) × Takes keyword args a × IsIn language keyword

-- the text of a line: the line without a CR at its end
abbrev pub IsTextOf : List ℕ → List ℕ → Type 0
IsTextOf line text = (line ≡ text ++ 13 ∷ []) ⊎ ((line ≡ text) × ((front : List ℕ) → line ≡ front ++ 13 ∷ [] → ⊥))

-- The line, given without its LF, asks for this.
abbrev pub LineAsks : Language → List ℕ → Asked → Type 0
LineAsks language line a = (length line ≤ 2048) × (text : List ℕ) × IsTextOf line text × Asks language text a
