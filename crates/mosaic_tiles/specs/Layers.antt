-- Which files are written, for which tiles (defined by this product).
use Rattle.std.specs.Prelude.{◌≡◌, ◌≢◌, ◌⊎◌, ℕ, ℤ, ◌<◌, List, [], ◌∷◌, ◌++◌, All, Any, String, Result, Ok, Err, codes, length, map, string_bytes}
use Rattle.std.specs.Global.{Global, Vec}
use Rattle.std.specs.List.{AllZip}
use Rattle.lattice.specs.Corners.{Corner}
use Rattle.lattice.specs.declared.refusal.Refusal.{Refusal}
use Rattle.lattice.specs.declared.refusal.Refusal.TheVariants.{NoMemory, BadName}
use Rattle.hgt.specs.Bytes.{hgt_bytes}
use Rattle.hgt.specs.Names.{IsName}
use Rattle.engine.specs.Engines.{answered, items_in}
use Rattle.engine.specs.declared.event.Event.{Event}
use Rattle.engine.specs.declared.event.Event.TheVariants as ask
use Rattle.engine.specs.declared.event.Reply.{Reply}
use Rattle.engine.specs.declared.event.Reply.TheVariants as reply
use Rattle.lines.specs.Replies.{count_bytes}
use Rattle.server.specs.CommandLine.{IsOption}
use Rattle.mosaic_tiles.specs.declared.layers.Layer.{Layer}
use Rattle.mosaic_tiles.specs.declared.layers.Layer.TheVariants.{Levels, Directions, Upstream}
use Rattle.mosaic_tiles.specs.declared.layers.Writing.{Writing}

-- the word for a layer
abbrev pub spelling : Layer → List ℕ
spelling Levels = codes "levels"
spelling Directions = codes "directions"
spelling Upstream = codes "upstream"

-- the bytes of the answered values, the engine's refusal, or NoMemory
abbrev pub AreBytesOf : {X : Type 0} → (List X → List ℕ) → Result (Vec X) Refusal → Result (List ℕ) Refusal → Type 0
AreBytesOf bytes_of (Ok values) (Ok bytes) = bytes ≡ bytes_of values.items
AreBytesOf bytes_of (Ok values) (Err r) = r ≡ NoMemory
AreBytesOf bytes_of (Err r) result = result ≡ Err r

-- The bytes of a layer of a tile are the answer of one call of the engine.
abbrev pub Gives : {E : Type 0} → (E → Event → Reply → E → Type 0) → E → Corner → Layer → Result (List ℕ) Refusal → E → Type 0
Gives called old c Levels result new = (levels : Result (Vec ℤ) Refusal) × called old (ask.Levels c) (answered reply.Levels levels) new × AreBytesOf hgt_bytes levels result
Gives called old c Directions result new = (flows : Result (Vec ℕ) Refusal) × called old (ask.Directions c) (answered reply.Directions flows) new × (result ≡ items_in flows)
Gives called old c Upstream result new = (counts : Result (Vec ℕ) Refusal) × called old (ask.Upstream c) (answered reply.Upstream counts) new × AreBytesOf count_bytes counts result

-- the name for all present tiles
abbrev pub each_tile : List ℕ
each_tile = codes "all"

-- Name number i is the name of corner number i.
abbrev pub AreNames : List (List ℕ) → List Corner → Type 0
AreNames names corners = AllZip IsName names corners

-- If tiles are named, the number of tiles asked for is the number of names.
abbrev pub IsCountAsked : List (List ℕ) → ℕ → Type 0
IsCountAsked names count = names ≢ each_tile ∷ [] → count ≡ length names

-- why the names give no tiles: NoMemory, or BadName for a name that is no tile's
abbrev pub RefusesNames : List (String Global) → Refusal → Type 0
RefusesNames names r = (r ≡ NoMemory) ⊎ ((r ≡ BadName) × Any (λ name. (c : Corner) → IsName (string_bytes name) c → ⊥) names)

-- The words ask for this writing: `write`, the store's path, the layer, names, and the folder. None of them is an
-- option.
abbrev pub AskedBy : List (List ℕ) → Writing → Type 0
AskedBy words w = All (λ word. IsOption word → ⊥) words × (0 < length w.names.now)
    × (words ≡ codes "write" ∷ w.path.now ∷ spelling w.layer ∷ (map string_bytes w.names.now ++ w.folder.now ∷ []))
