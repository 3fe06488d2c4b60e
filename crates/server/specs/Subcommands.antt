-- The subcommands as clap reads them, and the arguments in its matches (defined by this product).
use Rattle.std.specs.Prelude.{◌≡◌, ℕ, List, true, codes, Option, Some, None, MatchOption, fold}
use Rattle.std.specs.Borrow.{Bor}
use Rattle.clap.specs.Words.{App, Row, Rule, Text, first_of, new_app, new_rule, with_rule, with_subcommand}
use Rattle.lines.specs.Grammar.{IsNat}
use Rattle.server.specs.declared.arguments.Arguments.{Arguments}
use Rattle.server.specs.declared.arguments.Arguments.TheVariants.{Format, Import, Serve, Table, Check, Upgrade}

-- a text that is required
abbrev pub required_text : List ℕ → Rule
required_text name = record (new_rule name) { required = true }

-- the clap subcommand of this name with these texts, as the program builds it
abbrev pub words_app : Text → List (Bor Text) → App
words_app name texts = fold (λ a text. with_rule a (required_text text.now)) (new_app name) texts

abbrev pub format_app : App
format_app = with_rule (with_rule (with_rule (new_app (codes "format")) (required_text (codes "PATH"))) (required_text (codes "SIDE"))) (required_text (codes "CAPACITY"))

abbrev pub import_app : App
import_app = with_rule (with_rule (new_app (codes "import")) (required_text (codes "PATH"))) (required_text (codes "FILE"))

abbrev pub serve_app : App
serve_app = with_rule (new_app (codes "serve")) (required_text (codes "PATH"))

abbrev pub table_app : App
table_app = with_rule (with_rule (new_app (codes "table")) (required_text (codes "SIDE"))) (required_text (codes "CAPACITY"))

abbrev pub check_app : App
check_app = with_rule (new_app (codes "check")) (required_text (codes "PATH"))

abbrev pub upgrade_app : App
upgrade_app = with_rule (new_app (codes "upgrade")) (required_text (codes "PATH"))

abbrev pub empty_app : App
empty_app = record (new_app (codes "mosaic")) { top = record (new_app (codes "mosaic")).top { no_binary_name = true; subcommand_required = true } }

abbrev pub program_app : App
program_app =
    with_subcommand (with_subcommand (with_subcommand (with_subcommand (with_subcommand (with_subcommand empty_app format_app.top) import_app.top) serve_app.top) table_app.top) check_app.top) upgrade_app.top

-- the name of a subcommand, and its texts
pub record Texts : Type 0 where
  pub name : Text
  pub path : Option Text
  pub tile : Option Text
  pub side : Option Text
  pub capacity : Option Text

abbrev pub texts_in : Text × List Row → Texts
texts_in p = record {
  name = p.0;
  path = first_of (codes "PATH") p.1;
  tile = first_of (codes "FILE") p.1;
  side = first_of (codes "SIDE") p.1;
  capacity = first_of (codes "CAPACITY") p.1;
}

abbrev pub texts_of : Option (Text × List Row) → Option Texts
texts_of None = None
texts_of (Some p) = Some (texts_in p)

-- The text is present, and is the NAT of this number.
abbrev pub IsNatIn : Option Text → ℕ → Type 0
IsNatIn None n = ⊥
IsNatIn (Some text) n = IsNat text n

-- The texts ask for this.
abbrev pub AskedIn : Option Texts → Arguments → Type 0
AskedIn None a = ⊥
AskedIn (Some t) (Format path side capacity) = (t.name ≡ codes "format") × (t.path ≡ Some path.now) × IsNatIn t.side side × IsNatIn t.capacity capacity
AskedIn (Some t) (Import path tile) = (t.name ≡ codes "import") × (t.path ≡ Some path.now) × (t.tile ≡ Some tile.now)
AskedIn (Some t) (Serve path) = (t.name ≡ codes "serve") × (t.path ≡ Some path.now)
AskedIn (Some t) (Table side capacity) = (t.name ≡ codes "table") × IsNatIn t.side side × IsNatIn t.capacity capacity
AskedIn (Some t) (Check path) = (t.name ≡ codes "check") × (t.path ≡ Some path.now)
AskedIn (Some t) (Upgrade path) = (t.name ≡ codes "upgrade") × (t.path ≡ Some path.now)

-- the arguments that the texts ask for, or None
abbrev pub Reads : Option Texts → Option Arguments → Type 0
Reads t asked = MatchOption asked ((a : Arguments) → AskedIn t a → ⊥) (AskedIn t)
