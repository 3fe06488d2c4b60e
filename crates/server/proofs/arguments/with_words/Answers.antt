use Rattle.std.proofs.Common.{◌≡◌, ◌∙◌, ◌&&◌, not, ap, sym, refl, Bool, true, false, true≢false, List, [], ◌∷◌}
use Rattle.std.specs.Borrow.{Bor}
use Rattle.std.specs.Prelude.{fold}
use Rattle.std.proofs.lemmas.Result.{IfOk-weaker}
use Rattle.clap.specs.Simple.{Shape}
use Rattle.clap.specs.Words.{App, Text, app_of, new_app, with_rule, with_subcommand}
use Rattle.clap.specs.declared.builder.command.Command.{Command}
use Rattle.clap.specs.declared.builder.command.Command.TheViews.{out-Command}
use Rattle.server.specs.Subcommands.{required_text, words_app}
use Rattle.server.proofs.arguments.with_words.Goals as goal

abbrev shape : App → Shape
shape a = a.top

abbrev is_plain : App → Bool
is_plain a = a.top.is_plain

stays_plain : (a : App) (texts : List (Bor Text)) → is_plain (fold (λ b text. with_rule b (required_text text.now)) a texts) ≡ is_plain a
stays_plain a [] = refl
stays_plain a (t ∷ ts) = stays_plain (with_rule a (required_text t.now)) ts

no_globals : (a b c rest : Bool) → (a && (not b && (not c && rest))) ≡ true → c ≡ false
no_globals false b c rest e = absurd (true≢false (sym e))
no_globals true true c rest e = absurd (true≢false (sym e))
no_globals true false true rest e = sym e
no_globals true false false rest e = refl

no_globals_in : (m : Command) (name : Text) (texts : List (Bor Text)) → app_of m ≡ words_app name texts → (out-Command m).has_globals ≡ false
no_globals_in m name texts e = no_globals _ _ _ _ (ap is_plain e ∙ stays_plain (new_app name) texts)

pub returns : goal.returns
returns c =
    let words = c.in_ok-words.ensures in
    IfOk-weaker c.subcommand.result _ _
    (λ m h. h.shape (no_globals_in _ c.args.name.now c.args.texts.now words) ∙ ap (with_subcommand (app_of c.args.command)) (ap shape words))
    c.subcommand.ensures
