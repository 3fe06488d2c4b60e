use Rattle.std.proofs.Common.{◌≡◌, ◌∙◌, ◌<◌, ◌+◌, ℕ, List, length, get_or, ap, sym, true, take, arith}
use Rattle.std.proofs.lemmas.List.Sums.{fold_more}
use Rattle.std.specs.Prelude.{fold}
use Rattle.clap.specs.Simple.{Shape, app_of_fields, on_top}
use Rattle.clap.specs.Words.{App}
use Rattle.server.specs.Subcommands.{empty_app}
use Rattle.server.proofs.arguments.command.Invariants.{IsBuilt, Row, step}
use Rattle.server.proofs.arguments.command.Goals as goal

more : (rows : List Row) (i : ℕ) (app next : App) (row : Row) → i < length rows → IsBuilt rows i app → next ≡ step app (get_or rows i row) → IsBuilt rows (i + 1) next
more rows i app next row within built is =
    record { is = is ∙ ap (λ (a : App). step a (get_or rows i row)) built.is ∙ sym (fold_more step empty_app rows i row within) }

at_end : (rows : List Row) (i n : ℕ) (app : App) → IsBuilt rows i app → i ≡ n → app ≡ fold step empty_app (take n rows)
at_end rows i n app built e = built.is ∙ ap (λ (k : ℕ). fold step empty_app (take k rows)) e

pub loop-name-init : goal.loop-name-init
loop-name-init c = record {
  is =
      ap app_of_fields c.subcommand_required-command.ensures
      ∙ ap (on_top (λ (s : Shape). record s { subcommand_required = true }))
      (ap app_of_fields c.no_binary_name.ensures ∙ ap (on_top (λ (s : Shape). record s { no_binary_name = true })) c.new.ensures.app);
}

pub loop-name-preserved : goal.loop-name-preserved
loop-name-preserved c = more _ _ _ _ _ c.loop-name-test.true c.loop-name.invariant c.in_ok-command.ensures

pub returns : goal.returns
returns c =
    let whole : c.loop-name.name-index ≡ 6 = omega arith in
    at_end _ _ _ _ c.loop-name.invariant whole
