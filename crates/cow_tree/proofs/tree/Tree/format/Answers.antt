use Rattle.cow_tree.proofs.Prelude.{ℕ, sectors_asked, subst, sym, ◌≤◌}
use Rattle.cow_tree.proofs.Opened.{formatted_stands}
use Rattle.cow_tree.proofs.Steps.{on_ok_both}
use Rattle.cow_tree.proofs.tree.Tree.format.Goals as goal

pub returns-clause-formatted : goal.returns-clause-formatted
returns-clause-formatted g c honest =
    let d = g.D.Disk in
    on_ok_both c.format.result
    (λ current durable image may. formatted_stands (d.size c.format.new.disk) c.args.format c.empty.result (d.seen c.format.new.disk) image c.empty.ensures current (durable image may) (subst (λ (n : ℕ). sectors_asked c.args.format ≤ n) (sym c.format.ensures.size) c.requires.room))
    (c.format.ensures.formatted honest) (c.format.ensures.durable honest)
