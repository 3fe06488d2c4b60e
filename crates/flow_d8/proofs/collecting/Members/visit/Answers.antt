use Rattle.flow_d8.proofs.Prelude.{IsSettled, subst, suc, sym}
use Rattle.flow_d8.proofs.Sayings.Said.{is_known}
use Rattle.flow_d8.proofs.collecting.Members.visit.Goals as goal

pub add-requires-clause-joined : goal.add-requires-clause-joined
add-requires-clause-joined c =
    let before = c.requires.found.joined c.args.from c.requires.member in
    (suc before.0, (c.args.from, c.args.direction, (before.1, (c.requires.found.flat c.args.from c.requires.member, sym c.step-to.ensures.value))))

pub returns-in_ok-add-clause-settled : goal.returns-in_ok-add-clause-settled
returns-in_ok-add-clause-settled c _ = subst (IsSettled c.args.known.now.flows.now c.add.new.self.marks) c.step-to.ensures.value
    (record { known = is_known _ (c.is_of_flat.ensures.0 c.if-is_of_flat.true); member = λ flat. c.in_ok-add.ensures.member })
