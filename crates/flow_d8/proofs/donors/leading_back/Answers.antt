use Rattle.flow_d8.proofs.Prelude.{East, North, NorthEast, NorthWest, South, SouthEast, SouthWest, West}
use Rattle.flow_d8.proofs.Sayings.Draining.{IfNone_from}
use Rattle.flow_d8.proofs.donors.leading_back.Goals as goal

pub returns-in_err-leads_back-clause-none : goal.returns-in_err-leads_back-clause-none
returns-in_err-leads_back-clause-none c = IfNone_from c.from_residual.result (λ all. c.in_err-leads_back.ensures.none (all East))

pub returns-in_err-leads_back-2-clause-none : goal.returns-in_err-leads_back-2-clause-none
returns-in_err-leads_back-2-clause-none c = IfNone_from c.from_residual-in_err-leads_back-2.result (λ all. c.in_err-leads_back-2.ensures.none (all SouthEast))

pub returns-in_err-leads_back-3-clause-none : goal.returns-in_err-leads_back-3-clause-none
returns-in_err-leads_back-3-clause-none c = IfNone_from c.from_residual-in_err-leads_back-3.result (λ all. c.in_err-leads_back-3.ensures.none (all South))

pub returns-in_err-leads_back-4-clause-none : goal.returns-in_err-leads_back-4-clause-none
returns-in_err-leads_back-4-clause-none c = IfNone_from c.from_residual-in_err-leads_back-4.result (λ all. c.in_err-leads_back-4.ensures.none (all SouthWest))

pub returns-in_err-leads_back-5-clause-none : goal.returns-in_err-leads_back-5-clause-none
returns-in_err-leads_back-5-clause-none c = IfNone_from c.from_residual-in_err-leads_back-5.result (λ all. c.in_err-leads_back-5.ensures.none (all West))

pub returns-in_err-leads_back-6-clause-none : goal.returns-in_err-leads_back-6-clause-none
returns-in_err-leads_back-6-clause-none c = IfNone_from c.from_residual-in_err-leads_back-6.result (λ all. c.in_err-leads_back-6.ensures.none (all NorthWest))

pub returns-in_err-leads_back-7-clause-none : goal.returns-in_err-leads_back-7-clause-none
returns-in_err-leads_back-7-clause-none c = IfNone_from c.from_residual-in_err-leads_back-7.result (λ all. c.in_err-leads_back-7.ensures.none (all North))

pub returns-in_err-leads_back-8-clause-none : goal.returns-in_err-leads_back-8-clause-none
returns-in_err-leads_back-8-clause-none c = IfNone_from c.from_residual-in_err-leads_back-8.result (λ all. c.in_err-leads_back-8.ensures.none (all NorthEast))
