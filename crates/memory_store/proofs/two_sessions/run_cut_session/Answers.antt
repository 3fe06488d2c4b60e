use Rattle.std.proofs.Common.{ap, sym, ◌∙◌, subst}
use Rattle.std.proofs.lemmas.Result.{IfOk-weaker}
use Rattle.disk.specs.Faulty.{inner_of, faults_of}
use Rattle.disk.specs.declared.memory.MemDisk.{MemDisk}
use Rattle.memory_store.specs.TwoSessions.{CutDisk, IsCut}
use Rattle.memory_store.proofs.two_sessions.run_cut_session.Goals as goal

pub returns-clause-cut_off : goal.returns-clause-cut_off
returns-clause-cut_off c =
    let ran = c.in_ok-disk.ensures.session in
    let (session, is, first, last, asks) = ran.2 in
    IfOk-weaker c.cut.result _ _
    (λ left cut. (
      ran.0,
      ran.1,
      record {
        session = session;
        is = is;
        began = ap inner_of first ∙ c.new.ensures.inner;
        fuse = ap (λ (d : CutDisk). (faults_of d).left) first ∙ c.new.ensures.calls;
        asks = asks;
        cut = subst (λ (d : MemDisk). IsCut c.args.plan.torn d left) (c.into_inner.ensures ∙ ap inner_of (sym last)) cut;
      },
    )) c.cut.ensures.cut
