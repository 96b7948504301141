use Rattle.std.proofs.Common.{◌<◌, length, get_or, arith, subst, sym}
use Rattle.nq_bank.proofs.Growth.{IsNamed-grown}
use Rattle.nq_kernel.specs.Growing.{WorkGrows}
use Rattle.nq_kernel.proofs.GrowingLemmas.{WorkGrows-refl, WorkGrows-trans}
use Rattle.nq_lines.proofs.FactLemmas.{own_terms_grown}
use Rattle.nq_lines.proofs.TermLemmas.{term_grown}
use Rattle.nq_rewrite.proofs.binding.bound_instance.Goals as goal
use Rattle.nq_rewrite.proofs.binding.bound_instance.Goals.{then-branch+in_ok-found+else-is_some, else-branch}

pub loop-at-init : goal.loop-at-init
loop-at-init c =
    record { grows = WorkGrows-refl c.args.history.now c.args.work.now c.requires.can.stands }

pub takes-requires-clause-pattern : goal.takes-requires-clause-pattern
takes-requires-clause-pattern c =
    (term_grown c.args.history.now c.args.work.now c.loop-at.work c.args.unbound.hypothesis c.requires.can.stands c.loop-at.invariant.grows c.requires.hypothesis).stands

pub takes-requires-clause-term : goal.takes-requires-clause-term
takes-requires-clause-term c =
    let below : c.loop-at.at < length c.args.assumed.now = omega arith in
    let there = c.requires.can.hypotheses c.loop-at.at (record { 0 = 0 }) below in
    (term_grown c.args.history.now c.args.work.now c.loop-at.work (get_or c.args.assumed.now c.loop-at.at (record { 0 = 0 })) c.requires.can.stands c.loop-at.invariant.grows there).stands

pub instance_by-requires-clause-ready : goal.instance_by-requires-clause-ready
instance_by-requires-clause-ready c =
    own_terms_grown c.args.history.now c.args.work.now c.loop-at.work c.loop-at.invariant.grows c.requires.can.stands c.requires.can.ready

pub instance_by-requires-clause-name : goal.instance_by-requires-clause-name
instance_by-requires-clause-name c =
    IsNamed-grown c.args.work.now.bank c.loop-at.work.bank c.args.name c.loop-at.invariant.grows.bank c.requires.name

pub instance_by-requires-clause-term : goal.instance_by-requires-clause-term
instance_by-requires-clause-term c =
    term_grown c.args.history.now c.args.work.now c.loop-at.work c.args.t c.requires.can.stands c.loop-at.invariant.grows c.requires.can.term

pub instance_by-requires-clause-left : goal.instance_by-requires-clause-left
instance_by-requires-clause-left c =
    term_grown c.args.history.now c.args.work.now c.loop-at.work c.args.unbound.left c.requires.can.stands c.loop-at.invariant.grows c.requires.left

pub instance_by-requires-clause-hypothesis : goal.instance_by-requires-clause-hypothesis
instance_by-requires-clause-hypothesis c =
    term_grown c.args.history.now c.args.work.now c.loop-at.work c.args.unbound.hypothesis c.requires.can.stands c.loop-at.invariant.grows c.requires.hypothesis

pub instance_by-requires-clause-assumption : goal.instance_by-requires-clause-assumption
instance_by-requires-clause-assumption c =
    let below : c.loop-at.at < length c.args.assumed.now = omega arith in
    let there = c.requires.can.hypotheses c.loop-at.at (record { 0 = 0 }) below in
    term_grown c.args.history.now c.args.work.now c.loop-at.work (get_or c.args.assumed.now c.loop-at.at (record { 0 = 0 })) c.requires.can.stands c.loop-at.invariant.grows there

pub returns-in_err-found-clause-grows : goal.returns-in_err-found-clause-grows
returns-in_err-found-clause-grows c =
    WorkGrows-trans c.args.history.now c.args.work.now c.loop-at.work c.instance_by.new.work c.loop-at.invariant.grows c.instance_by.ensures.grows

pub returns-then-is_some-clause-grows : goal.returns-then-is_some-clause-grows
returns-then-is_some-clause-grows c =
    WorkGrows-trans c.args.history.now c.args.work.now c.loop-at.work c.instance_by.new.work c.loop-at.invariant.grows c.instance_by.ensures.grows

pub loop-at-preserved : goal.loop-at-preserved
loop-at-preserved c =
    elim c.if-branch.branch [
      | then-branch+in_ok-found+else-is_some w ↦ record {
        grows =
            subst (WorkGrows c.args.history.now c.args.work.now) (sym w.work-is) (
            WorkGrows-trans c.args.history.now c.args.work.now c.loop-at.work w.instance_by.new.work c.loop-at.invariant.grows w.instance_by.ensures.grows);
      }
      | else-branch w ↦ record { grows = subst (WorkGrows c.args.history.now c.args.work.now) (sym w.work-is) c.loop-at.invariant.grows }
    ]
