use Rattle.std.proofs.Common.{sym, subst}
use Rattle.nq_bank.specs.Content.{terms_at}
use Rattle.nq_kernel.specs.declared.work.Work.{Work}
use Rattle.nq_kernel.proofs.GrowingLemmas.{WorkGrows-refl, WorkGrows-trans}
use Rattle.nq_lines.proofs.FactLemmas.{own_terms_grown}
use Rattle.nq_search.proofs.SearchingLemmas.{goal_grown}
use Rattle.nq_arithmetic.proofs.Lemmas.{goal_same, found_of}
use Rattle.nq_tactic.proofs.tested.tested_line.Goals as goal

pub loop-at-init : goal.loop-at-init
loop-at-init c = record { grows = WorkGrows-refl c.args.history.now c.args.work.now c.requires.stands; terms = c.requires.goal; ready = c.requires.ready }

pub loop-at-preserved : goal.loop-at-preserved
loop-at-preserved c =
    let h = c.args.history.now in
    let w0 : Work = c.args.work.now in
    let w1 : Work = c.loop-at.work in
    let w2 : Work = c.line_at.new.work in
    record {
      grows = WorkGrows-trans h w0 w1 w2 c.loop-at.invariant.grows c.line_at.ensures.grows;
      terms = goal_grown h w1 w2 c.loop-at.invariant.grows.stands c.line_at.ensures.grows c.args.goal.now c.loop-at.invariant.terms;
      ready = own_terms_grown h w1 w2 c.line_at.ensures.grows c.loop-at.invariant.grows.stands c.loop-at.invariant.ready;
    }

pub returns-in_err-found-clause-grows : goal.returns-in_err-found-clause-grows
returns-in_err-found-clause-grows c = WorkGrows-trans c.args.history.now c.args.work.now c.loop-at.work c.line_at.new.work c.loop-at.invariant.grows c.line_at.ensures.grows

pub returns-then-is_some-clause-grows : goal.returns-then-is_some-clause-grows
returns-then-is_some-clause-grows c = WorkGrows-trans c.args.history.now c.args.work.now c.loop-at.work c.line_at.new.work c.loop-at.invariant.grows c.line_at.ensures.grows

pub returns-in_default-clause-grows : goal.returns-in_default-clause-grows
returns-in_default-clause-grows c = WorkGrows-refl c.args.history.now c.args.work.now c.requires.stands
