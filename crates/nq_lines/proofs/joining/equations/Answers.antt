use Rattle.nq_bank.proofs.Standing.{id_grown}
use Rattle.nq_kernel.specs.declared.work.Work.{Work}
use Rattle.nq_kernel.specs.Growing.{WorkGrows}
use Rattle.nq_kernel.proofs.GrowingLemmas.{WorkGrows-trans}
use Rattle.nq_lines.proofs.TermLemmas.{term_grown, same_term_grown}
use Rattle.nq_lines.proofs.BranchLemmas.{equal_id}
use Rattle.nq_lines.proofs.joining.equations.Goals as goal

pub deny-requires-clause-term : goal.deny-requires-clause-term
deny-requires-clause-term c = c.requires.after.test

pub equate-requires-clause-left : goal.equate-requires-clause-left
equate-requires-clause-left c = (term_grown c.args.history.now c.args.work.now c.deny.new.work c.args.before.second c.requires.stands c.deny.ensures.grows c.requires.before.second)

pub equate-requires-clause-right : goal.equate-requires-clause-right
equate-requires-clause-right c = (term_grown c.args.history.now c.args.work.now c.deny.new.work c.args.after.second c.requires.stands c.deny.ensures.grows c.requires.after.second)

pub equate-requires-2-clause-left : goal.equate-requires-2-clause-left
equate-requires-2-clause-left c = (term_grown c.args.history.now c.args.work.now c.equate.new.work c.args.before.first c.requires.stands (WorkGrows-trans c.args.history.now c.args.work.now c.deny.new.work c.equate.new.work c.deny.ensures.grows c.equate.ensures.grows) c.requires.before.first)

pub equate-requires-2-clause-right : goal.equate-requires-2-clause-right
equate-requires-2-clause-right c = (term_grown c.args.history.now c.args.work.now c.equate.new.work c.args.after.first c.requires.stands (WorkGrows-trans c.args.history.now c.args.work.now c.deny.new.work c.equate.new.work c.deny.ensures.grows c.equate.ensures.grows) c.requires.after.first)

pub returns-in_err-first-clause-grows : goal.returns-in_err-first-clause-grows
returns-in_err-first-clause-grows c = (WorkGrows-trans c.args.history.now c.args.work.now c.deny.new.work c.equate.new.work c.deny.ensures.grows c.equate.ensures.grows)

pub returns-in_err-second-clause-grows : goal.returns-in_err-second-clause-grows
returns-in_err-second-clause-grows c = (WorkGrows-trans c.args.history.now c.args.work.now c.deny.new.work c.equate-2.new.work c.deny.ensures.grows (WorkGrows-trans c.args.history.now c.deny.new.work c.equate.new.work c.equate-2.new.work c.equate.ensures.grows c.equate-2.ensures.grows))

pub returns-clause-grows : goal.returns-clause-grows
returns-clause-grows c = (WorkGrows-trans c.args.history.now c.args.work.now c.deny.new.work c.equate-2.new.work c.deny.ensures.grows (WorkGrows-trans c.args.history.now c.deny.new.work c.equate.new.work c.equate-2.new.work c.equate.ensures.grows c.equate-2.ensures.grows))

pub returns-clause-parts : goal.returns-clause-parts
returns-clause-parts c =
    let h = c.args.history.now in
    let w0 : Work = c.args.work.now in
    let w1 : Work = c.deny.new.work in
    let w2 : Work = c.equate.new.work in
    let w3 : Work = c.equate-2.new.work in
    let g01 : WorkGrows h w0 w1 = c.deny.ensures.grows in
    let g02 : WorkGrows h w0 w2 = (WorkGrows-trans c.args.history.now c.args.work.now c.deny.new.work c.equate.new.work c.deny.ensures.grows c.equate.ensures.grows) in
    let g13 : WorkGrows h w1 w3 = (WorkGrows-trans c.args.history.now c.deny.new.work c.equate.new.work c.equate-2.new.work c.equate.ensures.grows c.equate-2.ensures.grows) in
    let g23 : WorkGrows h w2 w3 = c.equate-2.ensures.grows in
    record {
      test = id_grown w1.bank w3.bank c.in_ok-test.test _ g13.bank c.in_ok-test.ensures.denied;
      first = equal_id w0 w1 w3 c.in_ok-first.first c.args.before.second c.args.after.second (same_term_grown h w0 w1 c.args.before.second g01 c.requires.before.second) (same_term_grown h w0 w1 c.args.after.second g01 c.requires.after.second) (id_grown w2.bank w3.bank c.in_ok-first.first _ g23.bank c.in_ok-first.ensures.equation);
      second = equal_id w0 w2 w3 c.in_ok-second.second c.args.before.first c.args.after.first (same_term_grown h w0 w2 c.args.before.first g02 c.requires.before.first) (same_term_grown h w0 w2 c.args.after.first g02 c.requires.after.first) c.in_ok-second.ensures.equation;
    }

pub returns-clause-over : goal.returns-clause-over
returns-clause-over c = record { test = (term_grown c.args.history.now c.deny.new.work c.equate-2.new.work c.in_ok-test.test c.deny.ensures.grows.stands (WorkGrows-trans c.args.history.now c.deny.new.work c.equate.new.work c.equate-2.new.work c.equate.ensures.grows c.equate-2.ensures.grows) c.in_ok-test.ensures.over); first = (term_grown c.args.history.now c.equate.new.work c.equate-2.new.work c.in_ok-first.first c.equate.ensures.grows.stands c.equate-2.ensures.grows c.in_ok-first.ensures.over); second = c.in_ok-second.ensures.over }
