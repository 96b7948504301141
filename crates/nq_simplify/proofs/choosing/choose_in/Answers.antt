use Rattle.nq_steps.proofs.NameLemmas.{no_names}
use Rattle.nq_kernel.specs.declared.work.Work.{Work}
use Rattle.nq_kernel.specs.Growing.{WorkGrows}
use Rattle.nq_kernel.proofs.GrowingLemmas.{bank_grows, uncounted}
use Rattle.nq_lines.proofs.TermLemmas.{term_grown, same_term_grown}
use Rattle.nq_simplify.proofs.ChoosingLemmas.{chosen_in}
use Rattle.nq_simplify.proofs.choosing.choose_in.Goals as goal

pub returns-in-Err-clause-grows : goal.returns-in-Err-clause-grows
returns-in-Err-clause-grows c =
    bank_grows c.args.history.now c.args.work.now c.choose.new.bank c.args.work.now.counter c.requires.stands c.in-Err.ensures.grows (no_names c.args.work.now.bank c.choose.new.bank c.in-Err.ensures.names) (uncounted c.args.work.now.counter)

pub returns-in-Ok-clause-grows : goal.returns-in-Ok-clause-grows
returns-in-Ok-clause-grows c =
    bank_grows c.args.history.now c.args.work.now c.choose.new.bank c.args.work.now.counter c.requires.stands c.in-Ok.ensures.grows (no_names c.args.work.now.bank c.choose.new.bank c.in-Ok.ensures.names) (uncounted c.args.work.now.counter)

pub returns-in-Ok-clause-choice : goal.returns-in-Ok-clause-choice
returns-in-Ok-clause-choice c =
    let h = c.args.history.now in
    let w0 : Work = c.args.work.now in
    let w1 : Work = record { bank = c.choose.new.bank; log = w0.log; counter = w0.counter; known = w0.known } in
    let g : WorkGrows h w0 w1 = bank_grows h w0 c.choose.new.bank w0.counter c.requires.stands c.in-Ok.ensures.grows (no_names w0.bank c.choose.new.bank c.in-Ok.ensures.names) (uncounted w0.counter) in
    chosen_in h w0 w1 c.in-Ok.choice c.args.t (term_grown h w0 w1 c.args.t c.requires.stands g c.requires.term) (same_term_grown h w0 w1 c.args.t g c.requires.term) c.in-Ok.ensures.ok
