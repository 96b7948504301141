use Rattle.nq_kernel.specs.declared.work.Work.{Work}
use Rattle.nq_kernel.specs.Growing.{WorkGrows}
use Rattle.nq_kernel.proofs.GrowingLemmas.{WorkGrows-trans}
use Rattle.nq_lines.proofs.TermLemmas.{term_grown}
use Rattle.nq_schemes.proofs.GrownLemmas.{ready_grown}
use Rattle.nq_schemes.proofs.certain.plain_scheme.Goals as goal

pub guess_at-requires : goal.guess_at-requires
guess_at-requires c = record { call = (term_grown c.args.history.now c.args.work.now c.opened_call.new.work c.args.call c.requires.stands c.opened_call.ensures.grows c.requires.call).stands }

pub plain_basis-requires-clause-ready : goal.plain_basis-requires-clause-ready
plain_basis-requires-clause-ready c = ready_grown c.args.history.now c.args.work.now c.opened_call.new.work c.requires.stands c.opened_call.ensures.grows c.requires.ready

pub returns-in_err-basis-clause-grows : goal.returns-in_err-basis-clause-grows
returns-in_err-basis-clause-grows c = WorkGrows-trans c.args.history.now c.args.work.now c.opened_call.new.work c.plain_basis.new.work c.opened_call.ensures.grows c.plain_basis.ensures.grows

pub returns-clause-grows : goal.returns-clause-grows
returns-clause-grows c =
    let h = c.args.history.now in
    let w0 : Work = c.args.work.now in
    let w2 : Work = c.plain_basis.new.work in
    let g02 : WorkGrows h w0 w2 = WorkGrows-trans h w0 c.opened_call.new.work w2 c.opened_call.ensures.grows c.plain_basis.ensures.grows in
    WorkGrows-trans h w0 w2 c.scheme_with.new.work g02 c.scheme_with.ensures.grows
