use Rattle.std.proofs.Common.{subst}
use Rattle.std.specs.Prelude.{IfSome}
use Rattle.nq_kernel.specs.declared.work.Work.{Work}
use Rattle.nq_kernel.specs.Growing.{LineStands}
use Rattle.nq_kernel.proofs.GrowingLemmas.{WorkGrows-trans}
use Rattle.nq_lines.proofs.FactLemmas.{own_terms_grown}
use Rattle.nq_lines.proofs.LineLemmas.{line_grown}
use Rattle.nq_lines.proofs.TermLemmas.{term_grown}
use Rattle.nq_tactic.proofs.circular.line_by_sizes.Goals as goal

pub line_of_sizes-requires-clause-ready : goal.line_of_sizes-requires-clause-ready
line_of_sizes-requires-clause-ready c = own_terms_grown c.args.history.now c.args.work.now c.equate.new.work c.equate.ensures.grows c.requires.stands c.requires.ready

pub line_of_sizes-requires-clause-first : goal.line_of_sizes-requires-clause-first
line_of_sizes-requires-clause-first c = term_grown c.args.history.now c.args.work.now c.equate.new.work c.args.size c.requires.stands c.equate.ensures.grows c.requires.size

pub line_of_sizes-requires-clause-second : goal.line_of_sizes-requires-clause-second
line_of_sizes-requires-clause-second c = term_grown c.args.history.now c.args.work.now c.equate.new.work c.args.other.term c.requires.stands c.equate.ensures.grows c.requires.other

pub returns-in_err-apart-clause-grows : goal.returns-in_err-apart-clause-grows
returns-in_err-apart-clause-grows c = WorkGrows-trans c.args.history.now c.args.work.now c.equate.new.work c.line_of_sizes.new.work c.equate.ensures.grows c.line_of_sizes.ensures.grows

pub cut-requires-clause-first : goal.cut-requires-clause-first
cut-requires-clause-first c =
    let h = c.args.history.now in
    let w0 : Work = c.args.work.now in
    let w2 : Work = c.line_of_sizes.new.work in
    line_grown h w0 w2 c.args.other.line c.requires.stands (WorkGrows-trans h w0 c.equate.new.work w2 c.equate.ensures.grows c.line_of_sizes.ensures.grows) c.requires.equal

pub cut-requires-clause-second : goal.cut-requires-clause-second
cut-requires-clause-second c = subst (λ o. IfSome o (LineStands c.line_of_sizes.new.work)) c.in-Some.is c.in_ok-apart.ensures.line

pub cut-requires-clause-term : goal.cut-requires-clause-term
cut-requires-clause-term c = term_grown c.args.history.now c.equate.new.work c.line_of_sizes.new.work c.in_ok-equation.equation c.equate.ensures.grows.stands c.line_of_sizes.ensures.grows c.in_ok-equation.ensures.over

pub returns-in_err-line-in-Some-clause-grows : goal.returns-in_err-line-in-Some-clause-grows
returns-in_err-line-in-Some-clause-grows c =
    let h = c.args.history.now in
    let w0 : Work = c.args.work.now in
    let w2 : Work = c.line_of_sizes.new.work in
    WorkGrows-trans h w0 w2 c.cut.new.work (WorkGrows-trans h w0 c.equate.new.work w2 c.equate.ensures.grows c.line_of_sizes.ensures.grows) c.cut.ensures.grows

pub returns-in_ok-line-in-Some-clause-grows : goal.returns-in_ok-line-in-Some-clause-grows
returns-in_ok-line-in-Some-clause-grows c =
    let h = c.args.history.now in
    let w0 : Work = c.args.work.now in
    let w2 : Work = c.line_of_sizes.new.work in
    WorkGrows-trans h w0 w2 c.cut.new.work (WorkGrows-trans h w0 c.equate.new.work w2 c.equate.ensures.grows c.line_of_sizes.ensures.grows) c.cut.ensures.grows

pub returns-in-None-clause-grows : goal.returns-in-None-clause-grows
returns-in-None-clause-grows c = WorkGrows-trans c.args.history.now c.args.work.now c.equate.new.work c.line_of_sizes.new.work c.equate.ensures.grows c.line_of_sizes.ensures.grows
