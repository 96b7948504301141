use Rattle.std.proofs.Common.{arith}
use Rattle.nq_kernel.specs.declared.work.Work.{Work}
use Rattle.nq_kernel.specs.Growing.{WorkGrows}
use Rattle.nq_kernel.proofs.GrowingLemmas.{WorkGrows-trans}
use Rattle.nq_lines.proofs.FactLemmas.{own_terms_grown}
use Rattle.nq_lines.proofs.TermLemmas.{term_grown}
use Rattle.nq_tactic.proofs.ObjectLemmas.{still_equation}
use Rattle.nq_tactic.proofs.objects.line_of_object.Goals as goal

pub equate-requires-clause-left : goal.equate-requires-clause-left
equate-requires-clause-left c = term_grown c.args.history.now c.args.work.now c.falsity.new.work c.args.t c.requires.stands c.falsity.ensures.grows c.requires.term

pub returns-in_err-equation-clause-grows : goal.returns-in_err-equation-clause-grows
returns-in_err-equation-clause-grows c = WorkGrows-trans c.args.history.now c.args.work.now c.falsity.new.work c.equate.new.work c.falsity.ensures.grows c.equate.ensures.grows

pub rewrite-requires : goal.rewrite-requires
rewrite-requires c =
    let h = c.args.history.now in
    let w0 : Work = c.args.work.now in
    let w1 : Work = c.falsity.new.work in
    let w2 : Work = c.equate.new.work in
    let g02 : WorkGrows h w0 w2 = WorkGrows-trans h w0 w1 w2 c.falsity.ensures.grows c.equate.ensures.grows in
    record {
      can = record {
        stands = g02.stands;
        term = c.in_ok-equation.ensures.over;
        hypotheses = λ k d below. absurd (omega (arith, below));
        ready = own_terms_grown h w0 w2 g02 c.requires.stands c.requires.ready;
      };
    }

pub returns-in_err-found-clause-grows : goal.returns-in_err-found-clause-grows
returns-in_err-found-clause-grows c =
    let h = c.args.history.now in
    let w0 : Work = c.args.work.now in
    let w1 : Work = c.falsity.new.work in
    let w2 : Work = c.equate.new.work in
    WorkGrows-trans h w0 w2 c.rewrite.new.work (WorkGrows-trans h w0 w1 w2 c.falsity.ensures.grows c.equate.ensures.grows) c.rewrite.ensures.grows

pub line_apart-requires-clause-term : goal.line_apart-requires-clause-term
line_apart-requires-clause-term c =
    let h = c.args.history.now in
    let w0 : Work = c.args.work.now in
    let w1 : Work = c.falsity.new.work in
    let w2 : Work = c.equate.new.work in
    term_grown h w0 c.rewrite.new.work c.args.t c.requires.stands (WorkGrows-trans h w0 w2 c.rewrite.new.work (WorkGrows-trans h w0 w1 w2 c.falsity.ensures.grows c.equate.ensures.grows) c.rewrite.ensures.grows) c.requires.term

pub line_apart-requires-clause-equation : goal.line_apart-requires-clause-equation
line_apart-requires-clause-equation c = term_grown c.args.history.now c.equate.new.work c.rewrite.new.work c.in_ok-equation.equation c.equate.ensures.grows.stands c.rewrite.ensures.grows c.in_ok-equation.ensures.over

pub line_apart-requires-clause-is : goal.line_apart-requires-clause-is
line_apart-requires-clause-is c =
    still_equation c.args.history.now c.args.work.now c.falsity.new.work c.equate.new.work c.rewrite.new.work c.falsity.ensures.grows c.equate.ensures.grows c.rewrite.ensures.grows c.args.t c.in_ok-no.no c.in_ok-equation.equation
    c.requires.term c.in_ok-no.ensures.term c.in_ok-equation.ensures.over c.in_ok-equation.ensures.equation

pub returns-in_err-line-clause-grows : goal.returns-in_err-line-clause-grows
returns-in_err-line-clause-grows c =
    let h = c.args.history.now in
    let w0 : Work = c.args.work.now in
    let w1 : Work = c.falsity.new.work in
    let w2 : Work = c.equate.new.work in
    let w3 : Work = c.rewrite.new.work in
    WorkGrows-trans h w0 w3 c.line_apart.new.work (WorkGrows-trans h w0 w2 w3 (WorkGrows-trans h w0 w1 w2 c.falsity.ensures.grows c.equate.ensures.grows) c.rewrite.ensures.grows) c.line_apart.ensures.grows

pub returns-in_ok-line-clause-grows : goal.returns-in_ok-line-clause-grows
returns-in_ok-line-clause-grows c =
    let h = c.args.history.now in
    let w0 : Work = c.args.work.now in
    let w1 : Work = c.falsity.new.work in
    let w2 : Work = c.equate.new.work in
    let w3 : Work = c.rewrite.new.work in
    WorkGrows-trans h w0 w3 c.line_apart.new.work (WorkGrows-trans h w0 w2 w3 (WorkGrows-trans h w0 w1 w2 c.falsity.ensures.grows c.equate.ensures.grows) c.rewrite.ensures.grows) c.line_apart.ensures.grows

pub returns-else-eq-clause-grows : goal.returns-else-eq-clause-grows
returns-else-eq-clause-grows c =
    let h = c.args.history.now in
    let w0 : Work = c.args.work.now in
    let w1 : Work = c.falsity.new.work in
    let w2 : Work = c.equate.new.work in
    WorkGrows-trans h w0 w2 c.rewrite.new.work (WorkGrows-trans h w0 w1 w2 c.falsity.ensures.grows c.equate.ensures.grows) c.rewrite.ensures.grows
