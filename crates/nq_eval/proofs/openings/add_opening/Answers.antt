use Rattle.std.proofs.Common.{List, ◌∙◌, ◌∷◌, [], sym, subst}
use Rattle.nq_history.specs.declared.entry.Entry.{Entry}
use Rattle.nq_kernel.specs.declared.work.Work.{Work}
use Rattle.nq_kernel.specs.Growing.{WorkStands, LineHolds}
use Rattle.nq_eval.specs.Lines.{GrowsUncounted}
use Rattle.nq_logic.specs.Words.{equal_term}
use Rattle.nq_bank.specs.Content.{term_at}
use Rattle.nq_eval.proofs.ClosingLemmas.{same_after}
use Rattle.nq_eval.proofs.OpeningLemmas.{opened_instance, opened_has, opened_to}
use Rattle.nq_fragments.specs.Openings.{body_of}
use Rattle.nq_eval.proofs.openings.add_opening.Goals as goal

pub add_row_instance-requires-clause-row : goal.add_row_instance-requires-clause-row
add_row_instance-requires-clause-row c =
    let h : List Entry = c.args.history.now in
    let w0 : Work = c.args.work.now in
    opened_has w0.bank h c.args.u c.args.opening c.requires.opening c.requires.term

pub add_row_instance-requires-clause-name : goal.add_row_instance-requires-clause-name
add_row_instance-requires-clause-name c =
    c.requires.opening.name

pub add_row_instance-requires-clause-pairs : goal.add_row_instance-requires-clause-pairs
add_row_instance-requires-clause-pairs c =
    c.requires.opening.pairs

pub body_in-body-requires-clause-line : goal.body_in-body-requires-clause-line
body_in-body-requires-clause-line c =
    let h : List Entry = c.args.history.now in
    let w0 : Work = c.args.work.now in
    let s0 : WorkStands h w0 = c.requires.stands in
    let w1 : Work = c.add_row_instance.new.work in
    let d1 : GrowsUncounted h w0 w1 = c.add_row_instance.ensures.grows in
    let holds : LineHolds w1 c.in_ok-line.line (equal_term (term_at w1.bank c.args.u) (body_of c.requires.opening.opening) ∷ []) = subst (λ t. LineHolds w1 c.in_ok-line.line (equal_term t (body_of c.requires.opening.opening) ∷ [])) (sym (same_after h w0 w1 s0 d1 c.args.u c.requires.term)) (c.in_ok-line.ensures.line ∙ opened_instance w0.bank h c.args.u c.args.opening c.requires.opening c.requires.term) in
    record { body = body_of c.requires.opening.opening; holds = holds }

pub returns-clause-opened : goal.returns-clause-opened
returns-clause-opened c =
    let h : List Entry = c.args.history.now in
    let w0 : Work = c.args.work.now in
    let s0 : WorkStands h w0 = c.requires.stands in
    let w1 : Work = c.add_row_instance.new.work in
    let d1 : GrowsUncounted h w0 w1 = c.add_row_instance.ensures.grows in
    let holds : LineHolds w1 c.in_ok-line.line (equal_term (term_at w1.bank c.args.u) (body_of c.requires.opening.opening) ∷ []) = subst (λ t. LineHolds w1 c.in_ok-line.line (equal_term t (body_of c.requires.opening.opening) ∷ [])) (sym (same_after h w0 w1 s0 d1 c.args.u c.requires.term)) (c.in_ok-line.ensures.line ∙ opened_instance w0.bank h c.args.u c.args.opening c.requires.opening c.requires.term) in
    opened_to h w0 w1 s0 d1 c.args.u c.requires.term c.args.opening (record { body = c.body_in-body.result; line = c.in_ok-line.line }) c.requires.opens c.requires.opening c.body_in-body.ensures.stands holds c.body_in-body.ensures.equation
