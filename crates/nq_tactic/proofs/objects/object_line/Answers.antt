use Rattle.std.proofs.Common.{◌∷◌, [], List, get_or, sym}
use Rattle.std.specs.Prelude.{IfSome}
use Rattle.nq_bank.specs.declared.node.TermId.{TermId}
use Rattle.nq_bank.specs.Content.{term_at, terms_at}
use Rattle.nq_rule.proofs.Made.{for_ok}
use Rattle.nq_kernel.specs.declared.work.Work.{Work}
use Rattle.nq_lines.specs.Lines.{LineHasOnly}
use Rattle.nq_arithmetic.proofs.Lemmas.{goal_same, found_of}
use Rattle.nq_tactic.proofs.ObjectLemmas.{literal_found}
use Rattle.nq_tactic.proofs.objects.object_line.Goals as goal

pub returns-then-has_kind-clause-line : goal.returns-then-has_kind-clause-line
returns-then-has_kind-clause-line c =
    let h = c.args.history.now in
    let w0 : Work = c.args.work.now in
    let w1 : Work = c.line_of_object.new.work in
    let d : TermId = record { 0 = 0 } in
    let goal : List TermId = c.args.goal.now in
    found_of c.line_of_object.result w1 (terms_at w0.bank goal) (terms_at w1.bank goal) (sym (goal_same h w0 w1 c.requires.stands c.line_of_object.ensures.grows goal c.requires.goal))
    (for_ok c.line_of_object.result (λ o. IfSome o (λ n. LineHasOnly w1 n (term_at w0.bank (get_or goal c.args.at d) ∷ []))) (λ o. IfSome o (λ n. LineHasOnly w1 n (terms_at w0.bank goal)))
    (λ o there. literal_found w1 w0.bank goal c.args.at d o c.requires.at there) c.line_of_object.ensures.line)
