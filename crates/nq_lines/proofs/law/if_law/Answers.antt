use Rattle.std.proofs.Common.{◌∙◌, subst}
use Rattle.nq_logic.specs.Words.{variable}
use Rattle.nq_bank.specs.Content.{term_at}
use Rattle.nq_rule.proofs.Made.{for_ok}
use Rattle.nq_kernel.specs.declared.work.Work.{Work}
use Rattle.nq_kernel.specs.Growing.{WorkGrows}
use Rattle.nq_kernel.proofs.GrowingLemmas.{WorkGrows-trans}
use Rattle.nq_lines.specs.Lines.{LineHasOnly}
use Rattle.nq_lines.proofs.TermLemmas.{same_term_grown}
use Rattle.nq_lines.specs.Branches.{HasJoined, IsIfLaw, joined_literals}
use Rattle.nq_lines.proofs.BranchLemmas.{branches_grown}
use Rattle.nq_lines.proofs.PairLemmas.{x_plain, y_plain}
use Rattle.nq_lines.proofs.BranchLemmas.{p_plain, q_plain, u_plain, v_plain}
use Rattle.nq_lines.proofs.law.if_law.Goals as goal

pub variable_parts-requires-clause-test : goal.variable_parts-requires-clause-test
variable_parts-requires-clause-test c = p_plain

pub variable_parts-requires-clause-first : goal.variable_parts-requires-clause-first
variable_parts-requires-clause-first c = x_plain

pub variable_parts-requires-clause-second : goal.variable_parts-requires-clause-second
variable_parts-requires-clause-second c = y_plain

pub variable_parts-requires-2-clause-test : goal.variable_parts-requires-2-clause-test
variable_parts-requires-2-clause-test c = q_plain

pub variable_parts-requires-2-clause-first : goal.variable_parts-requires-2-clause-first
variable_parts-requires-2-clause-first c = u_plain

pub variable_parts-requires-2-clause-second : goal.variable_parts-requires-2-clause-second
variable_parts-requires-2-clause-second c = v_plain

pub law_of-requires-clause-before : goal.law_of-requires-clause-before
law_of-requires-clause-before c = (branches_grown c.args.history.now c.variable_parts.new.work c.variable_parts-2.new.work c.in_ok-before.before c.variable_parts.ensures.grows.stands c.variable_parts-2.ensures.grows c.in_ok-before.ensures.over)

pub returns-in_err-after-clause-grows : goal.returns-in_err-after-clause-grows
returns-in_err-after-clause-grows c = (WorkGrows-trans c.args.history.now c.args.work.now c.variable_parts.new.work c.variable_parts-2.new.work c.variable_parts.ensures.grows c.variable_parts-2.ensures.grows)

pub returns-clause-grows : goal.returns-clause-grows
returns-clause-grows c = (WorkGrows-trans c.args.history.now c.args.work.now c.variable_parts.new.work c.law_of.new.work c.variable_parts.ensures.grows (WorkGrows-trans c.args.history.now c.variable_parts.new.work c.variable_parts-2.new.work c.law_of.new.work c.variable_parts-2.ensures.grows c.law_of.ensures.grows))

pub returns-clause-line : goal.returns-clause-line
returns-clause-line c =
    let h = c.args.history.now in
    let w0 : Work = c.args.work.now in
    let w1 : Work = c.variable_parts.new.work in
    let w2 : Work = c.variable_parts-2.new.work in
    let w3 : Work = c.law_of.new.work in
    let g12 : WorkGrows h w1 w2 = c.variable_parts-2.ensures.grows in
    for_ok c.law_of.result (HasJoined w2 w3 c.in_ok-before.before c.in_ok-after.after) (IsIfLaw w3) (λ n f. (subst (λ z. LineHasOnly w3 n (joined_literals (variable "P") (variable "X") (variable "Y") (variable "Q") (variable "U") z)) c.in_ok-after.ensures.parts.second.denotes (subst (λ z. LineHasOnly w3 n (joined_literals (variable "P") (variable "X") (variable "Y") (variable "Q") z (term_at w2.bank c.in_ok-after.after.second))) c.in_ok-after.ensures.parts.first.denotes (subst (λ z. LineHasOnly w3 n (joined_literals (variable "P") (variable "X") (variable "Y") z (term_at w2.bank c.in_ok-after.after.first) (term_at w2.bank c.in_ok-after.after.second))) c.in_ok-after.ensures.parts.test.denotes (subst (λ z. LineHasOnly w3 n (joined_literals (variable "P") (variable "X") z (term_at w2.bank c.in_ok-after.after.test) (term_at w2.bank c.in_ok-after.after.first) (term_at w2.bank c.in_ok-after.after.second))) (same_term_grown h w1 w2 c.in_ok-before.before.second g12 c.in_ok-before.ensures.over.second ∙ c.in_ok-before.ensures.parts.second.denotes) (subst (λ z. LineHasOnly w3 n (joined_literals (variable "P") z (term_at w2.bank c.in_ok-before.before.second) (term_at w2.bank c.in_ok-after.after.test) (term_at w2.bank c.in_ok-after.after.first) (term_at w2.bank c.in_ok-after.after.second))) (same_term_grown h w1 w2 c.in_ok-before.before.first g12 c.in_ok-before.ensures.over.first ∙ c.in_ok-before.ensures.parts.first.denotes) (subst (λ z. LineHasOnly w3 n (joined_literals z (term_at w2.bank c.in_ok-before.before.first) (term_at w2.bank c.in_ok-before.before.second) (term_at w2.bank c.in_ok-after.after.test) (term_at w2.bank c.in_ok-after.after.first) (term_at w2.bank c.in_ok-after.after.second))) (same_term_grown h w1 w2 c.in_ok-before.before.test g12 c.in_ok-before.ensures.over.test ∙ c.in_ok-before.ensures.parts.test.denotes) f))))))) c.law_of.ensures.line
