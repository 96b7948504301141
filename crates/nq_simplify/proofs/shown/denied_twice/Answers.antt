use Rattle.std.proofs.Common.{◌≡◌, ◌∙◌, ap}
use Rattle.nq_logic.specs.Words.{not_term}
use Rattle.nq_bank.specs.Content.{term_at}
use Rattle.nq_rule.proofs.Made.{for_ok}
use Rattle.nq_kernel.specs.declared.work.Work.{Work}
use Rattle.nq_kernel.proofs.GrowingLemmas.{WorkGrows-trans}
use Rattle.nq_bank.specs.Content.{IsIdOf}
use Rattle.nq_simplify.proofs.shown.denied_twice.Goals as goal

pub returns-clause-grows : goal.returns-clause-grows
returns-clause-grows c = WorkGrows-trans c.args.history.now c.args.work.now c.deny.new.work c.deny-2.new.work c.deny.ensures.grows c.deny-2.ensures.grows

pub returns-clause-is : goal.returns-clause-is
returns-clause-is c =
    let w0 : Work = c.args.work.now in
    let w1 : Work = c.deny.new.work in
    let w2 : Work = c.deny-2.new.work in
    for_ok c.deny-2.result (λ d. IsIdOf w2.bank d (not_term (term_at w1.bank c.in_ok-once.once))) (λ d. term_at w2.bank d ≡ not_term (not_term (term_at w0.bank c.args.t)))
    (λ d there. there.denotes ∙ ap not_term c.in_ok-once.ensures.denied.denotes) c.deny-2.ensures.denied
