use Rattle.std.proofs.Common.{◌∙◌, sym, ap, subst}
use Rattle.std.specs.Prelude.{All}
use Rattle.nq_logic.specs.Terms.{Term}
use Rattle.nq_logic.specs.Words.{not_term}
use Rattle.nq_bank.specs.Content.{term_at}
use Rattle.nq_bank.proofs.Standing.{All-push}
use Rattle.nq_kernel.proofs.GrowingLemmas.{WorkGrows-trans}
use Rattle.nq_lines.specs.Lines.{IsTermIn}
use Rattle.nq_lines.proofs.TermLemmas.{term_grown, same_term_grown}
use Rattle.nq_schemes.proofs.GrownLemmas.{terms_grown}
use Rattle.nq_schemes.proofs.SingleLemmas.{some_pushed, last_among}
use Rattle.nq_schemes.proofs.single.denied_with.Goals as goal

pub deny-requires-clause-term : goal.deny-requires-clause-term
deny-requires-clause-term c = term_grown c.args.history.now c.args.work.now c.denials.new.work c.args.falls c.requires.stands c.denials.ensures.grows c.requires.falls

pub returns-in_err-denied-clause-grows : goal.returns-in_err-denied-clause-grows
returns-in_err-denied-clause-grows c = WorkGrows-trans c.args.history.now c.args.work.now c.denials.new.work c.deny.new.work c.denials.ensures.grows c.deny.ensures.grows

pub returns-in_err-add_literal-clause-grows : goal.returns-in_err-add_literal-clause-grows
returns-in_err-add_literal-clause-grows c = WorkGrows-trans c.args.history.now c.args.work.now c.denials.new.work c.deny.new.work c.denials.ensures.grows c.deny.ensures.grows

pub returns-clause-grows : goal.returns-clause-grows
returns-clause-grows c = WorkGrows-trans c.args.history.now c.args.work.now c.denials.new.work c.deny.new.work c.denials.ensures.grows c.deny.ensures.grows

pub returns-clause-over : goal.returns-clause-over
returns-clause-over c =
    let h = c.args.history.now in
    subst (All (IsTermIn h c.deny.new.work)) (sym c.in_ok-add_literal.ensures.more)
    (All-push (IsTermIn h c.deny.new.work) c.in_ok-literals.literals.items c.in_ok-denied.denied (terms_grown h c.denials.new.work c.deny.new.work c.denials.ensures.grows.stands c.deny.ensures.grows c.in_ok-literals.literals.items c.in_ok-literals.ensures.denials) c.in_ok-denied.ensures.over)

pub returns-clause-some : goal.returns-clause-some
returns-clause-some c = some_pushed c.in_ok-literals.literals.items c.add_literal.new.literals.items c.in_ok-denied.denied c.in_ok-add_literal.ensures.more

pub returns-clause-last : goal.returns-clause-last
returns-clause-last c =
    last_among c.deny.new.work.bank c.in_ok-literals.literals.items c.add_literal.new.literals.items c.in_ok-denied.denied (not_term (term_at c.args.work.now.bank c.args.falls)) c.in_ok-add_literal.ensures.more
    (c.in_ok-denied.ensures.denied.denotes ∙ ap (λ (t : Term). not_term t) (same_term_grown c.args.history.now c.args.work.now c.denials.new.work c.args.falls c.denials.ensures.grows c.requires.falls))
