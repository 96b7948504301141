use Rattle.std.proofs.Common.{◌≡◌, subst}
use Rattle.std.specs.Prelude.{IfOk}
use Rattle.nq_logic.specs.Terms.{call}
use Rattle.nq_bank.specs.Content.{text_at, term_at, terms_at}
use Rattle.nq_goals.specs.Generalizing.{is_on_both_sides}
use Rattle.nq_moves.proofs.EquationLemmas.{both_items}
use Rattle.nq_generalize.proofs.SideLemmas.{few_sides, many_sides}
use Rattle.nq_generalize.proofs.sides.stands_on_sides.Goals as goal

pub returns-in-len2-clause-answer : goal.returns-in-len2-clause-answer
returns-in-len2-clause-answer c =
    let bank = c.args.bank.now in
    subst (λ ids. IfOk c.stands_on_both.result (λ b. b ≡ is_on_both_sides (term_at bank c.args.a) (call (text_at bank c.args.f) (terms_at bank ids)))) (both_items c.args.arguments.now (record { 0 = 0 }) c.in-len2.len_at_least c.in-len2.len_below) c.stands_on_both.ensures.answer

pub returns-in_default-clause-answer : goal.returns-in_default-clause-answer
returns-in_default-clause-answer c = few_sides c.args.bank.now (term_at c.args.bank.now c.args.a) (text_at c.args.bank.now c.args.f) c.args.arguments.now c.in_default.len_below

pub returns-in_default-2-clause-answer : goal.returns-in_default-2-clause-answer
returns-in_default-2-clause-answer c = many_sides c.args.bank.now (term_at c.args.bank.now c.args.a) (text_at c.args.bank.now c.args.f) c.args.arguments.now c.in_default.len_at_least
