use Rattle.std.proofs.Common.{◌∙◌, ap}
use Rattle.nq_logic.specs.Terms.{call}
use Rattle.nq_bank.specs.Content.{text_at, terms_at}
use Rattle.nq_goals.specs.Equations.{equation_of}
use Rattle.nq_moves.proofs.EquationLemmas.{few_sides, many_sides, both_items}
use Rattle.nq_moves.proofs.equations.sides_of_call.Goals as goal

pub returns-in-len2-clause-sides : goal.returns-in-len2-clause-sides
returns-in-len2-clause-sides c =
    c.sides_of_two.ensures.sides ∙
    ap (λ ids. equation_of (call (text_at c.args.bank.now c.args.f) (terms_at c.args.bank.now ids))) (both_items c.args.arguments.now (record { 0 = 0 }) c.in-len2.len_at_least c.in-len2.len_below)

pub returns-in_default-clause-sides : goal.returns-in_default-clause-sides
returns-in_default-clause-sides c = few_sides c.args.bank.now (text_at c.args.bank.now c.args.f) c.args.arguments.now c.in_default.len_below

pub returns-in_default-2-clause-sides : goal.returns-in_default-2-clause-sides
returns-in_default-2-clause-sides c = many_sides c.args.bank.now (text_at c.args.bank.now c.args.f) c.args.arguments.now c.in_default.len_at_least
