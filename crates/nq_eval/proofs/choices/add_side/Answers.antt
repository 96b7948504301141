use Rattle.std.proofs.Common.{sym, ◌∙◌}
use Rattle.nq_bank.specs.Content.{term_at}
use Rattle.nq_eval.proofs.ChoiceLemmas.{is_false}
use Rattle.nq_eval.proofs.choices.add_side.Goals as goal

pub add_second_side-requires-clause-falsity : goal.add_second_side-requires-clause-falsity
add_second_side-requires-clause-falsity c = record { usable = c.requires.choice.test; is = is_false (term_at c.args.work.now.bank c.args.parts.test) (sym c.if-is_falsity.true ∙ c.is_falsity.ensures) }
