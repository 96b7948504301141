use Rattle.std.proofs.Common.{[], subst}
use Rattle.std.specs.Prelude.{IfOk, codes}
use Rattle.nq_logic.specs.Terms.{call}
use Rattle.nq_logic.proofs.Symbols.{true_symbol}
use Rattle.nq_bank.specs.Content.{IsIdOf, terms_at}
use Rattle.nq_history.specs.Events.{events_at}
use Rattle.nq_lines.proofs.TermLemmas.{made_in_work}
use Rattle.nq_arithmetic.proofs.making.truth.Goals as goal

pub returns-clause-term : goal.returns-clause-term
returns-clause-term c = made_in_work c.args.history.now c.args.work.now c.app.new.self c.app.result (call (codes "TRUE") []) c.requires.stands c.app.ensures.grows (record { over = true_symbol (events_at c.args.work.now.bank c.args.history.now); variables = tt }) (subst (λ x. IfOk c.app.result (λ t. IsIdOf c.app.new.self.bank t (call x (terms_at c.args.work.now.bank [])))) c.ground_name-name.ensures.reads c.app.ensures.call)
