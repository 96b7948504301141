use Rattle.std.proofs.Common.{[], ◌∷◌, subst}
use Rattle.std.specs.Prelude.{IfOk}
use Rattle.nq_logic.specs.Terms.{call}
use Rattle.nq_bank.specs.Content.{IsIdOf, term_at, terms_at}
use Rattle.nq_bank.specs.Soundness.{ground_text}
use Rattle.nq_lines.proofs.TermLemmas.{made_in_work}
use Rattle.nq_arithmetic.proofs.Lemmas.{two_over}
use Rattle.nq_arithmetic.proofs.making.call_two.Goals as goal

pub returns-clause-term : goal.returns-clause-term
returns-clause-term c = made_in_work c.args.history.now c.args.work.now c.app.new.self c.app.result (call (ground_text c.args.f) (terms_at c.args.work.now.bank (c.args.a ∷ c.args.b ∷ []))) c.requires.stands c.app.ensures.grows (two_over c.args.history.now c.args.work.now c.args.f (term_at c.args.work.now.bank c.args.a) (term_at c.args.work.now.bank c.args.b) c.requires.function c.requires.first.over c.requires.second.over) (subst (λ x. IfOk c.app.result (λ t. IsIdOf c.app.new.self.bank t (call x (terms_at c.args.work.now.bank (c.args.a ∷ c.args.b ∷ []))))) c.ground_name-name.ensures.reads c.app.ensures.call)
