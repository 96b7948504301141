use Rattle.std.proofs.Common.{◌∷◌, [], subst}
use Rattle.std.specs.Prelude.{IfOk}
use Rattle.nq_logic.specs.Terms.{call}
use Rattle.nq_logic.specs.Words.{and_term}
use Rattle.nq_bank.specs.Content.{IsIdOf, term_at, terms_at}
use Rattle.nq_lines.proofs.TermLemmas.{made_in_work}
use Rattle.nq_types.proofs.GuessLemmas.{and_over}
use Rattle.nq_types.proofs.nesting.conjunction.Goals as goal

pub returns-clause-over : goal.returns-clause-over
returns-clause-over c =
    let w = c.args.work.now in
    let p = term_at w.bank c.args.p in
    let q = term_at w.bank c.args.q in
    made_in_work c.args.history.now w c.app.new.self c.app.result (and_term p q) c.requires.stands c.app.ensures.grows (and_over c.args.history.now w p q c.requires.first.over c.requires.second.over)
    (subst (λ x. IfOk c.app.result (λ t. IsIdOf c.app.new.self.bank t (call x (terms_at w.bank (c.args.p ∷ c.args.q ∷ []))))) c.ground_name-name.ensures.reads c.app.ensures.call)
