use Rattle.std.proofs.Common.{◌∷◌, [], subst}
use Rattle.std.specs.Prelude.{IfOk}
use Rattle.nq_logic.specs.Terms.{call}
use Rattle.nq_logic.specs.Words.{call1}
use Rattle.nq_bank.specs.Content.{IsIdOf, term_at, terms_at}
use Rattle.nq_lines.proofs.TermLemmas.{made_in_work}
use Rattle.nq_schemes.proofs.MadeLemmas.{ordinal_over}
use Rattle.nq_schemes.proofs.ordinals.ordinal_term.Goals as goal

pub returns-clause-over : goal.returns-clause-over
returns-clause-over c =
    made_in_work c.args.history.now c.args.work.now c.app.new.self c.app.result (call1 "ORDINALP" (term_at c.args.work.now.bank c.args.t)) c.requires.stands c.app.ensures.grows (ordinal_over c.args.history.now c.args.work.now (term_at c.args.work.now.bank c.args.t) c.requires.term.over)
    (subst (λ x. IfOk c.app.result (λ t. IsIdOf c.app.new.self.bank t (call x (terms_at c.args.work.now.bank (c.args.t ∷ []))))) c.ground_name-name.ensures.reads c.app.ensures.call)
