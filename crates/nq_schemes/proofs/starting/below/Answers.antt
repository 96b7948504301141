use Rattle.std.proofs.Common.{◌∷◌, [], subst}
use Rattle.std.specs.Prelude.{IfOk}
use Rattle.nq_logic.specs.Terms.{call}
use Rattle.nq_logic.specs.Words.{call2}
use Rattle.nq_bank.specs.Content.{IsIdOf, term_at, terms_at}
use Rattle.nq_lines.proofs.TermLemmas.{made_in_work}
use Rattle.nq_schemes.proofs.MadeLemmas.{below_over}
use Rattle.nq_schemes.proofs.starting.below.Goals as goal

pub returns-clause-over : goal.returns-clause-over
returns-clause-over c =
    made_in_work c.args.history.now c.args.work.now c.app.new.self c.app.result (call2 "ORD-LESSP" (term_at c.args.work.now.bank c.args.t) (term_at c.args.work.now.bank c.args.u)) c.requires.stands c.app.ensures.grows (below_over c.args.history.now c.args.work.now (term_at c.args.work.now.bank c.args.t) (term_at c.args.work.now.bank c.args.u) c.requires.left.over c.requires.right.over)
    (subst (λ x. IfOk c.app.result (λ t. IsIdOf c.app.new.self.bank t (call x (terms_at c.args.work.now.bank (c.args.t ∷ c.args.u ∷ []))))) c.ground_name-name.ensures.reads c.app.ensures.call)
