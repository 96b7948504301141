use Rattle.std.proofs.Common.{◌∷◌, []}
use Rattle.nq_logic.specs.Terms.{call}
use Rattle.nq_bank.specs.Content.{term_at, text_at}
use Rattle.nq_lines.proofs.TermLemmas.{made_in_work}
use Rattle.nq_rewrite.proofs.KindLemmas.{one_over}
use Rattle.nq_rewrite.proofs.kinds.one_call_made.Goals as goal

pub returns-clause-call : goal.returns-clause-call
returns-clause-call c =
    made_in_work c.args.history.now c.args.work.now c.app.new.self c.app.result (call (text_at c.args.work.now.bank c.args.f) (term_at c.args.work.now.bank c.args.a ∷ [])) c.requires.stands c.app.ensures.grows
    (one_over c.args.history.now c.args.work.now (text_at c.args.work.now.bank c.args.f) c.args.a c.requires.takes c.requires.argument) c.app.ensures.call
