use Rattle.std.proofs.Common.{◌∷◌, [], subst}
use Rattle.std.specs.Prelude.{IfOk}
use Rattle.nq_logic.specs.Terms.{call}
use Rattle.nq_logic.specs.Words.{if_term}
use Rattle.nq_bank.specs.Content.{IsIdOf, term_at, terms_at}
use Rattle.nq_lines.proofs.TermLemmas.{made_in_work}
use Rattle.nq_reduce.proofs.RewritingLemmas.{if_over}
use Rattle.nq_reduce.proofs.whole.if_call.Goals as goal

pub returns-clause-over : goal.returns-clause-over
returns-clause-over c =
    let p = term_at c.args.work.now.bank c.args.p in
    let x = term_at c.args.work.now.bank c.args.x in
    let y = term_at c.args.work.now.bank c.args.y in
    made_in_work c.args.history.now c.args.work.now c.app.new.self c.app.result (if_term p x y) c.requires.stands c.app.ensures.grows (if_over c.args.history.now c.args.work.now p x y c.requires.test.over c.requires.first.over c.requires.second.over)
    (subst (λ f. IfOk c.app.result (λ t. IsIdOf c.app.new.self.bank t (call f (terms_at c.args.work.now.bank (c.args.p ∷ c.args.x ∷ c.args.y ∷ []))))) c.ground_name-name.ensures.reads c.app.ensures.call)
