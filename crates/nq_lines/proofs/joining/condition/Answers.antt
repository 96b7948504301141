use Rattle.std.proofs.Common.{◌∷◌, [], subst}
use Rattle.std.specs.Prelude.{IfOk}
use Rattle.nq_logic.specs.Terms.{call}
use Rattle.nq_bank.specs.Content.{IsIdOf, terms_at}
use Rattle.nq_lines.specs.Branches.{if_at}
use Rattle.nq_lines.proofs.TermLemmas.{made_in_work}
use Rattle.nq_lines.proofs.BranchLemmas.{if_over}
use Rattle.nq_lines.proofs.joining.condition.Goals as goal

pub returns-clause-over : goal.returns-clause-over
returns-clause-over c =
    let w = c.args.work.now in
    let p = c.args.parts in
    made_in_work c.args.history.now w c.app.new.self c.app.result (if_at w.bank p) c.requires.stands c.app.ensures.grows (if_over c.args.history.now w p c.requires.parts)
    (subst (λ x. IfOk c.app.result (λ t. IsIdOf c.app.new.self.bank t (call x (terms_at w.bank (p.test ∷ p.first ∷ p.second ∷ []))))) c.ground_name-name.ensures.reads c.app.ensures.call)
