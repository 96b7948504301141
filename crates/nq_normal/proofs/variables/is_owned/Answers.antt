use Rattle.std.proofs.Common.{◌≡◌, sym, ap, ◌∙◌, subst}
use Rattle.std.specs.Prelude.{IfOk}
use Rattle.nq_bank.specs.Content.{text_at, term_at}
use Rattle.nq_logic.specs.Names.{has_name}
use Rattle.nq_normal.specs.Variables.{owned}
use Rattle.nq_normal.proofs.OwnLemmas.{named_occurs}
use Rattle.nq_normal.proofs.variables.is_owned.Goals as goal

pub returns-in-Some : goal.returns-in-Some
returns-in-Some c =
    let bank = c.args.bank.now in
    subst (λ v. IfOk c.occurs_in.result (λ answer. answer ≡ v)) (named_occurs (text_at bank c.args.variable) (term_at bank c.in-Some.t) ∙ ap (λ o. has_name (text_at bank c.args.variable) (owned bank o)) (sym c.in-Some.is)) c.occurs_in.ensures
