use Rattle.std.proofs.Common.{◌∙◌, sym, ap, subst, Option}
use Rattle.std.specs.Prelude.{IfOk, is_some}
use Rattle.nq_bank.specs.Content.{term_at}
use Rattle.nq_proof.specs.Clauses.{Clause}
use Rattle.nq_rule.specs.Conclusions.{Concludes}
use Rattle.nq_kernel.proofs.Concluding.{told, is_some-mapped, not_not_given}
use Rattle.nq_kernel.proofs.log.Log.without_nots.Goals as goal

pub unwrap-t-requires : goal.unwrap-t-requires
unwrap-t-requires c = is_some-mapped (term_at c.args.bank.now) c.under_literal.result ∙ ap is_some c.under_literal.ensures.term ∙ c.requires.nots

pub returns-clause-ok : goal.returns-clause-ok
returns-clause-ok c =
    let found = told (term_at c.args.bank.now) c.under_literal.result c.unwrap-t.result _ c.under_literal.ensures.term c.unwrap-t.ensures in
    let P : Option Clause → Type 0 = λ o. IfOk c.clause_in_place.result (λ v. Concludes c.args.bank.now v.items o) in
    subst P (sym (not_not_given c.args.bank.now c.args.self.now c.args.line c.args.place c.clause_over-clause.result.now (term_at c.args.bank.now c.unwrap-t.result) c.clause_over-clause.ensures.clause found)) c.clause_in_place.ensures.ok
