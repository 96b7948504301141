use Rattle.std.proofs.Common.{◌∙◌, sym, ap, subst, Option}
use Rattle.std.specs.Prelude.{IfOk, is_some}
use Rattle.nq_proof.specs.Clauses.{Clause}
use Rattle.nq_rule.specs.Branches.{branches_at}
use Rattle.nq_rule.specs.Conclusions.{Concludes}
use Rattle.nq_kernel.proofs.Concluding.{told, is_some-mapped, split_second_given}
use Rattle.nq_kernel.proofs.log.Log.split_second.Goals as goal

pub unwrap-parts-requires : goal.unwrap-parts-requires
unwrap-parts-requires c = is_some-mapped (branches_at c.args.bank.now) c.branches_of.result ∙ ap is_some c.branches_of.ensures.parts ∙ c.requires.branches

pub returns-clause-ok : goal.returns-clause-ok
returns-clause-ok c =
    let found = told (branches_at c.args.bank.now) c.branches_of.result c.unwrap-parts.result _ c.branches_of.ensures.parts c.unwrap-parts.ensures in
    let P : Option Clause → Type 0 = λ o. IfOk c.second_branch_clause.result (λ v. Concludes c.args.bank.now v.items o) in
    subst P (sym (split_second_given c.args.bank.now c.args.self.now c.args.line c.args.place c.clause_over-clause.result.now (branches_at c.args.bank.now c.unwrap-parts.result) c.clause_over-clause.ensures.clause found)) c.second_branch_clause.ensures.ok
