use Rattle.std.proofs.Common.{◌≡◌, Option, ap, subst, refl}
use Rattle.std.specs.Prelude.{is_some, IfOk}
use Rattle.nq_clause.specs.Substitution.{substitution_at}
use Rattle.nq_proof.specs.Clauses.{Clause}
use Rattle.nq_kernel.specs.declared.rule.Rule.TheVariants.{Instance}
use Rattle.nq_kernel.specs.Meaning.{clause_at}
use Rattle.nq_kernel.proofs.HeldLines.{instance_held}
use Rattle.nq_kernel.proofs.work.Work.find_instance.Goals as goal

pub find_or_add-requires-clause-allowed : goal.find_or_add-requires-clause-allowed
find_or_add-requires-clause-allowed c = ap is_some (instance_held c.args.history.now c.args.self.now (Instance c.args.line c.args.pairs) c.args.line (substitution_at c.args.self.now.bank c.args.pairs.items) refl c.requires.line c.requires.distinct)

pub returns-clause-line : goal.returns-clause-line
returns-clause-line c =
    let P : Option Clause → Type 0 = λ o. IfOk c.find_or_add.result (λ n. clause_at c.find_or_add.new.self.bank c.find_or_add.new.self.log n ≡ o) in
    subst P (instance_held c.args.history.now c.args.self.now (Instance c.args.line c.args.pairs) c.args.line (substitution_at c.args.self.now.bank c.args.pairs.items) refl c.requires.line c.requires.distinct) c.find_or_add.ensures.line
