use Rattle.std.proofs.Common.{◌∙◌, Some, sym, ap, subst}
use Rattle.std.specs.Prelude.{All}
use Rattle.nq_bank.specs.Content.{Stands}
use Rattle.nq_reduce.proofs.ClauseLemmas.{ids_there, literals_told}
use Rattle.nq_reduce.proofs.clauses.literals_of.Goals as goal

pub clause_over-literals-requires-clause-line : goal.clause_over-literals-requires-clause-line
clause_over-literals-requires-clause-line c = ids_there c.args.history.now c.args.work.now c.args.line c.requires.line

pub returns-in-Ok-clause-literals : goal.returns-in-Ok-clause-literals
returns-in-Ok-clause-literals c = literals_told c.args.history.now c.args.work.now c.args.line c.in-Ok.ids.items c.requires.line (c.clause_over-literals.ensures.clause ∙ ap Some (sym c.in-Ok.ensures.items)) (subst (λ xs. All (Stands c.args.work.now.bank) xs) (sym c.in-Ok.ensures.items) c.clause_over-literals.ensures.stand)
