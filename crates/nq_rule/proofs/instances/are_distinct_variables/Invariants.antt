use Rattle.std.proofs.Common.{◌≡◌, drop}
use Rattle.nq_clause.specs.Substitution.{substitution_at}
use Rattle.nq_proof.specs.Rules.{is_substitution}
use Rattle.nq_rule.proofs.instances.are_distinct_variables.Given as goal

abbrev pub invariant-loop-i : goal.invariant-loop-i
invariant-loop-i l = is_substitution (substitution_at l.bank l.pairs) ≡ is_substitution (substitution_at l.bank (drop l.i l.pairs))
