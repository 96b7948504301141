-- The pairs so far are of the terms so far and of the first new variables, in work that only grows.
use Rattle.std.proofs.Common.{◌≡◌, ◌≤◌, ◌-◌, take}
use Rattle.std.specs.Prelude.{All}
use Rattle.nq_bank.specs.Content.{terms_at}
use Rattle.nq_clause.specs.Substitution.{substitution_at}
use Rattle.nq_proof.specs.Rules.{pair_terms}
use Rattle.nq_kernel.specs.Growing.{WorkGrows}
use Rattle.nq_kernel.specs.Over.{pair_names}
use Rattle.nq_goals.specs.NewVariables.{clause_variables, unused_from}
use Rattle.nq_moves.specs.Naming.{IsNaming}
use Rattle.nq_moves.proofs.naming.name_terms.Given as goal

abbrev pub invariant-loop-t : goal.invariant-loop-t
invariant-loop-t l =
    record {
      grows : WorkGrows l.history l.fn.work l.work;
      pairs : All (IsNaming l.history l.work l.literals) l.pairs.items;
      number : 1 ≤ l.number;
      names : pair_names (substitution_at l.work.bank l.pairs.items) ≡ unused_from (l.number - 1) 1 (clause_variables (terms_at l.fn.work.bank l.literals));
      terms : pair_terms (substitution_at l.work.bank l.pairs.items) ≡ terms_at l.fn.work.bank (take l.t-index l.terms);
    }
