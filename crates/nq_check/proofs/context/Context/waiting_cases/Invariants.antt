-- The cases so far, and then those of the lines that are left.
use Rattle.std.proofs.Common.{◌≡◌, [], map, drop}
use Rattle.std.specs.Prelude.{All}
use Rattle.nq_rule.specs.Inductions.{cases_at, CaseStands}
use Rattle.nq_check.specs.Cases.{resumed_at}
use Rattle.nq_check.specs.Contexts.{case_of, state_of}
use Rattle.nq_check.proofs.context.Context.waiting_cases.Given as goal

abbrev pub invariant-loop-line : goal.invariant-loop-line
invariant-loop-line l =
    record {
      rest : resumed_at (state_of l.self).block [] (map case_of l.lines) ≡ resumed_at (state_of l.self).block (cases_at l.self.bank l.cases.items) (map case_of (drop l.line-index l.lines));
      stand : All (CaseStands l.self.bank) l.cases.items;
    }
