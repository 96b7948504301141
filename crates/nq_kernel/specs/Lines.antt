-- The clauses of a log's lines, as ids.
use Rattle.std.specs.Prelude.{ℕ, zero, suc, Bool, true, false, List, Option, Some, None, length, slice_get}
use Rattle.std.specs.List.{filter}
use Rattle.nq_bank.specs.declared.node.TermId.{TermId}
use Rattle.nq_kernel.specs.declared.rule.Rule.{Rule}
use Rattle.nq_kernel.specs.declared.rule.Line.{Line}

-- the clause of a line that stands
abbrev pub ids_if : Bool → List TermId → Option (List TermId)
ids_if true ids = Some ids
ids_if false ids = None

abbrev pub ids_of : Option Line → Option (List TermId)
ids_of None = None
ids_of (Some line) = ids_if line.stands line.clause.items

-- the clause of line n, counted from 1, where it stands
abbrev pub ids_at : List Line → ℕ → Option (List TermId)
ids_at log zero = None
ids_at log (suc k) = ids_of (slice_get log k)

abbrev pub rule_if : Option Line → Option Rule
rule_if None = None
rule_if (Some line) = Some line.rule

-- how many of the lines stand
abbrev pub live_lines : List Line → ℕ
live_lines log = length (filter (λ line. line.stands) log)

-- the rule of line n, counted from 1, whether it stands or not
abbrev pub rule_of : List Line → ℕ → Option Rule
rule_of log zero = None
rule_of log (suc k) = rule_if (slice_get log k)
