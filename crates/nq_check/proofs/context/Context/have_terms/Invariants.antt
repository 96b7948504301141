-- The bindings that are left decide.
use Rattle.std.proofs.Common.{◌≡◌, map, drop}
use Rattle.nq_log.specs.RuleLines.{have_terms}
use Rattle.nq_check.specs.Contexts.{pair_of, state_of}
use Rattle.nq_check.proofs.context.Context.have_terms.Given as goal

abbrev pub invariant-loop-binding : goal.invariant-loop-binding
invariant-loop-binding l = have_terms (state_of l.self).block (map pair_of l.bindings) ≡ have_terms (state_of l.self).block (map pair_of (drop l.binding-index l.bindings))
