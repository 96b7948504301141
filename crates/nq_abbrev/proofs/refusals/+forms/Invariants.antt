use Rattle.std.proofs.Common.{◌≡◌, drop}
use Rattle.nq_form.specs.Form.{end}
use Rattle.nq_language.specs.Refusals.{all_met, clauses_met, keyed_met, bound_met}
use Rattle.nq_sexp.specs.Tree.{trees}
use Rattle.nq_abbrev.specs.Known.{arity_over}
use Rattle.nq_abbrev.proofs.refusals.+forms.Given as goal

abbrev pub invariant-all_refusal-loop-place : goal.invariant-all_refusal-loop-place
invariant-all_refusal-loop-place g l =
    all_met (arity_over l.bank.names (g.A.Arities.at l.arities)) (trees (drop l.from l.items) end) ≡ all_met (arity_over l.bank.names (g.A.Arities.at l.arities)) (trees (drop l.place l.items) end)

abbrev pub invariant-clauses_refusal-loop-place : goal.invariant-clauses_refusal-loop-place
invariant-clauses_refusal-loop-place g l =
    clauses_met (arity_over l.bank.names (g.A.Arities.at l.arities)) (trees (drop l.from l.items) end) ≡ clauses_met (arity_over l.bank.names (g.A.Arities.at l.arities)) (trees (drop l.place l.items) end)

abbrev pub invariant-keyed_refusal-loop-place : goal.invariant-keyed_refusal-loop-place
invariant-keyed_refusal-loop-place g l =
    keyed_met (arity_over l.bank.names (g.A.Arities.at l.arities)) (trees (drop l.from l.items) end) ≡ keyed_met (arity_over l.bank.names (g.A.Arities.at l.arities)) (trees (drop l.place l.items) end)

abbrev pub invariant-bound_refusal-loop-binding : goal.invariant-bound_refusal-loop-binding
invariant-bound_refusal-loop-binding g l =
    bound_met (arity_over l.bank.names (g.A.Arities.at l.arities)) (trees l.bindings end) ≡ bound_met (arity_over l.bank.names (g.A.Arities.at l.arities)) (trees (drop l.binding-index l.bindings) end)
