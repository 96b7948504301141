use Rattle.std.proofs.Common.{ap, ◌∙◌}
use Rattle.nq_history.specs.Functions.{arity_among, functions_of}
use Rattle.nq_history.proofs.FunctionLemmas.{arity_is}
use Rattle.nq_history.proofs.history.History.arity.Goals as goal

pub returns-clause-value : goal.returns-clause-value
returns-clause-value c =
    c.arity.ensures c.self.inside.entries.items c.self.invariant.1 ∙ ap (λ es. arity_among c.args.name (functions_of es)) c.self.view_is

pub returns-clause-events : goal.returns-clause-events
returns-clause-events c =
    λ bank sound stands named.
    c.arity.ensures c.self.inside.entries.items c.self.invariant.1 ∙
    ap (λ es. arity_among c.args.name (functions_of es)) c.self.view_is ∙
    arity_is bank c.args.name c.args.self.now sound named stands
