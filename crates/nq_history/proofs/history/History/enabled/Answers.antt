use Rattle.std.proofs.Common.{ap, ◌∙◌, true}
use Rattle.nq_history.specs.Lookups.{enabled_in}
use Rattle.nq_history.proofs.LookupLemmas.{enabled_is}
use Rattle.nq_history.proofs.history.History.enabled.Goals as goal

pub returns-clause-events : goal.returns-clause-events
returns-clause-events c =
    λ bank sound stands named.
    c.is_enabled_among.ensures ∙ ap (enabled_in c.args.name true) (c.as_slice.ensures.value ∙ c.self.view_is) ∙ enabled_is bank c.args.name c.args.self.now sound named stands
