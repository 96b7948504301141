use Rattle.std.proofs.Common.{◌+◌, length, ap, ◌∙◌}
use Rattle.nq_event.proofs.NumberedLemmas.{entries_count}
use Rattle.nq_event.proofs.made_name.count_names.Goals as goal

pub returns-clause-count : goal.returns-clause-count
returns-clause-count c =
    λ bank stands.
    ap (λ es. length es + length c.symbols.result.now) c.entries.ensures ∙ entries_count bank c.args.history.now c.symbols.result.now stands (c.symbols.ensures.texts bank stands)
