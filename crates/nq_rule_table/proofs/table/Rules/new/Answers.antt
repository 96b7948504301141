use Rattle.std.proofs.Common.{take, rules}
use Rattle.std.proofs.lemmas.List.Elements.{All-take}
use Rattle.nq_history.specs.Events.{ground_length, EntryStands}
use Rattle.nq_rule_table.proofs.TableLemmas.{ground_learnt, was_taught}
use Rattle.nq_rule_table.proofs.table.Rules.new.Goals as goal

pub returns-clause-over : goal.returns-clause-over
returns-clause-over c = λ bank entries stands. ground_learnt bank entries _ stands (search rules) (search rules)

pub returns-clause-taught : goal.returns-clause-taught
returns-clause-taught c = λ bank entries stands. was_taught bank _ (take ground_length entries) (All-take (EntryStands bank) ground_length entries stands.entries) (ground_learnt bank entries _ stands (search rules) (search rules))
