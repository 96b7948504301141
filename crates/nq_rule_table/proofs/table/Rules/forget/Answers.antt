use Rattle.nq_rule_table.proofs.TableLemmas.{first_ones, first_learnt, first_taught}
use Rattle.nq_rule_table.proofs.table.Rules.forget.Goals as goal

pub returns-clause-over : goal.returns-clause-over
returns-clause-over c = λ bank entries. first_learnt bank c.args.self.now _ entries c.args.kept (λ ls. first_ones c.args.self.now _ ls c.args.kept c.keep_each.ensures c.keep_toggles.ensures)

pub returns-clause-taught : goal.returns-clause-taught
returns-clause-taught c = λ entries. first_taught c.args.self.now _ entries c.args.kept (λ ls. first_ones c.args.self.now _ ls c.args.kept c.keep_each.ensures c.keep_toggles.ensures)
