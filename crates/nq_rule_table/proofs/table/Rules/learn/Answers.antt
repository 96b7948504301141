use Rattle.std.proofs.Common.{◌-◌, ap}
use Rattle.nq_rule_table.specs.Tables.{list_at}
use Rattle.nq_rule_table.proofs.TableLemmas.{last_learnt, last_taught, last_stands, none_learnt, same_taught}
use Rattle.nq_rule_table.proofs.table.Rules.learn.Goals as goal

pub put_entry-requires : goal.put_entry-requires
put_entry-requires c = last_stands c.args.bank.now c.args.history.now (c.len-place.result - 1) c.entry-e.result.now c.requires.stands (ap (λ n. n - 1) c.len-place.ensures) c.entry-e.ensures

pub returns-in-Ok-clause-ok : goal.returns-in-Ok-clause-ok
returns-in-Ok-clause-ok c = last_learnt c.args.bank.now c.args.self.now _ c.args.history.now (c.len-place.result - 1) c.entry-e.result.now c.requires.stands (ap (λ n. n - 1) c.len-place.ensures) c.entry-e.ensures c.in-Ok.ensures.rules c.in-Ok.ensures.toggles

pub returns-in-Ok-clause-taught : goal.returns-in-Ok-clause-taught
returns-in-Ok-clause-taught c = last_taught c.args.bank.now c.args.self.now _ c.args.history.now (c.len-place.result - 1) c.entry-e.result.now c.requires.stands (ap (λ n. n - 1) c.len-place.ensures) c.entry-e.ensures c.in-Ok.ensures.rules c.in-Ok.ensures.toggles c.requires.learnt

pub returns-in-Err-clause-err : goal.returns-in-Err-clause-err
returns-in-Err-clause-err c =
    none_learnt c.args.bank.now c.args.self.now _ c.args.history.now (c.len-place.result - 1) (list_at c.put_entry.new.lists.items) c.requires.stands (ap (λ n. n - 1) c.len-place.ensures) c.requires.learnt
    c.in-Err.ensures.early c.keep_each.ensures c.put_entry.new.toggles.items c.in-Err.ensures.early_toggles c.keep_toggles.ensures

pub returns-in-Err-clause-err_taught : goal.returns-in-Err-clause-err_taught
returns-in-Err-clause-err_taught c =
    λ entries. same_taught c.args.self.now _ entries
    (none_learnt c.args.bank.now c.args.self.now _ c.args.history.now (c.len-place.result - 1) (list_at c.put_entry.new.lists.items) c.requires.stands (ap (λ n. n - 1) c.len-place.ensures) c.requires.learnt
    c.in-Err.ensures.early c.keep_each.ensures c.put_entry.new.toggles.items c.in-Err.ensures.early_toggles c.keep_toggles.ensures)
