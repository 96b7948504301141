use Rattle.std.proofs.Common.{◌<◌, length, rules}
use Rattle.nq_rule_table.proofs.TableLemmas.{rules_more, toggles_more, whole_learnt}
use Rattle.nq_rule_table.proofs.table.Rules.of.Goals as goal

pub loop-place-preserved : goal.loop-place-preserved
loop-place-preserved c =
    let low : c.loop-place.place < length c.args.history.now = search rules in
    record {
      rules = λ f. rules_more c.args.bank.now c.args.history.now c.loop-place.place c.entry.result.now low c.entry.ensures f _ _ (c.loop-place.invariant.rules f) (c.in_ok-put_entry.ensures.rules f);
      toggles = toggles_more c.args.bank.now c.args.history.now c.loop-place.place c.entry.result.now low c.entry.ensures _ _ c.loop-place.invariant.toggles c.in_ok-put_entry.ensures.toggles;
    }

pub returns : goal.returns
returns c = whole_learnt c.args.bank.now c.args.history.now c.loop-place.place _ (search rules) c.loop-place.invariant.rules c.loop-place.invariant.toggles
