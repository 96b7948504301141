use Rattle.std.proofs.Common.{◌≡◌, ◌∙◌, get_or, rules}
use Rattle.std.proofs.lemmas.List.{length-set}
use Rattle.nq_rule_table.proofs.ListLemmas.{kept_more}
use Rattle.nq_rule_table.proofs.lists.keep_each.Goals as goal

pub loop-i-preserved : goal.loop-i-preserved
loop-i-preserved c =
    let vs = c.loop-i.lists.items in
    let old : c.index_mut.result.now ≡ get_or vs c.loop-i.i c.index_mut.result.now = search rules in
    record {
      count = length-set vs c.loop-i.i c.keep_early.new.list ∙ c.loop-i.invariant.count;
      kept = kept_more c.args.kept c.args.lists.now.items vs c.loop-i.i c.keep_early.new.list c.index_mut.result.now (search rules) old c.keep_early.ensures c.loop-i.invariant.kept;
    }
