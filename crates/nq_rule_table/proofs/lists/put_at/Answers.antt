use Rattle.std.proofs.Common.{◌≡◌, get_or, rules}
use Rattle.nq_rule_table.proofs.ListLemmas.{put_there, early_put, early_same}
use Rattle.nq_rule_table.proofs.lists.put_at.Goals as goal

pub returns-clause-ok : goal.returns-clause-ok
returns-clause-ok c =
    let old : c.index_mut.result.now ≡ get_or c.args.lists.now.items c.args.f.0 c.index_mut.result.now = search rules in
    put_there c.args.lists.now.items c.args.f.0 c.push.new.self c.index_mut.result.now c.requires old c.args.rule c.in_ok-push.ensures.items

pub returns-clause-early : goal.returns-clause-early
returns-clause-early c =
    let old : c.index_mut.result.now ≡ get_or c.args.lists.now.items c.args.f.0 c.index_mut.result.now = search rules in
    early_put c.args.lists.now.items c.args.f.0 c.push.new.self c.index_mut.result.now c.requires old c.args.rule c.in_ok-push.ensures.items

pub returns-in_err-push-clause-early : goal.returns-in_err-push-clause-early
returns-in_err-push-clause-early c =
    let old : c.index_mut.result.now ≡ get_or c.args.lists.now.items c.args.f.0 c.index_mut.result.now = search rules in
    early_same c.args.lists.now.items c.args.f.0 c.push.new.self c.index_mut.result.now c.requires old c.args.rule.place c.in_err-push.ensures.items
