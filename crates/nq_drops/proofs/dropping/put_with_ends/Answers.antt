use Rattle.std.proofs.Common.{◌≡◌, [], true, map, get_or, sym, ap, ◌∙◌}
use Rattle.nq_logtext.specs.Views.{view}
use Rattle.nq_drops.specs.Uses.{is_rule}
use Rattle.nq_drops.proofs.TextLemmas.{rule_put}
use Rattle.nq_drops.proofs.dropping.put_with_ends.Goals as goal

pub returns-in_ok-put_ended-clause-added : goal.returns-in_ok-put_ended-clause-added
returns-in_ok-put_ended-clause-added c =
    let rule : is_rule (view c.args.line.now).word ≡ true = let a = c.is_rule.ensures in let b = c.word.ensures in let t = c.if-is_rule.true in ap is_rule (sym b) ∙ sym a ∙ t in
    λ rest. rule_put (λ n. get_or (map (λ ls. ls.items) c.args.ends.now) n []) c.args.n (view c.args.line.now) rest c.args.out.now c.put_line.new.out c.put_ended.new.out rule c.in_ok-put_line.ensures c.in_ok-put_ended.ensures
