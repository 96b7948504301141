use Rattle.std.proofs.Common.{◌≡◌, ◌<◌, ◌-◌, ◌+◌, ◌∙◌, suc, length, arith}
use Rattle.nq_rule_table.specs.Tables.{list_at}
use Rattle.nq_rule_table.proofs.RuleLemmas.{part_more}
use Rattle.nq_rule_table.proofs.putting.put_each.Goals as goal

pub loop-done-preserved : goal.loop-done-preserved
loop-done-preserved c =
    let ids = c.args.parts.now in
    let done = c.loop-done.done in
    let at = length ids - 1 - done in
    let low : at < length ids = omega (arith, c.loop-done-test.true) in
    let next : length ids - done ≡ suc at = omega (arith, c.loop-done-test.true) in
    let same : length ids - (done + 1) ≡ at = omega (arith, c.loop-done-test.true) in
    record {
      put = λ f.
          part_more c.args.bank.now f c.args.event c.args.place ids (list_at c.args.lists.now.items f) (list_at c.loop-done.lists.items f) (list_at c.put_part.new.lists.items f) (length ids - done) at (length ids - (done + 1)) _ low next same
          (c.loop-done.invariant.put f) (c.in_ok-put_part.ensures.ok f);
      early = λ f. c.put_part.ensures.early f ∙ c.loop-done.invariant.early f;
    }
