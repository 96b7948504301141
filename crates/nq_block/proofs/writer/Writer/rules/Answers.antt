use Rattle.std.proofs.Common.{arith, length, rules, subst, ◌≡◌}
use Rattle.std.specs.Prelude.{Ok}
use Rattle.nq_block.specs.Writing.{IsWriting, frame_after}
use Rattle.nq_block.proofs.BlockLemmas.{line_stands_at, rule_stands_at, rule_goes_on}
use Rattle.nq_block.proofs.writer.Writer.rules.Goals as goal

pub rule-line-requires : goal.rule-line-requires
rule-line-requires c = line_stands_at c.args.bank.now c.args.history.now c.args.log.now c.requires.legal c.requires.over c.loop-k.k (omega arith)

pub rule-requires-clause-stands : goal.rule-requires-clause-stands
rule-requires-clause-stands c = rule_stands_at c.args.bank.now c.args.history.now c.args.log.now c.requires.legal c.requires.over c.loop-k.k c.rule-line.result.now (omega arith) c.rule-line.ensures

pub loop-k-preserved : goal.loop-k-preserved
loop-k-preserved c =
    record {
      counted = c.in_ok-rule.ensures.counted;
      writing = λ introduced v. rule_goes_on c.args.bank.now c.args.history.now c.args.log.now c.requires.legal c.requires.over introduced c.loop-k.k c.rule-line.result.now c.loop-k.self c.rule.new.self (Ok c.in_ok-rule.field-0) (omega arith) c.rule-line.ensures (c.loop-k.invariant.writing introduced v) c.in_ok-rule.ensures.rule;
    }

pub returns-clause-writing : goal.returns-clause-writing
returns-clause-writing c =
    λ introduced v.
    let all : c.loop-k.k ≡ length c.args.log.now = search rules in
    subst (λ n. IsWriting c.args.bank.now (frame_after c.args.bank.now c.args.history.now introduced c.args.log.now n) c.loop-k.self) all (c.loop-k.invariant.writing introduced v)
