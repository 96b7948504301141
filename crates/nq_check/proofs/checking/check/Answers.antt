use Rattle.nq_log.specs.Logs.{step}
use Rattle.nq_check.proofs.CheckingLemmas.{nothing_yet, verdict_checks}
use Rattle.nq_check.proofs.checking.check.Goals as goal

pub returns-in-Err-clause-checks : goal.returns-in-Err-clause-checks
returns-in-Err-clause-checks g c = nothing_yet (g.S.Source.left c.args.src.now) (g.O.Sink.written c.args.out.now) (c.right_claims.ensures.narrow step (λ s line taken e. e))

pub returns-in-Ok-judge_text-clause-checks : goal.returns-in-Ok-judge_text-clause-checks
returns-in-Ok-judge_text-clause-checks g c =
    verdict_checks (g.S.Source.left c.args.src.now) (g.O.Sink.written c.args.out.now) (g.O.Sink.written c.judge_text.new.out) (g.O.Sink.written c.write_verdict.new.out) c.in-Ok-judge_text.answer c.write_verdict.result
    c.in-Ok-judge_text.ensures.judges c.write_verdict.ensures.ok c.write_verdict.ensures.err c.write_verdict.ensures.no_read c.write_verdict.ensures.no_length
