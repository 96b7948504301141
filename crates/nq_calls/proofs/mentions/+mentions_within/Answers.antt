use Rattle.std.proofs.Common.{◌∙◌}
use Rattle.nq_bank.specs.declared.node.TermId.{TermId}
use Rattle.nq_bank.specs.Content.{text_at, term_at}
use Rattle.nq_calls.proofs.MentionLemmas.{mentioned-more, mentions-whole, mentions_kept}
use Rattle.nq_calls.proofs.mentions.+mentions_within.Goals as goal

pub loop-a-preserved : goal.loop-a-preserved
loop-a-preserved t c =
    let bank = c.args.bank.now in
    let first : TermId = record { 0 = 0 } in
    record {
      so_far = c.is_either-inside.ensures ∙ mentioned-more (text_at bank c.args.f) bank.terms c.args-a-items.result.now c.loop-a.a-index first c.loop-a.inside c.in_ok-here-in-None.here c.loop-a-test.true c.loop-a.invariant.so_far c.in_ok-here-in-None.ensures.ok;
      answers = c.in_ok-here-in-None.ensures.answers;
    }

pub returns-in_ok-keep_answer-in-None-clause-ok : goal.returns-in_ok-keep_answer-in-None-clause-ok
returns-in_ok-keep_answer-in-None-clause-ok t c =
    let bank = c.args.bank.now in
    c.is_either-answer.ensures ∙ mentions-whole bank (text_at bank c.args.f) (text_at bank c.in-App.g) (term_at bank c.args.t) c.args-a-items.result.now c.loop-a.a-index c.is_same_name.result c.loop-a.inside c.in-App.ensures.head.1 c.args-a-items.ensures.parts c.loop-a-test.false c.is_same_name.ensures c.loop-a.invariant.so_far

pub returns-in_ok-keep_answer-in-None-clause-answers : goal.returns-in_ok-keep_answer-in-None-clause-answers
returns-in_ok-keep_answer-in-None-clause-answers t c =
    let bank = c.args.bank.now in
    let whole = c.is_either-answer.ensures ∙ mentions-whole bank (text_at bank c.args.f) (text_at bank c.in-App.g) (term_at bank c.args.t) c.args-a-items.result.now c.loop-a.a-index c.is_same_name.result c.loop-a.inside c.in-App.ensures.head.1 c.args-a-items.ensures.parts c.loop-a-test.false c.is_same_name.ensures c.loop-a.invariant.so_far in
    mentions_kept bank (text_at bank c.args.f) c.loop-a.known c.keep_answer.new.known c.args.t c.is_either-answer.result c.loop-a.invariant.answers c.in_ok-keep_answer-in-None.ensures whole
