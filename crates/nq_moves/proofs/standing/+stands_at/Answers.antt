use Rattle.std.proofs.Common.{◌∙◌, sym, false}
use Rattle.nq_bank.specs.declared.node.TermId.{TermId}
use Rattle.nq_bank.specs.Content.{text_at, term_at}
use Rattle.nq_goals.specs.Replacing.{stands_in}
use Rattle.nq_moves.proofs.AnswerLemmas.{any-more, answers_kept}
use Rattle.nq_moves.proofs.StandingLemmas.{stands_if_same, stands-variable, stands-numeral, stands-whole}
use Rattle.nq_moves.proofs.standing.+stands_at.Goals as goal

pub returns-then-is_same-clause-ok : goal.returns-then-is_same-clause-ok
returns-then-is_same-clause-ok t c = stands_if_same (term_at c.args.bank.now c.args.a) (term_at c.args.bank.now c.args.t) (sym c.is_same.ensures ∙ c.if-is_same.true)

pub loop-u-preserved : goal.loop-u-preserved
loop-u-preserved t c =
    let first : TermId = record { 0 = 0 } in
    record {
      so_far = any-more (stands_in (term_at c.args.bank.now c.args.a)) false c.args.bank.now.terms c.args-u-items.result.now c.loop-u.u-index first c.loop-u.answer c.in_ok-here-in-None.here c.is_either-answer.result c.loop-u-test.true c.loop-u.invariant.so_far c.in_ok-here-in-None.ensures.ok c.is_either-answer.ensures;
      answers = c.in_ok-here-in-None.ensures.answers;
    }

pub returns-in-Var-clause-ok : goal.returns-in-Var-clause-ok
returns-in-Var-clause-ok t c = stands-variable (term_at c.args.bank.now c.args.a) (term_at c.args.bank.now c.args.t) (text_at c.args.bank.now c.in-Var.field-0) c.in-Var.ensures.head.1 (sym c.is_same.ensures ∙ c.if-is_same.false)

pub returns-in-Num-clause-ok : goal.returns-in-Num-clause-ok
returns-in-Num-clause-ok t c = stands-numeral (term_at c.args.bank.now c.args.a) (term_at c.args.bank.now c.args.t) c.in-Num.field-0 c.in-Num.ensures.head.1 c.requires.other c.in-Num.ensures.head.0 (sym c.is_same.ensures ∙ c.if-is_same.false)

pub returns-in_ok-keep_answer-in-None-clause-ok : goal.returns-in_ok-keep_answer-in-None-clause-ok
returns-in_ok-keep_answer-in-None-clause-ok t c = stands-whole c.args.bank.now (term_at c.args.bank.now c.args.a) (term_at c.args.bank.now c.args.t) (text_at c.args.bank.now c.in-App.field-0) c.args-u-items.result.now c.loop-u.u-index c.loop-u.answer c.in-App.ensures.head.1 c.args-u-items.ensures.parts c.loop-u-test.false (sym c.is_same.ensures ∙ c.if-is_same.false) c.loop-u.invariant.so_far

pub returns-in_ok-keep_answer-in-None-clause-answers : goal.returns-in_ok-keep_answer-in-None-clause-answers
returns-in_ok-keep_answer-in-None-clause-answers t c =
    answers_kept c.args.bank.now (stands_in (term_at c.args.bank.now c.args.a)) c.loop-u.known c.keep_answer.new.known c.args.t c.loop-u.answer c.loop-u.invariant.answers c.in_ok-keep_answer-in-None.ensures (stands-whole c.args.bank.now (term_at c.args.bank.now c.args.a) (term_at c.args.bank.now c.args.t) (text_at c.args.bank.now c.in-App.field-0) c.args-u-items.result.now c.loop-u.u-index c.loop-u.answer c.in-App.ensures.head.1 c.args-u-items.ensures.parts c.loop-u-test.false (sym c.is_same.ensures ∙ c.if-is_same.false) c.loop-u.invariant.so_far)
