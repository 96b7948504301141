use Rattle.std.proofs.Common.{◌∙◌, sym, ap}
use Rattle.nq_logic.specs.Histories.{History}
use Rattle.nq_bank.specs.Content.{Content, text_at, term_at}
use Rattle.nq_history.specs.Events.{events_at}
use Rattle.nq_goals.specs.Recursion.{is_recursive, holds_recursive}
use Rattle.nq_moves.proofs.AnswerLemmas.{any-whole, answers_kept}
use Rattle.nq_moves.proofs.RecursionLemmas.{holds-Variable, holds-Function, holds-numeral, holds_spreads}
use Rattle.nq_moves.proofs.recursion.+holds_within.Goals as goal

pub returns-in-Var-clause-ok : goal.returns-in-Var-clause-ok
returns-in-Var-clause-ok t c =
    let h : History = events_at c.args.bank.now c.args.history.now in
    holds-Variable h _ ∙ ap (holds_recursive h) (sym c.in-Var.ensures.head.1)

pub returns-in-Num-clause-ok : goal.returns-in-Num-clause-ok
returns-in-Num-clause-ok t c =
    let h : History = events_at c.args.bank.now c.args.history.now in
    c.is_recursive.ensures ∙ ap (is_recursive h) c.ground_name.ensures.reads ∙ sym (holds-numeral h c.in-Num.field-0) ∙ ap (holds_recursive h) (sym c.in-Num.ensures.head.1)

pub returns-in-Some-clause-ok : goal.returns-in-Some-clause-ok
returns-in-Some-clause-ok t c = c.requires.answers.right c.args.t c.in-Some.answer (sym c.known_answer.ensures ∙ c.in-Some.is)

pub returns-in_ok-keep_answer-in-None-clause-ok : goal.returns-in_ok-keep_answer-in-None-clause-ok
returns-in_ok-keep_answer-in-None-clause-ok t c =
    let bank : Content = c.args.bank.now in
    let h : History = events_at bank c.args.history.now in
    any-whole bank (holds_recursive h) (holds_spreads h) (term_at bank c.args.t) (text_at bank c.in-App.f) c.args-a-items.result.now c.loop-a.a-index c.is_recursive-answer.result c.loop-a.answer (c.is_recursive-answer.ensures ∙ holds-Function h (text_at bank c.in-App.f)) c.in-App.ensures.head.1 c.args-a-items.ensures.parts c.loop-a-test.false c.loop-a.invariant.so_far

pub returns-in_ok-keep_answer-in-None-clause-answers : goal.returns-in_ok-keep_answer-in-None-clause-answers
returns-in_ok-keep_answer-in-None-clause-answers t c =
    let bank : Content = c.args.bank.now in
    let h : History = events_at bank c.args.history.now in
    let whole = any-whole bank (holds_recursive h) (holds_spreads h) (term_at bank c.args.t) (text_at bank c.in-App.f) c.args-a-items.result.now c.loop-a.a-index c.is_recursive-answer.result c.loop-a.answer (c.is_recursive-answer.ensures ∙ holds-Function h (text_at bank c.in-App.f)) c.in-App.ensures.head.1 c.args-a-items.ensures.parts c.loop-a-test.false c.loop-a.invariant.so_far in
    answers_kept bank (holds_recursive h) c.loop-a.known c.keep_answer.new.known c.args.t c.loop-a.answer c.loop-a.invariant.answers c.in_ok-keep_answer-in-None.ensures whole
