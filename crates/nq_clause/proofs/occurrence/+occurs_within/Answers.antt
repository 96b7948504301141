use Rattle.std.proofs.Common.{◌∙◌, sym, ap, ℕ, List}
use Rattle.nq_bank.specs.declared.node.TermId.{TermId}
use Rattle.nq_bank.specs.Parts.{occurs}
use Rattle.nq_bank.specs.Content.{text_at, term_at}
use Rattle.nq_clause.proofs.OccurrenceLemmas.{occurs-whole, occurs-numeral, occurs-Variable, occurs_in_any-more, answers_kept}
use Rattle.nq_clause.proofs.occurrence.+occurs_within.Goals as goal

pub loop-a-preserved : goal.loop-a-preserved
loop-a-preserved t c =
    let first : TermId = record { 0 = 0 } in
    record {
      so_far = c.is_either-answer.ensures ∙ occurs_in_any-more (text_at c.args.bank.now c.args.variable) c.args.bank.now.terms c.args-a-items.result.now c.loop-a.a-index first c.loop-a.answer c.in_ok-here-in-None.here c.loop-a-test.true c.loop-a.invariant.so_far c.in_ok-here-in-None.ensures.ok;
      answers = c.in_ok-here-in-None.ensures.answers;
    }

pub returns-in-Var-clause-ok : goal.returns-in-Var-clause-ok
returns-in-Var-clause-ok t c =
    let x : List ℕ = text_at c.args.bank.now c.args.variable in
    c.is_same_name.ensures ∙ sym (occurs-Variable x (text_at c.args.bank.now c.in-Var.s)) ∙ ap (occurs x) (sym c.in-Var.ensures.head.1)

pub returns-in-Num-clause-ok : goal.returns-in-Num-clause-ok
returns-in-Num-clause-ok t c =
    let x : List ℕ = text_at c.args.bank.now c.args.variable in
    sym (ap (occurs x) c.in-Num.ensures.head.1 ∙ occurs-numeral x c.in-Num.field-0)

pub returns-in_ok-keep_answer-in-None-clause-ok : goal.returns-in_ok-keep_answer-in-None-clause-ok
returns-in_ok-keep_answer-in-None-clause-ok t c =
    let x : List ℕ = text_at c.args.bank.now c.args.variable in
    occurs-whole c.args.bank.now x (term_at c.args.bank.now c.args.t) (text_at c.args.bank.now c.in-App.field-0) c.args-a-items.result.now c.loop-a.a-index c.loop-a.answer c.in-App.ensures.head.1 c.args-a-items.ensures.parts c.loop-a-test.false c.loop-a.invariant.so_far

pub returns-in_ok-keep_answer-in-None-clause-answers : goal.returns-in_ok-keep_answer-in-None-clause-answers
returns-in_ok-keep_answer-in-None-clause-answers t c =
    let x : List ℕ = text_at c.args.bank.now c.args.variable in
    let whole = occurs-whole c.args.bank.now x (term_at c.args.bank.now c.args.t) (text_at c.args.bank.now c.in-App.field-0) c.args-a-items.result.now c.loop-a.a-index c.loop-a.answer c.in-App.ensures.head.1 c.args-a-items.ensures.parts c.loop-a-test.false c.loop-a.invariant.so_far in
    answers_kept c.args.bank.now x c.loop-a.known c.keep_answer.new.known c.args.t c.loop-a.answer c.loop-a.invariant.answers c.in_ok-keep_answer-in-None.ensures whole
