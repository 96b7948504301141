use Rattle.std.proofs.Common.{◌≡◌, ◌∙◌, sym, ap, subst}
use Rattle.std.specs.Prelude.{IfOk}
use Rattle.nq_bank.specs.declared.node.TermId.{TermId}
use Rattle.nq_bank.specs.Content.{text_at, term_at}
use Rattle.nq_normal.specs.Sought.{seeks, has_open}
use Rattle.nq_normal.proofs.Walks.{open_value, open_variable, open_numeral, any_more, any_all, answers_kept}
use Rattle.nq_normal.proofs.open.+has_open.Goals as goal

pub returns-then-is_value-clause-ok : goal.returns-then-is_value-clause-ok
returns-then-is_value-clause-ok t c =
    sym (open_value (seeks c.args.bank.now c.args.sought.now) (term_at c.args.bank.now c.args.t) (sym c.is_value.ensures ∙ c.if-is_value.true))

pub returns-in-Var-clause-ok : goal.returns-in-Var-clause-ok
returns-in-Var-clause-ok t c =
    let bank = c.args.bank.now in
    let test = seeks bank c.args.sought.now in
    subst (λ v. IfOk c.is_sought.result (λ answer. answer ≡ v))
    (sym (open_variable test (term_at bank c.args.t) (text_at bank c.in-Var.field-0) (sym c.is_value.ensures ∙ c.if-is_value.false) c.in-Var.ensures.head.1)) c.is_sought.ensures

pub loop-a-preserved : goal.loop-a-preserved
loop-a-preserved t c =
    let first : TermId = record { 0 = 0 } in
    let test = seeks c.args.bank.now c.args.sought.now in
    record {
      so_far = c.is_either-answer.ensures ∙ any_more test c.args.bank.now.terms c.args-a-items.result.now c.loop-a.a-index first (test (term_at c.args.bank.now c.args.t)) c.loop-a.answer c.in_ok-here-in-None.here c.loop-a-test.true c.loop-a.invariant.so_far c.in_ok-here-in-None.ensures.ok;
      answers = c.in_ok-here-in-None.ensures.answers;
    }

pub returns-in-Num-clause-ok : goal.returns-in-Num-clause-ok
returns-in-Num-clause-ok t c =
    let test = seeks c.args.bank.now c.args.sought.now in
    sym (ap (has_open test) c.in-Num.ensures.head.1 ∙ open_numeral test c.in-Num.field-0 c.in-Num.ensures.head.0)

pub returns-in-Some-clause-ok : goal.returns-in-Some-clause-ok
returns-in-Some-clause-ok t c =
    c.requires.answers.right c.args.t c.in-Some.answer (sym c.known_answer.ensures ∙ c.in-Some.is)

pub returns-in_ok-keep_answer-in-None-clause-ok : goal.returns-in_ok-keep_answer-in-None-clause-ok
returns-in_ok-keep_answer-in-None-clause-ok t c =
    any_all (seeks c.args.bank.now c.args.sought.now) c.args.bank.now (term_at c.args.bank.now c.args.t) (text_at c.args.bank.now c.in-App.field-0) c.args-a-items.result.now c.loop-a.a-index c.loop-a.answer (sym c.is_value.ensures ∙ c.if-is_value.false) c.in-App.ensures.head.1 c.args-a-items.ensures.parts c.loop-a-test.false c.loop-a.invariant.so_far

pub returns-in_ok-keep_answer-in-None-clause-answers : goal.returns-in_ok-keep_answer-in-None-clause-answers
returns-in_ok-keep_answer-in-None-clause-answers t c =
    let test = seeks c.args.bank.now c.args.sought.now in
    let whole = any_all test c.args.bank.now (term_at c.args.bank.now c.args.t) (text_at c.args.bank.now c.in-App.field-0) c.args-a-items.result.now c.loop-a.a-index c.loop-a.answer (sym c.is_value.ensures ∙ c.if-is_value.false) c.in-App.ensures.head.1 c.args-a-items.ensures.parts c.loop-a-test.false c.loop-a.invariant.so_far in
    answers_kept test c.args.bank.now c.loop-a.known c.keep_answer.new.known c.args.t c.loop-a.answer c.loop-a.invariant.answers c.in_ok-keep_answer-in-None.ensures whole
