use Rattle.std.proofs.Common.{◌≡◌, ◌∙◌, sym, ap, Bool, false, ℕ, List}
use Rattle.nq_logic.specs.Terms.{Term}
use Rattle.nq_bank.specs.declared.node.TermId.{TermId}
use Rattle.nq_bank.specs.Content.{Content, text_at, term_at}
use Rattle.nq_bank.specs.Parts.{occurs}
use Rattle.nq_rule.proofs.Made.{for_ok}
use Rattle.nq_goals.specs.Dropping.{shares}
use Rattle.nq_moves.proofs.AnswerLemmas.{any-more, any-whole, answers_kept}
use Rattle.nq_moves.proofs.SharingLemmas.{shares-Variable, shares-Function, shares-numeral, shares_spreads}
use Rattle.nq_moves.proofs.sharing.+shares_within.Goals as goal

pub loop-a-preserved : goal.loop-a-preserved
loop-a-preserved t c =
    let first : TermId = record { 0 = 0 } in
    let test : Term → Bool = λ x. shares x (term_at c.args.bank.now c.args.u) in
    record {
      so_far = any-more test false c.args.bank.now.terms c.args-a-items.result.now c.loop-a.a-index first c.loop-a.answer c.in_ok-here-in-None.here c.is_either-answer.result c.loop-a-test.true c.loop-a.invariant.so_far c.in_ok-here-in-None.ensures.ok c.is_either-answer.ensures;
      answers = c.in_ok-here-in-None.ensures.answers;
    }

pub returns-in-Var-clause-ok : goal.returns-in-Var-clause-ok
returns-in-Var-clause-ok t c =
    let bank : Content = c.args.bank.now in
    let x : List ℕ = text_at bank c.in-Var.s in
    let u : Term = term_at bank c.args.u in
    for_ok c.occurs_in.result (λ answer. answer ≡ occurs x u) (λ answer. answer ≡ shares (term_at bank c.args.t) u) (λ answer is. is ∙ sym (shares-Variable x u) ∙ ap (λ y. shares y u) (sym c.in-Var.ensures.head.1)) c.occurs_in.ensures

pub returns-in-Num-clause-ok : goal.returns-in-Num-clause-ok
returns-in-Num-clause-ok t c =
    let u : Term = term_at c.args.bank.now c.args.u in
    sym (ap (λ x. shares x u) c.in-Num.ensures.head.1 ∙ shares-numeral u c.in-Num.field-0)

pub returns-in_ok-keep_answer-in-None-clause-ok : goal.returns-in_ok-keep_answer-in-None-clause-ok
returns-in_ok-keep_answer-in-None-clause-ok t c =
    let bank : Content = c.args.bank.now in
    let u : Term = term_at bank c.args.u in
    any-whole bank (λ x. shares x u) (shares_spreads u) (term_at bank c.args.t) (text_at bank c.in-App.field-0) c.args-a-items.result.now c.loop-a.a-index false c.loop-a.answer (shares-Function (text_at bank c.in-App.field-0) u) c.in-App.ensures.head.1 c.args-a-items.ensures.parts c.loop-a-test.false c.loop-a.invariant.so_far

pub returns-in_ok-keep_answer-in-None-clause-answers : goal.returns-in_ok-keep_answer-in-None-clause-answers
returns-in_ok-keep_answer-in-None-clause-answers t c =
    let bank : Content = c.args.bank.now in
    let u : Term = term_at bank c.args.u in
    let whole = any-whole bank (λ x. shares x u) (shares_spreads u) (term_at bank c.args.t) (text_at bank c.in-App.field-0) c.args-a-items.result.now c.loop-a.a-index false c.loop-a.answer (shares-Function (text_at bank c.in-App.field-0) u) c.in-App.ensures.head.1 c.args-a-items.ensures.parts c.loop-a-test.false c.loop-a.invariant.so_far in
    answers_kept bank (λ x. shares x u) c.loop-a.known c.keep_answer.new.known c.args.t c.loop-a.answer c.loop-a.invariant.answers c.in_ok-keep_answer-in-None.ensures whole
