use Rattle.std.proofs.Common.{◌∙◌, sym, ap}
use Rattle.nq_bank.specs.declared.node.TermId.{TermId}
use Rattle.nq_bank.specs.Content.{text_at, term_at, terms_at}
use Rattle.nq_history.specs.Events.{events_at}
use Rattle.nq_events.specs.Inductions.{suggests_induction}
use Rattle.nq_normal.specs.Suggesting.{has_suggesting}
use Rattle.nq_normal.proofs.SuggestingLemmas.{suggesting_variable, suggesting_start, suggesting_more, suggesting_all, suggestions_kept}
use Rattle.nq_normal.proofs.NumeralLemmas.{numeral_none, numeral_some}
use Rattle.nq_normal.proofs.suggesting.+has_suggesting.Goals as goal

pub loop-a-preserved : goal.loop-a-preserved
loop-a-preserved t c =
    let first : TermId = record { 0 = 0 } in
    let bank = c.args.bank.now in
    let h = events_at bank c.args.history.now in
    record {
      so_far = c.is_either-answer.ensures ∙ suggesting_more h bank.terms c.args-a-items.result.now c.loop-a.a-index first (suggests_induction h (term_at bank c.args.t)) c.loop-a.answer c.in_ok-here-in-None.here c.loop-a-test.true c.loop-a.invariant.so_far c.in_ok-here-in-None.ensures.ok;
      answers = c.in_ok-here-in-None.ensures.answers;
    }

pub returns-in-Var-clause-ok : goal.returns-in-Var-clause-ok
returns-in-Var-clause-ok t c =
    let h = events_at c.args.bank.now c.args.history.now in
    sym (ap (has_suggesting h) c.in-Var.ensures.head.1 ∙ suggesting_variable h (text_at c.args.bank.now c.in-Var.field-0))

pub returns-then-n-eq0-clause-ok : goal.returns-then-n-eq0-clause-ok
returns-then-n-eq0-clause-ok t c =
    let h = events_at c.args.bank.now c.args.history.now in
    numeral_none h c.args.numerals c.in-Num.n (term_at c.args.bank.now c.args.t) c.requires.numerals c.in-Num.ensures.head.1 c.if-n-eq0.true

pub returns-else-n-eq0-clause-ok : goal.returns-else-n-eq0-clause-ok
returns-else-n-eq0-clause-ok t c =
    let h = events_at c.args.bank.now c.args.history.now in
    numeral_some h c.args.numerals c.in-Num.n (term_at c.args.bank.now c.args.t) c.requires.numerals c.in-Num.ensures.head.1 c.if-n-eq0.false

pub returns-in-Some-clause-ok : goal.returns-in-Some-clause-ok
returns-in-Some-clause-ok t c =
    c.requires.answers.right c.args.t c.in-Some.answer (sym c.known_answer.ensures ∙ c.in-Some.is)

pub returns-in_ok-keep_answer-in-None-clause-ok : goal.returns-in_ok-keep_answer-in-None-clause-ok
returns-in_ok-keep_answer-in-None-clause-ok t c =
    suggesting_all (events_at c.args.bank.now c.args.history.now) c.args.bank.now (term_at c.args.bank.now c.args.t) (text_at c.args.bank.now c.in-App.f) c.args-a-items.result.now c.loop-a.a-index c.loop-a.answer c.in-App.ensures.head.1 c.args-a-items.ensures.parts c.loop-a-test.false c.loop-a.invariant.so_far

pub returns-in_ok-keep_answer-in-None-clause-answers : goal.returns-in_ok-keep_answer-in-None-clause-answers
returns-in_ok-keep_answer-in-None-clause-answers t c =
    let h = events_at c.args.bank.now c.args.history.now in
    let whole = suggesting_all h c.args.bank.now (term_at c.args.bank.now c.args.t) (text_at c.args.bank.now c.in-App.f) c.args-a-items.result.now c.loop-a.a-index c.loop-a.answer c.in-App.ensures.head.1 c.args-a-items.ensures.parts c.loop-a-test.false c.loop-a.invariant.so_far in
    suggestions_kept h c.args.bank.now c.loop-a.known c.keep_answer.new.known c.args.t c.loop-a.answer c.loop-a.invariant.answers c.in_ok-keep_answer-in-None.ensures whole

pub loop-a-init : goal.loop-a-init
loop-a-init t c =
    let h = events_at c.args.bank.now c.args.history.now in
    record {
      so_far =
          suggesting_start h (term_at c.args.bank.now c.args.t) (text_at c.args.bank.now c.in-App.f) (terms_at c.args.bank.now c.args-in-None.result.now) c.in_ok-answer-in-None.answer c.in-App.ensures.head.1 c.in-App.ensures.head.3
          c.args-in-None.ensures.parts c.in_ok-answer-in-None.ensures;
      answers = c.requires.answers;
    }
