use Rattle.std.proofs.Common.{◌∙◌, sym, ap}
use Rattle.nq_logic.specs.Admissible.{has_variables}
use Rattle.nq_bank.specs.declared.node.TermId.{TermId}
use Rattle.nq_bank.specs.Content.{text_at, term_at}
use Rattle.nq_normal.specs.Variables.{owned}
use Rattle.nq_normal.proofs.OwnLemmas.{own_numeral, own_more, own_whole, own_kept}
use Rattle.nq_normal.proofs.variables.+has_own.Goals as goal

pub loop-a-preserved : goal.loop-a-preserved
loop-a-preserved t c =
    let first : TermId = record { 0 = 0 } in
    let bank = c.args.bank.now in
    record {
      so_far = c.is_both-answer.ensures ∙ own_more (owned bank c.args.owner) bank.terms c.args-a-items.result.now c.loop-a.a-index first c.loop-a.answer c.in_ok-here-in-None.here c.loop-a-test.true c.loop-a.invariant.so_far c.in_ok-here-in-None.ensures.ok;
      answers = c.in_ok-here-in-None.ensures.answers;
    }

pub returns-in-Num-clause-ok : goal.returns-in-Num-clause-ok
returns-in-Num-clause-ok t c =
    let xs = owned c.args.bank.now c.args.owner in
    sym (ap (has_variables xs) c.in-Num.ensures.head.1 ∙ own_numeral xs c.in-Num.field-0)

pub returns-in-Some-clause-ok : goal.returns-in-Some-clause-ok
returns-in-Some-clause-ok t c =
    c.requires.answers.right c.args.t c.in-Some.answer (sym c.known_answer.ensures ∙ c.in-Some.is)

pub returns-in_ok-keep_answer-in-None-clause-ok : goal.returns-in_ok-keep_answer-in-None-clause-ok
returns-in_ok-keep_answer-in-None-clause-ok t c =
    own_whole (owned c.args.bank.now c.args.owner) c.args.bank.now (term_at c.args.bank.now c.args.t) (text_at c.args.bank.now c.in-App.field-0) c.args-a-items.result.now c.loop-a.a-index c.loop-a.answer c.in-App.ensures.head.1 c.args-a-items.ensures.parts c.loop-a-test.false c.loop-a.invariant.so_far

pub returns-in_ok-keep_answer-in-None-clause-answers : goal.returns-in_ok-keep_answer-in-None-clause-answers
returns-in_ok-keep_answer-in-None-clause-answers t c =
    let owner = owned c.args.bank.now c.args.owner in
    let whole = own_whole owner c.args.bank.now (term_at c.args.bank.now c.args.t) (text_at c.args.bank.now c.in-App.field-0) c.args-a-items.result.now c.loop-a.a-index c.loop-a.answer c.in-App.ensures.head.1 c.args-a-items.ensures.parts c.loop-a-test.false c.loop-a.invariant.so_far in
    own_kept c.args.bank.now owner c.loop-a.known c.keep_answer.new.known c.args.t c.loop-a.answer c.loop-a.invariant.answers c.in_ok-keep_answer-in-None.ensures whole
