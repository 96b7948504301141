use Rattle.std.proofs.Common.{sym, ap, ◌∙◌, true}
use Rattle.std.proofs.lemmas.List.{at_drop_all}
use Rattle.nq_bank.specs.Content.{text_at, term_at, terms_at}
use Rattle.nq_evaluated.specs.Ground.{is_ground}
use Rattle.nq_evaluated.proofs.GroundLemmas.{are_ground, answers_kept, ground_call, ground_numeral}
use Rattle.nq_evaluated.proofs.ground.+is_ground_within.Goals as goal

pub returns-in-Num-clause-ok : goal.returns-in-Num-clause-ok
returns-in-Num-clause-ok t c = sym (ap is_ground c.in-Num.ensures.head.1 ∙ ground_numeral c.in-Num.field-0)

pub loop-a-init : goal.loop-a-init
loop-a-init t c =
    let bank = c.args.bank.now in
    record {
      so_far = ground_call bank (term_at bank c.args.t) (text_at bank c.in-App.field-0) c.args-a-items.result.now c.in-App.ensures.head.1 c.args-a-items.ensures.parts;
      answers = c.requires.answers;
    }

pub returns-in_ok-keep_answer-in-None-clause-answers : goal.returns-in_ok-keep_answer-in-None-clause-answers
returns-in_ok-keep_answer-in-None-clause-answers t c =
    let bank = c.args.bank.now in
    answers_kept bank c.loop-a.known c.keep_answer.new.known c.args.t true c.loop-a.invariant.answers c.in_ok-keep_answer-in-None.ensures
    (sym (at_drop_all (λ l. are_ground (terms_at bank l)) c.args-a-items.result.now c.loop-a.a-index c.loop-a-test.false) ∙ sym c.loop-a.invariant.so_far)
