use Rattle.std.proofs.Common.{[], refl}
use Rattle.nq_bank.specs.declared.node.TermId.{TermId}
use Rattle.nq_bank.specs.Content.{text_at, term_at, terms_at}
use Rattle.nq_moves.specs.Naming.{occurs_in_one}
use Rattle.nq_moves.proofs.UsedLemmas.{variable_added, numeral_added, known_added, none_added, one_more_added, call_added, known_still, known_kept}
use Rattle.nq_moves.proofs.used_names.+add_names.Goals as goal

pub loop-a-init : goal.loop-a-init
loop-a-init t c =
    record {
      adds = none_added c.args.bank.now c.args.names.now (λ x. occurs_in_one x (terms_at c.args.bank.now [])) (λ x. refl);
      known = c.requires.known;
      named = c.requires.named;
    }

pub loop-a-preserved : goal.loop-a-preserved
loop-a-preserved t c =
    let first : TermId = record { 0 = 0 } in
    let step = c.in_ok-add_names-in-None.ensures in
    record {
      adds = one_more_added c.args.bank.now c.args.names.now c.loop-a.names c.add_names.new.names c.args-a-items.result.now c.loop-a.a-index first c.loop-a-test.true c.loop-a.invariant.adds step.adds;
      known = step.known;
      named = step.named;
    }

pub returns-in_ok-keep_name-in-Var-clause-adds : goal.returns-in_ok-keep_name-in-Var-clause-adds
returns-in_ok-keep_name-in-Var-clause-adds t c =
    let bank = c.args.bank.now in
    variable_added bank c.args.names.now c.keep_name.new.names (term_at bank c.args.t) (text_at bank c.in-Var.s) c.in-Var.ensures.head.1 c.in_ok-keep_name-in-Var.ensures.adds

pub returns-in_ok-keep_name-in-Var-clause-known : goal.returns-in_ok-keep_name-in-Var-clause-known
returns-in_ok-keep_name-in-Var-clause-known t c =
    let bank = c.args.bank.now in
    known_still bank c.args.known.now c.args.names.now c.keep_name.new.names _ c.requires.known c.in_ok-keep_name-in-Var.ensures.adds

pub returns-in-Num-clause-adds : goal.returns-in-Num-clause-adds
returns-in-Num-clause-adds t c = numeral_added c.args.bank.now c.args.names.now (term_at c.args.bank.now c.args.t) c.in-Num.field-0 c.in-Num.ensures.head.1

pub returns-in_ok-keep_answer-in-None-clause-adds : goal.returns-in_ok-keep_answer-in-None-clause-adds
returns-in_ok-keep_answer-in-None-clause-adds t c =
    let bank = c.args.bank.now in
    call_added bank c.args.names.now c.loop-a.names c.args.t (text_at bank c.in-App.field-0) c.args-a-items.result.now c.loop-a.a-index c.in-App.ensures.head.1 c.args-a-items.ensures.parts c.loop-a-test.false
    c.loop-a.invariant.adds

pub returns-in_ok-keep_answer-in-None-clause-known : goal.returns-in_ok-keep_answer-in-None-clause-known
returns-in_ok-keep_answer-in-None-clause-known t c =
    let bank = c.args.bank.now in
    known_kept bank c.loop-a.known c.keep_answer.new.known c.args.names.now c.loop-a.names c.args.t c.loop-a.invariant.known c.in_ok-keep_answer-in-None.ensures
    (call_added bank c.args.names.now c.loop-a.names c.args.t (text_at bank c.in-App.field-0) c.args-a-items.result.now c.loop-a.a-index c.in-App.ensures.head.1 c.args-a-items.ensures.parts c.loop-a-test.false
    c.loop-a.invariant.adds)
