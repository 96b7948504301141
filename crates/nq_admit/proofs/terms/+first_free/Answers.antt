use Rattle.std.proofs.Common.{◌∙◌, sym, ap}
use Rattle.nq_logic.specs.RuleShapes.{variables_of}
use Rattle.nq_logic.specs.ShellPrinciple.{first_outside}
use Rattle.nq_bank.specs.declared.node.TermId.{TermId}
use Rattle.nq_bank.specs.Content.{text_at, term_at}
use Rattle.nq_bank.specs.Shells.{texts_at}
use Rattle.nq_admit.proofs.TermLemmas.{variables-numeral, outside_here, none_here, none_left, call_told}
use Rattle.nq_admit.proofs.terms.+first_free.Goals as goal

pub returns-in-Some-clause-is : goal.returns-in-Some-clause-is
returns-in-Some-clause-is t c =
    let first : TermId = record { 0 = 0 } in
    λ names is.
    let known = texts_at c.args.bank.now names in
    outside_here known c.args.bank.now c.args-a-items.result.now c.loop-a.a-index first (text_at c.args.bank.now c.in-Some.s) c.loop-a-test.true (c.in-Some.ensures.is names is) (c.loop-a.invariant names is) ∙
    call_told known c.args.bank.now c.args-a-items.result.now (text_at c.args.bank.now c.in-App.field-0) (term_at c.args.bank.now c.args.t) c.in-App.ensures.head.1 c.args-a-items.ensures.parts

pub loop-a-preserved : goal.loop-a-preserved
loop-a-preserved t c =
    let first : TermId = record { 0 = 0 } in
    λ names is.
    none_here (texts_at c.args.bank.now names) c.args.bank.now c.args-a-items.result.now c.loop-a.a-index first c.loop-a-test.true (c.in_default.ensures.is names is) (c.loop-a.invariant names is)

pub returns-in-Num-clause-is : goal.returns-in-Num-clause-is
returns-in-Num-clause-is t c =
    λ names is.
    let known = texts_at c.args.bank.now names in
    sym (ap (λ u. first_outside known (variables_of u)) c.in-Num.ensures.head.1 ∙ ap (first_outside known) (variables-numeral c.in-Num.field-0))

pub returns-after-loop-a-clause-is : goal.returns-after-loop-a-clause-is
returns-after-loop-a-clause-is t c =
    λ names is.
    let known = texts_at c.args.bank.now names in
    none_left known c.args.bank.now c.args-a-items.result.now c.loop-a.a-index c.loop-a-test.false (c.loop-a.invariant names is) ∙
    call_told known c.args.bank.now c.args-a-items.result.now (text_at c.args.bank.now c.in-App.field-0) (term_at c.args.bank.now c.args.t) c.in-App.ensures.head.1 c.args-a-items.ensures.parts
