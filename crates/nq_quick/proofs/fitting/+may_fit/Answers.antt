use Rattle.std.proofs.Common.{sym, ◌∙◌, arith}
use Rattle.nq_bank.specs.declared.node.TermId.{TermId}
use Rattle.nq_bank.specs.Content.{text_at}
use Rattle.nq_bank.proofs.Texts.{eq-bytes_eq}
use Rattle.nq_clause.proofs.InstanceLemmas.{false_true}
use Rattle.nq_quick.proofs.FittingLemmas.{other_numeral, other_variable, other_function, other_count, other_argument}
use Rattle.nq_quick.proofs.fitting.+may_fit.Goals as goal

pub returns-then-not-is_same_name : goal.returns-then-not-is_same_name
returns-then-not-is_same_name t c =
    let f = text_at c.args.bank.now c.in-App.f in
    let g = text_at c.args.bank.now c.in-App-node.g in
    λ none. other_function c.args.bank.now c.args.pattern c.args.t f g c.in-App.ensures.head.1 c.in-App-node.ensures.head.1 (λ e. false_true (sym c.if-not-is_same_name.true ∙ c.is_same_name.ensures ∙ eq-bytes_eq f g e))

pub returns-then-patterns-arguments : goal.returns-then-patterns-arguments
returns-then-patterns-arguments t c =
    let f = text_at c.args.bank.now c.in-App.f in
    let g = text_at c.args.bank.now c.in-App-node.g in
    λ none. other_count c.args.bank.now c.args.pattern c.args.t f g c.args-patterns.result.now c.args-arguments.result.now c.in-App.ensures.head.1 c.in-App-node.ensures.head.1 c.args-patterns.ensures.parts c.args-arguments.ensures.parts c.if-patterns-arguments.true

pub returns-then-not-may_fit : goal.returns-then-not-may_fit
returns-then-not-may_fit t c =
    let first : TermId = record { 0 = 0 } in
    let f = text_at c.args.bank.now c.in-App.f in
    let g = text_at c.args.bank.now c.in-App-node.g in
    λ none. other_argument c.args.bank.now c.args.pattern c.args.t f g c.args-patterns.result.now c.args-arguments.result.now c.in-App.ensures.head.1 c.in-App-node.ensures.head.1 c.args-patterns.ensures.parts c.args-arguments.ensures.parts
    c.loop-i.i first c.loop-i-test.true (omega (arith, c.if-patterns-arguments.false, c.loop-i-test.true)) (c.may_fit.ensures c.if-not-may_fit.true)

pub returns-in-Num : goal.returns-in-Num
returns-in-Num t c = λ none. other_numeral c.args.bank.now c.args.pattern c.args.t c.in-Num.field-0 c.in-Num.ensures.head.1 c.in-Num.ensures.only c.requires.term c.if-pattern-t.false

pub returns-in-Var-node : goal.returns-in-Var-node
returns-in-Var-node t c = λ none. other_variable c.args.bank.now c.args.pattern c.args.t (text_at c.args.bank.now c.in-App.f) (text_at c.args.bank.now c.in-Var-node.field-0) c.in-App.ensures.head.1 c.in-Var-node.ensures.head.1
