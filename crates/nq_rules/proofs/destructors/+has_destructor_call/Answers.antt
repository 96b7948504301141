use Rattle.std.proofs.Common.{true, false, sym, ap, ◌∙◌}
use Rattle.nq_bank.specs.declared.node.TermId.{TermId}
use Rattle.nq_bank.specs.Content.{text_at, term_at}
use Rattle.nq_rules.proofs.AnyLemmas.{any_here, none_passes}
use Rattle.nq_rules.proofs.DestructorLemmas.{holds, holds_here, holds_within, holds_numeral}
use Rattle.nq_rules.proofs.destructors.+has_destructor_call.Goals as goal

pub returns-then-are_of_destructor : goal.returns-then-are_of_destructor
returns-then-are_of_destructor t c =
    let bank = c.args.bank.now in
    let x = text_at bank c.args.x in
    holds_here bank x (text_at bank c.in-App.field-0) (term_at bank c.args.t) c.args-arguments.result.now c.in-App.ensures.head.1 c.args-arguments.ensures.parts
    c.are_of_destructor.result c.are_of_destructor.ensures c.if-are_of_destructor.true

pub returns-then-has_destructor_call : goal.returns-then-has_destructor_call
returns-then-has_destructor_call t c =
    let bank = c.args.bank.now in
    let x = text_at bank c.args.x in
    let first : TermId = record { 0 = 0 } in
    holds_within bank x (text_at bank c.in-App.field-0) (term_at bank c.args.t) c.args-arguments.result.now c.in-App.ensures.head.1 c.args-arguments.ensures.parts
    c.are_of_destructor.result true c.are_of_destructor.ensures c.if-are_of_destructor.false
    (any_here (holds x) bank c.args-arguments.result.now c.loop-a.a-index first c.loop-a-test.true (sym (c.if-has_destructor_call.ensures)) c.loop-a.invariant)

pub returns-in-Num : goal.returns-in-Num
returns-in-Num t c =
    let x = text_at c.args.bank.now c.args.x in
    sym (ap (holds x) c.in-Num.ensures.head.1 ∙ holds_numeral x c.in-Num.field-0)

pub returns-after-loop-a : goal.returns-after-loop-a
returns-after-loop-a t c =
    let bank = c.args.bank.now in
    let x = text_at bank c.args.x in
    holds_within bank x (text_at bank c.in-App.field-0) (term_at bank c.args.t) c.args-arguments.result.now c.in-App.ensures.head.1 c.args-arguments.ensures.parts
    c.are_of_destructor.result false c.are_of_destructor.ensures c.if-are_of_destructor.false
    (none_passes (holds x) bank c.args-arguments.result.now c.loop-a.a-index c.loop-a-test.false c.loop-a.invariant)
