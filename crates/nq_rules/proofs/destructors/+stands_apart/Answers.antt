use Rattle.std.proofs.Common.{true, false, sym, ap, ◌∙◌}
use Rattle.nq_bank.specs.declared.node.TermId.{TermId}
use Rattle.nq_bank.specs.Content.{text_at, term_at}
use Rattle.nq_rules.proofs.AnyLemmas.{any_here, none_passes}
use Rattle.nq_rules.proofs.DestructorLemmas.{apart, apart_nowhere, apart_within, apart_numeral}
use Rattle.nq_rules.proofs.destructors.+stands_apart.Goals as goal

pub returns-then-are_of_destructor : goal.returns-then-are_of_destructor
returns-then-are_of_destructor t c =
    let bank = c.args.bank.now in
    let x = text_at bank c.args.x in
    apart_nowhere bank x (text_at bank c.in-App.field-0) (term_at bank c.args.t) c.args-arguments.result.now c.in-App.ensures.head.1 c.args-arguments.ensures.parts
    c.are_of_destructor.result c.are_of_destructor.ensures c.if-are_of_destructor.true

pub returns-then-stands_apart : goal.returns-then-stands_apart
returns-then-stands_apart t c =
    let bank = c.args.bank.now in
    let x = text_at bank c.args.x in
    let first : TermId = record { 0 = 0 } in
    apart_within bank x (text_at bank c.in-App.field-0) (term_at bank c.args.t) c.args-arguments.result.now c.in-App.ensures.head.1 c.args-arguments.ensures.parts
    c.are_of_destructor.result true c.are_of_destructor.ensures c.if-are_of_destructor.false
    (any_here (apart x) bank c.args-arguments.result.now c.loop-a.a-index first c.loop-a-test.true (sym c.if-stands_apart.ensures) c.loop-a.invariant)

pub returns-in-Num : goal.returns-in-Num
returns-in-Num t c =
    let x = text_at c.args.bank.now c.args.x in
    sym (ap (apart x) c.in-Num.ensures.head.1 ∙ apart_numeral x c.in-Num.field-0)

pub returns-after-loop-a : goal.returns-after-loop-a
returns-after-loop-a t c =
    let bank = c.args.bank.now in
    let x = text_at bank c.args.x in
    apart_within bank x (text_at bank c.in-App.field-0) (term_at bank c.args.t) c.args-arguments.result.now c.in-App.ensures.head.1 c.args-arguments.ensures.parts
    c.are_of_destructor.result false c.are_of_destructor.ensures c.if-are_of_destructor.false
    (none_passes (apart x) bank c.args-arguments.result.now c.loop-a.a-index c.loop-a-test.false c.loop-a.invariant)
