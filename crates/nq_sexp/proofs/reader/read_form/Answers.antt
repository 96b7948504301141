use Rattle.std.proofs.Common.{ℕ, sym, ap, subst, ◌∙◌, arith}
use Rattle.std.specs.Prelude.{Option}
use Rattle.std.proofs.lemmas.Result.{err_from_is_err_and}
use Rattle.nq_form.specs.Machine.{outer_of}
use Rattle.nq_sexp.specs.Stacks.{stack_of, StopsAs}
use Rattle.nq_sexp.specs.Modes.{mode_of, stepped}
use Rattle.nq_sexp.proofs.Parsing.{Parsing, parsing-start, parsing-settled, settled-found, settled-kept, settled-stepped, stepped-found, stepped-kept, stepped-parsing, start-met, stepped-met, settle-met, step-met, finish-met, finish-none, settled-levels, settled-nested, ready-whole_word}
use Rattle.nq_sexp.proofs.reader.read_form.Goals as goal

pub returns-in_err-next-clause-fault : goal.returns-in_err-next-clause-fault
returns-in_err-next-clause-fault g c =
    let p = err_from_is_err_and c.from_residual.result c.from_residual.ensures.1 in
    rw (p.1, p.2) (start-met g.S.Source.left _ _ _ _ _ c.in_err-next.ensures.taken c.in_err-next.ensures.fault)

pub loop-next-init : goal.loop-next-init
loop-next-init g c = (parsing-start g.S.Source.left _ _ _ _ _ _ _ c.in_ok-next.ensures.taken c.in_ok-next.ensures.next c.new-stack.ensures c.idle-mode.ensures, c.in_ok-next.ensures.later)

pub returns-in_err-mode-clause-fault : goal.returns-in_err-mode-clause-fault
returns-in_err-mode-clause-fault g c =
    let left = g.S.Source.left in
    let parsing = subst (λ (z : Option ℕ). Parsing left c.args.input.now c.args.source.now c.loop-next.input c.loop-next.source (stack_of c.loop-next.stack) (mode_of c.loop-next.mode) z) c.in-Some.is c.loop-next.invariant.0 in
    let p = err_from_is_err_and c.from_residual-in_err-mode.result c.from_residual-in_err-mode.ensures.1 in
    rw (p.1, p.2) (settle-met left _ _ _ _ _ _ _ _ parsing c.in_err-mode.ensures)

pub returns-in-Some-take_whole-clause-form : goal.returns-in-Some-take_whole-clause-form
returns-in-Some-take_whole-clause-form g c =
    let left = g.S.Source.left in
    let parsing = subst (λ (z : Option ℕ). Parsing left c.args.input.now c.args.source.now c.loop-next.input c.loop-next.source (stack_of c.loop-next.stack) (mode_of c.loop-next.mode) z) c.in-Some.is c.loop-next.invariant.0 in
    let settled = parsing-settled left _ _ _ _ _ _ _ _ _ parsing c.in_ok-mode.ensures in
    let some = c.in-Some-take_whole.ensures.some in
    settled-found left _ _ _ _ _ _ _ _ (some.1).0 settled some.0 (some.1).1

pub step-requires-clause-levels : goal.step-requires-clause-levels
step-requires-clause-levels g c =
    let left = g.S.Source.left in
    let parsing = subst (λ (z : Option ℕ). Parsing left c.args.input.now c.args.source.now c.loop-next.input c.loop-next.source (stack_of c.loop-next.stack) (mode_of c.loop-next.mode) z) c.in-Some.is c.loop-next.invariant.0 in
    let settled = parsing-settled left _ _ _ _ _ _ _ _ _ parsing c.in_ok-mode.ensures in
    let kept = settled-kept left _ _ _ _ _ (stack_of c.take_whole.new.self) _ _ settled c.in_default-take_whole.ensures.none in
    settled-levels left _ _ _ _ _ _ _ kept.0

pub step-requires-clause-nested : goal.step-requires-clause-nested
step-requires-clause-nested g c =
    let left = g.S.Source.left in
    let parsing = subst (λ (z : Option ℕ). Parsing left c.args.input.now c.args.source.now c.loop-next.input c.loop-next.source (stack_of c.loop-next.stack) (mode_of c.loop-next.mode) z) c.in-Some.is c.loop-next.invariant.0 in
    let settled = parsing-settled left _ _ _ _ _ _ _ _ _ parsing c.in_ok-mode.ensures in
    settled-nested left _ _ _ _ _ _ _ settled

pub returns-in_err-mode-2-clause-fault : goal.returns-in_err-mode-2-clause-fault
returns-in_err-mode-2-clause-fault g c =
    let left = g.S.Source.left in
    let parsing = subst (λ (z : Option ℕ). Parsing left c.args.input.now c.args.source.now c.loop-next.input c.loop-next.source (stack_of c.loop-next.stack) (mode_of c.loop-next.mode) z) c.in-Some.is c.loop-next.invariant.0 in
    let settled = parsing-settled left _ _ _ _ _ _ _ _ _ parsing c.in_ok-mode.ensures in
    let k = stack_of c.take_whole.new.self in
    let m = mode_of c.in_ok-mode.mode in
    let kept = settled-kept left _ _ _ _ _ k _ _ settled c.in_default-take_whole.ensures.none in
    let p = err_from_is_err_and c.from_residual-in_err-mode-2.result c.from_residual-in_err-mode-2.ensures.1 in
    rw (p.1, p.2) (step-met left _ _ _ _ k m c.in-Some.byte _ kept.0 kept.1 (subst (λ (z : ℕ). StopsAs (stepped z k m c.in-Some.byte) (outer_of k) c.in_err-mode-2.field-0.0) c.at.ensures.at c.in_err-mode-2.ensures))

pub returns-in-Some-take_whole-2-clause-form : goal.returns-in-Some-take_whole-2-clause-form
returns-in-Some-take_whole-2-clause-form g c =
    let left = g.S.Source.left in
    let parsing = subst (λ (z : Option ℕ). Parsing left c.args.input.now c.args.source.now c.loop-next.input c.loop-next.source (stack_of c.loop-next.stack) (mode_of c.loop-next.mode) z) c.in-Some.is c.loop-next.invariant.0 in
    let settled = parsing-settled left _ _ _ _ _ _ _ _ _ parsing c.in_ok-mode.ensures in
    let k = stack_of c.take_whole.new.self in
    let m = mode_of c.in_ok-mode.mode in
    let kept = settled-kept left _ _ _ _ _ k _ _ settled c.in_default-take_whole.ensures.none in
    let went = ap (λ (z : ℕ). stepped z k m c.in-Some.byte) (sym c.at.ensures.at) ∙ c.in_ok-mode-2.ensures in
    let done = settled-stepped left _ _ c.advance.new.self _ _ k _ m _ c.in-Some.byte kept.0 kept.1 went (c.advance.ensures.byte c.in-Some.byte) c.advance.ensures.at c.advance.ensures.told in
    let some = c.in-Some-take_whole-2.ensures.some in
    stepped-found left _ _ _ _ _ _ _ (some.1).0 done some.0 (some.1).1

pub returns-in_err-next-2-clause-fault : goal.returns-in_err-next-2-clause-fault
returns-in_err-next-2-clause-fault g c =
    let left = g.S.Source.left in
    let parsing = subst (λ (z : Option ℕ). Parsing left c.args.input.now c.args.source.now c.loop-next.input c.loop-next.source (stack_of c.loop-next.stack) (mode_of c.loop-next.mode) z) c.in-Some.is c.loop-next.invariant.0 in
    let settled = parsing-settled left _ _ _ _ _ _ _ _ _ parsing c.in_ok-mode.ensures in
    let k = stack_of c.take_whole.new.self in
    let m = mode_of c.in_ok-mode.mode in
    let kept = settled-kept left _ _ _ _ _ k _ _ settled c.in_default-take_whole.ensures.none in
    let went = ap (λ (z : ℕ). stepped z k m c.in-Some.byte) (sym c.at.ensures.at) ∙ c.in_ok-mode-2.ensures in
    let done = settled-stepped left _ _ c.advance.new.self _ _ k _ m _ c.in-Some.byte kept.0 kept.1 went (c.advance.ensures.byte c.in-Some.byte) c.advance.ensures.at c.advance.ensures.told in
    let again = stepped-kept left _ _ _ _ _ (stack_of c.take_whole-in-Some.new.self) _ done c.in_default-take_whole-2.ensures.none in
    let p = err_from_is_err_and c.from_residual-in_err-next-2.result c.from_residual-in_err-next-2.ensures.1 in
    rw (p.1, p.2) (stepped-met left _ _ _ _ _ _ _ _ _ again.0 again.1 c.in_err-next-2.ensures.taken c.in_err-next-2.ensures.fault)

pub loop-next-preserved : goal.loop-next-preserved
loop-next-preserved g c =
    let left = g.S.Source.left in
    let parsing = subst (λ (z : Option ℕ). Parsing left c.args.input.now c.args.source.now c.loop-next.input c.loop-next.source (stack_of c.loop-next.stack) (mode_of c.loop-next.mode) z) c.in-Some.is c.loop-next.invariant.0 in
    let settled = parsing-settled left _ _ _ _ _ _ _ _ _ parsing c.in_ok-mode.ensures in
    let k = stack_of c.take_whole.new.self in
    let m = mode_of c.in_ok-mode.mode in
    let kept = settled-kept left _ _ _ _ _ k _ _ settled c.in_default-take_whole.ensures.none in
    let went = ap (λ (z : ℕ). stepped z k m c.in-Some.byte) (sym c.at.ensures.at) ∙ c.in_ok-mode-2.ensures in
    let done = settled-stepped left _ _ c.advance.new.self _ _ k _ m _ c.in-Some.byte kept.0 kept.1 went (c.advance.ensures.byte c.in-Some.byte) c.advance.ensures.at c.advance.ensures.told in
    let again = stepped-kept left _ _ _ _ _ (stack_of c.take_whole-in-Some.new.self) _ done c.in_default-take_whole-2.ensures.none in
    (stepped-parsing left _ _ _ _ _ _ _ _ _ again.0 again.1 c.in_ok-next-2.ensures.taken c.in_ok-next-2.ensures.next, omega (arith, c.loop-next.invariant.1, c.in_ok-next-2.ensures.later))

pub returns-in_err-mode-3-clause-fault : goal.returns-in_err-mode-3-clause-fault
returns-in_err-mode-3-clause-fault g c =
    let left = g.S.Source.left in
    let parsing = subst (λ (z : Option ℕ). Parsing left c.args.input.now c.args.source.now c.loop-next.input c.loop-next.source (stack_of c.loop-next.stack) (mode_of c.loop-next.mode) z) c.in_default.is c.loop-next.invariant.0 in
    let p = err_from_is_err_and c.from_residual-in_err-mode-3.result c.from_residual-in_err-mode-3.ensures.1 in
    rw (p.1, p.2) (settle-met left _ _ _ _ _ _ _ _ parsing c.in_err-mode-3.ensures)

pub returns-in-Some-take_whole-3-clause-form : goal.returns-in-Some-take_whole-3-clause-form
returns-in-Some-take_whole-3-clause-form g c =
    let left = g.S.Source.left in
    let parsing = subst (λ (z : Option ℕ). Parsing left c.args.input.now c.args.source.now c.loop-next.input c.loop-next.source (stack_of c.loop-next.stack) (mode_of c.loop-next.mode) z) c.in_default.is c.loop-next.invariant.0 in
    let settled = parsing-settled left _ _ _ _ _ _ _ _ _ parsing c.in_ok-mode-3.ensures in
    let some = c.in-Some-take_whole-3.ensures.some in
    settled-found left _ _ _ _ _ _ _ _ (some.1).0 settled some.0 (some.1).1

pub finish-requires : goal.finish-requires
finish-requires g c =
    let left = g.S.Source.left in
    let parsing = subst (λ (z : Option ℕ). Parsing left c.args.input.now c.args.source.now c.loop-next.input c.loop-next.source (stack_of c.loop-next.stack) (mode_of c.loop-next.mode) z) c.in_default.is c.loop-next.invariant.0 in
    let settled = parsing-settled left _ _ _ _ _ _ _ _ _ parsing c.in_ok-mode-3.ensures in
    ready-whole_word _ _ _ _ settled.ready

pub returns-in_err-finish-clause-fault : goal.returns-in_err-finish-clause-fault
returns-in_err-finish-clause-fault g c =
    let left = g.S.Source.left in
    let parsing = subst (λ (z : Option ℕ). Parsing left c.args.input.now c.args.source.now c.loop-next.input c.loop-next.source (stack_of c.loop-next.stack) (mode_of c.loop-next.mode) z) c.in_default.is c.loop-next.invariant.0 in
    let settled = parsing-settled left _ _ _ _ _ _ _ _ _ parsing c.in_ok-mode-3.ensures in
    let kept = settled-kept left _ _ _ _ _ (stack_of c.take_whole-2.new.self) _ _ settled c.in_default-take_whole-3.ensures.none in
    let p = err_from_is_err_and c.from_residual-in_err-finish.result c.from_residual-in_err-finish.ensures.1 in
    rw (p.1, p.2) (finish-met left (Unit {0}) _ _ _ _ _ _ _ kept.0 kept.1 c.in_err-finish.ensures)

pub returns-clause-none : goal.returns-clause-none
returns-clause-none g c =
    let left = g.S.Source.left in
    let parsing = subst (λ (z : Option ℕ). Parsing left c.args.input.now c.args.source.now c.loop-next.input c.loop-next.source (stack_of c.loop-next.stack) (mode_of c.loop-next.mode) z) c.in_default.is c.loop-next.invariant.0 in
    let settled = parsing-settled left _ _ _ _ _ _ _ _ _ parsing c.in_ok-mode-3.ensures in
    let kept = settled-kept left _ _ _ _ _ (stack_of c.take_whole-2.new.self) _ _ settled c.in_default-take_whole-3.ensures.none in
    finish-none left _ _ _ _ _ _ kept.0 kept.1 c.in_ok-finish.ensures
