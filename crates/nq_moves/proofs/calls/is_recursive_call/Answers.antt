use Rattle.std.proofs.Common.{◌∙◌, sym, ap, arith, []}
use Rattle.nq_logic.specs.Words.{numeral}
use Rattle.nq_logic.specs.Histories.{History}
use Rattle.nq_logic.specs.RuleShapes.{has_distinct_variables}
use Rattle.nq_bank.specs.Content.{Content, text_at, term_at}
use Rattle.nq_history.specs.Events.{events_at}
use Rattle.nq_goals.specs.Recursion.{is_recursive, is_recursive_call}
use Rattle.nq_moves.proofs.CallLemmas.{both, neither, all_distinct, calls_term, calls-zero, calls-numeral}
use Rattle.nq_moves.proofs.calls.is_recursive_call.Goals as goal

pub returns-then-n-eq0 : goal.returns-then-n-eq0
returns-then-n-eq0 c =
    let h : History = events_at c.args.bank.now c.args.history.now in
    c.is_recursive.ensures ∙ ap (is_recursive h) c.ground_name.ensures.reads ∙ sym (calls-zero h) ∙ ap (λ n. is_recursive_call h (numeral n)) (sym c.if-n-eq0.true) ∙ ap (is_recursive_call h) (sym c.in-Num.ensures.head.1)

pub returns-else-n-eq0 : goal.returns-else-n-eq0
returns-else-n-eq0 c =
    let h : History = events_at c.args.bank.now c.args.history.now in
    calls-numeral h c.in-Num.n (omega (arith, c.if-n-eq0.false)) ∙ ap (is_recursive_call h) (sym c.in-Num.ensures.head.1)

pub returns-then-is_recursive : goal.returns-then-is_recursive
returns-then-is_recursive c =
    let bank : Content = c.args.bank.now in
    let h : History = events_at bank c.args.history.now in
    let t = term_at bank c.args.t in
    let calls = calls_term h t (text_at bank c.in-App.f) c.in-App.ensures.head.1 in
    let alike = all_distinct bank h t (text_at bank c.in-App.f) c.args-arguments.result.now c.in-App.ensures.head.1 c.args-arguments.ensures.parts in
    c.are_distinct.ensures ∙ alike ∙ both _ _ (calls ∙ sym c.is_recursive-in-App.ensures ∙ c.if-is_recursive.true)

pub returns-else-is_recursive : goal.returns-else-is_recursive
returns-else-is_recursive c =
    let bank : Content = c.args.bank.now in
    let h : History = events_at bank c.args.history.now in
    let t = term_at bank c.args.t in
    let calls = calls_term h t (text_at bank c.in-App.f) c.in-App.ensures.head.1 in
    c.is_recursive-in-App.ensures ∙ sym calls ∙ neither _ (has_distinct_variables [] t) (calls ∙ sym c.is_recursive-in-App.ensures ∙ c.if-is_recursive.false)
