use Rattle.std.proofs.Common.{refl, sym, subst, ◌∙◌}
use Rattle.std.specs.Prelude.{All}
use Rattle.std.proofs.lemmas.List.{take_all}
use Rattle.std.proofs.lemmas.List.Elements.{All-more}
use Rattle.nq_value.proofs.CallLemmas.{IsValueAt}
use Rattle.nq_value.proofs.calls.are_values.Goals as goal

pub loop-t-preserved : goal.loop-t-preserved
loop-t-preserved c =
    All-more (IsValueAt c.args.bank.now) c.args.terms.now c.loop-t.t-index (record { 0 = 0 }) c.loop-t-test.true c.loop-t.invariant
    (sym c.is_value.ensures ∙ c.if-not-is_value.false)

pub returns : goal.returns
returns c =
    let whole = take_all c.loop-t.t-index c.args.terms.now c.loop-t-test.false in
    (λ e. subst (All (IsValueAt c.args.bank.now)) whole c.loop-t.invariant, λ h. refl)
