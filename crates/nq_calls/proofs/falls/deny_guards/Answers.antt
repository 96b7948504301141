use Rattle.std.proofs.Common.{◌∙◌, false}
use Rattle.nq_bank.specs.declared.node.TermId.{TermId}
use Rattle.nq_bank.specs.Content.{Content}
use Rattle.nq_bank.proofs.Growth.{Grows-trans}
use Rattle.nq_calls.specs.declared.calls.Guard.{Guard}
use Rattle.nq_calls.proofs.FallLemmas.{denied_more, denied_stand}
use Rattle.nq_calls.proofs.falls.deny_guards.Goals as goal

pub loop-guard-preserved : goal.loop-guard-preserved
loop-guard-preserved c =
    let old : Content = c.args.bank.now in
    let bank : Content = c.loop-guard.bank in
    let new : Content = c.deny_guard.new.bank in
    let none : TermId = record { 0 = 0 } in
    let d : Guard = record { test = none; holds = false } in
    record {
      grows = Grows-trans old bank new c.loop-guard.invariant.grows c.deny_guard.ensures.grows;
      names = c.deny_guard.ensures.names ∙ c.loop-guard.invariant.names;
      terms = denied_more old bank new c.args.guards.now c.loop-guard.guard-index d c.loop-guard.literals.items c.add_id.new.ids.items c.in_ok-literal.literal c.loop-guard.invariant.grows c.deny_guard.ensures.grows c.loop-guard-test.true c.requires c.loop-guard.invariant.stand c.in_ok-add_id.ensures c.in_ok-literal.ensures.ok c.loop-guard.invariant.terms;
      stand = denied_stand old bank new c.args.guards.now c.loop-guard.guard-index d c.loop-guard.literals.items c.add_id.new.ids.items c.in_ok-literal.literal c.loop-guard.invariant.grows c.deny_guard.ensures.grows c.loop-guard-test.true c.requires c.loop-guard.invariant.stand c.in_ok-add_id.ensures c.in_ok-literal.ensures.ok;
    }
