use Rattle.std.specs.Prelude.{All}
use Rattle.std.proofs.Common.{sym, subst, rules}
use Rattle.nq_history.specs.Events.{events_at, ground_length, EntryStands}
use Rattle.nq_history.proofs.Lists.{All-drop}
use Rattle.nq_quick.specs.Earlier.{IsPassed}
use Rattle.nq_quick.proofs.EarlierLemmas.{passed_more, none_earlier}
use Rattle.nq_quick.proofs.earlier.earlier_instance.Goals as goal

pub instance_of_entry-requires-clause-entry : goal.instance_of_entry-requires-clause-entry
instance_of_entry-requires-clause-entry c =
    let stands = EntryStands c.args.bank.now in
    let all : All stands c.past_ground-e-items.result.now = subst (All stands) (sym c.past_ground-e-items.ensures) (All-drop stands ground_length c.args.history.now c.requires.history.entries) in
    subst stands (sym c.e-item.is) (all c.loop-e.e-index c.e-item.result c.loop-e-test.true)

pub loop-e-preserved : goal.loop-e-preserved
loop-e-preserved c =
    let events = events_at c.args.bank.now c.args.history.now in
    let passed : IsPassed c.args.bank.now events c.args.goal c.e-item.result = search rules in
    passed_more c.args.bank.now events c.args.goal c.past_ground-e-items.result.now c.loop-e.e-index c.e-item.result c.loop-e-test.true c.e-item.is c.loop-e.invariant passed

pub returns : goal.returns
returns c =
    none_earlier c.args.bank.now c.args.history.now c.args.goal c.past_ground-e-items.result.now c.loop-e.e-index c.past_ground-e-items.ensures c.loop-e-test.false c.loop-e.invariant
