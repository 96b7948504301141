use Rattle.std.proofs.Common.{sym, subst, get_or}
use Rattle.std.proofs.lemmas.Result.{IfOk-weaker}
use Rattle.nq_bank.specs.Content.{term_at, terms_at}
use Rattle.nq_history.specs.Hints.{InstanceStands}
use Rattle.nq_history.proofs.HistoryLemmas.{events_at-grown}
use Rattle.nq_event.specs.EventsAt.{instance_at}
use Rattle.nq_event.proofs.GrownLemmas.{all_keep, instances_stay}
use Rattle.nq_kernel.specs.Ready.{IsReady}
use Rattle.nq_kernel.proofs.GrowingLemmas.{WorkGrows-trans}
use Rattle.nq_lines.proofs.InstanceLemmas.{pairs_in_grown}
use Rattle.nq_lines.proofs.LineLemmas.{only_stands}
use Rattle.nq_hinted.proofs.UnwindLemmas.{unwound}
use Rattle.nq_hinted.proofs.uncounted.unwind.Goals as goal

pub open_nest-requires-clause-line : goal.open_nest-requires-clause-line
open_nest-requires-clause-line c = only_stands c.args.work.now c.args.line _ c.requires.line

pub cut_instances-requires-clause-ready : goal.cut_instances-requires-clause-ready
cut_instances-requires-clause-ready c =
    subst IsReady (sym (events_at-grown c.args.work.now.bank c.open_nest.new.work.bank c.open_nest.ensures.grows.bank c.args.history.now c.requires.stands.history.entries)) c.requires.ready

pub cut_instances-requires-clause-instances : goal.cut_instances-requires-clause-instances
cut_instances-requires-clause-instances c = all_keep InstanceStands instance_at instances_stay c.args.work.now.bank c.open_nest.new.work.bank c.open_nest.ensures.grows.bank c.args.instances.now c.requires.instances

pub cut_instances-requires-clause-pairs : goal.cut_instances-requires-clause-pairs
cut_instances-requires-clause-pairs c =
    λ j d below. pairs_in_grown c.args.history.now c.args.work.now c.open_nest.new.work (get_or c.args.instances.now j d).pairs.items c.requires.stands c.open_nest.ensures.grows (c.requires.pairs j d below)

pub returns-clause-line : goal.returns-clause-line
returns-clause-line c =
    IfOk-weaker c.cut_instances.result _ _
    (λ n cuts. unwound c.args.history.now c.args.work.now c.open_nest.new.work c.cut_instances.new.work c.args.instances.now (term_at c.args.work.now.bank c.args.first) (term_at c.args.work.now.bank c.args.whole)
    (terms_at c.args.work.now.bank c.args.rest.now) c.args.line c.in_ok-line.line n c.requires.stands c.open_nest.ensures.grows c.requires.instances c.requires.whole c.requires.line c.in_ok-line.ensures.line cuts)
    c.cut_instances.ensures.line

pub returns-clause-grows : goal.returns-clause-grows
returns-clause-grows c = WorkGrows-trans c.args.history.now c.args.work.now c.open_nest.new.work c.cut_instances.new.work c.open_nest.ensures.grows c.cut_instances.ensures.grows
