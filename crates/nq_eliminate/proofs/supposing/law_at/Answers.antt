use Rattle.nq_bank.specs.Content.{term_at}
use Rattle.nq_clause.specs.Substitution.{substitution_at}
use Rattle.nq_kernel.proofs.GrowingLemmas.{WorkGrows-trans}
use Rattle.nq_lines.specs.Instances.{InstancesTo}
use Rattle.nq_lines.proofs.LineLemmas.{line_grown}
use Rattle.nq_lines.proofs.PairLemmas.{name_grown}
use Rattle.nq_rule.proofs.Made.{for_ok}
use Rattle.nq_eliminate.specs.Supposing.{TakesTo}
use Rattle.nq_eliminate.proofs.SupposingLemmas.{takes_made, two_in}
use Rattle.nq_eliminate.proofs.supposing.law_at.Goals as goal

pub returns-in_err-y-clause-grows : goal.returns-in_err-y-clause-grows
returns-in_err-y-clause-grows c = WorkGrows-trans c.args.history.now c.args.work.now c.symbol.new.work c.symbol-2.new.work c.symbol.ensures.grows c.symbol-2.ensures.grows

pub returns-in_err-pairs-clause-grows : goal.returns-in_err-pairs-clause-grows
returns-in_err-pairs-clause-grows c = WorkGrows-trans c.args.history.now c.args.work.now c.symbol.new.work c.symbol-2.new.work c.symbol.ensures.grows c.symbol-2.ensures.grows

pub instance-requires-clause-line : goal.instance-requires-clause-line
instance-requires-clause-line c =
    let grows = WorkGrows-trans c.args.history.now c.args.work.now c.symbol.new.work c.symbol-2.new.work c.symbol.ensures.grows c.symbol-2.ensures.grows in
    line_grown c.args.history.now c.args.work.now c.symbol-2.new.work c.args.law c.requires.stands grows c.requires.law

pub instance-requires-clause-pairs : goal.instance-requires-clause-pairs
instance-requires-clause-pairs c =
    let grows = WorkGrows-trans c.args.history.now c.args.work.now c.symbol.new.work c.symbol-2.new.work c.symbol.ensures.grows c.symbol-2.ensures.grows in
    two_in c.args.history.now c.args.work.now c.symbol-2.new.work c.requires.stands grows c.in_ok-pairs.pairs.items c.in_ok-x.x c.in_ok-y.y c.args.t c.args.u c.in_ok-pairs.ensures.ok
    (name_grown c.symbol.new.work.bank c.symbol-2.new.work.bank c.in_ok-x.x _ c.symbol-2.ensures.grows.bank c.in_ok-x.ensures.name) c.in_ok-y.ensures.name c.requires.left c.requires.right

pub returns-clause-line : goal.returns-clause-line
returns-clause-line c =
    let h = c.args.history.now in
    let old = c.args.work.now in
    let mid = c.symbol-2.new.work in
    let last = c.instance.new.work in
    let grows = WorkGrows-trans h old c.symbol.new.work mid c.symbol.ensures.grows c.symbol-2.ensures.grows in
    for_ok c.instance.result (InstancesTo mid last (substitution_at mid.bank c.in_ok-pairs.pairs.items) c.args.law) (TakesTo old last (term_at old.bank c.args.t) (term_at old.bank c.args.u) c.args.law)
    (λ n made. takes_made h old mid c.requires.stands grows c.in_ok-pairs.pairs.items c.in_ok-x.x c.in_ok-y.y c.args.t c.args.u c.in_ok-pairs.ensures.ok
    (name_grown c.symbol.new.work.bank mid.bank c.in_ok-x.x _ c.symbol-2.ensures.grows.bank c.in_ok-x.ensures.name) c.in_ok-y.ensures.name c.requires.left c.requires.right last c.args.law n made) c.instance.ensures.line

pub returns-clause-grows : goal.returns-clause-grows
returns-clause-grows c =
    let grows = WorkGrows-trans c.args.history.now c.args.work.now c.symbol.new.work c.symbol-2.new.work c.symbol.ensures.grows c.symbol-2.ensures.grows in
    WorkGrows-trans c.args.history.now c.args.work.now c.symbol-2.new.work c.instance.new.work grows c.instance.ensures.grows
