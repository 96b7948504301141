use Rattle.std.proofs.Common.{◌≡◌, ◌∙◌, ◌∷◌, drop, ap, arith}
use Rattle.nq_bank.proofs.Growth.{IsNamed-grown}
use Rattle.nq_kernel.specs.Growing.{WorkGrows}
use Rattle.nq_kernel.proofs.GrowingLemmas.{WorkGrows-trans}
use Rattle.nq_eliminate.proofs.FilledLemmas.{filling_grown, first_stands, instance_filled, line_told}
use Rattle.nq_eliminate.proofs.IdLemmas.{some_ids, split_first}
use Rattle.nq_eliminate.proofs.rule_instances.instance_by.Goals as goal

pub index-variable-requires : goal.index-variable-requires
index-variable-requires c = omega (arith, some_ids c.args.work.now.bank c.args.p.named.items _ _ c.requires.filling.is.named_are)

pub fill_line-requires-clause-name : goal.fill_line-requires-clause-name
fill_line-requires-clause-name c = (filling_grown c.args.history.now c.args.work.now c.fill.new.work c.requires.stands c.fill.ensures.grows c.requires.filling.chosen c.args.p c.requires.filling.is).name

pub fill_line-requires-clause-event : goal.fill_line-requires-clause-event
fill_line-requires-clause-event c = (filling_grown c.args.history.now c.args.work.now c.fill.new.work c.requires.stands c.fill.ensures.grows c.requires.filling.chosen c.args.p c.requires.filling.is).event

pub fill_line-requires-clause-term : goal.fill_line-requires-clause-term
fill_line-requires-clause-term c = (filling_grown c.args.history.now c.args.work.now c.fill.new.work c.requires.stands c.fill.ensures.grows c.requires.filling.chosen c.args.p c.requires.filling.is).term

pub fill_line-requires-clause-pairs : goal.fill_line-requires-clause-pairs
fill_line-requires-clause-pairs c = (filling_grown c.args.history.now c.args.work.now c.fill.new.work c.requires.stands c.fill.ensures.grows c.requires.filling.chosen c.args.p c.requires.filling.is).pairs

pub returns-in_err-line-clause-grows : goal.returns-in_err-line-clause-grows
returns-in_err-line-clause-grows c = WorkGrows-trans c.args.history.now c.args.work.now c.fill.new.work c.fill_line.new.work c.fill.ensures.grows c.fill_line.ensures.grows

pub name_of-requires-clause-term : goal.name_of-requires-clause-term
name_of-requires-clause-term c =
    let last = c.fill_line.new.work in
    let grows : WorkGrows c.args.history.now c.args.work.now last = WorkGrows-trans c.args.history.now c.args.work.now c.fill.new.work last c.fill.ensures.grows c.fill_line.ensures.grows in
    first_stands c.args.history.now c.args.work.now last c.requires.stands grows c.requires.filling.chosen c.args.p c.requires.filling.is c.index-variable.result.now c.index-variable.ensures

pub name_of-requires-clause-other : goal.name_of-requires-clause-other
name_of-requires-clause-other c =
    let last = c.fill_line.new.work in
    let grows : WorkGrows c.args.history.now c.args.work.now last = WorkGrows-trans c.args.history.now c.args.work.now c.fill.new.work last c.fill.ensures.grows c.fill_line.ensures.grows in
    IsNamed-grown c.args.work.now.bank last.bank c.args.p.name grows.bank c.requires.filling.is.name

pub returns-clause-instance : goal.returns-clause-instance
returns-clause-instance c =
    let hs = c.args.history.now in
    let w = c.args.work.now in
    let w1 = c.fill.new.work in
    let last = c.fill_line.new.work in
    let p = c.args.p in
    let on : WorkGrows hs w1 last = c.fill_line.ensures.grows in
    let grows : WorkGrows hs w last = WorkGrows-trans hs w w1 last c.fill.ensures.grows on in
    let split : p.named.items ≡ c.index-variable.result.now ∷ c.in_ok-others.others.items =
    split_first p.named.items c.in_ok-others.others.items c.index-variable.result.now (some_ids w.bank p.named.items _ _ c.requires.filling.is.named_are) c.index-variable.ensures (c.in_ok-others.ensures.ok ∙ (c.after_first.ensures ∙ ap (drop 1) c.as_slice.ensures.value)) in
    λ e is.
    instance_filled hs w w1 last c.requires.stands grows on e p is c.in_ok-made.made c.fill.ensures.grows.stands (c.in_ok-made.ensures.filled e is) c.index-variable.result.now c.in_ok-others.others split c.name_of.result c.name_of.ensures.named c.name_of.ensures.is c.in_ok-line.line
    (line_told hs w1 last e p c.in_ok-line.line (filling_grown hs w w1 c.requires.stands c.fill.ensures.grows e p is) c.in_ok-line.ensures.line)

pub returns-clause-grows : goal.returns-clause-grows
returns-clause-grows c = WorkGrows-trans c.args.history.now c.args.work.now c.fill.new.work c.fill_line.new.work c.fill.ensures.grows c.fill_line.ensures.grows
