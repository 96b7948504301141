use Rattle.nq_bank.specs.declared.node.TermId.{TermId}
use Rattle.nq_kernel.specs.declared.work.Work.{Work}
use Rattle.nq_kernel.specs.Growing.{WorkGrows}
use Rattle.nq_kernel.proofs.GrowingLemmas.{WorkGrows-trans}
use Rattle.nq_lines.proofs.TermLemmas.{term_grown}
use Rattle.nq_simplify.proofs.SplittingLemmas.{choice_grown}
use Rattle.nq_simplify.proofs.OutcomeLemmas.{divided_by}
use Rattle.nq_simplify.proofs.splitting.split_by.Goals as goal

pub add_sides-requires-clause-term : goal.add_sides-requires-clause-term
add_sides-requires-clause-term c = let d : TermId = record { 0 = 0 } in term_grown c.args.history.now c.args.work.now c.add_rows.new.work _ c.requires.stands c.add_rows.ensures.grows (c.requires.goal c.args.at d c.requires.at)

pub add_sides-requires-clause-choice : goal.add_sides-requires-clause-choice
add_sides-requires-clause-choice c =
    let d : TermId = record { 0 = 0 } in choice_grown c.args.history.now c.args.work.now c.add_rows.new.work _ c.args.choice.now c.requires.stands c.add_rows.ensures.grows (c.requires.goal c.args.at d c.requires.at) c.requires.choice

pub returns-in_err-sides-clause-grows : goal.returns-in_err-sides-clause-grows
returns-in_err-sides-clause-grows c = WorkGrows-trans c.args.history.now c.args.work.now c.add_rows.new.work c.add_sides.new.work c.add_rows.ensures.grows c.add_sides.ensures.grows

pub deny-requires-clause-term : goal.deny-requires-clause-term
deny-requires-clause-term c =
    term_grown c.args.history.now c.args.work.now c.add_sides.new.work c.args.choice.now.test c.requires.stands (WorkGrows-trans c.args.history.now c.args.work.now c.add_rows.new.work c.add_sides.new.work c.add_rows.ensures.grows c.add_sides.ensures.grows) c.requires.choice.test

pub returns-in_err-denial-clause-grows : goal.returns-in_err-denial-clause-grows
returns-in_err-denial-clause-grows c =
    WorkGrows-trans c.args.history.now c.args.work.now c.add_sides.new.work c.deny.new.work (WorkGrows-trans c.args.history.now c.args.work.now c.add_rows.new.work c.add_sides.new.work c.add_rows.ensures.grows c.add_sides.ensures.grows) c.deny.ensures.grows

pub returns-in_err-second-clause-grows : goal.returns-in_err-second-clause-grows
returns-in_err-second-clause-grows c =
    WorkGrows-trans c.args.history.now c.args.work.now c.add_sides.new.work c.deny.new.work (WorkGrows-trans c.args.history.now c.args.work.now c.add_rows.new.work c.add_sides.new.work c.add_rows.ensures.grows c.add_sides.ensures.grows) c.deny.ensures.grows

pub returns-in_err-first-clause-grows : goal.returns-in_err-first-clause-grows
returns-in_err-first-clause-grows c =
    WorkGrows-trans c.args.history.now c.args.work.now c.add_sides.new.work c.deny.new.work (WorkGrows-trans c.args.history.now c.args.work.now c.add_rows.new.work c.add_sides.new.work c.add_rows.ensures.grows c.add_sides.ensures.grows) c.deny.ensures.grows

pub returns-clause-grows : goal.returns-clause-grows
returns-clause-grows c =
    WorkGrows-trans c.args.history.now c.args.work.now c.add_sides.new.work c.deny.new.work (WorkGrows-trans c.args.history.now c.args.work.now c.add_rows.new.work c.add_sides.new.work c.add_rows.ensures.grows c.add_sides.ensures.grows) c.deny.ensures.grows

pub returns-clause-split : goal.returns-clause-split
returns-clause-split c =
    let h = c.args.history.now in
    let w0 : Work = c.args.work.now in
    let w1 : Work = c.add_rows.new.work in
    let w2 : Work = c.add_sides.new.work in
    let w3 : Work = c.deny.new.work in
    let d : TermId = record { 0 = 0 } in
    let g02 : WorkGrows h w0 w2 = WorkGrows-trans h w0 w1 w2 c.add_rows.ensures.grows c.add_sides.ensures.grows in
    divided_by h w0 w2 w3 c.requires.stands c.add_sides.ensures.grows.stands g02 c.deny.ensures.grows c.args.goal.now c.args.at d c.requires.at c.requires.goal c.args.choice.now c.in_ok-sides.sides.first c.in_ok-sides.sides.second c.requires.choice c.in_ok-sides.ensures.sides
    c.in_ok-denial.denial c.in_ok-second.second c.in_ok-first.first c.in_ok-denial.ensures.over c.in_ok-denial.ensures.denied c.in_ok-second.ensures.clause c.in_ok-first.ensures.clause
