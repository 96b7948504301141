use Rattle.std.specs.Prelude.{codes, false}
use Rattle.nq_kernel.proofs.GrowingLemmas.{WorkGrows-trans, LineHolds-grown}
use Rattle.nq_lines.proofs.PairLemmas.{name_grown}
use Rattle.nq_lines.proofs.TermLemmas.{term_grown}
use Rattle.nq_simplify.specs.BranchRows.{if_row}
use Rattle.nq_simplify.proofs.SplittingLemmas.{rows_show}
use Rattle.nq_simplify.proofs.splitting.add_rows.Goals as goal

pub add_row_at-requires-2-clause-test : goal.add_row_at-requires-2-clause-test
add_row_at-requires-2-clause-test c = term_grown c.args.history.now c.args.work.now c.add_row_at.new.work c.args.choice.now.test c.requires.stands c.add_row_at.ensures.grows c.requires.choice.test

pub add_row_at-requires-2-clause-first : goal.add_row_at-requires-2-clause-first
add_row_at-requires-2-clause-first c = term_grown c.args.history.now c.args.work.now c.add_row_at.new.work c.args.choice.now.first_branch c.requires.stands c.add_row_at.ensures.grows c.requires.choice.first_branch

pub add_row_at-requires-2-clause-second : goal.add_row_at-requires-2-clause-second
add_row_at-requires-2-clause-second c = term_grown c.args.history.now c.args.work.now c.add_row_at.new.work c.args.choice.now.second_branch c.requires.stands c.add_row_at.ensures.grows c.requires.choice.second_branch

pub add_row_at-requires-2-clause-line : goal.add_row_at-requires-2-clause-line
add_row_at-requires-2-clause-line c = LineHolds-grown c.args.history.now c.args.work.now c.add_row_at.new.work c.args.rows.now.second (if_row false) c.requires.stands c.add_row_at.ensures.grows c.requires.rows.second

pub add_row_at-requires-2-clause-x : goal.add_row_at-requires-2-clause-x
add_row_at-requires-2-clause-x c = name_grown c.args.work.now.bank c.add_row_at.new.work.bank c.args.rows.now.names.x (codes "X") c.add_row_at.ensures.grows.bank c.requires.rows.x

pub add_row_at-requires-2-clause-y : goal.add_row_at-requires-2-clause-y
add_row_at-requires-2-clause-y c = name_grown c.args.work.now.bank c.add_row_at.new.work.bank c.args.rows.now.names.y (codes "Y") c.add_row_at.ensures.grows.bank c.requires.rows.y

pub add_row_at-requires-2-clause-z : goal.add_row_at-requires-2-clause-z
add_row_at-requires-2-clause-z c = name_grown c.args.work.now.bank c.add_row_at.new.work.bank c.args.rows.now.names.z (codes "Z") c.add_row_at.ensures.grows.bank c.requires.rows.z

pub returns-in_err-second-clause-grows : goal.returns-in_err-second-clause-grows
returns-in_err-second-clause-grows c = (WorkGrows-trans c.args.history.now c.args.work.now c.add_row_at.new.work c.add_row_at-2.new.work c.add_row_at.ensures.grows c.add_row_at-2.ensures.grows)

pub returns-clause-grows : goal.returns-clause-grows
returns-clause-grows c = (WorkGrows-trans c.args.history.now c.args.work.now c.add_row_at.new.work c.add_row_at-2.new.work c.add_row_at.ensures.grows c.add_row_at-2.ensures.grows)

pub returns-clause-rows : goal.returns-clause-rows
returns-clause-rows c = rows_show c.args.history.now c.args.work.now c.add_row_at.new.work c.add_row_at-2.new.work c.args.t c.args.choice.now c.in_ok-first.first c.in_ok-second.second c.add_row_at.ensures.grows.stands c.add_row_at.ensures.grows c.add_row_at-2.ensures.grows (WorkGrows-trans c.args.history.now c.args.work.now c.add_row_at.new.work c.add_row_at-2.new.work c.add_row_at.ensures.grows c.add_row_at-2.ensures.grows) c.requires.choice c.in_ok-first.ensures.line c.in_ok-second.ensures.line
