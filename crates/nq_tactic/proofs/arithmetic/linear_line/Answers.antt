use Rattle.std.proofs.Common.{subst, sym}
use Rattle.std.specs.Prelude.{All}
use Rattle.nq_kernel.proofs.GrowingLemmas.{WorkGrows-trans}
use Rattle.nq_lines.proofs.FactLemmas.{own_terms_grown}
use Rattle.nq_instances.specs.Parts.{IsLine}
use Rattle.nq_search.proofs.SearchingLemmas.{goal_grown}
use Rattle.nq_arithmetic.proofs.Lemmas.{goal_same, found_of}
use Rattle.nq_tactic.proofs.arithmetic.linear_line.Goals as goal

pub arithmetic_line_by_lemmas-requires-clause-ready : goal.arithmetic_line_by_lemmas-requires-clause-ready
arithmetic_line_by_lemmas-requires-clause-ready c = own_terms_grown c.args.history.now c.args.work.now c.numbers_in.new.work c.numbers_in.ensures.grows c.requires.stands c.requires.ready

pub arithmetic_line_by_lemmas-requires-clause-goal : goal.arithmetic_line_by_lemmas-requires-clause-goal
arithmetic_line_by_lemmas-requires-clause-goal c = goal_grown c.args.history.now c.args.work.now c.numbers_in.new.work c.requires.stands c.numbers_in.ensures.grows c.args.goal.now c.requires.goal

pub arithmetic_line_by_lemmas-requires-clause-told : goal.arithmetic_line_by_lemmas-requires-clause-told
arithmetic_line_by_lemmas-requires-clause-told c = subst (All (IsLine c.args.history.now c.numbers_in.new.work)) (sym c.as_slice.ensures.value) c.in_ok-told.ensures.facts

pub returns-clause-line : goal.returns-clause-line
returns-clause-line c =
    found_of c.arithmetic_line_by_lemmas.result c.arithmetic_line_by_lemmas.new.work _ _ (sym (goal_same c.args.history.now c.numbers_in.new.work c.arithmetic_line_by_lemmas.new.work c.numbers_in.ensures.grows.stands c.arithmetic_line_by_lemmas.ensures.grows c.args.goal.now (goal_grown c.args.history.now c.args.work.now c.numbers_in.new.work c.requires.stands c.numbers_in.ensures.grows c.args.goal.now c.requires.goal))) c.arithmetic_line_by_lemmas.ensures.line

pub returns-clause-grows : goal.returns-clause-grows
returns-clause-grows c = WorkGrows-trans c.args.history.now c.args.work.now c.numbers_in.new.work c.arithmetic_line_by_lemmas.new.work c.numbers_in.ensures.grows c.arithmetic_line_by_lemmas.ensures.grows
