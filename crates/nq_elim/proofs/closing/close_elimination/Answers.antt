use Rattle.std.proofs.Common.{◌∷◌, [], ◌≡◌, ◌-◌, ◌∙◌, ℕ, List, length, get_or, take, drop, sym, ap, subst, arith}
use Rattle.std.specs.Prelude.{IfOk}
use Rattle.nq_bank.specs.Content.{terms_at}
use Rattle.nq_proof.specs.Clauses.{Clause}
use Rattle.nq_kernel.proofs.GrowingLemmas.{WorkGrows-trans}
use Rattle.nq_lines.specs.Lines.{LineHasOnly}
use Rattle.nq_moves.specs.Dropped.{HoldChildren}
use Rattle.nq_moves.specs.Found.{goals_at}
use Rattle.nq_elim.specs.declared.cases.Case.{Case}
use Rattle.nq_elim.specs.Cases.{case_goals}
use Rattle.nq_elim.proofs.GrownLemmas.{terms_grown, same_terms}
use Rattle.nq_elim.proofs.CaseLemmas.{case_goals_same}
use Rattle.nq_elim.proofs.ReasonLemmas.{reason_grown, same_whole}
use Rattle.nq_elim.proofs.CutLemmas.{hold_grown}
use Rattle.nq_elim.proofs.ClosingLemmas.{first_line, other_lines, some_line, split_lines}
use Rattle.nq_elim.proofs.closing.close_elimination.Goals as goal

pub close_first-requires-clause-renaming : goal.close_first-requires-clause-renaming
close_first-requires-clause-renaming c = c.requires.way.renaming

pub close_first-requires-clause-moved : goal.close_first-requires-clause-moved
close_first-requires-clause-moved c = c.requires.way.moved

pub close_first-requires-clause-line : goal.close_first-requires-clause-line
close_first-requires-clause-line c =
    let w = c.args.work.now in
    let lines : List ℕ = c.args.lines.now in
    first_line c.args.history.now w c.args.goal.now c.args.elimination.now c.requires.way (get_or lines 0 0) (take (length lines - 1) (drop 1 lines))
    (subst (HoldChildren w (goals_at w.bank c.args.elimination.now.nexts.items)) (split_lines lines 0 c.in-len1-up.len_at_least) c.requires.lines)

pub close_rest-requires-clause-goal : goal.close_rest-requires-clause-goal
close_rest-requires-clause-goal c = terms_grown c.args.history.now c.args.work.now c.close_first.new.work c.requires.stands c.close_first.ensures.grows c.args.goal.now c.requires.goal

pub close_rest-requires-clause-reason : goal.close_rest-requires-clause-reason
close_rest-requires-clause-reason c =
    reason_grown c.args.history.now c.args.work.now c.close_first.new.work c.requires.stands c.close_first.ensures.grows c.args.goal.now c.requires.goal c.args.elimination.now.reason c.requires.way.reason

pub close_rest-requires-clause-whole : goal.close_rest-requires-clause-whole
close_rest-requires-clause-whole c =
    subst (λ (d : Clause). LineHasOnly c.close_first.new.work c.in_ok-whole-in-len1-up.whole d)
    (sym (same_whole c.args.history.now c.args.work.now c.close_first.new.work c.requires.stands c.close_first.ensures.grows c.args.goal.now c.requires.goal c.args.elimination.now.reason c.requires.way.reason)) c.in_ok-whole-in-len1-up.ensures.line

pub close_rest-requires-clause-lines : goal.close_rest-requires-clause-lines
close_rest-requires-clause-lines c =
    let h = c.args.history.now in
    let old = c.args.work.now in
    let new = c.close_first.new.work in
    let up = c.close_first.ensures.grows in
    let lines : List ℕ = c.args.lines.now in
    let others : List ℕ = take (length lines - 1) (drop 1 lines) in
    let cases : List Case = c.args.elimination.now.reason.cases.items in
    let held : HoldChildren old (case_goals old.bank cases (terms_at old.bank c.args.goal.now)) others = other_lines h old c.args.goal.now c.args.elimination.now c.requires.way (get_or lines 0 0) others
    (subst (HoldChildren old (goals_at old.bank c.args.elimination.now.nexts.items)) (split_lines lines 0 c.in-len1-up.len_at_least) c.requires.lines) in
    let same : case_goals new.bank cases (terms_at new.bank c.args.goal.now) ≡ case_goals old.bank cases (terms_at old.bank c.args.goal.now) =
    case_goals_same h old new c.requires.stands up cases (terms_at new.bank c.args.goal.now) c.requires.way.reason.cases ∙ ap (case_goals old.bank cases) (same_terms h old new c.requires.stands up c.args.goal.now c.requires.goal) in
    subst (λ (gs : List Clause). HoldChildren new gs others) (sym same) (hold_grown h old new (case_goals old.bank cases (terms_at old.bank c.args.goal.now)) others c.requires.stands up held)

pub unreachable-requires : goal.unreachable-requires
unreachable-requires c =
    let some = some_line c.args.history.now c.args.work.now c.args.goal.now c.args.elimination.now c.requires.way c.args.lines.now c.requires.lines in
    omega (arith, some, c.in-empty.len_below)

pub returns-clause-line : goal.returns-clause-line
returns-clause-line c =
    subst (λ (g : Clause). IfOk c.close_rest.result (λ n. LineHasOnly c.close_rest.new.work n g)) (same_terms c.args.history.now c.args.work.now c.close_first.new.work c.requires.stands c.close_first.ensures.grows c.args.goal.now c.requires.goal) c.close_rest.ensures.line

pub returns-clause-grows : goal.returns-clause-grows
returns-clause-grows c = WorkGrows-trans c.args.history.now c.args.work.now c.close_first.new.work c.close_rest.new.work c.close_first.ensures.grows c.close_rest.ensures.grows
