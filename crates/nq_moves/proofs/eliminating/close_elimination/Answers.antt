use Rattle.std.proofs.Common.{rules, ◌≡◌, ◌<◌, ℕ, List, get_or, sym, subst, arith}
use Rattle.std.specs.Prelude.{All, IfOk, length, map, ◌++◌}
use Rattle.nq_logic.specs.Words.{not_term}
use Rattle.nq_bank.specs.declared.node.TermId.{TermId}
use Rattle.nq_bank.specs.Content.{terms_at}
use Rattle.nq_kernel.proofs.GrowingLemmas.{WorkGrows-trans}
use Rattle.nq_lines.specs.Lines.{IsTermIn, LineHasOnly}
use Rattle.nq_goals.specs.Eliminating.{hypothesis_goal}
use Rattle.nq_moves.specs.Eliminated.{HoldFirst, made_goal}
use Rattle.nq_moves.proofs.EliminatedLemmas.{elimination_grown, first_grown, last_below, last_line, stated_same}
use Rattle.nq_moves.proofs.SwappedLemmas.{goal_same}
use Rattle.nq_moves.proofs.eliminating.close_elimination.Goals as goal

pub bounds-lines-len : goal.bounds-lines-len
bounds-lines-len c =
    let w = c.args.work.now in
    let e = c.args.e.now in
    let below = last_below w w.bank (terms_at w.bank c.args.goal.now) (made_goal w.bank e) e.hypotheses.items c.args.lines.now c.requires.lines in
    omega (arith, below, c.len.ensures, e.hypotheses.ok.0)

pub offset_bounds-lines-len : goal.offset_bounds-lines-len
offset_bounds-lines-len c =
    let w = c.args.work.now in
    let e = c.args.e.now in
    let many = last_below w w.bank (terms_at w.bank c.args.goal.now) (made_goal w.bank e) e.hypotheses.items c.args.lines.now c.requires.lines in
    let below : c.len.result < length c.args.lines.now = omega (arith, many, c.len.ensures, e.hypotheses.ok.0) in
    search rules

pub stated_back-requires-clause-line : goal.stated_back-requires-clause-line
stated_back-requires-clause-line c =
    let w = c.args.work.now in
    let e = c.args.e.now in
    let count : length e.hypotheses.items ≡ c.len.result = omega (arith, c.len.ensures, e.hypotheses.ok.0) in
    subst (λ (n : ℕ). LineHasOnly w (get_or c.args.lines.now n 0) (made_goal w.bank e)) count (last_line w w.bank (terms_at w.bank c.args.goal.now) (made_goal w.bank e) e.hypotheses.items c.args.lines.now 0 c.requires.lines)

pub hypotheses_back-requires-clause-hypotheses : goal.hypotheses_back-requires-clause-hypotheses
hypotheses_back-requires-clause-hypotheses c =
    let h = c.args.history.now in
    let mid = c.stated_back.new.work in
    subst (All (IsTermIn h mid)) (sym c.as_slice.ensures.value) (elimination_grown h c.args.work.now mid c.requires.stands c.stated_back.ensures.grows c.args.goal.now c.requires.goal c.args.e.now c.requires.serves).hypotheses

pub hypotheses_back-requires-clause-lines : goal.hypotheses_back-requires-clause-lines
hypotheses_back-requires-clause-lines c =
    let h = c.args.history.now in
    let mid = c.stated_back.new.work in
    subst (λ (ids : List TermId). HoldFirst mid (map (hypothesis_goal (terms_at mid.bank c.args.goal.now)) (terms_at mid.bank ids)) c.args.lines.now) (sym c.as_slice.ensures.value)
    (first_grown h c.args.work.now mid c.requires.stands c.stated_back.ensures.grows c.args.goal.now c.requires.goal c.args.e.now c.requires.serves c.args.lines.now c.requires.lines)

pub hypotheses_back-requires-clause-line : goal.hypotheses_back-requires-clause-line
hypotheses_back-requires-clause-line c =
    let h = c.args.history.now in
    let mid = c.stated_back.new.work in
    let same = stated_same h c.args.work.now mid c.requires.stands c.stated_back.ensures.grows c.args.goal.now c.requires.goal c.args.e.now c.requires.serves in
    subst (λ (ids : List TermId). LineHasOnly mid c.in_ok-stated.stated (terms_at mid.bank c.args.goal.now ++ map not_term (terms_at mid.bank ids))) (sym c.as_slice.ensures.value)
    (subst (LineHasOnly mid c.in_ok-stated.stated) (sym same) c.in_ok-stated.ensures.line)

pub returns-clause-line : goal.returns-clause-line
returns-clause-line c =
    subst (λ g. IfOk c.hypotheses_back.result (λ n. LineHasOnly c.hypotheses_back.new.work n g)) (goal_same c.args.history.now c.args.work.now c.stated_back.new.work c.requires.stands c.stated_back.ensures.grows c.args.goal.now c.requires.goal) c.hypotheses_back.ensures.line

pub returns-clause-grows : goal.returns-clause-grows
returns-clause-grows c = WorkGrows-trans c.args.history.now c.args.work.now c.stated_back.new.work c.hypotheses_back.new.work c.stated_back.ensures.grows c.hypotheses_back.ensures.grows
