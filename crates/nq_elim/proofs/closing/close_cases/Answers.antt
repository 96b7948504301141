use Rattle.std.proofs.Common.{get_or, false, arith}
use Rattle.nq_bank.specs.Content.{terms_at}
use Rattle.nq_kernel.proofs.GrowingLemmas.{WorkGrows-refl, WorkGrows-trans}
use Rattle.nq_lines.proofs.LineLemmas.{only_stands, line_grown}
use Rattle.nq_lines.proofs.TermLemmas.{same_term_grown}
use Rattle.nq_elim.specs.declared.cases.Case.{Case}
use Rattle.nq_elim.proofs.CaseLemmas.{case_grown}
use Rattle.nq_elim.proofs.CutLemmas.{case_line, case_count, one_closed, all_closed}
use Rattle.nq_elim.proofs.closing.close_cases.Goals as goal

pub loop-i-init : goal.loop-i-init
loop-i-init c = record { grows = WorkGrows-refl c.args.history.now c.args.work.now c.requires.stands; line = c.requires.line }

pub close_case-requires-clause-case : goal.close_case-requires-clause-case
close_case-requires-clause-case c =
    let none : Case = record { literal = record { 0 = 0 }; other = record { 0 = 0 }; denied = false } in
    case_grown c.args.history.now c.args.work.now c.loop-i.work c.requires.stands c.loop-i.invariant.grows (get_or c.args.cases.now c.loop-i.i none) (c.requires.cases c.loop-i.i none (omega (arith, c.loop-i-test.true)))

pub close_case-requires-clause-line : goal.close_case-requires-clause-line
close_case-requires-clause-line c = only_stands c.loop-i.work c.loop-i.left _ c.loop-i.invariant.line

pub close_case-requires-clause-other : goal.close_case-requires-clause-other
close_case-requires-clause-other c =
    let none : Case = record { literal = record { 0 = 0 }; other = record { 0 = 0 }; denied = false } in
    let w = c.args.work.now in
    line_grown c.args.history.now w c.loop-i.work (get_or c.args.lines.now c.loop-i.i 0) c.requires.stands c.loop-i.invariant.grows
    (only_stands w (get_or c.args.lines.now c.loop-i.i 0) _ (case_line w w.bank c.args.cases.now (terms_at w.bank c.args.goal.now) c.args.lines.now c.loop-i.i none 0 c.requires.lines (omega (arith, c.loop-i-test.true))))

pub returns-in_err-left-clause-grows : goal.returns-in_err-left-clause-grows
returns-in_err-left-clause-grows c = WorkGrows-trans c.args.history.now c.args.work.now c.loop-i.work c.close_case.new.work c.loop-i.invariant.grows c.close_case.ensures.grows

pub loop-i-preserved : goal.loop-i-preserved
loop-i-preserved c =
    let none : Case = record { literal = record { 0 = 0 }; other = record { 0 = 0 }; denied = false } in
    let h = c.args.history.now in
    let w = c.args.work.now in
    let mid = c.loop-i.work in
    let new = c.close_case.new.work in
    let i = c.loop-i.i in
    let up = c.loop-i.invariant.grows in
    let here = c.requires.cases i none (omega (arith, c.loop-i-test.true)) in
    let case : Case = get_or c.args.cases.now i none in
    record {
      grows = WorkGrows-trans h w mid new up c.close_case.ensures.grows;
      line =
          one_closed h w mid new c.requires.stands up (terms_at w.bank c.args.goal.now) c.args.cases.now i none c.loop-i.left (get_or c.args.lines.now i 0) c.in_ok-left.left (omega (arith, c.loop-i-test.true))
          (same_term_grown h w mid case.literal up here.literal) (same_term_grown h w mid case.other up here.other) c.loop-i.invariant.line
          (case_line w w.bank c.args.cases.now (terms_at w.bank c.args.goal.now) c.args.lines.now i none 0 c.requires.lines (omega (arith, c.loop-i-test.true))) c.in_ok-left.ensures.line;
    }

pub returns-clause-line : goal.returns-clause-line
returns-clause-line c = all_closed c.loop-i.work c.args.work.now.bank (terms_at c.args.work.now.bank c.args.goal.now) c.args.cases.now c.loop-i.i c.loop-i.left (omega (arith, c.loop-i-test.false)) c.loop-i.invariant.line

pub bounds-lines-i : goal.bounds-lines-i
bounds-lines-i c =
    let w = c.args.work.now in
    let e = case_count w w.bank c.args.cases.now (terms_at w.bank c.args.goal.now) c.args.lines.now c.requires.lines in
    omega (arith, e, c.loop-i-test.true)
