use Rattle.std.proofs.Common.{get_or, arith}
use Rattle.nq_bank.specs.declared.node.TermId.{TermId}
use Rattle.nq_bank.specs.Content.{terms_at}
use Rattle.nq_kernel.proofs.GrowingLemmas.{WorkGrows-refl, WorkGrows-trans}
use Rattle.nq_lines.proofs.LineLemmas.{line_grown, only_stands}
use Rattle.nq_lines.proofs.TermLemmas.{same_term_grown, term_grown}
use Rattle.nq_moves.proofs.EliminatedLemmas.{hypothesis_count, hypothesis_cut, hypothesis_line, none_left}
use Rattle.nq_moves.proofs.uncovering.hypotheses_back.Goals as goal

pub loop-i-init : goal.loop-i-init
loop-i-init c = record { grows = WorkGrows-refl c.args.history.now c.args.work.now c.requires.stands; line = c.requires.line }

pub cut-requires-clause-first : goal.cut-requires-clause-first
cut-requires-clause-first c =
    let none : TermId = record { 0 = 0 } in
    let w = c.args.work.now in
    let i = c.loop-i.i in
    line_grown c.args.history.now w c.loop-i.work (get_or c.args.lines.now i 0) c.requires.stands c.loop-i.invariant.grows
    (only_stands w (get_or c.args.lines.now i 0) _ (hypothesis_line w w.bank (terms_at w.bank c.args.goal.now) c.args.hypotheses.now c.args.lines.now i 0 none c.requires.lines (omega (arith, c.loop-i-test.true))))

pub cut-requires-clause-second : goal.cut-requires-clause-second
cut-requires-clause-second c = only_stands c.loop-i.work c.loop-i.left _ c.loop-i.invariant.line

pub cut-requires-clause-term : goal.cut-requires-clause-term
cut-requires-clause-term c =
    let none : TermId = record { 0 = 0 } in
    term_grown c.args.history.now c.args.work.now c.loop-i.work (get_or c.args.hypotheses.now c.loop-i.i none) c.requires.stands c.loop-i.invariant.grows (c.requires.hypotheses c.loop-i.i none (omega (arith, c.loop-i-test.true)))

pub returns-in_err-left-clause-grows : goal.returns-in_err-left-clause-grows
returns-in_err-left-clause-grows c = WorkGrows-trans c.args.history.now c.args.work.now c.loop-i.work c.cut.new.work c.loop-i.invariant.grows c.cut.ensures.grows

pub loop-i-preserved : goal.loop-i-preserved
loop-i-preserved c =
    let none : TermId = record { 0 = 0 } in
    let h = c.args.history.now in
    let w = c.args.work.now in
    let mid = c.loop-i.work in
    let new = c.cut.new.work in
    let i = c.loop-i.i in
    let up = c.loop-i.invariant.grows in
    let ids = c.args.hypotheses.now in
    let g = terms_at w.bank c.args.goal.now in
    record {
      grows = WorkGrows-trans h w mid new up c.cut.ensures.grows;
      line =
          hypothesis_cut h w mid new c.requires.stands up g ids i none c.loop-i.left (get_or c.args.lines.now i 0) c.in_ok-left.left (omega (arith, c.loop-i-test.true))
          (same_term_grown h w mid (get_or ids i none) up (c.requires.hypotheses i none (omega (arith, c.loop-i-test.true)))) c.loop-i.invariant.line
          (hypothesis_line w w.bank g ids c.args.lines.now i 0 none c.requires.lines (omega (arith, c.loop-i-test.true))) c.in_ok-left.ensures.line;
    }

pub returns-clause-line : goal.returns-clause-line
returns-clause-line c =
    let bank = c.args.work.now.bank in
    none_left c.loop-i.work bank (terms_at bank c.args.goal.now) c.args.hypotheses.now c.loop-i.i c.loop-i.left (omega (arith, c.loop-i-test.false)) c.loop-i.invariant.line

pub bounds-lines-i : goal.bounds-lines-i
bounds-lines-i c =
    let w = c.args.work.now in
    let many = hypothesis_count w w.bank (terms_at w.bank c.args.goal.now) c.args.hypotheses.now c.args.lines.now c.requires.lines in
    omega (arith, many, c.loop-i-test.true)
