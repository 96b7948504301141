use Rattle.std.proofs.Common.{get_or, arith}
use Rattle.nq_bank.specs.Content.{terms_at}
use Rattle.nq_kernel.proofs.GrowingLemmas.{WorkGrows-refl, WorkGrows-trans}
use Rattle.nq_lines.specs.declared.facts.Fact.{Fact}
use Rattle.nq_lines.proofs.LineLemmas.{only_stands, line_grown}
use Rattle.nq_lines.proofs.TermLemmas.{term_grown, same_term_grown}
use Rattle.nq_elim.proofs.CutLemmas.{one_cut, all_cut}
use Rattle.nq_elim.proofs.closing.close_facts.Goals as goal

pub loop-fact-init : goal.loop-fact-init
loop-fact-init c = record { grows = WorkGrows-refl c.args.history.now c.args.work.now c.requires.stands; line = c.requires.line }

pub cut-requires-clause-first : goal.cut-requires-clause-first
cut-requires-clause-first c =
    let none : Fact = record { term = record { 0 = 0 }; line = 0 } in
    let w = c.args.work.now in
    let i = c.loop-fact.fact-index in
    let f : Fact = get_or c.args.facts.now i none in
    line_grown c.args.history.now w c.loop-fact.work f.line c.requires.stands c.loop-fact.invariant.grows (only_stands w f.line _ (c.requires.facts i none (omega (arith, c.loop-fact-test.true))).says)

pub cut-requires-clause-second : goal.cut-requires-clause-second
cut-requires-clause-second c = only_stands c.loop-fact.work c.loop-fact.left _ c.loop-fact.invariant.line

pub cut-requires-clause-term : goal.cut-requires-clause-term
cut-requires-clause-term c =
    let none : Fact = record { term = record { 0 = 0 }; line = 0 } in
    let i = c.loop-fact.fact-index in
    term_grown c.args.history.now c.args.work.now c.loop-fact.work (get_or c.args.facts.now i none).term c.requires.stands c.loop-fact.invariant.grows (c.requires.facts i none (omega (arith, c.loop-fact-test.true))).term

pub returns-in_err-left-clause-grows : goal.returns-in_err-left-clause-grows
returns-in_err-left-clause-grows c = WorkGrows-trans c.args.history.now c.args.work.now c.loop-fact.work c.cut.new.work c.loop-fact.invariant.grows c.cut.ensures.grows

pub loop-fact-preserved : goal.loop-fact-preserved
loop-fact-preserved c =
    let none : Fact = record { term = record { 0 = 0 }; line = 0 } in
    let h = c.args.history.now in
    let w = c.args.work.now in
    let mid = c.loop-fact.work in
    let new = c.cut.new.work in
    let i = c.loop-fact.fact-index in
    let up = c.loop-fact.invariant.grows in
    let here = c.requires.facts i none (omega (arith, c.loop-fact-test.true)) in
    let f : Fact = get_or c.args.facts.now i none in
    record {
      grows = WorkGrows-trans h w mid new up c.cut.ensures.grows;
      line =
          one_cut h w mid new c.requires.stands up (terms_at w.bank c.args.rest.now) c.args.facts.now i none c.loop-fact.left c.in_ok-left.left (omega (arith, c.loop-fact-test.true)) (same_term_grown h w mid f.term up here.term)
          c.loop-fact.invariant.line here.says c.in_ok-left.ensures.line;
    }

pub returns-clause-line : goal.returns-clause-line
returns-clause-line c = all_cut c.loop-fact.work c.args.work.now.bank (terms_at c.args.work.now.bank c.args.rest.now) c.args.facts.now c.loop-fact.fact-index c.loop-fact.left (omega (arith, c.loop-fact-test.false)) c.loop-fact.invariant.line
