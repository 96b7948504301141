use Rattle.nq_bank.specs.Content.{term_at}
use Rattle.nq_lines.specs.Lines.{CutsTo, LineHasOnly}
use Rattle.nq_lines.proofs.LineLemmas.{only_stands}
use Rattle.nq_rule.proofs.Made.{for_ok}
use Rattle.nq_moves.specs.Eliminated.{stated_goal}
use Rattle.nq_moves.proofs.EliminatedLemmas.{equation_cut}
use Rattle.nq_moves.proofs.uncovering.equation_back.Goals as goal

pub cut-requires-clause-first : goal.cut-requires-clause-first
cut-requires-clause-first c = only_stands c.args.work.now c.args.e.now.line _ c.requires.serves.says

pub cut-requires-clause-second : goal.cut-requires-clause-second
cut-requires-clause-second c = only_stands c.args.work.now c.args.line _ c.requires.line

pub cut-requires-clause-term : goal.cut-requires-clause-term
cut-requires-clause-term c = c.requires.serves.equation

pub returns-clause-line : goal.returns-clause-line
returns-clause-line c =
    let old = c.args.work.now in
    let new = c.cut.new.work in
    let e = c.args.e.now in
    for_ok c.cut.result (λ n. CutsTo old new (term_at old.bank e.equation) e.line c.args.line n) (λ n. LineHasOnly new n (stated_goal old.bank c.args.goal.now e))
    (λ n cuts. equation_cut c.args.history.now old c.args.goal.now e c.requires.serves new c.args.line n c.requires.line cuts) c.cut.ensures.line
