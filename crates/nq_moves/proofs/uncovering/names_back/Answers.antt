use Rattle.std.proofs.Common.{◌∙◌, List, sym, subst}
use Rattle.nq_clause.specs.declared.substitution.Pair.{Pair}
use Rattle.nq_kernel.proofs.GrowingLemmas.{WorkGrows-refl}
use Rattle.nq_lines.specs.Instances.{ArePairsIn}
use Rattle.nq_lines.specs.Lines.{LineHasOnly}
use Rattle.nq_lines.proofs.LineLemmas.{only_stands}
use Rattle.nq_rule.proofs.Made.{for_ok}
use Rattle.nq_moves.specs.Eliminated.{whole_goal}
use Rattle.nq_moves.specs.Renamed.{ComesBack}
use Rattle.nq_moves.proofs.EliminatedLemmas.{named_back}
use Rattle.nq_moves.proofs.uncovering.names_back.Goals as goal

pub returns-in_err-pairs-clause-grows : goal.returns-in_err-pairs-clause-grows
returns-in_err-pairs-clause-grows c = WorkGrows-refl c.args.history.now c.args.work.now c.requires.stands

pub put_back-requires-clause-line : goal.put_back-requires-clause-line
put_back-requires-clause-line c = only_stands c.args.work.now c.args.line _ c.requires.line

pub put_back-requires-clause-pairs : goal.put_back-requires-clause-pairs
put_back-requires-clause-pairs c = subst (ArePairsIn c.args.history.now c.args.work.now) (sym (c.in_ok-pairs.ensures.ok ∙ c.as_slice.ensures.value)) c.requires.serves.over

pub returns-clause-line : goal.returns-clause-line
returns-clause-line c =
    let old = c.args.work.now in
    let new = c.put_back.new.work in
    let e = c.args.e.now in
    for_ok c.put_back.result (λ n. ComesBack old new c.in_ok-pairs.pairs.items c.args.line n) (λ n. LineHasOnly new n (whole_goal old.bank c.args.goal.now e))
    (λ n back. named_back c.args.history.now old c.args.goal.now e c.requires.serves new c.args.line n c.requires.line (subst (λ (ps : List Pair). ComesBack old new ps c.args.line n) (c.in_ok-pairs.ensures.ok ∙ c.as_slice.ensures.value) back)) c.put_back.ensures.line
