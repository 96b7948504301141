use Rattle.std.proofs.Common.{[], ◌∷◌, map, ap, subst}
use Rattle.std.specs.Prelude.{codes, is_some}
use Rattle.nq_logic.specs.Terms.{substituted}
use Rattle.nq_bank.specs.Content.{term_at, text_at}
use Rattle.nq_bank.specs.Shells.{shell_at}
use Rattle.nq_clause.specs.Substitution.{substitution_at}
use Rattle.nq_kernel.proofs.GrowingLemmas.{WorkGrows-trans}
use Rattle.nq_rule.proofs.Made.{for_ok}
use Rattle.nq_lines.specs.Instances.{HasRow}
use Rattle.nq_lines.specs.Lines.{LineHasOnly}
use Rattle.nq_lines.proofs.PairLemmas.{one_in, one_paired}
use Rattle.nq_eliminate.specs.Made.{made_row}
use Rattle.nq_eliminate.proofs.InstanceLemmas.{row_grown}
use Rattle.nq_eliminate.proofs.shells.row_about.Goals as goal

pub axiom_row-requires-clause-axiom : goal.axiom_row-requires-clause-axiom
axiom_row-requires-clause-axiom c = ap is_some (row_grown c.args.history.now c.args.work.now c.symbol.new.work c.requires.stands c.symbol.ensures.grows c.args.shell.now c.requires.shell _ c.requires.row)

pub axiom_row-requires-clause-pairs : goal.axiom_row-requires-clause-pairs
axiom_row-requires-clause-pairs c =
    one_in c.args.history.now c.args.work.now c.symbol.new.work c.requires.stands c.symbol.ensures.grows c.in_ok-pairs.pairs.items c.in_ok-variable.variable c.args.t c.in_ok-pairs.ensures.ok c.in_ok-variable.ensures.name c.requires.term

pub returns-clause-line : goal.returns-clause-line
returns-clause-line c =
    let h = c.args.history.now in
    let old = c.args.work.now in
    let mid = c.symbol.new.work in
    let new = c.axiom_row.new.work in
    let up = c.symbol.ensures.grows in
    let s = shell_at old.bank c.args.shell.now in
    let paired = one_paired h old mid c.requires.stands up c.in_ok-pairs.pairs.items c.in_ok-variable.variable c.args.t c.in_ok-pairs.ensures.ok c.in_ok-variable.ensures.name c.requires.term in
    let row = row_grown h old mid c.requires.stands up c.args.shell.now c.requires.shell _ c.requires.row in
    for_ok c.axiom_row.result (HasRow h mid new (text_at mid.bank c.args.shell.now.constructor) 5 0 (substitution_at mid.bank c.in_ok-pairs.pairs.items)) (λ n. LineHasOnly new n (map (substituted ((codes "X", term_at old.bank c.args.t) ∷ [])) (made_row s)))
    (λ n has. subst (λ p. LineHasOnly new n (map (substituted p) (made_row s))) paired (has (made_row s) row)) c.axiom_row.ensures.line

pub returns-clause-grows : goal.returns-clause-grows
returns-clause-grows c = WorkGrows-trans c.args.history.now c.args.work.now c.symbol.new.work c.axiom_row.new.work c.symbol.ensures.grows c.axiom_row.ensures.grows
