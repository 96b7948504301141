use Rattle.std.proofs.Common.{◌∷◌, [], ◌∙◌, ℕ, List, sym, ap, subst}
use Rattle.nq_clause.specs.declared.substitution.Pair.{Pair}
use Rattle.nq_bank.specs.declared.node.TermId.{TermId}
use Rattle.nq_bank.specs.Content.{terms_at}
use Rattle.std.specs.Prelude.{All}
use Rattle.nq_rule.proofs.Made.{for_ok}
use Rattle.nq_kernel.proofs.GrowingLemmas.{WorkGrows-trans}
use Rattle.nq_lines.specs.Lines.{IsTermIn, LineHasOnly}
use Rattle.nq_lines.specs.Instances.{ArePairsIn}
use Rattle.nq_lines.proofs.LineLemmas.{only_stands}
use Rattle.nq_lines.proofs.InstanceLemmas.{pairs_in_grown}
use Rattle.nq_moves.specs.Renamed.{ComesBack}
use Rattle.nq_moves.specs.Ways.{IsWay}
use Rattle.nq_elim.specs.Reasons.{whole_at}
use Rattle.nq_elim.proofs.ClosingLemmas.{clause_back}
use Rattle.nq_elim.proofs.closing.close_first.Goals as goal

pub close_move-requires-clause-goal : goal.close_move-requires-clause-goal
close_move-requires-clause-goal c = subst (All (IsTermIn c.args.history.now c.args.work.now)) (sym c.as_slice.ensures.value) c.requires.renaming.literals_in

pub close_move-requires-clause-way : goal.close_move-requires-clause-way
close_move-requires-clause-way c = subst (λ (ids : List TermId). IsWay c.args.history.now c.args.work.now ids c.args.elimination.now.moved) (sym c.as_slice.ensures.value) c.requires.moved.way

pub put_back-requires-clause-line : goal.put_back-requires-clause-line
put_back-requires-clause-line c = only_stands c.close_move.new.work c.in_ok-renamed.renamed _ c.in_ok-renamed.ensures.line

pub put_back-requires-clause-pairs : goal.put_back-requires-clause-pairs
put_back-requires-clause-pairs c =
    subst (ArePairsIn c.args.history.now c.close_move.new.work) (sym (c.in_ok-pairs.ensures.ok ∙ c.as_slice-2.ensures.value))
    (pairs_in_grown c.args.history.now c.args.work.now c.close_move.new.work c.args.elimination.now.renaming.pairs.items c.requires.stands c.close_move.ensures.grows c.requires.renaming.over)

pub returns-clause-grows : goal.returns-clause-grows
returns-clause-grows c = WorkGrows-trans c.args.history.now c.args.work.now c.close_move.new.work c.put_back.new.work c.close_move.ensures.grows c.put_back.ensures.grows

pub returns-clause-line : goal.returns-clause-line
returns-clause-line c =
    let h = c.args.history.now in
    let old = c.args.work.now in
    let mid = c.close_move.new.work in
    let new = c.put_back.new.work in
    let e = c.args.elimination.now in
    let line : ℕ = c.in_ok-renamed.renamed in
    let has : LineHasOnly mid line (terms_at old.bank e.renaming.literals.items) = subst (λ (ids : List TermId). LineHasOnly mid line (terms_at old.bank ids)) c.as_slice.ensures.value c.in_ok-renamed.ensures.line in
    for_ok c.put_back.result (λ n. ComesBack mid new c.in_ok-pairs.pairs.items line n) (λ n. LineHasOnly new n (whole_at old.bank e.reason))
    (λ n back. clause_back h old mid new (whole_at old.bank e.reason) e.renaming line n c.close_move.ensures.grows c.requires.renaming
    (subst (λ (ps : List Pair). ComesBack mid new ps line n) (c.in_ok-pairs.ensures.ok ∙ c.as_slice-2.ensures.value) back) has) c.put_back.ensures.line
