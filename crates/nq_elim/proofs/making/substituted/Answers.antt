use Rattle.std.proofs.Common.{◌∙◌, List, sym, subst}
use Rattle.std.specs.Prelude.{All, IfSome}
use Rattle.nq_bank.specs.declared.node.TermId.{TermId}
use Rattle.nq_proof.specs.Clauses.{Clause}
use Rattle.nq_lines.specs.Lines.{IsTermIn}
use Rattle.nq_moves.specs.Ways.{IsMove}
use Rattle.nq_moves.proofs.NamingLemmas.{some_as}
use Rattle.nq_elim.specs.Reasons.{whole_at}
use Rattle.nq_elim.specs.Eliminations.{IsRenamedClause}
use Rattle.nq_elim.proofs.GrownLemmas.{terms_grown}
use Rattle.nq_elim.proofs.ReasonLemmas.{same_whole, reason_grown}
use Rattle.nq_elim.proofs.WayLemmas.{renamed_clause_grown}
use Rattle.nq_elim.proofs.making.substituted.Goals as goal

pub substitute_move-requires-clause-goal : goal.substitute_move-requires-clause-goal
substitute_move-requires-clause-goal c = subst (All (IsTermIn c.args.history.now c.args.work.now)) (sym c.as_slice.ensures.value) c.requires.renaming.literals_in

pub finished-requires-clause-goal : goal.finished-requires-clause-goal
finished-requires-clause-goal c = terms_grown c.args.history.now c.args.work.now c.substitute_move.new.work c.requires.stands c.substitute_move.ensures.grows c.args.goal.now c.requires.goal

pub finished-requires-clause-reason : goal.finished-requires-clause-reason
finished-requires-clause-reason c = reason_grown c.args.history.now c.args.work.now c.substitute_move.new.work c.requires.stands c.substitute_move.ensures.grows c.args.goal.now c.requires.goal c.args.reason c.requires.reason

pub finished-requires-clause-renaming : goal.finished-requires-clause-renaming
finished-requires-clause-renaming c =
    let h = c.args.history.now in
    let old = c.args.work.now in
    let new = c.substitute_move.new.work in
    let up = c.substitute_move.ensures.grows in
    subst (λ (d : Clause). IsRenamedClause h new d c.args.renaming) (sym (same_whole h old new c.requires.stands up c.args.goal.now c.requires.goal c.args.reason c.requires.reason))
    (renamed_clause_grown h old new c.requires.stands up (whole_at old.bank c.args.reason) c.args.renaming c.requires.renaming)

pub finished-requires-clause-moved : goal.finished-requires-clause-moved
finished-requires-clause-moved c =
    let h = c.args.history.now in
    let new = c.substitute_move.new.work in
    subst (λ (ids : List TermId). IsMove h new ids c.in-Some.moved) c.as_slice.ensures.value
    (some_as (IsMove h new c.as_slice.result.now) c.in_ok-moved.field-0 c.in-Some.moved c.in_ok-moved.ensures.moved c.in-Some.is)
