use Rattle.std.proofs.Common.{◌∙◌, sym}
use Rattle.nq_kernel.proofs.GrowingLemmas.{WorkGrows-trans}
use Rattle.nq_moves.specs.Naming.{IsRenaming}
use Rattle.nq_moves.proofs.NamingLemmas.{some_as}
use Rattle.nq_elim.specs.Reasons.{whole_at}
use Rattle.nq_elim.proofs.GrownLemmas.{terms_grown, same_terms}
use Rattle.nq_elim.proofs.ReasonLemmas.{same_whole, reason_grown}
use Rattle.nq_elim.proofs.WayLemmas.{renamed_clause}
use Rattle.nq_elim.proofs.making.renamed.Goals as goal

pub substituted-requires-clause-goal : goal.substituted-requires-clause-goal
substituted-requires-clause-goal c = terms_grown c.args.history.now c.args.work.now c.rename.new.work c.requires.stands c.rename.ensures.grows c.args.goal.now c.requires.goal

pub substituted-requires-clause-reason : goal.substituted-requires-clause-reason
substituted-requires-clause-reason c = reason_grown c.args.history.now c.args.work.now c.rename.new.work c.requires.stands c.rename.ensures.grows c.args.goal.now c.requires.goal c.args.reason c.requires.reason

pub substituted-requires-clause-renaming : goal.substituted-requires-clause-renaming
substituted-requires-clause-renaming c =
    let h = c.args.history.now in
    let old = c.args.work.now in
    let new = c.rename.new.work in
    let up = c.rename.ensures.grows in
    renamed_clause h new c.args.whole.now (whole_at new.bank c.args.reason) c.in-Some.renaming
    (same_terms h old new c.requires.stands up c.args.whole.now c.requires.over ∙ c.requires.whole ∙ sym (same_whole h old new c.requires.stands up c.args.goal.now c.requires.goal c.args.reason c.requires.reason))
    (some_as (IsRenaming h new c.args.whole.now) c.in_ok-renaming.field-0 c.in-Some.renaming c.in_ok-renaming.ensures.renaming c.in-Some.is)

pub returns-in-Some-clause-grows : goal.returns-in-Some-clause-grows
returns-in-Some-clause-grows c = WorkGrows-trans c.args.history.now c.args.work.now c.rename.new.work c.substituted.new.work c.rename.ensures.grows c.substituted.ensures.grows
