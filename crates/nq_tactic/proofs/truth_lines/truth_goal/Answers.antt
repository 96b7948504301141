use Rattle.std.proofs.Common.{◌∷◌, [], subst, sym}
use Rattle.std.specs.Prelude.{All}
use Rattle.nq_bank.specs.declared.node.TermId.{TermId}
use Rattle.nq_kernel.specs.declared.work.Work.{Work}
use Rattle.nq_kernel.specs.Growing.{WorkGrows}
use Rattle.nq_kernel.proofs.GrowingLemmas.{WorkGrows-trans}
use Rattle.nq_lines.specs.Lines.{IsTermIn}
use Rattle.nq_lines.proofs.TermLemmas.{term_grown}
use Rattle.nq_elim.proofs.ListLemmas.{all_none, all_cons}
use Rattle.nq_tactic.proofs.truth_lines.truth_goal.Goals as goal

pub returns-in_err-yes-clause-grows : goal.returns-in_err-yes-clause-grows
returns-in_err-yes-clause-grows c = WorkGrows-trans c.args.history.now c.args.work.now c.deny.new.work c.truth.new.work c.deny.ensures.grows c.truth.ensures.grows

pub equate-requires-clause-left : goal.equate-requires-clause-left
equate-requires-clause-left c = term_grown c.args.history.now c.args.work.now c.truth.new.work c.args.t c.requires.stands (WorkGrows-trans c.args.history.now c.args.work.now c.deny.new.work c.truth.new.work c.deny.ensures.grows c.truth.ensures.grows) c.requires.term

pub returns-in_err-equation-clause-grows : goal.returns-in_err-equation-clause-grows
returns-in_err-equation-clause-grows c =
    let h = c.args.history.now in
    let w0 : Work = c.args.work.now in
    let w2 : Work = c.truth.new.work in
    WorkGrows-trans h w0 w2 c.equate.new.work (WorkGrows-trans h w0 c.deny.new.work w2 c.deny.ensures.grows c.truth.ensures.grows) c.equate.ensures.grows

pub returns-in-Ok-clause-goal : goal.returns-in-Ok-clause-goal
returns-in-Ok-clause-goal c =
    let h = c.args.history.now in
    let w1 : Work = c.deny.new.work in
    let w3 : Work = c.equate.new.work in
    let P : TermId → Type 0 = IsTermIn h w3 in
    let grows : WorkGrows h w1 w3 = WorkGrows-trans h w1 c.truth.new.work w3 c.truth.ensures.grows c.equate.ensures.grows in
    let denied : P c.in_ok-denied.denied = term_grown h w1 w3 c.in_ok-denied.denied c.deny.ensures.grows.stands grows c.in_ok-denied.ensures.over in
    subst (All P) (sym c.in-Ok.ensures.items) (all_cons P c.in_ok-denied.denied (c.in_ok-equation.equation ∷ []) denied (all_cons P c.in_ok-equation.equation [] c.in_ok-equation.ensures.over (all_none P)))

pub returns-in-Ok-clause-grows : goal.returns-in-Ok-clause-grows
returns-in-Ok-clause-grows c =
    let h = c.args.history.now in
    let w0 : Work = c.args.work.now in
    let w2 : Work = c.truth.new.work in
    WorkGrows-trans h w0 w2 c.equate.new.work (WorkGrows-trans h w0 c.deny.new.work w2 c.deny.ensures.grows c.truth.ensures.grows) c.equate.ensures.grows

pub returns-in-Err-clause-grows : goal.returns-in-Err-clause-grows
returns-in-Err-clause-grows c =
    let h = c.args.history.now in
    let w0 : Work = c.args.work.now in
    let w2 : Work = c.truth.new.work in
    WorkGrows-trans h w0 w2 c.equate.new.work (WorkGrows-trans h w0 c.deny.new.work w2 c.deny.ensures.grows c.truth.ensures.grows) c.equate.ensures.grows
