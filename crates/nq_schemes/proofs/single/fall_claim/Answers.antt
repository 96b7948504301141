use Rattle.std.proofs.Common.{List, sym, subst}
use Rattle.nq_logic.specs.Terms.{Term, IsAmong}
use Rattle.nq_logic.specs.Words.{not_term}
use Rattle.nq_bank.specs.Content.{term_at, terms_at}
use Rattle.nq_kernel.specs.declared.work.Work.{Work}
use Rattle.nq_kernel.proofs.GrowingLemmas.{WorkGrows-trans}
use Rattle.nq_lines.proofs.TermLemmas.{both_ok}
use Rattle.nq_induct.proofs.GrownLemmas.{shown_truth_grown, same_terms}
use Rattle.nq_schemes.proofs.GrownLemmas.{terms_grown}
use Rattle.nq_schemes.proofs.SingleLemmas.{fall_claimed}
use Rattle.nq_schemes.proofs.single.fall_claim.Goals as goal

pub gather-requires-clause-truth : goal.gather-requires-clause-truth
gather-requires-clause-truth c = shown_truth_grown c.args.history.now c.args.work.now c.opposites.new.work c.requires.stands c.opposites.ensures.grows c.args.shown c.requires.truth

pub gather-requires-clause-goal : goal.gather-requires-clause-goal
gather-requires-clause-goal c = terms_grown c.args.history.now c.args.work.now c.opposites.new.work c.requires.stands c.opposites.ensures.grows c.args.literals.now c.requires.literals

pub returns-clause-grows : goal.returns-clause-grows
returns-clause-grows c = WorkGrows-trans c.args.history.now c.args.work.now c.opposites.new.work c.gather.new.work c.opposites.ensures.grows c.gather.ensures.grows

pub returns-clause-line : goal.returns-clause-line
returns-clause-line c =
    let w0 : Work = c.args.work.now in
    let w1 : Work = c.opposites.new.work in
    let t : Term = term_at w0.bank c.args.falls in
    let literals : List Term = terms_at w1.bank c.args.literals.now in
    let last : IsAmong (not_term t) literals = subst (λ (ts : List Term). IsAmong (not_term t) ts) (sym (same_terms c.args.history.now w0 w1 c.requires.stands c.opposites.ensures.grows c.args.literals.now c.requires.literals)) c.requires.last in
    both_ok c.gather.result _ _ _ (λ f id gathers. fall_claimed w1 c.gather.new.work literals t c.in_ok-line.line f c.in_ok-line.ensures.line last id gathers) c.gather.ensures.claim c.gather.ensures.line
