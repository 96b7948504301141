use Rattle.std.proofs.Common.{rules, ◌∙◌, get_or, sym, subst}
use Rattle.nq_logic.specs.Words.{true_term}
use Rattle.nq_bank.specs.declared.node.TermId.{TermId}
use Rattle.nq_bank.specs.Content.{IsIdOf, term_at, terms_at}
use Rattle.nq_rule.proofs.Made.{for_ok}
use Rattle.nq_kernel.specs.declared.work.Work.{Work}
use Rattle.nq_kernel.proofs.GrowingLemmas.{WorkGrows-trans, WorkGrows-refl}
use Rattle.nq_lines.specs.Lines.{IsTermIn}
use Rattle.nq_lines.proofs.TermLemmas.{term_grown, same_term_grown}
use Rattle.nq_induct.specs.Claims.{any_of}
use Rattle.nq_induct.proofs.ClaimLemmas.{rest_of, one_claim, more_claim, others_left, others_all, claim_made}
use Rattle.nq_induct.proofs.claims.+claim_of.Goals as goal

pub returns-then-goal-eq1-clause-claim : goal.returns-then-goal-eq1-clause-claim
returns-then-goal-eq1-clause-claim t c =
    let d : TermId = record { 0 = 0 } in
    record { stands = (c.requires.goal 0 d c.requires.some).stands; denotes = sym (one_claim c.args.work.now.bank c.args.goal.now d c.requires.some c.if-goal-eq1.true) }

pub returns-then-goal-eq1-clause-over : goal.returns-then-goal-eq1-clause-over
returns-then-goal-eq1-clause-over t c = let d : TermId = record { 0 = 0 } in c.requires.goal 0 d c.requires.some

pub returns-then-goal-eq1-clause-grows : goal.returns-then-goal-eq1-clause-grows
returns-then-goal-eq1-clause-grows t c = WorkGrows-refl c.args.history.now c.args.work.now c.requires.stands

pub claim_of-requires : goal.claim_of-requires
claim_of-requires t c =
    (search rules, (c.requires.stands, (c.requires.truth, (others_left c.args.goal.now c.requires.some c.if-goal-eq1.false, others_all (IsTermIn c.args.history.now c.args.work.now) c.args.goal.now c.requires.goal))))

pub condition-requires-clause-parts : goal.condition-requires-clause-parts
condition-requires-clause-parts t c =
    let d : TermId = record { 0 = 0 } in
    record {
      test = term_grown c.args.history.now c.args.work.now c.claim_of.new.work (get_or c.args.goal.now 0 d) c.requires.stands c.claim_of.ensures.grows (c.requires.goal 0 d c.requires.some);
      first = term_grown c.args.history.now c.args.work.now c.claim_of.new.work c.args.shown c.requires.stands c.claim_of.ensures.grows c.requires.truth.term;
      second = c.in_ok-second.ensures.over;
    }

pub returns-clause-grows : goal.returns-clause-grows
returns-clause-grows t c = WorkGrows-trans c.args.history.now c.args.work.now c.claim_of.new.work c.condition.new.work c.claim_of.ensures.grows c.condition.ensures.grows

pub returns-clause-claim : goal.returns-clause-claim
returns-clause-claim t c =
    let d : TermId = record { 0 = 0 } in
    let h = c.args.history.now in
    let w0 : Work = c.args.work.now in
    let w1 : Work = c.claim_of.new.work in
    let w2 : Work = c.condition.new.work in
    let goal = c.args.goal.now in
    let first : TermId = get_or goal 0 d in
    for_ok c.condition.result _ (λ p. IsIdOf w2.bank p (any_of (terms_at w0.bank goal))) (λ p is.
    subst (IsIdOf w2.bank p) (sym (more_claim w0.bank goal d c.requires.some c.if-goal-eq1.false))
    (claim_made w1 w2 p first c.args.shown c.in_ok-second.second (term_at w0.bank first) true_term (any_of (terms_at w0.bank (rest_of goal)))
    (same_term_grown h w0 w1 first c.claim_of.ensures.grows (c.requires.goal 0 d c.requires.some))
    (same_term_grown h w0 w1 c.args.shown c.claim_of.ensures.grows c.requires.truth.term ∙ c.requires.truth.is.denotes)
    c.in_ok-second.ensures.claim.denotes is)) c.condition.ensures.condition
