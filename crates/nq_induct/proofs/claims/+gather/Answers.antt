use Rattle.std.proofs.Common.{rules, ◌∷◌, ◌++◌, ◌∙◌, [], List, get_or, sym, subst, ap}
use Rattle.nq_logic.specs.Terms.{Term}
use Rattle.nq_logic.specs.Words.{if_term, true_term}
use Rattle.nq_bank.specs.declared.node.TermId.{TermId}
use Rattle.nq_bank.specs.Content.{IsIdOf, term_at, terms_at}
use Rattle.nq_kernel.specs.declared.work.Work.{Work}
use Rattle.nq_kernel.proofs.GrowingLemmas.{WorkGrows-trans, WorkGrows-refl}
use Rattle.nq_lines.specs.Lines.{IsTermIn, LineHasOnly}
use Rattle.nq_lines.specs.declared.facts.Fact.{Fact}
use Rattle.nq_lines.proofs.TermLemmas.{term_grown, same_term_grown}
use Rattle.nq_rule.proofs.Made.{for_ok}
use Rattle.nq_induct.specs.Claims.{any_of, GathersTo}
use Rattle.nq_induct.proofs.GrownLemmas.{shown_truth_grown}
use Rattle.nq_induct.proofs.ClaimLemmas.{rest_of, one_claim, one_term, more_claim, more_terms, others_left, others_all, gathered}
use Rattle.nq_induct.proofs.claims.+gather.Goals as goal

pub returns-then-goal-eq1-clause-claim : goal.returns-then-goal-eq1-clause-claim
returns-then-goal-eq1-clause-claim t c =
    let d : TermId = record { 0 = 0 } in
    record { stands = (c.requires.goal 0 d c.requires.some).stands; denotes = sym (one_claim c.args.work.now.bank c.args.goal.now d c.requires.some c.if-goal-eq1.true) }

pub returns-then-goal-eq1-clause-over : goal.returns-then-goal-eq1-clause-over
returns-then-goal-eq1-clause-over t c = let d : TermId = record { 0 = 0 } in c.requires.goal 0 d c.requires.some

pub returns-then-goal-eq1-clause-grows : goal.returns-then-goal-eq1-clause-grows
returns-then-goal-eq1-clause-grows t c = WorkGrows-refl c.args.history.now c.args.work.now c.requires.stands

pub returns-then-goal-eq1-clause-line : goal.returns-then-goal-eq1-clause-line
returns-then-goal-eq1-clause-line t c =
    let d : TermId = record { 0 = 0 } in
    let bank = c.args.work.now.bank in
    let goal = c.args.goal.now in
    let first : Term = term_at bank (get_or goal 0 d) in
    λ these h.
    subst (λ (p : Term). LineHasOnly c.args.work.now c.args.line (p ∷ these)) (sym (one_claim bank goal d c.requires.some c.if-goal-eq1.true))
    (subst (λ (ts : List Term). LineHasOnly c.args.work.now c.args.line (ts ++ these)) (one_term bank goal d c.requires.some c.if-goal-eq1.true) h)

pub gather-requires : goal.gather-requires
gather-requires t c =
    (search rules, (c.requires.stands, (c.requires.truth, (others_left c.args.goal.now c.requires.some c.if-goal-eq1.false, (others_all (IsTermIn c.args.history.now c.args.work.now) c.args.goal.now c.requires.goal, c.requires.line)))))

pub gather_one-requires-clause-truth : goal.gather_one-requires-clause-truth
gather_one-requires-clause-truth t c = shown_truth_grown c.args.history.now c.args.work.now c.gather.new.work c.requires.stands c.gather.ensures.grows c.args.shown c.requires.truth

pub gather_one-requires-clause-term : goal.gather_one-requires-clause-term
gather_one-requires-clause-term t c =
    let d : TermId = record { 0 = 0 } in
    term_grown c.args.history.now c.args.work.now c.gather.new.work (get_or c.args.goal.now 0 d) c.requires.stands c.gather.ensures.grows (c.requires.goal 0 d c.requires.some)

pub returns-clause-grows : goal.returns-clause-grows
returns-clause-grows t c = WorkGrows-trans c.args.history.now c.args.work.now c.gather.new.work c.gather_one.new.work c.gather.ensures.grows c.gather_one.ensures.grows

pub returns-clause-claim : goal.returns-clause-claim
returns-clause-claim t c =
    let d : TermId = record { 0 = 0 } in
    let h = c.args.history.now in
    let w0 : Work = c.args.work.now in
    let w1 : Work = c.gather.new.work in
    let w2 : Work = c.gather_one.new.work in
    let goal = c.args.goal.now in
    let first : TermId = get_or goal 0 d in
    for_ok c.gather_one.result _ (λ (f : Fact). IsIdOf w2.bank f.term (any_of (terms_at w0.bank goal))) (λ f is.
    subst (IsIdOf w2.bank f.term)
    (ap (λ (u : Term). if_term u true_term (term_at w1.bank c.in_ok-rest.rest.term)) (same_term_grown h w0 w1 first c.gather.ensures.grows (c.requires.goal 0 d c.requires.some)) ∙
    ap (λ (u : Term). if_term (term_at w0.bank first) true_term u) c.in_ok-rest.ensures.claim.denotes ∙
    sym (more_claim w0.bank goal d c.requires.some c.if-goal-eq1.false)) is) c.gather_one.ensures.claim

pub returns-clause-line : goal.returns-clause-line
returns-clause-line t c =
    let d : TermId = record { 0 = 0 } in
    let h = c.args.history.now in
    let w0 : Work = c.args.work.now in
    let w1 : Work = c.gather.new.work in
    let w2 : Work = c.gather_one.new.work in
    let goal = c.args.goal.now in
    let first : TermId = get_or goal 0 d in
    let t0 : Term = term_at w0.bank first in
    let ts : List Term = terms_at w0.bank (rest_of goal) in
    for_ok c.gather_one.result _ (λ (f : Fact). GathersTo w0 w2 (terms_at w0.bank goal) (any_of (terms_at w0.bank goal)) c.args.line f.line) (λ f one.
    subst (λ (p : Term). GathersTo w0 w2 (terms_at w0.bank goal) p c.args.line f.line) (sym (more_claim w0.bank goal d c.requires.some c.if-goal-eq1.false))
    (subst (λ (us : List Term). GathersTo w0 w2 us (if_term t0 true_term (any_of ts)) c.args.line f.line) (sym (more_terms w0.bank goal d c.requires.some))
    (gathered h w0 w1 w2 c.requires.stands t0 ts c.args.line c.in_ok-rest.rest.line f.line c.in_ok-rest.ensures.line
    (subst (λ (u : Term). GathersTo w1 w2 (any_of ts ∷ u ∷ []) (if_term u true_term (any_of ts)) c.in_ok-rest.rest.line f.line) (same_term_grown h w0 w1 first c.gather.ensures.grows (c.requires.goal 0 d c.requires.some))
    (subst (λ (r : Term). GathersTo w1 w2 (r ∷ term_at w1.bank first ∷ []) (if_term (term_at w1.bank first) true_term r) c.in_ok-rest.rest.line f.line) c.in_ok-rest.ensures.claim.denotes one))))) c.gather_one.ensures.line
