use Rattle.std.proofs.Common.{rules, ◌≡◌, ◌∷◌, ◌++◌, ◌∙◌, [], List, get_or, sym, subst, ap}
use Rattle.std.specs.Prelude.{All}
use Rattle.nq_logic.specs.Terms.{Term}
use Rattle.nq_logic.specs.Words.{if_term, true_term}
use Rattle.nq_bank.specs.declared.node.TermId.{TermId}
use Rattle.nq_bank.specs.Content.{term_at, terms_at}
use Rattle.nq_kernel.specs.declared.work.Work.{Work}
use Rattle.nq_kernel.specs.Growing.{WorkGrows}
use Rattle.nq_kernel.proofs.GrowingLemmas.{WorkGrows-trans, WorkGrows-refl}
use Rattle.nq_lines.specs.Lines.{IsTermIn, LineHasOnly}
use Rattle.nq_lines.proofs.TermLemmas.{term_grown, same_term_grown}
use Rattle.nq_rule.proofs.Made.{for_ok}
use Rattle.nq_induct.specs.Claims.{any_of, OpensTo}
use Rattle.nq_induct.proofs.GrownLemmas.{truth_grown, terms_in_grown, same_terms}
use Rattle.nq_induct.proofs.ClaimLemmas.{rest_of, one_claim, one_term, more_claim, more_terms, others_left, others_all, opened, claim_rest, has_rest, rest_in}
use Rattle.nq_induct.proofs.claims.+open_claim.Goals as goal

pub returns-then-goal-eq1-clause-line : goal.returns-then-goal-eq1-clause-line
returns-then-goal-eq1-clause-line t c =
    let d : TermId = record { 0 = 0 } in
    let bank = c.args.work.now.bank in
    let goal = c.args.goal.now in
    λ these h.
    subst (λ (ts : List Term). LineHasOnly c.args.work.now c.args.line (ts ++ these)) (sym (one_term bank goal d c.requires.some c.if-goal-eq1.true))
    (subst (λ (p : Term). LineHasOnly c.args.work.now c.args.line (p ∷ these)) (one_claim bank goal d c.requires.some c.if-goal-eq1.true) h)

pub returns-then-goal-eq1-clause-grows : goal.returns-then-goal-eq1-clause-grows
returns-then-goal-eq1-clause-grows t c = WorkGrows-refl c.args.history.now c.args.work.now c.requires.stands

pub argument_at-rest-requires-clause-place : goal.argument_at-rest-requires-clause-place
argument_at-rest-requires-clause-place t c =
    let d : TermId = record { 0 = 0 } in
    let bank = c.args.work.now.bank in
    has_rest (term_at bank c.args.claim) _ _ (c.requires.claim.denotes ∙ more_claim bank c.args.goal.now d c.requires.some c.if-goal-eq1.false)

pub open_one-requires-clause-first : goal.open_one-requires-clause-first
open_one-requires-clause-first t c = let d : TermId = record { 0 = 0 } in c.requires.goal 0 d c.requires.some

pub open_one-requires-clause-second : goal.open_one-requires-clause-second
open_one-requires-clause-second t c =
    let d : TermId = record { 0 = 0 } in
    let bank = c.args.work.now.bank in
    let whole : term_at bank c.args.claim ≡ if_term (term_at bank (get_or c.args.goal.now 0 d)) true_term (any_of (terms_at bank (rest_of c.args.goal.now))) = c.requires.claim.denotes ∙ more_claim bank c.args.goal.now d c.requires.some c.if-goal-eq1.false in
    rest_in c.args.history.now c.args.work.now c.args.claim c.argument_at-rest.result _ _ whole c.requires.over c.argument_at-rest.ensures.stands (claim_rest _ _ _ _ whole c.argument_at-rest.ensures.argument)

pub open_one-requires-clause-whole : goal.open_one-requires-clause-whole
open_one-requires-clause-whole t c =
    let d : TermId = record { 0 = 0 } in
    let bank = c.args.work.now.bank in
    let t0 : Term = term_at bank (get_or c.args.goal.now 0 d) in
    let whole : term_at bank c.args.claim ≡ if_term t0 true_term (any_of (terms_at bank (rest_of c.args.goal.now))) = c.requires.claim.denotes ∙ more_claim bank c.args.goal.now d c.requires.some c.if-goal-eq1.false in
    record { stands = c.requires.claim.stands; denotes = whole ∙ ap (λ (u : Term). if_term t0 true_term u) (sym (claim_rest _ _ _ _ whole c.argument_at-rest.ensures.argument)) }

pub open_claim-requires : goal.open_claim-requires
open_claim-requires t c =
    let d : TermId = record { 0 = 0 } in
    let h = c.args.history.now in
    let w0 : Work = c.args.work.now in
    let w1 : Work = c.open_one.new.work in
    let goal = c.args.goal.now in
    let rest : TermId = c.argument_at-rest.result in
    let g01 : WorkGrows h w0 w1 = c.open_one.ensures.grows in
    let whole : term_at w0.bank c.args.claim ≡ if_term (term_at w0.bank (get_or goal 0 d)) true_term (any_of (terms_at w0.bank (rest_of goal))) = c.requires.claim.denotes ∙ more_claim w0.bank goal d c.requires.some c.if-goal-eq1.false in
    let is : term_at w0.bank rest ≡ any_of (terms_at w0.bank (rest_of goal)) = claim_rest _ _ _ _ whole c.argument_at-rest.ensures.argument in
    let in0 : IsTermIn h w0 rest = rest_in h w0 c.args.claim rest _ _ whole c.requires.over c.argument_at-rest.ensures.stands is in
    let in1 : IsTermIn h w1 rest = term_grown h w0 w1 rest c.requires.stands g01 in0 in
    let others : All (IsTermIn h w0) (rest_of goal) = others_all (IsTermIn h w0) goal c.requires.goal in (
      search rules,
      (
        g01.stands,
        (
          truth_grown h w0 w1 c.requires.stands g01 c.args.shown c.requires.truth,
          (
            others_left goal c.requires.some c.if-goal-eq1.false,
            (
              terms_in_grown h w0 w1 c.requires.stands g01 (rest_of goal) others,
              (record { stands = in1.stands; denotes = same_term_grown h w0 w1 rest g01 in0 ∙ is ∙ ap any_of (sym (same_terms h w0 w1 c.requires.stands g01 (rest_of goal) others)) }, (in1, c.in_ok-opened.ensures.stands)),
            ),
          ),
        ),
      ),
    )

pub returns-clause-grows : goal.returns-clause-grows
returns-clause-grows t c = WorkGrows-trans c.args.history.now c.args.work.now c.open_one.new.work c.open_claim.new.work c.open_one.ensures.grows c.open_claim.ensures.grows

pub returns-clause-line : goal.returns-clause-line
returns-clause-line t c =
    let d : TermId = record { 0 = 0 } in
    let h = c.args.history.now in
    let w0 : Work = c.args.work.now in
    let w1 : Work = c.open_one.new.work in
    let w2 : Work = c.open_claim.new.work in
    let goal = c.args.goal.now in
    let t0 : Term = term_at w0.bank (get_or goal 0 d) in
    let ts : List Term = terms_at w0.bank (rest_of goal) in
    let more : any_of (terms_at w0.bank goal) ≡ if_term t0 true_term (any_of ts) = more_claim w0.bank goal d c.requires.some c.if-goal-eq1.false in
    let is : term_at w0.bank c.argument_at-rest.result ≡ any_of ts = claim_rest _ _ _ _ (c.requires.claim.denotes ∙ more) c.argument_at-rest.ensures.argument in
    let same : terms_at w1.bank (rest_of goal) ≡ ts = same_terms h w0 w1 c.requires.stands c.open_one.ensures.grows (rest_of goal) (others_all (IsTermIn h w0) goal c.requires.goal) in
    for_ok c.open_claim.result (OpensTo w1 w2 (any_of (terms_at w1.bank (rest_of goal))) (terms_at w1.bank (rest_of goal)) c.in_ok-opened.opened) (OpensTo w0 w2 (any_of (terms_at w0.bank goal)) (terms_at w0.bank goal) c.args.line) (λ n f.
    subst (λ (p : Term). OpensTo w0 w2 p (terms_at w0.bank goal) c.args.line n) (sym more)
    (subst (λ (us : List Term). OpensTo w0 w2 (if_term t0 true_term (any_of ts)) us c.args.line n) (sym (more_terms w0.bank goal d c.requires.some))
    (opened h w0 w1 w2 c.requires.stands t0 ts c.args.line c.in_ok-opened.opened n
    (subst (λ (r : Term). OpensTo w0 w1 (if_term t0 true_term r) (r ∷ t0 ∷ []) c.args.line c.in_ok-opened.opened) is c.in_ok-opened.ensures.line)
    (subst (λ (us : List Term). OpensTo w1 w2 (any_of us) us c.in_ok-opened.opened n) same f)))) c.open_claim.ensures.line
