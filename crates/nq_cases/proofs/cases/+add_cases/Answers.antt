use Rattle.std.proofs.Common.{rules, ◌≡◌, ◌<◌, [], ◌∷◌, ◌++◌, ◌∙◌, subst}
use Rattle.nq_logic.specs.Words.{not_term}
use Rattle.nq_bank.specs.Content.{Content, term_at, terms_at}
use Rattle.nq_bank.proofs.Growth.{Grows-trans, Stands-grown}
use Rattle.nq_cases.specs.Paths.{paths_of, IsIfFree}
use Rattle.nq_cases.specs.Cases.{AddsCases, clauses_at}
use Rattle.nq_cases.specs.Choices.{ChoiceOf, parts_at}
use Rattle.nq_cases.proofs.CapLemmas.{counts_grown}
use Rattle.nq_cases.proofs.CaseLemmas.{match_some, match_none, on_ok, added_one, clauses_stand_grown, clauses_grown, longer_stand, first_free, second_free, first_goal, second_goal, first_less, second_less, joined}
use Rattle.nq_cases.proofs.cases.+add_cases.Goals as goal

pub add_cases-requires : goal.add_cases-requires
add_cases-requires t c =
    let b0 : Content = c.args.bank.now in
    let b1 : Content = c.choose.new.bank in
    let b2 : Content = c.denied.new.bank in
    let d = c.in-Some.choice in
    let k : ChoiceOf b1 (term_at b0 c.args.t) d = match_some c.in_ok-choose.field-0 (IsIfFree (term_at b0 c.args.t)) (ChoiceOf b1 (term_at b0 c.args.t)) d c.in_ok-choose.ensures.ok c.in-Some.is in
    let g01 = c.choose.ensures.grows in
    let g12 = c.denied.ensures.grows in
    let e : c.as_slice.result.now ≡ c.args.tests.now ++ (c.in_ok-denial-in-Some.denial ∷ []) = c.as_slice.ensures.value ∙ c.in_ok-first-in-Some.ensures.clause in
    let less : paths_of (term_at b2 d.first) < paths_of (term_at b0 c.args.t) = first_less b0 b1 b2 c.args.t c.args.tests.now d k g01 g12 c.requires.tests c.requires.free in (
      search rules,
      (
        Stands-grown b1 b2 d.first g12 k.first,
        (
          longer_stand b0 b1 b2 c.args.t c.args.tests.now d k g01 g12 c.requires.tests c.requires.free c.as_slice.result.now c.in_ok-denial-in-Some.denial e c.in_ok-denial-in-Some.ensures.ok.stands,
          (
            first_free b0 b1 b2 c.args.t c.args.tests.now d k g01 g12 c.requires.tests c.requires.free c.as_slice.result.now c.in_ok-denial-in-Some.denial e c.in_ok-denial-in-Some.ensures.ok,
            (c.requires.cap, (counts_grown b1 b2 c.args.cap c.choose.new.known g12 c.in_ok-choose.ensures.counts, clauses_stand_grown b0 b2 c.args.cases.now.items (Grows-trans b0 b1 b2 g01 g12) c.requires.cases)),
          ),
        ),
      ),
    )

pub add_cases-requires-in-Some : goal.add_cases-requires-in-Some
add_cases-requires-in-Some t c =
    let b0 : Content = c.args.bank.now in
    let b1 : Content = c.choose.new.bank in
    let b2 : Content = c.denied.new.bank in
    let b3 : Content = c.add_cases.new.bank in
    let d = c.in-Some.choice in
    let k : ChoiceOf b1 (term_at b0 c.args.t) d = match_some c.in_ok-choose.field-0 (IsIfFree (term_at b0 c.args.t)) (ChoiceOf b1 (term_at b0 c.args.t)) d c.in_ok-choose.ensures.ok c.in-Some.is in
    let g01 = c.choose.ensures.grows in
    let g13 = Grows-trans b1 b2 b3 c.denied.ensures.grows c.add_cases.ensures.grows in
    let e : c.as_slice-in-Some.result.now ≡ c.args.tests.now ++ (d.test ∷ []) = c.as_slice-in-Some.ensures.value ∙ c.in_ok-second-in-Some.ensures.clause in
    let less : paths_of (term_at b3 d.second) < paths_of (term_at b0 c.args.t) = second_less b0 b1 b3 c.args.t c.args.tests.now d k g01 g13 c.requires.tests c.requires.free in (
      search rules,
      (
        Stands-grown b1 b3 d.second g13 k.second,
        (
          longer_stand b0 b1 b3 c.args.t c.args.tests.now d k g01 g13 c.requires.tests c.requires.free c.as_slice-in-Some.result.now d.test e (Stands-grown b1 b3 d.test g13 k.test),
          (
            second_free b0 b1 b3 c.args.t c.args.tests.now d k g01 g13 c.requires.tests c.requires.free c.as_slice-in-Some.result.now e,
            (c.requires.cap, (c.in_ok-add_cases-in-Some.ensures.counts, c.in_ok-add_cases-in-Some.ensures.ok.stand)),
          ),
        ),
      ),
    )

pub returns-in_ok-clause-in-None-clause-ok : goal.returns-in_ok-clause-in-None-clause-ok
returns-in_ok-clause-in-None-clause-ok t c =
    let b0 : Content = c.args.bank.now in
    let b1 : Content = c.choose.new.bank in
    let clause = c.in_ok-clause-in-None.clause in
    let before = c.args.cases.now.items in
    let after = c.put.new.clauses.items in
    let free : IsIfFree (term_at b0 c.args.t) = match_none c.in_ok-choose.field-0 (IsIfFree (term_at b0 c.args.t)) (ChoiceOf b1 (term_at b0 c.args.t)) c.in_ok-choose.ensures.ok c.in-None.is in
    on_ok c.put.result (after ≡ before ++ (clause ∷ [])) (AddsCases b1 (terms_at b0 c.args.tests.now ++ (term_at b0 c.args.t ∷ [])) (clauses_at b0 before) after)
    (λ e. added_one b0 b1 c.args.tests.now c.args.t before after clause c.choose.ensures.grows c.requires.tests c.requires.stands c.requires.cases c.requires.free free c.in_ok-clause-in-None.ensures.clause e) c.put.ensures.ok

pub returns-in_ok-second-in-Some-clause-ok : goal.returns-in_ok-second-in-Some-clause-ok
returns-in_ok-second-in-Some-clause-ok t c =
    let b0 : Content = c.args.bank.now in
    let b1 : Content = c.choose.new.bank in
    let b2 : Content = c.denied.new.bank in
    let b3 : Content = c.add_cases.new.bank in
    let b4 : Content = c.add_cases-in-Some.new.bank in
    let d = c.in-Some.choice in
    let k : ChoiceOf b1 (term_at b0 c.args.t) d = match_some c.in_ok-choose.field-0 (IsIfFree (term_at b0 c.args.t)) (ChoiceOf b1 (term_at b0 c.args.t)) d c.in_ok-choose.ensures.ok c.in-Some.is in
    let g01 = c.choose.ensures.grows in
    let g12 = c.denied.ensures.grows in
    let g13 = Grows-trans b1 b2 b3 g12 c.add_cases.ensures.grows in
    let ts = terms_at b0 c.args.tests.now in
    let before = c.args.cases.now.items in
    let mid = c.add_cases.new.cases.items in
    let after = c.add_cases-in-Some.new.cases.items in
    let e1 : c.as_slice.result.now ≡ c.args.tests.now ++ (c.in_ok-denial-in-Some.denial ∷ []) = c.as_slice.ensures.value ∙ c.in_ok-first-in-Some.ensures.clause in
    let e2 : c.as_slice-in-Some.result.now ≡ c.args.tests.now ++ (d.test ∷ []) = c.as_slice-in-Some.ensures.value ∙ c.in_ok-second-in-Some.ensures.clause in
    let first_is = first_goal b0 b1 b2 c.args.t c.args.tests.now d k g01 g12 c.requires.tests c.requires.free c.as_slice.result.now c.in_ok-denial-in-Some.denial e1 c.in_ok-denial-in-Some.ensures.ok in
    let second_is = second_goal b0 b1 b3 c.args.t c.args.tests.now d k g01 g13 c.requires.tests c.requires.free c.as_slice-in-Some.result.now e2 in
    let first : AddsCases b3 ((ts ++ (not_term (term_at b1 d.test) ∷ [])) ++ (term_at b1 d.first ∷ [])) (clauses_at b0 before) mid =
    subst (λ cs. AddsCases b3 ((ts ++ (not_term (term_at b1 d.test) ∷ [])) ++ (term_at b1 d.first ∷ [])) cs mid) (clauses_grown b0 b2 before (Grows-trans b0 b1 b2 g01 g12) c.requires.cases)
    (subst (λ g. AddsCases b3 g (clauses_at b2 before) mid) first_is c.in_ok-add_cases-in-Some.ensures.ok) in
    on_ok c.add_cases-in-Some.result (AddsCases b4 (terms_at b3 c.as_slice-in-Some.result.now ++ (term_at b3 d.second ∷ [])) (clauses_at b3 mid) after) (AddsCases b4 (ts ++ (term_at b0 c.args.t ∷ [])) (clauses_at b0 before) after)
    (λ second. joined b3 b4 ts (term_at b0 c.args.t) (term_at b1 d.first) (term_at b1 d.second) d.path.items (parts_at b1 d) (clauses_at b0 before) mid after k.choice c.add_cases-in-Some.ensures.grows first
    (subst (λ g. AddsCases b4 g (clauses_at b3 mid) after) second_is second)) c.add_cases-in-Some.ensures.ok
