use Rattle.std.proofs.Common.{◌≡◌, ◌++◌, ◌∙◌, List, sym, ap, ap₂, subst}
use Rattle.std.specs.Prelude.{All, IfOk}
use Rattle.nq_logic.specs.Terms.{Term}
use Rattle.nq_bank.specs.declared.node.TermId.{TermId}
use Rattle.nq_bank.specs.Content.{terms_at}
use Rattle.nq_proof.specs.Clauses.{Clause}
use Rattle.nq_kernel.proofs.GrowingLemmas.{WorkGrows-trans}
use Rattle.nq_lines.specs.Lines.{LineHasOnly}
use Rattle.nq_lines.specs.declared.facts.Fact.{Fact}
use Rattle.nq_moves.specs.Dropped.{HoldChildren}
use Rattle.nq_elim.specs.declared.cases.Case.{Case}
use Rattle.nq_elim.specs.Cases.{CaseStands, literals_at, case_goals}
use Rattle.nq_elim.specs.Reasons.{FactHolds, denied_at}
use Rattle.nq_elim.proofs.GrownLemmas.{terms_grown, same_terms}
use Rattle.nq_elim.proofs.CaseLemmas.{cases_grown, rest_at, literals_same, case_goals_same}
use Rattle.nq_elim.proofs.CutLemmas.{hold_grown}
use Rattle.nq_elim.proofs.closing.close_rest.Goals as goal

pub close_facts-requires-clause-facts : goal.close_facts-requires-clause-facts
close_facts-requires-clause-facts c =
    let h = c.args.history.now in
    let w = c.args.work.now in
    subst (λ (fs : List Fact). All (FactHolds h w (terms_at w.bank c.as_slice.result.now)) fs) (sym c.as_slice-2.ensures.value)
    (subst (λ (ids : List TermId). All (FactHolds h w (terms_at w.bank ids)) c.args.reason.now.facts.items) (sym c.as_slice.ensures.value) c.requires.reason.facts)

pub close_facts-requires-clause-line : goal.close_facts-requires-clause-line
close_facts-requires-clause-line c =
    let w = c.args.work.now in
    subst (λ (fs : List Fact). LineHasOnly w c.args.whole (denied_at w.bank fs ++ terms_at w.bank c.as_slice.result.now)) (sym c.as_slice-2.ensures.value)
    (subst (λ (ids : List TermId). LineHasOnly w c.args.whole (denied_at w.bank c.args.reason.now.facts.items ++ terms_at w.bank ids)) (sym c.as_slice.ensures.value) c.requires.whole)

pub close_cases-requires-clause-goal : goal.close_cases-requires-clause-goal
close_cases-requires-clause-goal c = terms_grown c.args.history.now c.args.work.now c.close_facts.new.work c.requires.stands c.close_facts.ensures.grows c.args.goal.now c.requires.goal

pub close_cases-requires-clause-cases : goal.close_cases-requires-clause-cases
close_cases-requires-clause-cases c =
    subst (All (CaseStands c.args.history.now c.close_facts.new.work)) (sym c.as_slice-3.ensures.value)
    (cases_grown c.args.history.now c.args.work.now c.close_facts.new.work c.requires.stands c.close_facts.ensures.grows c.args.reason.now.cases.items c.requires.reason.cases)

pub close_cases-requires-clause-lines : goal.close_cases-requires-clause-lines
close_cases-requires-clause-lines c =
    let h = c.args.history.now in
    let old = c.args.work.now in
    let new = c.close_facts.new.work in
    let up = c.close_facts.ensures.grows in
    let cases : List Case = c.args.reason.now.cases.items in
    let same : case_goals new.bank cases (terms_at new.bank c.args.goal.now) ≡ case_goals old.bank cases (terms_at old.bank c.args.goal.now) =
    case_goals_same h old new c.requires.stands up cases (terms_at new.bank c.args.goal.now) c.requires.reason.cases ∙ ap (case_goals old.bank cases) (same_terms h old new c.requires.stands up c.args.goal.now c.requires.goal) in
    subst (λ (cs : List Case). HoldChildren new (case_goals new.bank cs (terms_at new.bank c.args.goal.now)) c.args.lines.now) (sym c.as_slice-3.ensures.value)
    (subst (λ (gs : List Clause). HoldChildren new gs c.args.lines.now) (sym same) (hold_grown h old new (case_goals old.bank cases (terms_at old.bank c.args.goal.now)) c.args.lines.now c.requires.stands up c.requires.lines))

pub close_cases-requires-clause-line : goal.close_cases-requires-clause-line
close_cases-requires-clause-line c =
    let h = c.args.history.now in
    let old = c.args.work.now in
    let new = c.close_facts.new.work in
    let up = c.close_facts.ensures.grows in
    let cases : List Case = c.args.reason.now.cases.items in
    let told : terms_at old.bank c.as_slice.result.now ≡ literals_at new.bank cases ++ terms_at new.bank c.args.goal.now =
    ap (terms_at old.bank) (c.as_slice.ensures.value ∙ c.requires.reason.rest_is) ∙ rest_at old.bank cases c.args.goal.now ∙
    sym (ap₂ (λ (a b : List Term). a ++ b) (literals_same h old new c.requires.stands up cases c.requires.reason.cases) (same_terms h old new c.requires.stands up c.args.goal.now c.requires.goal)) in
    subst (λ (cs : List Case). LineHasOnly new c.in_ok-line.line (literals_at new.bank cs ++ terms_at new.bank c.args.goal.now)) (sym c.as_slice-3.ensures.value)
    (subst (LineHasOnly new c.in_ok-line.line) told c.in_ok-line.ensures.line)

pub returns-clause-line : goal.returns-clause-line
returns-clause-line c =
    subst (λ (g : Clause). IfOk c.close_cases.result (λ n. LineHasOnly c.close_cases.new.work n g)) (same_terms c.args.history.now c.args.work.now c.close_facts.new.work c.requires.stands c.close_facts.ensures.grows c.args.goal.now c.requires.goal) c.close_cases.ensures.line

pub returns-clause-grows : goal.returns-clause-grows
returns-clause-grows c = WorkGrows-trans c.args.history.now c.args.work.now c.close_facts.new.work c.close_cases.new.work c.close_facts.ensures.grows c.close_cases.ensures.grows
