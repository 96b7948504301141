use Rattle.std.proofs.Common.{rules, ◌≡◌, ◌∙◌, List, ◌∷◌, refl, sym, ap, ap₂, subst}
use Rattle.nq_logic.specs.Terms.{Term}
use Rattle.nq_logic.specs.Words.{not_term}
use Rattle.nq_bank.specs.Content.{term_at, terms_at}
use Rattle.nq_history.specs.declared.entry.Entry.{Entry}
use Rattle.nq_kernel.specs.declared.work.Work.{Work}
use Rattle.nq_kernel.specs.Growing.{WorkGrows}
use Rattle.nq_kernel.proofs.GrowingLemmas.{WorkGrows-trans}
use Rattle.nq_lines.specs.Facts.{IsFact}
use Rattle.nq_lines.specs.Lines.{IsTermIn}
use Rattle.nq_lines.proofs.FactLemmas.{fact_grown}
use Rattle.nq_lines.proofs.TermLemmas.{term_grown, same_term_grown}
use Rattle.nq_search.specs.Goals.{CanSearch, IsGoalIn}
use Rattle.nq_search.proofs.SearchingLemmas.{ready_grown, goal_grown, same_goal}
use Rattle.nq_tactic.proofs.TacticLemmas.{some_fact, front_in, found_before, fact_cut, found_stands, fact_stands}
use Rattle.nq_tactic.proofs.lemmas.+under.Goals as goal

pub seek_under-seek_beside-requires : goal.seek_under-seek_beside-requires
seek_under-seek_beside-requires t c =
    let h : List Entry = c.args.history.now in
    let old : Work = c.args.work.now in
    let new : Work = c.used.new.work in
    let up : WorkGrows h old new = c.used.ensures.grows in
    let can : CanSearch h c.args.hints.now new = ready_grown h old new c.requires.can.stands up c.ready_histories.ensures.grown c.args.hints.now c.requires.can in
    let inside : IsGoalIn h new c.args.goal.now = goal_grown h old new c.requires.can.stands up c.args.goal.now c.requires.goal in
    let fact : IsFact h new c.in-Some.fact = some_fact h new c.in_ok-fact.field-0 c.in-Some.fact c.in-Some.is c.in_ok-fact.ensures.fact in
    search rules

pub seek_under-seek_under-requires : goal.seek_under-seek_under-requires
seek_under-seek_under-requires t c =
    let h : List Entry = c.args.history.now in
    let old : Work = c.args.work.now in
    let new : Work = c.used.new.work in
    let up : WorkGrows h old new = c.used.ensures.grows in
    let can : CanSearch h c.args.hints.now new = ready_grown h old new c.requires.can.stands up c.ready_histories.ensures.grown c.args.hints.now c.requires.can in
    let inside : IsGoalIn h new c.args.goal.now = goal_grown h old new c.requires.can.stands up c.args.goal.now c.requires.goal in
    search rules

pub seek_under-returns-in-Some-clause-found : goal.seek_under-returns-in-Some-clause-found
seek_under-returns-in-Some-clause-found t c =
    found_before c.seek_beside.new.work (terms_at c.used.new.work.bank c.args.goal.now) (terms_at c.args.work.now.bank c.args.goal.now) c.seek_beside.result
    (same_goal c.args.history.now c.args.work.now c.used.new.work c.requires.can.stands c.used.ensures.grows c.args.goal.now c.requires.goal) c.seek_beside.ensures.found

pub seek_under-returns-in-Some-clause-grows : goal.seek_under-returns-in-Some-clause-grows
seek_under-returns-in-Some-clause-grows t c = WorkGrows-trans c.args.history.now c.args.work.now c.used.new.work c.seek_beside.new.work c.used.ensures.grows c.seek_beside.ensures.grows

pub seek_under-returns-in-None-clause-found : goal.seek_under-returns-in-None-clause-found
seek_under-returns-in-None-clause-found t c =
    found_before c.seek_under.new.work (terms_at c.used.new.work.bank c.args.goal.now) (terms_at c.args.work.now.bank c.args.goal.now) c.seek_under.result
    (same_goal c.args.history.now c.args.work.now c.used.new.work c.requires.can.stands c.used.ensures.grows c.args.goal.now c.requires.goal) c.seek_under.ensures.found

pub seek_under-returns-in-None-clause-grows : goal.seek_under-returns-in-None-clause-grows
seek_under-returns-in-None-clause-grows t c = WorkGrows-trans c.args.history.now c.args.work.now c.used.new.work c.seek_under.new.work c.used.ensures.grows c.seek_under.ensures.grows

pub seek_beside-returns-in_err-line-clause-grows : goal.seek_beside-returns-in_err-line-clause-grows
seek_beside-returns-in_err-line-clause-grows t c = WorkGrows-trans c.args.history.now c.args.work.now c.deny.new.work c.seek_under.new.work c.deny.ensures.grows c.seek_under.ensures.grows

pub seek_beside-returns-clause-grows : goal.seek_beside-returns-clause-grows
seek_beside-returns-clause-grows t c = WorkGrows-trans c.args.history.now c.args.work.now c.deny.new.work c.seek_under.new.work c.deny.ensures.grows c.seek_under.ensures.grows

pub seek_beside-returns-in_err-line-in-Some-clause-grows : goal.seek_beside-returns-in_err-line-in-Some-clause-grows
seek_beside-returns-in_err-line-in-Some-clause-grows t c =
    WorkGrows-trans c.args.history.now c.args.work.now c.seek_under.new.work c.cut.new.work (WorkGrows-trans c.args.history.now c.args.work.now c.deny.new.work c.seek_under.new.work c.deny.ensures.grows c.seek_under.ensures.grows) c.cut.ensures.grows

pub seek_beside-returns-in-Some-clause-grows : goal.seek_beside-returns-in-Some-clause-grows
seek_beside-returns-in-Some-clause-grows t c =
    WorkGrows-trans c.args.history.now c.args.work.now c.seek_under.new.work c.cut.new.work (WorkGrows-trans c.args.history.now c.args.work.now c.deny.new.work c.seek_under.new.work c.deny.ensures.grows c.seek_under.ensures.grows) c.cut.ensures.grows

pub seek_beside-seek_under-requires : goal.seek_beside-seek_under-requires
seek_beside-seek_under-requires t c =
    let h : List Entry = c.args.history.now in
    let old : Work = c.args.work.now in
    let new : Work = c.deny.new.work in
    let up : WorkGrows h old new = c.deny.ensures.grows in
    let can : CanSearch h c.args.hints.now new = ready_grown h old new c.requires.can.stands up c.ready_histories.ensures.grown c.args.hints.now c.requires.can in
    let inside : IsGoalIn h new c.as_slice.result.now =
    front_in h new c.in_ok-denied.denied c.args.goal.now c.as_slice.result.now (c.as_slice.ensures.value ∙ c.in_ok-longer.ensures.ok) c.in_ok-denied.ensures.over (goal_grown h old new c.requires.can.stands up c.args.goal.now c.requires.goal) in
    search rules

pub seek_beside-cut-requires-clause-first : goal.seek_beside-cut-requires-clause-first
seek_beside-cut-requires-clause-first t c =
    let h : List Entry = c.args.history.now in
    let up : WorkGrows h c.args.work.now c.seek_under.new.work = WorkGrows-trans h c.args.work.now c.deny.new.work c.seek_under.new.work c.deny.ensures.grows c.seek_under.ensures.grows in
    fact_stands c.seek_under.new.work c.args.fact.line _ (fact_grown h c.args.work.now c.seek_under.new.work up c.args.fact c.requires.can.stands c.requires.fact).holds

pub seek_beside-cut-requires-clause-term : goal.seek_beside-cut-requires-clause-term
seek_beside-cut-requires-clause-term t c =
    let h : List Entry = c.args.history.now in
    let up : WorkGrows h c.args.work.now c.seek_under.new.work = WorkGrows-trans h c.args.work.now c.deny.new.work c.seek_under.new.work c.deny.ensures.grows c.seek_under.ensures.grows in
    term_grown h c.args.work.now c.seek_under.new.work c.args.fact.term c.requires.can.stands up c.requires.fact.term

pub seek_beside-returns-in-Some-clause-found : goal.seek_beside-returns-in-Some-clause-found
seek_beside-returns-in-Some-clause-found t c =
    let h : List Entry = c.args.history.now in
    let w0 : Work = c.args.work.now in
    let w1 : Work = c.deny.new.work in
    let w2 : Work = c.seek_under.new.work in
    let up : WorkGrows h w0 w2 = WorkGrows-trans h w0 w1 w2 c.deny.ensures.grows c.seek_under.ensures.grows in
    let t : Term = term_at w2.bank c.args.fact.term in
    let same : t ≡ term_at w0.bank c.args.fact.term = same_term_grown h w0 w2 c.args.fact.term up c.requires.fact.term in
    let denied : term_at w1.bank c.in_ok-denied.denied ≡ not_term t = c.in_ok-denied.ensures.denied.denotes ∙ ap not_term (sym same) in
    let rest : terms_at w1.bank c.args.goal.now ≡ terms_at w0.bank c.args.goal.now = same_goal h w0 w1 c.requires.can.stands c.deny.ensures.grows c.args.goal.now c.requires.goal in
    let all : terms_at w1.bank c.as_slice.result.now ≡ not_term t ∷ terms_at w0.bank c.args.goal.now =
    ap (terms_at w1.bank) (c.as_slice.ensures.value ∙ c.in_ok-longer.ensures.ok) ∙ ap₂ (λ (a : Term) (b : List Term). a ∷ b) denied rest in
    fact_cut w2 c.cut.new.work c.args.fact t (terms_at w1.bank c.as_slice.result.now) (terms_at w0.bank c.args.goal.now) c.in_ok-line.field-0 c.in-Some.line c.in_ok-line-in-Some.line all c.in-Some.is c.in_ok-line.ensures.found
    (fact_grown h w0 w2 up c.args.fact c.requires.can.stands c.requires.fact).holds c.in_ok-line-in-Some.ensures.line
