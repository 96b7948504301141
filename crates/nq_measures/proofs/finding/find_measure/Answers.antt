use Rattle.std.proofs.Common.{◌∙◌, List, sym, ap, subst}
use Rattle.std.specs.Prelude.{All}
use Rattle.nq_rule.proofs.Made.{for_ok}
use Rattle.nq_calls.specs.declared.calls.Site.{Site}
use Rattle.nq_calls.specs.Calls.{SiteStands, sites_at}
use Rattle.nq_kernel.proofs.GrowingLemmas.{WorkGrows-trans}
use Rattle.nq_measures.specs.Trials.{IsSearching}
use Rattle.nq_measures.proofs.GrownLemmas.{trials_still}
use Rattle.nq_measures.proofs.LeftLemmas.{none_weaker}
use Rattle.nq_measures.proofs.ReadyLemmas.{searching_on}
use Rattle.nq_measures.proofs.FoundLemmas.{function_still, left_as_called, sites_are, option_found}
use Rattle.nq_measures.proofs.finding.find_measure.Goals as goal

pub find_among-requires-clause-searching : goal.find_among-requires-clause-searching
find_among-requires-clause-searching g c =
    let s : IsSearching (g.P.Prover.has_learnt c.args.prover.now) c.args.history.now c.args.work.now = record { stands = c.requires.stands; learnt = c.requires.learnt; ready = c.requires.ready; holds = c.requires.holds } in
    searching_on (g.P.Prover.has_learnt c.args.prover.now) (g.P.Prover.has_learnt c.args.prover.now) c.args.history.now c.args.work.now c.choice_opens.new.work c.held_work.ensures.grown s c.requires.learnt c.choice_opens.ensures.grows.grows

pub find_among-requires-clause-trials : goal.find_among-requires-clause-trials
find_among-requires-clause-trials g c =
    trials_still c.args.history.now c.args.work.now.bank c.choice_opens.new.work.bank c.args.f c.args.formals.now c.choice_opens.ensures.grows.grows.bank c.requires.stands.history c.requires.function.function c.requires.function.formals_named c.args.tried.now c.requires.trials

pub find_among-requires-clause-sites : goal.find_among-requires-clause-sites
find_among-requires-clause-sites g c =
    let mid = c.choice_opens.new.work.bank in
    sites_are c.args.history.now mid c.args.f c.args.formals.now c.args.body c.as_slice.result.now
    (function_still c.args.history.now c.args.work.now.bank mid c.args.f c.args.formals.now c.args.body c.choice_opens.ensures.grows.grows.bank c.requires.stands.history c.requires.function)
    (subst (λ (l : List Site). All (SiteStands mid) l) (sym c.as_slice.ensures.value) c.in_ok-sites.ensures.stand) (ap (sites_at mid) c.as_slice.ensures.value ∙ c.in_ok-sites.ensures.calls)

pub returns-clause-found : goal.returns-clause-found
returns-clause-found g c =
    let mid = c.choice_opens.new.work in
    for_ok c.find_among.result _ _
    (λ s w. option_found c.args.history.now c.args.work.now.bank mid c.find_among.new.work c.args.f c.args.formals.now c.args.body c.args.tried.now c.as_slice.result.now c.choice_opens.ensures.grows.grows.bank c.find_among.ensures.grows c.requires.stands.history c.requires.function c.requires.trials
    (subst (λ (l : List Site). All (SiteStands mid.bank) l) (sym c.as_slice.ensures.value) c.in_ok-sites.ensures.stand) (ap (sites_at mid.bank) c.as_slice.ensures.value ∙ c.in_ok-sites.ensures.calls) c.requires.ready s.found w)
    c.find_among.ensures.found

pub returns-clause-grows : goal.returns-clause-grows
returns-clause-grows g c = WorkGrows-trans c.args.history.now c.args.work.now c.choice_opens.new.work c.find_among.new.work c.choice_opens.ensures.grows.grows c.find_among.ensures.grows

pub returns-clause-left : goal.returns-clause-left
returns-clause-left g c =
    let old = c.args.work.now.bank in
    let mid = c.choice_opens.new.work in
    let up = c.choice_opens.ensures.grows.grows.bank in
    for_ok c.find_among.result _ _
    (λ s. none_weaker s.found _ _ (λ w. left_as_called c.args.history.now old mid.bank c.find_among.new.work c.args.f c.args.formals.now c.args.body c.args.tried.now c.as_slice.result.now up c.requires.function c.requires.trials
    (ap (sites_at mid.bank) c.as_slice.ensures.value ∙ c.in_ok-sites.ensures.calls) s.left.items w))
    c.find_among.ensures.left
