use Rattle.std.proofs.Common.{◌∙◌, List, ◌++◌, map, ap, ap₂}
use Rattle.nq_logic.specs.Terms.{Term}
use Rattle.nq_bank.specs.Content.{terms_at}
use Rattle.nq_bank.proofs.Growth.{terms_at-grown}
use Rattle.nq_events.specs.Measures.{size_measure}
use Rattle.nq_measures.proofs.TriedLemmas.{both_terms}
use Rattle.nq_measures.proofs.HintLemmas.{texts_still}
use Rattle.nq_measures.proofs.tried.tried_measures.Goals as goal

pub returns-clause-terms : goal.returns-clause-terms
returns-clause-terms c =
    let new = c.all_sizes.new.bank in
    ap (terms_at new) c.in_ok-extend_from_slice.ensures.items ∙ both_terms new c.in_ok-tried.tried.items c.as_slice.result.now ∙
    ap₂ (λ (ts us : List Term). ts ++ us) (terms_at-grown c.all_hinted.new.bank new c.in_ok-tried.tried.items c.all_sizes.ensures.grows c.in_ok-tried.ensures.stand ∙ c.in_ok-tried.ensures.terms)
    (ap (terms_at new) c.as_slice.ensures.value ∙ c.in_ok-sizes.ensures.terms ∙ ap (map size_measure) (texts_still c.args.bank.now c.all_hinted.new.bank c.args.formals.now c.all_hinted.ensures.names))
