use Rattle.std.proofs.Common.{◌∙◌, List, sym, ap, subst}
use Rattle.std.specs.Prelude.{All, IfOk, MatchOption}
use Rattle.nq_logic.specs.Terms.{Each, Term}
use Rattle.nq_bank.specs.Content.{Stands, terms_at, text_at}
use Rattle.nq_eliminate.specs.Serving.{IsServedBy, ServesNoneOf}
use Rattle.nq_eliminate.proofs.serving.find_served.Goals as goal

pub find_destructor-requires-clause-destructors : goal.find_destructor-requires-clause-destructors
find_destructor-requires-clause-destructors c = subst (All (Stands c.args.bank.now)) (sym c.as_slice-these.ensures.value) c.in_ok-destructors.ensures.stand

pub find_destructor-requires-clause-these : goal.find_destructor-requires-clause-these
find_destructor-requires-clause-these c = subst (All (Stands c.args.bank.now)) (sym c.as_slice-these.ensures.value) c.in_ok-destructors.ensures.stand

pub returns : goal.returns
returns c =
    let bank = c.args.bank.now in
    let x = text_at bank c.args.rule.name in
    let g = terms_at bank c.args.goal.now in
    let us = terms_at bank c.args.calls.now in
    subst (λ (ds : List Term). IfOk c.find_destructor.result (λ found. MatchOption found (Each (ServesNoneOf x g ds us) ds) (IsServedBy bank g ds ds c.args.rule))) (ap (terms_at bank) c.as_slice-these.ensures.value ∙ c.in_ok-destructors.ensures.are) c.find_destructor.ensures
