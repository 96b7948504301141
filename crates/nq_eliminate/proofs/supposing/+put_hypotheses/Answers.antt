use Rattle.std.proofs.Common.{◌∙◌, ◌++◌, ap, sym}
use Rattle.std.proofs.lemmas.List.{append-nil}
use Rattle.nq_bank.specs.Content.{terms_at}
use Rattle.nq_eliminate.proofs.SupposingLemmas.{both_put, no_rule, parts_of_rule}
use Rattle.nq_eliminate.proofs.supposing.+put_hypotheses.Goals as goal

pub returns-in_ok-put_hypotheses-in-Some-clause-more : goal.returns-in_ok-put_hypotheses-in-Some-clause-more
returns-in_ok-put_hypotheses-in-Some-clause-more t c = both_put _ _ _ _ _ _ c.in_ok-put_parts-in-Some.ensures.more c.in_ok-put_hypotheses-in-Some.ensures.more (ap (λ r. r.hypotheses) (parts_of_rule c.args.bank.now c.args.t c.in-Some.p c.in-Some.q c.in-Some.ensures))

pub returns-in-None-clause-more : goal.returns-in-None-clause-more
returns-in-None-clause-more t c =
    let bank = c.args.bank.now in
    sym (ap (λ r. terms_at bank c.args.found.now.items ++ r.hypotheses) (no_rule bank c.args.t c.in-None.ensures) ∙ append-nil (terms_at bank c.args.found.now.items))
