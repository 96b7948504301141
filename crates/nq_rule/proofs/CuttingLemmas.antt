-- Clauses that are joined, in a bank that grew.
use Rattle.std.proofs.Common.{◌≡◌, List, [], ◌∷◌, ◌++◌, refl}
use Rattle.std.specs.Prelude.{All}
use Rattle.nq_logic.specs.Words.{not_term, if_term}
use Rattle.nq_bank.specs.declared.node.TermId.{TermId}
use Rattle.nq_bank.specs.Content.{Content, Stands, Grows, term_at, terms_at}
use Rattle.nq_bank.proofs.Growth.{term_at-grown, terms_at-grown}
use Rattle.nq_proof.specs.Clauses.{without, distinct}
use Rattle.nq_rule.specs.Branches.{BranchesStand}
use Rattle.nq_rule.specs.declared.branching.Branches.{Branches}
use Rattle.nq_rule.specs.Results.{join_of}

pub join_same : (old new : Content) (first second : List TermId) (parts : Branches) (whole : TermId) → Grows old new → All (Stands old) first → All (Stands old) second → BranchesStand old parts →
    term_at new whole ≡ if_term (term_at old parts.test) (term_at old parts.first) (term_at old parts.second) →
    distinct (without (not_term (term_at new parts.test)) (without (term_at new parts.first) (terms_at new first)) ++ (without (term_at new parts.test) (without (term_at new parts.second) (terms_at new second)) ++ (term_at new whole ∷ []))) ≡
    join_of (term_at old parts.test) (term_at old parts.first) (term_at old parts.second) (terms_at old first) (terms_at old second)
join_same old new first second parts whole grows stand other standing is =
    let test = term_at-grown old new parts.test grows standing.test in
    let left = term_at-grown old new parts.first grows standing.first in
    let right = term_at-grown old new parts.second grows standing.second in
    let one = terms_at-grown old new first grows stand in
    let two = terms_at-grown old new second grows other in
    rw (is, test, left, right, one, two) refl
