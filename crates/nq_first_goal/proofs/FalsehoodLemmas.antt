-- Steps of clauses, as they are pushed over a bank.
use Rattle.std.proofs.Common.{◌≡◌, ◌∙◌, List, [], ◌∷◌, ◌++◌, refl, sym, ap, ap₂}
use Rattle.std.proofs.lemmas.List.{map_push}
use Rattle.nq_logic.specs.Terms.{Term}
use Rattle.nq_logic.specs.Words.{not_term}
use Rattle.nq_proof.specs.Clauses.{Clause}
use Rattle.nq_bank.specs.declared.node.TermId.{TermId}
use Rattle.nq_bank.specs.Content.{Content, term_at, terms_at}
use Rattle.nq_comment.specs.Reports.{ShownStep as ToldStep}
use Rattle.nq_fragments.specs.Propositions.{Proposition}
use Rattle.nq_goals.specs.Trees.{Step}
use Rattle.nq_answers.specs.Shown.{shown_steps}
use Rattle.nq_decided.specs.FailedFalsehoods.{clause_steps, clauses_steps}
use Rattle.nq_decided.specs.Falsehoods.{false_clauses}

more_clauses : (cs ds : List Clause) (old : List Step) → clauses_steps (cs ++ ds) old ≡ clauses_steps ds (clauses_steps cs old)
more_clauses [] ds old = refl
more_clauses (c ∷ cs) ds old = more_clauses cs ds (clause_steps c old)

-- the steps where the first variable is true, and then those where it is false
pub both_pushed : (bank : Content) (first : TermId) (rest : List TermId) (denied : TermId) (p : Proposition) (trues literals held with_not with_first : List TermId) (start mid end : List ToldStep)
    → term_at bank denied ≡ not_term (term_at bank first) → held ≡ trues ++ first ∷ [] → with_not ≡ literals ++ denied ∷ [] → with_first ≡ literals ++ first ∷ []
    → ((old : List Step) → start ≡ shown_steps old → mid ≡ shown_steps (clauses_steps (false_clauses (terms_at bank rest) (terms_at bank held) (terms_at bank with_not) p) old))
    → ((old : List Step) → mid ≡ shown_steps old → end ≡ shown_steps (clauses_steps (false_clauses (terms_at bank rest) (terms_at bank trues) (terms_at bank with_first) p) old))
    → (old : List Step) → start ≡ shown_steps old → end ≡ shown_steps (clauses_steps (false_clauses (term_at bank first ∷ terms_at bank rest) (terms_at bank trues) (terms_at bank literals) p) old)
both_pushed bank first rest denied p trues literals held with_not with_first start mid end denies held_is not_is first_is one two old shown =
    let not_first = not_term (term_at bank first) in
    let trues_more : terms_at bank held ≡ terms_at bank trues ++ term_at bank first ∷ [] = ap (terms_at bank) held_is ∙ map_push (term_at bank) trues first in
    let with_denied : terms_at bank with_not ≡ terms_at bank literals ++ not_first ∷ [] =
    ap (terms_at bank) not_is ∙ (map_push (term_at bank) literals denied ∙ ap (λ (t : Term). terms_at bank literals ++ t ∷ []) denies) in
    let with_held : terms_at bank with_first ≡ terms_at bank literals ++ term_at bank first ∷ [] = ap (terms_at bank) first_is ∙ map_push (term_at bank) literals first in
    let A = false_clauses (terms_at bank rest) (terms_at bank held) (terms_at bank with_not) p in
    let B = false_clauses (terms_at bank rest) (terms_at bank trues) (terms_at bank with_first) p in
    let C = false_clauses (terms_at bank rest) (terms_at bank trues ++ term_at bank first ∷ []) (terms_at bank literals ++ not_first ∷ []) p in
    let D = false_clauses (terms_at bank rest) (terms_at bank trues) (terms_at bank literals ++ term_at bank first ∷ []) p in
    let a_is : A ≡ C = ap₂ (λ (ts us : List Term). false_clauses (terms_at bank rest) ts us p) trues_more with_denied in
    let b_is : B ≡ D = ap (λ (us : List Term). false_clauses (terms_at bank rest) (terms_at bank trues) us p) with_held in
    two (clauses_steps A old) (one old shown) ∙ (ap shown_steps (sym (more_clauses A B old)) ∙ ap₂ (λ (cs ds : List Clause). shown_steps (clauses_steps (cs ++ ds) old)) a_is b_is)
