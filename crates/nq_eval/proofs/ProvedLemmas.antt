-- The line of a lemma, from its value.
use Rattle.std.proofs.Common.{◌≡◌, ◌≤◌, ℕ, Bool, true, false, Option, Some, List, [], ◌∷◌, ◌++◌, refl, sym, ap, ◌∙◌, arith}
use Rattle.std.specs.Prelude.{if◌then◌else◌, Vec}
use Rattle.std.specs.declared.alloc.Global.{Global}
use Rattle.nq_logic.specs.Terms.{Term, Each}
use Rattle.nq_logic.specs.Words.{not_term, equal_term}
use Rattle.nq_logic.specs.Sizes.{depth_of, depth_limit}
use Rattle.nq_bank.specs.declared.node.TermId.{TermId}
use Rattle.nq_bank.specs.Content.{term_at}
use Rattle.nq_proof.specs.Clauses.{Clause, same_term, without, distinct, literal_at, in_place}
use Rattle.nq_proof.specs.Paths.{replaced_at}
use Rattle.nq_proof.specs.Rules.{given, used_equation}
use Rattle.nq_proof.specs.Rules as tree
use Rattle.nq_proof.proofs.Tests.{same_true}
use Rattle.nq_rule.specs.declared.replacing.Side.TheVariants.{Backwards}
use Rattle.nq_history.specs.declared.entry.Entry.{Entry}
use Rattle.nq_kernel.specs.declared.work.Work.{Work}
use Rattle.nq_kernel.specs.declared.rule.Rule.TheVariants.{Cut, Replace}
use Rattle.nq_kernel.specs.Meaning.{conclusion_at, clause_at}
use Rattle.nq_kernel.specs.Growing.{LineHolds}
use Rattle.nq_fragments.specs.Outcomes.{term_depth}
use Rattle.nq_eval.proofs.LineLemmas.{depth_equal, without_same, denial_shallow}
use Rattle.nq_eval.proofs.TruthLemmas.{denial_depth}

-- a term is no NOT of its equation
denied_other : (t v : Term) → t ≡ not_term (equal_term t v) → ⊥
denied_other t v e =
    let same : depth_of t ≡ depth_of (not_term (equal_term t v)) = ap depth_of e in
    let one = denial_depth (equal_term t v) in
    let two = depth_equal t v in
    omega (arith, same, one, two)

differs : (t u : Term) → (t ≡ u → ⊥) → same_term t u ≡ false
differs t u other = by_test (same_term t u) refl
  where
    by_test : (b : Bool) → same_term t u ≡ b → b ≡ false
    by_test true e = absurd (other (same_true t u e))
    by_test false e = refl

abbrev pub denial : Term → Term → Term
denial t v = not_term (equal_term t v)

apart : (t v : Term) → same_term t (denial t v) ≡ false
apart t v = differs t (denial t v) (denied_other t v)

apart_back : (t v : Term) → same_term (denial t v) t ≡ false
apart_back t v = differs (denial t v) t (λ e. denied_other t v (sym e))

pub backwards_shallow : (t v : Term) → depth_of t ≤ term_depth → depth_of v ≤ term_depth → Each (λ u. depth_of u ≤ depth_limit) (t ∷ denial t v ∷ [])
backwards_shallow t v h k = (omega (arith, h), (denial_shallow t v h k, tt))

module _ (history : List Entry) (work : Work) where
  pub backwards_given : (line : ℕ) (path : Vec ℕ Global) (t : TermId) (v : Term) → path.items ≡ [] → LineHolds work line (v ∷ []) →
      conclusion_at work.bank history work.log (Replace line 1 path t Backwards) ≡ Some (term_at work.bank t ∷ denial (term_at work.bank t) v ∷ [])
  unfolding conclusion_at
  backwards_given line path t v empty holds =
      let u : Term = term_at work.bank t in
      let F : List ℕ → Option Clause → Option Clause = λ p o. given o (λ d. given (literal_at 1 d) (λ a. given (replaced_at p u a) (λ change. Some (distinct (in_place 1 (change.1 ∷ []) d ++ (used_equation tree.Backwards change.0 u ∷ [])))))) in
      ap (λ p. F p (clause_at work.bank work.log line)) empty ∙ ap (F []) holds ∙
      ap (λ b. Some (u ∷ (if b then [] else denial u v ∷ []))) (apart u v)

  pub equation_cut : (first second : ℕ) (e : TermId) (t v : Term) → term_at work.bank e ≡ equal_term t v → LineHolds work first (equal_term t v ∷ []) → LineHolds work second (t ∷ denial t v ∷ []) →
      conclusion_at work.bank history work.log (Cut first second e) ≡ Some (t ∷ [])
  unfolding conclusion_at
  equation_cut first second e t v is one two =
      let w : Term = equal_term t v in
      let F : Term → Option Clause → Option Clause → Option Clause = λ w o q. given o (λ c. given q (λ d. Some (distinct (without w c ++ without (not_term w) d)))) in
      ap (λ w. F w (clause_at work.bank work.log first) (clause_at work.bank work.log second)) is ∙
      ap (λ o. F w o (clause_at work.bank work.log second)) one ∙ ap (λ q. F w (Some (w ∷ [])) q) two ∙
      ap (λ c. Some (distinct (c ++ without (not_term w) (t ∷ not_term w ∷ [])))) (without_same history work w) ∙
      ap (λ b. Some (distinct (if b then without (not_term w) (not_term w ∷ []) else t ∷ without (not_term w) (not_term w ∷ [])))) (apart_back t v) ∙
      ap (λ c. Some (distinct (t ∷ c))) (without_same history work (not_term w))
