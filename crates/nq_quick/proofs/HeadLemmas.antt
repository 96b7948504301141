-- The heads of terms.
use Rattle.std.proofs.Common.{◌≡◌, ◌<◌, ◌≤◌, ℕ, zero, suc, Bool, true, false, Option, Some, None, List, [], ◌∷◌, length, refl, sym, ap, ◌∙◌, arith}
use Rattle.std.specs.Prelude.{codes, bytes_eq, if◌then◌else◌}
use Rattle.nq_logic.specs.Terms.{Term, Variable, Function, Applied, applied, call}
use Rattle.nq_logic.specs.Words.{numeral, true_term, false_term}
use Rattle.nq_bank.specs.declared.node.TermId.{TermId}
use Rattle.nq_bank.specs.Content.{Content, term_at, terms_at}
use Rattle.nq_bank.proofs.Texts.{bytes_eq-true}
use Rattle.nq_rule.specs.declared.branching.Branches.{Branches}
use Rattle.nq_fragments.specs.declared.connective.Connective.{Connective}
use Rattle.nq_fragments.specs.declared.connective.Connective.TheVariants.{And, Or, Implies, Iff}
use Rattle.nq_quick.specs.declared.heads.Head.TheVariants as head
use Rattle.nq_fragments.specs.Propositions.{Proposition, Other, Truth, Falsity, Choice, Denial, proposition_of, connective_of, joined_by}
use Rattle.nq_quick.specs.Heads.{HasHead, joined_term}

-- the name of a connective makes the joined term
pub named_term : (f : List ℕ) (c : Connective) (p q : Term) → connective_of f ≡ Some c → Applied (Applied (Function f) p) q ≡ joined_term c p q
named_term f c p q e = by_and (bytes_eq f (codes "AND")) refl (bytes_eq f (codes "OR")) refl (bytes_eq f (codes "IMPLIES")) refl (bytes_eq f (codes "IFF")) refl e
  where
    F : List ℕ → Term
    F g = Applied (Applied (Function g) p) q

    found : Bool → Bool → Bool → Bool → Option Connective
    found a b d g = if a then Some And else if b then Some Or else if d then Some Implies else if g then Some Iff else None

    chosen_one : (d : Connective) → Some d ≡ Some c → (g : List ℕ) → f ≡ g → Applied (Applied (Function g) p) q ≡ joined_term d p q → Applied (Applied (Function f) p) q ≡ joined_term c p q
    chosen_one d h g same right = let one : d ≡ c = cc in ap (λ g. Applied (Applied (Function g) p) q) same ∙ right ∙ ap (λ k. joined_term k p q) one

    by_and : (a : Bool) → bytes_eq f (codes "AND") ≡ a → (b : Bool) → bytes_eq f (codes "OR") ≡ b → (d : Bool) → bytes_eq f (codes "IMPLIES") ≡ d → (g : Bool) → bytes_eq f (codes "IFF") ≡ g → (if a then Some And else if b then Some Or else if d then Some Implies else if g then Some Iff else None) ≡ Some c → Applied (Applied (Function f) p) q ≡ joined_term c p q
    by_and true i b j d k g l h = chosen_one And h (codes "AND") (bytes_eq-true f (codes "AND") i) refl
    by_and false i true j d k g l h = chosen_one Or h (codes "OR") (bytes_eq-true f (codes "OR") j) refl
    by_and false i false j true k g l h = chosen_one Implies h (codes "IMPLIES") (bytes_eq-true f (codes "IMPLIES") k) refl
    by_and false i false j false k true l h = chosen_one Iff h (codes "IFF") (bytes_eq-true f (codes "IFF") l) refl
    by_and false i false j false k false l h = absurd cc

module _ (bank : Content) (t : TermId) where
  -- a term that is of another kind
  pub other_head : proposition_of (term_at bank t) ≡ Other (term_at bank t) → HasHead bank t head.Other
  other_head e = record { proposition = e; term = refl; before = tt }

  pub truth_head : (f : List ℕ) → term_at bank t ≡ Function f → bytes_eq f (codes "TRUE") ≡ true → HasHead bank t head.Truth
  unfolding proposition_of
  truth_head f e test =
      let name : f ≡ codes "TRUE" = bytes_eq-true f (codes "TRUE") test in
      let whole : term_at bank t ≡ true_term = e ∙ ap Function name in
      record { proposition = ap proposition_of whole; term = whole; before = tt }

  pub falsity_head : (f : List ℕ) → term_at bank t ≡ Function f → bytes_eq f (codes "FALSE") ≡ true → HasHead bank t head.Falsity
  unfolding proposition_of
  falsity_head f e test =
      let name : f ≡ codes "FALSE" = bytes_eq-true f (codes "FALSE") test in
      let whole : term_at bank t ≡ false_term = e ∙ ap Function name in
      record { proposition = ap proposition_of whole; term = whole; before = tt }

  pub no_constant : (f : List ℕ) → term_at bank t ≡ Function f → bytes_eq f (codes "TRUE") ≡ false → bytes_eq f (codes "FALSE") ≡ false → HasHead bank t head.Other
  unfolding proposition_of
  no_constant f e first second =
      let F : Bool → Bool → Proposition = λ b c. if b then Truth else if c then Falsity else Other (Function f) in
      other_head (ap proposition_of e ∙ ap (λ b. F b (bytes_eq f (codes "FALSE"))) first ∙ ap (F false) second ∙ ap Other (sym e))

  pub denial_head : (f : List ℕ) (p : TermId) → term_at bank t ≡ Applied (Function f) (term_at bank p) → bytes_eq f (codes "NOT") ≡ true → p.0 < t.0 → HasHead bank t (head.Denial p)
  unfolding proposition_of
  denial_head f p e test before =
      let name : f ≡ codes "NOT" = bytes_eq-true f (codes "NOT") test in
      let whole : term_at bank t ≡ Applied (Function (codes "NOT")) (term_at bank p) = e ∙ ap (λ g. Applied (Function g) (term_at bank p)) name in
      record { proposition = ap proposition_of whole; term = whole; before = before }

  pub no_denial : (f : List ℕ) (p : Term) → term_at bank t ≡ Applied (Function f) p → bytes_eq f (codes "NOT") ≡ false → HasHead bank t head.Other
  unfolding proposition_of
  no_denial f p e test =
      let F : Bool → Proposition = λ b. if b then Denial (proposition_of p) else Other (Applied (Function f) p) in
      other_head (ap proposition_of e ∙ ap F test ∙ ap Other (sym e))

  pub choice_head : (f : List ℕ) (parts : Branches) → term_at bank t ≡ Applied (Applied (Applied (Function f) (term_at bank parts.test)) (term_at bank parts.first)) (term_at bank parts.second) → bytes_eq f (codes "IF") ≡ true → parts.test.0 < t.0 → parts.first.0 < t.0 → parts.second.0 < t.0 → HasHead bank t (head.Choice parts)
  unfolding proposition_of
  choice_head f parts e test a b c =
      let name : f ≡ codes "IF" = bytes_eq-true f (codes "IF") test in
      let F : List ℕ → Term = λ g. Applied (Applied (Applied (Function g) (term_at bank parts.test)) (term_at bank parts.first)) (term_at bank parts.second) in
      let whole : term_at bank t ≡ F (codes "IF") = e ∙ ap F name in
      record { proposition = ap proposition_of whole; term = whole; before = (a, b, c) }

  pub no_choice : (f : List ℕ) (p x y : Term) → term_at bank t ≡ Applied (Applied (Applied (Function f) p) x) y → bytes_eq f (codes "IF") ≡ false → HasHead bank t head.Other
  unfolding proposition_of
  no_choice f p x y e test =
      let F : Bool → Proposition = λ b. if b then Choice (proposition_of p) (proposition_of x) (proposition_of y) else Other (Applied (Applied (Applied (Function f) p) x) y) in
      other_head (ap proposition_of e ∙ ap F test ∙ ap Other (sym e))

  pub joined_head : (f : List ℕ) (c : Connective) (p q : TermId) → term_at bank t ≡ Applied (Applied (Function f) (term_at bank p)) (term_at bank q) → connective_of f ≡ Some c → p.0 < t.0 → q.0 < t.0 → HasHead bank t (head.Joined c p q)
  unfolding proposition_of
  joined_head f c p q e found a b =
      let F : Option Connective → Proposition = λ o. joined_by o (Applied (Applied (Function f) (term_at bank p)) (term_at bank q)) (proposition_of (term_at bank p)) (proposition_of (term_at bank q)) in
      record { proposition = ap proposition_of e ∙ ap F found; term = e ∙ named_term f c (term_at bank p) (term_at bank q) found; before = (a, b) }

  pub no_joined : (f : List ℕ) (p q : Term) → term_at bank t ≡ Applied (Applied (Function f) p) q → connective_of f ≡ None → HasHead bank t head.Other
  unfolding proposition_of
  no_joined f p q e none =
      let F : Option Connective → Proposition = λ o. joined_by o (Applied (Applied (Function f) p) q) (proposition_of p) (proposition_of q) in
      other_head (ap proposition_of e ∙ ap F none ∙ ap Other (sym e))

  many_arguments : (f a b c d : Term) (rest : List Term) → proposition_of (applied (Applied (Applied (Applied (Applied f a) b) c) d) rest) ≡ Other (applied (Applied (Applied (Applied (Applied f a) b) c) d) rest)
  unfolding proposition_of
  many_arguments f a b c d [] = refl
  many_arguments f a b c d (u ∷ us) = many_arguments (Applied f a) b c d u us

  pub no_short_call : (f : List ℕ) (ids : List TermId) → term_at bank t ≡ call f (terms_at bank ids) → 4 ≤ length ids → HasHead bank t head.Other
  no_short_call f [] e h = absurd (omega arith)
  no_short_call f (a ∷ []) e h = absurd (omega arith)
  no_short_call f (a ∷ b ∷ []) e h = absurd (omega arith)
  no_short_call f (a ∷ b ∷ c ∷ []) e h = absurd (omega arith)
  no_short_call f (a ∷ b ∷ c ∷ d ∷ rest) e h =
      other_head (ap proposition_of e ∙ many_arguments (Function f) (term_at bank a) (term_at bank b) (term_at bank c) (term_at bank d) (terms_at bank rest) ∙ ap Other (sym e))

  numeral_other : (n : ℕ) → proposition_of (numeral n) ≡ Other (numeral n)
  unfolding proposition_of numeral
  numeral_other zero = refl
  numeral_other (suc n) = refl

  pub numeral_head : (n : ℕ) → term_at bank t ≡ numeral n → HasHead bank t head.Other
  numeral_head n e = other_head (ap proposition_of e ∙ numeral_other n ∙ ap Other (sym e))

  pub variable_head : (x : List ℕ) → term_at bank t ≡ Variable x → HasHead bank t head.Other
  unfolding proposition_of
  variable_head x e = other_head (ap proposition_of e ∙ ap Other (sym e))
