-- The instances of the lines of connectives over P and Q.
use Rattle.std.proofs.Common.{◌≡◌, ◌≤◌, ◌<◌, ℕ, Bool, true, false, Option, List, [], ◌∷◌, map, refl, sym, ap, ap₂, ◌∙◌, subst, inl, inr, arith}
use Rattle.std.specs.Prelude.{codes, is_some, IsSome, Vec, All}
use Rattle.std.specs.declared.alloc.Global.{Global}
use Rattle.nq_logic.specs.Terms.{Term, Substitution, substituted, IsAmong}
use Rattle.nq_logic.specs.Sizes.{depth_of, depth_limit}
use Rattle.nq_logic.specs.Ground.{p_term, q_term}
use Rattle.nq_proof.specs.Clauses.{Clause, distinct}
use Rattle.nq_proof.specs.Rules.{given, when, is_substitution}
use Rattle.nq_bank.specs.declared.node.TermId.{TermId}
use Rattle.nq_bank.specs.Content.{Content, IsIdOf, term_at}
use Rattle.nq_bank.specs.Soundness.{IsSound}
use Rattle.nq_clause.specs.declared.substitution.Pair.{Pair}
use Rattle.nq_clause.specs.Substitution.{substitution_at, PairStands}
use Rattle.nq_bank.proofs.Standing.{All-push}
use Rattle.nq_history.specs.declared.entry.Entry.{Entry}
use Rattle.nq_kernel.specs.declared.work.Work.{Work}
use Rattle.nq_kernel.specs.declared.rule.Rule.TheVariants.{Instance}
use Rattle.nq_kernel.specs.Meaning.{conclusion_at, clause_at}
use Rattle.nq_fragments.specs.declared.connective.Connective.{Connective}
use Rattle.nq_fragments.specs.declared.connective.Connective.TheVariants.{And, Or, Implies, Iff}
use Rattle.nq_quick.specs.declared.patterns.Case.{Case}
use Rattle.nq_quick.specs.Heads.{joined_term}
use Rattle.nq_quick.specs.Lines.{AreAmong, HasOnly, LineHasOnly, IsShallow, signed, denial}
use Rattle.nq_quick.specs.Patterns.{pattern_term, case_truth, case_literals, instance_literals, IsPair}
use Rattle.nq_quick.proofs.LineLemmas.{from_distinct}
use Rattle.nq_quick.proofs.DepthLemmas.{only_shallow, id_shallow, signed_shallow, denial_shallow, left_shallower, right_shallower}

-- p and q for P and Q
abbrev pub for_sides : Term → Term → Substitution
for_sides p q = (codes "P", p) ∷ (codes "Q", q) ∷ []

-- the term of the list from which a mapped one comes
record Comes (f : Term → Term) (c : Clause) (u : Term) : Type 0 where
  from : Term
  among : IsAmong from c
  is : u ≡ f from

map_among : (f : Term → Term) (c : Clause) (u : Term) → IsAmong u (map f c) → Comes f c u
map_among f [] u m = absurd m
map_among f (t ∷ c) u (inl e) = record { from = t; among = inl refl; is = e }
map_among f (t ∷ c) u (inr m) = let rest = map_among f c u m in record { from = rest.from; among = inr rest.among; is = rest.is }

module _ (p q : Term) where
  abbrev replaced : Term → Term
  replaced t = substituted (for_sides p q) t

  whole_replaced : (b : Bool) (c : Connective) → replaced (signed b (pattern_term c)) ≡ signed b (joined_term c p q)
  whole_replaced true And = refl
  whole_replaced true Or = refl
  whole_replaced true Implies = refl
  whole_replaced true Iff = refl
  whole_replaced false And = refl
  whole_replaced false Or = refl
  whole_replaced false Implies = refl
  whole_replaced false Iff = refl

  left_replaced : (b : Bool) → replaced (denial b p_term) ≡ denial b p
  left_replaced true = refl
  left_replaced false = refl

  right_replaced : (b : Bool) → replaced (denial b q_term) ≡ denial b q
  right_replaced true = refl
  right_replaced false = refl

  case_replaced : (case : Case) (v : Term) → IsAmong v (case_literals case) → IsAmong (replaced v) (instance_literals case p q)
  case_replaced case v (inl e) = inl (ap replaced e ∙ whole_replaced (case_truth case) case.connective)
  case_replaced case v (inr (inl e)) = inr (inl (ap replaced e ∙ left_replaced case.left))
  case_replaced case v (inr (inr (inl e))) = inr (inr (inl (ap replaced e ∙ right_replaced case.right)))
  case_replaced case v (inr (inr (inr none))) = absurd none

  instance_within : (case : Case) (c : Clause) → AreAmong c (case_literals case) → AreAmong (distinct (map replaced c)) (instance_literals case p q)
  instance_within case c only u m =
      let comes : Comes replaced c u = map_among replaced c u (from_distinct u (map replaced c) m) in
      subst (λ w. IsAmong w (instance_literals case p q)) (sym comes.is) (case_replaced case comes.from (only comes.from comes.among))

abbrev instance_clause : Substitution → Option Clause → Option Clause
instance_clause s o = given o (λ c. when (is_substitution s) (distinct (map (substituted s) c)))

module _ (history : List Entry) (work : Work) (case : Case) (line : ℕ) (pairs : Vec Pair Global) (first second : Pair) where
  pub instance_only : pairs.items ≡ first ∷ second ∷ [] → IsPair work.bank first (codes "P") → IsPair work.bank second (codes "Q") → LineHasOnly work line (case_literals case) → HasOnly (conclusion_at work.bank history work.log (Instance line pairs)) (instance_literals case (term_at work.bank first.term) (term_at work.bank second.term))
  unfolding conclusion_at
  instance_only e left right h =
      let p : Term = term_at work.bank first.term in
      let q : Term = term_at work.bank second.term in
      record {
        literals = distinct (map (substituted (for_sides p q)) h.literals);
        stands =
            ap (λ ps. instance_clause (substitution_at work.bank ps) (clause_at work.bank work.log line)) e ∙
            ap₂ (λ x y. instance_clause ((x, p) ∷ (y, q) ∷ []) (clause_at work.bank work.log line)) left.name.reads right.name.reads ∙
            ap (instance_clause (for_sides p q)) h.stands;
        only = instance_within p q case h.literals h.only;
      }

  pub instance_shallow : (t : TermId) → IsSound work.bank → IsIdOf work.bank t (joined_term case.connective (term_at work.bank first.term) (term_at work.bank second.term)) → (case_truth case ≡ false → depth_of (term_at work.bank t) < depth_limit) → HasOnly (conclusion_at work.bank history work.log (Instance line pairs)) (instance_literals case (term_at work.bank first.term) (term_at work.bank second.term)) → IsShallow (conclusion_at work.bank history work.log (Instance line pairs))
  instance_shallow t sound is room only =
      let p : Term = term_at work.bank first.term in
      let q : Term = term_at work.bank second.term in
      let c : Connective = case.connective in
      let w : Term = joined_term c p q in
      let whole : depth_of w ≤ depth_limit = id_shallow work.bank t w sound is in
      let left : depth_of p < depth_of w = left_shallower c p q in
      let right : depth_of q < depth_of w = right_shallower c p q in
      let left_room : depth_of p < depth_limit = omega (arith, whole, left) in
      let right_room : depth_of q < depth_limit = omega (arith, whole, right) in
      only_shallow (conclusion_at work.bank history work.log (Instance line pairs)) (instance_literals case p q) only
      (signed_shallow (case_truth case) w whole (λ e. subst (λ u. depth_of u < depth_limit) is.denotes (room e)), (denial_shallow case.left p left_room, (denial_shallow case.right q right_room, tt)))

pub only_some : (o : Option Clause) (these : Clause) → HasOnly o these → IsSome o
only_some o these h = ap is_some h.stands

pub pairs_stand : (bank : Content) (pairs : List Pair) (first second : Pair) → pairs ≡ first ∷ second ∷ [] → IsPair bank first (codes "P") → IsPair bank second (codes "Q") → All (PairStands bank) pairs
pairs_stand bank pairs first second e left right =
    subst (All (PairStands bank)) (sym e) (
    All-push (PairStands bank) (first ∷ []) second (All-push (PairStands bank) [] first (λ i d below. absurd (omega arith)) (record { variable = left.name.named; term = left.term })) (record { variable = right.name.named; term = right.term }))
