-- Literals and goals that have the value F.
use Rattle.std.proofs.Common.{◌≡◌, ℕ, ◌<◌, ◌≤◌, ◌+◌, ◌-◌, Bool, true, false, List, [], ◌∷◌, ◌++◌, length, get_or, take, drop, refl, sym, ap, ap₂, ◌∙◌, subst, arith}
use Rattle.std.specs.Prelude.{All, IsTrue, ◌↔◌, Option, Some, None}
use Rattle.std.proofs.lemmas.List.{take_all}
use Rattle.nq_logic.specs.Terms.{Term, Each}
use Rattle.nq_logic.specs.Words.{false_term}
use Rattle.nq_logic.specs.Histories.{History}
use Rattle.nq_logic.specs.Sizes.{depth_of}
use Rattle.nq_logic.specs.Ground.{symbols_of}
use Rattle.nq_logic.specs.RuleShapes.{variables_of}
use Rattle.nq_bank.specs.declared.node.TermId.{TermId}
use Rattle.nq_bank.specs.Content.{Content, Grows, Stands, term_at, terms_at}
use Rattle.nq_bank.proofs.Growth.{Stands-grown, term_at-grown, terms_at-grown}
use Rattle.nq_bank.proofs.NodesLemmas.{All-tail}
use Rattle.nq_proof.specs.Clauses.{same_term}
use Rattle.nq_proof.proofs.Tests.{same_true}
use Rattle.nq_rule.proofs.LiteralLemmas.{true_same}
use Rattle.nq_history.specs.declared.entry.Entry.{Entry}
use Rattle.nq_history.specs.Events.{events_at, HistoryStands}
use Rattle.nq_history.proofs.HistoryLemmas.{events_at-grown}
use Rattle.nq_kernel.specs.Over.{IsVariable, IsTermOf}
use Rattle.nq_fragments.specs.Outcomes.{Outcome, BlockedAt, OutOfFuel, term_depth}
use Rattle.nq_fragments.specs.Evaluation.{outcome_of, value_reached, HasGroundValue}
use Rattle.nq_kernel.specs.Ready.{IsReady}
use Rattle.nq_goals.specs.Spent.{IsFalse, IsGround}
use Rattle.nq_ground_goals.specs.Literals.{IsLiteral}

-- what was found says whether the value is F
pub value_told : (o : Outcome) (v : Term) (b : Bool) → value_reached o ≡ Some v → b ≡ same_term v false_term → IsTrue b ↔ (value_reached o ≡ Some false_term)
value_told o v b is same =
    ((λ t. is ∙ ap Some (same_true v false_term (sym same ∙ t))), (λ e. let some : Some v ≡ Some false_term = sym is ∙ e in let equal : v ≡ false_term = cc in same ∙ true_same v false_term equal))

pub blocked_told : (o : Outcome) (u : Term) → o ≡ BlockedAt u → IsTrue false ↔ (value_reached o ≡ Some false_term)
blocked_told o u is = ((λ t. absurd (cc)), (λ e. let none : None ≡ Some false_term = sym (ap value_reached is) ∙ e in absurd (cc)))

pub fuel_told : (o : Outcome) → o ≡ OutOfFuel → IsTrue false ↔ (value_reached o ≡ Some false_term)
fuel_told o is = ((λ t. absurd (cc)), (λ e. let none : None ≡ Some false_term = sym (ap value_reached is) ∙ e in absurd (cc)))

-- a literal that is not too deep
pub literal_told : (h : History) (t : Term) (b : Bool) → variables_of t ≡ [] → depth_of t ≤ term_depth → IsTrue b ↔ (value_reached (outcome_of h t) ≡ Some false_term) → IsTrue b ↔ HasGroundValue h t false_term
literal_told h t b ground shallow both = ((λ k. record { ground = ground; shallow = shallow; value = both.0 k }), (λ v. both.1 v.value))

-- a literal that is too deep
pub deep_told : (h : History) (t : Term) → term_depth < depth_of t → IsTrue false ↔ HasGroundValue h t false_term
deep_told h t deep = ((λ k. absurd (cc)), (λ v. let shallow = v.shallow in absurd (omega (arith, shallow, deep))))

-- variables of goals
both_empty : {X : Type 0} (xs ys : List X) → xs ++ ys ≡ [] → (xs ≡ []) × (ys ≡ [])
both_empty [] ys e = (refl, e)
both_empty (x ∷ xs) ys e = absurd (cc)

pub ground_parts : (t : Term) (rest : List Term) → IsGround (t ∷ rest) → (variables_of t ≡ []) × IsGround rest
ground_parts t rest e = both_empty (variables_of t) _ e

pub false_ground : (h : History) (goal : List Term) → IsFalse h goal → IsGround goal
false_ground h [] f = refl
false_ground h (t ∷ goal) f = ap₂ (λ a b. a ++ b) f.0.ground (false_ground h goal f.1)

-- goals of a first literal and the rest
pub first_is : (bank : Content) (ids : List TermId) (d : TermId) → 1 ≤ length ids → terms_at bank ids ≡ term_at bank (get_or ids 0 d) ∷ terms_at bank (take (length ids - 1) (drop 1 ids))
first_is bank [] d l = absurd (omega (arith, l))
first_is bank (i ∷ ids) d l = ap (λ xs. term_at bank i ∷ terms_at bank xs) (sym (take_all (length (i ∷ ids) - 1) ids (omega arith)))

pub rest_shorter : (ids : List TermId) → 1 ≤ length ids → length (take (length ids - 1) (drop 1 ids)) < length ids
rest_shorter [] l = absurd (omega (arith, l))
rest_shorter (i ∷ ids) l = subst (λ xs. length xs < length (i ∷ ids)) (sym (take_all (length (i ∷ ids) - 1) ids (omega arith))) (omega arith)

pub rest_told : (h : History) (goal : List Term) (t : Term) (rest : List Term) (first b : Bool) → goal ≡ t ∷ rest → IsTrue first ↔ HasGroundValue h t false_term → first ≡ true → IsTrue b ↔ IsFalse h rest → IsTrue b ↔ IsFalse h goal
rest_told h goal t rest first b e one is both = subst (λ g. IsTrue b ↔ IsFalse h g) (sym e) ((λ k. (one.0 is, both.0 k)), (λ f. both.1 f.1))

pub first_told : (h : History) (goal : List Term) (t : Term) (rest : List Term) (first : Bool) → goal ≡ t ∷ rest → IsTrue first ↔ HasGroundValue h t false_term → first ≡ false → IsTrue false ↔ IsFalse h goal
first_told h goal t rest first e one is = subst (λ g. IsTrue false ↔ IsFalse h g) (sym e) ((λ k. absurd (cc)), (λ f. let holds = one.1 f.0 in absurd (cc)))

pub variable_told : (h : History) (goal : List Term) (ground : Bool) → IsTrue ground ↔ IsGround goal → ground ≡ false → IsTrue false ↔ IsFalse h goal
variable_told h goal ground both is = ((λ k. absurd (cc)), (λ f. let holds = both.1 (false_ground h goal f) in absurd (cc)))

module _ (history : List Entry) (old new : Content) (grows : Grows old new) (stands : HistoryStands old history) where
  events_same : events_at new history ≡ events_at old history
  events_same = events_at-grown old new grows history stands.entries

  pub literal_grown : (t : TermId) → IsLiteral old history t → IsLiteral new history t
  literal_grown t k =
      record {
        stands = Stands-grown old new t grows k.stands;
        over = subst (λ u. IsTermOf IsVariable (symbols_of (events_at new history)) u) (sym (term_at-grown old new t grows k.stands)) (subst (λ es. IsTermOf IsVariable (symbols_of es) (term_at old t)) (sym events_same) k.over);
      }

  pub ready_grown : IsReady (events_at old history) → IsReady (events_at new history)
  ready_grown k = subst IsReady (sym events_same) k

  -- the value of the grown bank's term
  pub value_back : (t : TermId) (b : Bool) → Stands old t → IsTrue b ↔ (value_reached (outcome_of (events_at new history) (term_at new t)) ≡ Some false_term) →
      IsTrue b ↔ (value_reached (outcome_of (events_at old history) (term_at old t)) ≡ Some false_term)
  value_back t b stand both =
      subst (λ u. IsTrue b ↔ (value_reached (outcome_of (events_at old history) u) ≡ Some false_term)) (term_at-grown old new t grows stand)
      (subst (λ es. IsTrue b ↔ (value_reached (outcome_of es (term_at new t)) ≡ Some false_term)) events_same both)

  pub false_back : (ids : List TermId) (b : Bool) → terms_at new ids ≡ terms_at old ids → IsTrue b ↔ IsFalse (events_at new history) (terms_at new ids) → IsTrue b ↔ IsFalse (events_at old history) (terms_at old ids)
  false_back ids b same both = subst (λ u. IsTrue b ↔ IsFalse (events_at old history) u) same (subst (λ es. IsTrue b ↔ IsFalse es (terms_at new ids)) events_same both)

  rest_are : (P : TermId → Type 0) (ids : List TermId) → All P ids → All P (take (length ids - 1) (drop 1 ids))
  rest_are P [] all = λ k d below. absurd (omega (arith, below))
  rest_are P (i ∷ ids) all = subst (All P) (sym (take_all (length (i ∷ ids) - 1) ids (omega arith))) (All-tail P i ids all)

  pub literals_grown : (ids : List TermId) → All (IsLiteral old history) ids → All (IsLiteral new history) (take (length ids - 1) (drop 1 ids))
  literals_grown ids all = let rest = rest_are (IsLiteral old history) ids all in λ k d below. literal_grown (get_or (take (length ids - 1) (drop 1 ids)) k d) (rest k d below)

  pub rest_same : (ids : List TermId) → All (IsLiteral old history) ids → terms_at new (take (length ids - 1) (drop 1 ids)) ≡ terms_at old (take (length ids - 1) (drop 1 ids))
  rest_same ids all =
      let rest = rest_are (IsLiteral old history) ids all in
      terms_at-grown old new (take (length ids - 1) (drop 1 ids)) grows (λ k d below. let here = rest k d below in here.stands)
