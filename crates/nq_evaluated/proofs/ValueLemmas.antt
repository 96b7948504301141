-- Goals that have a value other than F, and goals that have none.
use Rattle.std.proofs.Common.{◌≡◌, ◌<◌, ◌≤◌, ℕ, Bool, true, false, Option, Some, None, [], ◌∷◌, List, sym, ap, ◌∙◌, subst, arith}
use Rattle.std.specs.Prelude.{◌↔◌, IsTrue, not}
use Rattle.nq_logic.specs.Terms.{Term}
use Rattle.nq_logic.specs.Words.{false_term}
use Rattle.nq_logic.specs.Histories.{History}
use Rattle.nq_logic.specs.Sizes.{depth_of}
use Rattle.nq_logic.specs.RuleShapes.{variables_of}
use Rattle.nq_bank.specs.declared.node.TermId.{TermId}
use Rattle.nq_bank.specs.Content.{Stands, term_at}
use Rattle.nq_bank.proofs.Growth.{term_at-grown}
use Rattle.nq_proof.specs.Clauses.{same_term}
use Rattle.nq_proof.specs.Values.{is_true}
use Rattle.nq_proof.proofs.Tests.{same_true}
use Rattle.nq_rule.proofs.LiteralLemmas.{true_same}
use Rattle.nq_history.specs.declared.entry.Entry.{Entry}
use Rattle.nq_history.specs.Events.{events_at}
use Rattle.nq_history.proofs.HistoryLemmas.{events_at-grown}
use Rattle.nq_fragments.specs.Outcomes.{BlockedAt, OutOfFuel, term_depth}
use Rattle.nq_fragments.specs.Evaluation.{outcome_of, value_reached, HasTrueValue}
use Rattle.nq_kernel.specs.declared.work.Work.{Work}
use Rattle.nq_kernel.specs.Growing.{WorkGrows, WorkStands, LineHolds}
use Rattle.nq_evaluated.specs.Values.{IsProvedByValue}

-- a term that is too deep has no value
pub deep_without : (h : History) (t : Term) → term_depth < depth_of t → HasTrueValue h t → ⊥
deep_without h t deep v = let shallow = v.has.shallow in absurd (omega (arith, shallow, deep))

-- so it is with a term that has a variable
pub variable_without : (h : History) (t : Term) (ground : Bool) → IsTrue ground ↔ (variables_of t ≡ []) → ground ≡ false → HasTrueValue h t → ⊥
variable_without h t ground both is v = let holds = both.1 v.has.ground in absurd (cc)

-- where evaluation is blocked or runs out there is no value
pub blocked_without : (h : History) (t u : Term) → outcome_of h t ≡ BlockedAt u → HasTrueValue h t → ⊥
blocked_without h t u is v = let none : None ≡ Some v.value = sym (ap value_reached is) ∙ v.has.value in cc

pub fuel_without : (h : History) (t : Term) → outcome_of h t ≡ OutOfFuel → HasTrueValue h t → ⊥
fuel_without h t is v = let none : None ≡ Some v.value = sym (ap value_reached is) ∙ v.has.value in cc

-- where the value is F there is no other
pub false_without : (h : History) (t v : Term) (b : Bool) → value_reached (outcome_of h t) ≡ Some v → b ≡ same_term v false_term → b ≡ true → HasTrueValue h t → ⊥
false_without h t v b is same told has =
    let both : Some v ≡ Some has.value = sym is ∙ has.has.value in
    let one : v ≡ has.value = cc in
    has.is_true (sym one ∙ same_true v false_term (sym same ∙ told))

-- a value that isn't F is true
pub value_true : (v : Term) (b : Bool) → b ≡ same_term v false_term → b ≡ false → is_true v ≡ true
value_true v b same told = ap not (sym same ∙ told)

pub value_is : (h : History) (t v : Term) (b : Bool) → variables_of t ≡ [] → depth_of t ≤ term_depth → value_reached (outcome_of h t) ≡ Some v → b ≡ same_term v false_term → b ≡ false → HasTrueValue h t
value_is h t v b ground shallow is same told =
    record {
      value = v;
      has = record { ground = ground; shallow = shallow; value = is };
      is_true = λ e. let one : true ≡ false = sym (true_same v false_term e) ∙ sym same ∙ told in cc;
    }

module _ (history : List Entry) (old mid : Work) (goal : TermId) (grows : WorkGrows history old mid) (stands : WorkStands history old) (stand : Stands old.bank goal) where
  events_same : events_at mid.bank history ≡ events_at old.bank history
  events_same = events_at-grown old.bank mid.bank grows.bank history stands.history.entries

  pub term_same : term_at mid.bank goal ≡ term_at old.bank goal
  term_same = term_at-grown old.bank mid.bank goal grows.bank stand

  -- what holds of the goal after the bank has grown held before
  pub value_back : HasTrueValue (events_at mid.bank history) (term_at mid.bank goal) → HasTrueValue (events_at old.bank history) (term_at old.bank goal)
  value_back v = subst (λ h. HasTrueValue h (term_at old.bank goal)) events_same (subst (HasTrueValue (events_at mid.bank history)) term_same v)

  pub none_back : (HasTrueValue (events_at mid.bank history) (term_at mid.bank goal) → ⊥) → HasTrueValue (events_at old.bank history) (term_at old.bank goal) → ⊥
  none_back f v = f (subst (λ h. HasTrueValue h (term_at mid.bank goal)) (sym events_same) (subst (HasTrueValue (events_at old.bank history)) (sym term_same) v))

  pub proved_back : (new : Work) (o : Option ℕ) → IsProvedByValue history mid new goal o → IsProvedByValue history old new goal o
  proved_back new None f = none_back f
  proved_back new (Some line) k = record { value = value_back k.value; holds = subst (λ u. LineHolds new line (u ∷ [])) term_same k.holds }
