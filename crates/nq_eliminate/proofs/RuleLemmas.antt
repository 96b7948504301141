-- A rule is that of a shell, or that of an axiom or a lemma.
use Rattle.std.proofs.Common.{◌≡◌, Bool, true, false, if◌then◌else◌, List, [], ◌∷◌, subst, inl, inr}
use Rattle.std.specs.Prelude.{◌⊎◌}
use Rattle.nq_logic.specs.Terms.{IsAmong}
use Rattle.nq_logic.specs.Histories.{History, Event, AddShell, Declaration, Defines, Axiom, Lemma, Toggle, events_shells}
use Rattle.nq_logic.specs.Ground.{all_events}
use Rattle.nq_proof.specs.Clauses.{Clause}
use Rattle.nq_events.specs.Events.{Hints}
use Rattle.nq_goals.specs.Eliminating.{ElimRule, Eliminating, EliminateCandidate, event_rules, events_rules, shell_rules}
use Rattle.nq_eliminate.specs.Finding.{HasNoElimination, HasNoneOfEvents, events_own_rules, own_rules}
use Rattle.nq_eliminate.specs.Shells.{HasNoneOfShells, shells_rules}
use Rattle.nq_eliminate.proofs.Names.{among_either, among_first, among_second}

module _ (h : History) (hints : Hints) (rule : ElimRule) where
  abbrev Told : List Event → Type 0
  Told es = IsAmong rule (shells_rules (events_shells es)) ⊎ IsAmong rule (events_own_rules h hints es)

  shells_or_own : (es : List Event) → IsAmong rule (events_rules h hints es) → Told es
  shells_or_own [] m = absurd m
  shells_or_own (AddShell s ∷ es) m =
      elim (among_either rule (shell_rules s) (events_rules h hints es) m) [
        | inl here ↦ inl (among_first rule (shell_rules s) (shells_rules (events_shells es)) here)
        | inr there ↦
            elim (shells_or_own es there) [
              | inl shell ↦ inl (among_second rule (shell_rules s) (shells_rules (events_shells es)) shell)
              | inr own ↦ inr own
            ]
      ]
  shells_or_own (Declaration f n ∷ es) m = shells_or_own es m
  shells_or_own (Defines d ∷ es) m = shells_or_own es m
  shells_or_own (Axiom n classes t ∷ es) m =
      elim (among_either rule (event_rules h hints (Axiom n classes t)) (events_rules h hints es) m) [
        | inl here ↦ inr (among_first rule (event_rules h hints (Axiom n classes t)) (events_own_rules h hints es) here)
        | inr there ↦
            elim (shells_or_own es there) [
              | inl shell ↦ inl shell
              | inr own ↦ inr (among_second rule (event_rules h hints (Axiom n classes t)) (events_own_rules h hints es) own)
            ]
      ]
  shells_or_own (Lemma n classes t ∷ es) m =
      elim (among_either rule (event_rules h hints (Lemma n classes t)) (events_rules h hints es) m) [
        | inl here ↦ inr (among_first rule (event_rules h hints (Lemma n classes t)) (events_own_rules h hints es) here)
        | inr there ↦
            elim (shells_or_own es there) [
              | inl shell ↦ inl shell
              | inr own ↦ inr (among_second rule (event_rules h hints (Lemma n classes t)) (events_own_rules h hints es) own)
            ]
      ]
  shells_or_own (Toggle n old disabled ∷ es) m = shells_or_own es m

pub rules_suffice_law : (h : History) (hints : Hints) (goal : Clause) → HasNoneOfEvents h hints goal → HasNoneOfShells h goal → (e : Eliminating) → EliminateCandidate h hints goal e → ⊥
rules_suffice_law h hints goal events shells e candidate =
    elim (shells_or_own h hints e.rule (all_events h) candidate.enabled) [
      | inl shell ↦ shells.none hints e shell candidate
      | inr own ↦ events.none e own candidate
    ]

-- ---- where a rule is

module _ (h : History) (hints : Hints) (rule : ElimRule) where
  of_shells : (es : List Event) → IsAmong rule (shells_rules (events_shells es)) → IsAmong rule (events_rules h hints es)
  of_shells [] m = absurd m
  of_shells (AddShell s ∷ es) m =
      elim (among_either rule (shell_rules s) (shells_rules (events_shells es)) m) [
        | inl here ↦ among_first rule (shell_rules s) (events_rules h hints es) here
        | inr there ↦ among_second rule (shell_rules s) (events_rules h hints es) (of_shells es there)
      ]
  of_shells (Declaration f n ∷ es) m = of_shells es m
  of_shells (Defines d ∷ es) m = of_shells es m
  of_shells (Axiom n classes t ∷ es) m = among_second rule (event_rules h hints (Axiom n classes t)) (events_rules h hints es) (of_shells es m)
  of_shells (Lemma n classes t ∷ es) m = among_second rule (event_rules h hints (Lemma n classes t)) (events_rules h hints es) (of_shells es m)
  of_shells (Toggle n old disabled ∷ es) m = of_shells es m

  -- the rules of an axiom or a lemma are among those of all
  pub of_event_own : (e : Event) (es : List Event) → IsAmong e es → IsAmong rule (own_rules h hints e) → IsAmong rule (events_own_rules h hints es)
  of_event_own e [] m k = absurd m
  of_event_own e (f ∷ es) (inl same) k = among_first rule (own_rules h hints f) (events_own_rules h hints es) (subst (λ g. IsAmong rule (own_rules h hints g)) same k)
  of_event_own e (f ∷ es) (inr m) k = among_second rule (own_rules h hints f) (events_own_rules h hints es) (of_event_own e es m k)

  pub wanted_rule : (b : Bool) (rules : List ElimRule) → b ≡ true → IsAmong rule rules → IsAmong rule (if b then rules else [])
  wanted_rule true rules e m = m
  wanted_rule false rules e m = absurd (cc)

  -- and these are among the rules of all events
  pub of_own : (es : List Event) → IsAmong rule (events_own_rules h hints es) → IsAmong rule (events_rules h hints es)
  of_own [] m = absurd m
  of_own (AddShell s ∷ es) m = among_second rule (shell_rules s) (events_rules h hints es) (of_own es m)
  of_own (Declaration f n ∷ es) m = of_own es m
  of_own (Defines d ∷ es) m = of_own es m
  of_own (Axiom n classes t ∷ es) m =
      elim (among_either rule (event_rules h hints (Axiom n classes t)) (events_own_rules h hints es) m) [
        | inl here ↦ among_first rule (event_rules h hints (Axiom n classes t)) (events_rules h hints es) here
        | inr there ↦ among_second rule (event_rules h hints (Axiom n classes t)) (events_rules h hints es) (of_own es there)
      ]
  of_own (Lemma n classes t ∷ es) m =
      elim (among_either rule (event_rules h hints (Lemma n classes t)) (events_own_rules h hints es) m) [
        | inl here ↦ among_first rule (event_rules h hints (Lemma n classes t)) (events_rules h hints es) here
        | inr there ↦ among_second rule (event_rules h hints (Lemma n classes t)) (events_rules h hints es) (of_own es there)
      ]
  of_own (Toggle n old disabled ∷ es) m = of_own es m

-- where no rule has a candidate, none of a shell has, whatever the hints are
pub none_of_shells : (h : History) (hints : Hints) (goal : Clause) → HasNoElimination h hints goal → HasNoneOfShells h goal
none_of_shells h hints goal none =
    record {
      none = λ others e shell candidate.
          none.none e (record { enabled = of_shells h hints e.rule (all_events h) shell; each = candidate.each; differs = candidate.differs; apart = candidate.apart; stands = candidate.stands });
    }

pub none_of_rules : (h : History) (hints : Hints) (goal : Clause) → HasNoElimination h hints goal → HasNoneOfEvents h hints goal
none_of_rules h hints goal none = record { none = λ e own candidate. none.none e candidate }

pub none_at_all : (h : History) (hints : Hints) (goal : Clause) → HasNoneOfShells h goal → HasNoneOfEvents h hints goal → HasNoElimination h hints goal
none_at_all h hints goal shells events = record { none = rules_suffice_law h hints goal events shells }
