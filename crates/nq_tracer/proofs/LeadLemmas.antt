-- The induction that a call in a term suggests.
use Rattle.std.proofs.Common.{◌≡◌, ◌∙◌, ◌<◌, Bool, true, false, zero, List, [], ◌∷◌, ◌++◌, sym, ap, subst, inl, inr}
use Rattle.std.specs.Prelude.{Option, Some, None, if◌then◌else◌, bytes_eq}
use Rattle.nq_logic.specs.Terms.{Name, Term, IsAmong, substituted}
use Rattle.nq_logic.specs.Words.{call1}
use Rattle.nq_logic.specs.Formulas.{clause}
use Rattle.nq_logic.specs.Histories.{History, Definition, events_definitions}
use Rattle.nq_logic.specs.Ground.{symbols_of, ground_definitions, ground_history, all_events}
use Rattle.nq_logic.specs.Admissible.{Call, calls_of, matched}
use Rattle.nq_logic.specs.Derivations.{Derivable}
use Rattle.nq_logic.proofs.Symbols.{ordinalp_symbol}
use Rattle.nq_logic.proofs.Clauses.{instance_law}
use Rattle.nq_kernel.specs.Ready.{IsReady}
use Rattle.nq_kernel.proofs.EntryLemmas.{definitions_join}
use Rattle.nq_events.specs.Events.{Hints}
use Rattle.nq_events.specs.Inductions.{head_of, definition_among, definition_if, opened_by, arguments_of, suggests_by, suggests_of, suggests_induction}
use Rattle.nq_goals.specs.declared.kinds.MoveKind.TheVariants.{Ind}
use Rattle.nq_goals.specs.Paths.{Above, inducted_goals, inductions}
use Rattle.nq_goals.specs.Replacing.{parts_in_all}
use Rattle.nq_goals.specs.Inducting.{IsScheme, suggesting_among, suggesting_in, scheme_calls, hinted_or, hinted_term, base_case, step_case, claim_of}
use Rattle.nq_goals.specs.Moves.{IsMove, IsSubsumed, induction_limit, inducts, no_candidate}
use Rattle.nq_falls.specs.Falls.{Falls}
use Rattle.nq_tracer.specs.Falls.{DefinitionsFall}
use Rattle.nq_tracer.specs.Cases.{IsSuggesting, CallsGiveCases, case_of}
use Rattle.nq_tracer.specs.Leads.{IsInduction, IsInductionBy, IsInductionOf, IsDue}
use Rattle.nq_falls.proofs.TestLemmas.{matched_over, instance_over}

-- ---- the definition is one of the history, or of the ground history

among_found : (f : Name) (ds : List Definition) (d : Definition) → definition_among ds f ≡ Some d → IsAmong d ds
among_found f [] d e = absurd cc
among_found f (x ∷ ds) d e = by_name (bytes_eq f x.function) e (among_found f ds d)
  where
    by_name : (same : Bool) → (if same then Some x else definition_among ds f) ≡ Some d → (definition_among ds f ≡ Some d → IsAmong d ds) → IsAmong d (x ∷ ds)
    by_name true is rest = inl (let one : x ≡ d = cc in sym one)
    by_name false is rest = inr (rest is)

opened_among : (h : History) (t : Term) (d : Definition) → opened_by h t ≡ Some d → IsAmong d (ground_definitions ++ events_definitions h)
opened_among h t d e = by_head (head_of t) e
  where
    by_head : (o : Option Name) → definition_if h o ≡ Some d → IsAmong d (ground_definitions ++ events_definitions h)
    by_head None is = absurd cc
    by_head (Some f) is = subst (IsAmong d) (definitions_join ground_history h) (among_found f (events_definitions (all_events h)) d is)

-- ---- the call suggests an induction in the goal

suggesting_found : (h : History) (t : Term) (ts : List Term) → IsAmong t ts → suggests_induction h t ≡ true → IsAmong t (suggesting_among h ts)
suggesting_found h t [] m e = absurd m
suggesting_found h t (u ∷ ts) (inl same) e = subst (λ (b : Bool). IsAmong t (if b then u ∷ suggesting_among h ts else suggesting_among h ts)) (sym (subst (λ (z : Term). suggests_induction h z ≡ true) same e)) (inl same)
suggesting_found h t (u ∷ ts) (inr m) e = by_test (suggests_induction h u) (suggesting_found h t ts m e)
  where
    by_test : (b : Bool) → IsAmong t (suggesting_among h ts) → IsAmong t (if b then u ∷ suggesting_among h ts else suggesting_among h ts)
    by_test true i = inr i
    by_test false i = i

-- an induction of a call that stands in the goal is one of the goal
pub induction_in : (h : History) (t : Term) (goal : List Term) (base step : Term) → IsAmong t (parts_in_all goal) → IsInductionOf h t goal base step → IsInduction h goal base step
induction_in h t goal base step part i = i.by (suggesting_in h goal) (suggesting_found h t (parts_in_all goal) part i.suggests)

module _ (fall : DefinitionsFall) (give : CallsGiveCases) (h : History) (d : Definition) (m t : Term) (goal : List Term) (ready : IsReady h) (suggesting : IsSuggesting h d m t) where
  falls : Falls h d m
  falls = fall h d m ready (opened_among h t d suggesting.opened) suggesting.measure

  suggests : suggests_induction h t ≡ true
  suggests =
      ap (λ (o : Option Definition). suggests_of o (arguments_of t)) suggesting.opened
      ∙ ap (λ (o : Option Term). suggests_by d o (arguments_of t)) suggesting.measure
      ∙ suggesting.suggests

  abbrev at_call : Term
  at_call = substituted (matched d.formals (arguments_of t)) m

  ordinal : Derivable h (clause (call1 "ORDINALP" at_call ∷ []))
  ordinal =
      instance_law h (matched d.formals (arguments_of t)) (call1 "ORDINALP" m ∷ []) falls.ordinal
      ((ordinalp_symbol h, instance_over (symbols_of h) (matched d.formals (arguments_of t)) (matched_over (symbols_of h) d.formals (arguments_of t) suggesting.over) m zero falls.over), tt)

  pub induction_by : (c : Call) → IsAmong c (calls_of d.function d.body) → (p base step : Term) → p ≡ claim_of goal → base ≡ base_case p (case_of d m (arguments_of t) c ∷ []) → step ≡ step_case p (case_of d m (arguments_of t) c) → IsInductionOf h t goal base step
  induction_by c among p base step claim base_is step_is = record {
    suggests = suggests;
    by = λ (calls : List Term) (here : IsAmong t calls). record {
      scheme = record { measure = at_call; cases = case_of d m (arguments_of t) c ∷ [] };
      suggested = record { ordinal = ordinal; some_case = λ e. cc; cases = (give h d m t c calls suggesting falls among here, tt) };
      next =
          ap (λ (x : Term). (x ∷ []) ∷ (step ∷ []) ∷ []) (base_is ∙ ap (λ (q : Term). base_case q (case_of d m (arguments_of t) c ∷ [])) claim)
          ∙ ap (λ (x : Term). (base_case (claim_of goal) (case_of d m (arguments_of t) c ∷ []) ∷ []) ∷ (x ∷ []) ∷ []) (step_is ∙ ap (λ (q : Term). step_case q (case_of d m (arguments_of t) c)) claim);
    };
  }

-- ---- the move

own_calls : (h : History) (hints : Hints) (above : Above) (goal : List Term) → hints.induct ≡ None → scheme_calls h hints above goal ≡ suggesting_in h goal
own_calls h hints above goal none = ap (λ (o : Option Term). hinted_or (suggesting_among h (hinted_term o (inducted_goals above))) (suggesting_in h goal)) none

-- an induction on a goal that is due under the goals above it is a move
pub induction_moves : (h : History) (hints : Hints) (above : Above) (goal : List Term) (base step : Term) → IsDue h hints goal → (IsSubsumed above goal → ⊥) → inductions above < induction_limit → IsInduction h goal base step
    → IsMove h hints above Ind goal ((base ∷ []) ∷ (step ∷ []) ∷ [])
induction_moves h hints above goal base step due no_loop not_deep induction =
    inducts goal ((base ∷ []) ∷ (step ∷ []) ∷ []) due.normal
    (record { allowed = due.hints_free.allowed; due = no_candidate due.none; no_loop = no_loop; not_deep = not_deep })
    (record { scheme = induction.scheme; suggested = subst (λ (calls : List Term). IsScheme h calls induction.scheme) (sym (own_calls h hints above goal due.hints_free.free)) induction.suggested; next = induction.next })
