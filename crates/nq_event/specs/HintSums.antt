-- Hints that are put together one by one.
use Rattle.std.specs.Prelude.{◌≡◌, ℕ, Bool, false, ◌||◌, List, [], ◌++◌, map, Option, None, Some}
use Rattle.std.proofs.Common.{Bor}
use Rattle.nq_logic.specs.Terms.{Term}
use Rattle.nq_logic.specs.Histories.{History}
use Rattle.nq_bank.specs.Content.{Content}
use Rattle.nq_bank.specs.declared.node.TermId.{TermId}
use Rattle.nq_events.specs.Events.{Hints}
use Rattle.nq_events.specs.Refusals.{Refusal, BadHint}
use Rattle.nq_events.specs.WrittenHints.{HintKind, WrittenHint}
use Rattle.nq_events.specs.TermRefusals.{arity_of, terms_refusal, hint_forms, hints_forms}
use Rattle.nq_events.specs.HintTerms.{instance_given, term_in, listed_by, used, enabled, disabled, expanded, inducted, left_alone, forbids_induction, forbids_generalization, forbids_arithmetic, first_term, hints_given}
use Rattle.nq_events.specs.HintRefusals.{is_good_hint, hints_refusal}
use Rattle.nq_history.specs.Hints.{HintsStand}
use Rattle.nq_event.specs.EventsAt.{hints_at}
use Rattle.nq_history.specs.declared.hints.Hints.{Hints as KeptHints}

abbrev pub no_hints : Hints
no_hints = record { instances = []; enable = []; disable = []; expand = []; induct = None; hands_off = []; no_induct = false; no_generalize = false; no_arith = false }

abbrev pub term_or : Option Term → Option Term → Option Term
term_or None other = other
term_or (Some t) other = Some t

-- the earlier of two ids
abbrev pub id_or : Option TermId → TermId → Option TermId
id_or None t = Some t
id_or (Some earlier) t = Some earlier

-- what two rows of hints say together, the first before the second
abbrev pub joined : Hints → Hints → Hints
joined a b = record {
  instances = a.instances ++ b.instances;
  enable = a.enable ++ b.enable;
  disable = a.disable ++ b.disable;
  expand = a.expand ++ b.expand;
  induct = term_or a.induct b.induct;
  hands_off = a.hands_off ++ b.hands_off;
  no_induct = a.no_induct || b.no_induct;
  no_generalize = a.no_generalize || b.no_generalize;
  no_arith = a.no_arith || b.no_arith;
}

-- what one hint says
abbrev pub hint_given : History → Option HintKind → Hints
hint_given h kind = record {
  instances = map (instance_given h) (listed_by used kind);
  enable = listed_by enabled kind;
  disable = listed_by disabled kind;
  expand = map (term_in h) (listed_by expanded kind);
  induct = first_term (map (term_in h) (listed_by inducted kind));
  hands_off = listed_by left_alone kind;
  no_induct = forbids_induction kind;
  no_generalize = forbids_generalization kind;
  no_arith = forbids_arithmetic kind;
}

-- a hint is added to those before it: none of its terms is refused, and whether it is good is told
pub record IsAdded (h : History) (old new : Content) (kind : Option HintKind) (before after : KeptHints) (good : Bool) : Type 0 where
  pub stand : HintsStand new after
  pub unrefused : terms_refusal (arity_of h) (hint_forms kind) ≡ None
  pub are : hints_at new after ≡ joined (hints_at old before) (hint_given h kind)
  pub good_is : good ≡ is_good_hint h kind

-- 22 for a word, if there is one
abbrev pub bad_hint : Option (Bor (List ℕ)) → Option Refusal
bad_hint None = None
bad_hint (Some word) = Some (BadHint word.now)

-- all hints are read: none of their terms is refused, and the first bad one is told
pub record AreHintsRead (h : History) (bank : Content) (written : List WrittenHint) (hints : KeptHints) (bad : Option (Bor (List ℕ))) : Type 0 where
  pub stand : HintsStand bank hints
  pub unrefused : terms_refusal (arity_of h) (hints_forms written) ≡ None
  pub are : hints_at bank hints ≡ hints_given h written
  pub bad_is : bad_hint bad ≡ hints_refusal h written
