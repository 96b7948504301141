-- Each term of an event whose form isn't refused is read, and within the limits.
use Rattle.std.proofs.Common.{◌≡◌, ℕ, Bool, true, false, List, [], ◌∷◌, ◌++◌, length, map, refl}
use Rattle.std.specs.Prelude.{Option, None, Some, Result, Ok, Err, if◌then◌else◌}
use Rattle.nq_logic.specs.Terms.{Name, Symbol, Term, Each}
use Rattle.nq_logic.specs.Histories.{History}
use Rattle.nq_logic.specs.Ground.{symbols_of}
use Rattle.nq_form.specs.Form.{Form}
use Rattle.nq_language.specs.Limits.{is_too_large}
use Rattle.nq_language.specs.Translation.{translated}
use Rattle.nq_language.specs.Refusals.{Met, met, sized, unless_met, translation}
use Rattle.nq_language.specs.Refusals as language
use Rattle.nq_events.specs.Refusals.{Refusal}
use Rattle.nq_events.specs.Events.{Measure}
use Rattle.nq_events.specs.Parts.{WrittenMeasure}
use Rattle.nq_events.specs.WrittenHints.{WrittenPair, WrittenInstance, WrittenHint, HintKind, Use, Enable, Disable, Expand, Induct, DoNotInduct, DoNotGeneralize, HandsOff, NoArithmetic, Time}
use Rattle.nq_events.specs.Outlines.{Outline, Outlined, BootStrap, AddShell, Dcl, Defn, AddAxiom, ProveLemma, Toggle, Switch, Undo, Skipped, outline}
use Rattle.nq_events.specs.TermRefusals.{arity_of, arity_with, first, language_refusal, term_refusal, terms_refusal, types_refusal, measure_forms, pair_forms, instances_forms, kind_forms, hint_forms, hints_forms, outline_refusal}
use Rattle.nq_events.specs.HintTerms.{term_in, pair_given, instance_given, listed_by, given, used, expanded, inducted, first_term, hints_given}
use Rattle.nq_events.specs.Reading.{event_refusal, event_of, refusal_after, event_after, outline_hints_refusal, measure_given, outlined_event}
use Rattle.nq_events.specs.ReadTerms.{IsReadTerm}
use Rattle.nq_events.specs.EventTerms.{IsEventTerm, HasInductTerm, HasInstanceTerms, HasHintTerms, HasEventTerms, EventsHaveTerms}
use Rattle.nq_events.proofs.ReadTerms.{over_histories, over_definitions}

pub first_left : (a b : Option Refusal) → first a b ≡ None → a ≡ None
first_left None b e = refl
first_left (Some r) b e = e

pub first_right : (a b : Option Refusal) → first a b ≡ None → b ≡ None
first_right None b e = e
first_right (Some r) b e = absurd (cc)

-- nothing is refused in the term
met_none : (m : Met) (r : Result Term language.Refusal) → language_refusal (unless_met m r) ≡ None → m ≡ None
met_none None r e = refl
met_none (Some refusal) r e = absurd (cc)

small_by : (b : Bool) (t : Term) → language_refusal (if b then Err language.TooLarge else Ok t) ≡ None → b ≡ false
small_by true t e = absurd (cc)
small_by false t e = refl

small_none : (m : Met) (t : Term) → language_refusal (unless_met m (sized t)) ≡ None → is_too_large t ≡ false
small_none None t e = small_by (is_too_large t) t e
small_none (Some refusal) t e = absurd (cc)

-- what each form of a list gives, where arity tells which forms aren't refused
module _ (symbols : List Symbol) (arity : Name → Option ℕ) (read : (f : Form) → met arity f ≡ None → IsReadTerm symbols (translated arity f)) where
  term_read : (f : Form) → term_refusal arity f ≡ None → IsEventTerm symbols (translated arity f)
  unfolding translation
  term_read f e = record { read = read f (met_none (met arity f) (sized (translated arity f)) e); small = small_none (met arity f) (translated arity f) e }

  -- a property of each form in a list
  abbrev pub AllRead : List Form → Type 0
  AllRead fs = Each (λ (f : Form). IsEventTerm symbols (translated arity f)) fs

  terms_read : (fs : List Form) → terms_refusal arity fs ≡ None → AllRead fs
  terms_read [] e = tt
  terms_read (f ∷ fs) e = (term_read f (first_left (term_refusal arity f) (terms_refusal arity fs) e), terms_read fs (first_right (term_refusal arity f) (terms_refusal arity fs) e))

  left_read : (fs gs : List Form) → AllRead (fs ++ gs) → AllRead fs
  left_read [] gs all = tt
  left_read (f ∷ fs) gs all = (all.0, left_read fs gs all.1)

  right_read : (fs gs : List Form) → AllRead (fs ++ gs) → AllRead gs
  right_read [] gs all = all
  right_read (f ∷ fs) gs all = right_read fs gs all.1

  measures_read : (ms : List WrittenMeasure) → AllRead (measure_forms ms) → Each (λ (m : Measure). IsEventTerm symbols m.term) (map (measure_given arity) ms)
  measures_read [] all = tt
  measures_read (m ∷ ms) all = (all.0, measures_read ms all.1)

module _ (h : History) where
  abbrev Read : List Form → Type 0
  Read fs = AllRead (symbols_of h) (arity_of h) (over_histories h) fs

  abbrev IsRead : Term → Type 0
  IsRead t = IsEventTerm (symbols_of h) t

  pairs_read : (ps : List WrittenPair) → Read (pair_forms ps) → Each (λ (p : List ℕ × Term). IsEventTerm (symbols_of h) p.1) (map (pair_given h) ps)
  pairs_read [] all = tt
  pairs_read (p ∷ ps) all = (all.0, pairs_read ps all.1)

  instances_read : (is : List WrittenInstance) → Read (instances_forms is) → Each (HasInstanceTerms (symbols_of h)) (map (instance_given h) is)
  instances_read [] all = tt
  instances_read (i ∷ is) all = (
    pairs_read i.pairs (left_read (symbols_of h) (arity_of h) (over_histories h) (pair_forms i.pairs) (instances_forms is) all),
    instances_read is (right_read (symbols_of h) (arity_of h) (over_histories h) (pair_forms i.pairs) (instances_forms is) all),
  )

  used_read : (k : HintKind) → Read (kind_forms k) → Read (instances_forms (used k))
  used_read (Use is) all = all
  used_read (Enable names) all = tt
  used_read (Disable names) all = tt
  used_read (Expand forms) all = tt
  used_read (Induct form) all = tt
  used_read DoNotInduct all = tt
  used_read DoNotGeneralize all = tt
  used_read (HandsOff functions) all = tt
  used_read NoArithmetic all = tt
  used_read Time all = tt

  expanded_read : (k : HintKind) → Read (kind_forms k) → Read (expanded k)
  expanded_read (Use is) all = tt
  expanded_read (Enable names) all = tt
  expanded_read (Disable names) all = tt
  expanded_read (Expand forms) all = all
  expanded_read (Induct form) all = tt
  expanded_read DoNotInduct all = tt
  expanded_read DoNotGeneralize all = tt
  expanded_read (HandsOff functions) all = tt
  expanded_read NoArithmetic all = tt
  expanded_read Time all = tt

  inducted_read : (k : HintKind) → Read (kind_forms k) → Read (inducted k)
  inducted_read (Use is) all = tt
  inducted_read (Enable names) all = tt
  inducted_read (Disable names) all = tt
  inducted_read (Expand forms) all = tt
  inducted_read (Induct form) all = all
  inducted_read DoNotInduct all = tt
  inducted_read DoNotGeneralize all = tt
  inducted_read (HandsOff functions) all = tt
  inducted_read NoArithmetic all = tt
  inducted_read Time all = tt

  both_read : (fs gs : List Form) → Read fs → Read gs → Read (fs ++ gs)
  both_read [] gs some more = more
  both_read (f ∷ fs) gs some more = (some.0, both_read fs gs some.1 more)

  -- the forms of one hint more
  hint_read : (say : HintKind → List Form) → ((k : HintKind) → Read (kind_forms k) → Read (say k)) → (k : Option HintKind) → Read (hint_forms k) → Read (listed_by say k)
  hint_read say each None all = tt
  hint_read say each (Some k) all = each k all

  given_read : (say : HintKind → List Form) → ((k : HintKind) → Read (kind_forms k) → Read (say k)) → (hints : List WrittenHint) → Read (hints_forms hints) → Read (given say hints)
  given_read say each [] all = tt
  given_read say each (hint ∷ hints) all =
      both_read (listed_by say hint.kind) (given say hints) (hint_read say each hint.kind (left_read (symbols_of h) (arity_of h) (over_histories h) (hint_forms hint.kind) (hints_forms hints) all))
      (given_read say each hints (right_read (symbols_of h) (arity_of h) (over_histories h) (hint_forms hint.kind) (hints_forms hints) all))

  more_instances : (is js : List WrittenInstance) → Read (instances_forms is) → Read (instances_forms js) → Read (instances_forms (is ++ js))
  more_instances [] js some more = more
  more_instances (i ∷ is) js some more =
      both_read (pair_forms i.pairs) (instances_forms (is ++ js)) (left_read (symbols_of h) (arity_of h) (over_histories h) (pair_forms i.pairs) (instances_forms is) some)
      (more_instances is js (right_read (symbols_of h) (arity_of h) (over_histories h) (pair_forms i.pairs) (instances_forms is) some) more)

  hint_instances : (k : Option HintKind) → Read (hint_forms k) → Read (instances_forms (listed_by used k))
  hint_instances None all = tt
  hint_instances (Some k) all = used_read k all

  given_instances : (hints : List WrittenHint) → Read (hints_forms hints) → Read (instances_forms (given used hints))
  given_instances [] all = tt
  given_instances (hint ∷ hints) all =
      more_instances (listed_by used hint.kind) (given used hints) (hint_instances hint.kind (left_read (symbols_of h) (arity_of h) (over_histories h) (hint_forms hint.kind) (hints_forms hints) all))
      (given_instances hints (right_read (symbols_of h) (arity_of h) (over_histories h) (hint_forms hint.kind) (hints_forms hints) all))

  each_term : (fs : List Form) → Read fs → Each (IsEventTerm (symbols_of h)) (map (term_in h) fs)
  each_term [] all = tt
  each_term (f ∷ fs) all = (all.0, each_term fs all.1)

  first_read : (ts : List Term) → Each (IsEventTerm (symbols_of h)) ts → HasInductTerm (symbols_of h) (first_term ts)
  first_read [] all = tt
  first_read (t ∷ ts) all = all.0

  hints_read : (hints : List WrittenHint) → Read (hints_forms hints) → HasHintTerms (symbols_of h) (hints_given h hints)
  hints_read hints all = record {
    instances = instances_read (given used hints) (given_instances hints all);
    expand = each_term (given expanded hints) (given_read expanded expanded_read hints all);
    induct = first_read (map (term_in h) (given inducted hints)) (each_term (given inducted hints) (given_read inducted inducted_read hints all));
  }

  outline_read : (o : Outline) → outline_refusal h o ≡ None → HasEventTerms h (outlined_event h o)
  outline_read BootStrap e = tt
  outline_read (AddShell shell) e = tt
  outline_read (Dcl name formals) e = tt
  outline_read (Defn name formals body measures) e =
      let symbols = (name, length formals) ∷ symbols_of h in
      let all = terms_read symbols (arity_with h name formals) (over_definitions h name formals) (body ∷ measure_forms measures) e in
      record { body_term = all.0; measure_terms = measures_read symbols (arity_with h name formals) (over_definitions h name formals) measures all.1 }
  outline_read (AddAxiom name types term) e =
      term_read (symbols_of h) (arity_of h) (over_histories h) term (first_right (types_refusal types) (term_refusal (arity_of h) term) e)
  outline_read (ProveLemma name types term hints) e =
      let all = terms_read (symbols_of h) (arity_of h) (over_histories h) (term ∷ hints_forms hints) (first_right (types_refusal types) (terms_refusal (arity_of h) (term ∷ hints_forms hints)) e) in
      (all.0, hints_read hints all.1)
  outline_read (Toggle name old disabled) e = tt
  outline_read (Switch old disabled) e = tt
  outline_read (Undo name) e = tt
  outline_read Skipped e = tt

  outlined_read : (o : Outlined) → refusal_after h o ≡ None → HasEventTerms h (event_after h o)
  outlined_read (Err refusal) e = tt
  outlined_read (Ok o) e = outline_read o (first_left (outline_refusal h o) (outline_hints_refusal h o) e)

pub events_have_terms : EventsHaveTerms
unfolding event_refusal event_of
events_have_terms h form e = outlined_read h (outline form) e
