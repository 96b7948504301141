-- A log can spell what the hints of a spelled form say, where they are not refused.
use Rattle.std.proofs.Common.{◌≡◌, Bool, true, false, ℕ, List, [], ◌∷◌, map, refl}
use Rattle.std.specs.Prelude.{⊤, IfSome, None, Option, Some, is_some, not, if◌then◌else◌, ◌&&◌}
use Rattle.std.specs.List.{list_any}
use Rattle.nq_logic.specs.Terms.{Each, Name, Term}
use Rattle.nq_logic.specs.Histories.{History}
use Rattle.nq_logic.specs.Ground.{symbols_of}
use Rattle.nq_logic.specs.Names.{are_distinct, constant_names, has_name}
use Rattle.nq_logic.proofs.Lists.{each_append}
use Rattle.nq_form.specs.Form.{Form}
use Rattle.nq_kernel.specs.Over.{IsTermOf, IsVariable}
use Rattle.nq_events.specs.Events.{Instance}
use Rattle.nq_events.specs.HintRefusals.{are_replaceable, first_bad, hints_refusal, is_good_hint, is_good_kind, is_usable, stands_twice, term_named}
use Rattle.nq_events.specs.HintTerms.{expanded, first_term, given, hints_given, inducted, instance_given, listed_by, pair_given, term_in, used}
use Rattle.nq_events.specs.Refusals.{Refusal, BadHint}
use Rattle.nq_events.specs.TermRefusals.{hint_forms, hints_forms, instances_forms, kind_forms, pair_forms}
use Rattle.nq_events.specs.WrittenHints.{WrittenPair, WrittenInstance, WrittenHint, HintKind, Use, Enable, Disable, Expand, Induct, DoNotInduct, DoNotGeneralize, HandsOff, NoArithmetic, Time}
use Rattle.nq_spelling.specs.SpelledEvents.{AreSpelledHints}
use Rattle.nq_spelling.proofs.Tests.{both_true, each_passes, none_true, not_true}
use Rattle.nq_spelling.proofs.HintShapes.{IsSpelledHint, IsSpelledInstance, IsSpelledKind, IsSpelledPair}
use Rattle.nq_spelling.proofs.FormulaSpelling.{AreTerms, HasTerm, terms_left, terms_right, terms_spelled}

-- ---- hints that are not bad

-- where the first hint is good and so are the rest
good_first : (good : Bool) (rest : Option Refusal) (refusal : Refusal) → (if good then rest else Some refusal) ≡ None → (good ≡ true) × (rest ≡ None)
good_first true rest refusal e = (refl, e)
good_first false rest refusal e = absurd (cc)

module _ (h : History) where
  -- no condition of refusal 22 holds of the hint
  abbrev IsGood : WrittenHint → Type 0
  IsGood hint = is_good_hint h hint.kind ≡ true

  abbrev IsUsable : WrittenInstance → Type 0
  IsUsable i = is_usable h i ≡ true

  none_bad : (words : List Name) (hints : List WrittenHint) → first_bad h words hints ≡ None → Each IsGood hints
  none_bad words [] e = tt
  none_bad words (hint ∷ hints) e =
      let here = good_first (is_good_hint h hint.kind && not (stands_twice hint.word words)) (first_bad h words hints) (BadHint hint.word) e in
      ((both_true (is_good_hint h hint.kind) (not (stands_twice hint.word words)) here.0).0, none_bad words hints here.1)

  -- ---- one hint

  -- the variable is such as a log can spell, and so is the term
  abbrev IsPair : WrittenPair → Type 0
  IsPair p = IsVariable p.variable × HasTerm h p.form

  abbrev IsInstance : WrittenInstance → Type 0
  IsInstance i = Each IsPair i.pairs

  abbrev IsKind : HintKind → Type 0
  IsKind (Use instances) = Each IsInstance instances
  IsKind (Enable names) = ⊤
  IsKind (Disable names) = ⊤
  IsKind (Expand forms) = Each (HasTerm h) forms
  IsKind (Induct form) = HasTerm h form
  IsKind DoNotInduct = ⊤
  IsKind DoNotGeneralize = ⊤
  IsKind (HandsOff functions) = ⊤
  IsKind NoArithmetic = ⊤
  IsKind Time = ⊤

  abbrev IsHint : WrittenHint → Type 0
  IsHint hint = IfSome hint.kind IsKind

  -- the replaced symbols are variables
  pairs_spelled : (ps : List WrittenPair) → Each IsSpelledPair ps → list_any (λ x. has_name x constant_names) (map (λ (p : WrittenPair). p.variable) ps) ≡ false → AreTerms h (pair_forms ps) → Each IsPair ps
  pairs_spelled [] spelled e terms = tt
  pairs_spelled (p ∷ ps) spelled e terms =
      let constants = none_true (has_name p.variable constant_names) (list_any (λ x. has_name x constant_names) (map (λ (p : WrittenPair). p.variable) ps)) e in (
        (record { symbol = spelled.0.0; other = constants.0 }, (terms_spelled h (p.form ∷ []) (spelled.0.1, tt) (terms_left h (p.form ∷ []) (pair_forms ps) terms)).0),
        pairs_spelled ps spelled.1 constants.1 (terms_right h (p.form ∷ []) (pair_forms ps) terms),
      )

  replaced_plain : (i : WrittenInstance) → is_usable h i ≡ true → list_any (λ x. has_name x constant_names) (map (λ (p : WrittenPair). p.variable) i.pairs) ≡ false
  replaced_plain i e =
      let xs = map (λ (p : WrittenPair). p.variable) i.pairs in
      let replaceable : are_replaceable xs ≡ true = (both_true (is_some (term_named h i.name)) (are_replaceable xs) e).1 in
      not_true (list_any (λ x. has_name x constant_names) xs) (both_true (not (list_any (λ x. has_name x constant_names) xs)) (are_distinct xs) replaceable).0

  instances_spelled : (is : List WrittenInstance) → Each IsSpelledInstance is → Each IsUsable is → AreTerms h (instances_forms is) → Each IsInstance is
  instances_spelled [] spelled usable terms = tt
  instances_spelled (i ∷ is) spelled usable terms = (
    pairs_spelled i.pairs spelled.0 (replaced_plain i usable.0) (terms_left h (pair_forms i.pairs) (instances_forms is) terms),
    instances_spelled is spelled.1 usable.1 (terms_right h (pair_forms i.pairs) (instances_forms is) terms),
  )

  kind_spelled : (k : HintKind) → IsSpelledKind k → is_good_kind h k ≡ true → AreTerms h (kind_forms k) → IsKind k
  kind_spelled (Use is) spelled good terms = instances_spelled is spelled (each_passes (is_usable h) is good) terms
  kind_spelled (Enable names) spelled good terms = tt
  kind_spelled (Disable names) spelled good terms = tt
  kind_spelled (Expand forms) spelled good terms = terms_spelled h forms spelled terms
  kind_spelled (Induct form) spelled good terms = (terms_spelled h (form ∷ []) (spelled, tt) terms).0
  kind_spelled DoNotInduct spelled good terms = tt
  kind_spelled DoNotGeneralize spelled good terms = tt
  kind_spelled (HandsOff functions) spelled good terms = tt
  kind_spelled NoArithmetic spelled good terms = tt
  kind_spelled Time spelled good terms = tt

  one_spelled : (k : Option HintKind) → IfSome k IsSpelledKind → is_good_hint h k ≡ true → AreTerms h (hint_forms k) → IfSome k IsKind
  one_spelled None spelled good terms = tt
  one_spelled (Some k) spelled good terms = kind_spelled k spelled good terms

  each_hint : (hints : List WrittenHint) → Each IsSpelledHint hints → Each IsGood hints → AreTerms h (hints_forms hints) → Each IsHint hints
  each_hint [] spelled good terms = tt
  each_hint (hint ∷ hints) spelled good terms = (
    one_spelled hint.kind spelled.0 good.0 (terms_left h (hint_forms hint.kind) (hints_forms hints) terms),
    each_hint hints spelled.1 good.1 (terms_right h (hint_forms hint.kind) (hints_forms hints) terms),
  )

  -- ---- what all hints say

  used_so : (k : HintKind) → IsKind k → Each IsInstance (used k)
  used_so (Use is) so = so
  used_so (Enable names) so = tt
  used_so (Disable names) so = tt
  used_so (Expand forms) so = tt
  used_so (Induct form) so = tt
  used_so DoNotInduct so = tt
  used_so DoNotGeneralize so = tt
  used_so (HandsOff functions) so = tt
  used_so NoArithmetic so = tt
  used_so Time so = tt

  expanded_so : (k : HintKind) → IsKind k → Each (HasTerm h) (expanded k)
  expanded_so (Expand forms) so = so
  expanded_so (Use is) so = tt
  expanded_so (Enable names) so = tt
  expanded_so (Disable names) so = tt
  expanded_so (Induct form) so = tt
  expanded_so DoNotInduct so = tt
  expanded_so DoNotGeneralize so = tt
  expanded_so (HandsOff functions) so = tt
  expanded_so NoArithmetic so = tt
  expanded_so Time so = tt

  inducted_so : (k : HintKind) → IsKind k → Each (HasTerm h) (inducted k)
  inducted_so (Induct form) so = (so, tt)
  inducted_so (Use is) so = tt
  inducted_so (Enable names) so = tt
  inducted_so (Disable names) so = tt
  inducted_so (Expand forms) so = tt
  inducted_so DoNotInduct so = tt
  inducted_so DoNotGeneralize so = tt
  inducted_so (HandsOff functions) so = tt
  inducted_so NoArithmetic so = tt
  inducted_so Time so = tt

  listed_so : {X : Type 0} (P : X → Type 0) (say : HintKind → List X) → ((k : HintKind) → IsKind k → Each P (say k)) → (k : Option HintKind) → IfSome k IsKind → Each P (listed_by say k)
  listed_so P say each None so = tt
  listed_so P say each (Some k) so = each k so

  given_so : {X : Type 0} (P : X → Type 0) (say : HintKind → List X) → ((k : HintKind) → IsKind k → Each P (say k)) → (hints : List WrittenHint) → Each IsHint hints → Each P (given say hints)
  given_so P say each [] so = tt
  given_so P say each (hint ∷ hints) so = each_append P (listed_by say hint.kind) (given say hints) (listed_so P say each hint.kind so.0) (given_so P say each hints so.1)

  -- ---- events

  abbrev IsTermGiven : Term → Type 0
  IsTermGiven t = IsTermOf IsVariable (symbols_of h) t

  abbrev IsPairGiven : List ℕ × Term → Type 0
  IsPairGiven p = IsVariable p.0 × IsTermOf IsVariable (symbols_of h) p.1

  pairs_given : (ps : List WrittenPair) → Each IsPair ps → Each IsPairGiven (map (pair_given h) ps)
  pairs_given [] so = tt
  pairs_given (p ∷ ps) so = (so.0, pairs_given ps so.1)

  all_given : (is : List WrittenInstance) → Each IsInstance is → Each (λ (i : Instance). Each IsPairGiven i.pairs) (map (instance_given h) is)
  all_given [] so = tt
  all_given (i ∷ is) so = (pairs_given i.pairs so.0, all_given is so.1)

  terms_given : (fs : List Form) → Each (HasTerm h) fs → Each IsTermGiven (map (term_in h) fs)
  terms_given [] so = tt
  terms_given (f ∷ fs) so = (so.0, terms_given fs so.1)

  first_given : (ts : List Term) → Each IsTermGiven ts → IfSome (first_term ts) IsTermGiven
  first_given [] so = tt
  first_given (t ∷ ts) so = so.0

  pub all_hints_spelled : (hints : List WrittenHint) → Each IsSpelledHint hints → hints_refusal h hints ≡ None → AreTerms h (hints_forms hints) → AreSpelledHints h (hints_given h hints)
  all_hints_spelled hints spelled good terms =
      let so : Each IsHint hints = each_hint hints spelled (none_bad (map (λ hint. hint.word) hints) hints good) terms in
      record {
        instances = all_given (given used hints) (given_so IsInstance used used_so hints so);
        expand = terms_given (given expanded hints) (given_so (HasTerm h) expanded expanded_so hints so);
        induct = first_given (map (term_in h) (given inducted hints)) (terms_given (given inducted hints) (given_so (HasTerm h) inducted inducted_so hints so));
      }
