-- Faults that tell refusals.
use Rattle.std.proofs.Common.{◌≡◌, ℕ, Bool, true, false, List, [], ◌∷◌, ◌++◌, refl, sym, ap, ◌∙◌, subst}
use Rattle.std.specs.Prelude.{Option, None, Some, Result, Ok, Err, IfErr, IfOk, IsErrAnd, if◌then◌else◌}
use Rattle.nq_logic.specs.Terms.{Name, Term}
use Rattle.nq_form.specs.Form.{Form}
use Rattle.nq_language.specs.Refusals as language
use Rattle.nq_language.specs.Refusals.{translation, met, sized, unless_met}
use Rattle.nq_language.specs.Limits.{is_too_large}
use Rattle.nq_language.specs.Translation.{translated}
use Rattle.nq_events.specs.Refusals.{Refusal}
use Rattle.nq_events.specs.TermRefusals.{first, language_refusal, term_refusal, terms_refusal}
use Rattle.nq_event.specs.declared.fault.EventFault.{EventFault}
use Rattle.nq_event.specs.declared.fault.EventFault.TheVariants.{Refused, Memory}
use Rattle.nq_event.specs.Faults.{IsTold}
use Rattle.nq_event.specs.Readings.{IsToldOf}

-- a fault that tells a refusal tells it as the only one
pub told_some : (refusal : Refusal) (fault : EventFault) → IsTold refusal fault → IsToldOf (Some refusal) fault
told_some refusal (Refused code words) h = h
told_some refusal Memory h = tt

-- a fault that is passed on
pub told_on : {A : Type 0} (r : Result A EventFault) (came : EventFault) (refusal : Option Refusal) → IsErrAnd r (λ e. e ≡ came) → IsToldOf refusal came → IfErr r (IsToldOf refusal)
told_on (Ok x) came refusal h told = tt
told_on (Err e) came refusal h told = subst (IsToldOf refusal) (sym h) told

-- what is said of a result that is there
pub ok_on : {A E : Type 0} (r : Result A E) (P Q : A → Type 0) → ((x : A) → P x → Q x) → IfOk r P → IfOk r Q
ok_on (Ok x) P Q f h = f x h
ok_on (Err e) P Q f h = tt

-- the refusal that is told is the first of two
pub told_first : (r s : Option Refusal) (fault : EventFault) → IsToldOf r fault → IsToldOf (first r s) fault
told_first r s Memory h = tt
told_first None s (Refused code words) h = absurd h
told_first (Some refusal) s (Refused code words) h = h

-- where the first isn't, the second is told
pub told_second : (r s : Option Refusal) (fault : EventFault) → r ≡ None → IsToldOf s fault → IsToldOf (first r s) fault
told_second r s fault none h = subst (λ q. IsToldOf (first q s) fault) (sym none) h

-- the first of three refusals
pub first_assoc : (r s t : Option Refusal) → first (first r s) t ≡ first r (first s t)
first_assoc None s t = refl
first_assoc (Some refusal) s t = refl

pub first_none : (r : Option Refusal) → first r None ≡ r
first_none None = refl
first_none (Some refusal) = refl

pub terms_append : (arity : Name → Option ℕ) (xs ys : List Form) → terms_refusal arity (xs ++ ys) ≡ first (terms_refusal arity xs) (terms_refusal arity ys)
terms_append arity [] ys = refl
terms_append arity (x ∷ xs) ys = ap (first (term_refusal arity x)) (terms_append arity xs ys) ∙ sym (first_assoc (term_refusal arity x) (terms_refusal arity xs) (terms_refusal arity ys))

-- a form that has a term isn't refused, and its term is that
pub language_none : (meant : Result Term language.Refusal) (t : Term) → meant ≡ Ok t → language_refusal meant ≡ None
language_none meant t h = ap language_refusal h

sized_is : (b : Bool) (u t : Term) → (if b then Err language.TooLarge else Ok u) ≡ Ok t → u ≡ t
sized_is true u t h = absurd (cc)
sized_is false u t h = cc

unless_is : (m : language.Met) (u t : Term) → unless_met m (sized u) ≡ Ok t → u ≡ t
unless_is None u t h = sized_is (is_too_large u) u t h
unless_is (Some refusal) u t h = absurd (cc)

pub term_is : (arity : Name → Option ℕ) (f : Form) (t : Term) → translation arity f ≡ Ok t → t ≡ translated arity f
unfolding translation
term_is arity f t h = sym (unless_is (met arity f) (translated arity f) t h)
