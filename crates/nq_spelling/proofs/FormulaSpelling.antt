-- The terms that a spelled form asks for can be spelled, where they are not refused.
use Rattle.std.proofs.Common.{◌≡◌, Bool, true, false, ℕ, List, [], ◌∷◌, ◌++◌, refl, ap₂, arith}
use Rattle.std.specs.Prelude.{None, Option, Some, Result, nat_le, nat_lt, ◌&&◌, ◌||◌}
use Rattle.nq_logic.specs.Terms.{Each, Name, Term}
use Rattle.nq_logic.specs.Histories.{History}
use Rattle.nq_logic.specs.Ground.{symbols_of}
use Rattle.nq_logic.specs.Sizes.{depth_of, size_of}
use Rattle.nq_form.specs.Form.{Form}
use Rattle.nq_language.specs.Limits.{is_too_large}
use Rattle.nq_language.specs.Refusals as language
use Rattle.nq_language.specs.Refusals.{Met, met, sized, translation, unless_met}
use Rattle.nq_language.specs.Translation.{translated}
use Rattle.nq_log.specs.Sizes.{is_small}
use Rattle.nq_block.specs.Closings.{IsClaimable}
use Rattle.nq_events.specs.EventTerms.{IsEventTerm}
use Rattle.nq_events.specs.HintTerms.{term_in}
use Rattle.nq_events.specs.TermRefusals.{arity_of, first, language_refusal, term_refusal, terms_refusal}
use Rattle.nq_events.proofs.EventTerms.{first_left, first_right}
use Rattle.nq_events.proofs.ReadTerms.{over_histories}
use Rattle.nq_kernel.specs.Over.{IsTermOf, IsVariable}
use Rattle.nq_spelling.specs.Spelled.{IsSpelled}
use Rattle.nq_spelling.proofs.SpelledTerms.{terms_are_spelled}

met_none : (m : Met) (r : Result Term language.Refusal) → language_refusal (unless_met m r) ≡ None → m ≡ None
met_none None r e = refl
met_none (Some refusal) r e = absurd (cc)

-- nothing is refused in a term that isn't refused
pub nothing_met : (arity : Name → Option ℕ) (f : Form) → term_refusal arity f ≡ None → met arity f ≡ None
unfolding translation
nothing_met arity f e = met_none (met arity f) (sized (translated arity f)) e

-- ---- sizes

not_above : (a b : ℕ) → nat_lt a b ≡ false → nat_le b a ≡ true
not_above a b e = grind arith

both_small : (a b c d : Bool) → (a ≡ false → c ≡ true) → (b ≡ false → d ≡ true) → a || b ≡ false → c && d ≡ true
both_small true b c d f g e = absurd (cc)
both_small false true c d f g e = absurd (cc)
both_small false false c d f g e = ap₂ (λ a b. a && b) (f refl) (g refl)

-- a term that is not too large for an event may be claimed in a log
pub small_term : (t : Term) → is_too_large t ≡ false → is_small t ≡ true
small_term t e =
    both_small (nat_lt 100000 (size_of t)) (nat_lt 2000 (depth_of t)) (nat_le (size_of t) 100000) (nat_le (depth_of t) 2000) (not_above 100000 (size_of t)) (not_above 2000 (depth_of t)) e

-- ---- terms over a history

module _ (h : History) where
  -- a log can spell the term of the form
  abbrev pub HasTerm : Form → Type 0
  HasTerm f = IsTermOf IsVariable (symbols_of h) (term_in h f)

  pub term_spelled : (f : Form) → IsSpelled f → term_refusal (arity_of h) f ≡ None → HasTerm f
  term_spelled f spelled e =
      let none : met (arity_of h) f ≡ None = nothing_met (arity_of h) f e in
      record { over = (over_histories h f none).over; variables = terms_are_spelled h f spelled none }

  pub formula_spelled : (f : Form) → IsSpelled f → term_refusal (arity_of h) f ≡ None → IsEventTerm (symbols_of h) (term_in h f) → IsClaimable h (term_in h f)
  formula_spelled f spelled e term = record { over = term_spelled f spelled e; small = small_term (term_in h f) term.small }

  -- none of the forms is refused
  abbrev pub AreTerms : List Form → Type 0
  AreTerms fs = terms_refusal (arity_of h) fs ≡ None

  pub terms_left : (fs gs : List Form) → AreTerms (fs ++ gs) → AreTerms fs
  terms_left [] gs e = refl
  terms_left (f ∷ fs) gs e = ap₂ first (first_left (term_refusal (arity_of h) f) (terms_refusal (arity_of h) (fs ++ gs)) e) (terms_left fs gs (first_right (term_refusal (arity_of h) f) (terms_refusal (arity_of h) (fs ++ gs)) e))

  pub terms_right : (fs gs : List Form) → AreTerms (fs ++ gs) → AreTerms gs
  terms_right [] gs e = e
  terms_right (f ∷ fs) gs e = terms_right fs gs (first_right (term_refusal (arity_of h) f) (terms_refusal (arity_of h) (fs ++ gs)) e)

  pub terms_spelled : (fs : List Form) → Each IsSpelled fs → AreTerms fs → Each HasTerm fs
  terms_spelled [] spelled e = tt
  terms_spelled (f ∷ fs) spelled e = (
    term_spelled f spelled.0 (first_left (term_refusal (arity_of h) f) (terms_refusal (arity_of h) fs) e),
    terms_spelled fs spelled.1 (first_right (term_refusal (arity_of h) f) (terms_refusal (arity_of h) fs) e),
  )
