-- Type sets: a bit for each recognizer of a history, in the order TRUEP, FALSEP and then those of its shells, and a bit for
-- all other objects.
use Rattle.std.specs.Prelude.{◌≡◌, ◌≢◌, ℕ, suc, Bool, true, false, ◌==◌, List, [], ◌∷◌, map, codes, if◌then◌else◌}
use Rattle.std.specs.Int.{bit_at}
use Rattle.nq_logic.specs.Terms.{Name, Term, Function, Applied}
use Rattle.nq_logic.specs.Words.{true_term, not_term, and_term}
use Rattle.nq_logic.specs.Histories.{History}
use Rattle.nq_logic.specs.ShellPrinciple.{shells_of}

-- the bit of all other objects
abbrev pub other_place : ℕ
other_place = 63

-- the recognizers, in the order of their bits
abbrev pub recognizers : History → List Name
recognizers h = codes "TRUEP" ∷ codes "FALSEP" ∷ map (λ s. s.recognizer) (shells_of h)

-- does the set have the objects of this bit?
abbrev pub is_in : ℕ → ℕ → Bool
is_in set place = bit_at set place == 1

-- the set has the objects of this bit alone
pub record IsOneBit (set place : ℕ) : Type 0 where
  pub there : is_in set place ≡ true
  pub others : (k : ℕ) → (k ≢ place) → is_in set k ≡ false

abbrev pub recognized_by : Name → Term → Term
recognized_by r t = Applied (Function r) t

-- (r t) for the recognizers r of the set, of which the first stands at this place
abbrev pub members : (ℕ → Bool) → ℕ → List Name → Term → List Term
members set place [] t = []
members set place (r ∷ rs) t = if set place then recognized_by r t ∷ members set (suc place) rs t else members set (suc place) rs t

-- (NOT (r t)) for the recognizers r outside the set
abbrev pub outsiders : (ℕ → Bool) → ℕ → List Name → Term → List Term
outsiders set place [] t = []
outsiders set place (r ∷ rs) t =
    if set place then outsiders set (suc place) rs t else not_term (recognized_by r t) ∷ outsiders set (suc place) rs t

-- the right nest of AND, or T
abbrev pub all_of : List Term → Term
all_of [] = true_term
all_of (p ∷ []) = p
all_of (p ∷ q ∷ rest) = and_term p (all_of (q ∷ rest))

-- The fact of a set: that t is an object of it. Where the set has all other objects, it is one literal: that t is none of
-- the recognizers outside.
abbrev pub facts_among : (ℕ → Bool) → List Name → Term → List Term
facts_among set rs t = if set other_place then all_of (outsiders set 0 rs t) ∷ [] else members set 0 rs t

abbrev pub facts : History → ℕ → Term → List Term
facts h set t = facts_among (is_in set) (recognizers h) t

-- the denials of what is assumed
abbrev pub denials : List Term → List Term
denials assumed = map not_term assumed
