-- What a definition's check rests on.
use Rattle.std.specs.Prelude.{◌≡◌, true, false, List, ◌||◌, map}
use Rattle.nq_logic.specs.Terms.{Name, Term, substituted}
use Rattle.nq_logic.specs.Histories.{History}
use Rattle.nq_logic.specs.Names.{are_distinct, is_in_use}
use Rattle.nq_logic.specs.Admissible.{mentions, matched, calls_of, obligation}
use Rattle.nq_calls.specs.Mentions.{IsApart}
use Rattle.nq_calls.specs.Calls.{counted_calls}
use Rattle.nq_calls.specs.Falls.{obligation_at, uses_of, is_in_used}

-- a name that is not in use is none of those that stand in numerals and in denials
abbrev pub ApartIfUnused : Type 0
ApartIfUnused = (f : Name) (h : History) → is_in_use f h ≡ false → IsApart f

-- the obligations of the counted calls are those of the calls, in their order
abbrev pub CountedObligations : Type 0
CountedObligations = (f : Name) (xs : List Name) (m body : Term) → map (obligation_at xs m) (counted_calls f body) ≡ map (λ c. obligation f xs m c.tests c.arguments) (calls_of f body)

-- the measure at the arguments mentions the function where the measure does, or the argument of a formal that it uses
abbrev pub SmallerMentions : Type 0
SmallerMentions = (f : Name) (xs : List Name) (ts : List Term) (m : Term) → are_distinct xs ≡ true → mentions f (substituted (matched xs ts) m) ≡ (mentions f m || is_in_used f (uses_of xs m) ts)
