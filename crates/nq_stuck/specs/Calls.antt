-- The calls that stand in terms.
use Rattle.std.specs.Prelude.{◌≡◌, ℕ, nat_eq, Bool, true, false, List, Some}
use Rattle.std.specs.declared.hash.FoldHasher.{FoldHasher}
use Rattle.std.specs.declared.hash.BuildHasherDefault.{BuildHasherDefault}
use Rattle.std.specs.HashMap.{get, HashMap}
use Rattle.nq_logic.specs.Terms.{Term, IsAmong}
use Rattle.nq_logic.specs.RuleShapes.{is_call}
use Rattle.nq_logic.specs.Values.{is_value}
use Rattle.nq_bank.specs.declared.node.TermId.{TermId}
use Rattle.nq_bank.specs.Content.{Content, term_at, terms_at}
use Rattle.nq_goals.specs.Replacing.{parts_in, parts_in_all}

-- each call that stands in the term, perhaps itself, and is no value, is among these
pub record Holds (bank : Content) (found : List TermId) (t : Term) : Type 0 where
  pub each : (p : Term) → IsAmong p (parts_in t) → is_call p ≡ true → is_value p ≡ false → IsAmong p (terms_at bank found)

-- the same of several terms
pub record HoldsAll (bank : Content) (found : List TermId) (ts : List Term) : Type 0 where
  pub each : (p : Term) → IsAmong p (parts_in_all ts) → is_call p ≡ true → is_value p ≡ false → IsAmong p (terms_at bank found)

-- what was found is still there
pub record IsMore (bank : Content) (old new : List TermId) : Type 0 where
  pub each : (p : Term) → IsAmong p (terms_at bank old) → IsAmong p (terms_at bank new)

abbrev pub Known : Type 0
Known = HashMap ℕ Bool (BuildHasherDefault FoldHasher)

-- the calls of each term that is known are among these
pub record AreKnown (bank : Content) (known : Known) (found : List TermId) : Type 0 where
  pub each : (t : TermId) (answer : Bool) → get nat_eq known t.0 ≡ Some answer → Holds bank found (term_at bank t)
