-- What is known of the IF paths of terms.
use Rattle.std.specs.Prelude.{◌≡◌, ℕ, nat_eq, min, Some}
use Rattle.std.specs.declared.hash.FoldHasher.{FoldHasher}
use Rattle.std.specs.declared.hash.BuildHasherDefault.{BuildHasherDefault}
use Rattle.std.specs.HashMap.{get, HashMap}
use Rattle.nq_bank.specs.declared.node.TermId.{TermId}
use Rattle.nq_bank.specs.Content.{Content, Stands, term_at}
use Rattle.nq_cases.specs.Paths.{paths_of}

-- counts by the places of terms
abbrev pub KnownCounts : Type 0
KnownCounts = HashMap ℕ ℕ (BuildHasherDefault FoldHasher)

-- each count is that of the paths of a term of the bank, or the cap where they are more
pub record HasCounts (bank : Content) (cap : ℕ) (known : KnownCounts) : Type 0 where
  pub right : (t : TermId) (count : ℕ) → get nat_eq known t.0 ≡ Some count → count ≡ min (paths_of (term_at bank t)) cap
  pub stand : (t : TermId) (count : ℕ) → get nat_eq known t.0 ≡ Some count → Stands bank t
