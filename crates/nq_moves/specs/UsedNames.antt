-- The names of the variables that stand in terms.
use Rattle.std.specs.Prelude.{◌≡◌, nat_eq, Bool, true, ◌||◌, is_some, Some}
use Rattle.std.specs.HashMap.{get}
use Rattle.nq_logic.specs.Terms.{Name}
use Rattle.nq_bank.specs.declared.node.TermId.{TermId}
use Rattle.nq_bank.specs.declared.node.Sym.{Sym}
use Rattle.nq_bank.specs.Content.{Content, IsNamed, NamesText, text_at, term_at}
use Rattle.nq_bank.specs.Parts.{occurs}
use Rattle.nq_proof.specs.Clauses.{Clause}
use Rattle.nq_moves.specs.Knowing.{Answers}
use Rattle.nq_moves.specs.Naming.{occurs_in_one}

-- whether the name is among those that were kept
abbrev pub is_kept : Answers → Sym → Bool
is_kept names s = is_some (get nat_eq names s.0)

-- each name that was kept stands in the bank
pub record AreNamed (bank : Content) (names : Answers) : Type 0 where
  pub each : (s : Sym) → is_kept names s ≡ true → IsNamed bank s

-- of the names in the bank those whose texts pass the test were added
pub record Adds (bank : Content) (old new : Answers) (test : Name → Bool) : Type 0 where
  pub told : (s : Sym) → IsNamed bank s → is_kept new s ≡ (is_kept old s || test (text_at bank s))

-- the names of the variables of each term that is known were kept
pub record AreKnown (bank : Content) (known names : Answers) : Type 0 where
  pub each : (t : TermId) (answer : Bool) → get nat_eq known t.0 ≡ Some answer → (s : Sym) → IsNamed bank s → occurs (text_at bank s) (term_at bank t) ≡ true → is_kept names s ≡ true

-- a name with this text was kept
pub record HasName (bank : Content) (names : Answers) (x : Name) : Type 0 where
  pub name : Sym
  pub text : NamesText bank name x
  pub kept : is_kept names name ≡ true

-- the names that were kept are those of the variables that stand in the literals
pub record AreNamesOf (bank : Content) (names : Answers) (c : Clause) : Type 0 where
  pub named : AreNamed bank names
  pub sound : (s : Sym) → is_kept names s ≡ true → occurs_in_one (text_at bank s) c ≡ true
  pub whole : (x : Name) → occurs_in_one x c ≡ true → HasName bank names x
