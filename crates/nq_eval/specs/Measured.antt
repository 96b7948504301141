-- Calls of COUNT on values.
use Rattle.std.specs.Prelude.{◌≡◌, ◌≤◌, List, [], ◌∷◌, All, None, codes, true}
use Rattle.nq_logic.specs.Terms.{Name, Term, Function, Applied, Substitution, call}
use Rattle.nq_logic.specs.Words.{call1, call2}
use Rattle.nq_logic.specs.Sizes.{depth_of}
use Rattle.nq_proof.specs.Values.{value_of}
use Rattle.nq_bank.specs.declared.node.TermId.{TermId}
use Rattle.nq_bank.specs.Content.{Content, Stands, term_at, terms_at}
use Rattle.nq_history.specs.declared.entry.Entry.{Entry}
use Rattle.nq_fragments.specs.Outcomes.{is_small}
use Rattle.nq_eval.specs.Lines.{IsUsable}

-- terms in place of X1 and X2
abbrev pub for_part : Term → Substitution
for_part a = (codes "X1", a) ∷ []

abbrev pub for_parts : Term → Term → Substitution
for_parts a b = (codes "X1", a) ∷ (codes "X2", b) ∷ []

-- a part of a value that isn't too deep
pub record IsPartOfSmall (bank : Content) (history : List Entry) (a : TermId) : Type 0 where
  pub usable : IsUsable bank history a
  pub shallow : depth_of (term_at bank a) ≤ 1900

-- u is COUNT of the call of this constructor on a
pub record IsMadeOf (bank : Content) (history : List Entry) (c : Name) (u a : TermId) : Type 0 where
  pub stands : Stands bank u
  pub is : term_at bank u ≡ call1 "COUNT" (Applied (Function c) (term_at bank a))
  pub part : IsPartOfSmall bank history a

-- u is COUNT of the pair of a and b
pub record IsMadeOfTwo (bank : Content) (history : List Entry) (u a b : TermId) : Type 0 where
  pub stands : Stands bank u
  pub is : term_at bank u ≡ call1 "COUNT" (call2 "CONS" (term_at bank a) (term_at bank b))
  pub first : IsPartOfSmall bank history a
  pub second : IsPartOfSmall bank history b

-- u is COUNT of the value v, and has no value by the table
pub record IsCount (bank : Content) (history : List Entry) (u v : TermId) : Type 0 where
  pub usable : IsUsable bank history u
  pub is : term_at bank u ≡ call1 "COUNT" (term_at bank v)
  pub value : Stands bank v
  pub small : is_small (term_at bank v) ≡ true
  pub row : value_of (term_at bank u) ≡ None

-- u is COUNT of these values, and has no value by the table
pub record IsCountCall (bank : Content) (history : List Entry) (u : TermId) (values : List TermId) : Type 0 where
  pub usable : IsUsable bank history u
  pub is : term_at bank u ≡ call (codes "COUNT") (terms_at bank values)
  pub stand : All (Stands bank) values
  pub small : All (λ v. is_small (term_at bank v) ≡ true) values
  pub row : value_of (term_at bank u) ≡ None
