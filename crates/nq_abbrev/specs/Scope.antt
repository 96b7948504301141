-- The terms of bound variables, as the program has them.
use Rattle.std.specs.Prelude.{◌≡◌, ℕ, zero, suc, ◌<◌, Option, None, Some, Result, Ok, Err, List, [], ◌∷◌, map, IfSome, IfOk}
use Rattle.std.proofs.Common.{Bor}
use Rattle.nq_logic.specs.Terms.{Term, Substitution}
use Rattle.nq_logic.specs.Words.{call1, true_term}
use Rattle.nq_bank.specs.declared.node.TermId.{TermId}
use Rattle.nq_logic.specs.Sizes.{depth_of, depth_limit}
use Rattle.nq_bank.specs.declared.node.BankFault.{BankFault}
use Rattle.nq_bank.specs.declared.node.BankFault.TheVariants.{Deep, Memory}
use Rattle.nq_bank.specs.Content.{Content, Stands, IsIdOf, term_at}
use Rattle.nq_abbrev.specs.declared.scope.Binding.{Binding}

unfoldable pub nest : ℕ → Term
nest zero = true_term
nest (suc n) = call1 "CAR" (nest n)

-- a term that is too deep for a bank, for each that is
abbrev pub deep_term : Term
deep_term = nest 4000

abbrev pub bound_term : Content → Option TermId → Term
bound_term bank None = deep_term
bound_term bank (Some t) = term_at bank t

-- the variables and their terms
abbrev pub scope_at : Content → List Binding → Substitution
scope_at bank scope = map (λ b. (b.name.now, bound_term bank b.term)) scope

-- the term stands in the bank, if it isn't too deep
abbrev pub BindingStands : Content → Binding → Type 0
BindingStands bank b = IfSome b.term (Stands bank)

-- the id of the term was made, or the term is too deep, unless memory was wanting
pub record Makes (bank : Content) (result : Result TermId BankFault) (term : Term) : Type 0 where
  pub ok : IfOk result (λ r. IsIdOf bank r term)
  pub deep : result ≡ Err Deep → depth_limit < depth_of term

-- the binding of a name, where there is one
abbrev pub binding_of : Option (Bor (List ℕ)) → Option TermId → List Binding
binding_of None term = []
binding_of (Some name) term = record { name = name; term = term } ∷ []

-- a term, or none where it is too deep
abbrev pub kept_of : Result TermId BankFault → Result (Option TermId) BankFault
kept_of (Ok t) = Ok (Some t)
kept_of (Err Deep) = Ok None
kept_of (Err Memory) = Err Memory
