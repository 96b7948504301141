-- What a match tells of instances.
use Rattle.std.proofs.Common.{◌≡◌, Bool, true, false, [], refl, sym, subst}
use Rattle.nq_logic.specs.Terms.{Term}
use Rattle.nq_bank.specs.Content.{Content}
use Rattle.nq_clause.specs.declared.binding.Binding.{Binding}
use Rattle.nq_clause.specs.Binding.{bindings_at, TellsMatch}
use Rattle.std.specs.Prelude.{List}
use Rattle.nq_goals.specs.Matching.{is_instance}
use Rattle.nq_goals.proofs.Matches.{instances_are_told}

told_from_none : (answer : Bool) (bank : Content) (p t : Term) (new : List Binding) → TellsMatch answer bank p t [] new → answer ≡ is_instance p t
told_from_none true bank p t new m = sym ((instances_are_told p t).1 (bindings_at bank new, m.fits))
told_from_none false bank p t new m = of_bool (is_instance p t) refl
  where
    of_bool : (b : Bool) → is_instance p t ≡ b → false ≡ b
    of_bool false e = refl
    of_bool true e = let s = (instances_are_told p t).0 e in absurd (m.none s.0 (record { same = λ x among. absurd among }) s.1)

pub match_tells : (answer : Bool) (bank : Content) (p t : Term) (old new : List Binding) → TellsMatch answer bank p t old new → old ≡ [] → answer ≡ is_instance p t
match_tells answer bank p t old new m e = told_from_none answer bank p t new (subst (λ xs. TellsMatch answer bank p t xs new) e m)
