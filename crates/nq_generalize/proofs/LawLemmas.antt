-- New variables are in no term of a path.
use Rattle.std.proofs.Common.{◌≡◌, ℕ, Bool, true, false, ◌||◌, List, [], ◌∷◌, ◌++◌, refl, sym, ap, ◌∙◌, subst, inl, inr}
use Rattle.nq_logic.specs.Terms.{Name, Term, IsAmong}
use Rattle.nq_logic.specs.Names.{has_name}
use Rattle.nq_bank.specs.Parts.{occurs}
use Rattle.nq_proof.specs.Clauses.{Clause}
use Rattle.nq_goals.specs.NewVariables.{clause_variables, path_variables, used_variables}
use Rattle.nq_moves.proofs.NamingLemmas.{free_in}
use Rattle.nq_moves.proofs.NewLemmas.{new_names}
use Rattle.nq_moves.proofs.NumberingLemmas.{named_joined, occurs_named_in}
use Rattle.nq_generalize.specs.Laws.{AreNewVariables, NewVariablesAreNew}

neither : (a b : Bool) → (a || b) ≡ false → (a ≡ false) × (b ≡ false)
neither true b e = absurd (cc)
neither false b e = (refl, e)

free_of_names : (x : Name) (c : Clause) (t : Term) → has_name x (clause_variables c) ≡ false → IsAmong t c → occurs x t ≡ false
free_of_names x c t e m = free_in x c (occurs_named_in x c ∙ e) t m

free_of_path : (x : Name) (path : List Clause) (earlier : Clause) (t : Term) → has_name x (path_variables path) ≡ false → IsAmong earlier path → IsAmong t earlier → occurs x t ≡ false
free_of_path x [] earlier t e k m = absurd k
free_of_path x (c ∷ path) earlier t e k m =
    let both = neither (has_name x (clause_variables c)) (has_name x (path_variables path)) (sym (named_joined x (clause_variables c) (path_variables path)) ∙ e) in
    elim k [ inl is ↦ free_of_names x c t both.0 (subst (IsAmong t) is m) | inr later ↦ free_of_path x path earlier t both.1 later m ]

pub new_variables_are_new : NewVariablesAreNew
new_variables_are_new path goal count x m =
    let none = (new_names (used_variables path goal) count).unused x m in
    let both = neither (has_name x (path_variables path)) (has_name x (clause_variables goal)) (sym (named_joined x (path_variables path) (clause_variables goal)) ∙ none) in
    record { in_goal = λ t n. free_of_names x goal t both.1 n; in_path = λ earlier k t n. free_of_path x path earlier t both.0 k n }
