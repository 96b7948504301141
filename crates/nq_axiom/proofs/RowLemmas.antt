-- Where the axiom of a name is found.
use Rattle.std.proofs.Common.{◌≡◌, ℕ, zero, suc, List, [], ◌++◌, refl, ap, ◌∙◌}
use Rattle.std.specs.Prelude.{Option, Some, None}
use Rattle.std.specs.Option.{option_map}
use Rattle.nq_logic.specs.Terms.{Name}
use Rattle.nq_logic.specs.Histories.{History, Shell, Definition, events_definitions, events_shells}
use Rattle.nq_logic.specs.Ground.{ground_definitions, ground_shells}
use Rattle.nq_proof.specs.Clauses.{Clause}
use Rattle.nq_proof.specs.Rows.{axiom_clause, definition_found, first_found, ground_rows, opening, opening_at, row_found, shell_found, without_part}
use Rattle.nq_axiom.specs.Openings.{opening_in}
use Rattle.nq_axiom.specs.Axioms.{axiom_among}

opening_same : (row : ℕ) (o : Option Definition) → opening_in row (option_map opening o) ≡ opening_at row o
opening_same row None = refl
opening_same row (Some d) = refl

first_twice : (o p q : Option Clause) → first_found (first_found o p) q ≡ first_found o (first_found p q)
first_twice None p q = refl
first_twice (Some c) p q = refl

without_both : (part : ℕ) (o p q : Option Clause) → first_found (without_part part (first_found o p)) q ≡ first_found (without_part part o) (first_found (without_part part p) q)
without_both zero o p q = first_twice o p q
without_both (suc part) o p q = refl

-- with the definition and the shells of a history, the axiom is the history's
pub axiom_same : (h : History) (shells : List Shell) (definition : Option Clause) (name : Name) (row part : ℕ) → definition ≡ option_map opening (definition_found name (ground_definitions ++ events_definitions h)) → shells ≡ ground_shells ++ events_shells h → axiom_among shells definition name row part ≡ axiom_clause h name row part
axiom_same h shells definition name row part is are =
    let found : Option Definition = definition_found name (ground_definitions ++ events_definitions h) in
    ap (λ ss. axiom_among ss definition name row part) are ∙
    ap (λ d. axiom_among (ground_shells ++ events_shells h) d name row part) is ∙
    ap (λ o. first_found (without_part part (first_found (row_found name row ground_rows) o)) (shell_found name row part [] (ground_shells ++ events_shells h))) (opening_same row found) ∙
    without_both part (row_found name row ground_rows) (opening_at row found) (shell_found name row part [] (ground_shells ++ events_shells h))
