-- Definitions and rows of shells, at terms.
use Rattle.std.specs.Prelude.{◌≡◌, ℕ, List, [], ◌∷◌, ◌++◌, map, length}
use Rattle.nq_logic.specs.Terms.{Term, call, IsTerm, IsAmong, Each, Substitution, substituted}
use Rattle.nq_logic.specs.Words.{equal_term}
use Rattle.nq_logic.specs.Formulas.{clause}
use Rattle.nq_logic.specs.Histories.{History, Definition, Shell, events_definitions, events_shells}
use Rattle.nq_logic.specs.Ground.{symbols_of, ground_definitions, ground_shells}
use Rattle.nq_logic.specs.Admissible.{AreDistinct, matched}
use Rattle.nq_logic.specs.Shells.{IsShellClause}
use Rattle.nq_logic.specs.Derivations.{Derivable}
use Rattle.nq_proof.specs.Closed.{IsClosed}
use Rattle.nq_proof.specs.Rules.{pair_terms}

-- a call of a defined function equals its body with the call's arguments for the formals
abbrev pub DefinitionAtTerms : Type 0
DefinitionAtTerms =
    (h : History) (d : Definition) (ts : List Term) → IsClosed h → IsAmong d (ground_definitions ++ events_definitions h) → AreDistinct d.formals → length ts ≡ length d.formals → Each (IsTerm (symbols_of h)) ts →
    Derivable h (clause (equal_term (call d.function ts) (substituted (matched d.formals ts) d.body) ∷ []))

-- a row of a shell's table, with terms for its variables
abbrev pub RowAtTerms : Type 0
RowAtTerms =
    (h : History) (earlier later : List Shell) (s : Shell) (row part : ℕ) (c : List Term) (pairs : Substitution) → IsClosed h → ground_shells ++ events_shells h ≡ earlier ++ (s ∷ later) → IsShellClause earlier s row part c →
    Each (IsTerm (symbols_of h)) (pair_terms pairs) → Derivable h (clause (map (substituted pairs) c))
