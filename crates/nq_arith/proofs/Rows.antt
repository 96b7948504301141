-- The rows of a history's shells are derivable, and so are their instances.
use Rattle.std.proofs.Common.{◌≡◌, ℕ, List, [], ◌∷◌, ◌++◌, map, inl, refl, sym, subst}
use Rattle.nq_logic.specs.Terms.{Term, IsTerm, IsAmong, Each, Substitution, substituted}
use Rattle.nq_logic.specs.Formulas.{clause}
use Rattle.nq_logic.specs.Histories.{History, Shell, events_shells}
use Rattle.nq_logic.specs.Ground.{symbols_of, ground_shells}
use Rattle.nq_logic.specs.Shells.{IsShellClause}
use Rattle.nq_logic.specs.Derivations.{Derivable, shell}
use Rattle.nq_logic.specs.Laws.{IsClause}
use Rattle.nq_logic.proofs.Lists.{among_right, each_at}
use Rattle.nq_logic.proofs.Equality.{axiom_here}
use Rattle.nq_logic.proofs.Clauses.{clause_over, instance_law}
use Rattle.nq_proof.specs.Rules.{pair_terms}
use Rattle.nq_proof.proofs.TermTests.{each_left, substituted_over}
use Rattle.nq_proof.proofs.ShellSymbols.{ShellOver, shell_clause_over}

module _ (h : History) where
  -- a clause's instance is over the history's symbols
  pub instance_over : (pairs : Substitution) → Each (IsTerm (symbols_of h)) (pair_terms pairs) → (c : List Term) → IsClause h c → IsClause h (map (substituted pairs) c)
  instance_over pairs terms [] o = tt
  instance_over pairs terms (t ∷ c) o = (substituted_over h pairs terms t 0 o.0, instance_over pairs terms c o.1)

  -- an instance of a derivable clause
  pub derived_at : (pairs : Substitution) → Each (IsTerm (symbols_of h)) (pair_terms pairs) → (c : List Term) → IsClause h c → Derivable h (clause c) → Derivable h (clause (map (substituted pairs) c))
  derived_at pairs terms c o d = instance_law h pairs c d (instance_over pairs terms c o)

  module _ (overs : Each (ShellOver (symbols_of h)) (ground_shells ++ events_shells h)) (earlier later : List Shell) (s : Shell) (at : ground_shells ++ events_shells h ≡ earlier ++ (s ∷ later)) where
    pub row_over : (row i : ℕ) (c : List Term) → IsShellClause earlier s row i c → IsClause h c
    row_over row i c is =
        let among = subst (IsAmong s) (sym at) (among_right s earlier (s ∷ later) (inl refl)) in
        shell_clause_over h earlier s (each_at (ShellOver (symbols_of h)) s (ground_shells ++ events_shells h) overs among)
        (each_left (ShellOver (symbols_of h)) earlier (s ∷ later) (subst (Each (ShellOver (symbols_of h))) at overs)) is

    pub row_holds : (row i : ℕ) (c : List Term) → IsShellClause earlier s row i c → Derivable h (clause c)
    row_holds row i c is = axiom_here h (clause c) (clause_over h c (row_over row i c is)) (shell earlier later s row i c at is)

    pub row_at : (pairs : Substitution) → Each (IsTerm (symbols_of h)) (pair_terms pairs) → (row i : ℕ) (c : List Term) → IsShellClause earlier s row i c → Derivable h (clause (map (substituted pairs) c))
    row_at pairs terms row i c is = derived_at pairs terms c (row_over row i c is) (row_holds row i c is)
