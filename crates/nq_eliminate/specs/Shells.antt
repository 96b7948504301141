-- Eliminations by the rules of shells.
use Rattle.std.specs.Prelude.{◌≡◌, ℕ, Bool, true, ◌&&◌, List, [], ◌∷◌, ◌++◌, map, codes}
use Rattle.nq_logic.specs.Terms.{Name, Term, Variable, Function, Applied, IsAmong}
use Rattle.nq_logic.specs.Histories.{History, Shell as ShellOfTexts}
use Rattle.nq_logic.specs.Names.{has_name}
use Rattle.nq_logic.specs.Shells.{whole, remade, recognizes}
use Rattle.nq_logic.specs.ShellPrinciple.{shells_of}
use Rattle.nq_bank.specs.declared.shell.Shell.{Shell}
use Rattle.nq_bank.specs.Content.{Content, IsNamed, text_at}
use Rattle.nq_bank.specs.Shells.{shell_at, ShellStands}
use Rattle.nq_proof.specs.Clauses.{Clause}
use Rattle.nq_events.specs.Events.{Hints}
use Rattle.nq_goals.specs.Eliminating.{ElimRule, Eliminating, EliminateCandidate, has_parts, no_base, shell_rules}
use Rattle.nq_goals.specs.Replacing.{stands_in_one}
use Rattle.nq_stuck.specs.Destructors.{is_accessor_call}
use Rattle.nq_eliminate.specs.declared.accesses.Access.{Access}

-- the rule of a shell with parts
abbrev pub rule_of : ShellOfTexts → ElimRule
rule_of s = record { hypotheses = recognizes s whole ∷ no_base s.base; made_of = remade s; variable = codes "X" }

-- the elimination of a variable by the rule of a shell
abbrev pub eliminating_by : ShellOfTexts → Name → Eliminating
eliminating_by s x = record { rule = rule_of s; variable = x; others = [] }

abbrev pub shells_rules : List ShellOfTexts → List ElimRule
shells_rules [] = []
shells_rules (s ∷ shells) = shell_rules s ++ shells_rules shells

-- no rule of a shell has a candidate in the goal, whatever the hints are
pub record HasNoneOfShells (h : History) (goal : Clause) : Type 0 where
  pub none : (hints : Hints) (e : Eliminating) → IsAmong e.rule (shells_rules (shells_of h)) → EliminateCandidate h hints goal e → ⊥

-- the shell is one of these, and has an accessor of this name
pub record HasAccessor (bank : Content) (shells : List ShellOfTexts) (accessor : Name) (s : Shell) : Type 0 where
  pub among : IsAmong (shell_at bank s) shells
  pub named : has_name accessor (map (λ part. part.accessor) (shell_at bank s).parts) ≡ true
  pub stands : ShellStands bank s

-- the term is a call of an accessor of one of these shells on a variable
pub record IsAccess (bank : Content) (shells : List ShellOfTexts) (t : Term) (a : Access) : Type 0 where
  pub accessor : List ℕ
  pub is : t ≡ Applied (Function accessor) (Variable (text_at bank a.variable))
  pub shell : HasAccessor bank shells accessor a.shell.now
  pub variable : IsNamed bank a.variable

-- the same, of a term that stands in the goal
pub record IsAccessIn (bank : Content) (shells : List ShellOfTexts) (goal : Clause) (a : Access) : Type 0 where
  pub term : Term
  pub stands : stands_in_one term goal ≡ true
  pub is : IsAccess bank shells term a

-- whether the term is such a call and stands in the goal
abbrev pub is_access_in : List ShellOfTexts → Clause → Term → Bool
is_access_in shells goal t = is_accessor_call shells t && stands_in_one t goal

-- a candidate of the goal by the rule of a shell with parts, whatever the hints are: an accessor's call on the variable stands in it
pub record IsShellCandidate (bank : Content) (h : History) (goal : Clause) (a : Access) : Type 0 where
  pub candidate : (hints : Hints) → EliminateCandidate h hints goal (eliminating_by (shell_at bank a.shell.now) (text_at bank a.variable))
  pub among : IsAmong (shell_at bank a.shell.now) (shells_of h)
  pub parts : has_parts (map (λ part. part.accessor) (shell_at bank a.shell.now).parts) ≡ true
  pub accessor : List ℕ
  pub called : stands_in_one (Applied (Function accessor) (Variable (text_at bank a.variable))) goal ≡ true
  pub shell : ShellStands bank a.shell.now
  pub variable : IsNamed bank a.variable
