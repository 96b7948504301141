-- Histories whose events speak of the history's own functions alone, and whose shells were accepted.
use Rattle.std.specs.Prelude.{◌≡◌, List, ◌∷◌, ◌++◌, ⊤}
use Rattle.nq_logic.specs.Terms.{Symbol, IsTerm, IsAmong, Each}
use Rattle.nq_logic.specs.Histories.{History, Event, AddShell, Declaration, Defines, Axiom, Lemma, Toggle, Shell, Part}
use Rattle.nq_logic.specs.Ground.{symbols_of}
use Rattle.nq_logic.specs.ShellPrinciple.{listed, IsShellAcceptedIn}

-- what a part's restriction and default name are functions among these
pub record PartOver (symbols : List Symbol) (part : Part) : Type 0 where
  pub recognizers : Each (λ r. IsAmong (r, 1) symbols) (listed part.restriction)
  pub default : IsAmong (part.default, 0) symbols

-- what an event names is a function among these
abbrev pub EventOver : List Symbol → Event → Type 0
EventOver symbols (AddShell s) = Each (PartOver symbols) s.parts
EventOver symbols (Declaration f n) = ⊤
EventOver symbols (Defines d) = IsTerm symbols d.body
EventOver symbols (Axiom n classes t) = IsTerm symbols t
EventOver symbols (Lemma n classes t) = IsTerm symbols t
EventOver symbols (Toggle n old disabled) = ⊤

-- each event speaks of the history's functions alone
abbrev pub IsClosed : History → Type 0
IsClosed h = Each (EventOver (symbols_of h)) h

-- each shell of the history was accepted by the Shell Principle in the history before it
abbrev pub MeetsShellPrinciple : History → Type 0
MeetsShellPrinciple h = (before after : History) (s : Shell) → h ≡ before ++ (AddShell s ∷ after) → IsShellAcceptedIn before s
