-- What the parts of an event are read as, in a bank.
use Rattle.std.specs.Prelude.{◌≡◌, ℕ, List, map, All, Option, None, Some}
use Rattle.nq_logic.specs.Terms.{Name}
use Rattle.nq_bank.specs.declared.node.Sym.{Sym}
use Rattle.nq_bank.specs.Content.{Content, IsNamed}
use Rattle.nq_bank.specs.Shells.{texts_at}
use Rattle.nq_events.specs.Refusals.{Refusal}
use Rattle.nq_event.specs.declared.fault.EventFault.{EventFault}
use Rattle.nq_event.specs.declared.fault.EventFault.TheVariants.{Refused, Memory}
use Rattle.nq_event.specs.Faults.{Tells}

abbrev pub IsRefusedWith : Option Refusal → ℕ → List (List ℕ) → Type 0
IsRefusedWith None code words = ⊥
IsRefusedWith (Some refusal) code words = Tells refusal code words

-- the fault tells the refusal, if there is one, unless memory was wanting
abbrev pub IsToldOf : Option Refusal → EventFault → Type 0
IsToldOf refusal (Refused code words) = IsRefusedWith refusal code (map (λ word. word.items) words.items)
IsToldOf refusal Memory = Unit {0}

-- the names stand in the bank and have these texts
pub record AreNamesOf (bank : Content) (texts : List Name) (names : List Sym) : Type 0 where
  pub stand : All (IsNamed bank) names
  pub read : texts_at bank names ≡ texts

-- What is read stands in its bank and is what was meant there, and nothing was refused.
pub record IsReadAs {X Y : Type 0} (StandsThere : X → Type 0) (at : X → Y) (refusal : Option Refusal) (meant : Y) (x : X) : Type 0 where
  pub stands : StandsThere x
  pub unrefused : refusal ≡ None
  pub is : at x ≡ meant
