-- Faults that tell refusals.
use Rattle.std.specs.Prelude.{◌≡◌, ℕ, List, map}
use Rattle.nq_events.specs.Refusals.{Refusal, code_of, words_of}
use Rattle.nq_event.specs.declared.fault.EventFault.{EventFault}
use Rattle.nq_event.specs.declared.fault.EventFault.TheVariants.{Refused, Memory}

-- a code and words tell the refusal
pub record Tells (refusal : Refusal) (code : ℕ) (words : List (List ℕ)) : Type 0 where
  pub code_is : code ≡ code_of refusal
  pub words_are : words ≡ words_of refusal

-- the fault tells the refusal, unless memory was wanting for its words
abbrev pub IsTold : Refusal → EventFault → Type 0
IsTold refusal (Refused code words) = Tells refusal code (map (λ word. word.items) words.items)
IsTold refusal Memory = Unit {0}
