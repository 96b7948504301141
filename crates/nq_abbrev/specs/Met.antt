-- Refusals, as the program has them.
use Rattle.std.specs.Prelude.{Option, None, Some}
use Rattle.nq_language.specs.Refusals as language
use Rattle.nq_abbrev.specs.declared.refusal.Refusal.{Refusal}
use Rattle.nq_abbrev.specs.declared.refusal.Refusal.TheVariants.{UnknownFunction, WrongArity, OutOfScope, BadAbbreviation, BadVariable, TooLarge}

abbrev pub refusal_of : Refusal → language.Refusal
refusal_of (UnknownFunction f) = language.UnknownFunction f.now
refusal_of (WrongArity f given wanted) = language.WrongArity f.now given wanted
refusal_of (OutOfScope name) = language.OutOfScope name.now
refusal_of (BadAbbreviation name) = language.BadAbbreviation name.now
refusal_of (BadVariable name) = language.BadVariable name.now
refusal_of TooLarge = language.TooLarge

abbrev pub met_of : Option Refusal → language.Met
met_of None = None
met_of (Some refusal) = Some (refusal_of refusal)
