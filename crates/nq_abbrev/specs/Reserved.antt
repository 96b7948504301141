-- Names that are not reserved.
use Rattle.std.specs.Prelude.{◌≡◌, ◌⊎◌, false}
use Rattle.nq_logic.specs.Terms.{Name}
use Rattle.nq_logic.specs.Names.{is_reserved}
use Rattle.nq_language.specs.Abbreviations.{Nesting, Plain, word_of}

-- a name that is not reserved means a function
abbrev pub NamesAreCalls : Type 0
NamesAreCalls = (f : Name) → is_reserved f ≡ false → (word_of f ≡ Plain) ⊎ (word_of f ≡ Nesting)
