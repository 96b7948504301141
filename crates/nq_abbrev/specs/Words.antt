-- The meanings of names, as the program has them.
use Rattle.std.specs.Prelude.{ℕ, Option, None, Some, List, length}
use Rattle.std.proofs.Common.{Bor}
use Rattle.nq_language.specs.Abbreviations as language
use Rattle.nq_abbrev.specs.declared.word.Word.{Word}
use Rattle.nq_abbrev.specs.declared.word.Word.TheVariants.{Listing, Conditional, Choice, Binding, Quotation, Nesting, Path, Outside, Plain}

abbrev pub word_at : Word → language.Word
word_at Listing = language.Listing
word_at Conditional = language.Conditional
word_at Choice = language.Choice
word_at Binding = language.Binding
word_at Quotation = language.Quotation
word_at Nesting = language.Nesting
word_at (Path letters) = language.Path letters.now
word_at Outside = language.Outside
word_at Plain = language.Plain

abbrev pub letters_at : Option (Bor (List ℕ)) → Option (List ℕ)
letters_at None = None
letters_at (Some letters) = Some letters.now

-- how many letters there are
abbrev pub count_in : Option (List ℕ) → Option ℕ
count_in None = None
count_in (Some letters) = Some (length letters)
