-- What a translation answers.
use Rattle.std.specs.Prelude.{◌≡◌, ⊤, Result, Ok, Err}
use Rattle.nq_logic.specs.Terms.{Term}
use Rattle.nq_language.specs.Refusals as language
use Rattle.nq_bank.specs.declared.node.TermId.{TermId}
use Rattle.nq_bank.specs.Content.{Content, Stands, term_at}
use Rattle.nq_abbrev.specs.declared.translation.TranslateFault.{TranslateFault}
use Rattle.nq_abbrev.specs.declared.translation.TranslateFault.TheVariants.{Refused, Memory}
use Rattle.nq_abbrev.specs.Met.{refusal_of}

-- the id stands, and the term that it denotes is meant
pub record IsTermOf (bank : Content) (meant : Result Term language.Refusal) (t : TermId) : Type 0 where
  pub stands : Stands bank t
  pub is : meant ≡ Ok (term_at bank t)

-- the refusal is meant; memory may be wanting whatever is meant
abbrev pub IsRefusalOf : Result Term language.Refusal → TranslateFault → Type 0
IsRefusalOf meant (Refused r) = meant ≡ Err (refusal_of r)
IsRefusalOf meant Memory = ⊤
