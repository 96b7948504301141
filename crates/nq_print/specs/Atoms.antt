-- Lists of codes in a bank.
use Rattle.std.specs.Prelude.{◌≡◌, ℕ, Option, None, Some, List, [], ◌++◌, Vec}
use Rattle.std.specs.declared.alloc.Global.{Global}
use Rattle.nq_bank.specs.declared.node.TermId.{TermId}
use Rattle.nq_bank.specs.Content.{Content, term_at}
use Rattle.nq_form.specs.Form.{Form, symbol}
use Rattle.nq_language.specs.Quotations.{with_code, codes_of, atom_object}
use Rattle.nq_print.specs.declared.atoms.Code.{Code}
use Rattle.nq_print.specs.declared.atoms.Code.TheVariants.{End, Next, Other}
use Rattle.nq_print.specs.Shapes.{IsPart}

-- these codes, and then the others
abbrev pub prefixed : List ℕ → Option (List ℕ) → Option (List ℕ)
prefixed front None = None
prefixed front (Some codes) = Some (front ++ codes)

-- no atom has such codes behind others
abbrev pub NamesNone : Option (List ℕ) → Type 0
NamesNone codes = (front : List ℕ) → atom_object (prefixed front codes) ≡ None

-- what stands first in the list of codes
abbrev pub IsCode : Content → TermId → Code → Type 0
IsCode bank t End = codes_of (term_at bank t) ≡ Some []
IsCode bank t (Next code rest) = IsPart bank t rest × (codes_of (term_at bank t) ≡ with_code (Some code) (codes_of (term_at bank rest)))
IsCode bank t Other = NamesNone (codes_of (term_at bank t))

-- the symbol of a name
abbrev pub name_form : Option (Vec ℕ Global) → Option Form
name_form None = None
name_form (Some name) = Some (symbol name.items)
