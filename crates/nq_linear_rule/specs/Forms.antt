-- Linear forms over ids.
use Rattle.std.specs.Prelude.{Bool, true, false, All, List, Option, Some, None, map, ℤ}
use Rattle.std.specs.Option.{option_map}
use Rattle.nq_logic.specs.Terms.{Term}
use Rattle.nq_bank.specs.Content.{Content, Stands, term_at}
use Rattle.nq_proof.specs.Linear.{Form}
use Rattle.nq_linear_rule.specs.declared.form.Multiple.{Multiple}
use Rattle.nq_linear_rule.specs.declared.form.LinearForm.{LinearForm}

-- the term of an atom, with its factor
abbrev pub pair_at : Content → Multiple → Term × ℤ
pair_at bank m = (term_at bank m.atom, m.factor)

abbrev pub pairs_at : Content → List Multiple → List (Term × ℤ)
pairs_at bank ms = map (pair_at bank) ms

-- the form, with terms in place of ids
abbrev pub form_at : Content → LinearForm → Form
form_at bank a = record { constant = a.constant; atoms = pairs_at bank a.atoms.items }

abbrev pub form_if : Content → Option LinearForm → Option Form
form_if bank a = option_map (form_at bank) a

abbrev pub AtomStands : Content → Multiple → Type 0
AtomStands bank m = Stands bank m.atom

-- the ids of the atoms stand in the bank
abbrev pub AtomsStand : Content → List Multiple → Type 0
AtomsStand bank ms = All (AtomStands bank) ms

abbrev pub FormStands : Content → LinearForm → Type 0
FormStands bank a = AtomsStand bank a.atoms.items

-- the atoms, where the numbers lay within the bounds
abbrev pub if_fits : Bool → List (Term × ℤ) → Option (List (Term × ℤ))
if_fits true atoms = Some atoms
if_fits false atoms = None
