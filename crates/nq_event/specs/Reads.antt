-- What parts of forms in an arena are read as.
use Rattle.std.specs.Prelude.{ℕ, List, map, Option, None, Some}
use Rattle.std.proofs.Common.{Bor}
use Rattle.nq_form.specs.Form.{Form}
use Rattle.nq_sexp.specs.declared.Sexp.{Sexp}
use Rattle.nq_sexp.specs.Tree.{tree}

-- the forms of a slice
abbrev pub forms_of : List Sexp → List Form
forms_of items = map tree items

abbrev pub elements_at : Option (Bor (List Sexp)) → Option (List Form)
elements_at None = None
elements_at (Some items) = Some (forms_of items.now)

abbrev pub name_at : Option (Bor (List ℕ)) → Option (List ℕ)
name_at None = None
name_at (Some name) = Some name.now

abbrev pub value_or : {X : Type 0} → X → Option X → X
value_or other None = other
value_or other (Some x) = x

-- what each of these forms is read as; what isn't read so is read as this other
abbrev pub read_each : {X : Type 0} → (Form → Option X) → X → List Sexp → List X
read_each read other items = map (λ item. value_or other (read (tree item))) items

-- what each of the forms is read as, where each is read so
abbrev pub read_if : {X : Type 0} → (Form → Option X) → X → Option (Bor (List Sexp)) → Option (List X)
read_if read other None = None
read_if read other (Some items) = Some (read_each read other items.now)
