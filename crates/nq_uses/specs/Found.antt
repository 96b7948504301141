-- What was found, as a list.
use Rattle.std.specs.Prelude.{List, [], ◌∷◌, Option, None, Some}
use Rattle.nq_bank.specs.declared.node.TermId.{TermId}

abbrev pub found_ids : Option TermId → List TermId
found_ids None = []
found_ids (Some id) = id ∷ []
