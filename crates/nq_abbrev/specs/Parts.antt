-- What is refused in the parts of a list of two forms, and the elements of a list.
use Rattle.std.specs.Prelude.{ℕ, if◌then◌else◌, Option, None, Some, List}
use Rattle.std.proofs.Common.{Bor}
use Rattle.nq_logic.specs.Terms.{Name}
use Rattle.nq_form.specs.Form.{Form, Forms, listed, end, next}
use Rattle.nq_language.specs.Refusals.{Met, object_met, met, is_dotted}
use Rattle.nq_sexp.specs.declared.Sexp.{Sexp}
use Rattle.nq_sexp.specs.Tree.{trees}

abbrev pub key_met : Form → Met
key_met (listed (next k (next v end))) = object_met k
key_met _ = None

abbrev pub test_met : (Name → Option ℕ) → Form → Met
test_met arity (listed (next t (next v end))) = met arity t
test_met arity _ = None

abbrev pub value_met : (Name → Option ℕ) → Form → Met
value_met arity (listed (next t (next v end))) = met arity v
value_met arity _ = None

-- the elements of a list without a dot
abbrev pub straight : Forms → Option Forms
straight fs = if is_dotted fs then None else Some fs

abbrev pub elements_of : Form → Option Forms
elements_of (listed fs) = straight fs
elements_of _ = None

abbrev pub elements_at : Option (Bor (List Sexp)) → Option Forms
elements_at None = None
elements_at (Some items) = Some (trees items.now end)
