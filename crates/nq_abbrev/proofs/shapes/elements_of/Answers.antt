use Rattle.std.proofs.Common.{sym, ap, ◌∙◌}
use Rattle.std.specs.Prelude.{None, Some}
use Rattle.nq_sexp.specs.Tree.{tree}
use Rattle.nq_abbrev.specs.Parts.{elements_of}
use Rattle.nq_abbrev.proofs.PairLemmas.{list_is, elements_straight, elements_dotted}
use Rattle.nq_abbrev.proofs.shapes.elements_of.Goals as goal

pub returns-in-None : goal.returns-in-None
returns-in-None c = elements_straight c.in-List.items.now ∙ sym (ap elements_of (list_is _ c.in-List.items c.in-List.tail None c.in-List.is c.in-None.is))

pub returns-in-Some : goal.returns-in-Some
returns-in-Some c = elements_dotted c.in-List.items.now (tree c.in-Some.field-0.now) ∙ sym (ap elements_of (list_is _ c.in-List.items c.in-List.tail (Some c.in-Some.field-0) c.in-List.is c.in-Some.is))
