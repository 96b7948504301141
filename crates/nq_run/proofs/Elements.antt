-- The elements of a list that lies in an arena.
use Rattle.std.proofs.Common.{◌≡◌, List, [], ◌∷◌, map, refl, ap, ◌∙◌, Bor}
use Rattle.std.specs.Prelude.{Option, None, Some}
use Rattle.nq_form.specs.Form.{Form, Forms}
use Rattle.nq_sexp.specs.Tree.{tree, trees, tail_of}
use Rattle.nq_sexp.specs.declared.Sexp.{Sexp}
use Rattle.nq_sexp.specs.declared.Sexp.TheVariants.{List as list_form}
use Rattle.nq_sexp.proofs.Trees.{tree-List}
use Rattle.nq_answers.specs.Headers.{front_elements, undotted}

undotted-trees : (items : List Sexp) (rest : Forms) → undotted rest ≡ [] → undotted (trees items rest) ≡ map tree items
undotted-trees [] rest none = none
undotted-trees (item ∷ items) rest none = ap (λ (forms : List Form). tree item ∷ forms) (undotted-trees items rest none)

undotted-tail : (tail : Option (Bor Sexp)) → undotted (tail_of tail) ≡ []
undotted-tail None = refl
undotted-tail (Some form) = refl

pub front_elements-list : (items : Bor (List Sexp)) (tail : Option (Bor Sexp)) → front_elements (tree (list_form items tail)) ≡ Some (map tree items.now)
front_elements-list items tail = ap front_elements (tree-List items tail) ∙ ap (λ (forms : List Form). Some forms) (undotted-trees items.now (tail_of tail) (undotted-tail tail))

pub ruleset front_rules = (front_elements-list)
