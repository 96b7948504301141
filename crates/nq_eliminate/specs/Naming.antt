-- Names for the variables of a rule, over terms.
use Rattle.std.specs.Prelude.{List, [], ◌∷◌, Option, Some, None}
use Rattle.nq_logic.specs.Terms.{Term}
use Rattle.nq_eliminate.specs.Images.{image}

-- what is known, or the next new term
abbrev pub term_by : Option Term → List Term → (List Term → List Term) → List Term
term_by None [] rest = []
term_by None (u ∷ us) rest = u ∷ rest us
term_by (Some t) us rest = t ∷ rest us

-- what each term becomes, where the first terms become the second ones; the new terms are taken in turn
abbrev pub images_for : List Term → List Term → List Term → List Term → List Term
images_for from to [] new = []
images_for from to (t ∷ ts) new = term_by (image from to t) new (images_for from to ts)
