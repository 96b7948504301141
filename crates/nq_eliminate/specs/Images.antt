-- What terms become, where other terms become given ones.
use Rattle.std.specs.Prelude.{◌≡◌, Bool, true, false, ◌||◌, ◌&&◌, not, if◌then◌else◌, List, [], ◌∷◌, map, Option, Some, None}
use Rattle.nq_logic.specs.Terms.{Name, Term, Variable, Each, IsAmong, Substitution, substituted, value_at}
use Rattle.nq_logic.specs.RuleShapes.{is_destructor_call, variables_of}
use Rattle.nq_proof.specs.Clauses.{has_term, same_term}
use Rattle.nq_goals.specs.Eliminating.{no_copies}

-- what the term becomes, where the first terms become the second ones; it is not known of a term that is none of these
abbrev pub image : List Term → List Term → Term → Option Term
image [] us t = None
image (f ∷ fs) [] t = None
image (f ∷ fs) (u ∷ us) t = if same_term t f then Some u else image fs us t

-- both are known, and one
abbrev pub same_known : Option Term → Option Term → Bool
same_known None known = false
same_known (Some t) None = false
same_known (Some t) (Some u) = same_term t u

-- the terms become one, where what is not known of different variables is different
abbrev pub become_one : List Term → List Term → Term → Term → Bool
become_one from to t u = same_term t u || same_known (image from to t) (image from to u)

-- so does each term with the one in its place
abbrev pub become_same : List Term → List Term → List Term → List Term → Bool
become_same from to [] [] = true
become_same from to [] (u ∷ us) = false
become_same from to (t ∷ ts) [] = false
become_same from to (t ∷ ts) (u ∷ us) = become_one from to t u && become_same from to ts us

-- a term other than the variable becomes this one
abbrev pub has_other : List Term → List Term → Term → Term → Bool
has_other [] us variable w = false
has_other (f ∷ fs) [] variable w = false
has_other (f ∷ fs) (u ∷ us) variable w = (same_term u w && not (same_term f variable)) || has_other fs us variable w

-- the terms become these
abbrev pub Makes : Substitution → List Term → List Term → Type 0
Makes s from to = map (substituted s) from ≡ to

-- of these variables, no others become one than those that must
abbrev pub Separates : Substitution → List Name → List Term → List Term → Type 0
Separates s xs from to = (x y : Name) → IsAmong x xs → IsAmong y xs → value_at s x ≡ value_at s y → become_one from to (Variable x) (Variable y) ≡ true

-- a destructor call of the variable, with no other variables than these
pub record IsCallOver (x : Name) (xs : List Name) (t : Term) : Type 0 where
  pub destructor : is_destructor_call x t ≡ true
  pub within : (y : Name) → IsAmong y (variables_of t) → IsAmong y xs

-- the two terms become one
abbrev pub BecomeOne : List Term → List Term → Term → Term → Type 0
BecomeOne from to t u = (s : Substitution) → Makes s from to → substituted s t ≡ substituted s u

-- two destructor calls stay apart
abbrev pub StayApart : List Term → List Term → Term → Term → Type 0
StayApart from to t u = (x : Name) (xs : List Name) (s : Substitution) → Separates s xs from to → IsCallOver x xs t → IsCallOver x xs u → substituted s t ≡ substituted s u → ⊥

-- the term becomes what one of the others does
abbrev pub BecomesOneOf : List Term → List Term → Term → List Term → Type 0
BecomesOneOf from to t us = (s : Substitution) → Makes s from to → has_term (substituted s t) (map (substituted s) us) ≡ true

-- a destructor call stays apart from others
abbrev pub StaysApart : List Term → List Term → Term → List Term → Type 0
StaysApart from to t us =
    (x : Name) (xs : List Name) (s : Substitution) → Separates s xs from to → IsCallOver x xs t → Each (IsCallOver x xs) us → has_term (substituted s t) (map (substituted s) us) ≡ false

-- two of the terms become one
abbrev pub MakesCopies : List Term → List Term → List Term → Type 0
MakesCopies from to ts = (s : Substitution) → Makes s from to → no_copies (map (substituted s) ts) ≡ false

-- destructor calls stay apart
abbrev pub StayDistinct : List Term → List Term → List Term → Type 0
StayDistinct from to ts = (x : Name) (xs : List Name) (s : Substitution) → Separates s xs from to → Each (IsCallOver x xs) ts → no_copies (map (substituted s) ts) ≡ true
