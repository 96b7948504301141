-- Terms that are made step by step on a stack.
use Rattle.std.specs.Prelude.{◌<◌, ℕ, zero, suc, Bool, IsTrue, List, [], ◌∷◌, reverse, take, drop, ◌⊎◌}
use Rattle.nq_logic.specs.Terms.{Name as NameOf, Term, Variable as VariableOf, Function, Applied, call}
use Rattle.nq_logic.specs.Words.{numeral}
use Rattle.nq_logic.specs.Shells.{part_variable}
use Rattle.nq_logic.specs.Sizes.{depth_of, depth_limit}
use Rattle.nq_logtext.specs.Symbols.{is_between}
use Rattle.nq_bank.specs.Content.{Content, IsNamed, Stands, term_at, text_at}
use Rattle.nq_steps.specs.declared.steps.Leaf.{Leaf}
use Rattle.nq_steps.specs.declared.steps.Leaf.TheVariants.{Letter, Name, Part, Number, Known}
use Rattle.nq_steps.specs.declared.steps.Step.{Step}
use Rattle.nq_steps.specs.declared.steps.Step.TheVariants.{Leaf as LeafStep, Call}

-- the call of f, of the last n terms, in their place; the last term stands first
abbrev pub called : NameOf → ℕ → List Term → List Term
called f n ts = call f (reverse (take n ts)) ∷ drop n ts

-- the term of a leaf
abbrev pub leaf_term : Content → Leaf → Term
leaf_term bank (Letter b) = VariableOf (b ∷ [])
leaf_term bank (Name s) = VariableOf (text_at bank s)
leaf_term bank (Part k) = part_variable k
leaf_term bank (Number n) = numeral n
leaf_term bank (Known t) = term_at bank t

abbrev pub step_taken : Content → Step → List Term → List Term
step_taken bank (LeafStep leaf) ts = leaf_term bank leaf ∷ ts
step_taken bank (Call f n) ts = called (text_at bank f) n ts

abbrev pub steps_taken : Content → List Step → List Term → List Term
steps_taken bank [] ts = ts
steps_taken bank (step ∷ steps) ts = steps_taken bank steps (step_taken bank step ts)

-- the terms that the steps make from none, the last first
abbrev pub stack_of : Content → List Step → List Term
stack_of bank steps = steps_taken bank steps []

-- a letter in upper case
abbrev pub is_letter : ℕ → Bool
is_letter b = is_between 65 90 b

-- the names and terms of the leaf stand in the bank, and its one letter is in upper case
abbrev pub LeafStands : Content → Leaf → Type 0
LeafStands bank (Letter b) = IsTrue (is_letter b)
LeafStands bank (Name s) = IsNamed bank s
LeafStands bank (Part k) = Unit {0}
LeafStands bank (Number n) = Unit {0}
LeafStands bank (Known t) = Stands bank t

-- the names and terms of the step stand in the bank
abbrev pub StepStands : Content → Step → Type 0
StepStands bank (LeafStep leaf) = LeafStands bank leaf
StepStands bank (Call f n) = IsNamed bank f

-- these terms, put on the stack in their order
abbrev pub pushed : List Term → List Term → List Term
pushed [] rest = rest
pushed (t ∷ ts) rest = pushed ts (t ∷ rest)

-- the calls of f of the last two terms, so many times
abbrev pub called_times : NameOf → ℕ → List Term → List Term
called_times f zero ts = ts
called_times f (suc n) ts = called f 2 (called_times f n ts)

-- the terms joined by f to the right, or else this term
abbrev pub nest : NameOf → Term → List Term → Term
nest f none [] = none
nest f none (t ∷ []) = t
nest f none (t ∷ u ∷ rest) = Applied (Applied (Function f) t) (nest f none (u ∷ rest))

-- a term is too deep for a bank
abbrev pub IsDeep : Term → Type 0
IsDeep t = depth_limit < depth_of t

-- one of the terms is too deep
abbrev pub HasDeep : List Term → Type 0
HasDeep [] = ⊥
HasDeep (t ∷ ts) = IsDeep t ⊎ HasDeep ts
