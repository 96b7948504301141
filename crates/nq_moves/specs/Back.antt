-- Lines whose literals are carried back to those that another term has replaced in.
use Rattle.std.specs.Prelude.{◌≡◌, ◌⊎◌, ℕ, List, ◌∷◌, ◌++◌, map}
use Rattle.nq_logic.specs.Terms.{Term, IsAmong}
use Rattle.nq_logic.specs.Words.{not_term, equal_term}
use Rattle.nq_bank.specs.declared.node.TermId.{TermId}
use Rattle.nq_bank.specs.Content.{term_at, terms_at}
use Rattle.nq_kernel.specs.declared.work.Work.{Work}
use Rattle.nq_lines.specs.declared.calls.Equated.{Equated}
use Rattle.nq_lines.specs.Lines.{LineHasOnly, AreAmong}
use Rattle.nq_goals.specs.Replacing.{exchanged}
use Rattle.nq_moves.specs.declared.equal.Swap.{Swap}
use Rattle.nq_moves.specs.Equal.{swap_at}

-- the literal denies the equation of the two, in one order or the other
abbrev pub Denies : Term → Term → Term → Type 0
Denies literal a b = (literal ≡ not_term (equal_term a b)) ⊎ (literal ≡ not_term (equal_term b a))

-- left and right are the two, in one order or the other
abbrev pub AreSides : Term → Term → Term → Term → Type 0
AreSides left right a b = ((left ≡ a) × (right ≡ b)) ⊎ ((left ≡ b) × (right ≡ a))

-- line n has l for what l equals
abbrev pub BackTo : Work → Work → TermId → Equated → ℕ → ℕ → Type 0
BackTo old new l e line n =
    (these : List Term) → LineHasOnly old line (term_at old.bank e.term ∷ these) →
    LineHasOnly old e.line (equal_term (term_at old.bank l) (term_at old.bank e.term) ∷ these) → LineHasOnly new n (term_at old.bank l ∷ these)

-- line n has l for l with the one term in place of the other, beside the hypothesis
abbrev pub IsBack : Work → Work → Swap → TermId → ℕ → ℕ → Type 0
IsBack old new w l line n =
    (these : List Term) → IsAmong (term_at old.bank w.hypothesis) these →
    LineHasOnly old line (exchanged (swap_at old.bank w) (term_at old.bank l) ∷ these) → LineHasOnly new n (term_at old.bank l ∷ these)

-- line n has these alone, where the other line has the same and literals with the one term in place of the other
abbrev pub AreBack : Work → Work → Swap → List TermId → ℕ → ℕ → Type 0
AreBack old new w literals line n =
    (all : List Term) → IsAmong (term_at old.bank w.hypothesis) all → AreAmong (terms_at old.bank literals) all →
    LineHasOnly old line (map (exchanged (swap_at old.bank w)) (terms_at old.bank literals) ++ all) → LineHasOnly new n all
