-- Calls of one and of two terms: how deep they are, and that they are over the history's functions.
use Rattle.std.proofs.Common.{◌≡◌, ◌≤◌, ◌+◌, ℕ, max, Bool, true, false, List, [], ◌∷◌, refl, sym, ap, subst, arith}
use Rattle.std.specs.Prelude.{if◌then◌else◌}
use Rattle.nq_logic.specs.Terms.{Name, Term, Variable, Function, Applied, IsAmong, call}
use Rattle.nq_logic.specs.Words.{not_term}
use Rattle.nq_logic.specs.Ground.{symbols_of}
use Rattle.nq_logic.specs.Numerals.{number_of, is_numeral}
use Rattle.nq_logic.specs.Sizes.{depth_of, tree_depth}
use Rattle.nq_bank.specs.declared.node.TermId.{TermId}
use Rattle.nq_bank.specs.Content.{term_at}
use Rattle.nq_history.specs.declared.entry.Entry.{Entry}
use Rattle.nq_history.specs.Events.{events_at}
use Rattle.nq_history.proofs.HistoryLemmas.{events_at-grown}
use Rattle.nq_kernel.specs.declared.work.Work.{Work}
use Rattle.nq_kernel.specs.Over.{IsVariable, IsTermOf}
use Rattle.nq_kernel.specs.Growing.{WorkStands, WorkGrows}
use Rattle.nq_lines.specs.Lines.{CutsTo, IsTermIn}
use Rattle.nq_lines.proofs.LineLemmas.{only_grown}
use Rattle.nq_lines.proofs.TermLemmas.{IsOver}

some_tree : (t : Term) → 1 ≤ tree_depth t
unfolding tree_depth
some_tree (Variable x) = omega arith
some_tree (Function f) = omega arith
some_tree (Applied t u) = let rest = some_tree t in omega (arith, rest)

pub some_depth : (t : Term) → 1 ≤ depth_of t
some_depth t = by_test (is_numeral t)
  where
    by_test : (b : Bool) → 1 ≤ (if b then 1 else tree_depth t)
    by_test true = omega arith
    by_test false = some_tree t

-- a call of one term
pub one_depth : (f : Name) (t : Term) → depth_of (Applied (Function f) t) ≤ depth_of t + 1
unfolding number_of tree_depth
one_depth f t = by_test (is_numeral (Applied (Function f) t)) refl
  where
    by_test : (b : Bool) → is_numeral (Applied (Function f) t) ≡ b → depth_of (Applied (Function f) t) ≤ depth_of t + 1
    by_test true e =
        let whole : depth_of (Applied (Function f) t) ≡ 1 = ap (λ b. if b then 1 else tree_depth (Applied (Function f) t)) e in
        omega (arith, whole)
    by_test false e =
        let some : 1 ≤ depth_of t = some_depth t in
        let whole : depth_of (Applied (Function f) t) ≡ max 1 (depth_of t + 1) = ap (λ b. if b then 1 else tree_depth (Applied (Function f) t)) e in
        omega (arith, whole, some)

-- a call of two
pub call_depth : (f : Name) (t u : Term) → depth_of (call f (t ∷ u ∷ [])) ≤ max (depth_of t) (depth_of u) + 1
unfolding number_of tree_depth
call_depth f t u =
    let left = some_depth t in
    let right = some_depth u in
    omega (arith, left, right)

-- such a call of small terms is over the history's functions
pub call_over : (history : List Entry) (old new : Work) → WorkStands history old → WorkGrows history old new → (f : Name) (t u : TermId) → IsAmong (f, 2) (symbols_of (events_at old.bank history)) → IsTermIn history old t → IsTermIn history old u →
    IsOver history new (call f (term_at old.bank t ∷ term_at old.bank u ∷ []))
call_over history old new stands grows f t u m k l =
    subst (λ es. IsTermOf IsVariable (symbols_of es) (call f (term_at old.bank t ∷ term_at old.bank u ∷ []))) (sym (events_at-grown old.bank new.bank grows.bank history stands.history.entries))
    (record { over = ((m, k.over.over), l.over.over); variables = ((tt, k.over.variables), l.over.variables) })

-- a cut of lines that stood before
pub cut_since : (history : List Entry) (old new : Work) → WorkGrows history old new → (v : Term) (a b n : ℕ) (third : Work) → WorkStands history old → CutsTo new third v a b n → CutsTo old third v a b n
cut_since history old new grows v a b n third stands h = λ these first second. h these (only_grown history old new a (v ∷ these) stands grows first) (only_grown history old new b (not_term v ∷ these) stands grows second)
