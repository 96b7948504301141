-- Terms that are found to be over the functions of a history.
use Rattle.std.proofs.Common.{◌≡◌, ◌∷◌, [], ℕ, Bool, true, false, Option, Some, List, zero, suc, length, take, ◌≤◌, refl, ◌∙◌, sym, ap, subst, inl, inr}
use Rattle.std.proofs.lemmas.List.{take_all}
use Rattle.std.specs.Prelude.{All, bytes_eq, if◌then◌else◌, ◌&&◌}
use Rattle.nq_logic.specs.Terms.{Name, Symbol, Term, Function, Applied, applied, call, Takes, IsTerm, IsAmong, Each}
use Rattle.nq_logic.specs.Ground.{symbols_of}
use Rattle.nq_logic.specs.Histories.{History}
use Rattle.nq_logic.specs.Words.{numeral}
use Rattle.nq_logic.proofs.Symbols.{add1_symbol, zero_symbol}
use Rattle.nq_language.specs.Arities.{arity_in}
use Rattle.nq_bank.specs.declared.node.TermId.{TermId}
use Rattle.nq_bank.specs.Content.{Content, term_at, terms_at}
use Rattle.nq_bank.proofs.NodesLemmas.{All-head, All-tail}
use Rattle.nq_bank.proofs.Texts.{bytes_eq-true}
use Rattle.nq_history.specs.declared.entry.Entry.{Entry}
use Rattle.nq_history.specs.Events.{events_at}
use Rattle.nq_kernel.specs.Over.{IsVariable, IsTermOf, VariablesAre, TermIsIn}

some_same : (m n : ℕ) → Some m ≡ Some n → m ≡ n
some_same m n e = cc

-- the symbol that a comparison finds
found : (b : Bool) (f : Name) (s : Symbol) (n : ℕ) (rest : Option ℕ) (symbols : List Symbol) → bytes_eq f s.0 ≡ b → (rest ≡ Some n → IsAmong (f, n) symbols) → (if b then Some s.1 else rest) ≡ Some n → IsAmong (f, n) (s ∷ symbols)
found true f s n rest symbols same among e =
    let count : s.1 ≡ n = some_same s.1 n e in
    let name : f ≡ s.0 = bytes_eq-true f s.0 same in
    inl (ap (λ g. (g, n)) name ∙ ap (λ m. (s.0, m)) (sym count))
found false f s n rest symbols same among e = inr (among e)

arity_among : (symbols : List Symbol) (f : Name) (n : ℕ) → arity_in symbols f ≡ Some n → IsAmong (f, n) symbols
arity_among [] f n e = absurd cc
arity_among (s ∷ symbols) f n e = found (bytes_eq f s.0) f s n (arity_in symbols f) symbols refl (arity_among symbols f n) e

module _ (symbols : List Symbol) where
  abbrev IsOver : Term → Type 0
  IsOver t = IsTermOf IsVariable symbols t

  applied_over : (t : Term) (us : List Term) → Takes symbols t (length us) → Each IsOver us → IsTerm symbols (applied t us)
  applied_over t [] takes over = takes
  applied_over t (u ∷ us) takes over = applied_over (Applied t u) us (takes, over.0.over) over.1

  applied_variables : (t : Term) (us : List Term) → VariablesAre IsVariable t → Each IsOver us → VariablesAre IsVariable (applied t us)
  applied_variables t [] h over = h
  applied_variables t (u ∷ us) h over = applied_variables (Applied t u) us (h, over.0.variables) over.1

terms_over : (bank : Content) (history : List Entry) (ids : List TermId) → All (TermIsIn bank history) ids → Each (IsTermOf IsVariable (symbols_of (events_at bank history))) (terms_at bank ids)
terms_over bank history [] over = tt
terms_over bank history (a ∷ ids) over = (All-head (TermIsIn bank history) a ids over, terms_over bank history ids (All-tail (TermIsIn bank history) a ids over))

terms_count : (bank : Content) (ids : List TermId) → length (terms_at bank ids) ≡ length ids
terms_count bank [] = refl
terms_count bank (a ∷ ids) = ap suc (terms_count bank ids)

-- a call of a function of the history, with as many arguments as it has, of terms that are in
pub call_in : (bank : Content) (history : List Entry) (t : TermId) (f : Name) (n : ℕ) (ids : List TermId) → term_at bank t ≡ call f (terms_at bank ids) → arity_in (symbols_of (events_at bank history)) f ≡ Some n → length ids ≡ n → All (TermIsIn bank history) ids → TermIsIn bank history t
call_in bank history t f n ids is arity count over =
    let symbols : List Symbol = symbols_of (events_at bank history) in
    let each : Each (IsTermOf IsVariable symbols) (terms_at bank ids) = terms_over bank history ids over in
    let among : IsAmong (f, length (terms_at bank ids)) symbols = subst (λ m. IsAmong (f, m) symbols) (sym (terms_count bank ids ∙ count)) (arity_among symbols f n arity) in
    subst (IsTermOf IsVariable symbols) (sym is) (record { over = applied_over symbols (Function f) (terms_at bank ids) among each; variables = applied_variables symbols (Function f) (terms_at bank ids) tt each })

-- numerals are over the functions of each history
numeral_over : (h : History) (n : ℕ) → IsTerm (symbols_of h) (numeral n)
unfolding numeral
numeral_over h zero = zero_symbol h
numeral_over h (suc n) = (add1_symbol h, numeral_over h n)

numeral_variables : (n : ℕ) → VariablesAre IsVariable (numeral n)
unfolding numeral
numeral_variables zero = tt
numeral_variables (suc n) = (tt, numeral_variables n)

pub numeral_in : (bank : Content) (history : List Entry) (t : TermId) (n : ℕ) → term_at bank t ≡ numeral n → TermIsIn bank history t
numeral_in bank history t n is = subst (IsTermOf IsVariable (symbols_of (events_at bank history))) (sym is) (record { over = numeral_over (events_at bank history) n; variables = numeral_variables n })

-- what holds of as many as there are holds of all
pub whole_taken : (P : TermId → Type 0) (ids : List TermId) (i : ℕ) → length ids ≤ i → All P (take i ids) → All P ids
whole_taken P ids i past all = subst (All P) (take_all i ids past) all

pub left_true : (a b : Bool) → (a && b) ≡ true → a ≡ true
left_true true b e = refl
left_true false b e = e

pub right_true : (a b : Bool) → (a && b) ≡ true → b ≡ true
right_true true b e = e
right_true false b e = absurd cc
