-- The name of a new function is none of the history's.
use Rattle.std.proofs.Common.{◌≡◌, ℕ, zero, suc, Bool, true, false, ◌||◌, List, [], ◌∷◌, ◌++◌, inl, inr, refl, sym, ap, subst, ◌∙◌}
use Rattle.std.proofs.lemmas.Slice.Eq.{bytes_eq-Decides}
use Rattle.std.specs.Prelude.{bytes_eq}
use Rattle.nq_logic.specs.Terms.{Name, Symbol, Term, Variable, Function, Applied, Takes, IsAmong}
use Rattle.nq_logic.specs.Histories.{History, event_symbols, events_symbols}
use Rattle.nq_logic.specs.Ground.{symbols_of, ground_history, all_events}
use Rattle.nq_logic.specs.Names.{symbol_names, event_names, events_names, has_name, is_reserved, is_in_use}
use Rattle.nq_logic.specs.Admissible.{mentions}
use Rattle.nq_logic.proofs.Lists.{among_left, among_right}
use Rattle.nq_logic.proofs.Tests.{names_found_law, true_not_false}
use Rattle.nq_proof.proofs.ShellSymbols.{symbols_join}

symbol_name : (s : Symbol) (symbols : List Symbol) → IsAmong s symbols → IsAmong s.0 (symbol_names symbols)
symbol_name s [] m = absurd m
symbol_name s (u ∷ symbols) (inl e) = inl (ap (λ (x : Symbol). x.0) e)
symbol_name s (u ∷ symbols) (inr m) = inr (symbol_name s symbols m)

split_among : {X : Type 0} (P : Type 0) (x : X) (xs ys : List X) → (IsAmong x xs → P) → (IsAmong x ys → P) → IsAmong x (xs ++ ys) → P
split_among P x [] ys f g m = g m
split_among P x (z ∷ xs) ys f g (inl e) = f (inl e)
split_among P x (z ∷ xs) ys f g (inr m) = split_among P x xs ys (λ i. f (inr i)) g m

event_symbol_name : (s : Symbol) (l : History) → IsAmong s (events_symbols l) → IsAmong s.0 (events_names l)
event_symbol_name s [] m = absurd m
event_symbol_name s (e ∷ l) m =
    split_among (IsAmong s.0 (events_names (e ∷ l))) s (event_symbols e) (events_symbols l)
    (λ i. among_left s.0 (event_names e) (events_names l) (inr (symbol_name s (event_symbols e) i)))
    (λ i. among_right s.0 (event_names e) (events_names l) (event_symbol_name s l i)) m

right_false : (a b : Bool) → a || b ≡ false → b ≡ false
right_false true b e = absurd cc
right_false false b e = e

-- a name that is not in use is that of no function
no_function : (h : History) (f g : Name) (n : ℕ) → is_in_use f h ≡ false → IsAmong (g, n) (symbols_of h) → bytes_eq f g ≡ false
unfolding symbols_of
no_function h f g n unused m = by_test (bytes_eq f g) refl
  where
    names : List Name
    names = events_names (all_events h)

    by_test : (b : Bool) → bytes_eq f g ≡ b → b ≡ false
    by_test false e = refl
    by_test true e =
        let named : IsAmong g names = event_symbol_name (g, n) (ground_history ++ h) (subst (IsAmong (g, n)) (sym (symbols_join ground_history h)) m) in
        let among : IsAmong f names = subst (λ x. IsAmong x names) (sym ((bytes_eq-Decides f g).0 e)) named in
        absurd (true_not_false (has_name f names) ((names_found_law f names).1 among) (right_false (is_reserved f) (has_name f names) unused))

-- no term over the history's functions mentions it
pub not_mentioned : (h : History) (f : Name) (t : Term) (n : ℕ) → is_in_use f h ≡ false → Takes (symbols_of h) t n → mentions f t ≡ false
not_mentioned h f (Variable x) n unused o = refl
not_mentioned h f (Function g) n unused o = no_function h f g n unused o
not_mentioned h f (Applied t u) n unused o = ap (λ b. b || mentions f u) (not_mentioned h f t (suc n) unused o.0) ∙ not_mentioned h f u zero unused o.1
