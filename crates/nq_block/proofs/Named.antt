-- The names of functions, events and axioms are among the history's names.
use Rattle.std.proofs.Common.{◌≡◌, ◌⊎◌, Bool, true, false, ℕ, ◌==◌, List, [], ◌∷◌, ◌++◌, ◌&&◌, if◌then◌else◌, Some, inl, inr, refl, sym, ap, subst, ◌∙◌, append_assoc}
use Rattle.std.proofs.lemmas.Bool.Decides.{Decides-eqb}
use Rattle.std.proofs.lemmas.Slice.Eq.{bytes_eq-Decides}
use Rattle.std.specs.Prelude.{bytes_eq, IsTrue}
use Rattle.nq_logtext.specs.Symbols.{is_symbol}
use Rattle.nq_logic.specs.Terms.{Name, Symbol, IsAmong}
use Rattle.nq_logic.specs.Histories.{History, Event, AddShell, Declaration, Defines, Axiom, Lemma, Toggle, event_symbols, events_symbols}
use Rattle.nq_logic.specs.Ground.{all_events, ground_history, ground_symbols, symbols_of}
use Rattle.nq_logic.specs.Names.{event_name, symbol_names, event_names, events_names, event_in}
use Rattle.nq_logic.proofs.Lists.{among_left, among_right, each_at}
use Rattle.nq_proof.specs.Logs.{has_symbol}
use Rattle.nq_proof.specs.Rules.{term_if, event_term}
use Rattle.nq_logic.specs.Terms.{Term}
use Rattle.nq_block.specs.Names.{HasSymbols}

-- a name of the events is one of the history's
pub names_join : (g h : History) → events_names (g ++ h) ≡ events_names g ++ events_names h
names_join [] h = refl
names_join (e ∷ g) h = ap (λ names. event_names e ++ names) (names_join g h) ∙ sym (append_assoc (event_names e) (events_names g) (events_names h))

pub of_ground : (h : History) (x : Name) → IsAmong x (events_names ground_history) → IsAmong x (events_names (all_events h))
of_ground h x m = subst (IsAmong x) (sym (names_join ground_history h)) (among_left x (events_names ground_history) (events_names h) m)

pub of_events : (h : History) (x : Name) → IsAmong x (events_names h) → IsAmong x (events_names (all_events h))
of_events h x m = subst (IsAmong x) (sym (names_join ground_history h)) (among_right x (events_names ground_history) (events_names h) m)

pub spelled_name : (h : History) (x : Name) → HasSymbols h → IsAmong x (events_names (all_events h)) → IsTrue (is_symbol x)
spelled_name h x w m = each_at (λ n. IsTrue (is_symbol n)) x (events_names (all_events h)) w m

-- what is among two lists is among one of them
pub either_list : {X : Type 0} (x : X) (xs ys : List X) → IsAmong x (xs ++ ys) → IsAmong x xs ⊎ IsAmong x ys
either_list x [] ys m = inr m
either_list x (y ∷ xs) ys (inl e) = inl (inl e)
either_list x (y ∷ xs) ys (inr m) = elim (either_list x xs ys m) [ inl here ↦ inl (inr here) | inr there ↦ inr there ]

name_of_symbol : (s : Symbol) (symbols : List Symbol) → IsAmong s symbols → IsAmong s.0 (symbol_names symbols)
name_of_symbol s [] m = absurd m
name_of_symbol s (r ∷ symbols) (inl e) = inl (ap (λ (q : Symbol). q.0) e)
name_of_symbol s (r ∷ symbols) (inr m) = inr (name_of_symbol s symbols m)

pub symbol_named : (s : Symbol) (h : History) → IsAmong s (events_symbols h) → IsAmong s.0 (events_names h)
symbol_named s [] m = absurd m
symbol_named s (e ∷ h) m =
    elim (either_list s (event_symbols e) (events_symbols h) m) [
      | inl here ↦ among_left s.0 (event_names e) (events_names h) (inr (name_of_symbol s (event_symbols e) here))
      | inr there ↦ among_right s.0 (event_names e) (events_names h) (symbol_named s h there)
    ]

-- the name of a function of the history is one of its names, and is spelled
pub function_named : (h : History) (s : Symbol) → IsAmong s (symbols_of h) → IsAmong s.0 (events_names (all_events h))
unfolding symbols_of
function_named h s m =
    elim (either_list s ground_symbols (events_symbols h) m) [
      | inl here ↦ of_ground h s.0 (symbol_named s ground_history here)
      | inr there ↦ of_events h s.0 (symbol_named s h there)
    ]

pub function_spelled : (h : History) (s : Symbol) → HasSymbols h → IsAmong s (symbols_of h) → IsTrue (is_symbol s.0)
function_spelled h s w m = spelled_name h s.0 w (function_named h s m)

-- the name under which an axiom or lemma is found is one of the events' names
pub term_named : (x : Name) (h : History) (t : Term) → event_term x h ≡ Some t → IsAmong x (events_names h)
term_named x [] t e = absurd cc
term_named x (AddShell s ∷ h) t e = among_right x (event_names (AddShell s)) (events_names h) (term_named x h t e)
term_named x (Declaration f n ∷ h) t e = among_right x (event_names (Declaration f n)) (events_names h) (term_named x h t e)
term_named x (Defines d ∷ h) t e = among_right x (event_names (Defines d)) (events_names h) (term_named x h t e)
term_named x (Toggle n old disabled ∷ h) t e = among_right x (event_names (Toggle n old disabled)) (events_names h) (term_named x h t e)
term_named x (Axiom n classes u ∷ h) t e = by_name (bytes_eq x n) refl (λ f. term_named x h t f) e
  where
    by_name : (b : Bool) → bytes_eq x n ≡ b → (event_term x h ≡ Some t → IsAmong x (events_names h)) → term_if b u (event_term x h) ≡ Some t → IsAmong x (events_names (Axiom n classes u ∷ h))
    by_name true same again f = inl ((bytes_eq-Decides x n).0 same)
    by_name false other again f = inr (again f)
term_named x (Lemma n classes u ∷ h) t e = by_name (bytes_eq x n) refl (λ f. term_named x h t f) e
  where
    by_name : (b : Bool) → bytes_eq x n ≡ b → (event_term x h ≡ Some t → IsAmong x (events_names h)) → term_if b u (event_term x h) ≡ Some t → IsAmong x (events_names (Lemma n classes u ∷ h))
    by_name true same again f = inl ((bytes_eq-Decides x n).0 same)
    by_name false other again f = inr (again f)

-- an event that is found has a name of the events
pub event_named : (x : Name) (h : History) (e : Event) → event_in x h ≡ Some e → IsAmong x (events_names h)
event_named x [] e f = absurd cc
event_named x (first ∷ h) e f = by_name (bytes_eq x (event_name first)) refl (λ g. event_named x h e g) f
  where
    by_name : (b : Bool) → bytes_eq x (event_name first) ≡ b → (event_in x h ≡ Some e → IsAmong x (events_names h)) → (if b then Some first else event_in x h) ≡ Some e → IsAmong x (events_names (first ∷ h))
    by_name true same again g = inl ((bytes_eq-Decides x (event_name first)).0 same)
    by_name false other again g = among_right x (event_names first) (events_names h) (again g)

-- the test finds a symbol that is there
pub symbol_told : (f : Name) (n : ℕ) (symbols : List Symbol) → IsAmong (f, n) symbols → has_symbol f n symbols ≡ true
symbol_told f n [] m = absurd m
symbol_told f n (s ∷ symbols) m = by_test (bytes_eq f s.0 && (n == s.1)) refl (λ k. symbol_told f n symbols k) m
  where
    both : (a b : Bool) → a ≡ true → b ≡ true → a && b ≡ true
    both true b e h = h
    both false b e h = absurd cc

    by_test : (b : Bool) → bytes_eq f s.0 && (n == s.1) ≡ b → (IsAmong (f, n) symbols → has_symbol f n symbols ≡ true) → IsAmong (f, n) (s ∷ symbols) → elim b as (λ b. Bool) [ true ↦ true | false ↦ has_symbol f n symbols ] ≡ true
    by_test true e again k = refl
    by_test false e again (inr k) = again k
    by_test false e again (inl same) =
        let name : bytes_eq f s.0 ≡ true = (bytes_eq-Decides f s.0).1 (ap (λ (q : Symbol). q.0) same) in
        let arity : (n == s.1) ≡ true = (Decides-eqb n s.1).1 (ap (λ (q : Symbol). q.1) same) in
        let told = both (bytes_eq f s.0) (n == s.1) name arity in
        absurd cc
