-- Symbols found in lists.
use Rattle.std.proofs.Common.{◌≡◌, ℕ, ◌+◌, ◌<◌, zero, suc, Bool, true, false, List, [], ◌∷◌, ◌++◌, length, get_or, drop, refl, sym, ap, ◌∙◌, arith}
use Rattle.std.specs.Prelude.{◌||◌, ◌&&◌, ◌==◌, bytes_eq, nat_lt}
use Rattle.std.proofs.lemmas.Bool.{ltb-true}
use Rattle.nq_bank.specs.GroundNames.{ground_count}
use Rattle.std.proofs.lemmas.List.{at_drop_more}
use Rattle.nq_logic.specs.Terms.{Name, Symbol}
use Rattle.nq_logic.specs.Histories.{History, Shell, accessor_symbols, base_symbols, event_symbols, events_symbols, shell_symbols}
use Rattle.nq_logic.specs.Ground.{ground_symbols, symbols_of}
use Rattle.nq_bank.specs.Content.{Content, text_at}
use Rattle.nq_bank.specs.Soundness.{ground_text}
use Rattle.nq_bank.specs.declared.shell.Part.{Part}
use Rattle.nq_bank.specs.Shells.{parts_at}
use Rattle.nq_proof.specs.Logs.{has_symbol}
use Rattle.nq_history.specs.declared.entry.Entry.{Entry}
use Rattle.nq_history.specs.Events.{all_events_at, event_at}
use Rattle.nq_check.specs.declared.arities.Function.{Function}
use Rattle.nq_check.specs.Functions.{are_ground, symbols_in}

-- a symbol is among two lists where it is among one of them
pub has_symbol_joined : (f : Name) (n : ℕ) (xs ys : List Symbol) → has_symbol f n (xs ++ ys) ≡ (has_symbol f n xs || has_symbol f n ys)
has_symbol_joined f n [] ys = refl
has_symbol_joined f n (s ∷ xs) ys = by_first (bytes_eq f s.0 && (n == s.1)) (has_symbol_joined f n xs ys)
  where
    by_first : (b : Bool) → has_symbol f n (xs ++ ys) ≡ (has_symbol f n xs || has_symbol f n ys) →
        elim b as (λ b. Bool) [ true ↦ true | false ↦ has_symbol f n (xs ++ ys) ] ≡ ((elim b as (λ b. Bool) [ true ↦ true | false ↦ has_symbol f n xs ]) || has_symbol f n ys)
    by_first true e = refl
    by_first false e = e

pub known_symbol : (f : Name) (n : ℕ) (h : History) → has_symbol f n (symbols_of h) ≡ (has_symbol f n ground_symbols || has_symbol f n (events_symbols h))
unfolding symbols_of
known_symbol f n h = has_symbol_joined f n ground_symbols (events_symbols h)

pub one_symbol : (f g : Name) (n k : ℕ) → has_symbol f n ((g, k) ∷ []) ≡ (bytes_eq f g && (n == k))
one_symbol f g n k = same (bytes_eq f g && (n == k))
  where
    same : (b : Bool) → elim b as (λ b. Bool) [ true ↦ true | false ↦ false ] ≡ b
    same true = refl
    same false = refl

-- a symbol is the first of a list, or among the others
pub first_symbol : (f : Name) (n : ℕ) (s : Symbol) (symbols : List Symbol) → has_symbol f n (s ∷ symbols) ≡ ((bytes_eq f s.0 && (n == s.1)) || has_symbol f n symbols)
first_symbol f n s symbols = by_first (bytes_eq f s.0 && (n == s.1))
  where
    by_first : (b : Bool) → elim b as (λ b. Bool) [ true ↦ true | false ↦ has_symbol f n symbols ] ≡ (b || has_symbol f n symbols)
    by_first true = refl
    by_first false = refl

-- a symbol of a shell is its constructor, its base, its recognizer or an accessor
pub shell_symbol : (f : Name) (n : ℕ) (s : Shell) (a c : Bool) → a ≡ has_symbol f n ((s.constructor, length s.parts) ∷ []) → c ≡ has_symbol f n ((s.recognizer, 1) ∷ []) →
    (a || (has_symbol f n (base_symbols s.base) || (c || has_symbol f n (accessor_symbols s.parts)))) ≡ has_symbol f n (shell_symbols s)
shell_symbol f n s a c e g =
    ap (λ b. b || (has_symbol f n (base_symbols s.base) || (c || has_symbol f n (accessor_symbols s.parts)))) e
    ∙ ap (λ b. has_symbol f n ((s.constructor, length s.parts) ∷ []) || (has_symbol f n (base_symbols s.base) || (b || has_symbol f n (accessor_symbols s.parts)))) g
    ∙ ap (λ b. has_symbol f n ((s.constructor, length s.parts) ∷ []) || (has_symbol f n (base_symbols s.base) || b)) (sym (has_symbol_joined f n ((s.recognizer, 1) ∷ []) (accessor_symbols s.parts)))
    ∙ ap (λ b. has_symbol f n ((s.constructor, length s.parts) ∷ []) || b) (sym (has_symbol_joined f n (base_symbols s.base) ((s.recognizer, 1) ∷ accessor_symbols s.parts)))
    ∙ sym (has_symbol_joined f n ((s.constructor, length s.parts) ∷ []) (base_symbols s.base ++ ((s.recognizer, 1) ∷ accessor_symbols s.parts)))

-- ---- lists that are walked

pub functions_left : (f : Name) (n : ℕ) (functions : List Function) (i : ℕ) (g : Function) → i < length functions → g ≡ get_or functions i g →
    has_symbol f n (symbols_in (drop i functions)) ≡ ((bytes_eq f (ground_text g.0) && (n == g.1)) || has_symbol f n (symbols_in (drop (i + 1) functions)))
functions_left f n functions i g below is =
    at_drop_more (λ rest. has_symbol f n (symbols_in rest)) functions i g below
    ∙ ap (λ here. has_symbol f n (symbols_in (here ∷ drop (i + 1) functions))) (sym is)
    ∙ first_symbol f n (ground_text g.0, g.1) (symbols_in (drop (i + 1) functions))

pub parts_left : (bank : Content) (f : Name) (n : ℕ) (parts : List Part) (i : ℕ) (part : Part) → i < length parts → part ≡ get_or parts i part →
    has_symbol f n (accessor_symbols (parts_at bank (drop i parts))) ≡ (has_symbol f n ((text_at bank part.accessor, 1) ∷ []) || has_symbol f n (accessor_symbols (parts_at bank (drop (i + 1) parts))))
parts_left bank f n parts i part below is =
    at_drop_more (λ rest. has_symbol f n (accessor_symbols (parts_at bank rest))) parts i part below
    ∙ ap (λ here. has_symbol f n (accessor_symbols (parts_at bank (here ∷ drop (i + 1) parts)))) (sym is)
    ∙ has_symbol_joined f n ((text_at bank part.accessor, 1) ∷ []) (accessor_symbols (parts_at bank (drop (i + 1) parts)))

pub entries_left : (bank : Content) (f : Name) (n : ℕ) (entries : List Entry) (i : ℕ) (e : Entry) → i < length entries → e ≡ get_or entries i e →
    has_symbol f n (events_symbols (all_events_at bank (drop i entries))) ≡ (has_symbol f n (event_symbols (event_at bank e)) || has_symbol f n (events_symbols (all_events_at bank (drop (i + 1) entries))))
entries_left bank f n entries i e below is =
    at_drop_more (λ rest. has_symbol f n (events_symbols (all_events_at bank rest))) entries i e below
    ∙ ap (λ here. has_symbol f n (events_symbols (all_events_at bank (here ∷ drop (i + 1) entries)))) (sym is)
    ∙ has_symbol_joined f n (event_symbols (event_at bank e)) (events_symbols (all_events_at bank (drop (i + 1) entries)))

-- ---- tests that are decided

pub or_first : (a b : Bool) → a ≡ true → (a || b) ≡ true
or_first true b e = refl
or_first false b e = absurd cc

pub or_second : (a b : Bool) → a ≡ false → (a || b) ≡ b
or_second true b e = absurd cc
or_second false b e = refl

and_first : (a b : Bool) → (a && b) ≡ true → a ≡ true
and_first true b e = refl
and_first false b e = e

and_second : (a b : Bool) → (a && b) ≡ true → b ≡ true
and_second true b e = e
and_second false b e = absurd cc

-- each function of a table of ground functions has a ground name
pub ground_within : (functions : List Function) (i : ℕ) (d : Function) → are_ground functions ≡ true → i < length functions → (get_or functions i d).0.0 < ground_count
ground_within [] i d all below = absurd (omega (arith, below))
ground_within (g ∷ functions) zero d all below = ltb-true g.0.0 ground_count (and_first (nat_lt g.0.0 ground_count) (are_ground functions) all)
ground_within (g ∷ functions) (suc i) d all below = ground_within functions i d (and_second (nat_lt g.0.0 ground_count) (are_ground functions) all) (omega (arith, below))
