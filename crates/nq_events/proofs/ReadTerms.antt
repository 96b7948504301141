-- The terms of an event are over the functions of the history, and of the definition.
use Rattle.std.proofs.Common.{◌≡◌, ℕ, Bool, true, false, List, [], ◌∷◌, length, inl, inr, refl}
use Rattle.std.specs.Prelude.{Option, Some, bytes_eq, if◌then◌else◌}
use Rattle.nq_logic.specs.Terms.{Name, Symbol, IsAmong}
use Rattle.nq_logic.specs.Histories.{History}
use Rattle.nq_logic.specs.Ground.{symbols_of}
use Rattle.nq_logic.proofs.Symbols.{true_symbol, false_symbol, equal_symbol, if_symbol, zero_symbol, add1_symbol, cons_symbol, car_symbol, cdr_symbol, pack_symbol, minus_symbol}
use Rattle.nq_language.specs.Arities.{arity_in}
use Rattle.nq_language.specs.Translation.{translated}
use Rattle.nq_language.proofs.PrintedObjects.{same_name}
use Rattle.nq_events.specs.TermRefusals.{arity_of, arity_with}
use Rattle.nq_events.specs.ReadTerms.{TermsAreOverHistories, TermsAreOverDefinitions}
use Rattle.nq_events.proofs.TermParts.{HasBasics, read_term}
use Rattle.nq_events.proofs.TermForms.{form_stands}

some_same : (m n : ℕ) → Some m ≡ Some n → m ≡ n
some_same m n e = cc

symbol_same : (s : Symbol) (f : Name) (n : ℕ) → f ≡ s.0 → s.1 ≡ n → (let t : Symbol = (f, n) in t) ≡ s
symbol_same s f n name number = rw (name, ← number) refl

-- the name that a comparison finds
found : (b : Bool) (f : Name) (s : Symbol) (n : ℕ) (rest : Option ℕ) (symbols : List Symbol) → bytes_eq f s.0 ≡ b → (rest ≡ Some n → IsAmong (f, n) symbols)
    → (if b then Some s.1 else rest) ≡ Some n → IsAmong (f, n) (s ∷ symbols)
found true f s n rest symbols same among e = inl (symbol_same s f n (same_name f s.0 same) (some_same s.1 n e))
found false f s n rest symbols same among e = inr (among e)

arity_among : (symbols : List Symbol) (f : Name) (n : ℕ) → arity_in symbols f ≡ Some n → IsAmong (f, n) symbols
arity_among [] f n e = absurd (cc)
arity_among (s ∷ symbols) f n e = found (bytes_eq f s.0) f s n (arity_in symbols f) symbols refl (arity_among symbols f n) e

history_basics : (h : History) → HasBasics (symbols_of h)
history_basics h = record {
  truth = true_symbol h;
  falsity = false_symbol h;
  choice = if_symbol h;
  equal = equal_symbol h;
  none = zero_symbol h;
  successor = add1_symbol h;
  pair = cons_symbol h;
  first = car_symbol h;
  rest = cdr_symbol h;
  atom = pack_symbol h;
  negative = minus_symbol h;
}

-- the same with one function more in front
more_basics : (s : Symbol) (symbols : List Symbol) → HasBasics symbols → HasBasics (s ∷ symbols)
more_basics s symbols b = record {
  truth = inr b.truth;
  falsity = inr b.falsity;
  choice = inr b.choice;
  equal = inr b.equal;
  none = inr b.none;
  successor = inr b.successor;
  pair = inr b.pair;
  first = inr b.first;
  rest = inr b.rest;
  atom = inr b.atom;
  negative = inr b.negative;
}

pub over_histories : TermsAreOverHistories
over_histories h f e = read_term (symbols_of h) (translated (arity_of h) f) (form_stands (symbols_of h) (arity_of h) (history_basics h) (arity_among (symbols_of h)) f e)

pub over_definitions : TermsAreOverDefinitions
over_definitions h name formals f e =
    let symbols = (name, length formals) ∷ symbols_of h in
    read_term symbols (translated (arity_with h name formals) f)
    (form_stands symbols (arity_with h name formals) (more_basics (name, length formals) (symbols_of h) (history_basics h))
    (λ g n known. found (bytes_eq g name) g (name, length formals) n (arity_of h g) (symbols_of h) refl (arity_among (symbols_of h) g n) known) f e)
