-- Terms over usable symbols, and a test for such symbols.
use Rattle.std.proofs.Common.{◌≡◌, ℕ, zero, suc, ◌≤◌, Bool, true, false, ◌&&◌, List, [], ◌∷◌, length, inl, inr, refl, arith, nat_eq}
use Rattle.std.specs.Prelude.{◌⊎◌, Option, None, Some, nat_le}
use Rattle.std.specs.List.{list_all}
use Rattle.std.proofs.lemmas.Grind.{common_steps}
use Rattle.std.proofs.lemmas.Bool.{eqb-true}
use Rattle.nq_logic.specs.Terms.{Name, Symbol, Term, Variable, Function, Applied, Each, Takes}
use Rattle.nq_logic.specs.Ground.{symbols_of}
use Rattle.nq_logic.proofs.Lists.{each_at}
use Rattle.nq_form.specs.Token.{begins_symbol}
use Rattle.nq_form.specs.Spelling.{is_capital}
use Rattle.nq_language.specs.Arities.{arity_in}
use Rattle.nq_language.specs.Abbreviations.{Word, Nesting, Plain, word_of}
use Rattle.nq_language.specs.Printing.{IsUsable, IsPrintable, HasNames, PrintedOverSymbols, GroundIsUsable}
use Rattle.nq_language.proofs.PrintedForms.{printed_is_read}

module _ (symbols : List Symbol) (arity : Name → Option ℕ) (usable : Each (λ s. IsUsable arity s.0 s.1) symbols) where
  printable : (t : Term) (n : ℕ) → Takes symbols t n → HasNames t → IsPrintable arity t n
  printable (Variable x) zero h k = k
  printable (Variable x) (suc n) h k = absurd h
  printable (Function f) n h k = each_at (λ (s : Symbol). IsUsable arity s.0 s.1) (f, n) symbols usable h
  printable (Applied t u) n h k = (printable t (suc n) h.0 k.0, printable u zero h.1 k.1)

pub printed_over_symbols : PrintedOverSymbols
printed_over_symbols symbols arity t usable over names small = printed_is_read arity t (printable symbols arity usable t 0 over names) small

has_arity : Option ℕ → ℕ → Bool
has_arity None n = false
has_arity (Some m) n = nat_eq m n

fits_word : Word → ℕ → Bool
fits_word Plain n = true
fits_word Nesting n = nat_eq n 2
fits_word _ n = false

is_usable : (Name → Option ℕ) → Name → ℕ → Bool
is_usable arity f n = (list_all is_capital f && begins_symbol f) && (nat_le (length f) 256 && (has_arity (arity f) n && fits_word (word_of f) n))

and_left : (a b : Bool) → (a && b) ≡ true → a ≡ true
and_left true b h = refl
and_left false b h = h

and_right : (a b : Bool) → (a && b) ≡ true → b ≡ true
and_right true b h = h
and_right false b h = absurd (cc)

arity_is : (o : Option ℕ) (n : ℕ) → has_arity o n ≡ true → o ≡ Some n
unfolding has_arity
arity_is None n h = absurd (cc)
arity_is (Some m) n h = let e : m ≡ n = eqb-true m n h in rw e refl

word_is : (w : Word) (n : ℕ) → fits_word w n ≡ true → (w ≡ Plain) ⊎ ((w ≡ Nesting) × (n ≡ 2))
unfolding fits_word
word_is Plain n h = inl refl
word_is Nesting n h = inr (refl, eqb-true n 2 h)
word_is _ n h = absurd (cc)

short : (n m : ℕ) → nat_le n m ≡ true → n ≤ m
short n m h = grind (arith, common_steps)

usable_by : (arity : Name → Option ℕ) (f : Name) (n : ℕ) → is_usable arity f n ≡ true → IsUsable arity f n
unfolding is_usable
usable_by arity f n h =
    let front = and_left (list_all is_capital f && begins_symbol f) _ h in
    let more = and_right (list_all is_capital f && begins_symbol f) _ h in
    let last = and_right (nat_le (length f) 256) _ more in
    record {
      name = record { capitals = and_left (list_all is_capital f) _ front; front = and_right (list_all is_capital f) _ front; short = short (length f) 256 (and_left (nat_le (length f) 256) _ more) };
      known = arity_is (arity f) n (and_left (has_arity (arity f) n) _ last);
      word = word_is (word_of f) n (and_right (has_arity (arity f) n) _ last);
    }

all_usable : (arity : Name → Option ℕ) (symbols : List Symbol) → list_all (λ s. is_usable arity s.0 s.1) symbols ≡ true → Each (λ s. IsUsable arity s.0 s.1) symbols
all_usable arity [] h = tt
all_usable arity (s ∷ symbols) h = (usable_by arity s.0 s.1 (and_left (is_usable arity s.0 s.1) _ h), all_usable arity symbols (and_right (is_usable arity s.0 s.1) _ h))

pub ground_is_usable : GroundIsUsable
unfolding is_usable has_arity fits_word word_of symbols_of
ground_is_usable = all_usable (arity_in (symbols_of [])) (symbols_of []) refl
