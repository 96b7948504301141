-- Terms that are made of terms: values, lists, calls, nests, and terms with their variables replaced.
use Rattle.std.proofs.Common.{◌≡◌, ℕ, zero, suc, Bool, true, false, List, [], ◌∷◌, length, refl, nat_eq}
use Rattle.std.specs.Prelude.{◌||◌, bytes_eq, if◌then◌else◌, codes}
use Rattle.nq_logic.specs.Terms.{Name, Symbol, Term, Variable, Function, Applied, applied, Substitution, value_at, substituted, IsAmong, Each, Takes}
use Rattle.nq_logic.specs.Words.{call1, call2, if_term, equal_term, numeral, numerals, true_term, false_term}
use Rattle.nq_form.specs.Form.{Form, Forms, symbol, numeral as number, text, quoted, listed, end, dotted, next}
use Rattle.nq_language.specs.Abbreviations.{is_word}
use Rattle.nq_language.specs.Objects.{nil_term, number_term, value, values}
use Rattle.nq_language.specs.Translation.{list_term, nested_term, path_term, path_call, quoted_term, symbol_term}
use Rattle.nq_language.specs.Refusals.{is_constant}
use Rattle.nq_events.specs.ReadTerms.{HasPlainVariables, IsReadTerm}

-- the functions that abbreviations and values stand for
pub record HasBasics (symbols : List Symbol) : Type 0 where
  pub truth : IsAmong (codes "TRUE", 0) symbols
  pub falsity : IsAmong (codes "FALSE", 0) symbols
  pub choice : IsAmong (codes "IF", 3) symbols
  pub equal : IsAmong (codes "EQUAL", 2) symbols
  pub none : IsAmong (codes "ZERO", 0) symbols
  pub successor : IsAmong (codes "ADD1", 1) symbols
  pub pair : IsAmong (codes "CONS", 2) symbols
  pub first : IsAmong (codes "CAR", 1) symbols
  pub rest : IsAmong (codes "CDR", 1) symbols
  pub atom : IsAmong (codes "PACK", 1) symbols
  pub negative : IsAmong (codes "MINUS", 1) symbols

-- over these symbols, to be given n more arguments, and no variable is T, F or NIL
abbrev pub Stands : List Symbol → Term → ℕ → Type 0
Stands symbols (Variable x) zero = is_constant x ≡ false
Stands symbols (Variable x) (suc n) = ⊥
Stands symbols (Function f) n = IsAmong (f, n) symbols
Stands symbols (Applied t u) n = Stands symbols t (suc n) × Stands symbols u zero

module _ (symbols : List Symbol) where
  over_symbols : (t : Term) (n : ℕ) → Stands symbols t n → Takes symbols t n
  over_symbols (Variable x) zero s = tt
  over_symbols (Variable x) (suc n) s = absurd s
  over_symbols (Function f) n s = s
  over_symbols (Applied t u) n s = (over_symbols t (suc n) s.0, over_symbols u zero s.1)

  plain_variables : (t : Term) (n : ℕ) → Stands symbols t n → HasPlainVariables t
  plain_variables (Variable x) zero s = s
  plain_variables (Variable x) (suc n) s = absurd s
  plain_variables (Function f) n s = tt
  plain_variables (Applied t u) n s = (plain_variables t (suc n) s.0, plain_variables u zero s.1)

  pub read_term : (t : Term) → Stands symbols t 0 → IsReadTerm symbols t
  read_term t s = record { over = over_symbols t 0 s; plain = plain_variables t 0 s }

  -- every argument stands
  abbrev pub AllStand : List Term → Type 0
  AllStand ts = Each (λ (t : Term). Stands symbols t 0) ts

  pub applied_stands : (t : Term) (ts : List Term) → Stands symbols t (length ts) → AllStand ts → Stands symbols (applied t ts) 0
  applied_stands t [] s all = s
  applied_stands t (u ∷ ts) s all = applied_stands (Applied t u) ts (s, all.0) all.1

  replaced_at : (b : Bool) (t u : Term) → Stands symbols t 0 → Stands symbols u 0 → Stands symbols (if b then t else u) 0
  replaced_at true t u s r = s
  replaced_at false t u s r = r

  abbrev pub PairsStand : Substitution → Type 0
  PairsStand s = Each (λ (b : List ℕ × Term). Stands symbols b.1 0) s

  value_stands_at : (s : Substitution) (x : Name) → PairsStand s → is_constant x ≡ false → Stands symbols (value_at s x) 0
  value_stands_at [] x all plain = plain
  value_stands_at (b ∷ s) x all plain = replaced_at (bytes_eq x b.0) b.1 (value_at s x) all.0 (value_stands_at s x all.1 plain)

  pub substituted_stands : (s : Substitution) (t : Term) (n : ℕ) → PairsStand s → Stands symbols t n → Stands symbols (substituted s t) n
  substituted_stands s (Variable x) zero all stands = value_stands_at s x all stands
  substituted_stands s (Variable x) (suc n) all stands = absurd stands
  substituted_stands s (Function f) n all stands = stands
  substituted_stands s (Applied t u) n all stands = (substituted_stands s t (suc n) all stands.0, substituted_stands s u zero all stands.1)

  module _ (basics : HasBasics symbols) where
    pub numeral_stands : (n : ℕ) → Stands symbols (numeral n) 0
    unfolding numeral
    numeral_stands zero = basics.none
    numeral_stands (suc n) = (basics.successor, numeral_stands n)

    numerals_stand : (ns : List ℕ) → Stands symbols (numerals ns) 0
    numerals_stand [] = basics.none
    numerals_stand (n ∷ ns) = ((basics.pair, numeral_stands n), numerals_stand ns)

    atom_stands : (name : Name) → Stands symbols (call1 "PACK" (numerals name)) 0
    atom_stands name = (basics.atom, numerals_stand name)

    pub nil_stands : Stands symbols nil_term 0
    nil_stands = atom_stands (codes "NIL")

    pub number_stands : (negative : Bool) (n : ℕ) → Stands symbols (number_term negative n) 0
    number_stands false n = numeral_stands n
    number_stands true zero = numeral_stands zero
    number_stands true (suc n) = (basics.negative, numeral_stands (suc n))

    cons_stands : (a b : Term) → Stands symbols a 0 → Stands symbols b 0 → Stands symbols (call2 "CONS" a b) 0
    cons_stands a b s r = ((basics.pair, s), r)

    mutual
      unfolding value

      pub value_stands : (f : Form) → Stands symbols (value f) 0
      value_stands (symbol x) = atom_stands x
      value_stands (number negative n) = number_stands negative n
      value_stands (text bytes) = nil_stands
      value_stands (quoted f) = cons_stands (call1 "PACK" (numerals (codes "QUOTE"))) (call2 "CONS" (value f) nil_term) (atom_stands (codes "QUOTE")) (cons_stands (value f) nil_term (value_stands f) nil_stands)
      value_stands (listed fs) = values_stand fs

      values_stand : (fs : Forms) → Stands symbols (values fs) 0
      values_stand end = nil_stands
      values_stand (dotted f) = value_stands f
      values_stand (next f fs) = cons_stands (value f) (values fs) (value_stands f) (values_stand fs)

    pub quoted_stands : (fs : Forms) → Stands symbols (quoted_term fs) 0
    quoted_stands end = nil_stands
    quoted_stands (dotted f) = nil_stands
    quoted_stands (next f fs) = value_stands f

    pub list_stands : (ts : List Term) → AllStand ts → Stands symbols (list_term ts) 0
    list_stands [] all = nil_stands
    list_stands (t ∷ ts) all = cons_stands t (list_term ts) all.0 (list_stands ts all.1)

    pub nested_stands : (f : Name) (t u : Term) (ts : List Term) → IsAmong (f, 2) symbols → AllStand (t ∷ u ∷ ts) → Stands symbols (nested_term f (t ∷ u ∷ ts)) 0
    nested_stands f t u [] known all = ((known, all.0), all.1.0)
    nested_stands f t u (v ∷ ts) known all = ((known, all.0), nested_stands f u v ts known all.1)

    letter_stands : (b : Bool) (t : Term) → Stands symbols t 0 → Stands symbols (if b then call1 "CAR" t else call1 "CDR" t) 0
    letter_stands true t s = (basics.first, s)
    letter_stands false t s = (basics.rest, s)

    path_stands : (bs : List ℕ) (t : Term) → Stands symbols t 0 → Stands symbols (path_term bs t) 0
    path_stands [] t s = s
    path_stands (b ∷ bs) t s = letter_stands (nat_eq b 65) (path_term bs t) (path_stands bs t s)

    pub path_call_stands : (bs : List ℕ) (ts : List Term) → AllStand ts → Stands symbols (path_call bs ts) 0
    path_call_stands bs [] all = nil_stands
    path_call_stands bs (t ∷ ts) all = path_stands bs t all.0

    -- T, F and NIL, or a variable that is none of them
    by_tests : (t f n : Bool) (x : Name) → (t || f || n ≡ false → is_constant x ≡ false)
        → Stands symbols (if t then true_term else (if f then false_term else (if n then nil_term else Variable x))) 0
    by_tests true f n x plain = basics.truth
    by_tests false true n x plain = basics.falsity
    by_tests false false true x plain = nil_stands
    by_tests false false false x plain = plain refl

    pub symbol_stands : (x : Name) → Stands symbols (symbol_term x) 0
    symbol_stands x = by_tests (is_word "T" x) (is_word "F" x) (is_word "NIL" x) x (λ e. e)

    pub if_stands : (p x y : Term) → Stands symbols p 0 → Stands symbols x 0 → Stands symbols y 0 → Stands symbols (if_term p x y) 0
    if_stands p x y s r q = (((basics.choice, s), r), q)

    pub equal_stands : (a b : Term) → Stands symbols a 0 → Stands symbols b 0 → Stands symbols (equal_term a b) 0
    equal_stands a b s r = ((basics.equal, s), r)
