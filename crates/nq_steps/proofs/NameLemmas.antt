-- The names that a bank gets.
use Rattle.std.proofs.Common.{◌≡◌, ◌<◌, ◌≤◌, ◌+◌, ◌/◌, ◌%◌, ◌^◌, ℕ, zero, suc, Bool, true, false, List, [], ◌∷◌, ◌++◌, append_assoc, length, refl, sym, ap, ap₂, ◌∙◌, inl, inr, arith}
use Rattle.std.specs.Prelude.{Result, Ok, Err, IfOk, OnErr, IsTrue, ◌&&◌, nat_lt, nat_le, if◌then◌else◌, codes}
use Rattle.std.specs.List.{list_all}
use Rattle.std.proofs.lemmas.List.{append-nil, length-append}
use Rattle.std.proofs.lemmas.List.Folds.{list_all-append}
use Rattle.std.proofs.lemmas.Bool.{ltb-true, ltb-false, le-leb}
use Rattle.std.proofs.lemmas.Bool.Decides.{nat_tests}
use Rattle.nq_logic.specs.Terms.{Name, Term}
use Rattle.nq_logic.specs.Shells.{digits_of}
use Rattle.nq_logic.proofs.Lists.{each_append}
use Rattle.nq_logtext.specs.Symbols.{begins_symbol, is_constituent, is_symbol}
use Rattle.nq_bank.specs.declared.node.Sym.{Sym}
use Rattle.nq_bank.specs.declared.node.TermId.{TermId}
use Rattle.nq_bank.specs.Content.{Content, Gives, Names}
use Rattle.nq_steps.specs.NewNames.{AddsSymbols}
use Rattle.nq_steps.specs.Steps.{is_letter}

-- no name was added
pub no_names : (old new : Content) → new.names ≡ old.names → AddsSymbols old new
no_names old new e = record { more = []; names = e ∙ sym (append-nil old.names); symbols = tt }

pub AddsSymbols-refl : (bank : Content) → AddsSymbols bank bank
AddsSymbols-refl bank = no_names bank bank refl

pub AddsSymbols-trans : (first second third : Content) → AddsSymbols first second → AddsSymbols second third → AddsSymbols first third
AddsSymbols-trans first second third one two =
    record {
      more = one.more ++ two.more;
      names = two.names ∙ ap (λ names. names ++ two.more) one.names ∙ append_assoc first.names one.more two.more;
      symbols = each_append (λ n. IsTrue (is_symbol n)) one.more two.more one.symbols two.symbols;
    }

-- the name of a symbol was asked for
pub one_name : {E : Type 0} (old new : Content) (r : Result Sym E) (text : Name) → IsTrue (is_symbol text) → IfOk r (λ s. Names old new s text) → OnErr r (new ≡ old) → AddsSymbols old new
one_name old new (Ok s) text symbol named err =
    elim named.names [
      | inl same ↦ no_names old new same
      | inr added ↦ record { more = text ∷ []; names = added; symbols = (symbol, tt) }
    ]
one_name old new (Err e) text symbol named err = no_names old new (ap (λ bank. bank.names) err)

-- a term was asked for
pub only_terms : {E : Type 0} (old new : Content) (r : Result TermId E) (term : Term) → IfOk r (λ t. Gives old new t term) → OnErr r (new ≡ old) → AddsSymbols old new
only_terms old new (Ok t) term given err = no_names old new given.names
only_terms old new (Err e) term given err = no_names old new (ap (λ bank. bank.names) err)

-- a letter in upper case is a symbol
pub letter_symbol : (b : ℕ) → IsTrue (is_letter b) → IsTrue (is_symbol (b ∷ []))
letter_symbol b h = grind (arith, nat_tests)

digit_plain : (d : ℕ) → 48 ≤ d → d ≤ 57 → is_constituent d ≡ true
digit_plain d low high = grind (arith, nat_tests)

digits_plain : (places n : ℕ) → list_all is_constituent (digits_of places n) ≡ true
digits_plain zero n = refl
digits_plain (suc places) n = by_size (digits_plain places (n / 10)) (nat_lt n 10) refl
  where
    by_size : list_all is_constituent (digits_of places (n / 10)) ≡ true → (b : Bool) → nat_lt n 10 ≡ b → list_all is_constituent (if b then (48 + n) ∷ [] else digits_of places (n / 10) ++ ((48 + n % 10) ∷ [])) ≡ true
    by_size first true e =
        let small = ltb-true n 10 e in
        ap (λ b. b && true) (digit_plain (48 + n) (omega arith) (omega (arith, small)))
    by_size first false e =
        list_all-append is_constituent (digits_of places (n / 10)) ((48 + n % 10) ∷ []) ∙
        ap₂ (λ a b. a && (b && true)) first (digit_plain (48 + n % 10) (omega arith) (omega arith))

-- a number below 10 to the power k + 1 has at most k + 1 digits
digits_few : (places k n : ℕ) → n < 10 ^ (suc k) → length (digits_of places n) ≤ suc k
digits_few zero k n h = omega arith
digits_few (suc places) k n h = by_size (λ k h. digits_few places k (n / 10) h) (nat_lt n 10) refl
  where
    by_size : ((k : ℕ) → n / 10 < 10 ^ (suc k) → length (digits_of places (n / 10)) ≤ suc k) → (b : Bool) → nat_lt n 10 ≡ b → length (if b then (48 + n) ∷ [] else digits_of places (n / 10) ++ ((48 + n % 10) ∷ [])) ≤ suc k
    by_size first true e = omega arith
    by_size first false e = more k h
      where
        more : (k : ℕ) → n < 10 ^ (suc k) → length (digits_of places (n / 10) ++ ((48 + n % 10) ∷ [])) ≤ suc k
        more zero h = let large = ltb-false n 10 e in absurd (omega (arith, large, h))
        more (suc k) h =
            let few = first k (omega (arith, h)) in
            let count = length-append (digits_of places (n / 10)) ((48 + n % 10) ∷ []) in
            omega (arith, few, count)

begins_with_x : (ds : List ℕ) → begins_symbol (88 ∷ ds) ≡ true
begins_with_x [] = refl
begins_with_x (d ∷ ds) = refl

-- the name of a part is a symbol
pub part_symbol : (k : ℕ) → k < 2 ^ 64 → IsTrue (is_symbol (codes "X" ++ digits_of (k + 1) (k + 1)))
part_symbol k small =
    let ds : List ℕ = digits_of (k + 1) (k + 1) in
    let few : length ds ≤ 20 = digits_few (k + 1) 19 (k + 1) (omega (arith, small)) in
    let short : nat_le (length (88 ∷ ds)) 256 ≡ true = le-leb (length (88 ∷ ds)) 256 (omega (arith, few)) in
    ap₂ (λ a b. a && b) (ap₂ (λ a b. a && b) (begins_with_x ds) short) (digits_plain (k + 1) (k + 1))
