-- Variables and their sizes, and what a call has in the place of a variable.
use Rattle.std.proofs.Common.{◌≡◌, ◌<◌, ◌≤◌, ◌+◌, ℕ, zero, suc, Bool, true, false, Option, Some, None, List, [], ◌∷◌, length, get_or, drop, drop-cons, add-one, if◌then◌else◌, ◌⊎◌, inl, inr, refl, sym, ap, ap₂, ◌∙◌, arith}
use Rattle.std.specs.Prelude.{IfSome, bytes_eq, codes}
use Rattle.std.proofs.lemmas.List.{at_drop_all}
use Rattle.nq_logic.specs.Terms.{Name, Term, Variable, call, value_at}
use Rattle.nq_logic.specs.Words.{numeral}
use Rattle.nq_logic.specs.Admissible.{matched}
use Rattle.nq_bank.specs.declared.node.Sym.{Sym}
use Rattle.nq_bank.specs.declared.node.TermId.{TermId}
use Rattle.nq_bank.specs.Content.{Content, IsNamed, text_at, term_at, terms_at}
use Rattle.nq_bank.specs.Shells.{texts_at}
use Rattle.nq_bank.specs.Parts.{parts_of}
use Rattle.nq_proof.proofs.Tests.{names_same}
use Rattle.nq_calls.proofs.FallLemmas.{matched_from}
use Rattle.nq_measures.specs.Trials.{IsSizeOf, size_of_variable}

pub numeral_is_no_variable : (n : ℕ) (x : Name) → numeral n ≡ Variable x → ⊥
unfolding numeral
numeral_is_no_variable zero x e = cc
numeral_is_no_variable (suc n) x e = cc

apart_heads : (n : ℕ) (x : Name) → numeral (suc n) ≡ size_of_variable x → codes "ADD1" ≡ codes "COUNT"
unfolding numeral
apart_heads n x e = cc

pub numeral_is_no_size : (n : ℕ) (x : Name) → numeral n ≡ size_of_variable x → ⊥
unfolding numeral
numeral_is_no_size zero x e = cc
numeral_is_no_size (suc n) x e = clash (apart_heads n x e)
  where
    clash : codes "ADD1" ≡ codes "COUNT" → ⊥
    clash e = cc

first_of_one : (bank : Content) (ids : List TermId) (d : TermId) → length ids ≡ 1 → terms_at bank ids ≡ term_at bank (get_or ids 0 d) ∷ []
first_of_one bank [] d e = absurd (omega (arith, e))
first_of_one bank (t ∷ []) d e = refl
first_of_one bank (t ∷ u ∷ ids) d e = absurd (omega (arith, e))

pub size_told : (bank : Content) (m : TermId) (f : Sym) (ids : List TermId) (d : TermId) (r : Option Sym) → term_at bank m ≡ call (text_at bank f) (parts_of (term_at bank m)) → terms_at bank ids ≡ parts_of (term_at bank m) → length ids ≡ 1 → bytes_eq (text_at bank f) (codes "COUNT") ≡ true →
    IfSome r (λ x. IsNamed bank x) → IfSome r (λ x. term_at bank (get_or ids 0 d) ≡ Variable (text_at bank x)) → IfSome r (IsSizeOf bank m)
size_told bank m f ids d None is parts one name named same = tt
size_told bank m f ids d (Some x) is parts one name named same =
    record {
      named = named;
      size =
          is ∙ ap₂ (λ (g : Name) (ts : List Term). call g ts) (names_same (text_at bank f) (codes "COUNT") name) (sym parts ∙ first_of_one bank ids d one) ∙
          ap (λ (t : Term). call (codes "COUNT") (t ∷ [])) same;
    }

module _ (bank : Content) (formals : List Sym) (arguments : List TermId) (x : Name) where
  pub value_next : (i : ℕ) (d : Sym) (e : TermId) (whole : Term) → i < length formals → i < length arguments → bytes_eq x (text_at bank (get_or formals i d)) ≡ false → value_at (matched_from bank formals arguments i) x ≡ whole → value_at (matched_from bank formals arguments (i + 1)) x ≡ whole
  value_next i d e whole first second other so_far =
      ap (λ n. value_at (matched_from bank formals arguments n) x) (add-one i) ∙
      sym (ap (λ (b : Bool). if b then term_at bank (get_or arguments i e) else value_at (matched_from bank formals arguments (suc i)) x) other) ∙
      sym (ap₂ (λ (xs : List Sym) (ts : List TermId). value_at (matched (texts_at bank xs) (terms_at bank ts)) x) (drop-cons formals i d first) (drop-cons arguments i e second)) ∙ so_far

  nothing : (xs : List Name) → value_at (matched xs []) x ≡ Variable x
  nothing [] = refl
  nothing (y ∷ xs) = refl

  pub value_none : (i : ℕ) (whole : Term) → (length formals ≤ i) ⊎ (length arguments ≤ i) → value_at (matched_from bank formals arguments i) x ≡ whole → whole ≡ Variable x
  value_none i whole (inl past) so_far = sym so_far ∙ at_drop_all (λ l. value_at (matched (texts_at bank l) (terms_at bank (drop i arguments))) x) formals i past
  value_none i whole (inr past) so_far = sym so_far ∙ at_drop_all (λ l. value_at (matched (texts_at bank (drop i formals)) (terms_at bank l)) x) arguments i past ∙ nothing (texts_at bank (drop i formals))
