-- The calls that were found in terms.
use Rattle.std.proofs.Common.{◌≡◌, ℕ, zero, suc, ◌+◌, ◌<◌, ◌≤◌, Bool, true, false, List, [], ◌∷◌, ◌++◌, length, get_or, take, refl, sym, ap, ◌∙◌, subst, inl, inr, Some, append_assoc, ◌||◌, arith}
use Rattle.std.specs.Prelude.{nat_eq, is_some}
use Rattle.std.proofs.lemmas.List.{append-nil}
use Rattle.std.specs.HashMap.{Updates}
use Rattle.std.proofs.lemmas.List.{take_all, map_push}
use Rattle.nq_logic.specs.Terms.{Term, Variable, Function, Applied, applied, call, IsAmong}
use Rattle.nq_logic.specs.Numerals.{is_numeral, numeral_limit}
use Rattle.nq_logic.specs.Words.{numeral}
use Rattle.nq_logic.specs.Values.{is_value, is_tree_value}
use Rattle.nq_logic.specs.RuleShapes.{is_call, inner_terms}
use Rattle.nq_bank.specs.declared.node.TermId.{TermId}
use Rattle.nq_bank.specs.Parts.{parts_of}
use Rattle.nq_bank.specs.Content.{Content, term_at, terms_at, term_from}
use Rattle.nq_bank.proofs.ArgumentLemmas.{terms_from-take}
use Rattle.nq_clause.proofs.Lookups.{kept_or_stood}
use Rattle.nq_bank.proofs.Numerals.{number_of-numeral}
use Rattle.nq_goals.specs.Replacing.{parts_in, parts_in_all}
use Rattle.nq_stuck.specs.Calls.{AreKnown, Holds, HoldsAll, IsMore, Known}
use Rattle.nq_stuck.proofs.Joined.{among_either, among_first, among_second}

pub inner_applied : (t : Term) (us : List Term) → inner_terms (applied t us) ≡ inner_terms t ++ parts_in_all us
inner_applied t [] = sym (append-nil (inner_terms t))
inner_applied t (u ∷ us) = inner_applied (Applied t u) us ∙ append_assoc (inner_terms t) (parts_in u) (parts_in_all us)

pub parts_joined : (ts us : List Term) → parts_in_all (ts ++ us) ≡ parts_in_all ts ++ parts_in_all us
parts_joined [] us = refl
parts_joined (t ∷ ts) us = ap (λ ps. parts_in t ++ ps) (parts_joined ts us) ∙ sym (append_assoc (parts_in t) (parts_in_all ts) (parts_in_all us))

-- the parts of a call are the call and those of its arguments
pub call_parts : (t : Term) (f : List ℕ) (us : List Term) (p : Term) → t ≡ call f us → IsAmong p (inner_terms t) → IsAmong p (parts_in_all us)
call_parts t f us p is m = subst (IsAmong p) (ap inner_terms is ∙ inner_applied (Function f) us) m

-- the parts of a numeral are values
pub numeral_value : (n : ℕ) → n < numeral_limit → is_value (numeral n) ≡ true
numeral_value n small = either_true (is_numeral (numeral n)) (is_tree_value (numeral n)) (ap is_some (number_of-numeral n small))
  where
    either_true : (a b : Bool) → a ≡ true → (a || b) ≡ true
    either_true true b e = refl
    either_true false b e = cc

numeral_parts : (n : ℕ) (p : Term) → n < numeral_limit → IsAmong p (parts_in (numeral n)) → is_value p ≡ true
unfolding numeral
numeral_parts zero p small (inl e) = ap is_value e ∙ numeral_value 0 small
numeral_parts zero p small (inr m) = absurd m
numeral_parts (suc n) p small (inl e) = ap is_value e ∙ numeral_value (suc n) small
numeral_parts (suc n) p small (inr m) = numeral_parts n p (omega (arith, small)) m

module _ (bank : Content) where
  pub variable_held : (found : List TermId) (t : Term) (x : List ℕ) → t ≡ Variable x → Holds bank found t
  variable_held found t x is =
      record {
        each = λ p m called other.
            let at : IsAmong p (Variable x ∷ []) = subst (λ z. IsAmong p (parts_in z)) is m in
            elim at [ inl e ↦ let none : is_call p ≡ false = ap is_call e in absurd (cc) | inr none ↦ absurd none ];
      }

  pub numeral_held : (found : List TermId) (t : Term) (n : ℕ) → n < numeral_limit → t ≡ numeral n → Holds bank found t
  numeral_held found t n small is =
      record { each = λ p m called other. let value = numeral_parts n p small (subst (λ z. IsAmong p (parts_in z)) is m) in absurd (cc) }

  pub more_itself : (found : List TermId) → IsMore bank found found
  more_itself found = record { each = λ p m. m }

  pub more_then : (one two three : List TermId) → IsMore bank one two → IsMore bank two three → IsMore bank one three
  more_then one two three first second = record { each = λ p m. second.each p (first.each p m) }

  pub pushed_more : (found new : List TermId) (t : TermId) → new ≡ found ++ (t ∷ []) → IsMore bank found new
  pushed_more found new t is =
      record {
        each = λ p m.
            subst (IsAmong p) (sym (ap (terms_at bank) is ∙ map_push (term_from bank.terms) found t)) (among_first p (terms_at bank found) (term_at bank t ∷ []) m);
      }

  pushed_there : (found new : List TermId) (t : TermId) (p : Term) → new ≡ found ++ (t ∷ []) → p ≡ term_at bank t → IsAmong p (terms_at bank new)
  pushed_there found new t p is e =
      subst (IsAmong p) (sym (ap (terms_at bank) is ∙ map_push (term_from bank.terms) found t)) (among_second p (terms_at bank found) (term_at bank t ∷ []) (inl e))

  pub held_still : (old new : List TermId) (t : Term) → IsMore bank old new → Holds bank old t → Holds bank new t
  held_still old new t more held = record { each = λ p m called other. more.each p (held.each p m called other) }

  pub all_held_still : (old new : List TermId) (ts : List Term) → IsMore bank old new → HoldsAll bank old ts → HoldsAll bank new ts
  all_held_still old new ts more held = record { each = λ p m called other. more.each p (held.each p m called other) }

  pub known_still : (known : Known) (old new : List TermId) → IsMore bank old new → AreKnown bank known old → AreKnown bank known new
  known_still known old new more are = record { each = λ t answer stood. held_still old new (term_at bank t) more (are.each t answer stood) }

  pub none_held : (found : List TermId) → HoldsAll bank found []
  none_held found = record { each = λ p m called other. absurd m }

  -- one more term
  pub one_more_held : (found ids : List TermId) (i : ℕ) (d : TermId) → i < length ids → HoldsAll bank found (terms_at bank (take i ids)) → Holds bank found (term_at bank (get_or ids i d)) →
      HoldsAll bank found (terms_at bank (take (i + 1) ids))
  one_more_held found ids i d below all here =
      let before = terms_at bank (take i ids) in
      let t = term_at bank (get_or ids i d) in
      record {
        each = λ p m called other.
            let joined : IsAmong p (parts_in_all before ++ parts_in_all (t ∷ [])) = subst (IsAmong p) (ap parts_in_all (terms_from-take bank.terms ids i d below) ∙ parts_joined before (t ∷ [])) m in
            elim (among_either p (parts_in_all before) (parts_in_all (t ∷ [])) joined) [
              | inl earlier ↦ all.each p earlier called other
              | inr last ↦ elim (among_either p (parts_in t) [] last) [ inl now ↦ here.each p now called other | inr none ↦ absurd none ]
            ];
      }

  -- a call, where those of its arguments were found
  pub call_held : (found new : List TermId) (t : TermId) (f : List ℕ) (ids : List TermId) (i : ℕ) → term_at bank t ≡ call f (parts_of (term_at bank t)) → terms_at bank ids ≡ parts_of (term_at bank t) →
      length ids ≤ i → HoldsAll bank found (terms_at bank (take i ids)) → new ≡ found ++ (t ∷ []) → Holds bank new (term_at bank t)
  call_held found new t f ids i is tells all held pushed =
      let more = pushed_more found new t pushed in
      let whole = held_whole in
      record {
        each = λ p m called other.
            elim m [
              | inl e ↦ pushed_there found new t p pushed e
              | inr inner ↦ more.each p (whole.each p (call_parts (term_at bank t) f (parts_of (term_at bank t)) p is inner) called other)
            ];
      }
    where
      held_whole : HoldsAll bank found (parts_of (term_at bank t))
      held_whole = subst (HoldsAll bank found) (ap (terms_at bank) (take_all i ids all) ∙ tells) held

  -- what is kept is known
  pub known_kept : (old new : Known) (found : List TermId) (t : TermId) → AreKnown bank old found → Updates nat_eq old new t.0 (Some true) → Holds bank found (term_at bank t) → AreKnown bank new found
  known_kept old new found t are updates held =
      record {
        each = λ q b stood.
            elim (kept_or_stood old new t.0 q.0 true b updates stood) [
              | inl here ↦ subst (λ k. Holds bank found (term_at bank (record { 0 = k }))) here.0 held
              | inr there ↦ are.each q b there
            ];
      }
