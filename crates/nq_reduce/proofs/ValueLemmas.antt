-- Values are over every history's functions, and the lines of calls on values.
use Rattle.std.proofs.Common.{◌≡◌, ℕ, zero, suc, Bool, true, false, ◌&&◌, ◌||◌, Option, Some, None, List, [], ◌∷◌, length, ◌<◌, refl, sym, ap, ◌∙◌, subst, arith}
use Rattle.std.specs.Prelude.{bytes_eq, codes, is_some, IfSome, Result, Ok, Err, IfOk}
use Rattle.std.specs.Option.{option_map}
use Rattle.nq_logic.specs.Terms.{Name, Symbol, Term, Variable, Function, Applied, Takes, IsTerm, call}
use Rattle.nq_logic.specs.Words.{equal_term, false_term, numeral}
use Rattle.nq_logic.specs.Numerals.{number_of, is_numeral}
use Rattle.nq_logic.specs.Values.{is_value, is_tree_value}
use Rattle.nq_logic.specs.Histories.{History}
use Rattle.nq_logic.specs.Ground.{symbols_of}
use Rattle.nq_logic.proofs.Symbols.{true_symbol, false_symbol, zero_symbol, add1_symbol, cons_symbol, pack_symbol, minus_symbol}
use Rattle.nq_bank.specs.declared.node.TermId.{TermId}
use Rattle.nq_bank.specs.Content.{Content, term_at, terms_at}
use Rattle.nq_bank.specs.Parts.{parts_of}
use Rattle.nq_bank.proofs.Texts.{bytes_eq-true}
use Rattle.nq_bank.proofs.Numerals.{numeral-number_of}
use Rattle.nq_proof.specs.Rules.{given}
use Rattle.nq_proof.specs.Values.{value_of}
use Rattle.nq_proof.proofs.Tests.{names_same, some_same}
use Rattle.nq_value.specs.Objects.{DenotesValue}
use Rattle.nq_history.specs.declared.entry.Entry.{Entry}
use Rattle.nq_history.specs.Events.{events_at}
use Rattle.nq_kernel.specs.declared.work.Work.{Work}
use Rattle.nq_kernel.specs.declared.rule.Rule.TheVariants.{Value}
use Rattle.nq_kernel.specs.Meaning.{conclusion_at, clause_at}
use Rattle.nq_kernel.specs.Over.{IsVariable, IsTermOf}
use Rattle.nq_kernel.specs.Growing.{WorkStands, WorkGrows}
use Rattle.nq_lines.specs.Lines.{IsTermIn, HasOnly, LineHasOnly}
use Rattle.nq_lines.proofs.Among.{beside, none_among}
use Rattle.nq_lines.proofs.TermLemmas.{term_grown, same_term_grown}
use Rattle.nq_reduce.specs.declared.results.Rewritten.{Rewritten}
use Rattle.nq_reduce.specs.Rewriting.{IsRewritten, denials}
use Rattle.nq_reduce.specs.Values.{IsValueOf}

abbrev IsOver : List Symbol → Term → Type 0
IsOver symbols t = IsTermOf IsVariable symbols t

-- values are over every history's functions
module _ (h : History) where
  abbrev Over : Term → Type 0
  Over t = IsOver (symbols_of h) t

  over_function : (f : Name) → IsTerm (symbols_of h) (Function f) → Over (Function f)
  over_function f o = record { over = o; variables = tt }

  over_one : (f : Name) (t : Term) → Takes (symbols_of h) (Function f) 1 → Over t → Over (Applied (Function f) t)
  over_one f t o k = record { over = (o, k.over); variables = (tt, k.variables) }

  over_two : (f : Name) (t u : Term) → Takes (symbols_of h) (Function f) 2 → Over t → Over u → Over (Applied (Applied (Function f) t) u)
  over_two f t u o k l = record { over = ((o, k.over), l.over); variables = ((tt, k.variables), l.variables) }

  numeral_over : (n : ℕ) → Over (numeral n)
  unfolding numeral
  numeral_over zero = over_function (codes "ZERO") (zero_symbol h)
  numeral_over (suc n) = over_one (codes "ADD1") (numeral n) (add1_symbol h) (numeral_over n)

  number_over : (t : Term) (o : Option ℕ) → number_of t ≡ o → is_some o ≡ true → Over t
  number_over t None e k = absurd cc
  number_over t (Some n) e k = subst Over (numeral-number_of t n e) (numeral_over n)

  either_over : (t : Term) → (is_tree_value t ≡ true → Over t) → (b : Bool) → is_numeral t ≡ b → (b || is_tree_value t) ≡ true → Over t
  either_over t tree true e k = number_over t (number_of t) refl e
  either_over t tree false e k = tree k

  value_from : (t : Term) → (is_tree_value t ≡ true → Over t) → is_value t ≡ true → Over t
  value_from t tree e = either_over t tree (is_numeral t) refl e

  truth_over : (f : Name) (b c : Bool) → bytes_eq f (codes "TRUE") ≡ b → bytes_eq f (codes "FALSE") ≡ c → (b || c) ≡ true → Over (Function f)
  truth_over f true c e k j = subst (λ g. Over (Function g)) (sym (names_same f (codes "TRUE") e)) (over_function (codes "TRUE") (true_symbol h))
  truth_over f false true e k j = subst (λ g. Over (Function g)) (sym (names_same f (codes "FALSE") k)) (over_function (codes "FALSE") (false_symbol h))
  truth_over f false false e k j = absurd cc

  part_over : (f : Name) (t : Term) (b c v n : Bool) → bytes_eq f (codes "PACK") ≡ b → bytes_eq f (codes "MINUS") ≡ c → (v ≡ true → Over t) → (n ≡ true → Over t) → (b && v || c && n) ≡ true → Over (Applied (Function f) t)
  part_over f t true c true n e k one two j = subst (λ g. Over (Applied (Function g) t)) (sym (names_same f (codes "PACK") e)) (over_one (codes "PACK") t (pack_symbol h) (one refl))
  part_over f t b true v true e k one two j = subst (λ g. Over (Applied (Function g) t)) (sym (names_same f (codes "MINUS") k)) (over_one (codes "MINUS") t (minus_symbol h) (two refl))
  part_over f t true true false false e k one two j = absurd cc
  part_over f t true false false n e k one two j = absurd cc
  part_over f t false true v false e k one two j = absurd cc
  part_over f t false false v n e k one two j = absurd cc

  pair_over : (f : Name) (t u : Term) (b v w : Bool) → bytes_eq f (codes "CONS") ≡ b → (v ≡ true → Over t) → (w ≡ true → Over u) → (b && v && w) ≡ true → Over (Applied (Applied (Function f) t) u)
  pair_over f t u true true true e one two j = subst (λ g. Over (Applied (Applied (Function g) t) u)) (sym (names_same f (codes "CONS") e)) (over_two (codes "CONS") t u (cons_symbol h) (one refl) (two refl))
  pair_over f t u true true false e one two j = absurd cc
  pair_over f t u true false w e one two j = absurd cc
  pair_over f t u false v w e one two j = absurd cc

  tree_over : (t : Term) → is_tree_value t ≡ true → Over t
  unfolding is_tree_value
  tree_over (Variable x) e = absurd cc
  tree_over (Function f) e = truth_over f (bytes_eq f (codes "TRUE")) (bytes_eq f (codes "FALSE")) refl refl e
  tree_over (Applied (Variable x) u) e = absurd cc
  tree_over (Applied (Function f) u) e =
      part_over f u (bytes_eq f (codes "PACK")) (bytes_eq f (codes "MINUS")) (is_value u) (is_numeral u) refl refl (value_from u (tree_over u)) (number_over u (number_of u) refl) e
  tree_over (Applied (Applied (Variable x) t) u) e = absurd cc
  tree_over (Applied (Applied (Function f) t) u) e =
      pair_over f t u (bytes_eq f (codes "CONS")) (is_value t) (is_value u) refl (value_from t (tree_over t)) (value_from u (tree_over u)) e
  tree_over (Applied (Applied (Applied s r) t) u) e = absurd cc

  pub value_over : (t : Term) → is_value t ≡ true → Over t
  value_over t e = value_from t (tree_over t) e

-- what the table gives for a term that stood
pub value_found : (history : List Entry) (work : Work) (t : Term) (found : Option TermId) → option_map (term_at work.bank) found ≡ value_of t → IfSome found (DenotesValue work.bank) → IfSome found (IsValueOf history work t)
value_found history work t None e h = tt
value_found history work t (Some v) e h = record { there = record { stands = h.stands; over = value_over (events_at work.bank history) (term_at work.bank v) h.value }; value = sym e }

-- the conclusion of the rule
pub value_given : (history : List Entry) (work : Work) (t : TermId) (v : Term) → value_of (term_at work.bank t) ≡ Some v → conclusion_at work.bank history work.log (Value t) ≡ Some (equal_term (term_at work.bank t) v ∷ [])
unfolding conclusion_at
value_given history work t v e = ap (λ o. given o (λ v. Some (equal_term (term_at work.bank t) v ∷ []))) e

-- the line of a call and its value
pub value_line : (history : List Entry) (old new : Work) (assumed : List Term) (t v : TermId) (n : ℕ) → WorkStands history old → WorkGrows history old new → IsValueOf history old (term_at old.bank t) v → clause_at new.bank new.log n ≡ conclusion_at old.bank history old.log (Value t) → IsRewritten history new assumed (term_at old.bank t) (record { term = v; line = Some n })
value_line history old new assumed t v n stands grows value e =
    let u : Term = term_at old.bank t in
    let w : Term = term_at old.bank v in
    record {
      new = term_grown history old new v stands grows value.there;
      shown = subst (λ x. LineHasOnly new n (equal_term u x ∷ denials assumed)) (sym (same_term_grown history old new v grows value.there)) (
          record { literals = equal_term u w ∷ []; stands = e ∙ value_given history old t w value.value; only = beside (equal_term u w) [] (denials assumed) (none_among (denials assumed)) });
    }

-- a constant of this name is F
pub falsity_is : (bank : Content) (t : TermId) (f : List ℕ) (ids : List TermId) → term_at bank t ≡ call f (parts_of (term_at bank t)) → terms_at bank ids ≡ parts_of (term_at bank t) → length ids < 1 → bytes_eq f (codes "FALSE") ≡ true → term_at bank t ≡ false_term
falsity_is bank t f [] is tells none named = is ∙ ap (call f) (sym tells) ∙ ap (λ g. Function g) (bytes_eq-true f (codes "FALSE") named)
falsity_is bank t f (x ∷ ids) is tells none named = absurd (omega arith)
