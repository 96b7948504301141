-- Goals literal by literal.
use Rattle.std.proofs.Common.{◌≡◌, ℕ, ◌-◌, ◌≤◌, Bool, true, false, ◌||◌, eqb, List, [], ◌∷◌, length, get_or, take, drop, refl, sym, ap, ap₂, subst, ◌∙◌, arith}
use Rattle.std.specs.List.{list_any}
use Rattle.std.specs.Prelude.{not, ◌&&◌}
use Rattle.std.proofs.lemmas.List.{take_all}
use Rattle.std.proofs.lemmas.Bool.{eqb-true, eq-eqb}
use Rattle.nq_logic.specs.Terms.{Term}
use Rattle.nq_logic.specs.Histories.{History}
use Rattle.nq_bank.specs.declared.node.TermId.{TermId}
use Rattle.nq_bank.specs.Content.{Content, Stands, term_at, terms_at}
use Rattle.nq_bank.specs.Soundness.{IsSound}
use Rattle.nq_bank.proofs.Texts.{same_test}
use Rattle.nq_proof.specs.Clauses.{same_term}
use Rattle.nq_proof.proofs.Tests.{same_true}
use Rattle.nq_events.specs.Events.{Hints}
use Rattle.nq_goals.specs.Occurrences.{open_terms, open_in, atom_of}
use Rattle.nq_goals.specs.Functions.{is_call_among, is_openable, propositional}
use Rattle.nq_goals.specs.Normal.{is_decided_test, has_connective, has_openable, has_decided_test}
use Rattle.nq_goals.proofs.Matches.{same_of_itself}
use Rattle.nq_normal.specs.Barred.{is_barred}
use Rattle.nq_normal.specs.Sought.{has_open}
use Rattle.nq_normal.proofs.Walks.{any_joined}

-- two ids are one where their terms are one
pub eqb-terms : (bank : Content) (t u : TermId) → IsSound bank → Stands bank t → Stands bank u → eqb t.0 u.0 ≡ same_term (term_at bank t) (term_at bank u)
eqb-terms bank t u sound stands standing =
    let id : ℕ → TermId = λ n. record { 0 = n } in
    same_test (eqb t.0 u.0) (same_term (term_at bank t) (term_at bank u))
    (λ h. subst (λ z. same_term (term_at bank t) z ≡ true) (ap (λ n. term_at bank (id n)) (eqb-true t.0 u.0 h)) (same_of_itself (term_at bank t)))
    (λ h. eq-eqb t.0 u.0 ((sound.terms u standing).only t stands (same_true (term_at bank t) (term_at bank u) h)))

module _ (test : Term → Bool) (bank : Content) where
  abbrev any_in : List TermId → Bool
  any_in ids = list_any test (open_in (terms_at bank ids))

  first_literal : (ids : List TermId) (d : TermId) → 1 ≤ length ids → any_in ids ≡ (has_open test (atom_of (term_at bank (get_or ids 0 d))) || any_in (take (length ids - 1) (drop 1 ids)))
  unfolding has_open
  first_literal [] d l = absurd (omega (arith, l))
  first_literal (i ∷ ids) d l =
      any_joined test (open_terms (atom_of (term_at bank i))) (open_in (terms_at bank ids))
      ∙ ap (λ xs. list_any test (open_terms (atom_of (term_at bank i))) || any_in xs) (sym (take_all (length (i ∷ ids) - 1) ids (omega arith)))

  pub open_first : (ids : List TermId) (d : TermId) (atom : Term) (here : Bool) → 1 ≤ length ids → atom ≡ atom_of (term_at bank (get_or ids 0 d)) → here ≡ has_open test atom → here ≡ true → true ≡ any_in ids
  open_first ids d atom here l a e t =
      sym (first_literal ids d l ∙ ap (λ b. b || any_in (take (length ids - 1) (drop 1 ids))) (sym (sym t ∙ (e ∙ ap (has_open test) a))))

  pub open_later : (ids : List TermId) (d : TermId) (atom : Term) (here : Bool) → 1 ≤ length ids → atom ≡ atom_of (term_at bank (get_or ids 0 d)) → here ≡ has_open test atom → here ≡ false →
      any_in ids ≡ any_in (take (length ids - 1) (drop 1 ids))
  open_later ids d atom here l a e t =
      first_literal ids d l ∙ ap (λ b. b || any_in (take (length ids - 1) (drop 1 ids))) (sym (sym t ∙ (e ∙ ap (has_open test) a)))

module _ (h : History) (hints : Hints) where
  or_split : (a b c x y z : Bool) → ((a || b || c) || (x || y || z)) ≡ ((a || x) || (b || y) || (c || z))
  or_split true b c x y z = or_true b c x y z
    where
      or_true : (b c x y z : Bool) → ((true || b || c) || (x || y || z)) ≡ ((true || x) || (b || y) || (c || z))
      or_true b c x y z = refl
  or_split false true c true y z = refl
  or_split false true c false y z = refl
  or_split false false true true y z = refl
  or_split false false true false true z = refl
  or_split false false true false false z = refl
  or_split false false false x y z = refl

  any_split : (ts : List Term) → list_any (is_barred h hints) ts ≡ (list_any (is_call_among propositional) ts || list_any (is_openable h hints) ts || list_any (is_decided_test h) ts)
  any_split [] = refl
  any_split (t ∷ ts) =
      ap (λ b. is_barred h hints t || b) (any_split ts)
      ∙ or_split (is_call_among propositional t) (is_openable h hints t) (is_decided_test h t) (list_any (is_call_among propositional) ts) (list_any (is_openable h hints) ts) (list_any (is_decided_test h) ts)

  -- the three parts of the normal form that speak of single occurrences
  pub parts_split : (goal : List Term) → list_any (is_barred h hints) (open_in goal) ≡ (has_connective goal || has_openable h hints goal || has_decided_test h goal)
  parts_split goal = any_split (open_in goal)

pub plain_split : (a b c d barred settled : Bool) → barred ≡ (a || b || c) → settled ≡ d → not (barred || settled) ≡ (not a && not b && not c && not d)
plain_split a b c d barred settled e f = ap₂ (λ x y. not (x || y)) e f ∙ of_bools a b c d
  where
    of_bools : (a b c d : Bool) → not ((a || b || c) || d) ≡ (not a && not b && not c && not d)
    of_bools true b c d = refl
    of_bools false true c d = refl
    of_bools false false true d = refl
    of_bools false false false d = refl
