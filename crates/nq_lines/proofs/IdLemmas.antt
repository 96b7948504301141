-- Lines whose literals were found among others, by their ids.
use Rattle.std.proofs.Common.{◌≡◌, ◌⊎◌, ℕ, Bool, true, false, ◌||◌, ◌&&◌, Some, List, [], ◌∷◌, inl, inr, refl, sym, ap, subst}
use Rattle.std.specs.Prelude.{nat_eq}
use Rattle.std.specs.List.{list_all, list_any}
use Rattle.std.specs.Option.{option_map}
use Rattle.std.proofs.lemmas.Bool.{eqb-true}
use Rattle.nq_logic.specs.Terms.{IsAmong}
use Rattle.nq_bank.specs.declared.node.TermId.{TermId}
use Rattle.nq_bank.specs.Content.{Content, term_at, terms_at}
use Rattle.nq_kernel.specs.declared.work.Work.{Work}
use Rattle.nq_kernel.specs.Lines.{ids_at}
use Rattle.nq_lines.specs.Lines.{AreAmong, LineHasOnly}

-- the same id denotes the same term
same_id : (bank : Content) (t u : TermId) → nat_eq u.0 t.0 ≡ true → term_at bank t ≡ term_at bank u
same_id bank t u e = ap (λ n. term_at bank (record { 0 = n })) (sym (eqb-true u.0 t.0 e))

among_ids : (bank : Content) (t : TermId) (ids : List TermId) → list_any (λ u. nat_eq u.0 t.0) ids ≡ true → IsAmong (term_at bank t) (terms_at bank ids)
among_ids bank t [] e = absurd cc
among_ids bank t (u ∷ ids) e = by_test (nat_eq u.0 t.0) (list_any (λ u. nat_eq u.0 t.0) ids) (among_ids bank t ids) refl e
  where
    by_test : (b r : Bool) → (r ≡ true → IsAmong (term_at bank t) (terms_at bank ids)) → nat_eq u.0 t.0 ≡ b → (b || r) ≡ true → (term_at bank t ≡ term_at bank u) ⊎ IsAmong (term_at bank t) (terms_at bank ids)
    by_test true r rest same h = inl (same_id bank t u same)
    by_test false r rest same h = inr (rest h)

left_true : (a b : Bool) → (a && b) ≡ true → a ≡ true
left_true true b e = refl
left_true false b e = e

right_true : (a b : Bool) → (a && b) ≡ true → b ≡ true
right_true true b e = e
right_true false b e = absurd cc

all_among : (bank : Content) (found literals : List TermId) → list_all (λ t. list_any (λ u. nat_eq u.0 t.0) literals) found ≡ true → AreAmong (terms_at bank found) (terms_at bank literals)
all_among bank [] literals e v m = absurd m
all_among bank (t ∷ found) literals e v (inl same) =
    subst (λ w. IsAmong w (terms_at bank literals)) (sym same) (among_ids bank t literals (left_true (list_any (λ u. nat_eq u.0 t.0) literals) (list_all (λ t. list_any (λ u. nat_eq u.0 t.0) literals) found) e))
all_among bank (t ∷ found) literals e v (inr m) =
    all_among bank found literals (right_true (list_any (λ u. nat_eq u.0 t.0) literals) (list_all (λ t. list_any (λ u. nat_eq u.0 t.0) literals) found) e) v m

pub only_found : (work : Work) (line : ℕ) (found literals : List TermId) → ids_at work.log line ≡ Some found → list_all (λ t. list_any (λ u. nat_eq u.0 t.0) literals) found ≡ true → LineHasOnly work line (terms_at work.bank literals)
only_found work line found literals is e = record { literals = terms_at work.bank found; stands = ap (option_map (terms_at work.bank)) is; only = all_among work.bank found literals e }
