-- Literals by their places, and clauses with a literal that is too deep.
use Rattle.std.proofs.Common.{◌≡◌, ℕ, zero, suc, ◌-◌, ◌<◌, Option, Some, List, [], ◌∷◌, length, get_or, map, refl, sym, ap, ◌∙◌, inl, inr, arith}
use Rattle.std.specs.Prelude.{slice_get, slice_set, nat_lt, true, if◌then◌else◌}
use Rattle.std.proofs.lemmas.Bool.Decides.{nat_tests}
use Rattle.std.specs.Option.{option_map}
use Rattle.std.proofs.lemmas.Option.{slice_get-map}
use Rattle.nq_logic.specs.Terms.{IsAmong, Substitution, substituted}
use Rattle.nq_bank.specs.declared.node.TermId.{TermId}
use Rattle.nq_bank.specs.Content.{Content, term_at, terms_at}
use Rattle.nq_logic.specs.Sizes.{depth_of, depth_limit}
use Rattle.nq_proof.specs.Clauses.{Clause, distinct, literal_at, spliced, in_place}
use Rattle.nq_proof.proofs.Tests.{distinct_in}
use Rattle.nq_rule.specs.Conclusions.{HasDeep, IsDeep}

pub literal_is : (bank : Content) (ids : List TermId) (place : ℕ) (o : Option TermId) → (place ≡ 0 → ⊥) → o ≡ slice_get ids (place - 1) → option_map (term_at bank) o ≡ literal_at place (terms_at bank ids)
literal_is bank ids zero o h e = absurd (h refl)
literal_is bank ids (suc k) o h e =
    let less : suc k - 1 ≡ k = omega arith in
    ap (option_map (term_at bank)) (e ∙ ap (slice_get ids) less) ∙ sym (slice_get-map (term_at bank) ids k)

among_instances : (s : Substitution) (bank : Content) (ids : List TermId) (i : ℕ) (d : TermId) → i < length ids → IsAmong (substituted s (term_at bank (get_or ids i d))) (map (substituted s) (terms_at bank ids))
among_instances s bank [] i d below = absurd (omega arith)
among_instances s bank (t ∷ ids) zero d below = inl refl
among_instances s bank (t ∷ ids) (suc i) d below = inr (among_instances s bank ids i d (omega arith))

pub instance_deep : (s : Substitution) (bank : Content) (ids : List TermId) (i : ℕ) (d : TermId) → i < length ids → depth_limit < depth_of (substituted s (term_at bank (get_or ids i d))) → HasDeep (map (substituted s) (terms_at bank ids))
instance_deep s bank ids i d below deep = record { term = substituted s (term_at bank (get_or ids i d)); among = among_instances s bank ids i d below; deep = deep }

pub deep_distinct : (c : Clause) → HasDeep c → IsDeep (Some (distinct c))
deep_distinct c h = record { terms = distinct c; concluded = refl; deep = record { term = h.term; among = distinct_in h.term c h.among; deep = h.deep } }

set_spliced : (bank : Content) (k : ℕ) (ids : List TermId) (t : TermId) → terms_at bank (slice_set ids k t) ≡ spliced k (term_at bank t ∷ []) (terms_at bank ids)
set_spliced bank k [] t = refl
set_spliced bank zero (u ∷ ids) t = refl
set_spliced bank (suc k) (u ∷ ids) t = ap (λ c. term_at bank u ∷ c) (set_spliced bank k ids t)

positive : (k : ℕ) → nat_lt 0 (suc k) ≡ true
positive k = grind (arith, nat_tests)

-- the literal at a place, counted from 1, replaced by one term
pub in_place_is : (bank : Content) (place : ℕ) (ids : List TermId) (t : TermId) → terms_at bank (if nat_lt 0 place then slice_set ids (place - 1) t else ids) ≡ in_place place (term_at bank t ∷ []) (terms_at bank ids)
in_place_is bank zero ids t = refl
in_place_is bank (suc k) ids t =
    let less : suc k - 1 ≡ k = omega arith in
    ap (λ b. terms_at bank (if b then slice_set ids (suc k - 1) t else ids)) (positive k) ∙ ap (λ j. terms_at bank (slice_set ids j t)) less ∙ set_spliced bank k ids t
