-- Clauses with terms in the place of a literal.
use Rattle.std.proofs.Common.{◌≡◌, ℕ, zero, suc, ◌-◌, ◌<◌, ◌≤◌, List, [], ◌∷◌, ◌++◌, length, take, drop, refl, ap, ◌∙◌, inr, arith}
use Rattle.std.specs.Prelude.{IsSome, slice_get}
use Rattle.std.proofs.lemmas.List.{length-map}
use Rattle.nq_logic.specs.Terms.{Term, IsAmong}
use Rattle.nq_logic.proofs.Lists.{among_left}
use Rattle.nq_bank.specs.declared.node.TermId.{TermId}
use Rattle.nq_bank.specs.Content.{Content, term_at, terms_at, term_from}
use Rattle.nq_proof.specs.Clauses.{Clause, literal_at, spliced, in_place}

place_within : (k : ℕ) (c : List Term) → IsSome (slice_get c k) → k < length c
place_within k [] h = absurd cc
place_within zero (t ∷ c) h = omega arith
place_within (suc k) (t ∷ c) h = let rest = place_within k c h in omega (arith, rest)

-- a literal has a place from 1 to the length
pub literal_first : (place : ℕ) (c : Clause) → IsSome (literal_at place c) → 1 ≤ place
literal_first zero c h = absurd cc
literal_first (suc k) c h = omega arith

pub literal_last : (bank : Content) (place : ℕ) (ids : List TermId) → IsSome (literal_at place (terms_at bank ids)) → place ≤ length ids
literal_last bank zero ids h = omega arith
literal_last bank (suc k) ids h = let within = place_within k (terms_at bank ids) h in omega (arith, within, length-map ids (term_from bank.terms))

terms_at-append : (bank : Content) (these ids : List TermId) → terms_at bank (these ++ ids) ≡ terms_at bank these ++ terms_at bank ids
terms_at-append bank [] ids = refl
terms_at-append bank (t ∷ these) ids = ap (λ c. term_at bank t ∷ c) (terms_at-append bank these ids)

spliced_at : (bank : Content) (k : ℕ) (ids these : List TermId) → k < length ids → terms_at bank (take k ids ++ (these ++ drop (suc k) ids)) ≡ spliced k (terms_at bank these) (terms_at bank ids)
spliced_at bank k [] these below = absurd (omega arith)
spliced_at bank zero (u ∷ ids) these below = terms_at-append bank these ids
spliced_at bank (suc k) (u ∷ ids) these below = ap (λ c. term_at bank u ∷ c) (spliced_at bank k ids these (omega arith))

-- the ids with these in the place of one denote the clause with these in the place of a literal
pub in_place_is : (bank : Content) (place : ℕ) (ids these c : List TermId) → IsSome (literal_at place (terms_at bank ids)) → c ≡ take (place - 1) ids ++ (these ++ drop place ids) → terms_at bank c ≡ in_place place (terms_at bank these) (terms_at bank ids)
in_place_is bank zero ids these c h e = absurd cc
in_place_is bank (suc k) ids these c h e =
    let less : suc k - 1 ≡ k = omega arith in
    let within = literal_last bank (suc k) ids h in
    ap (terms_at bank) (e ∙ ap (λ j. take j ids ++ (these ++ drop (suc k) ids)) less) ∙ spliced_at bank k ids these (omega (arith, within))

-- what is put in the place of a literal stands in the clause
among_spliced : (k : ℕ) (these c : Clause) (t : Term) → k < length c → IsAmong t these → IsAmong t (spliced k these c)
among_spliced k these [] t below m = absurd (omega arith)
among_spliced zero these (u ∷ c) t below m = among_left t these c m
among_spliced (suc k) these (u ∷ c) t below m = inr (among_spliced k these c t (omega arith) m)

pub among_placed : (place : ℕ) (these c : Clause) (t : Term) → IsSome (literal_at place c) → IsAmong t these → IsAmong t (in_place place these c)
among_placed zero these c t h m = absurd cc
among_placed (suc k) these c t h m = among_spliced k these c t (place_within k c h) m
