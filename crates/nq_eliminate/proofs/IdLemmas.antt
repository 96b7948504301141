-- The first of ids, and the others.
use Rattle.std.proofs.Common.{◌≡◌, ◌<◌, ◌≤◌, ◌-◌, false, List, [], ◌∷◌, length, length-drop, map, drop, take, get_or, refl, sym, ap, ap₂, ◌∙◌, subst, inl, inr, arith}
use Rattle.std.specs.Prelude.{All}
use Rattle.std.proofs.lemmas.List.{take_all}
use Rattle.nq_logic.specs.Terms.{IsAmong, Name, Term, Variable}
use Rattle.nq_logic.specs.Numerals.{number_of}
use Rattle.nq_logic.specs.Values.{is_tree_value, is_value}
use Rattle.nq_bank.specs.declared.node.TermId.{TermId}
use Rattle.nq_bank.specs.Content.{Content, IsIdOf, Stands, term_at, terms_at}
use Rattle.nq_bank.proofs.NodesLemmas.{All-head, All-tail}
use Rattle.nq_proof.specs.Clauses.{Clause}
use Rattle.nq_eliminate.proofs.ImageLemmas.{same_head, same_tail}
use Rattle.nq_eliminate.proofs.ServingLemmas.{element_among}

-- ids of variables
variable_value : (x : Name) → is_value (Variable x) ≡ false
unfolding number_of is_tree_value
variable_value x = refl

pub each_value : (bank : Content) (ids : List TermId) (xs : List Name) → terms_at bank ids ≡ map Variable xs → All (λ a. is_value (term_at bank a) ≡ false) ids
each_value bank ids xs are k d below = one xs (subst (IsAmong (term_at bank (get_or ids k d))) are (element_among (term_at bank) ids k d below))
  where
    one : (ys : List Name) → IsAmong (term_at bank (get_or ids k d)) (map Variable ys) → is_value (term_at bank (get_or ids k d)) ≡ false
    one [] m = absurd m
    one (y ∷ ys) (inl e) = ap is_value e ∙ variable_value y
    one (y ∷ ys) (inr m) = one ys m

pub other_terms : (bank : Content) (ids : List TermId) (x : Name) (xs : List Name) → terms_at bank ids ≡ Variable x ∷ map Variable xs → terms_at bank (drop 1 ids) ≡ map Variable xs
other_terms bank [] x xs are = absurd (cc)
other_terms bank (i ∷ ids) x xs are = same_tail (term_at bank i) (Variable x) (terms_at bank ids) (map Variable xs) are

pub drop_all_in : (P : TermId → Type 0) (ids : List TermId) → All P ids → All P (drop 1 ids)
drop_all_in P [] all = all
drop_all_in P (i ∷ ids) all = All-tail P i ids all

-- ---- the first of ids, and the others

pub none_after : (ids : List TermId) → length ids < 1 → [] ≡ drop 1 ids
none_after [] few = refl
none_after (i ∷ ids) few = absurd (omega (arith, few))

pub rest_all : (ids : List TermId) → take (length ids - 1) (drop 1 ids) ≡ drop 1 ids
rest_all ids = take_all (length ids - 1) (drop 1 ids) (omega (arith, length-drop 1 ids))

pub some_ids : (bank : Content) (ids : List TermId) (t : Term) (c : Clause) → terms_at bank ids ≡ t ∷ c → 1 ≤ length ids
some_ids bank [] t c are = absurd (cc)
some_ids bank (i ∷ ids) t c are = omega arith

pub one_id : (bank : Content) (ids : List TermId) (t : Term) (r : TermId) → All (Stands bank) ids → terms_at bank ids ≡ t ∷ [] → r ≡ get_or ids 0 r → IsIdOf bank r t
one_id bank [] t r stand are is = absurd (cc)
one_id bank (i ∷ ids) t r stand are is =
    let same : r ≡ i = is in
    record { stands = subst (Stands bank) (sym same) (All-head (Stands bank) i ids stand); denotes = ap (term_at bank) same ∙ same_head (term_at bank i) t (terms_at bank ids) [] are }

pub split_first : (ids rest : List TermId) (i : TermId) → 1 ≤ length ids → i ≡ get_or ids 0 i → rest ≡ drop 1 ids → ids ≡ i ∷ rest
split_first [] rest i some is others = absurd (omega (arith, some))
split_first (j ∷ ids) rest i some is others = ap₂ (λ (x : TermId) (xs : List TermId). x ∷ xs) (sym is) (sym others)
