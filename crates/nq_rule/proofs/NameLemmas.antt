-- Distinct variables, pair by pair.
use Rattle.std.proofs.Common.{◌≡◌, ℕ, ◌+◌, ◌-◌, ◌<◌, Bool, true, false, ◌||◌, ◌&&◌, not, List, [], ◌∷◌, ◌++◌, length, get_or, take, drop, map, refl, sym, ap, ◌∙◌, arith}
use Rattle.std.specs.Prelude.{bytes_eq}
use Rattle.std.proofs.lemmas.List.{take_all, take_more, map_push, at_drop_more, length-drop}
use Rattle.nq_bank.specs.Content.{Content, text_at}
use Rattle.nq_clause.specs.declared.substitution.Pair.{Pair}
use Rattle.nq_clause.specs.Substitution.{substitution_at}
use Rattle.nq_logic.specs.Names.{has_name}
use Rattle.nq_proof.specs.Rules.{is_substitution}

abbrev pub names_at : Content → List Pair → List (List ℕ)
names_at bank pairs = map (λ p. text_at bank p.variable) pairs

or_assoc : (a b d : Bool) → ((a || b) || d) ≡ (a || (b || d))
or_assoc true b d = refl
or_assoc false b d = refl

has_name-push : (x y : List ℕ) (names : List (List ℕ)) → has_name x (names ++ y ∷ []) ≡ (has_name x names || bytes_eq x y)
has_name-push x y [] = or_false (bytes_eq x y)
  where
    or_false : (b : Bool) → (b || false) ≡ b
    or_false true = refl
    or_false false = refl
has_name-push x y (z ∷ names) = ap (λ b. bytes_eq x z || b) (has_name-push x y names) ∙ sym (or_assoc (bytes_eq x z) (has_name x names) (bytes_eq x y))

pub has_name-more : (bank : Content) (x : List ℕ) (pairs : List Pair) (i : ℕ) (d : Pair) (so_far here found : Bool) → i < length pairs → so_far ≡ has_name x (names_at bank (take i pairs)) → here ≡ bytes_eq x (text_at bank (get_or pairs i d).variable) → found ≡ (so_far || here) → found ≡ has_name x (names_at bank (take (i + 1) pairs))
has_name-more bank x pairs i d so_far here found below was is either =
    either ∙ ap (λ b. b || here) was ∙ ap (λ b. has_name x (names_at bank (take i pairs)) || b) is ∙
    sym (ap (λ ps. has_name x (names_at bank ps)) (take_more pairs i d below) ∙ ap (has_name x) (map_push (λ p. text_at bank p.variable) (take i pairs) (get_or pairs i d)) ∙ has_name-push x (text_at bank (get_or pairs i d).variable) (names_at bank (take i pairs)))

names_substitution : (bank : Content) (pairs : List Pair) → map (λ pair. pair.0) (substitution_at bank pairs) ≡ names_at bank pairs
names_substitution bank [] = refl
names_substitution bank (p ∷ pairs) = ap (λ names. text_at bank p.variable ∷ names) (names_substitution bank pairs)

-- the first of the pairs that are left, and the others
pub distinct_step : (bank : Content) (pairs rest : List Pair) (i : ℕ) (d : Pair) (b : Bool) → i < length pairs → rest ≡ drop (i + 1) pairs → b ≡ has_name (text_at bank (get_or pairs i d).variable) (names_at bank rest) →
    is_substitution (substitution_at bank (drop i pairs)) ≡ (not b && is_substitution (substitution_at bank (drop (i + 1) pairs)))
distinct_step bank pairs rest i d b below left found =
    at_drop_more (λ ps. is_substitution (substitution_at bank ps)) pairs i d below ∙
    ap (λ x. not x && is_substitution (substitution_at bank (drop (i + 1) pairs)))
    (ap (has_name (text_at bank (get_or pairs i d).variable)) (names_substitution bank (drop (i + 1) pairs) ∙ ap (names_at bank) (sym left)) ∙ sym found)

pub rest_is : (pairs : List Pair) (i : ℕ) → take (length pairs - (i + 1)) (drop (i + 1) pairs) ≡ drop (i + 1) pairs
rest_is pairs i = take_all (length pairs - (i + 1)) (drop (i + 1) pairs) (omega (arith, length-drop (i + 1) pairs))
