-- Nests from a place on, and how deep they are.
use Rattle.std.proofs.Common.{◌≡◌, ℕ, zero, suc, ◌-◌, ◌<◌, ◌≤◌, Bool, true, false, nat_eq, List, [], ◌∷◌, length, get_or, drop, drop-cons, refl, ap, sym, ◌∙◌, subst, arith}
use Rattle.std.specs.Prelude.{codes, if◌then◌else◌}
use Rattle.nq_logic.specs.Terms.{Name, Term, call}
use Rattle.nq_logic.specs.Words.{call1, call2}
use Rattle.nq_logic.specs.Sizes.{depth_of, depth_limit}
use Rattle.nq_language.specs.Translation.{list_term, nested_term, path_term, letter_term}
use Rattle.nq_bank.specs.declared.node.TermId.{TermId}
use Rattle.nq_bank.specs.Content.{Content, term_at, terms_at}
use Rattle.nq_abbrev.specs.Nests.{right_nest}
use Rattle.nq_abbrev.proofs.MakingLemmas.{deep_second, deep_only}

deep_by : (t u : Term) → t ≡ u → depth_limit < depth_of t → depth_limit < depth_of u
deep_by t u e h = subst (λ (z : Term). depth_limit < depth_of z) e h

deep_list_from : (k : ℕ) (bank : Content) (ids : List TermId) → depth_limit < depth_of (list_term (terms_at bank (drop k ids))) → depth_limit < depth_of (list_term (terms_at bank ids))
deep_list_from zero bank ids h = h
deep_list_from (suc k) bank [] h = h
deep_list_from (suc k) bank (i ∷ ids) h = deep_second (codes "CONS") (term_at bank i) (list_term (terms_at bank ids)) (deep_list_from k bank ids h)

pub deep_list : (bank : Content) (ids : List TermId) (place : ℕ) (d : TermId) → 0 < place → place ≤ length ids
    → depth_limit < depth_of (call2 "CONS" (term_at bank (get_or ids (place - 1) d)) (list_term (terms_at bank (drop place ids)))) → depth_limit < depth_of (list_term (terms_at bank ids))
deep_list bank ids zero d lo hi h = absurd (omega arith)
deep_list bank ids (suc k) d lo hi h =
    let less : suc k - 1 ≡ k = omega arith in
    let here : k < length ids = omega arith in
    let same = ap (λ j. call2 "CONS" (term_at bank (get_or ids j d)) (list_term (terms_at bank (drop (suc k) ids)))) less ∙ sym (ap (λ (z : List TermId). list_term (terms_at bank z)) (drop-cons ids k d here)) in
    deep_list_from k bank ids (deep_by _ _ same h)

deep_letter : (c : Bool) (t : Term) → depth_limit < depth_of t → depth_limit < depth_of (if c then call1 "CAR" t else call1 "CDR" t)
deep_letter true t h = deep_only (codes "CAR") t h
deep_letter false t h = deep_only (codes "CDR") t h

deep_path_from : (k : ℕ) (letters : List ℕ) (t : Term) → depth_limit < depth_of (path_term (drop k letters) t) → depth_limit < depth_of (path_term letters t)
deep_path_from zero letters t h = h
deep_path_from (suc k) [] t h = h
deep_path_from (suc k) (b ∷ letters) t h = deep_letter (nat_eq b 65) (path_term letters t) (deep_path_from k letters t h)

-- a nest around a term that is too deep
pub deep_path_end : (letters : List ℕ) (t : Term) → depth_limit < depth_of t → depth_limit < depth_of (path_term letters t)
deep_path_end [] t h = h
deep_path_end (b ∷ letters) t h = deep_letter (nat_eq b 65) (path_term letters t) (deep_path_end letters t h)

pub deep_path : (letters : List ℕ) (place : ℕ) (t : Term) → 0 < place → place ≤ length letters → depth_limit < depth_of (letter_term (get_or letters (place - 1) 0) (path_term (drop place letters) t)) → depth_limit < depth_of (path_term letters t)
deep_path letters zero t lo hi h = absurd (omega arith)
deep_path letters (suc k) t lo hi h =
    let less : suc k - 1 ≡ k = omega arith in
    let here : k < length letters = omega arith in
    let same = ap (λ j. letter_term (get_or letters j 0) (path_term (drop (suc k) letters) t)) less ∙ sym (ap (λ (z : List ℕ). path_term z t) (drop-cons letters k 0 here)) in
    deep_path_from k letters t (deep_by _ _ same h)

-- one argument more before a nest
right_more : (f : Name) (bank : Content) (i : TermId) (ids : List TermId) → 1 ≤ length ids → call f (term_at bank i ∷ right_nest f (terms_at bank ids) ∷ []) ≡ right_nest f (terms_at bank (i ∷ ids))
right_more f bank i [] h = absurd (omega arith)
right_more f bank i (j ∷ ids) h = refl

rest_stands : (k : ℕ) (ids : List TermId) → k < length ids → 1 ≤ length (drop k ids)
rest_stands zero ids h = omega arith
rest_stands (suc k) [] h = absurd (omega arith)
rest_stands (suc k) (i ∷ ids) h = rest_stands k ids (omega arith)

pub right_step : (f : Name) (bank : Content) (ids : List TermId) (place : ℕ) (d : TermId) → 0 < place → place < length ids
    → call f (term_at bank (get_or ids (place - 1) d) ∷ right_nest f (terms_at bank (drop place ids)) ∷ []) ≡ right_nest f (terms_at bank (drop (place - 1) ids))
right_step f bank ids zero d lo hi = absurd (omega arith)
right_step f bank ids (suc k) d lo hi =
    let less : suc k - 1 ≡ k = omega arith in
    let here : k < length ids = omega arith in
    ap (λ j. call f (term_at bank (get_or ids j d) ∷ right_nest f (terms_at bank (drop (suc k) ids)) ∷ [])) less
    ∙ right_more f bank (get_or ids k d) (drop (suc k) ids) (rest_stands (suc k) ids hi)
    ∙ sym (ap (λ (z : List TermId). right_nest f (terms_at bank z)) (drop-cons ids k d here))
    ∙ sym (ap (λ j. right_nest f (terms_at bank (drop j ids))) less)

deep_right_from : (k : ℕ) (f : Name) (bank : Content) (ids : List TermId) → k < length ids → depth_limit < depth_of (right_nest f (terms_at bank (drop k ids))) → depth_limit < depth_of (right_nest f (terms_at bank ids))
deep_right_from zero f bank ids lt h = h
deep_right_from (suc k) f bank [] lt h = absurd (omega arith)
deep_right_from (suc k) f bank (i ∷ []) lt h = absurd (omega arith)
deep_right_from (suc k) f bank (i ∷ j ∷ ids) lt h = deep_second f (term_at bank i) (right_nest f (terms_at bank (j ∷ ids))) (deep_right_from k f bank (j ∷ ids) (omega arith) h)

pub deep_right : (f : Name) (bank : Content) (ids : List TermId) (place : ℕ) → 0 < place → place < length ids → depth_limit < depth_of (right_nest f (terms_at bank (drop (place - 1) ids))) → depth_limit < depth_of (right_nest f (terms_at bank ids))
deep_right f bank ids place lo hi h = deep_right_from (place - 1) f bank ids (omega arith) h

right_is_nested : (f : Name) (t u : Term) (ts : List Term) → right_nest f (t ∷ u ∷ ts) ≡ nested_term f (t ∷ u ∷ ts)
right_is_nested f t u [] = refl
right_is_nested f t u (v ∷ ts) = ap (λ (z : Term). call f (t ∷ z ∷ [])) (right_is_nested f u v ts)

pub nested_is : (f : Name) (bank : Content) (ids : List TermId) → 2 ≤ length ids → right_nest f (terms_at bank ids) ≡ nested_term f (terms_at bank ids)
nested_is f bank [] h = absurd (omega arith)
nested_is f bank (i ∷ []) h = absurd (omega arith)
nested_is f bank (i ∷ j ∷ ids) h = right_is_nested f (term_at bank i) (term_at bank j) (terms_at bank ids)

pub few_nested : (f : Name) (bank : Content) (ids : List TermId) → length ids < 2 → call f (terms_at bank ids) ≡ nested_term f (terms_at bank ids)
few_nested f bank [] h = refl
few_nested f bank (i ∷ []) h = refl
few_nested f bank (i ∷ j ∷ ids) h = absurd (omega arith)
