-- Names for the variables of a rule, over terms and over ids.
use Rattle.std.proofs.Common.{◌≡◌, ◌<◌, ◌≤◌, ◌+◌, ℕ, zero, suc, Bool, true, false, ◌||◌, ◌&&◌, if◌then◌else◌, Option, Some, None, List, [], ◌∷◌, ◌++◌, length, map, take, get_or, refl, sym, ap, ap₂, ◌∙◌, subst, inl, inr, arith, append_assoc}
use Rattle.std.specs.Prelude.{All, Err, Ok, OnOk, Result, bytes_eq, not, ◌⊎◌}
use Rattle.std.specs.Option.{option_map}
use Rattle.std.proofs.lemmas.List.{append-nil, map_push, take_all, take_more}
use Rattle.nq_logic.specs.Terms.{Each, Name, Term, Variable, Function, Applied, IsAmong, Substitution, applied, call}
use Rattle.nq_logic.specs.Names.{has_name}
use Rattle.nq_logic.specs.RuleShapes.{variables_of}
use Rattle.nq_logic.specs.Words.{numeral}
use Rattle.nq_bank.specs.Parts.{parts_of}
use Rattle.nq_bank.specs.declared.node.TermId.{TermId}
use Rattle.nq_bank.specs.Content.{Content, Grows, IsNamed, Stands, term_at, terms_at, text_at}
use Rattle.nq_bank.proofs.Growth.{terms_at-grown, text_at-grown}
use Rattle.nq_bank.proofs.Standing.{All-push}
use Rattle.nq_clause.specs.declared.substitution.Pair.{Pair}
use Rattle.nq_clause.specs.Substitution.{PairStands, substitution_at}
use Rattle.nq_bank.proofs.Texts.{eq-bytes_eq}
use Rattle.nq_proof.specs.Clauses.{distinct, same_term, without}
use Rattle.nq_proof.specs.Rules.{are_distinct}
use Rattle.nq_goals.specs.Eliminating.{distinct_names, name_in, named_by, names_for, renaming, without_name}
use Rattle.nq_goals.specs.NewVariables.{clause_variables}
use Rattle.nq_history.specs.declared.entry.Entry.{Entry}
use Rattle.nq_kernel.specs.declared.work.Stop.{Stop}
use Rattle.nq_kernel.specs.declared.work.Work.{Work}
use Rattle.nq_kernel.specs.Over.{IsVariable, pair_names}
use Rattle.nq_lines.specs.Lines.{IsTermIn}
use Rattle.nq_lines.proofs.TermLemmas.{IsOver}
use Rattle.nq_moves.proofs.OverLemmas.{ids_in}
use Rattle.nq_eliminate.specs.Choosing.{paired}
use Rattle.nq_eliminate.specs.Images.{image}
use Rattle.nq_eliminate.specs.Naming.{images_for, term_by}
use Rattle.nq_stuck.specs.Destructors.{is_variable}
use Rattle.nq_stuck.proofs.DestructorLemmas.{variable_number}
use Rattle.nq_eliminate.proofs.CallShapes.{call_no_variable}
use Rattle.nq_eliminate.proofs.CandidateLemmas.{apart_from}
use Rattle.nq_eliminate.proofs.ChosenLemmas.{image_named}
use Rattle.nq_eliminate.proofs.ImageLemmas.{same_head, same_image, same_tail}
use Rattle.nq_eliminate.proofs.Names.{has_among, same_name}

-- ---- variables, each once

variables_without : (x : Name) (xs : List Name) → without (Variable x) (map Variable xs) ≡ map Variable (without_name x xs)
variables_without x [] = refl
variables_without x (y ∷ xs) = by_test (bytes_eq x y) (variables_without x xs)
  where
    by_test : (b : Bool) → without (Variable x) (map Variable xs) ≡ map Variable (without_name x xs) → (if b then without (Variable x) (map Variable xs) else Variable y ∷ without (Variable x) (map Variable xs)) ≡ map Variable (if b then without_name x xs else y ∷ without_name x xs)
    by_test true rest = rest
    by_test false rest = ap (λ r. Variable y ∷ r) rest

pub variables_once : (xs : List Name) → distinct (map Variable xs) ≡ map Variable (distinct_names xs)
variables_once [] = refl
variables_once (x ∷ xs) = ap (λ r. Variable x ∷ r) (ap (without (Variable x)) (variables_once xs) ∙ variables_without x (distinct_names xs))

not_among : (x : Name) (ys : List Name) → has_name x (without_name x ys) ≡ false
not_among x ys = by_test (has_name x (without_name x ys)) refl
  where
    by_test : (b : Bool) → has_name x (without_name x ys) ≡ b → b ≡ false
    by_test false k = refl
    by_test true k =
        let other : bytes_eq x x ≡ false = apart_from x x ys (has_among x (without_name x ys) k) in
        let same : bytes_eq x x ≡ true = eq-bytes_eq x x refl in
        absurd (cc)

fewer_names : (x y : Name) (ys : List Name) → has_name y ys ≡ false → has_name y (without_name x ys) ≡ false
fewer_names x y [] e = e
fewer_names x y (z ∷ ys) e = by_test (bytes_eq x z) (λ k. fewer_names x y ys k) (or_neither (bytes_eq y z) (has_name y ys) e)
  where
    or_neither : (a b : Bool) → (a || b) ≡ false → (a ≡ false) × (b ≡ false)
    or_neither true b k = absurd (cc)
    or_neither false b k = (refl, k)

    by_test : (b : Bool) → (has_name y ys ≡ false → has_name y (without_name x ys) ≡ false) → (bytes_eq y z ≡ false) × (has_name y ys ≡ false) → has_name y (if b then without_name x ys else z ∷ without_name x ys) ≡ false
    by_test true later k = later k.1
    by_test false later k = ap (λ c. c || has_name y (without_name x ys)) k.0 ∙ later k.1

still_distinct : (x : Name) (ys : List Name) → are_distinct ys ≡ true → are_distinct (without_name x ys) ≡ true
still_distinct x [] e = refl
still_distinct x (y ∷ ys) e = by_test (bytes_eq x y) (λ k. still_distinct x ys k) (both_parts (not (has_name y ys)) (are_distinct ys) e)
  where
    both_parts : (a b : Bool) → (a && b) ≡ true → (a ≡ true) × (b ≡ true)
    both_parts true b k = (refl, k)
    both_parts false b k = absurd (cc)

    not_false : (b : Bool) → not b ≡ true → b ≡ false
    not_false false k = refl
    not_false true k = absurd (cc)

    by_test : (b : Bool) → (are_distinct ys ≡ true → are_distinct (without_name x ys) ≡ true) → (not (has_name y ys) ≡ true) × (are_distinct ys ≡ true) → are_distinct (if b then without_name x ys else y ∷ without_name x ys) ≡ true
    by_test true later k = later k.1
    by_test false later k = ap (λ c. not c && are_distinct (without_name x ys)) (fewer_names x y ys (not_false (has_name y ys) k.0)) ∙ later k.1

pub names_distinct : (xs : List Name) → are_distinct (distinct_names xs) ≡ true
names_distinct [] = refl
names_distinct (x ∷ xs) = ap (λ c. not c && are_distinct (without_name x (distinct_names xs))) (not_among x (distinct_names xs)) ∙ still_distinct x (distinct_names xs) (names_distinct xs)

-- ---- images are names

pub images_named : (xs ys own new : List Name) → images_for (map Variable xs) (map Variable ys) (map Variable own) (map Variable new) ≡ map Variable (names_for (paired xs ys) own new)
images_named xs ys [] new = refl
images_named xs ys (x ∷ own) new = ap (λ o. term_by o (map Variable new) (images_for (map Variable xs) (map Variable ys) (map Variable own))) (image_named xs ys x) ∙ by_name (name_in (paired xs ys) x) (λ zs. images_named xs ys own zs) new
  where
    by_name : (o : Option (List ℕ)) → ((zs : List Name) → images_for (map Variable xs) (map Variable ys) (map Variable own) (map Variable zs) ≡ map Variable (names_for (paired xs ys) own zs)) → (new : List Name) → term_by (option_map Variable o) (map Variable new) (images_for (map Variable xs) (map Variable ys) (map Variable own)) ≡ map Variable (named_by o new (names_for (paired xs ys) own))
    by_name None later [] = refl
    by_name None later (z ∷ zs) = ap (λ r. Variable z ∷ r) (later zs)
    by_name (Some y) later new = ap (λ r. Variable y ∷ r) (later new)

-- each image is one of the second terms, or a new one
image_among : (from to : List Term) (t w : Term) → image from to t ≡ Some w → IsAmong w to
image_among [] us t w e = absurd (cc)
image_among (f ∷ fs) [] t w e = absurd (cc)
image_among (f ∷ fs) (u ∷ us) t w e = by_test (same_term t f) (λ k. image_among fs us t w k) e
  where
    by_test : (b : Bool) → (image fs us t ≡ Some w → IsAmong w us) → (if b then Some u else image fs us t) ≡ Some w → IsAmong w (u ∷ us)
    by_test true later k = inl (sym (same_image u w k))
    by_test false later k = inr (later k)

pub images_among : (from to own new : List Term) (t : Term) → IsAmong t (images_for from to own new) → IsAmong t to ⊎ IsAmong t new
images_among from to [] new t m = absurd m
images_among from to (x ∷ own) new t m = by_image (image from to x) refl (λ zs n. images_among from to own zs t n) new m
  where
    by_image : (o : Option Term) → image from to x ≡ o → ((zs : List Term) → IsAmong t (images_for from to own zs) → IsAmong t to ⊎ IsAmong t zs) → (new : List Term) → IsAmong t (term_by o new (images_for from to own)) → IsAmong t to ⊎ IsAmong t new
    by_image None e later [] m = absurd m
    by_image None e later (z ∷ zs) (inl is) = inr (inl is)
    by_image None e later (z ∷ zs) (inr m) = elim (later zs m) [ inl of_to ↦ inl of_to | inr of_new ↦ inr (inr of_new) ]
    by_image (Some w) e later new (inl is) = inl (subst (λ u. IsAmong u to) (sym is) (image_among from to x w e))
    by_image (Some w) e later new (inr m) = later new m

-- ---- renamings

pub renaming_names : (xs ys : List Name) → length ys ≡ length xs → pair_names (renaming xs ys) ≡ xs
renaming_names [] ys many = refl
renaming_names (x ∷ xs) [] many = absurd (omega (arith, many))
renaming_names (x ∷ xs) (y ∷ ys) many = ap (λ r. x ∷ r) (renaming_names xs ys (omega (arith, many)))

pub renaming_terms : (xs ys : List Name) (t : Term) → IsAmong t (map (λ (p : Name × Term). p.1) (renaming xs ys)) → IsAmong t (map Variable ys)
renaming_terms [] ys t m = absurd m
renaming_terms (x ∷ xs) [] t m = absurd m
renaming_terms (x ∷ xs) (y ∷ ys) t (inl is) = inl is
renaming_terms (x ∷ xs) (y ∷ ys) t (inr m) = inr (renaming_terms xs ys t m)

-- ---- lists of terms

pub variables_joined : (xs ys : List Name) → map Variable (xs ++ ys) ≡ map Variable xs ++ map Variable ys
variables_joined [] ys = refl
variables_joined (x ∷ xs) ys = ap (λ r. Variable x ∷ r) (variables_joined xs ys)

-- ---- the variables of calls

clause_joined : (c d : List Term) → clause_variables (c ++ d) ≡ clause_variables c ++ clause_variables d
clause_joined [] d = refl
clause_joined (t ∷ c) d = ap (λ r. variables_of t ++ r) (clause_joined c d) ∙ sym (append_assoc (variables_of t) (clause_variables c) (clause_variables d))

variables_applied : (t : Term) (us : List Term) → variables_of (applied t us) ≡ variables_of t ++ clause_variables us
variables_applied t [] = sym (append-nil (variables_of t))
variables_applied t (u ∷ us) = variables_applied (Applied t u) us ∙ append_assoc (variables_of t) (variables_of u) (clause_variables us)

pub call_variables : (t : Term) (f : Name) → t ≡ call f (parts_of t) → variables_of t ≡ clause_variables (parts_of t)
call_variables t f is = ap variables_of is ∙ variables_applied (Function f) (parts_of t)

numeral_variables : (n : ℕ) → variables_of (numeral n) ≡ []
unfolding numeral
numeral_variables zero = refl
numeral_variables (suc n) = numeral_variables n

pub none_put : (t : Term) (n : ℕ) (old : List Term) → t ≡ numeral n → old ≡ old ++ map Variable (variables_of t)
none_put t n old is = sym (ap (λ u. old ++ map Variable (variables_of u)) is ∙ (ap (λ xs. old ++ map Variable xs) (numeral_variables n) ∙ append-nil old))

-- one argument more
pub more_put : (bank : Content) (first old new : List Term) (ids : List TermId) (i : ℕ) (d : TermId) → i < length ids → old ≡ first ++ map Variable (clause_variables (terms_at bank (take i ids))) → new ≡ old ++ map Variable (variables_of (term_at bank (get_or ids i d))) →
    new ≡ first ++ map Variable (clause_variables (terms_at bank (take (i + 1) ids)))
more_put bank first old new ids i d below so_far step =
    let t : Term = term_at bank (get_or ids i d) in
    let before : List Name = clause_variables (terms_at bank (take i ids)) in
    let after : clause_variables (terms_at bank (take (i + 1) ids)) ≡ before ++ variables_of t =
    ap (λ xs. clause_variables (terms_at bank xs)) (take_more ids i d below) ∙ (ap clause_variables (map_push (term_at bank) (take i ids) (get_or ids i d)) ∙ (clause_joined (terms_at bank (take i ids)) (t ∷ []) ∙ ap (λ r. before ++ r) (append-nil (variables_of t)))) in
    step
    ∙ (ap (λ r. r ++ map Variable (variables_of t)) so_far
    ∙ (append_assoc first (map Variable before) (map Variable (variables_of t))
    ∙ ap (λ r. first ++ r) (sym (ap (map Variable) after ∙ variables_joined before (variables_of t)))))

pub all_put : (bank : Content) (old new : List Term) (t : Term) (f : Name) (ids : List TermId) (i : ℕ) → t ≡ call f (parts_of t) → terms_at bank ids ≡ parts_of t → length ids ≤ i → new ≡ old ++ map Variable (clause_variables (terms_at bank (take i ids))) → new ≡ old ++ map Variable (variables_of t)
all_put bank old new t f ids i is tells past so_far =
    so_far ∙ ap (λ r. old ++ map Variable r) (ap (λ xs. clause_variables (terms_at bank xs)) (take_all i ids past) ∙ (ap clause_variables tells ∙ sym (call_variables t f is)))

-- terms after terms
pub later_put : (old mid new : List Term) (x : Term) (xs : List Term) → mid ≡ old ++ x ∷ [] → new ≡ mid ++ xs → new ≡ old ++ x ∷ xs
later_put old mid new x xs one rest = rest ∙ (ap (λ r. r ++ xs) one ∙ append_assoc old (x ∷ []) xs)

pub ids_put : (bank : Content) (old new : List TermId) (x : TermId) → new ≡ old ++ x ∷ [] → terms_at bank new ≡ terms_at bank old ++ term_at bank x ∷ []
ids_put bank old new x is = ap (terms_at bank) is ∙ map_push (term_at bank) old x

pub variables_put : (old mid new : List Term) (t : Term) (c : List Term) → mid ≡ old ++ map Variable (variables_of t) → new ≡ mid ++ map Variable (clause_variables c) → new ≡ old ++ map Variable (clause_variables (t ∷ c))
variables_put old mid new t c one rest =
    rest ∙ (ap (λ r. r ++ map Variable (clause_variables c)) one ∙ (append_assoc old (map Variable (variables_of t)) (map Variable (clause_variables c)) ∙ ap (λ r. old ++ r) (sym (variables_joined (variables_of t) (clause_variables c)))))

-- ids of variables that a log can spell
pub variables_over : (history : List Entry) (w : Work) (ids : List TermId) (xs : List Name) → All (Stands w.bank) ids → terms_at w.bank ids ≡ map Variable xs → Each IsVariable xs → All (IsTermIn history w) ids
variables_over history w ids xs stand are plain = ids_in history w ids stand (λ t m. one xs plain t (subst (IsAmong t) are m))
  where
    one : (ys : List Name) → Each IsVariable ys → (t : Term) → IsAmong t (map Variable ys) → IsOver history w t
    one [] each t m = absurd m
    one (y ∷ ys) each t (inl e) = subst (IsOver history w) (sym e) (record { over = tt; variables = each.0 })
    one (y ∷ ys) each t (inr m) = one ys each.1 t m

pub one_variable : (t : Term) (x : Name) → t ≡ Variable x → t ∷ [] ≡ map Variable (variables_of t)
one_variable t x is = ap (λ u. u ∷ []) is ∙ sym (ap (λ u. map Variable (variables_of u)) is)

pub no_ids : (P : TermId → Type 0) → All P []
no_ids P k d below = absurd (omega (arith, below))

-- the arguments of a term that stands stand
pub earlier_stand : (bank : Content) (ids : List TermId) (t : TermId) → Stands bank t → All (λ (a : TermId). a.0 < t.0) ids → All (Stands bank) ids
earlier_stand bank ids t stands earlier k d below = let before : (get_or ids k d).0 < t.0 = earlier k d below in omega (arith, before, stands)

-- the variable of one more pair
pub pair_put : (old mid new : Content) (pairs : List Pair) (ids : List TermId) (i : ℕ) (d : Pair) (id : TermId) → Grows old mid → Grows mid new → All (PairStands old) pairs → i < length pairs → All (Stands mid) ids → terms_at mid ids ≡ map Variable (pair_names (substitution_at old (take i pairs))) →
    term_at new id ≡ Variable (text_at mid (get_or pairs i d).variable) → terms_at new (ids ++ id ∷ []) ≡ map Variable (pair_names (substitution_at old (take (i + 1) pairs)))
pair_put old mid new pairs ids i d id before after all below stand so_far is =
    let p : Pair = get_or pairs i d in
    let name : text_at mid p.variable ≡ text_at old p.variable = text_at-grown old mid p.variable before (all i d below).variable in
    map_push (term_at new) ids id
    ∙ (ap₂ (λ (ts : List Term) (t : Term). ts ++ t ∷ []) (terms_at-grown mid new ids after stand ∙ so_far) (is ∙ ap Variable name)
    ∙ sym (ap (λ ps. map Variable (pair_names (substitution_at old ps))) (take_more pairs i d below) ∙ (ap (λ s. map Variable (pair_names s)) (map_push (λ (q : Pair). (text_at old q.variable, term_at old q.term)) (take i pairs) p)
    ∙ (ap (map Variable) (map_push (λ (q : Name × Term). q.0) (substitution_at old (take i pairs)) (text_at old p.variable, term_at old p.term)) ∙ map_push Variable (pair_names (substitution_at old (take i pairs))) (text_at old p.variable)))))

-- no terms, and nothing put
pub no_more_put : (bank : Content) (old : List Term) (ids : List TermId) → length ids < 1 → old ≡ old ++ map Variable (clause_variables (terms_at bank ids))
no_more_put bank old [] few = sym (append-nil old)
no_more_put bank old (i ∷ ids) few = absurd (omega (arith, few))

-- the variables of terms, the first of which is the eliminated one
pub all_variables : (last : List Term) (first : Term) (x : Name) (t : Term) (hs : List Term) → first ≡ Variable x → last ≡ ((first ∷ []) ++ map Variable (variables_of t)) ++ map Variable (clause_variables hs) → last ≡ map Variable (x ∷ clause_variables (t ∷ hs))
all_variables last first x t hs is put =
    put ∙ ap₂ (λ (u : Term) (us : List Term). u ∷ us) is (sym (variables_joined (variables_of t) (clause_variables hs)))

-- ---- images that are put

module _ (from to : List Term) where
  pub no_images : (old own new : List Term) → own ≡ [] → old ≡ old ++ images_for from to own new
  no_images old own new none = sym (append-nil old) ∙ ap (λ ts. old ++ images_for from to ts new) (sym none)

  pub none_left : (old : List Term) (t : Term) (ts new : List Term) → image from to t ≡ None → new ≡ [] → old ≡ old ++ images_for from to (t ∷ ts) new
  none_left old t ts new is none =
      sym (append-nil old) ∙ (ap (λ o. old ++ term_by o [] (images_for from to ts)) (sym is) ∙ ap (λ us. old ++ images_for from to (t ∷ ts) us) (sym none))

  pub known_put : (old mid last : List Term) (t w : Term) (ts new : List Term) → image from to t ≡ Some w → mid ≡ old ++ w ∷ [] → last ≡ mid ++ images_for from to ts new → last ≡ old ++ images_for from to (t ∷ ts) new
  known_put old mid last t w ts new is one rest = later_put old mid last w (images_for from to ts new) one rest ∙ ap (λ o. old ++ term_by o new (images_for from to ts)) (sym is)

  pub new_put : (old mid last : List Term) (t z : Term) (ts zs : List Term) → image from to t ≡ None → mid ≡ old ++ z ∷ [] → last ≡ mid ++ images_for from to ts zs → last ≡ old ++ images_for from to (t ∷ ts) (z ∷ zs)
  new_put old mid last t z ts zs is one rest = later_put old mid last z (images_for from to ts zs) one rest ∙ ap (λ o. old ++ term_by o (z ∷ zs) (images_for from to ts)) (sym is)

-- ---- pairs that are put

pub no_pairs : (s : Substitution) (ts : List Term) (xs ys : List Name) → ts ≡ [] → ts ≡ map Variable xs → s ≡ s ++ renaming xs ys
no_pairs s ts [] ys none are = sym (append-nil s)
no_pairs s ts (x ∷ xs) ys none are = let same : ◌≡◌ {A = List Term} [] (Variable x ∷ map Variable xs) = sym none ∙ are in absurd (cc)

pub no_pairs_left : (s : Substitution) (us : List Term) (xs ys : List Name) → us ≡ [] → us ≡ map Variable ys → s ≡ s ++ renaming xs ys
no_pairs_left s us [] ys none are = sym (append-nil s)
no_pairs_left s us (x ∷ xs) [] none are = sym (append-nil s)
no_pairs_left s us (x ∷ xs) (y ∷ ys) none are = let same : ◌≡◌ {A = List Term} [] (Variable y ∷ map Variable ys) = sym none ∙ are in absurd (cc)

pub pair_more : (old mid last : Substitution) (t u : Term) (ts us : List Term) → ((x : Name) → t ≡ Variable x → mid ≡ old ++ (x, u) ∷ []) → ((xs ys : List Name) → ts ≡ map Variable xs → us ≡ map Variable ys → last ≡ mid ++ renaming xs ys) → (xs ys : List Name) → t ∷ ts ≡ map Variable xs → u ∷ us ≡ map Variable ys → last ≡ old ++ renaming xs ys
pair_more old mid last t u ts us one rest [] ys e k = absurd (cc)
pair_more old mid last t u ts us one rest (x ∷ xs) [] e k = absurd (cc)
pair_more old mid last t u ts us one rest (x ∷ xs) (y ∷ ys) e k =
    let first : mid ≡ old ++ (x, u) ∷ [] = one x (same_head t (Variable x) ts (map Variable xs) e) in
    let into : u ≡ Variable y = same_head u (Variable y) us (map Variable ys) k in
    rest xs ys (same_tail t (Variable x) ts (map Variable xs) e) (same_tail u (Variable y) us (map Variable ys) k)
    ∙ (ap (λ r. r ++ renaming xs ys) first
    ∙ (append_assoc old ((x, u) ∷ []) (renaming xs ys)
    ∙ ap (λ (v : Term). old ++ (x, v) ∷ renaming xs ys) into))

pub pushed_pair : (bank : Content) (old mid : List Pair) (p : Pair) → mid ≡ old ++ p ∷ [] → substitution_at bank mid ≡ substitution_at bank old ++ (text_at bank p.variable, term_at bank p.term) ∷ []
pushed_pair bank old mid p is = ap (substitution_at bank) is ∙ map_push (λ (q : Pair). (text_at bank q.variable, term_at bank q.term)) old p

pub named_pair : (bank : Content) (old mid : List Pair) (p : Pair) (t : Term) (x : Name) → mid ≡ old ++ p ∷ [] → t ≡ Variable (text_at bank p.variable) → t ≡ Variable x → substitution_at bank mid ≡ substitution_at bank old ++ (x, term_at bank p.term) ∷ []
named_pair bank old mid p t x is named same = pushed_pair bank old mid p is ∙ ap (λ (n : Name). substitution_at bank old ++ (n, term_at bank p.term) ∷ []) (same_name (text_at bank p.variable) x (sym named ∙ same))

-- a number is no variable, and no call is
pub no_number_variable : (t : Term) (n : ℕ) (x : Name) → t ≡ numeral n → t ≡ Variable x → ⊥
no_number_variable t n x number is =
    let fails : is_variable t ≡ false = sym (variable_number t n number) in
    let holds : is_variable t ≡ true = ap is_variable is in
    cc

pub no_call_variable : (t : Term) (f x : Name) → t ≡ call f (parts_of t) → t ≡ Variable x → ⊥
no_call_variable t f x is same = call_no_variable f x (parts_of t) (sym is ∙ same)

-- what a pair that is pushed says, where there is room
pub pair_pushed : {A : Type 0} (r : Result A Stop) (bank : Content) (old new : List Pair) (p : Pair) (t : Term) → t ≡ Variable (text_at bank p.variable) → OnOk r (new ≡ old ++ p ∷ []) → OnOk r ((x : Name) → t ≡ Variable x → substitution_at bank new ≡ substitution_at bank old ++ (x, term_at bank p.term) ∷ [])
pair_pushed (Ok a) bank old new p t named kept = λ x same. named_pair bank old new p t x kept named same
pair_pushed (Err e) bank old new p t named kept = tt

pub pairs_pushed : {A : Type 0} (r : Result A Stop) (bank : Content) (old new : List Pair) (p : Pair) → All (PairStands bank) old → IsNamed bank p.variable → Stands bank p.term → OnOk r (new ≡ old ++ p ∷ []) → OnOk r (All (PairStands bank) new)
pairs_pushed (Ok a) bank old new p all named stands kept = subst (All (PairStands bank)) (sym kept) (All-push (PairStands bank) old p all (record { variable = named; term = stands }))
pairs_pushed (Err e) bank old new p all named stands kept = tt

pub no_pair_stands : (bank : Content) → All (PairStands bank) []
no_pair_stands bank k d below = absurd (omega (arith, below))
