-- Claims of goals: lines that are gathered, and opened again.
use Rattle.std.proofs.Common.{◌≡◌, ◌<◌, ◌-◌, ◌∙◌, ℕ, zero, suc, Some, List, [], ◌∷◌, ◌++◌, length, get_or, drop, take, refl, sym, ap, subst, inl, inr, arith}
use Rattle.std.specs.Prelude.{All, IsSome}
use Rattle.std.proofs.lemmas.List.{take_all}
use Rattle.nq_logic.specs.Terms.{Term}
use Rattle.nq_logic.specs.Numerals.{number_of}
use Rattle.nq_logic.specs.Words.{not_term, equal_term, if_term, true_term}
use Rattle.nq_bank.specs.declared.node.TermId.{TermId}
use Rattle.nq_bank.specs.Content.{Content, IsIdOf, Stands, term_at, terms_at}
use Rattle.nq_bank.specs.Parts.{parts_of}
use Rattle.nq_proof.specs.Clauses.{literal_at}
use Rattle.nq_proof.specs.Rules.{Forwards}
use Rattle.nq_history.specs.declared.entry.Entry.{Entry}
use Rattle.nq_history.specs.Events.{events_at}
use Rattle.nq_logic.specs.Ground.{symbols_of}
use Rattle.nq_kernel.specs.Over.{IsVariable, IsTermOf}
use Rattle.nq_kernel.specs.declared.work.Work.{Work}
use Rattle.nq_kernel.specs.Growing.{WorkStands, WorkGrows}
use Rattle.nq_lines.specs.Lines.{AreAmong, IsTermIn, LineHasOnly, RewritesTo}
use Rattle.nq_lines.specs.Branches.{JoinsIf}
use Rattle.nq_lines.proofs.Among.{none_among, and_among, under, beside}
use Rattle.nq_lines.proofs.LineLemmas.{only_grown, only_more}
use Rattle.nq_induct.specs.Claims.{any_of, GathersTo, OpensTo}

-- a literal before others, and behind them
pub moved_back : (t : Term) (ts these : List Term) → AreAmong (t ∷ (ts ++ these)) (ts ++ (t ∷ these))
moved_back t [] these u m = m
moved_back t (v ∷ ts) these u (inl e) = inr (moved_back t ts these u (inl e))
moved_back t (v ∷ ts) these u (inr (inl e)) = inl e
moved_back t (v ∷ ts) these u (inr (inr m)) = inr (moved_back t ts these u (inr m))

pub moved_front : (t : Term) (ts these : List Term) → AreAmong (ts ++ (t ∷ these)) (t ∷ (ts ++ these))
moved_front t [] these u m = m
moved_front t (v ∷ ts) these u (inl e) = inr (inl e)
moved_front t (v ∷ ts) these u (inr m) = elim (moved_front t ts these u m) [ inl e ↦ inl e | inr k ↦ inr (inr k) ]

-- the first of a list and the others
abbrev pub rest_of : List TermId → List TermId
rest_of xs = take (length xs - 1) (drop 1 xs)

not_positive : 0 < 0 → ⊥
not_positive h = omega (arith, h)

pub any_of_more : (t : Term) (ts : List Term) → 0 < length ts → any_of (t ∷ ts) ≡ if_term t true_term (any_of ts)
any_of_more t [] h = absurd (not_positive h)
any_of_more t (u ∷ ts) h = refl

module _ (history : List Entry) (w0 w1 w2 : Work) (stands : WorkStands history w0) where
  -- (IF t T r), from t and r
  pub gathered_one : (t r x : Term) (known line n : ℕ) → x ≡ true_term → LineHasOnly w0 known (true_term ∷ []) → JoinsIf w0 w1 t x r known line n → WorkGrows history w0 w1 → WorkGrows history w1 w2 → GathersTo w0 w2 (r ∷ t ∷ []) (if_term t true_term r) line n
  gathered_one t r x known line n e truth joins grows more these h =
      only_grown history w1 w2 n (if_term t true_term r ∷ these) grows.stands more
      (subst (λ v. LineHasOnly w1 n (if_term t v r ∷ these)) e
      (joins these
      (subst (λ v. LineHasOnly w0 known (v ∷ not_term t ∷ these)) (sym e) (only_more w0 known (true_term ∷ []) (true_term ∷ not_term t ∷ these) (beside true_term [] (not_term t ∷ these) (none_among (not_term t ∷ these))) truth)) h))

  -- the claim, from the first literal and the claim of the others
  pub gathered : (t : Term) (ts : List Term) (line rest n : ℕ) → GathersTo w0 w1 ts (any_of ts) line rest → GathersTo w1 w2 (any_of ts ∷ t ∷ []) (if_term t true_term (any_of ts)) rest n → GathersTo w0 w2 (t ∷ ts) (if_term t true_term (any_of ts)) line n
  gathered t ts line rest n first second these h =
      second these (first (t ∷ these) (only_more w0 line (t ∷ (ts ++ these)) (ts ++ (t ∷ these)) (moved_back t ts these) h))

  -- t and r, from (IF t T r)
  pub opened_one : (t r w : Term) (line equation n : ℕ) → w ≡ if_term t true_term r → WorkGrows history w0 w1 → LineHasOnly w1 equation (t ∷ equal_term (if_term t true_term r) r ∷ []) → RewritesTo w1 w2 Forwards w r line equation n → OpensTo w0 w2 (if_term t true_term r) (r ∷ t ∷ []) line n
  opened_one t r w line equation n e grows shown rewrites these h =
      let whole : Term = if_term t true_term r in
      let eq : Term = equal_term whole r in
      let turned : RewritesTo w1 w2 Forwards whole r line equation n = subst (λ v. RewritesTo w1 w2 Forwards v r line equation n) e rewrites in
      turned (t ∷ these)
      (only_more w1 line (whole ∷ these) (whole ∷ t ∷ these) (beside whole these (t ∷ these) (under t these these (λ v m. m))) (only_grown history w0 w1 line (whole ∷ these) stands grows h))
      (only_more w1 equation (t ∷ eq ∷ []) (eq ∷ t ∷ these) (and_among t (eq ∷ []) (eq ∷ t ∷ these) (inr (inl refl)) (and_among eq [] (eq ∷ t ∷ these) (inl refl) (none_among (eq ∷ t ∷ these)))) shown)

  -- the literals, from the claim
  pub opened : (t : Term) (ts : List Term) (line rest n : ℕ) → OpensTo w0 w1 (if_term t true_term (any_of ts)) (any_of ts ∷ t ∷ []) line rest → OpensTo w1 w2 (any_of ts) ts rest n → OpensTo w0 w2 (if_term t true_term (any_of ts)) (t ∷ ts) line n
  opened t ts line rest n first second these h =
      only_more w2 n (ts ++ (t ∷ these)) (t ∷ (ts ++ these)) (moved_front t ts these) (second (t ∷ these) (first these h))

-- the second branch of a claim
pub claim_rest : (t r u w : Term) → w ≡ if_term t true_term r → literal_at 3 (parts_of w) ≡ Some u → u ≡ r
unfolding number_of
claim_rest t r u w e k = by_parts (sym (ap (λ v. literal_at 3 (parts_of v)) e) ∙ k)
  where
    by_parts : Some r ≡ Some u → u ≡ r
    by_parts h = cc

-- the slice of a list's others, its first being there
pub others_same : (xs : List TermId) → rest_of xs ≡ drop 1 xs
others_same [] = refl
others_same (x ∷ xs) = take_all (length (x ∷ xs) - 1) xs (omega arith)

more_than_one : (n : ℕ) → 0 < n → (n ≡ 1 → ⊥) → 1 < n
more_than_one zero h k = absurd (not_positive h)
more_than_one (suc zero) h k = absurd (k refl)
more_than_one (suc (suc n)) h k = omega arith

pub others_left : (xs : List TermId) → 0 < length xs → (length xs ≡ 1 → ⊥) → 0 < length (rest_of xs)
others_left [] h k = absurd (not_positive h)
others_left (x ∷ []) h k = absurd (k refl)
others_left (x ∷ (y ∷ xs)) h k = subst (λ (l : List TermId). 0 < length l) (sym (others_same (x ∷ (y ∷ xs)))) (omega arith)

pub split_first : (xs : List TermId) (d : TermId) → 0 < length xs → xs ≡ get_or xs 0 d ∷ rest_of xs
split_first [] d h = absurd (not_positive h)
split_first (x ∷ xs) d h = ap (λ l. x ∷ l) (sym (others_same (x ∷ xs)))

pub others_all : (P : TermId → Type 0) (xs : List TermId) → All P xs → All P (rest_of xs)
others_all P [] h = h
others_all P (x ∷ xs) h = subst (All P) (sym (others_same (x ∷ xs))) (λ k d below. h (suc k) d (omega arith))

-- one literal is its own claim
pub one_claim : (bank : Content) (xs : List TermId) (d : TermId) → 0 < length xs → length xs ≡ 1 → any_of (terms_at bank xs) ≡ term_at bank (get_or xs 0 d)
one_claim bank [] d h k = absurd (not_positive h)
one_claim bank (x ∷ []) d h k = refl
one_claim bank (x ∷ (y ∷ xs)) d h k = absurd (omega (arith, k))

pub one_term : (bank : Content) (xs : List TermId) (d : TermId) → 0 < length xs → length xs ≡ 1 → terms_at bank xs ≡ term_at bank (get_or xs 0 d) ∷ []
one_term bank [] d h k = absurd (not_positive h)
one_term bank (x ∷ []) d h k = refl
one_term bank (x ∷ (y ∷ xs)) d h k = absurd (omega (arith, k))

terms_length : (bank : Content) (xs : List TermId) → 0 < length xs → 0 < length (terms_at bank xs)
terms_length bank [] h = h
terms_length bank (x ∷ xs) h = omega arith

-- more are the IF of the first and of the claim of the others
pub more_claim : (bank : Content) (xs : List TermId) (d : TermId) → 0 < length xs → (length xs ≡ 1 → ⊥) → any_of (terms_at bank xs) ≡ if_term (term_at bank (get_or xs 0 d)) true_term (any_of (terms_at bank (rest_of xs)))
more_claim bank xs d h k =
    ap (λ l. any_of (terms_at bank l)) (split_first xs d h) ∙
    any_of_more (term_at bank (get_or xs 0 d)) (terms_at bank (rest_of xs)) (terms_length bank (rest_of xs) (others_left xs h k))

pub more_terms : (bank : Content) (xs : List TermId) (d : TermId) → 0 < length xs → terms_at bank xs ≡ term_at bank (get_or xs 0 d) ∷ terms_at bank (rest_of xs)
more_terms bank xs d h = ap (terms_at bank) (split_first xs d h)

-- an IF whose parts are known
pub claim_made : (mid new : Work) (id a b d : TermId) (t u v : Term) → term_at mid.bank a ≡ t → term_at mid.bank b ≡ u → term_at mid.bank d ≡ v → IsIdOf new.bank id (if_term (term_at mid.bank a) (term_at mid.bank b) (term_at mid.bank d)) → IsIdOf new.bank id (if_term t u v)
claim_made mid new id a b d t u v e f g is =
    subst (λ x. IsIdOf new.bank id (if_term x u v)) e (
    subst (λ y. IsIdOf new.bank id (if_term (term_at mid.bank a) y v)) f (
    subst (λ z. IsIdOf new.bank id (if_term (term_at mid.bank a) (term_at mid.bank b) z)) g is))

pub has_rest : (w t r : Term) → w ≡ if_term t true_term r → IsSome (literal_at 3 (parts_of w))
unfolding number_of
has_rest w t r e = subst (λ v. IsSome (literal_at 3 (parts_of v))) (sym e) refl

-- the second branch of a claim is over the history where the claim is
pub rest_in : (history : List Entry) (work : Work) (w id : TermId) (t r : Term) → term_at work.bank w ≡ if_term t true_term r → IsTermIn history work w → Stands work.bank id → term_at work.bank id ≡ r → IsTermIn history work id
rest_in history work w id t r e h stands is =
    let over : IsTermOf IsVariable (symbols_of (events_at work.bank history)) (if_term t true_term r) = subst (IsTermOf IsVariable (symbols_of (events_at work.bank history))) e h.over in
    record { stands = stands; over = subst (IsTermOf IsVariable (symbols_of (events_at work.bank history))) (sym is) (record { over = over.over.1; variables = over.variables.1 }) }
