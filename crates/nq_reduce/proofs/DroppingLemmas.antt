-- Literals that are dropped.
use Rattle.std.proofs.Common.{◌≡◌, ◌<◌, ◌≤◌, ◌+◌, ◌∷◌, ◌++◌, [], ℕ, zero, suc, true, false, List, Option, Some, None, length, get_or, drop, refl, sym, ap, ◌∙◌, subst, inl, inr, arith}
use Rattle.std.specs.Prelude.{All, Result, IfOk, IfSome, codes}
use Rattle.nq_logic.specs.Terms.{Term, Each, IsAmong}
use Rattle.nq_logic.specs.Words.{equal_term, false_term, not_term}
use Rattle.nq_bank.specs.declared.node.TermId.{TermId}
use Rattle.nq_bank.specs.Content.{Content, term_at, terms_at}
use Rattle.nq_rule.proofs.Made.{for_ok}
use Rattle.nq_bank.proofs.NodesLemmas.{All-head, All-tail}
use Rattle.nq_history.specs.declared.entry.Entry.{Entry}
use Rattle.nq_history.specs.Events.{events_at}
use Rattle.nq_kernel.specs.declared.work.Work.{Work}
use Rattle.nq_kernel.specs.declared.work.Stop.{Stop}
use Rattle.nq_kernel.specs.Growing.{WorkStands, WorkGrows}
use Rattle.nq_lines.specs.Lines.{AreAmong, CutsTo, IsTermIn, LineHasOnly, MakesOf}
use Rattle.nq_lines.proofs.Among.{and_among, beside, on_left, on_right}
use Rattle.nq_lines.proofs.LineLemmas.{only_grown, only_more}
use Rattle.nq_lines.proofs.TermLemmas.{same_term_grown}
use Rattle.nq_reduce.specs.declared.knowledge.Known.{Known}
use Rattle.nq_lines.specs.OwnTerms.{IsOver}
use Rattle.nq_reduce.specs.Clauses.{AreLiterals, DropsTo, LineIsIn}
use Rattle.nq_lines.specs.declared.facts.Sides.{Sides}
use Rattle.nq_instances.specs.Parts.{AreSides}
use Rattle.nq_reduce.specs.Rewriting.{CanRewrite, IsKnown, denials}
use Rattle.nq_reduce.proofs.RewritingLemmas.{known_true, known_untrue, terms_same}

-- a literal that is false
pub dropped_false : (old new : Work) (assumed : List Term) (t : Term) (k : Known) (line n : ℕ) → k.value ≡ false → IsKnown old assumed t k → CutsTo old new t line k.line n → DropsTo old new (denials assumed) t line n
dropped_false old new assumed t k line n is known cuts these within h =
    cuts these h (only_more old k.line (not_term t ∷ denials assumed) (not_term t ∷ these) (beside (not_term t) (denials assumed) these within) (known_untrue old assumed t k is known))

-- the NOT of one that is true
pub dropped_denial : (old new : Work) (assumed : List Term) (t p : Term) (k : Known) (line n : ℕ) → t ≡ not_term p → k.value ≡ true → IsKnown old assumed p k → CutsTo old new p k.line line n → DropsTo old new (denials assumed) t line n
dropped_denial old new assumed t p k line n e is known cuts these within h =
    cuts these (only_more old k.line (p ∷ denials assumed) (p ∷ these) (beside p (denials assumed) these within) (known_true old assumed p k is known)) (subst (λ u. LineHasOnly old line (u ∷ these)) e h)

-- the equation of one that is true and F
pub dropped_equation : (history : List Entry) (old one new : Work) (assumed : List Term) (t : Term) (p : TermId) (k : Known) (line denied n : ℕ) → WorkStands history old → WorkGrows history old one → IsTermIn history old p → t ≡ equal_term (term_at old.bank p) false_term → k.value ≡ true → IsKnown old assumed (term_at old.bank p) k → MakesOf old one (equal_term (term_at old.bank p) false_term) (not_term (term_at old.bank p)) line denied → CutsTo one new (term_at one.bank p) k.line denied n → DropsTo old new (denials assumed) t line n
dropped_equation history old one new assumed t p k line denied n stands grows there e is known makes cuts these within h =
    let u : Term = term_at old.bank p in
    let same : u ≡ term_at one.bank p = sym (same_term_grown history old one p grows there) in
    cuts these (subst (λ v. LineHasOnly one k.line (v ∷ these)) same (only_grown history old one k.line (u ∷ these) stands grows (only_more old k.line (u ∷ denials assumed) (u ∷ these) (beside u (denials assumed) these within) (known_true old assumed u k is known))))
    (subst (λ v. LineHasOnly one denied (not_term v ∷ these)) same (makes these (subst (λ v. LineHasOnly old line (v ∷ these)) e h)))

-- one that is kept
pub dropped_kept : (work : Work) (kept t : Term) (assumed : List Term) (line : ℕ) → t ≡ kept → DropsTo work work (kept ∷ denials assumed) t line line
dropped_kept work kept t assumed line e these within h =
    only_more work line (t ∷ these) these (and_among t these these (within t (inl e)) (λ u m. m)) h

-- more may be given
pub dropped_more : (old new : Work) (kept : Term) (given : List Term) (t : Term) (line : ℕ) (r : Result (Option ℕ) Stop) → IfOk r (λ found. IfSome found (λ n. DropsTo old new given t line n)) → IfOk r (λ found. IfSome found (λ n. DropsTo old new (kept ∷ given) t line n))
dropped_more old new kept given t line r h = for_ok r (λ found. IfSome found (λ n. DropsTo old new given t line n)) (λ found. IfSome found (λ n. DropsTo old new (kept ∷ given) t line n)) (λ found k. by_found found k) h
  where
    by_found : (found : Option ℕ) → IfSome found (λ n. DropsTo old new given t line n) → IfSome found (λ n. DropsTo old new (kept ∷ given) t line n)
    by_found None k = tt
    by_found (Some n) k = λ these within m. k these (λ u a. within u (inr a)) m

-- what a later call drops
pub drops_before : (history : List Entry) (old one new : Work) (grows : WorkGrows history old one) (assumed : List TermId) (t : TermId) (line : ℕ) (r : Result (Option ℕ) Stop) → CanRewrite history old assumed t → IfOk r (λ found. IfSome found (λ n. DropsTo one new (denials (terms_at one.bank assumed)) (term_at one.bank t) line n)) → IfOk r (λ found. IfSome found (λ n. DropsTo old new (denials (terms_at old.bank assumed)) (term_at old.bank t) line n))
drops_before history old one new grows assumed t line r can h = for_ok r (λ found. IfSome found (λ n. DropsTo one new (denials (terms_at one.bank assumed)) (term_at one.bank t) line n)) (λ found. IfSome found (λ n. DropsTo old new (denials (terms_at old.bank assumed)) (term_at old.bank t) line n)) (λ found k. by_found found k) h
  where
    by_found : (found : Option ℕ) → IfSome found (λ n. DropsTo one new (denials (terms_at one.bank assumed)) (term_at one.bank t) line n) → IfSome found (λ n. DropsTo old new (denials (terms_at old.bank assumed)) (term_at old.bank t) line n)
    by_found None k = tt
    by_found (Some n) k = λ these within m.
        k these (subst (λ ts. AreAmong (denials ts) these) (sym (terms_same history old one grows assumed can.hypotheses)) within)
        (subst (λ u. LineHasOnly one line (u ∷ these)) (sym (same_term_grown history old one t grows can.term)) (only_grown history old one line (term_at old.bank t ∷ these) can.stands grows m))

pub says_false : (history : List Entry) (work : Work) (t : TermId) (sides : Sides) → AreSides history work (codes "EQUAL") t sides → term_at work.bank sides.right ≡ false_term → term_at work.bank t ≡ equal_term (term_at work.bank sides.left) false_term
says_false history work t sides are is = are.whole ∙ ap (equal_term (term_at work.bank sides.left)) is

-- ---- literals that are left

drop_terms : (bank : Content) (ids : List TermId) (i : ℕ) (d : TermId) → i < length ids → terms_at bank (drop i ids) ≡ term_at bank (get_or ids i d) ∷ terms_at bank (drop (suc i) ids)
drop_terms bank [] i d below = absurd (omega arith)
drop_terms bank (x ∷ ids) zero d below = refl
drop_terms bank (x ∷ ids) (suc i) d below = drop_terms bank ids i d (omega arith)

drop_none : (ids : List TermId) (i : ℕ) → length ids ≤ i → drop i ids ≡ []
drop_none [] zero h = refl
drop_none [] (suc i) h = refl
drop_none (x ∷ ids) zero h = absurd (omega arith)
drop_none (x ∷ ids) (suc i) h = drop_none ids i (omega arith)

drop_all : (P : TermId → Type 0) (ids : List TermId) (i : ℕ) → All P ids → All P (drop i ids)
drop_all P [] zero h = h
drop_all P [] (suc i) h = h
drop_all P (x ∷ ids) zero h = h
drop_all P (x ∷ ids) (suc i) h = drop_all P ids i (λ j d below. h (suc j) d (omega arith))

-- all of them
pub first_rest : (history : List Entry) (work : Work) (assumed : List Term) (kept : TermId) (ids : List TermId) (line : ℕ) → AreLiterals history work line ids → LineHasOnly work line (terms_at work.bank (drop 0 ids) ++ (term_at work.bank kept ∷ denials assumed))
first_rest history work assumed kept ids line h =
    let rest : List Term = term_at work.bank kept ∷ denials assumed in
    record { literals = terms_at work.bank ids; stands = h.holds; only = on_left (terms_at work.bank ids) rest }

-- one less
pub rest_line : (history : List Entry) (old new : Work) (grows : WorkGrows history old new) (assumed : List TermId) (kept : TermId) (ids : List TermId) (i : ℕ) (d : TermId) (line n : ℕ) → CanRewrite history old assumed kept → All (IsTermIn history old) ids → i < length ids → LineHasOnly old line (terms_at old.bank (drop i ids) ++ (term_at old.bank kept ∷ denials (terms_at old.bank assumed))) →
    DropsTo old new (term_at old.bank kept ∷ denials (terms_at old.bank assumed)) (term_at old.bank (get_or ids i d)) line n → LineHasOnly new n (terms_at new.bank (drop (i + 1) ids) ++ (term_at new.bank kept ∷ denials (terms_at new.bank assumed)))
rest_line history old new grows assumed kept ids i d line n can there below h drops =
    let rest : List Term = term_at old.bank kept ∷ denials (terms_at old.bank assumed) in
    let left : List Term = terms_at old.bank (drop (suc i) ids) in
    let one : LineHasOnly new n (left ++ rest) = drops (left ++ rest) (on_right left rest) (subst (λ ts. LineHasOnly old line (ts ++ rest)) (drop_terms old.bank ids i d below) h) in
    let next : suc i ≡ i + 1 = omega arith in
    subst (λ k. LineHasOnly new n (terms_at new.bank (drop k ids) ++ (term_at new.bank kept ∷ denials (terms_at new.bank assumed)))) next (
    subst (λ ts. LineHasOnly new n (ts ++ (term_at new.bank kept ∷ denials (terms_at new.bank assumed)))) (sym (terms_same history old new grows (drop (suc i) ids) (drop_all (IsTermIn history old) ids (suc i) there))) (
    subst (λ u. LineHasOnly new n (left ++ (u ∷ denials (terms_at new.bank assumed)))) (sym (same_term_grown history old new kept grows can.term)) (
    subst (λ ts. LineHasOnly new n (left ++ (term_at old.bank kept ∷ denials ts))) (sym (terms_same history old new grows assumed can.hypotheses)) one)))

-- none
pub last_rest : (history : List Entry) (work : Work) (assumed : List Term) (kept : TermId) (ids : List TermId) (i line : ℕ) → length ids ≤ i → LineHasOnly work line (terms_at work.bank (drop i ids) ++ (term_at work.bank kept ∷ denials assumed)) → LineHasOnly work line (term_at work.bank kept ∷ denials assumed)
last_rest history work assumed kept ids i line all h = subst (λ xs. LineHasOnly work line (terms_at work.bank xs ++ (term_at work.bank kept ∷ denials assumed))) (drop_none ids i all) h

pub rest_told : (history : List Entry) (old one new : Work) (grows : WorkGrows history old one) (assumed : List TermId) (kept : TermId) (r : Result (Option ℕ) Stop) → CanRewrite history old assumed kept → IfOk r (λ found. IfSome found (λ n. LineHasOnly new n (term_at one.bank kept ∷ denials (terms_at one.bank assumed)))) → IfOk r (λ found. IfSome found (λ n. LineHasOnly new n (term_at old.bank kept ∷ denials (terms_at old.bank assumed))))
rest_told history old one new grows assumed kept r can h =
    subst (λ ts. IfOk r (λ found. IfSome found (λ n. LineHasOnly new n (term_at old.bank kept ∷ denials ts)))) (terms_same history old one grows assumed can.hypotheses) (
    subst (λ u. IfOk r (λ found. IfSome found (λ n. LineHasOnly new n (u ∷ denials (terms_at one.bank assumed))))) (same_term_grown history old one kept grows can.term) h)

-- ---- lines that have only some literals

each_of : (P : Term → Type 0) (xs : List Term) → ((t : Term) → IsAmong t xs → P t) → Each P xs
each_of P [] h = tt
each_of P (x ∷ xs) h = (h x (inl refl), each_of P xs (λ t m. h t (inr m)))

among_over : (history : List Entry) (work : Work) (ids : List TermId) → All (IsTermIn history work) ids → (t : Term) → IsAmong t (terms_at work.bank ids) → IsOver (events_at work.bank history) t
among_over history work [] all t m = absurd m
among_over history work (u ∷ us) all t (inl e) = subst (IsOver (events_at work.bank history)) (sym e) (All-head (IsTermIn history work) u us all).over
among_over history work (u ∷ us) all t (inr m) = among_over history work us (All-tail (IsTermIn history work) u us all) t m

-- the literals of a line that has only some terms are over the history where these are
pub only_in : (history : List Entry) (work : Work) (line : ℕ) (ids : List TermId) → All (IsTermIn history work) ids → LineHasOnly work line (terms_at work.bank ids) → LineIsIn history work line
only_in history work line ids all h = record { literals = h.literals; holds = h.stands; over = each_of (IsOver (events_at work.bank history)) h.literals (λ t m. among_over history work ids all t (h.only t m)) }
