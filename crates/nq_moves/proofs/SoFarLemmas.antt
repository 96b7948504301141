-- Calls whose arguments are exchanged one after the other.
use Rattle.std.proofs.Common.{◌≡◌, ◌<◌, ◌≤◌, ◌+◌, ℕ, zero, suc, true, false, Some, None, List, [], ◌∷◌, ◌++◌, length, map, take, drop, get_or, refl, sym, ap, ◌∙◌, subst, arith}
use Rattle.std.proofs.lemmas.List.{take_more, drop_more, take_all, at_drop_all, map_push, append-nil}
use Rattle.nq_logic.specs.Terms.{Name, Term, Function, Applied, applied, call}
use Rattle.nq_logic.specs.Numerals.{number_of}
use Rattle.nq_logic.specs.Words.{equal_term}
use Rattle.nq_bank.specs.declared.node.TermId.{TermId}
use Rattle.std.specs.Prelude.{All, slice_get}
use Rattle.std.specs.Option.{option_map}
use Rattle.std.proofs.lemmas.Option.{slice_get-map, slice_get-get_or, get_or_from_slice_get, slice_get_within}
use Rattle.nq_logic.specs.Ground.{symbols_of}
use Rattle.nq_history.specs.Events.{events_at}
use Rattle.nq_lines.proofs.ArgumentLemmas.{argument_over}
use Rattle.nq_bank.specs.Content.{Stands, term_at, terms_at}
use Rattle.nq_bank.proofs.Growth.{Stands-grown, term_at-grown}
use Rattle.nq_proof.specs.Clauses.{same_term, literal_at}
use Rattle.nq_bank.specs.Parts.{parts_of}
use Rattle.nq_bank.proofs.CallLemmas.{parts_of-other}
use Rattle.nq_rule.specs.Results.{with_argument}
use Rattle.nq_history.specs.declared.entry.Entry.{Entry}
use Rattle.nq_kernel.specs.declared.work.Work.{Work}
use Rattle.nq_kernel.specs.Growing.{WorkStands, WorkGrows}
use Rattle.nq_kernel.proofs.GrowingLemmas.{WorkGrows-trans}
use Rattle.nq_lines.specs.declared.calls.Equated.{Equated}
use Rattle.nq_lines.specs.Lines.{LineHasOnly, IsTermIn}
use Rattle.nq_lines.proofs.LineLemmas.{only_grown}
use Rattle.nq_lines.proofs.TermLemmas.{term_grown, same_term_grown}
use Rattle.nq_moves.specs.Laws.{IsNextArgument}
use Rattle.nq_moves.specs.Carrying.{IsCall, CarriesOn}
use Rattle.nq_goals.specs.Replacing.{Exchange, exchanged, exchanged_within}
use Rattle.nq_moves.specs.declared.equal.Swap.{Swap}
use Rattle.nq_moves.specs.Equal.{swap_at, SwapStands, IsEqual}
use Rattle.nq_moves.proofs.EqualLemmas.{same_swap}
use Rattle.nq_moves.proofs.CarriedLemmas.{next_argument, no_numeral}

exchanged-applied : (es : Exchange) (t : Term) (us : List Term) → exchanged_within es (applied t us) ≡ applied (exchanged_within es t) (map (exchanged es) us)
exchanged-applied es t [] = refl
exchanged-applied es t (u ∷ us) = exchanged-applied es (Applied t u) us

-- within a call its arguments are exchanged
pub exchanged-call : (es : Exchange) (f : Name) (ts : List Term) → exchanged_within es (call f ts) ≡ call f (map (exchanged es) ts)
exchanged-call es f ts = exchanged-applied es (Function f) ts

-- the call with its first arguments exchanged
abbrev pub first_exchanged : Exchange → Name → ℕ → List Term → Term
first_exchanged es f i ts = call f (map (exchanged es) (take i ts) ++ drop i ts)

-- it is no numeral while an argument is left
first_no_numeral : (es : Exchange) (f : Name) (i : ℕ) (ts : List Term) → i < length ts → number_of (call f ts) ≡ None → number_of (first_exchanged es f i ts) ≡ None
first_no_numeral es f i [] below none = absurd (omega (arith, below))
first_no_numeral es f zero (t ∷ []) below none = none
first_no_numeral es f (suc i) (t ∷ []) below none = absurd (omega (arith, below))
first_no_numeral es f zero (t ∷ (u ∷ ts)) below none = none
first_no_numeral es f (suc zero) (t ∷ (u ∷ ts)) below none = no_numeral f (exchanged es t ∷ (u ∷ ts)) (omega arith)
first_no_numeral es f (suc (suc i)) (t ∷ (u ∷ ts)) below none = no_numeral f (exchanged es t ∷ (exchanged es u ∷ (map (exchanged es) (take i ts) ++ drop i ts))) (omega arith)

length-first : (X : Term → Term) (i : ℕ) (ts : List Term) → i < length ts → length (map X (take i ts)) ≡ i
length-first X zero ts below = refl
length-first X (suc i) [] below = absurd (omega (arith, below))
length-first X (suc i) (t ∷ ts) below = ap suc (length-first X i ts (omega (arith, below)))

append-seam : (xs : List Term) (v : Term) (rest : List Term) → xs ++ v ∷ rest ≡ (xs ++ v ∷ []) ++ rest
append-seam [] v rest = refl
append-seam (x ∷ xs) v rest = ap (λ ys. x ∷ ys) (append-seam xs v rest)

-- the next argument, and the call with it exchanged
pub record IsNextExchanged (es : Exchange) (f : Name) (i : ℕ) (ts : List Term) (p : Term) : Type 0 where
  pub at : literal_at (i + 1) (parts_of (first_exchanged es f i ts)) ≡ Some p
  pub made : with_argument (i + 1) (exchanged es p) (first_exchanged es f i ts) ≡ first_exchanged es f (i + 1) ts

pub next_exchanged : (es : Exchange) (f : Name) (i : ℕ) (ts : List Term) (p d : Term) → i < length ts → number_of (call f ts) ≡ None → get_or ts i d ≡ p → IsNextExchanged es f i ts p
next_exchanged es f i ts p d below none is =
    let X : Term → Term = exchanged es in
    let done : List Term = map X (take i ts) in
    let rest : List Term = drop (i + 1) ts in
    let left : drop i ts ≡ p ∷ rest = drop_more ts i d below ∙ ap (λ u. u ∷ rest) is in
    let whole : first_exchanged es f i ts ≡ call f (done ++ p ∷ rest) = ap (λ xs. call f (done ++ xs)) left in
    let next : IsNextArgument f done rest p (X p) (first_exchanged es f i ts) = next_argument f done rest p (X p) (first_exchanged es f i ts) whole (first_no_numeral es f i ts below none) in
    let place : suc (length done) ≡ i + 1 = ap suc (length-first X i ts below) ∙ omega arith in
    let more : done ++ X p ∷ [] ≡ map X (take (i + 1) ts) = sym (map_push X (take i ts) p) ∙ ap (λ u. map X (take i ts ++ u ∷ [])) (sym is) ∙ ap (map X) (sym (take_more ts i d below)) in
    record {
      at = subst (λ k. literal_at k (parts_of (first_exchanged es f i ts)) ≡ Some p) place next.at;
      made =
          subst (λ k. with_argument k (X p) (first_exchanged es f i ts) ≡ call f (done ++ X p ∷ rest)) place next.made ∙
          ap (call f) (append-seam done (X p) rest ∙ ap (λ xs. xs ++ rest) more);
    }

-- The call with its first i arguments exchanged, and the line that says that s equals it.
pub record SoFar (history : List Entry) (old work : Work) (w : Swap) (s : TermId) (f : Name) (ts : List Term) (i : ℕ) (e : Equated) : Type 0 where
  pub grows : WorkGrows history old work
  pub over : IsTermIn history work e.term
  pub is : term_at work.bank e.term ≡ first_exchanged (swap_at old.bank w) f i ts
  pub says : LineHasOnly work e.line (equal_term (term_at old.bank s) (term_at work.bank e.term) ∷ term_at old.bank w.hypothesis ∷ [])

-- at the start it is s itself
pub so_far_first : (history : List Entry) (old work : Work) (w : Swap) (s : TermId) (f : Name) (ts : List Term) (e : Equated) → WorkStands history old → WorkGrows history old work → IsTermIn history old s → term_at old.bank s ≡ call f ts → e.term ≡ s → LineHasOnly work e.line (equal_term (term_at old.bank s) (term_at old.bank s) ∷ term_at old.bank w.hypothesis ∷ []) → SoFar history old work w s f ts 0 e
so_far_first history old work w s f ts e stood grows over is same says =
    let now : term_at work.bank e.term ≡ term_at old.bank s = ap (term_at work.bank) same ∙ same_term_grown history old work s grows over in
    record {
      grows = grows;
      over = subst (IsTermIn history work) (sym same) (term_grown history old work s stood grows over);
      is = now ∙ is;
      says = subst (λ t. LineHasOnly work e.line (equal_term (term_at old.bank s) t ∷ term_at old.bank w.hypothesis ∷ [])) (sym now) says;
    }

pub so_far_grown : (history : List Entry) (old work new : Work) (w : Swap) (s : TermId) (f : Name) (ts : List Term) (i : ℕ) (e : Equated) → WorkGrows history work new → SoFar history old work w s f ts i e → SoFar history old new w s f ts i e
so_far_grown history old work new w s f ts i e grows h =
    let same = same_term_grown history work new e.term grows h.over in
    record {
      grows = WorkGrows-trans history old work new h.grows grows;
      over = term_grown history work new e.term h.grows.stands grows h.over;
      is = same ∙ h.is;
      says = subst (λ t. LineHasOnly new e.line (equal_term (term_at old.bank s) t ∷ term_at old.bank w.hypothesis ∷ [])) (sym same) (only_grown history work new e.line _ h.grows.stands grows h.says);
    }

-- what the next step knows of the call so far, of its next argument a and of what a equals
module _ (history : List Entry) (old mid : Work) (w : Swap) (s a : TermId) (f : Name) (ts : List Term) (i : ℕ) (e part : Equated) (d : Term) (stood : WorkStands history old) (swap : SwapStands history old w) (over : IsTermIn history old s) (stands : Stands old.bank a) (below : i < length ts) (none : number_of (call f ts) ≡ None) (here : get_or ts i d ≡ term_at old.bank a) (h : SoFar history old mid w s f ts i e) where
  next_here : IsNextExchanged (swap_at old.bank w) f i ts (term_at old.bank a)
  next_here = next_exchanged (swap_at old.bank w) f i ts (term_at old.bank a) d below none here

  same_argument : term_at mid.bank a ≡ term_at old.bank a
  same_argument = term_at-grown old.bank mid.bank a h.grows.bank stands

  pub argument_at_place : literal_at (i + 1) (parts_of (term_at mid.bank e.term)) ≡ Some (term_at mid.bank a)
  argument_at_place = ap (λ t. literal_at (i + 1) (parts_of t)) h.is ∙ next_here.at ∙ ap Some (sym same_argument)

  pub call_so_far : IsCall (term_at mid.bank e.term)
  call_so_far =
      let xs : List Term = map (exchanged (swap_at old.bank w)) (take i ts) ++ drop i ts in
      let parts : parts_of (term_at mid.bank e.term) ≡ xs = ap parts_of h.is ∙ parts_of-other f xs (first_no_numeral (swap_at old.bank w) f i ts below none) in
      record { function = f; is = h.is ∙ ap (call f) (sym parts) }

  -- the step
  pub so_far_next : (new : Work) (r : Equated) → WorkGrows history mid new → IsEqual history mid w a part → term_at new.bank r.term ≡ with_argument (i + 1) (term_at mid.bank part.term) (term_at mid.bank e.term) → IsTermIn history new r.term → CarriesOn mid new (i + 1) s e part r.line → SoFar history old new w s f ts (i + 1) r
  so_far_next new r grows equal made_of made_over carries =
      let part_is : term_at mid.bank part.term ≡ exchanged (swap_at old.bank w) (term_at old.bank a) =
      equal.is ∙ ap (λ es. exchanged es (term_at mid.bank a)) (same_swap history old mid stood h.grows w swap) ∙ ap (exchanged (swap_at old.bank w)) same_argument in
      let whole_s : term_at mid.bank s ≡ term_at old.bank s = same_term_grown history old mid s h.grows over in
      let hypothesis : term_at mid.bank w.hypothesis ≡ term_at old.bank w.hypothesis = term_at-grown old.bank mid.bank w.hypothesis h.grows.bank swap.hypothesis in
      let these : List Term = term_at old.bank w.hypothesis ∷ [] in
      let first : LineHasOnly mid e.line (equal_term (term_at mid.bank s) (term_at mid.bank e.term) ∷ these) =
      subst (λ t. LineHasOnly mid e.line (equal_term t (term_at mid.bank e.term) ∷ these)) (sym whole_s) h.says in
      let second : LineHasOnly mid part.line (equal_term (term_at mid.bank a) (term_at mid.bank part.term) ∷ these) =
      subst (λ t. LineHasOnly mid part.line (equal_term (term_at mid.bank a) (term_at mid.bank part.term) ∷ t ∷ [])) hypothesis equal.says in
      let line = carries (term_at mid.bank a) these argument_at_place first second in
      record {
        grows = WorkGrows-trans history old mid new h.grows grows;
        over = made_over;
        is = made_of ∙ ap (λ v. with_argument (i + 1) v (term_at mid.bank e.term)) part_is ∙ ap (with_argument (i + 1) (exchanged (swap_at old.bank w) (term_at old.bank a))) h.is ∙ next_here.made;
        says =
            subst (λ t. LineHasOnly new r.line (equal_term (term_at old.bank s) t ∷ these)) (sym made_of)
            (subst (λ t. LineHasOnly new r.line (equal_term t (with_argument (i + 1) (term_at mid.bank part.term) (term_at mid.bank e.term)) ∷ these)) whole_s line);
      }

-- a call that is not the term that is replaced is exchanged when its arguments are
pub so_far_last : (history : List Entry) (old work : Work) (w : Swap) (s : TermId) (f : Name) (ts : List Term) (i : ℕ) (e : Equated) → WorkStands history old → SwapStands history old w → IsTermIn history old s → term_at old.bank s ≡ call f ts → length ts ≤ i → same_term (term_at old.bank w.from) (term_at old.bank s) ≡ false → SoFar history old work w s f ts i e → IsEqual history work w s e
so_far_last history old work w s f ts i e stood swap over is all differs h =
    let es : Exchange = swap_at old.bank w in
    let whole : term_at work.bank s ≡ term_at old.bank s = same_term_grown history old work s h.grows over in
    let hypothesis : term_at work.bank w.hypothesis ≡ term_at old.bank w.hypothesis = term_at-grown old.bank work.bank w.hypothesis h.grows.bank swap.hypothesis in
    let ended : first_exchanged es f i ts ≡ call f (map (exchanged es) ts) =
    at_drop_all (λ xs. call f (map (exchanged es) (take i ts) ++ xs)) ts i all ∙ ap (λ xs. call f (xs ++ [])) (ap (map (exchanged es)) (take_all i ts all)) ∙ ap (call f) (append-nil (map (exchanged es) ts)) in
    let within : exchanged es (term_at old.bank s) ≡ exchanged_within es (term_at old.bank s) =
    ap (λ b. elim b as (λ b. Term) [ true ↦ term_at old.bank w.into | false ↦ exchanged_within es (term_at old.bank s) ]) differs in
    record {
      stands = Stands-grown old.bank work.bank s h.grows.bank over.stands;
      over = h.over;
      is =
          h.is ∙ ended ∙ sym (exchanged-call es f ts) ∙ ap (exchanged_within es) (sym is) ∙ sym within ∙ ap (exchanged es) (sym whole) ∙
          ap (λ p. exchanged p (term_at work.bank s)) (sym (same_swap history old work stood h.grows w swap));
      says =
          subst (λ t. LineHasOnly work e.line (equal_term t (term_at work.bank e.term) ∷ term_at work.bank w.hypothesis ∷ [])) (sym whole)
          (subst (λ t. LineHasOnly work e.line (equal_term (term_at old.bank s) (term_at work.bank e.term) ∷ t ∷ [])) (sym hypothesis) h.says);
    }

-- an argument of a term
pub record IsArgument (history : List Entry) (work : Work) (s a : TermId) (i : ℕ) : Type 0 where
  pub over : IsTermIn history work a
  pub earlier : a.0 < s.0
  pub at : slice_get (parts_of (term_at work.bank s)) i ≡ Some (term_at work.bank a)

pub argument_in : (history : List Entry) (work : Work) (s a : TermId) (told ids : List TermId) (i : ℕ) → IsTermIn history work s → terms_at work.bank told ≡ parts_of (term_at work.bank s) → All (λ a. a.0 < s.0) told → ids ≡ told → i < length ids → a ≡ get_or ids i a → IsArgument history work s a i
argument_in history work s a told ids i h tells earlier copied below got =
    let found : slice_get ids i ≡ Some a = slice_get-get_or ids i a below ∙ ap Some (sym got) in
    let found' : slice_get told i ≡ Some a = ap (λ xs. slice_get xs i) (sym copied) ∙ found in
    let less : a.0 < s.0 = subst (λ x. x.0 < s.0) (get_or_from_slice_get told i a a found') (earlier i a (slice_get_within told i a found')) in
    let at : slice_get (parts_of (term_at work.bank s)) i ≡ Some (term_at work.bank a) = ap (λ ts. slice_get ts i) (sym tells) ∙ slice_get-map (term_at work.bank) told i ∙ ap (option_map (term_at work.bank)) found' in
    record {
      over = record { stands = omega (arith, less, h.stands); over = argument_over (symbols_of (events_at work.bank history)) (term_at work.bank s) (suc i) (term_at work.bank a) h.over at };
      earlier = less;
      at = at;
    }

-- where it is among the arguments
pub argument_below : (ts : List Term) (i : ℕ) (t : Term) → slice_get ts i ≡ Some t → i < length ts
argument_below ts i t found = slice_get_within ts i t found

pub argument_got : (ts : List Term) (i : ℕ) (t : Term) → slice_get ts i ≡ Some t → get_or ts i t ≡ t
argument_got ts i t found = get_or_from_slice_get ts i t t found

length-terms : (g : TermId → Term) (ids : List TermId) → length (map g ids) ≡ length ids
length-terms g [] = refl
length-terms g (x ∷ ids) = ap suc (length-terms g ids)

-- all arguments were looked at
pub all_looked_at : (work : Work) (s : TermId) (told ids : List TermId) (i : ℕ) → terms_at work.bank told ≡ parts_of (term_at work.bank s) → ids ≡ told → length ids ≤ i → length (parts_of (term_at work.bank s)) ≤ i
all_looked_at work s told ids i tells copied all =
    let count : length (parts_of (term_at work.bank s)) ≡ length ids = ap length (sym tells) ∙ length-terms (term_at work.bank) told ∙ ap length (sym copied) in
    omega (arith, count, all)
