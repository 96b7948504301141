-- Lines from which denials are cut away, as the work grows.
use Rattle.std.proofs.Common.{◌≡◌, ◌∙◌, ◌<◌, ◌≤◌, ◌+◌, ℕ, suc, Option, Some, None, List, [], ◌∷◌, length, get_or, drop, map, drop-cons, add-one, sym, ap, subst, inl, inr}
use Rattle.std.proofs.lemmas.List.{drop_all}
use Rattle.nq_logic.specs.Terms.{Term}
use Rattle.nq_logic.specs.Words.{not_term}
use Rattle.nq_logic.specs.Histories.{History}
use Rattle.nq_bank.specs.declared.node.TermId.{TermId}
use Rattle.nq_bank.specs.Content.{Content, term_at}
use Rattle.nq_history.specs.declared.entry.Entry.{Entry}
use Rattle.nq_history.specs.declared.hints.Instance.{Instance}
use Rattle.nq_events.specs.HintRefusals.{instance_term}
use Rattle.nq_event.specs.EventsAt.{instance_at}
use Rattle.nq_goals.specs.Hints.{denied_before, denied_instances}
use Rattle.nq_kernel.specs.declared.work.Work.{Work}
use Rattle.nq_kernel.specs.Growing.{WorkStands, WorkGrows}
use Rattle.nq_lines.specs.Lines.{AreAmong, CutsTo, IsTermIn, LineHasOnly}
use Rattle.nq_lines.proofs.LineLemmas.{only_grown, only_more}
use Rattle.nq_lines.proofs.TermLemmas.{same_term_grown}
use Rattle.nq_hinted.specs.Cited.{CutsAway}

first_among : (u : Term) (these : List Term) → AreAmong (u ∷ []) (u ∷ these)
first_among u these v (inl e) = inl e
first_among u these v (inr m) = absurd m

module _ (history : List Entry) (w0 w1 w2 : Work) (stands : WorkStands history w0) (grows : WorkGrows history w0 w1) where
  -- a denial is cut by the line of what it denies
  pub cut_shown : (t : TermId) (shown line n : ℕ) → IsTermIn history w0 t → LineHasOnly w1 shown (term_at w0.bank t ∷ []) → CutsTo w1 w2 (term_at w1.bank t) shown line n → CutsAway w0 w2 (Some (term_at w0.bank t)) line n
  cut_shown t shown line n inside holds cuts these h =
      let u : Term = term_at w0.bank t in
      let same : term_at w1.bank t ≡ u = same_term_grown history w0 w1 t grows inside in
      let k : CutsTo w1 w2 u shown line n = subst (λ (v : Term). CutsTo w1 w2 v shown line n) same cuts in
      k these (only_more w1 shown (u ∷ []) (u ∷ these) (first_among u these) holds) (only_grown history w0 w1 line (not_term u ∷ these) stands grows h)

  pub cut_later : (before now : Option Term) (line n : ℕ) → now ≡ before → CutsAway w1 w2 now line n → CutsAway w0 w2 before line n
  cut_later before now line n is cuts these h = cuts these (only_grown history w0 w1 line (denied_before now these) stands grows (subst (λ (o : Option Term). LineHasOnly w0 line (denied_before o these)) (sym is) h))

  pub not_cut : (o : Option Term) (line : ℕ) → None ≡ o → CutsAway w0 w1 o line line
  not_cut o line is these h = only_grown history w0 w1 line these stands grows (subst (λ (o : Option Term). LineHasOnly w0 line (denied_before o these)) (sym is) h)

-- the instances from a place on: the first of them, and the others
pub denied_next : (h : History) (bank : Content) (xs : List Instance) (i : ℕ) (x : Instance) (these : List Term) → i < length xs → x ≡ get_or xs i x →
    denied_instances h (map (instance_at bank) (drop i xs)) these ≡ denied_before (instance_term h (instance_at bank x)) (denied_instances h (map (instance_at bank) (drop (i + 1) xs)) these)
denied_next h bank xs i x these lt is =
    ap (λ (ys : List Instance). denied_instances h (map (instance_at bank) ys) these) (drop-cons xs i x lt)
    ∙ ap (λ (y : Instance). denied_instances h (map (instance_at bank) (y ∷ drop (suc i) xs)) these) (sym is)
    ∙ ap (λ (n : ℕ). denied_instances h (map (instance_at bank) (x ∷ drop n xs)) these) (sym (add-one i))

pub denied_all : (h : History) (bank : Content) (xs : List Instance) (i : ℕ) (these : List Term) → length xs ≤ i → denied_instances h (map (instance_at bank) (drop i xs)) these ≡ these
denied_all h bank xs i these past = ap (λ (ys : List Instance). denied_instances h (map (instance_at bank) ys) these) (drop_all i xs past)
