-- Cases, however the work grows, and the goals that they give.
use Rattle.std.proofs.Common.{◌≡◌, ◌<◌, ◌+◌, ℕ, zero, suc, Bool, true, false, List, [], ◌∷◌, ◌++◌, length, map, get_or, refl, sym, ap, ap₂, ◌∙◌, subst, inl, inr, arith}
use Rattle.std.specs.Prelude.{All}
use Rattle.nq_logic.specs.Terms.{Term, IsAmong}
use Rattle.nq_logic.specs.Words.{not_term}
use Rattle.nq_bank.specs.declared.node.TermId.{TermId}
use Rattle.nq_bank.specs.Content.{Content, term_at, terms_at}
use Rattle.nq_bank.proofs.NodesLemmas.{All-head, All-tail}
use Rattle.nq_proof.specs.Clauses.{Clause}
use Rattle.nq_history.specs.declared.entry.Entry.{Entry}
use Rattle.nq_kernel.specs.declared.work.Work.{Work}
use Rattle.nq_kernel.specs.Growing.{WorkStands, WorkGrows}
use Rattle.nq_lines.specs.Lines.{IsTermIn, LineHasOnly, CutsTo}
use Rattle.nq_lines.proofs.TermLemmas.{term_grown, same_term_grown}
use Rattle.nq_elim.specs.declared.cases.Case.{Case}
use Rattle.nq_elim.specs.Cases.{AreOpposed, CaseStands, CaseCloses, literals_at, next_ids, case_goals}
use Rattle.nq_elim.proofs.ListLemmas.{all_none, all_cons}

-- a case stands however the work grows
module _ (history : List Entry) (old new : Work) (stands : WorkStands history old) (grows : WorkGrows history old new) where
  pub case_grown : (c : Case) → CaseStands history old c → CaseStands history new c
  case_grown c h =
      record {
        literal = term_grown history old new c.literal stands grows h.literal;
        other = term_grown history old new c.other stands grows h.other;
        opposed =
            subst (λ t. AreOpposed c.denied t (term_at new.bank c.other)) (sym (same_term_grown history old new c.literal grows h.literal))
            (subst (AreOpposed c.denied (term_at old.bank c.literal)) (sym (same_term_grown history old new c.other grows h.other)) h.opposed);
      }

  pub cases_grown : (cases : List Case) → All (CaseStands history old) cases → All (CaseStands history new) cases
  cases_grown cases h = λ i d below. case_grown (get_or cases i d) (h i d below)

-- and its terms are the same
module _ (history : List Entry) (old new : Work) (stands : WorkStands history old) (grows : WorkGrows history old new) where
  pub literals_same : (cases : List Case) → All (CaseStands history old) cases → literals_at new.bank cases ≡ literals_at old.bank cases
  literals_same [] h = refl
  literals_same (c ∷ cases) h =
      ap₂ (λ (t : Term) (ts : Clause). t ∷ ts) (same_term_grown history old new c.literal grows (All-head (CaseStands history old) c cases h).literal) (literals_same cases (All-tail (CaseStands history old) c cases h))

  pub case_goals_same : (cases : List Case) (goal : Clause) → All (CaseStands history old) cases → case_goals new.bank cases goal ≡ case_goals old.bank cases goal
  case_goals_same [] goal h = refl
  case_goals_same (c ∷ cases) goal h =
      ap₂ (λ (t : Term) (gs : List Clause). (t ∷ goal) ∷ gs) (same_term_grown history old new c.other grows (All-head (CaseStands history old) c cases h).other) (case_goals_same cases goal (All-tail (CaseStands history old) c cases h))

-- the literals of cases are over the history
pub literals_in : (history : List Entry) (work : Work) (cases : List Case) → All (CaseStands history work) cases → All (IsTermIn history work) (map (λ c. c.literal) cases)
literals_in history work [] h = all_none (IsTermIn history work)
literals_in history work (c ∷ cases) h =
    all_cons (IsTermIn history work) c.literal (map (λ c. c.literal) cases) (All-head (CaseStands history work) c cases h).literal (literals_in history work cases (All-tail (CaseStands history work) c cases h))

-- the literals of the cases and of the goal
pub rest_at : (bank : Content) (cases : List Case) (goal : List TermId) → terms_at bank (map (λ c. c.literal) cases ++ goal) ≡ literals_at bank cases ++ terms_at bank goal
rest_at bank [] goal = refl
rest_at bank (c ∷ cases) goal = ap (λ ts. term_at bank c.literal ∷ ts) (rest_at bank cases goal)

-- the goals of cases are over the history
pub next_ids_in : (history : List Entry) (work : Work) (cases : List Case) (goal : List TermId) → All (CaseStands history work) cases → All (IsTermIn history work) goal → All (All (IsTermIn history work)) (next_ids cases goal)
next_ids_in history work [] goal h k = all_none (All (IsTermIn history work))
next_ids_in history work (c ∷ cases) goal h k =
    all_cons (All (IsTermIn history work)) (c.other ∷ goal) (next_ids cases goal) (all_cons (IsTermIn history work) c.other goal (All-head (CaseStands history work) c cases h).other k)
    (next_ids_in history work cases goal (All-tail (CaseStands history work) c cases h) k)

-- one case more
pub literals_more : (cases : List Case) (c : Case) → map (λ c. c.literal) (cases ++ c ∷ []) ≡ map (λ c. c.literal) cases ++ c.literal ∷ []
literals_more [] c = refl
literals_more (d ∷ cases) c = ap (λ ts. d.literal ∷ ts) (literals_more cases c)

pub next_ids_more : (cases : List Case) (c : Case) (goal : List TermId) → next_ids (cases ++ c ∷ []) goal ≡ next_ids cases goal ++ (c.other ∷ goal) ∷ []
next_ids_more [] c goal = refl
next_ids_more (d ∷ cases) c goal = ap (λ ts. (d.other ∷ goal) ∷ ts) (next_ids_more cases c goal)

-- a case is closed by a cut
pub closed_denied : (old new : Work) (c : Case) (line other n : ℕ) → AreOpposed c.denied (term_at old.bank c.literal) (term_at old.bank c.other) → c.denied ≡ true → CutsTo old new (term_at old.bank c.other) other line n → CaseCloses old new c line other n
closed_denied old new c line other n opposed denied cuts these first second =
    let is : term_at old.bank c.literal ≡ not_term (term_at old.bank c.other) = subst (λ b. AreOpposed b (term_at old.bank c.literal) (term_at old.bank c.other)) denied opposed in
    cuts these second (subst (λ t. LineHasOnly old line (t ∷ these)) is first)

pub closed_other : (old new : Work) (c : Case) (line other n : ℕ) → AreOpposed c.denied (term_at old.bank c.literal) (term_at old.bank c.other) → c.denied ≡ false → CutsTo old new (term_at old.bank c.literal) line other n → CaseCloses old new c line other n
closed_other old new c line other n opposed denied cuts these first second =
    let is : term_at old.bank c.other ≡ not_term (term_at old.bank c.literal) = subst (λ b. AreOpposed b (term_at old.bank c.literal) (term_at old.bank c.other)) denied opposed in
    cuts these first (subst (λ t. LineHasOnly old other (t ∷ these)) is second)
