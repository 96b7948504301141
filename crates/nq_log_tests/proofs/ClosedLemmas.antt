-- Terms and lines of a work that grew, and lines of the goals to which a move led.
use Rattle.std.proofs.Common.{◌≡◌, ◌<◌, ◌≤◌, ◌∙◌, ℕ, suc, List, [], ◌∷◌, get_or, length, refl, sym, ap, ap₂, subst, arith, inl, inr}
use Rattle.nq_logic.specs.Terms.{Term, IsAmong}
use Rattle.std.specs.Prelude.{All, Vec}
use Rattle.std.specs.declared.alloc.Global.{Global}
use Rattle.nq_bank.specs.declared.node.TermId.{TermId}
use Rattle.nq_bank.specs.Content.{Content, term_at, terms_at}
use Rattle.nq_history.specs.declared.entry.Entry.{Entry}
use Rattle.nq_history.specs.Events.{events_at}
use Rattle.nq_history.proofs.HistoryLemmas.{events_at-grown}
use Rattle.nq_kernel.specs.declared.work.Work.{Work}
use Rattle.nq_kernel.specs.Growing.{WorkGrows, WorkStands}
use Rattle.nq_kernel.specs.Ready.{IsReady}
use Rattle.nq_lines.specs.Lines.{IsTermIn, LineHasOnly}
use Rattle.nq_lines.proofs.LineLemmas.{only_grown}
use Rattle.nq_lines.proofs.TermLemmas.{same_term_grown, term_grown}
use Rattle.nq_quick.specs.Lines as quick
use Rattle.nq_moves.specs.Dropped.{HoldChildren}
use Rattle.nq_moves.specs.Found.{goals_at}

module _ (history : List Entry) (old new : Work) (stands : WorkStands history old) (grows : WorkGrows history old new) where
  pub terms_grown : (ids : List TermId) → All (IsTermIn history old) ids → All (IsTermIn history new) ids
  terms_grown ids h = λ k d below. term_grown history old new (get_or ids k d) stands grows (h k d below)

  same_terms : (ids : List TermId) → All (IsTermIn history old) ids → terms_at new.bank ids ≡ terms_at old.bank ids
  same_terms [] h = refl
  same_terms (t ∷ ids) h = ap₂ ◌∷◌ (same_term_grown history old new t grows (h 0 t (omega arith))) (same_terms ids (λ k d below. h (suc k) d (omega (arith, below))))

  pub ready_grown : IsReady (events_at old.bank history) → IsReady (events_at new.bank history)
  ready_grown ready = subst IsReady (sym (events_at-grown old.bank new.bank grows.bank history stands.history.entries)) ready

  -- the terms denote the same
  pub line_here : (n : ℕ) (ids : List TermId) → All (IsTermIn history old) ids → LineHasOnly new n (terms_at old.bank ids) → LineHasOnly new n (terms_at new.bank ids)
  line_here n ids h line = subst (LineHasOnly new n) (sym (same_terms ids h)) line

  pub line_kept : (n : ℕ) (ids : List TermId) → All (IsTermIn history old) ids → LineHasOnly old n (terms_at old.bank ids) → LineHasOnly new n (terms_at new.bank ids)
  line_kept n ids h line = line_here n ids h (only_grown history old new n (terms_at old.bank ids) stands grows line)

first_among : (bank : Content) (ids : List TermId) (d : TermId) (u : Term) → 1 ≤ length ids → IsAmong u (term_at bank (get_or ids 0 d) ∷ []) → IsAmong u (terms_at bank ids)
first_among bank [] d u some m = absurd (omega (arith, some))
first_among bank (t ∷ ids) d u some (inl e) = inl e
first_among bank (t ∷ ids) d u some (inr m) = absurd m

-- the first of some terms is as all are, and a line of it has only these
module _ (xs ids : List TermId) (same : xs ≡ ids) (d : TermId) (some : 1 ≤ length xs) where
  pub first_of : (history : List Entry) (work : Work) → All (IsTermIn history work) ids → IsTermIn history work (get_or xs 0 d)
  first_of history work h = subst (λ ts. All (IsTermIn history work) ts) (sym same) h 0 d (omega (arith, some))

  pub first_only : (work : Work) (n : ℕ) (bank : Content) → quick.LineHasOnly work n (term_at bank (get_or xs 0 d) ∷ []) → LineHasOnly work n (terms_at bank ids)
  first_only work n bank h =
      subst (λ ts. LineHasOnly work n (terms_at bank ts)) same (record { literals = h.literals; stands = h.stands; only = λ u m. first_among bank xs d u some (h.only u m) })

-- lines of one goal and of two
pub hold_one : (work : Work) (goals : List (Vec TermId Global)) (only : Vec TermId Global) (n : ℕ) → goals ≡ only ∷ [] → LineHasOnly work n (terms_at work.bank only.items) → HoldChildren work (goals_at work.bank goals) (n ∷ [])
hold_one work goals only n e h = subst (λ gs. HoldChildren work (goals_at work.bank gs) (n ∷ [])) (sym e) (h, tt)

pub hold_two : (work : Work) (goals : List (Vec TermId Global)) (first second : Vec TermId Global) (m n : ℕ) → goals ≡ first ∷ second ∷ [] → LineHasOnly work m (terms_at work.bank first.items) → LineHasOnly work n (terms_at work.bank second.items) → HoldChildren work (goals_at work.bank goals) (m ∷ n ∷ [])
hold_two work goals first second m n e a b = subst (λ gs. HoldChildren work (goals_at work.bank gs) (m ∷ n ∷ [])) (sym e) (a, (b, tt))

-- the parts of a list of one goal and of one of two
pub is_one : (xs goals : List (Vec TermId Global)) (only : Vec TermId Global) → xs ≡ goals → 1 ≤ length xs → length xs < 2 → only ≡ get_or xs 0 only → goals ≡ only ∷ []
is_one [] goals only e some few is = absurd (omega (arith, some))
is_one (x ∷ []) goals only e some few is = sym e ∙ ap (λ y. y ∷ []) (sym is)
is_one (x ∷ y ∷ xs) goals only e some few is = absurd (omega (arith, few))

pub is_two : (xs goals : List (Vec TermId Global)) (first second : Vec TermId Global) → xs ≡ goals → 2 ≤ length xs → length xs < 3 → first ≡ get_or xs 0 first → second ≡ get_or xs 1 second → goals ≡ first ∷ second ∷ []
is_two [] goals first second e some few is after = absurd (omega (arith, some))
is_two (x ∷ []) goals first second e some few is after = absurd (omega (arith, some))
is_two (x ∷ y ∷ []) goals first second e some few is after = sym e ∙ ap₂ (λ a b. a ∷ b ∷ []) (sym is) (sym after)
is_two (x ∷ y ∷ z ∷ xs) goals first second e some few is after = absurd (omega (arith, few))

-- the first and the second of some goals are as all are
module _ (history : List Entry) (work : Work) (goals : List (Vec TermId Global)) (each : All (λ child. All (IsTermIn history work) child.items) goals) where
  pub first_in : (first : Vec TermId Global) (rest : List (Vec TermId Global)) → goals ≡ first ∷ rest → All (IsTermIn history work) first.items
  first_in first rest e = subst (λ gs. All (λ child. All (IsTermIn history work) child.items) gs) e each 0 first (omega arith)

  pub second_in : (first second : Vec TermId Global) (rest : List (Vec TermId Global)) → goals ≡ first ∷ second ∷ rest → All (IsTermIn history work) second.items
  second_in first second rest e = subst (λ gs. All (λ child. All (IsTermIn history work) child.items) gs) e each 1 first (omega arith)
