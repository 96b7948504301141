-- Instances that are negated in a first goal, and cut away.
use Rattle.std.proofs.Common.{◌≡◌, ℕ, zero, suc, ◌+◌, ◌<◌, ◌≤◌, Some, List, [], ◌∷◌, ◌++◌, length, take, drop, map, get_or, refl, sym, ap, ap₂, ◌∙◌, subst, inl, inr, arith}
use Rattle.std.specs.Prelude.{All, slice_get}
use Rattle.nq_logic.specs.Terms.{Term, IsAmong, Each}
use Rattle.nq_logic.specs.Ground.{symbols_of}
use Rattle.nq_logic.specs.Words.{not_term}
use Rattle.nq_logic.specs.Histories.{History}
use Rattle.nq_bank.specs.declared.node.TermId.{TermId}
use Rattle.nq_bank.specs.Content.{Content, Stands, term_from, term_at, terms_at}
use Rattle.nq_bank.proofs.Growth.{term_at-grown, terms_at-grown}
use Rattle.nq_bank.proofs.NodesLemmas.{All-head, All-tail}
use Rattle.nq_proof.specs.Clauses.{Clause, distinct}
use Rattle.nq_history.specs.declared.entry.Entry.{Entry}
use Rattle.nq_history.specs.declared.hints.Hints.{Hints}
use Rattle.nq_history.specs.Events.{events_at}
use Rattle.nq_events.specs.Events as model
use Rattle.nq_events.specs.HintRefusals.{instance_term}
use Rattle.nq_kernel.specs.declared.work.Work.{Work}
use Rattle.nq_kernel.specs.Growing.{WorkStands, WorkGrows}
use Rattle.nq_lines.specs.Lines.{AreAmong, LineHasOnly, IsTermIn, CutsTo}
use Rattle.nq_lines.proofs.LineLemmas.{only_grown, only_more, from_distinct}
use Rattle.nq_lines.proofs.TermLemmas.{term_grown}
use Rattle.nq_goals.specs.Hints.{denied_instances, denied_before, first_goal}
use Rattle.nq_waterfall.specs.declared.uses.Used.{Used}
use Rattle.nq_waterfall.specs.Uses.{UseStands, IsUsed, denials_at, used_term, AreInstances, IsTraceOf}
use Rattle.nq_event.specs.EventsAt.{hints_at}
use Rattle.nq_waterfall.specs.Trails.{steps_at, StepStands}
use Rattle.nq_kernel.specs.declared.verdict.PathStep.{PathStep}
use Rattle.nq_waterfall.specs.declared.trail.Ancestor.{Ancestor}
use Rattle.nq_waterfall.specs.Ready.{CanMove, IsGoalIn}
use Rattle.nq_traces.specs.Traces.{IsTrace}
use Rattle.nq_history.proofs.HistoryLemmas.{events_at-grown}
use Rattle.nq_kernel.specs.Over.{IsTermOf, IsVariable}
use Rattle.nq_waterfall.proofs.SameLemmas.{scene_grown, steps_same, hints_same}
use Rattle.nq_waterfall.proofs.SolvingLemmas.{take_next, map_pushed}

denials_pushed : (bank : Content) (uses : List Used) (u : Used) → denials_at bank (uses ++ u ∷ []) [] ≡ denials_at bank uses [] ++ term_at bank u.denied ∷ []
denials_pushed bank [] u = refl
denials_pushed bank (v ∷ uses) u = ap (λ c. term_at bank v.denied ∷ c) (denials_pushed bank uses u)

pub denials_next : (bank : Content) (uses : List Used) (i : ℕ) (u : Used) → slice_get uses i ≡ Some u → denials_at bank (take (i + 1) uses) [] ≡ denials_at bank (take i uses) [] ++ term_at bank u.denied ∷ []
denials_next bank uses i u at = ap (λ us. denials_at bank us []) (take_next uses i u at) ∙ denials_pushed bank (take i uses) u

pub denials_last : (bank : Content) (uses : List Used) (literals : Clause) → denials_at bank uses literals ≡ denials_at bank uses [] ++ literals
denials_last bank [] literals = refl
denials_last bank (u ∷ uses) literals = ap (λ c. term_at bank u.denied ∷ c) (denials_last bank uses literals)

pub terms_pushed : (bank : Content) (ids : List TermId) (t : TermId) → terms_at bank (ids ++ t ∷ []) ≡ terms_at bank ids ++ term_at bank t ∷ []
terms_pushed bank ids t = map_pushed (term_from bank.terms) ids t

pub drop_next : {X : Type 0} (xs : List X) (i : ℕ) (x : X) → slice_get xs i ≡ Some x → drop i xs ≡ x ∷ drop (i + 1) xs
drop_next xs i x at = of_suc xs i x at ∙ ap (λ n. x ∷ drop n xs) (one_more i)
  where
    one_more : (n : ℕ) → suc n ≡ n + 1
    one_more n = omega arith

    by_some : {X : Type 0} (a b : X) → Some a ≡ Some b → a ≡ b
    by_some a b e = cc

    none : {X : Type 0} (xs : List X) → drop 0 xs ≡ xs
    none [] = refl
    none (x ∷ xs) = refl

    of_suc : {X : Type 0} (xs : List X) (i : ℕ) (x : X) → slice_get xs i ≡ Some x → drop i xs ≡ x ∷ drop (suc i) xs
    of_suc [] i x e = absurd cc
    of_suc (y ∷ xs) zero x e = ap₂ (λ a b. a ∷ b) (by_some y x e) (sym (none xs))
    of_suc (y ∷ xs) (suc i) x e = of_suc xs i x e

pub drop_all : {X : Type 0} (xs : List X) (i : ℕ) → length xs ≤ i → drop i xs ≡ []
drop_all [] zero within = refl
drop_all [] (suc i) within = refl
drop_all (x ∷ xs) zero within = absurd (omega (arith, within))
drop_all (x ∷ xs) (suc i) within = drop_all xs i (omega (arith, within))

pub denials_grown : (history : List Entry) (old new : Work) → WorkGrows history old new → (uses : List Used) (literals : Clause) → All (IsUsed history old) uses → denials_at new.bank uses literals ≡ denials_at old.bank uses literals
denials_grown history old new grows [] literals k = refl
denials_grown history old new grows (u ∷ uses) literals k =
    ap₂ (λ a b. a ∷ b) (term_at-grown old.bank new.bank u.denied grows.bank (All-head (IsUsed history old) u uses k).denied_in.stands) (denials_grown history old new grows uses literals (All-tail (IsUsed history old) u uses k))

pub use_grown : (history : List Entry) (old new : Work) → WorkStands history old → WorkGrows history old new → (u : Used) → IsUsed history old u → IsUsed history new u
use_grown history old new stands grows u k =
    let term = term_at-grown old.bank new.bank u.term grows.bank k.term_in.stands in
    record {
      term_in = term_grown history old new u.term stands grows k.term_in;
      denied_in = term_grown history old new u.denied stands grows k.denied_in;
      denies = term_at-grown old.bank new.bank u.denied grows.bank k.denied_in.stands ∙ k.denies ∙ ap not_term (sym term);
      line = subst (λ t. LineHasOnly new u.line (t ∷ [])) (sym term) (only_grown history old new u.line (term_at old.bank u.term ∷ []) stands grows k.line);
    }

pub uses_grown : (history : List Entry) (old new : Work) → WorkStands history old → WorkGrows history old new → (uses : List Used) → All (IsUsed history old) uses → All (IsUsed history new) uses
uses_grown history old new stands grows uses k = λ i d below. use_grown history old new stands grows (get_or uses i d) (k i d below)

pub uses_stand : (history : List Entry) (work : Work) (uses : List Used) → All (IsUsed history work) uses → All (UseStands work.bank) uses
uses_stand history work uses k = λ i d below. record { term = (k i d below).term_in.stands; denied = (k i d below).denied_in.stands }

first_alone : (t : Term) (these : Clause) → AreAmong (t ∷ []) (t ∷ these)
first_alone t these u (inl e) = inl e
first_alone t these u (inr m) = absurd m

-- one negation is cut away
pub one_cut : (history : List Entry) (old new : Work) (u : Used) (line n : ℕ) (these : Clause) → IsUsed history old u → LineHasOnly old line (term_at old.bank u.denied ∷ these) → CutsTo old new (term_at old.bank u.term) u.line line n → LineHasOnly new n these
one_cut history old new u line n these k has cuts =
    cuts these (only_more old u.line (term_at old.bank u.term ∷ []) (term_at old.bank u.term ∷ these) (first_alone (term_at old.bank u.term) these) k.line)
    (subst (λ d. LineHasOnly old line (d ∷ these)) k.denies has)

drop_part : {X : Type 0} (P : X → Type 0) (xs : List X) (i : ℕ) → All P xs → All P (drop i xs)
drop_part P [] zero k = k
drop_part P [] (suc i) k = k
drop_part P (x ∷ xs) zero k = k
drop_part P (x ∷ xs) (suc i) k = drop_part P xs i (All-tail P x xs k)

-- a turn of the loop that cuts
pub cut_turn : (history : List Entry) (old new : Work) (uses : List Used) (i : ℕ) (u : Used) (goal : TermId) (line n : ℕ) → slice_get uses i ≡ Some u → WorkGrows history old new → All (IsUsed history old) uses → IsUsed history old u → IsTermIn history old goal → LineHasOnly old line (denials_at old.bank (drop i uses) (term_at old.bank goal ∷ [])) → CutsTo old new (term_at old.bank u.term) u.line line n → LineHasOnly new n (denials_at new.bank (drop (i + 1) uses) (term_at new.bank goal ∷ []))
cut_turn history old new uses i u goal line n at grows used here goal_in has cuts =
    let left = drop (i + 1) uses in
    subst (λ t. LineHasOnly new n (denials_at new.bank left (t ∷ []))) (sym (term_at-grown old.bank new.bank goal grows.bank goal_in.stands)) (
    subst (LineHasOnly new n) (sym (denials_grown history old new grows left (term_at old.bank goal ∷ []) (drop_part (IsUsed history old) uses (i + 1) used))) (
    one_cut history old new u line n (denials_at old.bank left (term_at old.bank goal ∷ [])) here (subst (λ us. LineHasOnly old line (denials_at old.bank us (term_at old.bank goal ∷ []))) (drop_next uses i u at) has) cuts))

by_cons : {X : Type 0} (a b : X) (c d : List X) → a ∷ c ≡ b ∷ d → (a ≡ b) × (c ≡ d)
by_cons a b c d e = (cc, cc)

-- the negations are those of the instances that the hints name
pub denials_are : (h : History) (bank : Content) (instances : List model.Instance) (uses : List Used) (literals : Clause) → All (λ u. term_at bank u.denied ≡ not_term (term_at bank u.term)) uses → map (instance_term h) instances ≡ map (used_term bank) uses → denied_instances h instances literals ≡ denials_at bank uses literals
denials_are h bank [] [] literals k e = refl
denials_are h bank [] (u ∷ uses) literals k e = absurd cc
denials_are h bank (i ∷ instances) [] literals k e = absurd cc
denials_are h bank (i ∷ instances) (u ∷ uses) literals k e =
    let parts = by_cons (instance_term h i) (used_term bank u) (map (instance_term h) instances) (map (used_term bank) uses) e in
    ap (λ o. denied_before o (denied_instances h instances literals)) parts.0 ∙
    ap₂ (λ a b. a ∷ b) (sym (All-head (λ u. term_at bank u.denied ≡ not_term (term_at bank u.term)) u uses k)) (denials_are h bank instances uses literals (All-tail (λ u. term_at bank u.denied ≡ not_term (term_at bank u.term)) u uses k) parts.1)

pub first_is : (history : List Entry) (hints : Hints) (work : Work) (uses : List Used) (goal : TermId) → All (IsUsed history work) uses → AreInstances history hints work uses → first_goal (events_at work.bank history) (hints_at work.bank hints) (term_at work.bank goal) ≡ distinct (denials_at work.bank uses (term_at work.bank goal ∷ []))
first_is history hints work uses goal used are =
    ap distinct (denials_are (events_at work.bank history) work.bank (hints_at work.bank hints).instances uses (term_at work.bank goal ∷ []) (λ i d below. (used i d below).denies) are)

abbrev pub no_use : Used
no_use = record { term = record { 0 = 0 }; denied = record { 0 = 0 }; line = 0 }

pub got : {X : Type 0} (xs : List X) (i : ℕ) (d : X) → i < length xs → slice_get xs i ≡ Some (get_or xs i d)
got [] i d below = absurd (omega (arith, below))
got (x ∷ xs) zero d below = refl
got (x ∷ xs) (suc i) d below = got xs i d (omega (arith, below))

-- THE FIRST GOAL OF A LEMMA
among_each : (P : Term → Type 0) (c : Clause) (t : Term) → Each P c → IsAmong t c → P t
among_each P [] t h m = absurd m
among_each P (u ∷ c) t h (inl e) = subst P (sym e) h.0
among_each P (u ∷ c) t h (inr m) = among_each P c t h.1 m

among_at : (bank : Content) (ids : List TermId) (k : ℕ) (d : TermId) → k < length ids → IsAmong (term_at bank (get_or ids k d)) (terms_at bank ids)
among_at bank [] k d below = absurd (omega (arith, below))
among_at bank (t ∷ ids) zero d below = inl refl
among_at bank (t ∷ ids) (suc k) d below = inr (among_at bank ids k d (omega (arith, below)))

denials_in : (history : List Entry) (work : Work) (uses : List Used) (goal : TermId) → All (IsUsed history work) uses → IsTermIn history work goal → Each (IsTermOf IsVariable (symbols_of (events_at work.bank history))) (denials_at work.bank uses (term_at work.bank goal ∷ []))
denials_in history work [] goal k there = (there.over, tt)
denials_in history work (u ∷ uses) goal k there = ((All-head (IsUsed history work) u uses k).denied_in.over, denials_in history work uses goal (All-tail (IsUsed history work) u uses k) there)

pub first_in : (history : List Entry) (work : Work) (uses : List Used) (goal : TermId) (ids : List TermId) → All (IsUsed history work) uses → IsTermIn history work goal → All (Stands work.bank) ids → terms_at work.bank ids ≡ distinct (denials_at work.bank uses (term_at work.bank goal ∷ [])) → IsGoalIn history work ids
first_in history work uses goal ids used there stand is = λ k d below. record { stands = stand k d below; over = over k d below }
  where
    over : (k : ℕ) (d : TermId) → k < length ids → IsTermOf IsVariable (symbols_of (events_at work.bank history)) (term_at work.bank (get_or ids k d))
    over k d below =
        let t : Term = term_at work.bank (get_or ids k d) in
        let all : Clause = denials_at work.bank uses (term_at work.bank goal ∷ []) in
        among_each (IsTermOf IsVariable (symbols_of (events_at work.bank history))) all t (denials_in history work uses goal used there) (from_distinct t all (subst (IsAmong t) is (among_at work.bank ids k d below)))

used_terms_same : (history : List Entry) (old new : Work) → WorkGrows history old new → (uses : List Used) → All (IsUsed history old) uses → map (used_term new.bank) uses ≡ map (used_term old.bank) uses
used_terms_same history old new grows [] k = refl
used_terms_same history old new grows (u ∷ uses) k =
    ap₂ (λ a b. a ∷ b) (ap Some (term_at-grown old.bank new.bank u.term grows.bank (All-head (IsUsed history old) u uses k).term_in.stands)) (used_terms_same history old new grows uses (All-tail (IsUsed history old) u uses k))

module _ (history : List Entry) (hints : Hints) (old new : Work) (ready : CanMove history hints old) (grows : WorkGrows history old new) (uses : List Used) (used : All (IsUsed history old) uses) (goal : TermId) (there : IsTermIn history old goal) where
  pub instances_grown : AreInstances history hints old uses → AreInstances history hints new uses
  instances_grown are =
      ap₂ (λ (h : History) (hs : model.Hints). map (instance_term h) hs.instances) (events_at-grown old.bank new.bank grows.bank history ready.stands.history.entries) (hints_same old.bank new.bank grows.bank hints ready.hints_stand) ∙ are ∙
      sym (used_terms_same history old new grows uses used)

  -- what the ids of the first goal stand for, after the work grew
  pub first_told : (ids : List TermId) → All (Stands old.bank) ids → terms_at old.bank ids ≡ distinct (denials_at old.bank uses (term_at old.bank goal ∷ [])) → terms_at new.bank ids ≡ distinct (denials_at new.bank uses (term_at new.bank goal ∷ []))
  first_told ids stand is =
      terms_at-grown old.bank new.bank ids grows.bank stand ∙ is ∙
      ap distinct (sym (denials_grown history old new grows uses (term_at old.bank goal ∷ []) used) ∙ ap (λ t. denials_at new.bank uses (t ∷ [])) (sym (term_at-grown old.bank new.bank goal grows.bank there.stands)))

  pub first_lemma : (ids : List TermId) → All (Stands old.bank) ids → terms_at old.bank ids ≡ distinct (denials_at old.bank uses (term_at old.bank goal ∷ [])) → AreInstances history hints old uses → terms_at new.bank ids ≡ first_goal (events_at new.bank history) (hints_at new.bank hints) (term_at new.bank goal)
  first_lemma ids stand is are = first_told ids stand is ∙ sym (first_is history hints new uses goal (uses_grown history old new ready.stands grows uses used) (instances_grown are))

  head_of : Clause → Term
  head_of [] = term_at new.bank goal
  head_of (t ∷ c) = t

  one_stands : (k : ℕ) (d : TermId) → k < length (goal ∷ []) → Stands old.bank (get_or (goal ∷ []) k d)
  one_stands zero d below = there.stands
  one_stands (suc k) d below = absurd (omega (arith, below))

  no_path : (k : ℕ) (d : Ancestor) → k < length {A = Ancestor} [] → All (Stands old.bank) (get_or [] k d).goal.items
  no_path k d below = absurd (omega (arith, below))

  pub trace_grown : (steps : List PathStep) → All (StepStands old.bank) steps → IsTraceOf history hints old goal steps → IsTraceOf history hints new goal steps
  unfolding head_of
  trace_grown steps stand t =
      scene_grown history hints old new [] (goal ∷ []) (λ h hs a g. IsTrace h hs (first_goal h hs (head_of g)) (steps_at new.bank steps)) ready grows no_path one_stands
      (subst (IsTrace (events_at old.bank history) (hints_at old.bank hints) (first_goal (events_at old.bank history) (hints_at old.bank hints) (term_at old.bank goal))) (sym (steps_same old.bank new.bank grows.bank steps stand)) t)

-- a line with only the literals of the first goal
pub first_line : (work : Work) (uses : List Used) (goal : TermId) (ids : List TermId) (line : ℕ) → terms_at work.bank ids ≡ distinct (denials_at work.bank uses (term_at work.bank goal ∷ [])) → LineHasOnly work line (terms_at work.bank ids) → LineHasOnly work line (denials_at work.bank uses (term_at work.bank goal ∷ []))
first_line work uses goal ids line is has =
    only_more work line (distinct (denials_at work.bank uses (term_at work.bank goal ∷ []))) (denials_at work.bank uses (term_at work.bank goal ∷ [])) (λ t m. from_distinct t (denials_at work.bank uses (term_at work.bank goal ∷ [])) m) (subst (LineHasOnly work line) is has)
