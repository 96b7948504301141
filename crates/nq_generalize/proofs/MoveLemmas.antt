-- The candidates that are chosen, and the goal to which they lead.
use Rattle.std.proofs.Common.{◌≡◌, ◌<◌, ◌≤◌, ◌+◌, ◌-◌, drop, ℕ, zero, suc, Bool, true, false, if◌then◌else◌, List, [], ◌∷◌, ◌++◌, length, map, take, get_or, refl, sym, ap, ◌∙◌, subst, inl, inr, arith}
use Rattle.std.specs.Prelude.{All, Vec, Result, Ok, Err, IfOk}
use Rattle.std.specs.declared.alloc.Global.{Global}
use Rattle.std.proofs.lemmas.List.{append-nil, length-map, nil_from_length, take_all}
use Rattle.nq_logic.specs.Terms.{Name, Symbol, Term, Variable, Function, Applied, Takes, Each, IsAmong}
use Rattle.nq_logic.specs.RuleShapes.{inner_terms, variables_of}
use Rattle.nq_logic.specs.Ground.{symbols_of}
use Rattle.nq_logic.specs.Words.{not_term}
use Rattle.nq_logic.specs.Histories.{History}
use Rattle.nq_logic.specs.Values.{is_value}
use Rattle.nq_bank.specs.declared.node.TermId.{TermId}
use Rattle.nq_bank.specs.Content.{Content, Stands, term_at, terms_at}
use Rattle.nq_bank.proofs.NodesLemmas.{All-head, All-tail}
use Rattle.nq_clause.specs.Substitution.{substitution_at}
use Rattle.nq_proof.specs.Clauses.{Clause, same_term, without, distinct}
use Rattle.nq_proof.proofs.Tests.{same_true}
use Rattle.nq_proof.specs.Rules.{pair_terms}
use Rattle.nq_history.specs.declared.entry.Entry.{Entry}
use Rattle.nq_kernel.specs.declared.work.Work.{Work}
use Rattle.nq_kernel.specs.declared.work.Stop.{Stop}
use Rattle.nq_kernel.specs.Growing.{WorkStands, WorkGrows}
use Rattle.nq_moves.proofs.SwappedLemmas.{goal_same}
use Rattle.nq_kernel.specs.Over.{pair_names, IsTermOf, IsVariable, VariablesAre}
use Rattle.nq_history.specs.Events.{events_at}
use Rattle.nq_lines.specs.Lines.{IsTermIn, AreAmong}
use Rattle.nq_lines.proofs.LineLemmas.{from_distinct}
use Rattle.nq_events.specs.Events.{Hints}
use Rattle.nq_goals.specs.Generalizing.{can_generalize, chosen_from, exchange_of, generalizings_of, GeneralizeCandidate, GeneralizeMove}
use Rattle.nq_goals.specs.NewVariables.{clause_variables, new_variables, path_variables, used_variables}
use Rattle.nq_goals.specs.Replacing.{exchanged, parts_in, parts_in_all}
use Rattle.nq_stuck.proofs.Joined.{among_either}
use Rattle.nq_stuck.proofs.GeneralLemmas.{general_parts}
use Rattle.nq_moves.specs.Found.{goals_at}
use Rattle.nq_moves.specs.Naming.{exchange_by}
use Rattle.nq_moves.specs.declared.moved.Moved.{Moved}
use Rattle.nq_moves.specs.declared.naming.Renaming.{Renaming}
use Rattle.nq_moves.proofs.ClosingLemmas.{IsInWork, each_over}
use Rattle.nq_generalize.specs.Candidates.{IsAllOf}
use Rattle.nq_generalize.specs.Found.{AreChosen, Generalizes}
use Rattle.nq_generalize.specs.Literals.{joined}
use Rattle.nq_generalize.proofs.CandidateLemmas.{can_parts, chosen_nothing, passes_chosen}
use Rattle.nq_generalize.proofs.DistinctLemmas.{distinct_twice}

-- what is among terms is among them without copies
to_without : (t u : Term) (c : Clause) → IsAmong t c → same_term u t ≡ false → IsAmong t (without u c)
to_without t u [] m apart = absurd m
to_without t u (v ∷ c) m apart = by_test (λ n. to_without t u c n apart) (same_term u v) refl m
  where
    by_test : (IsAmong t c → IsAmong t (without u c)) → (b : Bool) → same_term u v ≡ b → IsAmong t (v ∷ c) → IsAmong t (if b then without u c else v ∷ without u c)
    by_test later true e (inl is) = let same : same_term u t ≡ true = ap (same_term u) is ∙ e in absurd (cc)
    by_test later true e (inr n) = later n
    by_test later false e (inl is) = inl is
    by_test later false e (inr n) = inr (later n)

to_distinct : (t : Term) (c : Clause) → IsAmong t c → IsAmong t (distinct c)
to_distinct t [] m = absurd m
to_distinct t (u ∷ c) (inl is) = inl is
to_distinct t (u ∷ c) (inr m) = by_test (to_distinct t c m) (same_term u t) refl
  where
    by_test : IsAmong t (distinct c) → (b : Bool) → same_term u t ≡ b → IsAmong t (u ∷ without u (distinct c))
    by_test later true e = inl (sym (same_true u t e))
    by_test later false e = inr (to_without t u (distinct c) later e)

module _ (h : History) (hints : Hints) (goal : Clause) (allowed : hints.no_generalize ≡ false) where
  generalizings_are : generalizings_of h hints goal ≡ distinct (chosen_from (can_generalize h goal) (parts_in_all goal))
  generalizings_are = ap (λ b. if b then [] else distinct (chosen_from (can_generalize h goal) (parts_in_all goal))) allowed

  -- no candidate is found where there is none
  pub none_found : IsAllOf (can_generalize h goal) (parts_in_all goal) [] → generalizings_of h hints goal ≡ []
  none_found all = generalizings_are ∙ ap distinct (chosen_nothing (can_generalize h goal) (parts_in_all goal) (λ t m can. all.all t m can))

  candidate_is : (t : Term) (these : List Term) → IsAllOf (can_generalize h goal) (parts_in_all goal) these → IsAmong t these → GeneralizeCandidate h hints goal t
  candidate_is t these all m =
      let at = all.each t m in
      subst (IsAmong t) (sym generalizings_are) (to_distinct t (chosen_from (can_generalize h goal) (parts_in_all goal)) (passes_chosen (can_generalize h goal) t (parts_in_all goal) at.0 at.1))

  value_not : (t : Term) (these : List Term) → IsAllOf (can_generalize h goal) (parts_in_all goal) these → IsAmong t these → is_value t ≡ false
  value_not t these all m = (general_parts h t (can_parts h goal t (all.each t m).1).0).other

among_id : (bank : Content) (ids : List TermId) (k : ℕ) (d : TermId) → k < length ids → IsAmong (term_at bank (get_or ids k d)) (terms_at bank ids)
among_id bank [] k d below = absurd (omega (arith, below))
among_id bank (t ∷ ids) zero d below = inl refl
among_id bank (t ∷ ids) (suc k) d below = inr (among_id bank ids k d (omega (arith, below)))

nothing_left : (bank : Content) (least terms : List TermId) → 1 ≤ length least → terms_at bank terms ≡ distinct (terms_at bank least) → terms ≡ [] → ⊥
nothing_left bank [] terms some is none = omega (arith, some)
nothing_left bank (t ∷ least) terms some is none = let gone : [] ≡ distinct (terms_at bank (t ∷ least)) = sym (ap (terms_at bank) none) ∙ is in absurd (cc)

-- some of the candidates
pub chosen_are : (bank : Content) (h : History) (hints : Hints) (goal candidates least terms : List TermId) → hints.no_generalize ≡ false → IsAllOf (can_generalize h (terms_at bank goal)) (parts_in_all (terms_at bank goal)) (terms_at bank candidates) →
    AreAmong (terms_at bank least) (terms_at bank candidates) → 1 ≤ length least → terms_at bank terms ≡ distinct (terms_at bank least) → All (Stands bank) terms → AreChosen bank h hints goal terms
chosen_are bank h hints goal candidates least terms allowed all within some is stand =
    record {
      some = nothing_left bank least terms some is;
      each = λ k d below. candidate_is h hints (terms_at bank goal) allowed (term_at bank (get_or terms k d)) (terms_at bank candidates) all (from k d below);
      values = λ k d below. value_not h hints (terms_at bank goal) allowed (term_at bank (get_or terms k d)) (terms_at bank candidates) all (from k d below);
      stand = stand;
      apart = ap distinct is ∙ (distinct_twice (terms_at bank least) ∙ sym is);
    }
  where
    from : (k : ℕ) (d : TermId) → k < length terms → IsAmong (term_at bank (get_or terms k d)) (terms_at bank candidates)
    from k d below =
        let t : Term = term_at bank (get_or terms k d) in
        within t (from_distinct t (terms_at bank least) (subst (IsAmong t) is (among_id bank terms k d below)))

-- the literals of a path
terms_joined : (bank : Content) (xs ys : List TermId) → terms_at bank (xs ++ ys) ≡ terms_at bank xs ++ terms_at bank ys
terms_joined bank [] ys = refl
terms_joined bank (x ∷ xs) ys = ap (λ ts. term_at bank x ∷ ts) (terms_joined bank xs ys)

append_assoc : (xs ys zs : List Name) → (xs ++ ys) ++ zs ≡ xs ++ (ys ++ zs)
append_assoc [] ys zs = refl
append_assoc (x ∷ xs) ys zs = ap (λ r. x ∷ r) (append_assoc xs ys zs)

variables_joined : (c d : Clause) → clause_variables (c ++ d) ≡ clause_variables c ++ clause_variables d
variables_joined [] d = refl
variables_joined (t ∷ c) d = ap (λ r. variables_of t ++ r) (variables_joined c d) ∙ sym (append_assoc (variables_of t) (clause_variables c) (clause_variables d))

path_joined : (bank : Content) (path : List (Vec TermId Global)) → clause_variables (terms_at bank (joined path)) ≡ path_variables (goals_at bank path)
path_joined bank [] = refl
path_joined bank (g ∷ path) =
    ap clause_variables (terms_joined bank g.items (joined path)) ∙ (variables_joined (terms_at bank g.items) (terms_at bank (joined path)) ∙ ap (λ r. clause_variables (terms_at bank g.items) ++ r) (path_joined bank path))

pub used_joined : (bank : Content) (path : List (Vec TermId Global)) (goal : List TermId) → clause_variables (terms_at bank (joined path ++ goal)) ≡ used_variables (goals_at bank path) (terms_at bank goal)
used_joined bank path goal =
    ap clause_variables (terms_joined bank (joined path) goal) ∙ (variables_joined (terms_at bank (joined path)) (terms_at bank goal) ∙ ap (λ r. r ++ clause_variables (terms_at bank goal)) (path_joined bank path))

-- what stands in terms over functions is over them
module _ (symbols : List Symbol) where
  abbrev IsIn : Term → Type 0
  IsIn t = IsTermOf IsVariable symbols t

  inner_over : (t u : Term) (n : ℕ) → Takes symbols t n → VariablesAre IsVariable t → IsAmong u (inner_terms t) → IsIn u
  inner_over (Variable x) u n o v m = absurd m
  inner_over (Function f) u n o v m = absurd m
  inner_over (Applied t a) u n o v m =
      elim (among_either u (inner_terms t) (a ∷ inner_terms a) m) [
        | inl left ↦ inner_over t u (suc n) o.0 v.0 left
        | inr right ↦ elim right [ inl e ↦ subst IsIn (sym e) (record { over = o.1; variables = v.1 }) | inr inner ↦ inner_over a u zero o.1 v.1 inner ]
      ]

  part_over : (t u : Term) → IsIn t → IsAmong u (parts_in t) → IsIn u
  part_over t u h (inl e) = subst IsIn (sym e) h
  part_over t u h (inr m) = inner_over t u zero h.over h.variables m

  parts_over : (c : Clause) → ((t : Term) → IsAmong t c → IsIn t) → (u : Term) → IsAmong u (parts_in_all c) → IsIn u
  parts_over [] each u m = absurd m
  parts_over (t ∷ c) each u m = elim (among_either u (parts_in t) (parts_in_all c) m) [ inl here ↦ part_over t u (each t (inl refl)) here | inr there ↦ parts_over c (λ v n. each v (inr n)) u there ]

chosen_within : (test : Term → Bool) (t : Term) (ts : List Term) → IsAmong t (chosen_from test ts) → IsAmong t ts
chosen_within test t [] m = absurd m
chosen_within test t (u ∷ ts) m = by_test (λ n. chosen_within test t ts n) (test u) m
  where
    by_test : (IsAmong t (chosen_from test ts) → IsAmong t ts) → (b : Bool) → IsAmong t (elim b as (λ b. List Term) [ true ↦ u ∷ chosen_from test ts | false ↦ chosen_from test ts ]) → IsAmong t (u ∷ ts)
    by_test later true (inl e) = inl e
    by_test later true (inr n) = inr (later n)
    by_test later false n = inr (later n)

candidate_part : (h : History) (hints : Hints) (goal : Clause) (t : Term) → GeneralizeCandidate h hints goal t → IsAmong t (parts_in_all goal)
candidate_part h hints goal t m = by_test hints.no_generalize m
  where
    by_test : (b : Bool) → IsAmong t (if b then [] else distinct (chosen_from (can_generalize h goal) (parts_in_all goal))) → IsAmong t (parts_in_all goal)
    by_test true n = absurd n
    by_test false n = chosen_within (can_generalize h goal) t (parts_in_all goal) (from_distinct t (chosen_from (can_generalize h goal) (parts_in_all goal)) n)

module _ (history : List Entry) (work : Work) where
  abbrev In : TermId → Type 0
  In = IsTermIn history work

  all_before : (xs ys : List TermId) → All In xs → All In ys → All In (xs ++ ys)
  all_before [] ys h k i d below = k i d below
  all_before (x ∷ xs) ys h k i d below = by_place (all_before xs ys (All-tail In x xs h) k) i below
    where
      by_place : All In (xs ++ ys) → (j : ℕ) → j < length (x ∷ (xs ++ ys)) → In (get_or (x ∷ (xs ++ ys)) j d)
      by_place rest zero l = All-head In x xs h
      by_place rest (suc j) l = rest j d (omega (arith, l))

  path_in : (path : List (Vec TermId Global)) → All (λ g. All In g.items) path → All In (joined path)
  path_in [] h = λ k d below. absurd (omega (arith, below))
  path_in (g ∷ path) h = all_before g.items (joined path) (All-head (λ v. All In v.items) g path h) (path_in path (All-tail (λ v. All In v.items) g path h))

  pub literals_in : (path : List (Vec TermId Global)) (goal : List TermId) → All (λ g. All In g.items) path → All In goal → All In (joined path ++ goal)
  literals_in path goal h k = all_before (joined path) goal (path_in path h) k

  part_in_goal : (h : History) (hints : Hints) (goal : List TermId) (t : Term) → All In goal → GeneralizeCandidate h hints (terms_at work.bank goal) t → IsInWork history work t
  part_in_goal h hints goal t all candidate = parts_over (symbols_of (events_at work.bank history)) (terms_at work.bank goal) (λ u m. each_over history work goal all u m) t (candidate_part h hints (terms_at work.bank goal) t candidate)

  pub terms_in : (h : History) (hints : Hints) (goal terms : List TermId) → All In goal → AreChosen work.bank h hints goal terms → All In terms
  terms_in h hints goal terms all chosen = λ k d below. record { stands = chosen.stand k d below; over = part_in_goal h hints goal (term_at work.bank (get_or terms k d)) all (chosen.each k d below) }

goal_within : (c d : Clause) (t : Term) → IsAmong t d → IsAmong t (c ++ d)
goal_within [] d t m = m
goal_within (u ∷ c) d t m = inr (goal_within c d t m)

pub goal_among : (bank : Content) (path : List (Vec TermId Global)) (goal : List TermId) → AreAmong (terms_at bank goal) (terms_at bank (joined path ++ goal))
goal_among bank path goal t m = subst (IsAmong t) (sym (terms_joined bank (joined path) goal)) (goal_within (terms_at bank (joined path)) (terms_at bank goal) t m)

each_of : (P : Term → Type 0) (bank : Content) (ids : List TermId) → All (λ t. P (term_at bank t)) ids → Each P (terms_at bank ids)
each_of P bank [] h = tt
each_of P bank (i ∷ ids) h = (All-head (λ t. P (term_at bank t)) i ids h, each_of P bank ids (All-tail (λ t. P (term_at bank t)) i ids h))

-- the move of the table
pub generalizes : (h : History) (hints : Hints) (old : Content) (path : List Clause) (goal terms : List TermId) (names : List Name) (nexts : List Clause) → AreChosen old h hints goal terms → names ≡ new_variables (used_variables path (terms_at old goal)) (length terms) →
    nexts ≡ distinct (map (exchanged (exchange_of (terms_at old terms) names)) (terms_at old goal)) ∷ [] → GeneralizeMove h hints path (terms_at old goal) nexts
generalizes h hints old path goal [] names nexts chosen named leads = absurd (chosen.some refl)
generalizes h hints old path goal (t ∷ terms) names nexts chosen named leads =
    let whole : Clause = terms_at old goal in
    let these : List Term = terms_at old (t ∷ terms) in
    let used : List Name = used_variables path whole in
    let many : length (t ∷ terms) ≡ length these = sym (length-map (t ∷ terms) (term_at old)) in
    record {
      first = term_at old t;
      more = terms_at old terms;
      candidates = each_of (GeneralizeCandidate h hints whole) old (t ∷ terms) chosen.each;
      apart = chosen.apart;
      facts = [];
      are_facts = tt;
      leads =
          leads
          ∙ (ap (λ xs. distinct (map (exchanged (exchange_of these xs)) whole) ∷ []) (named ∙ ap (new_variables used) many)
          ∙ ap (λ c. distinct (map (exchanged (exchange_of these (new_variables used (length these)))) c) ∷ []) (sym (append-nil whole)));
    }

-- what is chosen is there
pub chosen_some : (bank : Content) (h : History) (hints : Hints) (goal terms : List TermId) → AreChosen bank h hints goal terms → generalizings_of h hints (terms_at bank goal) ≡ [] → ⊥
chosen_some bank h hints goal [] chosen none = chosen.some refl
chosen_some bank h hints goal (t ∷ terms) chosen none = subst (IsAmong (term_at bank t)) none (All-head (λ u. GeneralizeCandidate h hints (terms_at bank goal) (term_at bank u)) t terms chosen.each)

pub no_ids : (ids told : List TermId) → told ≡ ids → length told < 1 → ids ≡ []
no_ids ids told same few = sym same ∙ nil_from_length told (omega (arith, few))

-- all but the first of some ids
pub rest_stands : (bank : Content) (told : List TermId) → All (Stands bank) told → All (Stands bank) (take (length told - 1) (drop 1 told))
rest_stands bank [] h k d below = absurd (omega (arith, below))
rest_stands bank (t ∷ told) h k d below =
    let whole : take (length (t ∷ told) - 1) told ≡ told = take_all (length (t ∷ told) - 1) told (omega arith) in
    subst (All (Stands bank)) (sym whole) (All-tail (Stands bank) t told h) k d below

-- the move of the table, where the renaming is that of its new variables
module _ (history : List Entry) (old new : Work) (stood : WorkStands history old) (grows : WorkGrows history old new) (goal terms : List TermId) (all : All (IsTermIn history old) goal) where
  pub legal_ok : (h : History) (hints : Hints) (path : List (Vec TermId Global)) (known : List TermId) (renaming : Renaming) (r : Result Moved Stop) → AreChosen old.bank h hints goal terms → known ≡ joined path ++ goal →
      pair_names (substitution_at new.bank renaming.pairs.items) ≡ new_variables (clause_variables (terms_at old.bank known)) (length terms) → pair_terms (substitution_at new.bank renaming.pairs.items) ≡ terms_at old.bank terms →
      IfOk r (λ m. goals_at new.bank m.children.items ≡ distinct (map (exchanged (exchange_by (substitution_at new.bank renaming.pairs.items))) (terms_at new.bank goal)) ∷ []) → IfOk r (Generalizes h hints old.bank new.bank path goal)
  legal_ok h hints path known renaming (Ok m) chosen is named told leads =
      let s = substitution_at new.bank renaming.pairs.items in
      let same : terms_at new.bank goal ≡ terms_at old.bank goal = goal_same history old new stood grows goal all in
      let used = ap (λ ids. clause_variables (terms_at old.bank ids)) is ∙ used_joined old.bank path goal in
      record {
        leads =
            generalizes h hints old.bank (goals_at old.bank path) goal terms (pair_names s) (goals_at new.bank m.children.items) chosen (named ∙ ap (λ xs. new_variables xs (length terms)) used)
            (leads
            ∙ (ap (λ ts. distinct (map (exchanged (exchange_of ts (pair_names s))) (terms_at new.bank goal)) ∷ []) told
            ∙ ap (λ c. distinct (map (exchanged (exchange_of (terms_at old.bank terms) (pair_names s))) c) ∷ []) same));
      }
  legal_ok h hints path known renaming (Err e) chosen is named told leads = leads
