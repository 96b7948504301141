-- The tree of a proposition over variables that is false under some assignment.
use Rattle.std.proofs.Common.{◌≡◌, ◌∙◌, ℕ, suc, Bool, true, false, ◌&&◌, Option, Some, None, List, [], ◌∷◌, ◌++◌, append_assoc, append-nil, length, map, refl, sym, ap, subst, inl, inr}
use Rattle.std.specs.Prelude.{not, if◌then◌else◌}
use Rattle.std.proofs.lemmas.List.{map-append}
use Rattle.nq_logic.specs.Terms.{Name, Term, Variable, IsTerm, IsAmong, Each}
use Rattle.nq_logic.specs.Words.{not_term}
use Rattle.nq_logic.specs.Names.{are_distinct, has_name}
use Rattle.nq_logic.specs.Histories.{History}
use Rattle.nq_logic.specs.Ground.{symbols_of}
use Rattle.nq_logic.proofs.Lists.{each_append, each_at, each_mono}
use Rattle.nq_proof.specs.Clauses.{Clause, distinct, has_term, without}
use Rattle.nq_events.specs.Events.{Hints}
use Rattle.nq_fragments.specs.Propositions.{Proposition, proposition_of, truth_of}
use Rattle.nq_goals.specs.declared.kinds.Cause.{Cause}
use Rattle.nq_goals.specs.declared.kinds.Cause.TheVariants.{NoInduction}
use Rattle.nq_goals.specs.declared.kinds.MoveKind.TheVariants.{Simp, Irr}
use Rattle.nq_goals.specs.Normal.{IsNormal}
use Rattle.nq_goals.specs.NewVariables.{clause_variables}
use Rattle.nq_goals.specs.Paths.{Above, passed, inducted_goals}
use Rattle.nq_goals.specs.Inducting.{hinted_term, suggestions, suggesting_among, suggesting_in}
use Rattle.nq_goals.specs.Moves.{IsWithoutCopies, simplifies, drops}
use Rattle.nq_goals.specs.Spent.{IsSpent, MayBeSpent, normal, first_and_ground}
use Rattle.nq_goals.specs.Trees.{Step}
use Rattle.nq_goals.specs.Forests.{step}
use Rattle.nq_goals.specs.Solving.{HasTried, LeavesUnsolved, first_cause}
use Rattle.nq_goals.proofs.SolverLaws.{solver_laws}
use Rattle.nq_decided.specs.Literals.{Signed, literal, literals, AreApart}
use Rattle.nq_decided.specs.Falsehoods.{false_clauses}
use Rattle.nq_decided.specs.FailedFalsehoods.{clause_steps, clauses_steps, dropping_steps, falsehood_steps, FalsehoodsFail, IsStuckAlone, IsStuckName}
use Rattle.nq_decided.proofs.NormalClauses.{ahead, names, normal_together}
use Rattle.nq_decided.proofs.DroppedLiterals.{literals_are_dropped, none_without}
use Rattle.nq_decided.proofs.FalseClauses.{falsehoods_simplify}

pushed_length : (old : List Step) (s : Step) → suc (length old) ≡ length (old ++ s ∷ [])
pushed_length [] s = refl
pushed_length (x ∷ old) s = ap suc (pushed_length old s)

abbrev signed : Name → Bool → Signed
signed x b = record { name = x; denied = b }

and_second : (a b : Bool) → (a && b) ≡ true → b ≡ true
and_second true b e = e
and_second false b e = absurd cc

-- what is left of different literals is different
apart_rest : (s : Signed) (ss : List Signed) → AreApart (s ∷ ss) → AreApart ss
apart_rest s ss e = and_second (not (has_name s.name (names ss))) (are_distinct (names ss)) e

-- such a clause has no later copy of a literal
without_copies : (ss : List Signed) → AreApart ss → distinct (literals ss) ≡ literals ss
without_copies [] e = refl
without_copies (s ∷ ss) e =
    ap (λ (c : Clause). literal s ∷ without (literal s) c) (without_copies ss (apart_rest s ss e)) ∙ ap (λ (c : Clause). literal s ∷ c) (none_without s ss (ahead [] s ss e))

-- ---- the clauses of assignments

-- it is a clause of literals of these names
record IsOver (xs : List Name) (c : List Term) : Type 0 where
  pub signs : List Signed
  pub is : c ≡ literals signs
  pub over : names signs ≡ xs

each_if : {X : Type 0} (P : X → Type 0) (b : Bool) (x : X) → P x → Each P (if b then [] else x ∷ [])
each_if P true x p = tt
each_if P false x p = (p, tt)

one_more : (ss : List Signed) (s : Signed) → literals ss ++ literal s ∷ [] ≡ literals (ss ++ s ∷ [])
one_more ss s = sym (map-append literal ss (s ∷ []))

one_name_more : (ss : List Signed) (s : Signed) (xs : List Name) → names (ss ++ s ∷ []) ++ xs ≡ names ss ++ s.name ∷ xs
one_name_more ss s xs = ap (λ (ys : List Name). ys ++ xs) (map-append (λ (s : Signed). s.name) ss (s ∷ [])) ∙ append_assoc (names ss) (s.name ∷ []) xs

clauses_over : (p : Proposition) (xs : List Name) (trues : List Term) (ss : List Signed) → Each (IsOver (names ss ++ xs)) (false_clauses (map Variable xs) trues (literals ss) p)
clauses_over p [] trues ss = each_if (IsOver (names ss ++ [])) (truth_of (λ t. has_term t trues) p) (literals ss) (record { signs = ss; is = refl; over = sym (append-nil (names ss)) })
clauses_over p (x ∷ xs) trues ss =
    each_append (IsOver (names ss ++ x ∷ xs)) (false_clauses (map Variable xs) (trues ++ Variable x ∷ []) (literals ss ++ not_term (Variable x) ∷ []) p) (false_clauses (map Variable xs) trues (literals ss ++ Variable x ∷ []) p)
    (part (signed x true) (trues ++ Variable x ∷ []) (clauses_over p xs (trues ++ Variable x ∷ []) (ss ++ signed x true ∷ []))) (part (signed x false) trues (clauses_over p xs trues (ss ++ signed x false ∷ [])))
  where
    part : (s : Signed) (more : List Term) → Each (IsOver (names (ss ++ s ∷ []) ++ xs)) (false_clauses (map Variable xs) more (literals (ss ++ s ∷ [])) p) →
        Each (IsOver (names ss ++ s.name ∷ xs)) (false_clauses (map Variable xs) more (literals ss ++ literal s ∷ []) p)
    part s more over =
        subst (λ (c : Clause). Each (IsOver (names ss ++ s.name ∷ xs)) (false_clauses (map Variable xs) more c p)) (sym (one_more ss s))
        (subst (λ (ys : List Name). Each (IsOver ys) (false_clauses (map Variable xs) more (literals (ss ++ s ∷ [])) p)) (one_name_more ss s xs) over)

-- ---- goals that are left over

some_name : (x : Name) (xs : List Name) → x ∷ xs ≡ [] → ⊥
some_name x xs e = cc

module _ (h : History) (hints : Hints) (free : hints.induct ≡ None) where
  suggested : (above : Above) (goal : Clause) → suggestions h hints above goal ≡ suggesting_in h goal
  suggested above goal = ap (λ (o : Option Term). suggesting_among h (hinted_term o (inducted_goals above)) ++ suggesting_in h goal) free

  not_ground : (x : Name) (b : Bool) → clause_variables (literal (signed x b) ∷ []) ≡ [] → ⊥
  not_ground x true e = some_name x [] e
  not_ground x false e = some_name x [] e

  -- the literal is left over alone, so it is normal
  normal_alone : (s : Signed) → IsStuckAlone h hints (literal s) → IsNormal h hints (literal s ∷ [])
  normal_alone s spent = by_form spent.form
    where
      by_form : MayBeSpent h hints [] (literal s ∷ []) → IsNormal h hints (literal s ∷ [])
      by_form (normal n) = n
      by_form (first_and_ground none ground) = absurd (not_ground s.name s.denied ground)

  -- and it is left over below any goals
  spent_below : (s : Signed) (above : Above) → IsStuckAlone h hints (literal s) → IsSpent h hints above (literal s ∷ []) NoInduction
  spent_below s above spent =
      record { form = normal (normal_alone s spent); holds = (spent.holds.0, suggested above (literal s ∷ []) ∙ (sym (suggested [] (literal s ∷ [])) ∙ spent.holds.1)); first = spent.first }

  abbrev AreStuck : List Signed → Type 0
  AreStuck ss = Each (λ s. IsStuckAlone h hints (literal s)) ss

  normal_clause : (ss : List Signed) → AreStuck ss → AreApart ss → IsNormal h hints (literals ss)
  normal_clause ss stuck apart = normal_together h hints ss (each_mono (λ s. IsStuckAlone h hints (literal s)) (λ s. IsNormal h hints (literal s ∷ [])) normal_alone ss stuck) apart

  -- from a clause IRR leads down to its last literal
  dropped : (above : Above) (s : Signed) (ss : List Signed) (number : ℕ) (old : List Step) → number ≡ length old → AreStuck (s ∷ ss) → AreApart (s ∷ ss) →
      LeavesUnsolved h hints above (literals (s ∷ ss)) number old (dropping_steps (literals ss) old) NoInduction
  dropped above s [] number old is stuck apart = solver_laws.spent h hints above (literal s ∷ []) number old NoInduction (spent_below s above stuck.0)
  dropped above s (u ∷ us) number old is stuck apart =
      let goal = literals (s ∷ u ∷ us) in
      let next = literals (u ∷ us) in
      let pushed = old ++ step (length old) Irr next ∷ [] in
      let new = dropping_steps (literals us) pushed in
      let inner = dropped (passed goal Irr ∷ above) u us (suc (length old)) pushed (pushed_length old (step (length old) Irr next)) stuck.1 (apart_rest s (u ∷ us) apart) in
      let there = subst (λ (n : ℕ). LeavesUnsolved h hints (passed goal Irr ∷ above) next (suc (length old)) (old ++ step n Irr next ∷ []) new NoInduction) (sym is) inner in
      solver_laws.left_over h hints above goal Irr number (next ∷ []) old new NoInduction
      (drops goal (next ∷ []) (normal_clause (s ∷ u ∷ us) stuck apart) (literals_are_dropped h hints above s u us apart))
      (solver_laws.unsolved h hints above goal Irr number [] old old new None NoInduction next (solver_laws.begun h hints above goal Irr number old) there)

  -- all is known of a clause that its steps ask for
  record IsReady (c : List Term) : Type 0 where
    pub first : Signed
    pub rest : List Signed
    pub is : c ≡ literals (first ∷ rest)
    pub stuck : AreStuck (first ∷ rest)
    pub apart : AreApart (first ∷ rest)

  module _ (goal : Clause) where
    abbrev Tried : List Clause → List Step → Option Cause → Type 0
    Tried tried now cause = HasTried h hints [] goal Simp 0 tried [] now cause

    tried_one : (tried : List Clause) (now : List Step) (before : Option Cause) (c : Clause) → IsReady c → first_cause before NoInduction ≡ NoInduction → Tried tried now before →
        Tried (tried ++ c ∷ []) (clause_steps c now) (Some NoInduction)
    tried_one tried now before c ready first so_far =
        let l : Clause = literals (ready.first ∷ ready.rest) in
        let pushed = now ++ step 0 Simp l ∷ [] in
        let here = dropped (passed goal Simp ∷ []) ready.first ready.rest (suc (length now)) pushed (pushed_length now (step 0 Simp l)) ready.stuck ready.apart in
        let one = solver_laws.unsolved h hints [] goal Simp 0 tried [] now (dropping_steps (literals ready.rest) pushed) before NoInduction l so_far here in
        let there = subst (λ (o : Cause). Tried (tried ++ l ∷ []) (dropping_steps (literals ready.rest) pushed) (Some o)) first one in
        subst (λ (d : Clause). Tried (tried ++ d ∷ []) (clause_steps d now) (Some NoInduction)) (sym ready.is) there

    tried_more : (cs tried : List Clause) (now : List Step) → Each IsReady cs → Tried tried now (Some NoInduction) → Tried (tried ++ cs) (clauses_steps cs now) (Some NoInduction)
    tried_more [] tried now ready so_far = subst (λ (ds : List Clause). Tried ds now (Some NoInduction)) (sym (append-nil tried)) so_far
    tried_more (c ∷ cs) tried now ready so_far =
        subst (λ (ds : List Clause). Tried ds (clauses_steps cs (clause_steps c now)) (Some NoInduction)) (append_assoc tried (c ∷ []) cs)
        (tried_more cs (tried ++ c ∷ []) (clause_steps c now) ready.1 (tried_one tried now (Some NoInduction) c ready.0 refl so_far))

    tried_all : (cs : List Clause) → (clauses_steps cs [] ≡ [] → ⊥) → Each IsReady cs → Tried cs (clauses_steps cs []) (Some NoInduction)
    tried_all [] some ready = absurd (some refl)
    tried_all (c ∷ cs) some ready = tried_more cs (c ∷ []) (clause_steps c []) ready.1 (tried_one [] [] None c ready.0 refl (solver_laws.begun h hints [] goal Simp 0 []))

  -- the literals of some of the names are left over alone
  literal_stuck : (xs : List Name) → Each (IsStuckName h hints) xs → (x : Name) (b : Bool) → IsAmong x xs → IsStuckAlone h hints (literal (signed x b))
  literal_stuck xs each x true m = (each_at (IsStuckName h hints) x xs each m).1
  literal_stuck xs each x false m = (each_at (IsStuckName h hints) x xs each m).0

  all_stuck : (xs : List Name) → Each (IsStuckName h hints) xs → (ss : List Signed) → ((x : Name) → IsAmong x (names ss) → IsAmong x xs) → AreStuck ss
  all_stuck xs each [] within = tt
  all_stuck xs each (s ∷ ss) within = (literal_stuck xs each s.name s.denied (within s.name (inl refl)), all_stuck xs each ss (λ x m. within x (inr m)))

  clause_ready : (x : Name) (xs : List Name) → are_distinct (x ∷ xs) ≡ true → Each (IsStuckName h hints) (x ∷ xs) → (c : Clause) → IsOver (x ∷ xs) c → IsReady c
  clause_ready x xs distinct each c over = by_signs over.signs over.is over.over
    where
      by_signs : (ss : List Signed) → c ≡ literals ss → names ss ≡ x ∷ xs → IsReady c
      by_signs [] is names_are = absurd (some_name x xs (sym names_are))
      by_signs (s ∷ ss) is names_are = record {
        first = s;
        rest = ss;
        is = is;
        stuck = all_stuck (x ∷ xs) each (s ∷ ss) (λ y m. subst (λ (ys : List Name). IsAmong y ys) names_are m);
        apart = subst (λ (ys : List Name). are_distinct ys ≡ true) (sym names_are) distinct;
      }

  normal_ready : (c : Clause) → IsReady c → IsNormal h hints c
  normal_ready c ready = subst (IsNormal h hints) (sym ready.is) (normal_clause (ready.first ∷ ready.rest) ready.stuck ready.apart)

  without_ready : (c : Clause) → IsReady c → IsWithoutCopies c
  without_ready c ready = subst IsWithoutCopies (sym ready.is) (without_copies (ready.first ∷ ready.rest) ready.apart)

pub falsehoods_fail : FalsehoodsFail
falsehoods_fail h hints t x xs ot free apart are stuck some =
    let p = proposition_of t in
    let ts = map Variable (x ∷ xs) in
    let cs = false_clauses ts [] [] p in
    let ready = each_mono (IsOver (x ∷ xs)) (IsReady h hints free) (clause_ready h hints free x xs apart stuck) cs (clauses_over p (x ∷ xs) [] []) in
    let simple = falsehoods_simplify h ts t ot (variables_over (x ∷ xs)) are in
    let move = simplifies (t ∷ []) cs simple (each_mono (IsReady h hints free) (IsNormal h hints) (normal_ready h hints free) cs ready) (each_mono (IsReady h hints free) IsWithoutCopies (without_ready h hints free) cs ready) in
    solver_laws.failed h hints (t ∷ []) (falsehood_steps ts p) NoInduction
    (solver_laws.left_over h hints [] (t ∷ []) Simp 0 cs [] (falsehood_steps ts p) NoInduction move (tried_all h hints free (t ∷ []) cs some ready))
  where
    variables_over : (ys : List Name) → Each (IsTerm (symbols_of h)) (map Variable ys)
    variables_over [] = tt
    variables_over (y ∷ ys) = (tt, variables_over ys)
