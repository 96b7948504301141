-- The laws by which a solver goes on.
use Rattle.std.proofs.Common.{◌≡◌, ℕ, suc, ◌+◌, List, [], ◌∷◌, ◌++◌, length, refl, sym, ap, ap₂, subst, arith, ◌∙◌, append_assoc, append-nil, length-append}
use Rattle.std.specs.Prelude.{Option, Some, None}
use Rattle.nq_logic.specs.Terms.{Each}
use Rattle.nq_logic.specs.Formulas.{clause}
use Rattle.nq_logic.specs.Histories.{History}
use Rattle.nq_logic.specs.Derivations.{Derivable}
use Rattle.nq_proof.specs.Clauses.{Clause}
use Rattle.nq_events.specs.Events.{Hints}
use Rattle.nq_goals.specs.declared.kinds.MoveKind.{MoveKind}
use Rattle.nq_goals.specs.declared.kinds.Cause.{Cause}
use Rattle.nq_goals.specs.Paths.{Above, passed}
use Rattle.nq_goals.specs.Moves.{IsMove}
use Rattle.nq_goals.specs.Trees.{Step, IsLeftOf, none, left, proved, IsFailureTree}
use Rattle.nq_goals.specs.Forests.{Forest, Nothing, Goal, size, tops, step, numbered, beside_of, AreUnsolved, IsFirstCause, IsUnsolved}
use Rattle.nq_goals.specs.Solving.{LeavesUnsolved, IsCauseOf, HasTried, first_cause, SolverLaws}
use Rattle.nq_goals.proofs.Steps.{counted}
use Rattle.nq_goals.proofs.Numbering.{unsolved_is_failure_tree}

-- the steps of a forest beside another come behind
pub numbered_beside : (p n : ℕ) (f g : Forest) → numbered p n (beside_of f g) ≡ numbered p n f ++ numbered p (n + size f) g
numbered_beside p n Nothing g = ap (λ m. numbered p m g) (nothing_more n)
  where
    nothing_more : (n : ℕ) → n ≡ n + 0
    nothing_more n = omega arith
numbered_beside p n (Goal k goal below beside) g =
    let inner = numbered n (suc n) below in
    let outer = numbered p (suc (n + size below)) beside in
    let rest : numbered p (suc (n + size below)) (beside_of beside g) ≡ outer ++ numbered p (suc (n + size below) + size beside) g = numbered_beside p (suc (n + size below)) beside g in
    ap (λ r. step p k goal ∷ (inner ++ r)) (rest ∙ ap (λ m. outer ++ numbered p m g) (counts n (size below) (size beside)))
    ∙ ap (λ r. step p k goal ∷ r) (sym (append_assoc inner outer (numbered p (n + suc (size below + size beside)) g)))
  where
    counts : (n a b : ℕ) → suc (n + a) + b ≡ n + suc (a + b)
    counts n a b = omega arith

tops_beside : (f g : Forest) → tops (beside_of f g) ≡ tops f ++ tops g
tops_beside Nothing g = refl
tops_beside (Goal k goal below beside) g = ap (λ r. goal ∷ r) (tops_beside beside g)

module _ (h : History) (hints : Hints) where
  unsolved_beside : (above : Above) (kind : MoveKind) (f g : Forest) → AreUnsolved h hints above kind f → AreUnsolved h hints above kind g → AreUnsolved h hints above kind (beside_of f g)
  unsolved_beside above _ Nothing g u v = v
  unsolved_beside above kind (Goal k goal below beside) g u v = (u.0, u.1, u.2, unsolved_beside above kind beside g u.3 v)

  left_more : (done goals : List Clause) (goal : Clause) → IsLeftOf h done goals → IsLeftOf h (done ++ (goal ∷ [])) (goals ++ (goal ∷ []))
  left_more done goals goal none = left goal none
  left_more done goals goal (left g l) = left g (left_more _ _ goal l)
  left_more done goals goal (proved g e l) = proved g e (left_more _ _ goal l)

  pub proved_more : (done goals : List Clause) (goal : Clause) → IsLeftOf h done goals → Derivable h (clause goal) → IsLeftOf h (done ++ (goal ∷ [])) goals
  proved_more done goals goal none d = proved goal d none
  proved_more done goals goal (left g l) d = left g (proved_more _ _ goal l d)
  proved_more done goals goal (proved g e l) d = proved g e (proved_more _ _ goal l d)

  -- nothing is left where each was proved
  each_proved : (nexts goals : List Clause) → IsLeftOf h nexts goals → goals ≡ [] → Each (λ next. Derivable h (clause next)) nexts
  each_proved nexts goals none e = tt
  each_proved nexts goals (left g l) e = absurd (some_left g _ e)
    where
      some_left : (g : Clause) (gs : List Clause) → (g ∷ gs) ≡ [] → ⊥
      some_left g gs e = cc
  each_proved nexts goals (proved g d l) e = (d, each_proved _ _ l e)

  -- the cause of a forest with one more goal beside it
  cause_beside : (above : Above) (kind : MoveKind) (f : Forest) (before : Option Cause) (next : Clause) (below : Forest) (cause : Cause) → IsCauseOf h hints above f before →
      IsFirstCause h hints above next below cause → IsCauseOf h hints above (beside_of f (Goal kind next below Nothing)) (Some (first_cause before cause))
  cause_beside above _ Nothing None next below cause c i = i
  cause_beside above _ Nothing (Some d) next below cause c i = absurd c
  cause_beside above _ (Goal k g b bs) None next below cause c i = absurd c
  cause_beside above _ (Goal k g b bs) (Some d) next below cause c i = c

  -- the steps with one more goal and what is below it
  steps_beside : (number : ℕ) (old now new : List Step) (f : Forest) (kind : MoveKind) (next : Clause) (below : Forest) → now ≡ old ++ numbered number (suc (length old)) f →
      new ≡ (now ++ (step number kind next ∷ [])) ++ numbered (suc (length now)) (suc (length (now ++ (step number kind next ∷ [])))) below →
      new ≡ old ++ numbered number (suc (length old)) (beside_of f (Goal kind next below Nothing))
  steps_beside number old now new f kind next below e e' =
      let n = suc (length old) in
      let s = step number kind next in
      let count : length now ≡ length old + size f = ap length e ∙ (length-append old (numbered number n f) ∙ ap (λ k. length old + k) (counted number n f)) in
      let count' : length (now ++ (s ∷ [])) ≡ length now + 1 = length-append now (s ∷ []) in
      let start : suc (length now) ≡ n + size f = omega (arith, count) in
      let start' : suc (length (now ++ (s ∷ []))) ≡ suc (n + size f) = omega (arith, count, count') in
      let inner = numbered (n + size f) (suc (n + size f)) below in
      e' ∙ (ap₂ (λ a b. (now ++ (s ∷ [])) ++ numbered a b below) start start' ∙ (append_assoc now (s ∷ []) inner ∙ (ap (λ r. r ++ (s ∷ inner)) e ∙ (append_assoc old (numbered number n f) (s ∷ inner)
      ∙ ap (λ r. old ++ r) (ap (λ r. numbered number n f ++ (s ∷ r)) (sym (append-nil inner)) ∙ sym (numbered_beside number n f (Goal kind next below Nothing)))))))

  tried_unsolved : (above : Above) (goal : Clause) (kind : MoveKind) (number : ℕ) (tried : List Clause) (old now new : List Step) (before : Option Cause) (cause : Cause) (next : Clause) →
      HasTried h hints above goal kind number tried old now before →
      LeavesUnsolved h hints (passed goal kind ∷ above) next (suc (length now)) (now ++ (step number kind next ∷ [])) new cause →
      HasTried h hints above goal kind number (tried ++ (next ∷ [])) old new (Some (first_cause before cause))
  tried_unsolved above goal kind number tried old now new before cause next t l =
      let more = Goal kind next l.forest Nothing in
      record {
        forest = beside_of t.forest more;
        unsolved = unsolved_beside (passed goal kind ∷ above) kind t.forest more t.unsolved (refl, l.unsolved.led, l.unsolved.below, tt);
        left = subst (λ goals. IsLeftOf h (tried ++ (next ∷ [])) goals) (sym (tops_beside t.forest more)) (left_more tried (tops t.forest) next t.left);
        steps = steps_beside number old now new t.forest kind next l.forest t.steps l.steps;
        caused = cause_beside (passed goal kind ∷ above) kind t.forest before next l.forest cause t.caused l.unsolved.caused;
      }

  -- a forest with a cause, to whose tops the move led
  unsolved_by : (above : Above) (goal : Clause) (kind : MoveKind) (nexts : List Clause) (f : Forest) (cause : Cause) → IsMove h hints above kind goal nexts →
      AreUnsolved h hints (passed goal kind ∷ above) kind f → IsLeftOf h nexts (tops f) → IsCauseOf h hints (passed goal kind ∷ above) f (Some cause) → IsUnsolved h hints above goal f cause
  unsolved_by above goal _ nexts Nothing cause m u l c = absurd c
  unsolved_by above goal kind nexts (Goal k g below beside) cause m u l c =
      let e : kind ≡ k = sym u.0 in
      record {
        led = (nexts, subst (λ j. IsMove h hints above j goal nexts) e m, l);
        below = subst (λ j. AreUnsolved h hints (passed goal j ∷ above) j (Goal k g below beside)) e u;
        caused = subst (λ j. IsFirstCause h hints (passed goal j ∷ above) g below cause) e c;
      }

  none_tried : (above : Above) (f : Forest) → IsCauseOf h hints above f None → f ≡ Nothing
  none_tried above Nothing c = refl
  none_tried above (Goal k g below beside) c = absurd c

pub solver_laws : SolverLaws
solver_laws = record {
  spent = λ h hints above goal number old cause s. record {
    forest = Nothing;
    unsolved = record { led = (cause, s); below = tt; caused = s };
    steps = sym (append-nil old);
  };
  begun = λ h hints above goal kind number old. record { forest = Nothing; unsolved = tt; left = none; steps = sym (append-nil old); caused = tt };
  proved = λ h hints above goal kind number tried old now cause next t d. record {
    forest = t.forest;
    unsolved = t.unsolved;
    left = proved_more h hints tried (tops t.forest) next t.left d;
    steps = t.steps;
    caused = t.caused;
  };
  unsolved = λ h hints above goal kind number tried old now new before cause next t l. tried_unsolved h hints above goal kind number tried old now new before cause next t l;
  left_over = λ h hints above goal kind number nexts old now cause m t. record {
    forest = t.forest;
    unsolved = unsolved_by h hints above goal kind nexts t.forest cause m t.unsolved t.left t.caused;
    steps = t.steps;
  };
  all_proved = λ h hints above goal kind number nexts old now t.
      let e = none_tried h hints (passed goal kind ∷ above) t.forest t.caused in (
        t.steps ∙ (ap (λ f. old ++ numbered number (suc (length old)) f) e ∙ append-nil old),
        each_proved h hints nexts (tops t.forest) t.left (ap tops e),
      );
  failed = λ h hints first steps cause l. subst (λ s. IsFailureTree h hints first s cause) (sym l.steps) (unsolved_is_failure_tree h hints first l.forest cause l.unsolved);
}
