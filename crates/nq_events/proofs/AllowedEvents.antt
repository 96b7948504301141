-- Events without a refusal of their own.
use Rattle.std.proofs.Common.{◌≡◌, ◌<◌, ℕ, Bool, true, false, List, [], ◌∷◌, length, refl, sym, subst, arith}
use Rattle.std.specs.Prelude.{◌&&◌, not, is_some, nat_le, Option, None, Some, if◌then◌else◌}
use Rattle.std.proofs.lemmas.Grind.{common_steps}
use Rattle.nq_logic.specs.Terms.{Name, Term, Each}
use Rattle.nq_logic.specs.Histories.{History, RuleClass}
use Rattle.nq_logic.specs.Ground.{ground_history}
use Rattle.nq_logic.specs.Names.{has_name, constant_names, is_in_use, looked_up, event_in}
use Rattle.nq_logic.specs.Admissible.{HasVariables, has_variables, IsMeasured}
use Rattle.nq_logic.specs.RuleShapes.{variables_of, is_of_shape, IsOfShape}
use Rattle.nq_logic.specs.ShellPrinciple.{ShellRefusal, shells_of, shell_refusal, first_repeated, first_outside}
use Rattle.nq_logic.proofs.Tests.{variables_told_law}
use Rattle.nq_logic.proofs.ShapeTests.{first_repeated_law, first_free_law, shapes_told_law}
use Rattle.nq_logic.proofs.ShellTests.{shells_refused_law}
use Rattle.nq_events.specs.Events.{Event, Measure, BootStrap, AddShell, Dcl, Defn, AddAxiom, ProveLemma, Toggle, Undo, Skipped}
use Rattle.nq_events.specs.Refusals.{Refusal, NameInUse, FunctionInUse, NoSuchEvent, GroundEvent, TooManyEvents, FormalIsConstant, RepeatedFormal, FreeVariable, BadMeasureHint, NotOfShape}
use Rattle.nq_events.specs.TermRefusals.{first}
use Rattle.nq_events.specs.OwnRefusals.{own_refusal, refused_if, refused_for, in_use_refusal, unknown_refusal, ground_refusal, room_refusal, first_constant, constant_refusal, repeated_refusal, free_refusal, is_relation, are_good_measures, measures_refusal, shape_refusal, of_shell, principle_refusal, formula_refusal, definition_refusal, event_limit}
use Rattle.nq_events.specs.EventTerms.{HasEventTerms}
use Rattle.nq_events.specs.AllowedEvents.{HasRoom, IsAddable, AreFormals, IsDeclarable, IsDefinable, IsStatable, IsTogglable, IsUndoable, IsAllowedEvent, EventsAreAllowed, plain_definition, PlainDefinitionsAreAdmissible}
use Rattle.nq_events.proofs.EventTerms.{first_left, first_right, events_have_terms}

-- nothing is refused by a test that fails
passed : (b : Bool) (r : Refusal) → refused_if b r ≡ None → b ≡ false
passed true r e = absurd (cc)
passed false r e = refl

denied : (b : Bool) (r : Refusal) → refused_if (not b) r ≡ None → b ≡ true
denied true r e = refl
denied false r e = absurd (cc)

no_name : (why : Name → Refusal) (o : Option Name) → refused_for why o ≡ None → o ≡ None
no_name why None e = refl
no_name why (Some x) e = absurd (cc)

none_there : {X : Type 0} (o : Option X) → is_some o ≡ false → o ≡ None
none_there None e = refl
none_there (Some x) e = absurd (cc)

below : (n : ℕ) → nat_le event_limit n ≡ false → n < event_limit
below n e = grind (arith, common_steps)

module _ (h : History) where
  has_room : room_refusal h ≡ None → HasRoom h
  has_room e = below (length h) (passed (nat_le event_limit (length h)) TooManyEvents e)

  addable : (why : Name → Refusal) (name : Name) → in_use_refusal why h name ≡ None → room_refusal h ≡ None → IsAddable h name
  addable why name e r = record { unused = passed (is_in_use name h) (why name) e; room = has_room r }

  no_constant_first : (b : Bool) (x : Name) (xs : List Name) → has_name x constant_names ≡ b → (first_constant xs ≡ None → Each (λ (y : List ℕ). has_name y constant_names ≡ false) xs)
      → (if b then Some x else first_constant xs) ≡ None → Each (λ (y : List ℕ). has_name y constant_names ≡ false) (x ∷ xs)
  no_constant_first true x xs same rest e = absurd (cc)
  no_constant_first false x xs same rest e = (same, rest e)

  no_constants : (xs : List Name) → first_constant xs ≡ None → Each (λ (y : List ℕ). has_name y constant_names ≡ false) xs
  no_constants [] e = tt
  no_constants (x ∷ xs) e = no_constant_first (has_name x constant_names) x xs refl (no_constants xs) e

  are_formals : (xs : List Name) → constant_refusal xs ≡ None → repeated_refusal xs ≡ None → AreFormals xs
  are_formals xs c r = record {
    distinct = (first_repeated_law xs).0 (no_name RepeatedFormal (first_repeated xs) r);
    variables = no_constants xs (no_name FormalIsConstant (first_constant xs) c);
  }

  and_left : (a b : Bool) → (a && b) ≡ true → a ≡ true
  and_left true b e = refl
  and_left false b e = e

  and_right : (a b : Bool) → (a && b) ≡ true → b ≡ true
  and_right true b e = e
  and_right false b e = absurd (cc)

  good_measures : (xs : List Name) (ms : List Measure) → are_good_measures xs ms ≡ true → Each (λ (m : Measure). HasVariables xs m.term) ms
  good_measures xs [] e = tt
  good_measures xs (m ∷ ms) e =
      let front = and_left (is_relation m.relation && has_variables xs m.term) (are_good_measures xs ms) e in
      ((variables_told_law xs m.term).0 (and_right (is_relation m.relation) (has_variables xs m.term) front), good_measures xs ms (and_right (is_relation m.relation && has_variables xs m.term) (are_good_measures xs ms) e))

  fits_first : (b : Bool) (class : RuleClass) (classes : List RuleClass) (t : Term) → is_of_shape class t ≡ b → (shape_refusal classes t ≡ None → Each (λ c. IsOfShape c t) classes)
      → (if b then shape_refusal classes t else Some (NotOfShape class)) ≡ None → Each (λ c. IsOfShape c t) (class ∷ classes)
  fits_first true class classes t same rest e = ((shapes_told_law class t).0 same, rest e)
  fits_first false class classes t same rest e = absurd (cc)

  fits_all : (classes : List RuleClass) (t : Term) → shape_refusal classes t ≡ None → Each (λ c. IsOfShape c t) classes
  fits_all [] t e = tt
  fits_all (class ∷ classes) t e = fits_first (is_of_shape class t) class classes t refl (fits_all classes t) e

  of_no_shell : (o : Option ShellRefusal) → of_shell o ≡ None → o ≡ None
  of_no_shell None e = refl
  of_no_shell (Some r) e = absurd (cc)

  statable : (name : Name) (classes : List RuleClass) (t : Term) → formula_refusal h name classes t ≡ None → IsStatable h name classes t
  statable name classes t e =
      let rest = first_right (in_use_refusal NameInUse h name) (first (shape_refusal classes t) (room_refusal h)) e in
      record {
        addable = addable NameInUse name (first_left (in_use_refusal NameInUse h name) (first (shape_refusal classes t) (room_refusal h)) e) (first_right (shape_refusal classes t) (room_refusal h) rest);
        fits = fits_all classes t (first_left (shape_refusal classes t) (room_refusal h) rest);
      }

  declarable : (name : Name) (xs : List Name) → own_refusal h (Dcl name xs) ≡ None → IsDeclarable h name xs
  unfolding own_refusal
  declarable name xs e =
      let used = in_use_refusal NameInUse h name in
      let formals = first_right used (first (constant_refusal xs) (first (repeated_refusal xs) (room_refusal h))) e in
      let rest = first_right (constant_refusal xs) (first (repeated_refusal xs) (room_refusal h)) formals in
      record {
        addable = addable NameInUse name (first_left used (first (constant_refusal xs) (first (repeated_refusal xs) (room_refusal h))) e) (first_right (repeated_refusal xs) (room_refusal h) rest);
        formals_are = are_formals xs (first_left (constant_refusal xs) (first (repeated_refusal xs) (room_refusal h)) formals) (first_left (repeated_refusal xs) (room_refusal h) rest);
      }

  definable : (name : Name) (xs : List Name) (body : Term) (ms : List Measure) → definition_refusal h name xs body ms ≡ None → IsDefinable h name xs body ms
  definable name xs body ms e =
      let used = in_use_refusal FunctionInUse h name in
      let constant = constant_refusal xs in
      let repeated = repeated_refusal xs in
      let free = free_refusal xs body in
      let last = first (measures_refusal xs ms) (room_refusal h) in
      let from_constant = first_right used (first constant (first repeated (first free last))) e in
      let from_repeated = first_right constant (first repeated (first free last)) from_constant in
      let from_free = first_right repeated (first free last) from_repeated in
      let from_measures = first_right free last from_free in
      record {
        addable = addable FunctionInUse name (first_left used (first constant (first repeated (first free last))) e) (first_right (measures_refusal xs ms) (room_refusal h) from_measures);
        formals_are = are_formals xs (first_left constant (first repeated (first free last)) from_constant) (first_left repeated (first free last) from_repeated);
        closed = (first_free_law xs body).0 (no_name FreeVariable (first_outside xs (variables_of body)) (first_left free last from_free));
        measured = good_measures xs ms (denied (are_good_measures xs ms) BadMeasureHint (first_left (measures_refusal xs ms) (room_refusal h) from_measures));
      }

  togglable : (name old : Name) (disabled : Bool) → own_refusal h (Toggle name old disabled) ≡ None → IsTogglable h name old
  unfolding own_refusal
  togglable name old disabled e =
      let used = in_use_refusal NameInUse h name in
      let rest = first_right used (first (unknown_refusal h old) (room_refusal h)) e in
      record {
        addable = addable NameInUse name (first_left used (first (unknown_refusal h old) (room_refusal h)) e) (first_right (unknown_refusal h old) (room_refusal h) rest);
        known = denied (is_some (looked_up old h)) (NoSuchEvent old) (first_left (unknown_refusal h old) (room_refusal h) rest);
      }

  undoable : (name : Name) → own_refusal h (Undo name) ≡ None → IsUndoable h name
  unfolding own_refusal
  undoable name e = record {
    known = denied (is_some (looked_up name h)) (NoSuchEvent name) (first_left (unknown_refusal h name) (ground_refusal name) e);
    own = none_there (event_in name ground_history) (passed (is_some (event_in name ground_history)) (GroundEvent name) (first_right (unknown_refusal h name) (ground_refusal name) e));
  }

  allowed : (event : Event) → own_refusal h event ≡ None → IsAllowedEvent h event
  unfolding own_refusal
  allowed BootStrap e = tt
  allowed (AddShell shell) e = record {
    accepted = ((shells_refused_law (λ name. is_in_use name h) (shells_of h) shell).0 (of_no_shell (shell_refusal (λ name. is_in_use name h) (shells_of h) shell) (first_left (principle_refusal h shell) (room_refusal h) e))).0;
    room = has_room (first_right (principle_refusal h shell) (room_refusal h) e);
  }
  allowed (Dcl name formals) e = declarable name formals e
  allowed (Defn name formals body measures) e = definable name formals body measures e
  allowed (AddAxiom name classes t) e = statable name classes t e
  allowed (ProveLemma name classes t hints) e = statable name classes t e
  allowed (Toggle name old disabled) e = togglable name old disabled e
  allowed (Undo name) e = undoable name e
  allowed Skipped e = tt

pub events_are_allowed : EventsAreAllowed
events_are_allowed h event e = allowed h event e

pub plain_definitions : PlainDefinitionsAreAdmissible
plain_definitions h form name formals body measures e is own plain =
    let terms : HasEventTerms h (Defn name formals body measures) = subst (λ (event : Event). HasEventTerms h event) is (events_have_terms h form e) in
    let d : IsDefinable h name formals body measures = events_are_allowed h (Defn name formals body measures) own in
    record {
      unused = d.addable.unused;
      distinct = d.formals_are.distinct;
      closed = d.closed;
      over = terms.body_term.read.over;
      measured = subst (λ (b : Bool). IsMeasured h (plain_definition name formals body) b None) (sym plain) tt;
    }
