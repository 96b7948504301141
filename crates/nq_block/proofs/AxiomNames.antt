-- The name of an axiom is a name of the history.
use Rattle.std.proofs.Common.{◌≡◌, ◌⊎◌, Bool, true, false, ℕ, zero, suc, ◌==◌, List, [], ◌∷◌, ◌++◌, ◌&&◌, ◌||◌, map, Option, Some, None, inl, inr, refl, sym, subst}
use Rattle.std.proofs.lemmas.List.{map-append}
use Rattle.std.proofs.lemmas.Slice.Eq.{bytes_eq-Decides}
use Rattle.std.specs.Prelude.{bytes_eq}
use Rattle.nq_logic.specs.Terms.{Name, Term, IsAmong}
use Rattle.nq_logic.specs.Histories.{History, AddShell, Declaration, Defines, Axiom, Lemma, Toggle, Shell, Definition, events_shells, events_definitions}
use Rattle.nq_logic.specs.Ground.{all_events, ground_history, ground_definitions, ground_shells}
use Rattle.nq_logic.specs.Names.{event_names, events_names, has_name, are_among}
use Rattle.nq_logic.proofs.Lists.{among_right}
use Rattle.nq_proof.specs.Clauses.{Clause}
use Rattle.nq_proof.specs.Rows.{GroundRow, ground_rows, row_found, definition_found, opening_at, shell_row, shell_clause_at, shell_found, first_found, without_part, axiom_clause}
use Rattle.nq_block.proofs.Named.{of_ground, of_events, either_list}

abbrev row_names : List GroundRow → List Name
row_names rows = map (λ r. r.name) rows

abbrev definition_names : List Definition → List Name
definition_names ds = map (λ d. d.function) ds

abbrev shell_names : List Shell → List Name
shell_names shells = map (λ s. s.constructor) shells

same : (x y : Name) → bytes_eq x y ≡ true → x ≡ y
same x y e = (bytes_eq-Decides x y).0 e

row_named : (x : Name) (row : ℕ) (rows : List GroundRow) (c : Clause) → row_found x row rows ≡ Some c → IsAmong x (row_names rows)
row_named x row [] c e = absurd cc
row_named x row (r ∷ rows) c e = by_test (bytes_eq x r.name) (row == r.row) refl (λ f. row_named x row rows c f) e
  where
    by_test : (a b : Bool) → bytes_eq x r.name ≡ a → (row_found x row rows ≡ Some c → IsAmong x (row_names rows)) →
        elim (a && b) as (λ b. Option (List Term)) [ true ↦ Some r.literals | false ↦ row_found x row rows ] ≡ Some c → IsAmong x (row_names (r ∷ rows))
    by_test true b is again f = inl (same x r.name is)
    by_test false b is again f = inr (again f)

definition_named : (x : Name) (ds : List Definition) (d : Definition) → definition_found x ds ≡ Some d → IsAmong x (definition_names ds)
definition_named x [] d e = absurd cc
definition_named x (first ∷ ds) d e = by_test (bytes_eq x first.function) refl (λ f. definition_named x ds d f) e
  where
    by_test : (b : Bool) → bytes_eq x first.function ≡ b → (definition_found x ds ≡ Some d → IsAmong x (definition_names ds)) → elim b as (λ b. Option Definition) [ true ↦ Some first | false ↦ definition_found x ds ] ≡ Some d → IsAmong x (definition_names (first ∷ ds))
    by_test true is again f = inl (same x first.function is)
    by_test false is again f = inr (again f)

opening_named : (x : Name) (row : ℕ) (ds : List Definition) (c : Clause) → opening_at row (definition_found x ds) ≡ Some c → IsAmong x (definition_names ds)
opening_named x row ds c e = by_found (definition_found x ds) refl e
  where
    by_found : (o : Option Definition) → definition_found x ds ≡ o → opening_at row o ≡ Some c → IsAmong x (definition_names ds)
    by_found None is f = absurd cc
    by_found (Some d) is f = definition_named x ds d is

shell_named : (x : Name) (row i : ℕ) (earlier shells : List Shell) (c : Clause) → shell_found x row i earlier shells ≡ Some c → IsAmong x (shell_names shells)
shell_named x row i earlier [] c e = absurd cc
shell_named x row i earlier (s ∷ later) c e = by_test (bytes_eq x s.constructor) refl (λ f. shell_named x row i (earlier ++ (s ∷ [])) later c f) e
  where
    by_test : (b : Bool) → bytes_eq x s.constructor ≡ b → (shell_found x row i (earlier ++ (s ∷ [])) later ≡ Some c → IsAmong x (shell_names later)) →
        elim b as (λ b. Option (List Term)) [ true ↦ shell_clause_at earlier s i (shell_row row) | false ↦ shell_found x row i (earlier ++ (s ∷ [])) later ] ≡ Some c → IsAmong x (shell_names (s ∷ later))
    by_test true is again f = inl (same x s.constructor is)
    by_test false is again f = inr (again f)

-- ---- names of the ground history

has_among : (x : Name) (ys : List Name) → has_name x ys ≡ true → IsAmong x ys
has_among x [] e = absurd cc
has_among x (y ∷ ys) e = by_test (bytes_eq x y) refl (λ f. has_among x ys f) e
  where
    by_test : (b : Bool) → bytes_eq x y ≡ b → (has_name x ys ≡ true → IsAmong x ys) → b || has_name x ys ≡ true → IsAmong x (y ∷ ys)
    by_test true is again f = inl (same x y is)
    by_test false is again f = inr (again f)

all_among : (xs ys : List Name) → are_among xs ys ≡ true → (x : Name) → IsAmong x xs → IsAmong x ys
all_among [] ys e x m = absurd m
all_among (first ∷ xs) ys e x m = by_test (has_name first ys) refl (λ f there. all_among xs ys f x there) e m
  where
    by_test : (b : Bool) → has_name first ys ≡ b → (are_among xs ys ≡ true → IsAmong x xs → IsAmong x ys) → b && are_among xs ys ≡ true → IsAmong x (first ∷ xs) → IsAmong x ys
    by_test true is again f (inl here) = subst (λ y. IsAmong y ys) (sym here) (has_among first ys is)
    by_test true is again f (inr there) = again f there
    by_test false is again f k = absurd cc

ground_row_names : are_among (row_names ground_rows) (events_names ground_history) ≡ true
ground_row_names = refl

ground_definition_names : are_among (definition_names ground_definitions) (events_names ground_history) ≡ true
ground_definition_names = refl

ground_shell_names : are_among (shell_names ground_shells) (events_names ground_history) ≡ true
ground_shell_names = refl

-- ---- names of the events

definition_of_events : (x : Name) (h : History) → IsAmong x (definition_names (events_definitions h)) → IsAmong x (events_names h)
definition_of_events x [] m = absurd m
definition_of_events x (AddShell s ∷ h) m = among_right x (event_names (AddShell s)) (events_names h) (definition_of_events x h m)
definition_of_events x (Declaration f n ∷ h) m = among_right x (event_names (Declaration f n)) (events_names h) (definition_of_events x h m)
definition_of_events x (Defines d ∷ h) (inl e) = inl e
definition_of_events x (Defines d ∷ h) (inr m) = among_right x (event_names (Defines d)) (events_names h) (definition_of_events x h m)
definition_of_events x (Axiom n classes t ∷ h) m = among_right x (event_names (Axiom n classes t)) (events_names h) (definition_of_events x h m)
definition_of_events x (Lemma n classes t ∷ h) m = among_right x (event_names (Lemma n classes t)) (events_names h) (definition_of_events x h m)
definition_of_events x (Toggle n old disabled ∷ h) m = among_right x (event_names (Toggle n old disabled)) (events_names h) (definition_of_events x h m)

shell_of_events : (x : Name) (h : History) → IsAmong x (shell_names (events_shells h)) → IsAmong x (events_names h)
shell_of_events x [] m = absurd m
shell_of_events x (AddShell s ∷ h) (inl e) = inl e
shell_of_events x (AddShell s ∷ h) (inr m) = among_right x (event_names (AddShell s)) (events_names h) (shell_of_events x h m)
shell_of_events x (Declaration f n ∷ h) m = among_right x (event_names (Declaration f n)) (events_names h) (shell_of_events x h m)
shell_of_events x (Defines d ∷ h) m = among_right x (event_names (Defines d)) (events_names h) (shell_of_events x h m)
shell_of_events x (Axiom n classes t ∷ h) m = among_right x (event_names (Axiom n classes t)) (events_names h) (shell_of_events x h m)
shell_of_events x (Lemma n classes t ∷ h) m = among_right x (event_names (Lemma n classes t)) (events_names h) (shell_of_events x h m)
shell_of_events x (Toggle n old disabled ∷ h) m = among_right x (event_names (Toggle n old disabled)) (events_names h) (shell_of_events x h m)

-- what is found without a part, or else something other
first_or_other : (a b : Option Clause) (c : Clause) → first_found a b ≡ Some c → (a ≡ Some c) ⊎ (b ≡ Some c)
first_or_other None b c e = inr e
first_or_other (Some d) b c e = inl e

part_found : (i : ℕ) (o : Option Clause) (c : Clause) → without_part i o ≡ Some c → o ≡ Some c
part_found zero o c e = e
part_found (suc i) o c e = absurd cc

pub axiom_named : (h : History) (x : Name) (row i : ℕ) (c : Clause) → axiom_clause h x row i ≡ Some c → IsAmong x (events_names (all_events h))
axiom_named h x row i c e =
    let rows : Option Clause = without_part i (row_found x row ground_rows) in
    let definitions : Option Clause = without_part i (opening_at row (definition_found x (ground_definitions ++ events_definitions h))) in
    let shells : Option Clause = shell_found x row i [] (ground_shells ++ events_shells h) in
    elim (first_or_other rows (first_found definitions shells) c e) [
      | inl f ↦ of_ground h x (all_among (row_names ground_rows) (events_names ground_history) ground_row_names x (row_named x row ground_rows c (part_found i (row_found x row ground_rows) c f)))
      | inr f ↦ elim (first_or_other definitions shells c f) [
        | inl g ↦ of_definitions (opening_named x row (ground_definitions ++ events_definitions h) c (part_found i (opening_at row (definition_found x (ground_definitions ++ events_definitions h))) c g))
        | inr g ↦ of_shells (shell_named x row i [] (ground_shells ++ events_shells h) c g)
      ]
    ]
  where
    of_definitions : IsAmong x (definition_names (ground_definitions ++ events_definitions h)) → IsAmong x (events_names (all_events h))
    of_definitions m =
        elim (either_list x (definition_names ground_definitions) (definition_names (events_definitions h)) (subst (IsAmong x) (map-append (λ d. d.function) ground_definitions (events_definitions h)) m)) [
          | inl here ↦ of_ground h x (all_among (definition_names ground_definitions) (events_names ground_history) ground_definition_names x here)
          | inr there ↦ of_events h x (definition_of_events x h there)
        ]

    of_shells : IsAmong x (shell_names (ground_shells ++ events_shells h)) → IsAmong x (events_names (all_events h))
    of_shells m =
        elim (either_list x (shell_names ground_shells) (shell_names (events_shells h)) (subst (IsAmong x) (map-append (λ s. s.constructor) ground_shells (events_shells h)) m)) [
          | inl here ↦ of_ground h x (all_among (shell_names ground_shells) (events_names ground_history) ground_shell_names x here)
          | inr there ↦ of_events h x (shell_of_events x h there)
        ]
