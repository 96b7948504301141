-- The clause under a name in the tables is an axiom's, or follows from one.
use Rattle.std.proofs.Common.{◌≡◌, true, ℕ, zero, suc, List, [], ◌∷◌, ◌++◌, ◌⊎◌, ◌==◌, ◌&&◌, map, inl, inr, refl, sym, ap, subst, append_assoc}
use Rattle.std.specs.Prelude.{Option, Some, None, bytes_eq, slice_get}
use Rattle.nq_logic.specs.Terms.{Name, Term, Variable, call, IsAmong, Each}
use Rattle.nq_logic.specs.Words.{false_term, equal_term, not_term}
use Rattle.nq_logic.specs.Formulas.{Equation, holds, clause}
use Rattle.nq_logic.specs.Histories.{History, Shell, Definition, events_shells, events_definitions}
use Rattle.nq_logic.specs.Ground.{ground_definitions, ground_shells}
use Rattle.nq_logic.specs.Shells.{IsShellClause, recognizer_is_truth_value, made_is_recognized, base_is_recognized, made_is_no_base, remade_is_same, part_of_made, wrong_part_of_made, part_of_other, part_of_base, wrong_part, truth_is_none, falsity_is_none, kinds_differ, size_of_made, size_of_base}
use Rattle.nq_logic.specs.Derivations.{Derivable, definition, shell, size_is_number, one_less_is_less}
use Rattle.nq_logic.specs.Laws.{IsClause}
use Rattle.nq_logic.proofs.Symbols.{ground_terms}
use Rattle.nq_logic.proofs.Basic.{detached}
use Rattle.nq_logic.proofs.Patterns.{Part as Place, No, follows2}
use Rattle.nq_logic.proofs.Equality.{If, axiom_here, same, falsity_over, truth_is_no_falsity}
use Rattle.nq_logic.proofs.Values.{not_over, not_holds}
use Rattle.nq_logic.proofs.Replacements.{equal_holds}
use Rattle.nq_logic.proofs.Clauses.{clause_over}
use Rattle.nq_logic.proofs.Rows.{falsity_law, equal_law, if_false_law, if_true_law}
use Rattle.nq_proof.specs.Clauses.{Clause}
use Rattle.nq_proof.specs.Rows.{first_found, GroundRow, ground_rows, row_found, definition_found, opening, opening_at, ShellRow, RecognizerIsTruthValue, MadeIsRecognized, BaseIsRecognized, MadeIsNoBase, RemadeIsSame, PartOfMade, WrongPartOfMade, PartOfOther, PartOfBase, WrongPart, TruthIsNone, FalsityIsNone, KindsDiffer, SizeOfMade, SizeOfBase, shell_row, whole_row, base_row, found_row, shell_clause, shell_clause_at, shell_found, without_part, axiom_clause}
use Rattle.nq_proof.proofs.Tests.{chosen_some, none_is_not_some, some_same}

-- the number of a row
abbrev row_number : ShellRow → ℕ
row_number RecognizerIsTruthValue = 1
row_number MadeIsRecognized = 2
row_number BaseIsRecognized = 3
row_number MadeIsNoBase = 4
row_number RemadeIsSame = 5
row_number PartOfMade = 6
row_number WrongPartOfMade = 7
row_number PartOfOther = 8
row_number PartOfBase = 9
row_number WrongPart = 10
row_number TruthIsNone = 11
row_number FalsityIsNone = 12
row_number KindsDiffer = 13
row_number SizeOfMade = 14
row_number SizeOfBase = 15

row_number_is : (n : ℕ) (r : ShellRow) → shell_row n ≡ Some r → row_number r ≡ n
row_number_is zero r e = absurd (none_is_not_some r e)
row_number_is (suc zero) r e = ap row_number (sym (some_same RecognizerIsTruthValue r e))
row_number_is (suc (suc (zero))) r e = ap row_number (sym (some_same MadeIsRecognized r e))
row_number_is (suc (suc (suc (zero)))) r e = ap row_number (sym (some_same BaseIsRecognized r e))
row_number_is (suc (suc (suc (suc (zero))))) r e = ap row_number (sym (some_same MadeIsNoBase r e))
row_number_is (suc (suc (suc (suc (suc (zero)))))) r e = ap row_number (sym (some_same RemadeIsSame r e))
row_number_is (suc (suc (suc (suc (suc (suc (zero))))))) r e = ap row_number (sym (some_same PartOfMade r e))
row_number_is (suc (suc (suc (suc (suc (suc (suc (zero)))))))) r e = ap row_number (sym (some_same WrongPartOfMade r e))
row_number_is (suc (suc (suc (suc (suc (suc (suc (suc (zero))))))))) r e = ap row_number (sym (some_same PartOfOther r e))
row_number_is (suc (suc (suc (suc (suc (suc (suc (suc (suc (zero)))))))))) r e = ap row_number (sym (some_same PartOfBase r e))
row_number_is (suc (suc (suc (suc (suc (suc (suc (suc (suc (suc (zero))))))))))) r e = ap row_number (sym (some_same WrongPart r e))
row_number_is (suc (suc (suc (suc (suc (suc (suc (suc (suc (suc (suc (zero)))))))))))) r e = ap row_number (sym (some_same TruthIsNone r e))
row_number_is (suc (suc (suc (suc (suc (suc (suc (suc (suc (suc (suc (suc (zero))))))))))))) r e = ap row_number (sym (some_same FalsityIsNone r e))
row_number_is (suc (suc (suc (suc (suc (suc (suc (suc (suc (suc (suc (suc (suc (zero)))))))))))))) r e = ap row_number (sym (some_same KindsDiffer r e))
row_number_is (suc (suc (suc (suc (suc (suc (suc (suc (suc (suc (suc (suc (suc (suc (zero))))))))))))))) r e = ap row_number (sym (some_same SizeOfMade r e))
row_number_is (suc (suc (suc (suc (suc (suc (suc (suc (suc (suc (suc (suc (suc (suc (suc (zero)))))))))))))))) r e = ap row_number (sym (some_same SizeOfBase r e))
row_number_is (suc (suc (suc (suc (suc (suc (suc (suc (suc (suc (suc (suc (suc (suc (suc (suc (n))))))))))))))))) r e = absurd (none_is_not_some r e)

whole_row_is : (i : ℕ) (d c : Clause) → whole_row i d ≡ Some c → (i ≡ 0) × (d ≡ c)
whole_row_is zero d c e = (refl, some_same d c e)
whole_row_is (suc i) d c e = absurd (none_is_not_some c e)

base_row_is : (i : ℕ) (d : Name → Clause) (base : Option Name) (c : Clause) → base_row i d base ≡ Some c → (b : Name) × (base ≡ Some b) × (i ≡ 0) × (d b ≡ c)
base_row_is zero d None c e = absurd (none_is_not_some c e)
base_row_is zero d (Some b) c e = (b, refl, refl, some_same (d b) c e)
base_row_is (suc i) d base c e = absurd (none_is_not_some c e)

found_row_is : {X : Type 0} (i : ℕ) (d : ℕ → X → Option Clause) (xs : List X) (c : Clause) → found_row i d xs ≡ Some c → (k : ℕ) × (x : X) × (i ≡ suc k) × (slice_get xs k ≡ Some x) × (d k x ≡ Some c)
found_row_is zero d xs c e = absurd (none_is_not_some c e)
found_row_is {X = X} (suc k) d xs c e = by_place (slice_get xs k) refl e
  where
    by_place : (o : Option X) → slice_get xs k ≡ o → elim o as (λ o. Option (List Term)) [ None ↦ None | Some x ↦ d k x ] ≡ Some c →
        (j : ℕ) × (x : X) × (suc k ≡ suc j) × (slice_get xs j ≡ Some x) × (d j x ≡ Some c)
    by_place None f g = absurd (none_is_not_some c g)
    by_place (Some x) f g = (k, x, refl, f, g)

module _ (earlier : List Shell) (s : Shell) where
  abbrev Says : ℕ → ShellRow → Clause → Type 0
  Says i r c = IsShellClause earlier s (row_number r) i c

  shell_clause_is : (i : ℕ) (r : ShellRow) (c : Clause) → shell_clause earlier s i r ≡ Some c → Says i r c
  shell_clause_is i RecognizerIsTruthValue c e =
      let q = whole_row_is i _ c e in subst (λ i. Says i RecognizerIsTruthValue c) (sym q.0) (subst (λ c. Says 0 RecognizerIsTruthValue c) q.1 recognizer_is_truth_value)
  shell_clause_is i MadeIsRecognized c e =
      let q = whole_row_is i _ c e in subst (λ i. Says i MadeIsRecognized c) (sym q.0) (subst (λ c. Says 0 MadeIsRecognized c) q.1 made_is_recognized)
  shell_clause_is i BaseIsRecognized c e =
      let q = base_row_is i _ s.base c e in subst (λ i. Says i BaseIsRecognized c) (sym q.2) (subst (λ c. Says 0 BaseIsRecognized c) q.3 (base_is_recognized q.0 q.1))
  shell_clause_is i MadeIsNoBase c e =
      let q = base_row_is i _ s.base c e in subst (λ i. Says i MadeIsNoBase c) (sym q.2) (subst (λ c. Says 0 MadeIsNoBase c) q.3 (made_is_no_base q.0 q.1))
  shell_clause_is i RemadeIsSame c e =
      let q = whole_row_is i _ c e in subst (λ i. Says i RemadeIsSame c) (sym q.0) (subst (λ c. Says 0 RemadeIsSame c) q.1 remade_is_same)
  shell_clause_is i PartOfMade c e =
      let q = found_row_is i _ s.parts c e in subst (λ i. Says i PartOfMade c) (sym q.2) (subst (λ c. Says (suc q.0) PartOfMade c) (some_same _ c q.4) (part_of_made q.0 q.1 q.3))
  shell_clause_is i WrongPartOfMade c e =
      let q = found_row_is i _ s.parts c e in subst (λ i. Says i WrongPartOfMade c) (sym q.2) (subst (λ c. Says (suc q.0) WrongPartOfMade c) (some_same _ c q.4) (wrong_part_of_made q.0 q.1 q.3))
  shell_clause_is i PartOfOther c e =
      let q = found_row_is i _ s.parts c e in subst (λ i. Says i PartOfOther c) (sym q.2) (subst (λ c. Says (suc q.0) PartOfOther c) (some_same _ c q.4) (part_of_other q.0 q.1 q.3))
  shell_clause_is i PartOfBase c e =
      let q = found_row_is i _ s.parts c e in let b = base_row_is 0 _ s.base c q.4 in subst (λ i. Says i PartOfBase c) (sym q.2) (subst (λ c. Says (suc q.0) PartOfBase c) b.3 (part_of_base q.0 q.1 b.0 q.3 b.1))
  shell_clause_is i WrongPart c e =
      let q = found_row_is i _ s.parts c e in subst (λ i. Says i WrongPart c) (sym q.2) (subst (λ c. Says (suc q.0) WrongPart c) (some_same _ c q.4) (wrong_part q.0 q.1 q.3))
  shell_clause_is i TruthIsNone c e =
      let q = whole_row_is i _ c e in subst (λ i. Says i TruthIsNone c) (sym q.0) (subst (λ c. Says 0 TruthIsNone c) q.1 truth_is_none)
  shell_clause_is i FalsityIsNone c e =
      let q = whole_row_is i _ c e in subst (λ i. Says i FalsityIsNone c) (sym q.0) (subst (λ c. Says 0 FalsityIsNone c) q.1 falsity_is_none)
  shell_clause_is i KindsDiffer c e =
      let q = found_row_is i _ earlier c e in subst (λ i. Says i KindsDiffer c) (sym q.2) (subst (λ c. Says (suc q.0) KindsDiffer c) (some_same _ c q.4) (kinds_differ q.0 q.1 q.3))
  shell_clause_is i SizeOfMade c e =
      let q = whole_row_is i _ c e in subst (λ i. Says i SizeOfMade c) (sym q.0) (subst (λ c. Says 0 SizeOfMade c) q.1 size_of_made)
  shell_clause_is i SizeOfBase c e =
      let q = base_row_is i _ s.base c e in subst (λ i. Says i SizeOfBase c) (sym q.2) (subst (λ c. Says 0 SizeOfBase c) q.3 (size_of_base q.0 q.1))

  shell_clause_at_is : (i row : ℕ) (c : Clause) → shell_clause_at earlier s i (shell_row row) ≡ Some c → IsShellClause earlier s row i c
  shell_clause_at_is i row c e = by_row (shell_row row) refl e
    where
      by_row : (o : Option ShellRow) → shell_row row ≡ o → shell_clause_at earlier s i o ≡ Some c → IsShellClause earlier s row i c
      by_row None f g = absurd (none_is_not_some c g)
      by_row (Some r) f g = subst (λ n. IsShellClause earlier s n i c) (row_number_is row r f) (shell_clause_is i r c g)

-- a shell of the list, with what stands before it and behind it
abbrev pub IsShellAt : List Shell → ℕ → ℕ → Clause → Type 0
IsShellAt shells row i c = (before : List Shell) × (s : Shell) × (after : List Shell) × (shells ≡ before ++ (s ∷ after)) × IsShellClause before s row i c

pub shell_found_is : (name : Name) (row i : ℕ) (earlier later : List Shell) (c : Clause) → shell_found name row i earlier later ≡ Some c → IsShellAt (earlier ++ later) row i c
shell_found_is name row i earlier [] c e = absurd (none_is_not_some c e)
shell_found_is name row i earlier (s ∷ later) c e =
    by_name (λ f. shell_found_is name row i (earlier ++ (s ∷ [])) later c f)
    (chosen_some (bytes_eq name s.constructor) (shell_clause_at earlier s i (shell_row row)) (shell_found name row i (earlier ++ (s ∷ [])) later) c e)
  where
    by_name : (shell_found name row i (earlier ++ (s ∷ [])) later ≡ Some c → IsShellAt ((earlier ++ (s ∷ [])) ++ later) row i c) →
        ((bytes_eq name s.constructor ≡ true) × (shell_clause_at earlier s i (shell_row row) ≡ Some c)) ⊎ (shell_found name row i (earlier ++ (s ∷ [])) later ≡ Some c) →
        IsShellAt (earlier ++ (s ∷ later)) row i c
    by_name again (inl p) = (earlier, s, later, refl, shell_clause_at_is earlier s i row c p.1)
    by_name again (inr p) = subst (λ shells. IsShellAt shells row i c) (append_assoc earlier (s ∷ []) later) (again p)

pub row_found_is : (P : Clause → Type 0) (name : Name) (row : ℕ) (rows : List GroundRow) (c : Clause) → Each (λ r. P r.literals) rows → row_found name row rows ≡ Some c → P c
row_found_is P name row [] c ps e = absurd (none_is_not_some c e)
row_found_is P name row (r ∷ rows) c ps e =
    by_name (λ f. row_found_is P name row rows c ps.1 f) (chosen_some (bytes_eq name r.name && (row == r.row)) (Some r.literals) (row_found name row rows) c e)
  where
    by_name : (row_found name row rows ≡ Some c → P c) → ((bytes_eq name r.name && (row == r.row) ≡ true) × (Some r.literals ≡ Some c)) ⊎ (row_found name row rows ≡ Some c) → P c
    by_name again (inl p) = subst P (some_same r.literals c p.1) ps.0
    by_name again (inr p) = again p

pub definition_found_is : (name : Name) (ds : List Definition) (d : Definition) → definition_found name ds ≡ Some d → IsAmong d ds
definition_found_is name [] d e = absurd (none_is_not_some d e)
definition_found_is name (x ∷ ds) d e =
    by_name (λ f. definition_found_is name ds d f) (chosen_some (bytes_eq name x.function) (Some x) (definition_found name ds) d e)
  where
    by_name : (definition_found name ds ≡ Some d → IsAmong d ds) → ((bytes_eq name x.function ≡ true) × (Some x ≡ Some d)) ⊎ (definition_found name ds ≡ Some d) → IsAmong d (x ∷ ds)
    by_name again (inl p) = inl (sym (some_same x d p.1))
    by_name again (inr p) = inr (again p)

pub opening_is : (row : ℕ) (o : Option Definition) (c : Clause) → opening_at row o ≡ Some c → (d : Definition) × (o ≡ Some d) × (opening d ≡ c)
opening_is row None c e = absurd (none_is_not_some c e)
opening_is row (Some d) c e = by_row (chosen_some (row == 1) (Some (opening d)) None c e)
  where
    by_row : ((row == 1 ≡ true) × (Some (opening d) ≡ Some c)) ⊎ ◌≡◌ {A = Option (List Term)} None (Some c) → (x : Definition) × (Some d ≡ Some x) × (opening x ≡ c)
    by_row (inl p) = (d, refl, some_same (opening d) c p.1)
    by_row (inr p) = absurd (none_is_not_some c p)

pub part_is : (i : ℕ) (o : Option Clause) (c : Clause) → without_part i o ≡ Some c → o ≡ Some c
part_is zero o c e = e
part_is (suc i) o c e = absurd (none_is_not_some c e)

pub first_or : (a b : Option Clause) (c : Clause) → first_found a b ≡ Some c → (a ≡ Some c) ⊎ (b ≡ Some c)
first_or None b c e = inr e
first_or (Some d) b c e = inl e

module _ (h : History) where
  not_falsity : Derivable h (holds (not_term false_term))
  not_falsity =
      let f = falsity_over h in
      follows2 h (Equation false_term false_term ∷ holds (not_term false_term) ∷ []) ((f, f), ((not_over h false_term f, f), tt))
      (Place 0) (If (No (No (Place 0))) (Place 1)) (Place 1) refl (same h false_term f) (not_holds h false_term f)

  ground_rows_hold : Each (λ r. Derivable h (clause r.literals)) ground_rows
  ground_rows_hold = (
    truth_is_no_falsity h,
    (
      not_falsity,
      (
        falsity_law h,
        (
          equal_law h,
          (
            if_false_law h,
            (
              if_true_law h,
              (axiom_here h _ (search ground_terms) size_is_number, (axiom_here h _ (search ground_terms) one_less_is_less, tt)),
            ),
          ),
        ),
      ),
    ),
  )

  -- the clause under a name, if it is over the history's symbols
  pub axiom_holds : (name : Name) (row i : ℕ) (c : Clause) → axiom_clause h name row i ≡ Some c → IsClause h c → Derivable h (clause c)
  axiom_holds name row i c e over =
      by_table (first_or (without_part i (row_found name row ground_rows)) (first_found (without_part i (opening_at row (definition_found name (ground_definitions ++ events_definitions h)))) (shell_found name row i [] (ground_shells ++ events_shells h))) c e)
    where
      by_opening : (d : Definition) → IsAmong d (ground_definitions ++ events_definitions h) → opening d ≡ c → Derivable h (clause c)
      by_opening d m e =
          let o = subst (IsClause h) (sym e) over in
          let a = call d.function (map Variable d.formals) in
          subst (λ c. Derivable h (clause c)) e
          (detached h (Equation a d.body) (holds (equal_term a d.body)) (axiom_here h (Equation a d.body) (o.0.0.1, o.0.1) (definition d m)) (equal_holds h a d.body o.0.0.1 o.0.1))

      by_rest : (without_part i (opening_at row (definition_found name (ground_definitions ++ events_definitions h))) ≡ Some c) ⊎ (shell_found name row i [] (ground_shells ++ events_shells h) ≡ Some c) → Derivable h (clause c)
      by_rest (inl p) =
          let q = opening_is row (definition_found name (ground_definitions ++ events_definitions h)) c (part_is i _ c p) in
          by_opening q.0 (definition_found_is name (ground_definitions ++ events_definitions h) q.0 q.1) q.2
      by_rest (inr p) =
          let q = shell_found_is name row i [] (ground_shells ++ events_shells h) c p in
          axiom_here h (clause c) (clause_over h c over) (shell q.0 q.2 q.1 row i c q.3 q.4)

      by_table : (without_part i (row_found name row ground_rows) ≡ Some c) ⊎ (first_found (without_part i (opening_at row (definition_found name (ground_definitions ++ events_definitions h)))) (shell_found name row i [] (ground_shells ++ events_shells h)) ≡ Some c) → Derivable h (clause c)
      by_table (inl p) = row_found_is (λ c. Derivable h (clause c)) name row ground_rows c ground_rows_hold (part_is i _ c p)
      by_table (inr p) = by_rest (first_or (without_part i (opening_at row (definition_found name (ground_definitions ++ events_definitions h)))) (shell_found name row i [] (ground_shells ++ events_shells h)) c p)
