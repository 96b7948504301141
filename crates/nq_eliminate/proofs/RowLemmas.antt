-- The row of a shell that says that an object is made of its parts.
use Rattle.std.proofs.Common.{◌≡◌, Bool, true, false, ◌&&◌, ◌||◌, Option, Some, None, List, [], ◌∷◌, ◌++◌, map, refl, sym, ap, ◌∙◌, subst, inl, inr, append_assoc}
use Rattle.std.specs.Prelude.{bytes_eq, ◌==◌}
use Rattle.std.proofs.lemmas.List.{append-nil}
use Rattle.nq_logic.specs.Terms.{Name, Term, IsAmong}
use Rattle.nq_logic.specs.Histories.{History, Shell, Definition, Event, AddShell, Declaration, Defines, Axiom, Lemma, Toggle, event_shells, events_shells, events_definitions}
use Rattle.nq_logic.specs.Names.{has_name, event_names, events_names, is_in_use, is_reserved}
use Rattle.nq_logic.specs.Ground.{all_events, ground_definitions, ground_history, ground_shells}
use Rattle.nq_logic.specs.ShellPrinciple.{shells_of}
use Rattle.nq_logic.proofs.Lists.{among_right}
use Rattle.nq_logic.proofs.Tests.{names_found_law}
use Rattle.nq_bank.proofs.Texts.{eq-bytes_eq}
use Rattle.nq_proof.specs.Clauses.{Clause}
use Rattle.nq_proof.specs.Rows.{GroundRow, ground_rows, row_found, definition_found, opening_at, shell_found, shell_clause_at, shell_row, first_found, axiom_clause}
use Rattle.nq_proof.proofs.ShellSymbols.{events_join}
use Rattle.nq_proof.proofs.Tests.{none_is_not_some}
use Rattle.nq_kernel.specs.Ready.{IsReady, IsReadyEvent, ReadyFrom}
use Rattle.nq_eliminate.specs.Made.{made_row}
use Rattle.nq_stuck.proofs.Joined.{among_either}

-- the row of each of the shells stands under its constructor's name
abbrev AllFound : List Shell → Type 0
AllFound shells = (s : Shell) → IsAmong s shells → shell_found s.constructor 5 0 [] shells ≡ Some (made_row s)

found_more : (name : Name) (earlier shells more : List Shell) (c : Clause) → shell_found name 5 0 earlier shells ≡ Some c → shell_found name 5 0 earlier (shells ++ more) ≡ Some c
found_more name earlier [] more c e = absurd (none_is_not_some c e)
found_more name earlier (s ∷ shells) more c e = by_test (found_more name (earlier ++ (s ∷ [])) shells more c) (bytes_eq name s.constructor) e
  where
    by_test : (shell_found name 5 0 (earlier ++ (s ∷ [])) shells ≡ Some c → shell_found name 5 0 (earlier ++ (s ∷ [])) (shells ++ more) ≡ Some c) → (b : Bool) →
        elim b as (λ b. Option (List Term)) [ true ↦ shell_clause_at earlier s 0 (shell_row 5) | false ↦ shell_found name 5 0 (earlier ++ (s ∷ [])) shells ] ≡ Some c →
        elim b as (λ b. Option (List Term)) [ true ↦ shell_clause_at earlier s 0 (shell_row 5) | false ↦ shell_found name 5 0 (earlier ++ (s ∷ [])) (shells ++ more) ] ≡ Some c
    by_test rest true f = f
    by_test rest false f = rest f

or_neither : (a b : Bool) → (a || b) ≡ false → (a ≡ false) × (b ≡ false)
or_neither true b e = absurd (cc)
or_neither false b e = (refl, e)

found_last : (s : Shell) (earlier shells : List Shell) → has_name s.constructor (map (λ q. q.constructor) shells) ≡ false → shell_found s.constructor 5 0 earlier (shells ++ (s ∷ [])) ≡ Some (made_row s)
found_last s earlier [] e = by_test (bytes_eq s.constructor s.constructor) (eq-bytes_eq s.constructor s.constructor refl)
  where
    by_test : (b : Bool) → b ≡ true → elim b as (λ b. Option (List Term)) [ true ↦ shell_clause_at earlier s 0 (shell_row 5) | false ↦ shell_found s.constructor 5 0 (earlier ++ (s ∷ [])) [] ] ≡ Some (made_row s)
    by_test true k = refl
    by_test false k = absurd (cc)
found_last s earlier (q ∷ shells) e =
    let apart = or_neither (bytes_eq s.constructor q.constructor) (has_name s.constructor (map (λ r. r.constructor) shells)) e in
    by_test (found_last s (earlier ++ (q ∷ [])) shells apart.1) (bytes_eq s.constructor q.constructor) apart.0
  where
    by_test : shell_found s.constructor 5 0 (earlier ++ (q ∷ [])) (shells ++ (s ∷ [])) ≡ Some (made_row s) → (b : Bool) → b ≡ false →
        elim b as (λ b. Option (List Term)) [ true ↦ shell_clause_at earlier q 0 (shell_row 5) | false ↦ shell_found s.constructor 5 0 (earlier ++ (q ∷ [])) (shells ++ (s ∷ [])) ] ≡ Some (made_row s)
    by_test rest true k = absurd (cc)
    by_test rest false k = rest

-- the constructors are in use
used_right : (n : Name) (xs ys : List Name) → has_name n ys ≡ true → has_name n (xs ++ ys) ≡ true
used_right n xs ys e = (names_found_law n (xs ++ ys)).1 (among_right n xs ys ((names_found_law n ys).0 e))

constructor_used : (es : List Event) (n : Name) → IsAmong n (map (λ q. q.constructor) (events_shells es)) → has_name n (events_names es) ≡ true
constructor_used [] n m = absurd m
constructor_used (AddShell q ∷ es) n (inl same) = (names_found_law n (event_names (AddShell q) ++ events_names es)).1 (inl same)
constructor_used (AddShell q ∷ es) n (inr m) = used_right n (event_names (AddShell q)) (events_names es) (constructor_used es n m)
constructor_used (Declaration f a ∷ es) n m = used_right n (event_names (Declaration f a)) (events_names es) (constructor_used es n m)
constructor_used (Defines d ∷ es) n m = used_right n (event_names (Defines d)) (events_names es) (constructor_used es n m)
constructor_used (Axiom x classes t ∷ es) n m = used_right n (event_names (Axiom x classes t)) (events_names es) (constructor_used es n m)
constructor_used (Lemma x classes t ∷ es) n m = used_right n (event_names (Lemma x classes t)) (events_names es) (constructor_used es n m)
constructor_used (Toggle x old disabled ∷ es) n m = used_right n (event_names (Toggle x old disabled)) (events_names es) (constructor_used es n m)

new_constructor : (b : History) (n : Name) → is_in_use n b ≡ false → has_name n (map (λ q. q.constructor) (shells_of b)) ≡ false
new_constructor b n unused = by_test (has_name n (map (λ q. q.constructor) (shells_of b))) refl
  where
    by_test : (x : Bool) → has_name n (map (λ q. q.constructor) (shells_of b)) ≡ x → x ≡ false
    by_test true e =
        let used : has_name n (events_names (all_events b)) ≡ true = constructor_used (all_events b) n ((names_found_law n (map (λ q. q.constructor) (shells_of b))).0 e) in
        let none = (or_neither (is_reserved n) (has_name n (events_names (all_events b))) unused).1 in
        absurd (cc)
    by_test false e = refl

ground_found : AllFound ground_shells
ground_found s (inl e) = subst (λ q. shell_found q.constructor 5 0 [] ground_shells ≡ Some (made_row q)) (sym e) refl
ground_found s (inr (inl e)) = subst (λ q. shell_found q.constructor 5 0 [] ground_shells ≡ Some (made_row q)) (sym e) refl
ground_found s (inr (inr (inl e))) = subst (λ q. shell_found q.constructor 5 0 [] ground_shells ≡ Some (made_row q)) (sym e) refl
ground_found s (inr (inr (inr (inl e)))) = subst (λ q. shell_found q.constructor 5 0 [] ground_shells ≡ Some (made_row q)) (sym e) refl
ground_found s (inr (inr (inr (inr none)))) = absurd none

shells_more : (b : History) (s : Shell) → shells_of (b ++ AddShell s ∷ []) ≡ shells_of b ++ s ∷ []
shells_more b s = ap events_shells (sym (append_assoc ground_history b (AddShell s ∷ []))) ∙ events_join (all_events b) (AddShell s ∷ [])

shells_kept : (b : History) (e : Event) → event_shells e ≡ [] → shells_of (b ++ e ∷ []) ≡ shells_of b
shells_kept b e none =
    ap events_shells (sym (append_assoc ground_history b (e ∷ []))) ∙ events_join (all_events b) (e ∷ []) ∙ ap (λ xs. shells_of b ++ (xs ++ [])) none ∙ append-nil (shells_of b)

found_from : (b h : History) → ReadyFrom b h → AllFound (shells_of b) → AllFound (shells_of (b ++ h))
found_from b [] ready found = subst (λ x. AllFound (shells_of x)) (sym (append-nil b)) found
found_from b (e ∷ h) ready found = subst (λ x. AllFound (shells_of x)) (append_assoc b (e ∷ []) h) (found_from (b ++ e ∷ []) h ready.1 (next e ready.0))
  where
    kept : (e : Event) → event_shells e ≡ [] → AllFound (shells_of (b ++ e ∷ []))
    kept e none = subst AllFound (sym (shells_kept b e none)) found

    last : (s : Shell) → is_in_use s.constructor b ≡ false → AllFound (shells_of b ++ s ∷ [])
    last s unused q m =
        elim (among_either q (shells_of b) (s ∷ []) m) [
          | inl here ↦ found_more q.constructor [] (shells_of b) (s ∷ []) (made_row q) (found q here)
          | inr there ↦ elim there [ inl same ↦ subst (λ r. shell_found r.constructor 5 0 [] (shells_of b ++ (s ∷ [])) ≡ Some (made_row r)) (sym same) (found_last s [] (shells_of b) (new_constructor b s.constructor unused)) | inr none ↦ absurd none ]
        ]

    next : (e : Event) → IsReadyEvent b e → AllFound (shells_of (b ++ e ∷ []))
    next (AddShell s) is = subst AllFound (sym (shells_more b s)) (last s is.unused)
    next (Declaration f a) is = kept (Declaration f a) refl
    next (Defines d) is = kept (Defines d) refl
    next (Axiom x classes t) is = kept (Axiom x classes t) refl
    next (Lemma x classes t) is = kept (Lemma x classes t) refl
    next (Toggle x old disabled) is = kept (Toggle x old disabled) refl

-- no ground row and no opening has this number
other_row : (b : Bool) → (b && false) ≡ false
other_row true = refl
other_row false = refl

no_ground_row : (name : Name) (rows : List GroundRow) (r : GroundRow) → (5 == r.row) ≡ false → row_found name 5 rows ≡ None → row_found name 5 (r ∷ rows) ≡ None
no_ground_row name rows r other rest = by_test (bytes_eq name r.name && (5 == r.row)) (ap (λ c. bytes_eq name r.name && c) other ∙ other_row (bytes_eq name r.name))
  where
    by_test : (b : Bool) → b ≡ false → elim b as (λ b. Option (List Term)) [ true ↦ Some r.literals | false ↦ row_found name 5 rows ] ≡ None
    by_test true e = absurd (cc)
    by_test false e = rest

abbrev any_fifth : List GroundRow → Bool
any_fifth [] = false
any_fifth (r ∷ rows) = (5 == r.row) || any_fifth rows

no_row : (name : Name) (rows : List GroundRow) → any_fifth rows ≡ false → row_found name 5 rows ≡ None
no_row name [] e = refl
no_row name (r ∷ rows) e = let apart = or_neither (5 == r.row) (any_fifth rows) e in no_ground_row name rows r apart.0 (no_row name rows apart.1)

none_of_ground : (name : Name) → row_found name 5 ground_rows ≡ None
none_of_ground name = no_row name ground_rows refl

no_opening : (o : Option Definition) → opening_at 5 o ≡ None
no_opening None = refl
no_opening (Some d) = refl

pub made_of_row : (h : History) (s : Shell) → IsReady h → IsAmong s (shells_of h) → axiom_clause h s.constructor 5 0 ≡ Some (made_row s)
made_of_row h s ready m =
    ap (λ o. first_found o (first_found (opening_at 5 (definition_found s.constructor (ground_definitions ++ events_definitions h))) (shell_found s.constructor 5 0 [] (ground_shells ++ events_shells h)))) (none_of_ground s.constructor)
    ∙ ap (λ o. first_found o (shell_found s.constructor 5 0 [] (ground_shells ++ events_shells h))) (no_opening (definition_found s.constructor (ground_definitions ++ events_definitions h)))
    ∙ found_from [] h ready ground_found s m
