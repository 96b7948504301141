-- The rows of a shell stand under its constructor's name.
use Rattle.std.proofs.Common.{◌≡◌, ℕ, zero, suc, Bool, true, false, ◌&&◌, ◌||◌, ◌⊎◌, Option, Some, None, List, [], ◌∷◌, ◌++◌, map, refl, sym, ap, ◌∙◌, subst, inl, inr, append_assoc}
use Rattle.std.specs.Prelude.{bytes_eq, ◌==◌}
use Rattle.std.proofs.lemmas.List.{append-nil}
use Rattle.nq_logic.specs.Terms.{Name, Term, IsAmong}
use Rattle.nq_logic.specs.Histories.{History, Shell, Definition, Event, AddShell, Declaration, Defines, Axiom, Lemma, Toggle, event_shells, events_shells, events_definitions}
use Rattle.nq_logic.specs.Names.{has_name, event_names, events_names, is_in_use, is_reserved}
use Rattle.nq_logic.specs.Ground.{all_events, ground_definitions, ground_history, ground_shells, numbers, pairs, atoms}
use Rattle.nq_logic.specs.ShellPrinciple.{shells_of}
use Rattle.nq_logic.proofs.Lists.{among_right}
use Rattle.nq_logic.proofs.Tests.{names_found_law}
use Rattle.nq_bank.proofs.Texts.{eq-bytes_eq}
use Rattle.nq_proof.specs.Clauses.{Clause}
use Rattle.nq_proof.specs.Rows.{GroundRow, ground_rows, row_found, definition_found, opening, opening_at, without_part, shell_found, shell_clause_at, shell_row, first_found, axiom_clause}
use Rattle.nq_proof.proofs.ShellSymbols.{events_join}
use Rattle.nq_proof.proofs.Tests.{none_is_not_some}
use Rattle.nq_kernel.specs.Ready.{IsReady, IsReadyEvent, ReadyFrom}

among_either_shell : (s : Shell) (xs ys : List Shell) → IsAmong s (xs ++ ys) → IsAmong s xs ⊎ IsAmong s ys
among_either_shell s [] ys m = inr m
among_either_shell s (x ∷ xs) ys (inl e) = inl (inl e)
among_either_shell s (x ∷ xs) ys (inr m) = elim (among_either_shell s xs ys m) [ inl k ↦ inl (inr k) | inr k ↦ inr k ]

or_neither : (a b : Bool) → (a || b) ≡ false → (a ≡ false) × (b ≡ false)
or_neither true b e = absurd (cc)
or_neither false b e = (refl, e)

-- the constructors are in use
used_right : (n : Name) (xs ys : List Name) → has_name n ys ≡ true → has_name n (xs ++ ys) ≡ true
used_right n xs ys e = (names_found_law n (xs ++ ys)).1 (among_right n xs ys ((names_found_law n ys).0 e))

constructor_used : (es : List Event) (n : Name) → IsAmong n (map (λ q. q.constructor) (events_shells es)) → has_name n (events_names es) ≡ true
constructor_used [] n m = absurd m
constructor_used (AddShell q ∷ es) n (inl same) = (names_found_law n (event_names (AddShell q) ++ events_names es)).1 (inl same)
constructor_used (AddShell q ∷ es) n (inr m) = used_right n (event_names (AddShell q)) (events_names es) (constructor_used es n m)
constructor_used (Declaration f a ∷ es) n m = used_right n (event_names (Declaration f a)) (events_names es) (constructor_used es n m)
constructor_used (Defines d ∷ es) n m = used_right n (event_names (Defines d)) (events_names es) (constructor_used es n m)
constructor_used (Axiom x classes t ∷ es) n m = used_right n (event_names (Axiom x classes t)) (events_names es) (constructor_used es n m)
constructor_used (Lemma x classes t ∷ es) n m = used_right n (event_names (Lemma x classes t)) (events_names es) (constructor_used es n m)
constructor_used (Toggle x old disabled ∷ es) n m = used_right n (event_names (Toggle x old disabled)) (events_names es) (constructor_used es n m)

new_constructor : (b : History) (n : Name) → is_in_use n b ≡ false → has_name n (map (λ q. q.constructor) (shells_of b)) ≡ false
new_constructor b n unused = by_test (has_name n (map (λ q. q.constructor) (shells_of b))) refl
  where
    by_test : (x : Bool) → has_name n (map (λ q. q.constructor) (shells_of b)) ≡ x → x ≡ false
    by_test true e =
        let used : has_name n (events_names (all_events b)) ≡ true = constructor_used (all_events b) n ((names_found_law n (map (λ q. q.constructor) (shells_of b))).0 e) in
        let none = (or_neither (is_reserved n) (has_name n (events_names (all_events b))) unused).1 in
        absurd (cc)
    by_test false e = refl

shells_more : (b : History) (s : Shell) → shells_of (b ++ AddShell s ∷ []) ≡ shells_of b ++ s ∷ []
shells_more b s = ap events_shells (sym (append_assoc ground_history b (AddShell s ∷ []))) ∙ events_join (all_events b) (AddShell s ∷ [])

shells_kept : (b : History) (e : Event) → event_shells e ≡ [] → shells_of (b ++ e ∷ []) ≡ shells_of b
shells_kept b e none =
    ap events_shells (sym (append_assoc ground_history b (e ∷ []))) ∙ events_join (all_events b) (e ∷ []) ∙ ap (λ xs. shells_of b ++ (xs ++ [])) none ∙ append-nil (shells_of b)

module _ (row i : ℕ) where
  -- the clause of a shell in this row, whatever the earlier shells are
  abbrev pub Says : Shell → Clause → Type 0
  Says s c = (earlier : List Shell) → shell_clause_at earlier s i (shell_row row) ≡ Some c

  -- the row of each of the shells stands under its constructor's name
  abbrev AllFound : List Shell → Type 0
  AllFound shells = (s : Shell) (c : Clause) → IsAmong s shells → Says s c → shell_found s.constructor row i [] shells ≡ Some c

  found_more : (name : Name) (earlier shells more : List Shell) (c : Clause) → shell_found name row i earlier shells ≡ Some c → shell_found name row i earlier (shells ++ more) ≡ Some c
  found_more name earlier [] more c e = absurd (none_is_not_some c e)
  found_more name earlier (s ∷ shells) more c e = by_test (found_more name (earlier ++ (s ∷ [])) shells more c) (bytes_eq name s.constructor) e
    where
      by_test : (shell_found name row i (earlier ++ (s ∷ [])) shells ≡ Some c → shell_found name row i (earlier ++ (s ∷ [])) (shells ++ more) ≡ Some c) → (b : Bool) →
          elim b as (λ b. Option (List Term)) [ true ↦ shell_clause_at earlier s i (shell_row row) | false ↦ shell_found name row i (earlier ++ (s ∷ [])) shells ] ≡ Some c →
          elim b as (λ b. Option (List Term)) [ true ↦ shell_clause_at earlier s i (shell_row row) | false ↦ shell_found name row i (earlier ++ (s ∷ [])) (shells ++ more) ] ≡ Some c
      by_test rest true f = f
      by_test rest false f = rest f

  found_last : (s : Shell) (c : Clause) (earlier shells : List Shell) → Says s c → has_name s.constructor (map (λ q. q.constructor) shells) ≡ false → shell_found s.constructor row i earlier (shells ++ (s ∷ [])) ≡ Some c
  found_last s c earlier [] says e = by_test (bytes_eq s.constructor s.constructor) (eq-bytes_eq s.constructor s.constructor refl)
    where
      by_test : (b : Bool) → b ≡ true → elim b as (λ b. Option (List Term)) [ true ↦ shell_clause_at earlier s i (shell_row row) | false ↦ shell_found s.constructor row i (earlier ++ (s ∷ [])) [] ] ≡ Some c
      by_test true k = says earlier
      by_test false k = absurd (cc)
  found_last s c earlier (q ∷ shells) says e =
      let apart = or_neither (bytes_eq s.constructor q.constructor) (has_name s.constructor (map (λ r. r.constructor) shells)) e in
      by_test (found_last s c (earlier ++ (q ∷ [])) shells says apart.1) (bytes_eq s.constructor q.constructor) apart.0
    where
      by_test : shell_found s.constructor row i (earlier ++ (q ∷ [])) (shells ++ (s ∷ [])) ≡ Some c → (b : Bool) → b ≡ false →
          elim b as (λ b. Option (List Term)) [ true ↦ shell_clause_at earlier q i (shell_row row) | false ↦ shell_found s.constructor row i (earlier ++ (q ∷ [])) (shells ++ (s ∷ [])) ] ≡ Some c
      by_test rest true k = absurd (cc)
      by_test rest false k = rest

  abbrev OneFound : Clause → Shell → Type 0
  OneFound c q = Says q c → shell_found q.constructor row i [] ground_shells ≡ Some c

  ground_found : AllFound ground_shells
  ground_found s c (inl e) = subst (OneFound c) (sym e) (λ says. says [])
  ground_found s c (inr (inl e)) = subst (OneFound c) (sym e) (λ says. says (numbers ∷ []))
  ground_found s c (inr (inr (inl e))) = subst (OneFound c) (sym e) (λ says. says (numbers ∷ pairs ∷ []))
  ground_found s c (inr (inr (inr (inl e)))) = subst (OneFound c) (sym e) (λ says. says (numbers ∷ pairs ∷ atoms ∷ []))
  ground_found s c (inr (inr (inr (inr none)))) = absurd none

  found_from : (b h : History) → ReadyFrom b h → AllFound (shells_of b) → AllFound (shells_of (b ++ h))
  found_from b [] ready found = subst (λ x. AllFound (shells_of x)) (sym (append-nil b)) found
  found_from b (e ∷ h) ready found = subst (λ x. AllFound (shells_of x)) (append_assoc b (e ∷ []) h) (found_from (b ++ e ∷ []) h ready.1 (next e ready.0))
    where
      kept : (e : Event) → event_shells e ≡ [] → AllFound (shells_of (b ++ e ∷ []))
      kept e none = subst AllFound (sym (shells_kept b e none)) found

      last : (s : Shell) → is_in_use s.constructor b ≡ false → AllFound (shells_of b ++ s ∷ [])
      last s unused q c m =
          elim (among_either_shell q (shells_of b) (s ∷ []) m) [
            | inl here ↦ λ says. found_more q.constructor [] (shells_of b) (s ∷ []) c (found q c here says)
            | inr there ↦ elim there [ inl same ↦ subst (λ (r : Shell). Says r c → shell_found r.constructor row i [] (shells_of b ++ (s ∷ [])) ≡ Some c) (sym same) (λ says. found_last s c [] (shells_of b) says (new_constructor b s.constructor unused)) | inr none ↦ absurd none ]
          ]

      next : (e : Event) → IsReadyEvent b e → AllFound (shells_of (b ++ e ∷ []))
      next (AddShell s) is = subst AllFound (sym (shells_more b s)) (last s is.unused)
      next (Declaration f a) is = kept (Declaration f a) refl
      next (Defines d) is = kept (Defines d) refl
      next (Axiom x classes t) is = kept (Axiom x classes t) refl
      next (Lemma x classes t) is = kept (Lemma x classes t) refl
      next (Toggle x old disabled) is = kept (Toggle x old disabled) refl

  -- no ground row and no opening has this number
  other_row : (b : Bool) → (b && false) ≡ false
  other_row true = refl
  other_row false = refl

  no_ground_row : (name : Name) (rows : List GroundRow) (r : GroundRow) → (row == r.row) ≡ false → row_found name row rows ≡ None → row_found name row (r ∷ rows) ≡ None
  no_ground_row name rows r other rest = by_test (bytes_eq name r.name && (row == r.row)) (ap (λ c. bytes_eq name r.name && c) other ∙ other_row (bytes_eq name r.name))
    where
      by_test : (b : Bool) → b ≡ false → elim b as (λ b. Option (List Term)) [ true ↦ Some r.literals | false ↦ row_found name row rows ] ≡ None
      by_test true e = absurd (cc)
      by_test false e = rest

  abbrev pub any_such : List GroundRow → Bool
  any_such [] = false
  any_such (r ∷ rows) = (row == r.row) || any_such rows

  no_row : (name : Name) (rows : List GroundRow) → any_such rows ≡ false → row_found name row rows ≡ None
  no_row name [] e = refl
  no_row name (r ∷ rows) e = let apart = or_neither (row == r.row) (any_such rows) e in no_ground_row name rows r apart.0 (no_row name rows apart.1)

  no_opening : (o : Option Definition) → (row == 1) ≡ false → opening_at row o ≡ None
  no_opening None e = refl
  no_opening (Some d) e = by_test (row == 1) e
    where
      by_test : (b : Bool) → b ≡ false → elim b as (λ b. Option (List Term)) [ true ↦ Some (opening d) | false ↦ None ] ≡ None
      by_test true k = absurd (cc)
      by_test false k = refl

  no_part : (j : ℕ) (o : Option Clause) → o ≡ None → without_part j o ≡ None
  no_part zero o e = e
  no_part (suc j) o e = refl

  pub row_there : (h : History) (s : Shell) (c : Clause) → any_such ground_rows ≡ false → (row == 1) ≡ false → IsReady h → IsAmong s (shells_of h) → Says s c → axiom_clause h s.constructor row i ≡ Some c
  row_there h s c other none ready m says =
      let rest : Option Clause = shell_found s.constructor row i [] (ground_shells ++ events_shells h) in
      let opened : Option Clause = without_part i (opening_at row (definition_found s.constructor (ground_definitions ++ events_definitions h))) in
      ap (λ o. first_found o (first_found opened rest)) (no_part i (row_found s.constructor row ground_rows) (no_row s.constructor ground_rows other))
      ∙ ap (λ o. first_found o rest) (no_part i (opening_at row (definition_found s.constructor (ground_definitions ++ events_definitions h))) (no_opening (definition_found s.constructor (ground_definitions ++ events_definitions h)) none))
      ∙ found_from [] h ready ground_found s c m says
