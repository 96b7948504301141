-- The table of shell axioms as a function has just the clauses of the table.
use Rattle.std.proofs.Common.{◌≡◌, ℕ, zero, suc, List, [], ◌∷◌, refl, sym, ap, subst, ◌∙◌}
use Rattle.std.specs.Prelude.{Option, Some, None, slice_get, Vec}
use Rattle.std.specs.declared.alloc.Global.{Global}
use Rattle.nq_logic.specs.Terms.{Name, Term, Function}
use Rattle.nq_logic.specs.Histories.{Shell}
use Rattle.nq_logic.specs.Words.{equal_term, not_term}
use Rattle.nq_logic.specs.Shells.{IsShellClause, made, made_with, part_variable, recognizes, restricted, whole, recognizer_is_truth_value, made_is_recognized, base_is_recognized, made_is_no_base, remade_is_same, part_of_made, wrong_part_of_made, part_of_other, part_of_base, wrong_part, truth_is_none, falsity_is_none, kinds_differ, size_of_made, size_of_base}
use Rattle.nq_bank.specs.declared.node.TermId.{TermId}
use Rattle.nq_bank.specs.Content.{Content, terms_at}
use Rattle.nq_shell.specs.Axioms.{clause_at, IsAxiom}
use Rattle.nq_shell.specs.Rows.{base_part_row}
use Rattle.nq_proof.specs.Clauses.{Clause}
use Rattle.nq_proof.specs.Rows.{ShellRow, RecognizerIsTruthValue, MadeIsRecognized, BaseIsRecognized, MadeIsNoBase, RemadeIsSame, PartOfMade, WrongPartOfMade, PartOfOther, PartOfBase, WrongPart, TruthIsNone, FalsityIsNone, KindsDiffer, SizeOfMade, SizeOfBase, accessed_by, default_of, whole_row, base_row, found_row, shell_row, shell_clause, shell_clause_at}

none_is_not_some : {X : Type 0} (c : X) → None ≡ Some c → ⊥
none_is_not_some c e = cc

some_same : {X : Type 0} (b c : X) → Some b ≡ Some c → b ≡ c
some_same b c e = cc

-- the number of a row
abbrev row_number : ShellRow → ℕ
row_number RecognizerIsTruthValue = 1
row_number MadeIsRecognized = 2
row_number BaseIsRecognized = 3
row_number MadeIsNoBase = 4
row_number RemadeIsSame = 5
row_number PartOfMade = 6
row_number WrongPartOfMade = 7
row_number PartOfOther = 8
row_number PartOfBase = 9
row_number WrongPart = 10
row_number TruthIsNone = 11
row_number FalsityIsNone = 12
row_number KindsDiffer = 13
row_number SizeOfMade = 14
row_number SizeOfBase = 15

row_number_is : (n : ℕ) (r : ShellRow) → shell_row n ≡ Some r → row_number r ≡ n
row_number_is zero r e = absurd (none_is_not_some r e)
row_number_is (suc zero) r e = ap row_number (sym (some_same RecognizerIsTruthValue r e))
row_number_is (suc (suc (zero))) r e = ap row_number (sym (some_same MadeIsRecognized r e))
row_number_is (suc (suc (suc (zero)))) r e = ap row_number (sym (some_same BaseIsRecognized r e))
row_number_is (suc (suc (suc (suc (zero))))) r e = ap row_number (sym (some_same MadeIsNoBase r e))
row_number_is (suc (suc (suc (suc (suc (zero)))))) r e = ap row_number (sym (some_same RemadeIsSame r e))
row_number_is (suc (suc (suc (suc (suc (suc (zero))))))) r e = ap row_number (sym (some_same PartOfMade r e))
row_number_is (suc (suc (suc (suc (suc (suc (suc (zero)))))))) r e = ap row_number (sym (some_same WrongPartOfMade r e))
row_number_is (suc (suc (suc (suc (suc (suc (suc (suc (zero))))))))) r e = ap row_number (sym (some_same PartOfOther r e))
row_number_is (suc (suc (suc (suc (suc (suc (suc (suc (suc (zero)))))))))) r e = ap row_number (sym (some_same PartOfBase r e))
row_number_is (suc (suc (suc (suc (suc (suc (suc (suc (suc (suc (zero))))))))))) r e = ap row_number (sym (some_same WrongPart r e))
row_number_is (suc (suc (suc (suc (suc (suc (suc (suc (suc (suc (suc (zero)))))))))))) r e = ap row_number (sym (some_same TruthIsNone r e))
row_number_is (suc (suc (suc (suc (suc (suc (suc (suc (suc (suc (suc (suc (zero))))))))))))) r e = ap row_number (sym (some_same FalsityIsNone r e))
row_number_is (suc (suc (suc (suc (suc (suc (suc (suc (suc (suc (suc (suc (suc (zero)))))))))))))) r e = ap row_number (sym (some_same KindsDiffer r e))
row_number_is (suc (suc (suc (suc (suc (suc (suc (suc (suc (suc (suc (suc (suc (suc (zero))))))))))))))) r e = ap row_number (sym (some_same SizeOfMade r e))
row_number_is (suc (suc (suc (suc (suc (suc (suc (suc (suc (suc (suc (suc (suc (suc (suc (zero)))))))))))))))) r e = ap row_number (sym (some_same SizeOfBase r e))
row_number_is (suc (suc (suc (suc (suc (suc (suc (suc (suc (suc (suc (suc (suc (suc (suc (suc (n))))))))))))))))) r e = absurd (none_is_not_some r e)

whole_row_is : (i : ℕ) (d c : Clause) → whole_row i d ≡ Some c → (i ≡ 0) × (d ≡ c)
whole_row_is zero d c e = (refl, some_same d c e)
whole_row_is (suc i) d c e = absurd (none_is_not_some c e)

base_row_is : (i : ℕ) (d : Name → Clause) (base : Option Name) (c : Clause) → base_row i d base ≡ Some c → (b : Name) × (base ≡ Some b) × (i ≡ 0) × (d b ≡ c)
base_row_is zero d None c e = absurd (none_is_not_some c e)
base_row_is zero d (Some b) c e = (b, refl, refl, some_same (d b) c e)
base_row_is (suc i) d base c e = absurd (none_is_not_some c e)

found_row_is : {X : Type 0} (i : ℕ) (d : ℕ → X → Option Clause) (xs : List X) (c : Clause) → found_row i d xs ≡ Some c → (k : ℕ) × (x : X) × (i ≡ suc k) × (slice_get xs k ≡ Some x) × (d k x ≡ Some c)
found_row_is zero d xs c e = absurd (none_is_not_some c e)
found_row_is {X = X} (suc k) d xs c e = by_place (slice_get xs k) refl e
  where
    by_place : (o : Option X) → slice_get xs k ≡ o → elim o as (λ o. Option (List Term)) [ None ↦ None | Some x ↦ d k x ] ≡ Some c →
        (j : ℕ) × (x : X) × (suc k ≡ suc j) × (slice_get xs j ≡ Some x) × (d j x ≡ Some c)
    by_place None f g = absurd (none_is_not_some c g)
    by_place (Some x) f g = (k, x, refl, f, g)

base_has : (d : Name → Clause) (base : Option Name) (b : Name) → base ≡ Some b → base_row 0 d base ≡ Some (d b)
base_has d base b e = ap (base_row 0 d) e

found_has : {X : Type 0} (d : ℕ → X → Option Clause) (xs : List X) (k : ℕ) (x : X) → slice_get xs k ≡ Some x → found_row (suc k) d xs ≡ d k x
found_has d xs k x e = ap (λ o. elim o as (λ o. Option (List Term)) [ None ↦ None | Some x ↦ d k x ]) e

module _ (earlier : List Shell) (s : Shell) where
  abbrev Says : ℕ → ShellRow → Clause → Type 0
  Says i r c = IsShellClause earlier s (row_number r) i c

  shell_clause_is : (i : ℕ) (r : ShellRow) (c : Clause) → shell_clause earlier s i r ≡ Some c → Says i r c
  shell_clause_is i RecognizerIsTruthValue c e =
      let q = whole_row_is i _ c e in subst (λ i. Says i RecognizerIsTruthValue c) (sym q.0) (subst (λ c. Says 0 RecognizerIsTruthValue c) q.1 recognizer_is_truth_value)
  shell_clause_is i MadeIsRecognized c e =
      let q = whole_row_is i _ c e in subst (λ i. Says i MadeIsRecognized c) (sym q.0) (subst (λ c. Says 0 MadeIsRecognized c) q.1 made_is_recognized)
  shell_clause_is i BaseIsRecognized c e =
      let q = base_row_is i _ s.base c e in subst (λ i. Says i BaseIsRecognized c) (sym q.2) (subst (λ c. Says 0 BaseIsRecognized c) q.3 (base_is_recognized q.0 q.1))
  shell_clause_is i MadeIsNoBase c e =
      let q = base_row_is i _ s.base c e in subst (λ i. Says i MadeIsNoBase c) (sym q.2) (subst (λ c. Says 0 MadeIsNoBase c) q.3 (made_is_no_base q.0 q.1))
  shell_clause_is i RemadeIsSame c e =
      let q = whole_row_is i _ c e in subst (λ i. Says i RemadeIsSame c) (sym q.0) (subst (λ c. Says 0 RemadeIsSame c) q.1 remade_is_same)
  shell_clause_is i PartOfMade c e =
      let q = found_row_is i _ s.parts c e in subst (λ i. Says i PartOfMade c) (sym q.2) (subst (λ c. Says (suc q.0) PartOfMade c) (some_same _ c q.4) (part_of_made q.0 q.1 q.3))
  shell_clause_is i WrongPartOfMade c e =
      let q = found_row_is i _ s.parts c e in subst (λ i. Says i WrongPartOfMade c) (sym q.2) (subst (λ c. Says (suc q.0) WrongPartOfMade c) (some_same _ c q.4) (wrong_part_of_made q.0 q.1 q.3))
  shell_clause_is i PartOfOther c e =
      let q = found_row_is i _ s.parts c e in subst (λ i. Says i PartOfOther c) (sym q.2) (subst (λ c. Says (suc q.0) PartOfOther c) (some_same _ c q.4) (part_of_other q.0 q.1 q.3))
  shell_clause_is i PartOfBase c e =
      let q = found_row_is i _ s.parts c e in let b = base_row_is 0 _ s.base c q.4 in subst (λ i. Says i PartOfBase c) (sym q.2) (subst (λ c. Says (suc q.0) PartOfBase c) b.3 (part_of_base q.0 q.1 b.0 q.3 b.1))
  shell_clause_is i WrongPart c e =
      let q = found_row_is i _ s.parts c e in subst (λ i. Says i WrongPart c) (sym q.2) (subst (λ c. Says (suc q.0) WrongPart c) (some_same _ c q.4) (wrong_part q.0 q.1 q.3))
  shell_clause_is i TruthIsNone c e =
      let q = whole_row_is i _ c e in subst (λ i. Says i TruthIsNone c) (sym q.0) (subst (λ c. Says 0 TruthIsNone c) q.1 truth_is_none)
  shell_clause_is i FalsityIsNone c e =
      let q = whole_row_is i _ c e in subst (λ i. Says i FalsityIsNone c) (sym q.0) (subst (λ c. Says 0 FalsityIsNone c) q.1 falsity_is_none)
  shell_clause_is i KindsDiffer c e =
      let q = found_row_is i _ earlier c e in subst (λ i. Says i KindsDiffer c) (sym q.2) (subst (λ c. Says (suc q.0) KindsDiffer c) (some_same _ c q.4) (kinds_differ q.0 q.1 q.3))
  shell_clause_is i SizeOfMade c e =
      let q = whole_row_is i _ c e in subst (λ i. Says i SizeOfMade c) (sym q.0) (subst (λ c. Says 0 SizeOfMade c) q.1 size_of_made)
  shell_clause_is i SizeOfBase c e =
      let q = base_row_is i _ s.base c e in subst (λ i. Says i SizeOfBase c) (sym q.2) (subst (λ c. Says 0 SizeOfBase c) q.3 (size_of_base q.0 q.1))

  pub shell_clause_at_is : (i row : ℕ) (c : Clause) → shell_clause_at earlier s i (shell_row row) ≡ Some c → IsShellClause earlier s row i c
  shell_clause_at_is i row c e = by_row (shell_row row) refl e
    where
      by_row : (o : Option ShellRow) → shell_row row ≡ o → shell_clause_at earlier s i o ≡ Some c → IsShellClause earlier s row i c
      by_row None f g = absurd (none_is_not_some c g)
      by_row (Some r) f g = subst (λ n. IsShellClause earlier s n i c) (row_number_is row r f) (shell_clause_is i r c g)

  -- each axiom of the table is found
  pub axiom_found : (row i : ℕ) (c : Clause) → IsShellClause earlier s row i c → shell_clause_at earlier s i (shell_row row) ≡ Some c
  axiom_found _ _ _ recognizer_is_truth_value = refl
  axiom_found _ _ _ made_is_recognized = refl
  axiom_found _ _ _ (base_is_recognized b e) = base_has _ s.base b e
  axiom_found _ _ _ (made_is_no_base b e) = base_has _ s.base b e
  axiom_found _ _ _ remade_is_same = refl
  axiom_found _ _ _ (part_of_made k x e) = found_has (λ k part. Some (not_term (restricted part.restriction (part_variable k)) ∷ equal_term (accessed_by part (made s)) (part_variable k) ∷ [])) s.parts k x e
  axiom_found _ _ _ (wrong_part_of_made k x e) = found_has (λ k part. Some (restricted part.restriction (part_variable k) ∷ equal_term (accessed_by part (made s)) (default_of part) ∷ [])) s.parts k x e
  axiom_found _ _ _ (part_of_other k x e) = found_has (λ k part. Some (recognizes s whole ∷ equal_term (accessed_by part whole) (default_of part) ∷ [])) s.parts k x e
  axiom_found _ _ _ (part_of_base k x b e f) = found_has (λ k part. base_part_row s part) s.parts k x e ∙ base_has (λ b. equal_term (accessed_by x (Function b)) (default_of x) ∷ []) s.base b f
  axiom_found _ _ _ (wrong_part k x e) = found_has (λ k part. Some (restricted part.restriction (part_variable k) ∷ equal_term (made s) (made_with s k (default_of part)) ∷ [])) s.parts k x e
  axiom_found _ _ _ truth_is_none = refl
  axiom_found _ _ _ falsity_is_none = refl
  axiom_found _ _ _ (kinds_differ k x e) = found_has (λ k other. Some (not_term (recognizes s whole) ∷ not_term (recognizes other whole) ∷ [])) earlier k x e
  axiom_found _ _ _ size_of_made = refl
  axiom_found _ _ _ (size_of_base b e) = base_has _ s.base b e

  -- what the table has is the axiom, and there is none where it has nothing
  pub axiom_of : (bank : Content) (row i : ℕ) (o : Option (Vec TermId Global)) → clause_at bank o ≡ shell_clause_at earlier s i (shell_row row) → IsAxiom bank earlier s row i o
  axiom_of bank row i None e = λ c is. none_is_not_some c (e ∙ axiom_found row i c is)
  axiom_of bank row i (Some c) e = shell_clause_at_is i row (terms_at bank c.items) (sym e)
