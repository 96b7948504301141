-- The measures of ground definitions fall: each call takes a part, or a difference of positive numbers.
use Rattle.std.proofs.Common.{◌≡◌, ◌∙◌, ℕ, zero, List, [], ◌∷◌, ◌++◌, map, refl, sym, subst, inl, inr}
use Rattle.std.specs.Prelude.{◌⊎◌, Some, None, codes, slice_get}
use Rattle.nq_logic.specs.Terms.{Name, Term, Variable, IsTerm, IsAmong, Each, value_at}
use Rattle.nq_logic.specs.Words.{call1, call2, not_term, if_term, numeral}
use Rattle.nq_logic.specs.Formulas.{clause}
use Rattle.nq_logic.specs.Histories.{History, Definition, AddShell}
use Rattle.nq_logic.specs.Ground.{symbols_of, ground_definitions, numbers, pairs, number_part, any_part, x_term, y_term, is_list, cons_of, defines1, defines2, truth_definition, falsity_definition, not_definition, and_definition, or_definition, implies_definition, iff_definition, zero_test_definition, fix_definition, quotient_definition, remainder_definition, ordinal_less_definition, plus_definition, less_definition, difference_definition, times_definition, append_definition, member_definition, ordinal_definition, union_definition, assoc_definition, pairlist_definition}
use Rattle.nq_logic.specs.Admissible.{Call, calls_of, matched}
use Rattle.nq_logic.specs.Derivations.{Derivable}
use Rattle.nq_logic.proofs.Lists.{among_right, among_at, each_among, each_at}
use Rattle.nq_logic.proofs.Clauses.{cut_law, excluded_middle_law}
use Rattle.nq_logic.proofs.Symbols.{not_symbol, count_symbol, listp_symbol, ord_lessp_symbol}
use Rattle.nq_proof.specs.Closed.{MeetsShellPrinciple}
use Rattle.nq_proof.specs.Rows.{opening}
use Rattle.nq_proof.proofs.CalledTerms.{CallOver, calls_over}
use Rattle.nq_proof.proofs.KeptSymbols.{definitions_over}
use Rattle.nq_arith.specs.Nests.{nest, recognized, no_atom, no_zero, is_below, NestIsSmaller}
use Rattle.nq_arith.specs.NamedLaws.{SizeIsOrdinal}
use Rattle.nq_arith.specs.Structural.{IsStructuralNest}
use Rattle.nq_falls.specs.Falls.{FallsUnder, Falls, FallsByMeasure, GroundDefinitionsFall, fall_of}
use Rattle.nq_falls.proofs.DifferenceFalls.{difference_falls}
use Rattle.nq_falls.proofs.TestLemmas.{denied_over, each_denied, matched_over, value_over}

no_shell : MeetsShellPrinciple []
no_shell before after s is = absurd (never before is)
  where
    never : (before : History) → [] ≡ before ++ (AddShell s ∷ after) → ⊥
    never [] e = cc
    never (b ∷ before) e = cc

-- a call that takes a part of the variable under tests that say that there is one
abbrev Takes : Definition → Name → Call → Type 0
Takes d x c = IsStructuralNest [] (Variable x) c.tests (value_at (matched d.formals c.arguments) x)

module _ (smaller : NestIsSmaller) (ordinal : SizeIsOrdinal) (d : Definition) (x : Name) (formal : IsAmong x d.formals) (body : IsTerm (symbols_of []) d.body) where
  takes_falls : (c : Call) → CallOver (symbols_of []) c → Takes d x c → FallsUnder [] d (call1 "COUNT" (Variable x)) c
  takes_falls c over n =
      let t = nest (Variable x) (n.first ∷ n.rest) in
      let last : List Term = is_below t (Variable x) ∷ [] in
      let value = value_over (symbols_of []) (matched d.formals c.arguments) (matched_over (symbols_of []) d.formals c.arguments over.arguments) x in
      let right = subst (IsTerm (symbols_of [])) n.is value in
      let less =
      smaller [] n.shell n.first n.rest (Variable x) c.tests (map not_term c.tests ++ last) no_shell n.here n.parts tt n.guarded
      (denied_over [] c.tests last over.tests (((ord_lessp_symbol [], (count_symbol [], right)), (count_symbol [], tt)), tt))
      (each_denied c.tests last) (among_right (is_below t (Variable x)) (map not_term c.tests) last (inl refl))
      in
      subst (λ (u : Term). Derivable [] (clause (map not_term c.tests ++ (is_below u (Variable x) ∷ [])))) (sym n.is) less

  -- the same where the test is denied twice
  denied_twice_falls : (c : Call) → CallOver (symbols_of []) c → (l : Term) → IsTerm (symbols_of []) l → IsAmong (not_term (not_term l)) c.tests → Takes d x (record { tests = l ∷ c.tests; arguments = c.arguments }) → FallsUnder [] d (call1 "COUNT" (Variable x)) c
  denied_twice_falls c over l ol stands n =
      let last : List Term = fall_of d (call1 "COUNT" (Variable x)) c.arguments ∷ [] in
      let whole : List Term = map not_term c.tests ++ last in
      let value = value_over (symbols_of []) (matched d.formals c.arguments) (matched_over (symbols_of []) d.formals c.arguments over.arguments) x in
      let there = takes_falls (record { tests = l ∷ c.tests; arguments = c.arguments }) (record { tests = (ol, over.tests); arguments = over.arguments }) n in
      let t : Term = not_term l in
      let middle : List Term = not_term t ∷ not_term (not_term t) ∷ [] in
      let ot : IsTerm (symbols_of []) t = (not_symbol [], ol) in
      let oo : IsTerm (symbols_of []) (not_term t) = (not_symbol [], ot) in
      let denial : Derivable [] (clause middle) = excluded_middle_law [] (not_term t) middle (oo, ((not_symbol [], oo), tt)) (inl refl) (inr (inl refl)) in
      let denied : IsAmong (not_term (not_term t)) whole = each_at (λ (u : Term). IsAmong (not_term u) whole) (not_term t) c.tests (each_denied c.tests last) stands in
      cut_law [] t (t ∷ whole) middle whole there denial ot
      (denied_over [] c.tests last over.tests (((ord_lessp_symbol [], (count_symbol [], value)), (count_symbol [], tt)), tt))
      (inl (inl refl), each_among (λ (p : Term). IsAmong p (t ∷ []) ⊎ IsAmong p whole) whole (λ (p : Term) (m : IsAmong p whole). inr m))
      (inl (inl refl), (inr denied, tt))

  all_take : (calls : List Call) → Each (CallOver (symbols_of [])) calls → Each (Takes d x) calls → Each (FallsUnder [] d (call1 "COUNT" (Variable x))) calls
  all_take [] over takes = tt
  all_take (c ∷ calls) over takes = (takes_falls c over.0 takes.0, all_take calls over.1 takes.1)

  structural_falls : Each (Takes d x) (calls_of d.function d.body) → Falls [] d (call1 "COUNT" (Variable x))
  structural_falls takes = record {
    over = (count_symbol [], tt);
    of_formals = (tt, formal);
    body = body;
    ordinal = ordinal [] (Variable x) tt;
    falls = all_take (calls_of d.function d.body) (calls_over (symbols_of []) (not_symbol []) d.function d.body zero [] [] body tt tt) takes;
  }

-- the predecessor of a variable, the rest and the head of one
number_taken : (x : Name) (tests : List Term) → IsAmong (not_term (call1 "ZEROP" (Variable x))) tests → IsStructuralNest [] (Variable x) tests (call1 "SUB1" (Variable x))
number_taken x tests is = record { shell = numbers; here = inl refl; first = number_part "SUB1"; rest = []; parts = (inl refl, tt); is = refl; guarded = (no_zero refl is, tt) }

rest_taken : (x : Name) (tests : List Term) → IsAmong (call1 "LISTP" (Variable x)) tests → IsStructuralNest [] (Variable x) tests (call1 "CDR" (Variable x))
rest_taken x tests is = record { shell = pairs; here = inr (inl refl); first = any_part "CDR"; rest = []; parts = (inr (inl refl), tt); is = refl; guarded = (recognized refl is, tt) }

head_taken : (x : Name) (tests : List Term) → IsAmong (call1 "LISTP" (Variable x)) tests → IsStructuralNest [] (Variable x) tests (call1 "CAR" (Variable x))
head_taken x tests is = record { shell = pairs; here = inr (inl refl); first = any_part "CAR"; rest = []; parts = (inl refl, tt); is = refl; guarded = (recognized refl is, tt) }

rest_of_pair : (x : Name) (tests : List Term) → IsAmong (not_term (call1 "NLISTP" (Variable x))) tests → IsStructuralNest [] (Variable x) tests (call1 "CDR" (Variable x))
rest_of_pair x tests is = record { shell = pairs; here = inr (inl refl); first = any_part "CDR"; rest = []; parts = (inr (inl refl), tt); is = refl; guarded = (no_atom refl is, tt) }

abbrev x_name : Name
x_name = codes "X"

abbrev y_name : Name
y_name = codes "Y"

-- it has no measure
plain : (d : Definition) → d.measure ≡ None → FallsByMeasure d
plain d none m is = let same : None ≡ Some m = sym none ∙ is in absurd cc

measured_by : (d : Definition) (n : Term) → d.measure ≡ Some n → Falls [] d n → FallsByMeasure d
measured_by d n here falls m is = let same : Some n ≡ Some m = sym here ∙ is in let one : n ≡ m = cc in subst (Falls [] d) one falls

body_over : (d : Definition) → IsAmong d ground_definitions → IsTerm (symbols_of []) d.body
body_over d m = (each_at (λ (d : Definition). Each (IsTerm (symbols_of [])) (opening d)) d (ground_definitions ++ []) (definitions_over [] tt) (inside d ground_definitions m)).0.1
  where
    inside : (d : Definition) (ds : List Definition) → IsAmong d ds → IsAmong d (ds ++ [])
    inside d [] i = absurd i
    inside d (e ∷ ds) (inl i) = inl i
    inside d (e ∷ ds) (inr i) = inr (inside d ds i)

-- ORD-LESSP takes the heads and then the rests of two lists
pairs_fall : NestIsSmaller → SizeIsOrdinal → IsAmong ordinal_less_definition ground_definitions → Each (FallsUnder [] ordinal_less_definition (call1 "COUNT" x_term)) (calls_of ordinal_less_definition.function ordinal_less_definition.body)
pairs_fall smaller ordinal m =
    let d : Definition = ordinal_less_definition in
    let body = body_over d m in
    let over = calls_over (symbols_of []) (not_symbol []) d.function d.body zero [] [] body tt tt in
    let list : Term = is_list x_term in
    let formal : IsAmong x_name d.formals = inl refl in (
      denied_twice_falls smaller ordinal d x_name formal body _ over.0 list (listp_symbol [], tt) (inl refl) (head_taken x_name _ (inl refl)),
      (denied_twice_falls smaller ordinal d x_name formal body _ over.1.0 list (listp_symbol [], tt) (inl refl) (rest_taken x_name _ (inl refl)), tt),
    )

module _ (smaller : NestIsSmaller) (ordinal : SizeIsOrdinal) where
  by_x : (d : Definition) → d.measure ≡ Some (call1 "COUNT" x_term) → IsAmong x_name d.formals → IsAmong d ground_definitions → Each (Takes d x_name) (calls_of d.function d.body) → FallsByMeasure d
  by_x d is formal m takes = measured_by d (call1 "COUNT" x_term) is (structural_falls smaller ordinal d x_name formal (body_over d m) takes)

  by_y : (d : Definition) → d.measure ≡ Some (call1 "COUNT" y_term) → IsAmong y_name d.formals → IsAmong d ground_definitions → Each (Takes d y_name) (calls_of d.function d.body) → FallsByMeasure d
  by_y d is formal m takes = measured_by d (call1 "COUNT" y_term) is (structural_falls smaller ordinal d y_name formal (body_over d m) takes)

  -- the place of a definition in the list
  at : (d : Definition) (k : ℕ) → slice_get ground_definitions k ≡ Some d → IsAmong d ground_definitions
  at d k is = among_at d ground_definitions k is

  -- by falls that are shown call by call
  by_falls : (d : Definition) → d.measure ≡ Some (call1 "COUNT" x_term) → IsAmong x_name d.formals → IsAmong d ground_definitions → Each (FallsUnder [] d (call1 "COUNT" x_term)) (calls_of d.function d.body) → FallsByMeasure d
  by_falls d is formal m falls = measured_by d (call1 "COUNT" x_term) is (record {
    over = (count_symbol [], tt);
    of_formals = (tt, formal);
    body = body_over d m;
    ordinal = ordinal [] x_term tt;
    falls = falls;
  })

  pub ground_falls : GroundDefinitionsFall
  unfolding numeral
  ground_falls = (
    plain truth_definition refl,
    (
      plain falsity_definition refl,
      (
        plain not_definition refl,
        (
          plain and_definition refl,
          (
            plain or_definition refl,
            (
              plain implies_definition refl,
              (
                plain iff_definition refl,
                (
                  plain zero_test_definition refl,
                  (
                    plain fix_definition refl,
                    (
                      by_x plus_definition refl (inl refl) (at plus_definition 9 refl) (number_taken x_name _ (inl refl), tt),
                      (
                        by_x less_definition refl (inl refl) (at less_definition 10 refl) (number_taken x_name _ (inr (inl refl)), tt),
                        (
                          by_x difference_definition refl (inl refl) (at difference_definition 11 refl) (number_taken x_name _ (inl refl), tt),
                          (
                            by_x times_definition refl (inl refl) (at times_definition 12 refl) (number_taken x_name _ (inl refl), tt),
                            (
                              by_falls quotient_definition refl (inl refl) (at quotient_definition 13 refl) (difference_falls, tt),
                              (
                                by_falls remainder_definition refl (inl refl) (at remainder_definition 14 refl) (difference_falls, tt),
                                (
                                  plain (defines2 "GREATERP" "X" "Y" (call2 "LESSP" y_term x_term)) refl,
                                  (
                                    plain (defines2 "LEQ" "X" "Y" (not_term (call2 "LESSP" y_term x_term))) refl,
                                    (
                                      plain (defines2 "GEQ" "X" "Y" (not_term (call2 "LESSP" x_term y_term))) refl,
                                      (
                                        plain (defines1 "NLISTP" "X" (not_term (is_list x_term))) refl,
                                        (
                                          by_x append_definition refl (inl refl) (at append_definition 19 refl) (rest_taken x_name _ (inl refl), tt),
                                          (
                                            by_y member_definition refl (inr (inl refl)) (at member_definition 20 refl) (rest_of_pair y_name _ (inl refl), tt),
                                            (
                                              by_falls ordinal_less_definition refl (inl refl) (at ordinal_less_definition 21 refl) (pairs_fall smaller ordinal (at ordinal_less_definition 21 refl)),
                                              (
                                                by_x ordinal_definition refl (inl refl) (at ordinal_definition 22 refl) (head_taken x_name _ (inl refl), (rest_taken x_name _ (inl refl), tt)),
                                                (
                                                  plain (defines1 "IDENTITY" "X" x_term) refl,
                                                  (
                                                    plain (defines2 "MAX" "X" "Y" (if_term (call2 "LESSP" x_term y_term) y_term (call1 "FIX" x_term))) refl,
                                                    (
                                                      by_x union_definition refl (inl refl) (at union_definition 25 refl) (rest_taken x_name _ (inl refl), (rest_taken x_name _ (inl refl), tt)),
                                                      (
                                                        plain (defines2 "ADD-TO-SET" "X" "Y" (if_term (call2 "MEMBER" x_term y_term) y_term (cons_of x_term y_term))) refl,
                                                        (
                                                          by_y assoc_definition refl (inr (inl refl)) (at assoc_definition 27 refl) (rest_taken y_name _ (inl refl), tt),
                                                          (
                                                            by_x pairlist_definition refl (inl refl) (at pairlist_definition 28 refl) (rest_taken x_name _ (inl refl), tt),
                                                            tt,
                                                          ),
                                                        ),
                                                      ),
                                                    ),
                                                  ),
                                                ),
                                              ),
                                            ),
                                          ),
                                        ),
                                      ),
                                    ),
                                  ),
                                ),
                              ),
                            ),
                          ),
                        ),
                      ),
                    ),
                  ),
                ),
              ),
            ),
          ),
        ),
      ),
    ),
  )
