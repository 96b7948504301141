-- What the conditions of a definition tell.
use Rattle.std.proofs.Common.{◌≡◌, Bool, true, false, ℕ, zero, suc, ◌==◌, List, [], ◌∷◌, ◌++◌, ◌&&◌, length, map, if◌then◌else◌, inr, refl, sym, subst}
use Rattle.std.proofs.lemmas.Bool.Decides.{Decides-eqb}
use Rattle.std.specs.Prelude.{Option, Some, None, bytes_eq, codes, not, filter}
use Rattle.nq_logic.specs.Terms.{Name, Term, Variable, Function, Applied, Symbol, Takes, IsTerm, IsAmong, Each, Substitution, value_at, substituted}
use Rattle.nq_logic.specs.Words.{not_term, call1, call2}
use Rattle.nq_logic.specs.Formulas.{clause}
use Rattle.nq_logic.specs.Histories.{History, Definition}
use Rattle.nq_logic.specs.Ground.{symbols_of}
use Rattle.nq_logic.specs.Derivations.{Derivable}
use Rattle.nq_logic.specs.Names.{are_distinct, is_in_use}
use Rattle.nq_logic.specs.Admissible.{mentions, has_variables, Call, governed, all_calls, second_side, both_sides, if_calls, own_call, calls_with, calls_of, matched, denied_tests, obligation, FallsAt, IsMeasure, IsMeasured, IsAdmissible}
use Rattle.nq_logic.proofs.Lists.{each_append}
use Rattle.nq_logic.proofs.Symbols.{not_symbol, ordinalp_symbol, ord_lessp_symbol}
use Rattle.nq_logic.proofs.Additions.{takes_grows}
use Rattle.nq_proof.specs.Rules.{has_only}
use Rattle.nq_proof.proofs.Tests.{names_same, and_left, and_right}
use Rattle.nq_log.specs.States.{MeasureLine, State, introduced_symbols, block_symbols, term_at, clause_at}
use Rattle.nq_log.specs.ClosingLines.{introduces, are_falls, is_measure, is_measured, given_measure, new_definition, is_definition}
use Rattle.nq_logic.proofs.Tests.{names_distinct_law, variables_told_law}
use Rattle.nq_log.proofs.Options.{denied}
use Rattle.nq_log.proofs.Functions.{without_function}
use Rattle.nq_log.proofs.TermSteps.{IsRight, term_over}
use Rattle.nq_log.proofs.RuleSteps.{lines_hold, only_holds}

-- terms for variables of a term
module _ (symbols : List Symbol) where
  value_over : (s : Substitution) → Each (λ pair. IsTerm symbols pair.1) s → (x : Name) → IsTerm symbols (value_at s x)
  value_over [] over x = tt
  value_over (b ∷ s) over x = by_name (bytes_eq x b.0) (value_over s over.1 x)
    where
      by_name : (same : Bool) → IsTerm symbols (value_at s x) → IsTerm symbols (if same then b.1 else value_at s x)
      by_name true rest = over.0
      by_name false rest = rest

  instance_over : (s : Substitution) → Each (λ pair. IsTerm symbols pair.1) s → (t : Term) (n : ℕ) → Takes symbols t n → Takes symbols (substituted s t) n
  instance_over s over (Variable x) zero o = value_over s over x
  instance_over s over (Variable x) (suc n) o = absurd o
  instance_over s over (Function f) n o = o
  instance_over s over (Applied t u) n o = (instance_over s over t (suc n) o.0, instance_over s over u zero o.1)

  matched_over : (xs : List Name) (ts : List Term) → Each (IsTerm symbols) ts → Each (λ pair. IsTerm symbols pair.1) (matched xs ts)
  matched_over [] ts over = tt
  matched_over (x ∷ xs) [] over = tt
  matched_over (x ∷ xs) (t ∷ ts) over = (over.0, matched_over xs ts over.1)

  -- the tests and arguments of the calls within a term are over its symbols
  record CallOver (c : Call) : Type 0 where
    tests : Each (IsTerm symbols) c.tests
    arguments : Each (IsTerm symbols) c.arguments

  all_over : (calls : List (List Call)) → Each (Each CallOver) calls → Each CallOver (all_calls calls)
  all_over [] over = tt
  all_over (c ∷ calls) over = each_append CallOver c (all_calls calls) over.0 (all_over calls over.1)

  governed_over : (p : Term) (calls : List Call) → IsTerm symbols p → Each CallOver calls → Each CallOver (governed p calls)
  governed_over p [] o over = tt
  governed_over p (c ∷ calls) o over = (record { tests = (o, over.0.tests); arguments = over.0.arguments }, governed_over p calls o over.1)

  module _ (not_here : IsAmong (codes "NOT", 1) symbols) where
    second_over : (p : Term) (calls : List (List Call)) → IsTerm symbols p → Each (Each CallOver) calls → Each CallOver (second_side p calls)
    second_over p [] o over = tt
    second_over p (c ∷ calls) o over = each_append CallOver (governed (not_term p) c) (all_calls calls) (governed_over (not_term p) c (not_here, o) over.0) (all_over calls over.1)

    both_over : (p : Term) (calls : List (List Call)) → IsTerm symbols p → Each (Each CallOver) calls → Each CallOver (both_sides p calls)
    both_over p [] o over = tt
    both_over p (c ∷ calls) o over = each_append CallOver (governed p c) (second_side p calls) (governed_over p c o over.0) (second_over p calls o over.1)

    if_over : (ts : List Term) (calls : List (List Call)) → Each (IsTerm symbols) ts → Each (Each CallOver) calls → Each CallOver (if_calls ts calls)
    if_over ts [] o over = tt
    if_over [] (c ∷ calls) o over = all_over (c ∷ calls) over
    if_over (p ∷ ts) (c ∷ calls) o over = each_append CallOver c (both_sides p calls) over.0 (both_over p calls o.0 over.1)

    calls_over : (f : Name) (t : Term) (n : ℕ) (ts : List Term) (inner : List (List Call)) → Takes symbols t n → Each (IsTerm symbols) ts → Each (Each CallOver) inner → Each CallOver (calls_with f t ts inner)
    calls_over f (Variable x) n ts inner o os over = tt
    calls_over f (Function g) n ts inner o os over =
        each_append CallOver (own_call f g ts) (if bytes_eq g (codes "IF") then if_calls ts inner else all_calls inner) (own (bytes_eq f g)) (within (bytes_eq g (codes "IF")))
      where
        own : (same : Bool) → Each CallOver (if same then record { tests = []; arguments = ts } ∷ [] else [])
        own true = (record { tests = tt; arguments = os }, tt)
        own false = tt

        within : (same : Bool) → Each CallOver (if same then if_calls ts inner else all_calls inner)
        within true = if_over ts inner os over
        within false = all_over inner over
    calls_over f (Applied t u) n ts inner o os over = calls_over f t (suc n) (u ∷ ts) (calls_with f u [] [] ∷ inner) o.0 (o.1, os) (calls_over f u zero [] [] o.1 tt tt, over)

module _ (s : State) (w : IsRight s) (f : Name) (xs : List Name) where
  h : History
  h = s.history

  abbrev more_symbols : List Symbol
  more_symbols = (f, length xs) ∷ symbols_of s.history

  -- the block's terms may have the defined function
  over_more : introduces s.block.introduced f (length xs) ≡ true → (t : Term) → IsTerm (block_symbols s) t → IsTerm more_symbols t
  over_more e t o = by_function s.block.introduced e o
    where
      by_function : (i : Option (Name × ℕ)) → introduces i f (length xs) ≡ true → IsTerm (introduced_symbols i ++ symbols_of s.history) t → IsTerm more_symbols t
      by_function None e o = takes_grows (symbols_of s.history) more_symbols (λ x m. inr m) t zero o
      by_function (Some i) e o =
          let name : i.0 ≡ f = names_same i.0 f (and_left (bytes_eq i.0 f) (i.1 == length xs) e) in
          let arity : i.1 ≡ length xs = (Decides-eqb i.1 (length xs)).0 (and_right (bytes_eq i.0 f) (i.1 == length xs) e) in
          subst (λ n. IsTerm ((f, n) ∷ symbols_of s.history) t) arity (subst (λ g. IsTerm ((g, i.1) ∷ symbols_of s.history) t) name o)

  denied_over : (tests : List Term) → Each (IsTerm more_symbols) tests → Each (IsTerm (symbols_of s.history)) (denied_tests f tests)
  denied_over [] over = tt
  denied_over (t ∷ tests) over = by_test (mentions f t) refl (denied_over tests over.1)
    where
      by_test : (b : Bool) → mentions f t ≡ b → Each (IsTerm (symbols_of s.history)) (denied_tests f tests) →
          Each (IsTerm (symbols_of s.history)) (map not_term (if not b then t ∷ filter (λ t. not (mentions f t)) tests else filter (λ t. not (mentions f t)) tests))
      by_test true e rest = rest
      by_test false e rest = ((not_symbol s.history, without_function f (length xs) (symbols_of s.history) t zero e over.0), rest)

  -- the measure at the formals and at a call
  module _ (m : Term) (om : IsTerm (symbols_of s.history) m) where
    obligation_over : (c : Call) → CallOver more_symbols c → mentions f (substituted (matched xs c.arguments) m) ≡ false → Each (IsTerm (symbols_of s.history)) (obligation f xs m c.tests c.arguments)
    obligation_over c over e =
        let larger = takes_grows (symbols_of s.history) more_symbols (λ x m. inr m) m zero om in
        let at_call = instance_over more_symbols (matched xs c.arguments) (matched_over more_symbols xs c.arguments over.arguments) m zero larger in
        let small = without_function f (length xs) (symbols_of s.history) (substituted (matched xs c.arguments) m) zero e at_call in
        each_append (IsTerm (symbols_of s.history)) (denied_tests f c.tests) (call2 "ORD-LESSP" (substituted (matched xs c.arguments) m) m ∷ [])
        (denied_over c.tests over.tests) (((ord_lessp_symbol s.history, small), om), tt)

    -- each call of a definition with these formals has its line
    falls_hold : (d : Definition) → d.function ≡ f → d.formals ≡ xs → (calls : List Call) (rs : List ℕ) → Each (CallOver more_symbols) calls → are_falls s.block f xs m calls rs ≡ true →
        Each (FallsAt s.history d m) calls
    falls_hold d name formals [] rs over e = tt
    falls_hold d name formals (c ∷ calls) [] over e = absurd cc
    falls_hold d name formals (c ∷ calls) (r ∷ rs) over e =
        let free = not (mentions f (substituted (matched xs c.arguments) m)) in
        let shown = has_only (clause_at s.block r) (obligation f xs m c.tests c.arguments) in
        let rest = are_falls s.block f xs m calls rs in
        let both = and_left (free && shown) rest e in
        let absent = denied (mentions f (substituted (matched xs c.arguments) m)) (and_left free shown both) in
        let less = only_holds s.history (clause_at s.block r) (obligation f xs m c.tests c.arguments) (lines_hold s w r) (obligation_over c over.0 absent) (and_right free shown both) in (
          record {
            older = subst (λ g. mentions g (substituted (matched d.formals c.arguments) m) ≡ false) (sym name) (subst (λ ys. mentions f (substituted (matched ys c.arguments) m) ≡ false) (sym formals) absent);
            less = subst (λ g. Derivable s.history (clause (obligation g d.formals m c.tests c.arguments))) (sym name) (subst (λ ys. Derivable s.history (clause (obligation f ys m c.tests c.arguments))) (sym formals) less);
          },
          falls_hold d name formals calls rs over.1 (and_right (free && shown) rest e),
        )

  -- the definition with this body and measure
  abbrev defined : Term → Option Term → Definition
  defined body measure = record { function = f; formals = xs; body = body; measure = measure }

  measure_holds : introduces s.block.introduced f (length xs) ≡ true → (body : Term) (measure : Option Term) → IsTerm more_symbols body → (rs : List ℕ) (o : ℕ) (m : Term) →
      IsTerm (block_symbols s) m → is_measure s.block f xs body rs o (Some m) ≡ true → IsMeasure s.history (defined body measure) m
  measure_holds i body measure over rs o m g e =
      let variables = has_variables xs m in
      let free = not (mentions f m) in
      let ordinal = has_only (clause_at s.block o) (call1 "ORDINALP" m ∷ []) in
      let falls = are_falls s.block f xs m (calls_of f body) rs in
      let three = and_left (variables && free && ordinal) falls e in
      let two = and_left (variables && free) ordinal three in
      let om = without_function f (length xs) (symbols_of s.history) m zero (denied (mentions f m) (and_right variables free two)) (over_more i m g) in
      record {
        over = om;
        of_formals = (variables_told_law xs m).0 (and_left variables free two);
        ordinal = only_holds s.history (clause_at s.block o) (call1 "ORDINALP" m ∷ []) (lines_hold s w o) ((ordinalp_symbol s.history, om), tt) (and_right (variables && free) ordinal three);
        falls = falls_hold m om (defined body measure) refl refl (calls_of f body) rs (calls_over more_symbols (inr (not_symbol s.history)) f body zero [] [] over tt tt) (and_right (variables && free && ordinal) falls e);
      }

  measured_holds : introduces s.block.introduced f (length xs) ≡ true → (body : Term) (measure : Option Term) → IsTerm more_symbols body → (called : Bool) (line : Option MeasureLine) →
      measure ≡ given_measure s.block line → is_measured s.block f xs body called line ≡ true → IsMeasured s.history (defined body measure) called measure
  measured_holds i body measure over false None is e = subst (λ (o : Option Term). IsMeasured s.history (defined body measure) false o) (sym is) tt
  measured_holds i body measure over false (Some line) is e = absurd cc
  measured_holds i body measure over true None is e = absurd cc
  measured_holds i body measure over true (Some line) is e = by_term (term_at s.block line.measure) refl is e
    where
      by_term : (o : Option Term) → term_at s.block line.measure ≡ o → measure ≡ o → is_measure s.block f xs body line.falls line.ordinal o ≡ true → IsMeasured s.history (defined body measure) true measure
      by_term None found same e = absurd cc
      by_term (Some m) found same e =
          subst (λ (o : Option Term). IsMeasured s.history (defined body measure) true o) (sym same)
          (measure_holds i body measure over line.falls line.ordinal m (term_over s w line.measure m found) e)

  pub admissible : (body : Term) → IsTerm (block_symbols s) body → is_in_use f s.history ≡ false → is_definition s f xs body ≡ true → IsAdmissible s.history (new_definition s.block f xs body)
  admissible body o unused e =
      let introduced = introduces s.block.introduced f (length xs) in
      let different = are_distinct xs in
      let variables = has_variables xs body in
      let measured = is_measured s.block f xs body (mentions f body) s.block.measure in
      let three = and_left (introduced && different && variables) measured e in
      let two = and_left (introduced && different) variables three in
      let i = and_left introduced different two in
      let over = over_more i body o in
      record {
        unused = unused;
        distinct = (names_distinct_law xs).0 (and_right introduced different two);
        closed = (variables_told_law xs body).0 (and_right (introduced && different) variables three);
        over = over;
        measured = measured_holds i body (given_measure s.block s.block.measure) over (mentions f body) s.block.measure refl (and_right (introduced && different && variables) measured e);
      }
