-- Each recursive call gives a case of a scheme.
use Rattle.std.proofs.Common.{◌≡◌, zero, List, [], ◌∷◌, ◌++◌, map, refl, sym, ap, subst}
use Rattle.std.specs.Prelude.{Option, Some, None}
use Rattle.nq_logic.specs.Terms.{Name, Term, IsTerm, IsAmong, Each, Substitution, substituted, value_at}
use Rattle.nq_logic.specs.Words.{call2, not_term}
use Rattle.nq_logic.specs.Formulas.{clause}
use Rattle.nq_logic.specs.Histories.{History, Definition}
use Rattle.nq_logic.specs.Ground.{symbols_of}
use Rattle.nq_logic.specs.Admissible.{Call, calls_of, matched}
use Rattle.nq_logic.specs.Derivations.{Derivable}
use Rattle.nq_logic.specs.RuleShapes.{variables_of}
use Rattle.nq_logic.proofs.Lists.{each_at, each_among}
use Rattle.nq_logic.proofs.Symbols.{not_symbol, ord_lessp_symbol}
use Rattle.nq_logic.proofs.Clauses.{instance_law}
use Rattle.nq_proof.proofs.CalledTerms.{CallOver, calls_over}
use Rattle.nq_events.specs.Inductions.{arguments_of, measured, names_of}
use Rattle.nq_goals.specs.Inducting.{GoesBy, all_of}
use Rattle.nq_falls.specs.Falls.{fall_of, FallsUnder, Falls}
use Rattle.nq_tracer.specs.Cases.{changes_of, image_of, case_of, IsSuggesting, CallsGiveCases}
use Rattle.nq_falls.proofs.TestLemmas.{matched_over, instance_over, denied_over}
use Rattle.nq_tracer.proofs.ChangeLemmas.{becomes_image, follows, variables_among, keys_are, distinct_names_told, has_among}
use Rattle.nq_tracer.proofs.AndLemmas.{gathered, parts_within}

-- the clause of a fall, with terms in the place of its variables
mapped : (s : Substitution) (tests : List Term) (rest : List Term) → map (substituted s) (map not_term tests ++ rest) ≡ map not_term (map (substituted s) tests) ++ map (substituted s) rest
mapped s [] rest = refl
mapped s (t ∷ tests) rest = ap (λ (ts : List Term). not_term (substituted s t) ∷ ts) (mapped s tests rest)

tests_over : (h : History) (s : Substitution) → Each (λ (pair : Name × Term). IsTerm (symbols_of h) pair.1) s → (tests : List Term) → Each (IsTerm (symbols_of h)) tests → Each (IsTerm (symbols_of h)) (map (substituted s) tests)
tests_over h s over [] o = tt
tests_over h s over (t ∷ tests) o = (instance_over (symbols_of h) s over t zero o.0, tests_over h s over tests o.1)

module _ (h : History) (d : Definition) (m t : Term) (c : Call) (suggesting : IsSuggesting h d m t) (falls : Falls h d m) (among : IsAmong c (calls_of d.function d.body)) where
  abbrev here : Substitution
  here = matched d.formals (arguments_of t)

  abbrev there : Substitution
  there = matched d.formals c.arguments

  abbrev first : Substitution
  first = changes_of (variables_of m) (image_of d (arguments_of t) c) here

  sends : Each (λ x. substituted first (value_at here x) ≡ substituted here (value_at there x)) (variables_of m)
  sends =
      let told = distinct_names_told (names_of (measured (variables_of m) here)) suggesting.suggests in
      let keys = keys_are d.formals (arguments_of t) suggesting.count in
      each_among (λ x. substituted first (value_at here x) ≡ substituted here (value_at there x)) (variables_of m) (λ x i.
      becomes_image (variables_of m) (image_of d (arguments_of t) c) here told.0 x told.1.0 told.1.1
      (subst (IsAmong x) (sym keys) (each_at (λ x. IsAmong x d.formals) x (variables_of m) (variables_among d.formals m falls.of_formals) i))
      (has_among x (variables_of m) i))

  own : GoesBy h (case_of d m (arguments_of t) c) t
  own = record {
    definition = d;
    opened = suggesting.opened;
    recursive = c;
    stands = among;
    tests = parts_within (map (substituted here) c.tests);
    first = first;
    is_first = refl;
    sends = subst (λ (o : Option Term). Each (λ x. substituted first (value_at here x) ≡ substituted here (value_at there x)) (elim o as (λ _. List Name) [ None ↦ [] | Some n ↦ variables_of n ])) (sym suggesting.measure) sends;
  }

  over_here : Each (λ (pair : Name × Term). IsTerm (symbols_of h) pair.1) here
  over_here = matched_over (symbols_of h) d.formals (arguments_of t) suggesting.over

  over_call : CallOver (symbols_of h) c
  over_call = each_at (CallOver (symbols_of h)) c (calls_of d.function d.body) (calls_over (symbols_of h) (not_symbol h) d.function d.body zero [] [] falls.body tt tt) among

  fall_there : Derivable h (clause (map not_term (map (substituted here) c.tests) ++ (call2 "ORD-LESSP" (substituted here (substituted there m)) (substituted here m) ∷ [])))
  fall_there =
      let falling = each_at (FallsUnder h d m) c (calls_of d.function d.body) falls.falls among in
      let last : List Term = fall_of d m c.arguments ∷ [] in
      let small = instance_over (symbols_of h) there (matched_over (symbols_of h) d.formals c.arguments over_call.arguments) m zero falls.over in
      let o = tests_over h here over_here (map not_term c.tests ++ last) (denied_over h c.tests last over_call.tests (((ord_lessp_symbol h, small), falls.over), tt)) in
      subst (λ (ts : List Term). Derivable h (clause ts)) (mapped here c.tests last) (instance_law h here (map not_term c.tests ++ last) falling o)

  fall_here : Derivable h (clause (not_term (all_of (map (substituted here) c.tests)) ∷ call2 "ORD-LESSP" (substituted first (substituted here m)) (substituted here m) ∷ []))
  fall_here =
      let at_here = instance_over (symbols_of h) here over_here m zero falls.over in
      let small = instance_over (symbols_of h) there (matched_over (symbols_of h) d.formals c.arguments over_call.arguments) m zero falls.over in
      let small_here = instance_over (symbols_of h) here over_here (substituted there m) zero small in
      subst (λ (u : Term). Derivable h (clause (not_term (all_of (map (substituted here) c.tests)) ∷ call2 "ORD-LESSP" u (substituted here m) ∷ []))) (sym (follows first here there m sends))
      (gathered h (map (substituted here) c.tests) (call2 "ORD-LESSP" (substituted here (substituted there m)) (substituted here m) ∷ []) (tests_over h here over_here c.tests over_call.tests)
      (((ord_lessp_symbol h, small_here), at_here), tt) fall_there)

pub calls_give_cases_law : CallsGiveCases
calls_give_cases_law h d m t c calls suggesting falls among one = record {
  suggesting = t;
  among = one;
  goes = own h d m t c suggesting falls among;
  falls = (fall_here h d m t c suggesting falls among, tt);
}
