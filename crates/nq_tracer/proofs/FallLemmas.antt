-- The measures of definitions fall.
use Rattle.std.proofs.Common.{◌≡◌, Bool, true, false, ℕ, zero, suc, List, [], ◌∷◌, ◌++◌, map, refl, subst, inl, inr, append_assoc}
use Rattle.std.specs.Prelude.{Option, Some, None, not, filter, if◌then◌else◌, bytes_eq}
use Rattle.nq_logic.specs.Terms.{Name, Term, Variable, Function, Applied, Symbol, Takes, IsTerm, IsAmong, Each, value_at, substituted}
use Rattle.nq_logic.specs.Words.{not_term}
use Rattle.nq_logic.specs.Histories.{History, Definition, Event, AddShell, Declaration, Defines, Axiom, Lemma, Toggle, events_definitions}
use Rattle.nq_logic.specs.Ground.{symbols_of}
use Rattle.nq_logic.specs.Admissible.{mentions, Call, calls_of, matched, obligation, FallsAt, IsMeasure, IsMeasured}
use Rattle.nq_logic.specs.Laws.{IsClause}
use Rattle.nq_logic.proofs.Lists.{each_among, each_mono}
use Rattle.nq_logic.proofs.Symbols.{not_symbol, ord_lessp_symbol}
use Rattle.nq_logic.proofs.Additions.{growth_law, takes_grows, all_symbols_grow}
use Rattle.nq_logic.proofs.Clauses.{more_literals}
use Rattle.nq_proof.proofs.CalledTerms.{CallOver, calls_over}
use Rattle.nq_kernel.specs.Ready.{ReadyFrom}
use Rattle.nq_falls.specs.Falls.{fall_of, FallsUnder, Falls}
use Rattle.nq_falls.proofs.TestLemmas.{denied_over, instance_over, matched_over}

-- fewer tests, denied
fewer : (P : Term → Bool) (tests rest : List Term) → Each (λ p. IsAmong p (map not_term tests ++ rest)) (map not_term (filter P tests) ++ rest)
fewer P [] rest = each_among (λ p. IsAmong p rest) rest (λ p i. i)
fewer P (t ∷ tests) rest = by_test (P t) (each_mono (λ p. IsAmong p (map not_term tests ++ rest)) (λ p. IsAmong p (not_term t ∷ (map not_term tests ++ rest))) (λ p i. inr i) (map not_term (filter P tests) ++ rest) (fewer P tests rest))
  where
    by_test : (b : Bool) → Each (λ p. IsAmong p (not_term t ∷ (map not_term tests ++ rest))) (map not_term (filter P tests) ++ rest)
        → Each (λ p. IsAmong p (not_term t ∷ (map not_term tests ++ rest))) (map not_term (if b then t ∷ filter P tests else filter P tests) ++ rest)
    by_test true e = (inl refl, e)
    by_test false e = e

-- ---- definitions of the history

admitted : (h : History) (d : Definition) (m : Term) (calls : Bool) (o : Option Term) → o ≡ Some m → IsMeasured h d calls o → IsMeasure h d m
admitted h d m false None is w = absurd cc
admitted h d m false (Some n) is w = absurd w
admitted h d m true None is w = absurd cc
admitted h d m true (Some n) is w = let same : n ≡ m = cc in subst (IsMeasure h d) same w

module _ (b more : History) (d : Definition) (m : Term) (measure : IsMeasure b d m) (body : IsTerm (symbols_of (b ++ more)) d.body) where
  abbrev whole : History
  whole = b ++ more

  over_m : IsTerm (symbols_of whole) m
  over_m = takes_grows (symbols_of b) (symbols_of whole) (all_symbols_grow b more) m zero measure.over

  falls_at : (c : Call) → CallOver (symbols_of whole) c → FallsAt b d m c → FallsUnder whole d m c
  falls_at c over fall =
      let last : List Term = fall_of d m c.arguments ∷ [] in
      let there = instance_over (symbols_of whole) (matched d.formals c.arguments) (matched_over (symbols_of whole) d.formals c.arguments over.arguments) m zero over_m in
      more_literals whole (obligation d.function d.formals m c.tests c.arguments) (map not_term c.tests ++ last) (growth_law b more _ fall.less)
      (denied_over whole c.tests last over.tests (((ord_lessp_symbol whole, there), over_m), tt))
      (fewer (λ t. not (mentions d.function t)) c.tests last)

  all_fall : (calls : List Call) → Each (CallOver (symbols_of whole)) calls → Each (FallsAt b d m) calls → Each (FallsUnder whole d m) calls
  all_fall [] over falls = tt
  all_fall (c ∷ calls) over falls = (falls_at c over.0 falls.0, all_fall calls over.1 falls.1)

  pub grown_falls : Falls whole d m
  grown_falls = record {
    over = over_m;
    of_formals = measure.of_formals;
    body = body;
    ordinal = growth_law b more _ measure.ordinal;
    falls = all_fall (calls_of d.function d.body) (calls_over (symbols_of whole) (not_symbol whole) d.function d.body zero [] [] body tt tt) measure.falls;
  }

-- the definition falls in the history by its measure, if its body is over the history
abbrev pub FallsIfOver : History → Definition → Type 0
FallsIfOver h d = (m : Term) → d.measure ≡ Some m → IsTerm (symbols_of h) d.body → Falls h d m

joined : (b : History) (e : Event) (h : History) (ds : List Definition) → Each (FallsIfOver ((b ++ e ∷ []) ++ h)) ds → Each (FallsIfOver (b ++ e ∷ h)) ds
joined b e h ds each = subst (λ (k : History). Each (FallsIfOver k) ds) (append_assoc b (e ∷ []) h) each

pub falls_from : (b h : History) → ReadyFrom b h → Each (FallsIfOver (b ++ h)) (events_definitions h)
falls_from b [] w = tt
falls_from b (AddShell s ∷ h) w = joined b (AddShell s) h (events_definitions h) (falls_from (b ++ AddShell s ∷ []) h w.1)
falls_from b (Declaration f n ∷ h) w = joined b (Declaration f n) h (events_definitions h) (falls_from (b ++ Declaration f n ∷ []) h w.1)
falls_from b (Defines d ∷ h) w = (
  λ m is body. grown_falls b (Defines d ∷ h) d m (admitted b d m (mentions d.function d.body) d.measure is w.0.holds.measured) body,
  joined b (Defines d) h (events_definitions h) (falls_from (b ++ Defines d ∷ []) h w.1),
)
falls_from b (Axiom n classes t ∷ h) w = joined b (Axiom n classes t) h (events_definitions h) (falls_from (b ++ Axiom n classes t ∷ []) h w.1)
falls_from b (Lemma n classes t ∷ h) w = joined b (Lemma n classes t) h (events_definitions h) (falls_from (b ++ Lemma n classes t ∷ []) h w.1)
falls_from b (Toggle n old disabled ∷ h) w = joined b (Toggle n old disabled) h (events_definitions h) (falls_from (b ++ Toggle n old disabled ∷ []) h w.1)
