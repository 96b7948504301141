-- The use of a line ends.
use Rattle.std.proofs.Common.{◌≡◌, ℕ, zero, suc, pred, true, false, List, [], ◌∷◌, map, length, refl, sym, ap, ◌∙◌, arith}
use Rattle.std.specs.Prelude.{Option, Some, None, is_some, slice_get}
use Rattle.std.specs.Option.{option_map}
use Rattle.nq_logtext.specs.Reading.{◌>>=◌}
use Rattle.nq_logtext.specs.Fields.{number}
use Rattle.nq_bank.specs.declared.node.TermId.{TermId}
use Rattle.nq_bank.specs.Content.{Content, terms_at}
use Rattle.nq_proof.specs.Clauses.{Clause}
use Rattle.nq_kernel.specs.declared.rule.Line.{Line}
use Rattle.nq_kernel.specs.Lines.{ids_at, ids_if, ids_of}
use Rattle.nq_kernel.specs.Meaning.{IsOver}
use Rattle.nq_log.specs.States.{Continues, clause_at}
use Rattle.nq_log.specs.Logs.{continued}
use Rattle.nq_log.specs.RuleLines.{drop_line, dropped}
use Rattle.nq_check.specs.declared.context.Context.{Context}
use Rattle.nq_check.specs.Contexts.{clause_of, state_of, IsWhole}
use Rattle.nq_check.specs.Judging.{GoesOn}
use Rattle.nq_check.proofs.ContextLemmas.{clause_same}

-- the clauses of lines are those of their ids
clause_by : (bank : Content) (x y : Line) → ids_if y.stands y.clause.items ≡ ids_if x.stands x.clause.items → clause_of bank x ≡ clause_of bank y
clause_by bank x y e = ap (option_map (terms_at bank)) (sym e)

same_all : (bank : Content) (log new : List Line) → length new ≡ length log → ((j : ℕ) → ids_of (slice_get new j) ≡ ids_of (slice_get log j)) → map (clause_of bank) log ≡ map (clause_of bank) new
same_all bank [] [] count same = refl
same_all bank [] (y ∷ new) count same = absurd (omega (arith, count))
same_all bank (x ∷ log) [] count same = absurd (omega (arith, count))
same_all bank (x ∷ log) (y ∷ new) count same =
    ap (λ (c : Option Clause). c ∷ map (clause_of bank) log) (clause_by bank x y (same 0))
    ∙ ap (λ (cs : List (Option Clause)). clause_of bank y ∷ cs) (same_all bank log new (omega (arith, count)) (λ j. same (suc j)))

-- the lines without one
pub dropped_is : (bank : Content) (log new : List Line) (k : ℕ) → length new ≡ length log → ids_of (slice_get new k) ≡ None → ((j : ℕ) → (j ≡ k → ⊥) → ids_of (slice_get new j) ≡ ids_of (slice_get log j)) →
    dropped (map (clause_of bank) log) k ≡ map (clause_of bank) new
dropped_is bank [] [] k count gone others = refl
dropped_is bank [] (y ∷ new) k count gone others = absurd (omega (arith, count))
dropped_is bank (x ∷ log) [] k count gone others = absurd (omega (arith, count))
dropped_is bank (x ∷ log) (y ∷ new) zero count gone others =
    ap (λ (o : Option (List TermId)). option_map (terms_at bank) o ∷ map (clause_of bank) log) (sym gone)
    ∙ ap (λ (cs : List (Option Clause)). clause_of bank y ∷ cs) (same_all bank log new (omega (arith, count)) (λ j. others (suc j) (λ e. absurd (omega (arith, e)))))
dropped_is bank (x ∷ log) (y ∷ new) (suc k) count gone others =
    ap (λ (c : Option Clause). c ∷ dropped (map (clause_of bank) log) k) (clause_by bank x y (others 0 (λ e. absurd (omega (arith, e)))))
    ∙ ap (λ (cs : List (Option Clause)). clause_of bank y ∷ cs) (dropped_is bank log new k (omega (arith, count)) gone (λ j other. others (suc j) (λ e. other (omega (arith, e)))))

at_line : (bank : Content) (log new : List Line) (n : ℕ) → is_some (ids_at log n) ≡ true → length new ≡ length log → ids_at new n ≡ None → ((m : ℕ) → (m ≡ n → ⊥) → ids_at new m ≡ ids_at log m) →
    dropped (map (clause_of bank) log) (pred n) ≡ map (clause_of bank) new
at_line bank log new zero stands count gone others = absurd cc
at_line bank log new (suc k) stands count gone others = dropped_is bank log new k count gone (λ j other. others (suc j) (λ e. other (omega (arith, e))))

line_found : (c : Context) (n : ℕ) → clause_at (state_of c).block n ≡ option_map (terms_at c.bank) (ids_at c.log n)
line_found c n = clause_same c.bank c.introduced c.terms.items c.log c.parts.items c.cases.items c.measure n

pub drop_denied : (c : Context) (n : ℕ) → is_some (ids_at c.log n) ≡ false → continued (drop_line (state_of c) (number n ∷ [])) ≡ None
drop_denied c n e = ap (λ (o : Option Clause). continued (o >>= λ x. Some (record (state_of c).block { lines = dropped (state_of c).block.lines (pred n) }))) (line_found c n) ∙ by_ids (ids_at c.log n) e
  where
    by_ids : (o : Option (List TermId)) → is_some o ≡ false → continued (option_map (terms_at c.bank) o >>= λ x. Some (record (state_of c).block { lines = dropped (state_of c).block.lines (pred n) })) ≡ None
    by_ids None e = refl
    by_ids (Some ids) e = absurd cc

pub drop_goes_on : (old : Context) (log : List Line) (n : ℕ) → IsWhole old → is_some (ids_at old.log n) ≡ true → length log ≡ length old.log → ids_at log n ≡ None → ((m : ℕ) → (m ≡ n → ⊥) → ids_at log m ≡ ids_at old.log m) →
    IsOver old.bank log → GoesOn (state_of old) (continued (drop_line (state_of old) (number n ∷ []))) (record old { log = log })
drop_goes_on old log n whole stands count gone others over = record {
  whole = record { history = whole.history; introduced = whole.introduced; terms = whole.terms; lines = over; parts = whole.parts };
  step =
      ap (λ (o : Option Clause). continued (o >>= λ x. Some (record (state_of old).block { lines = dropped (state_of old).block.lines (pred n) }))) (line_found old n)
      ∙ by_ids (ids_at old.log n) stands
      ∙ ap (λ (ls : List (Option Clause)). Some (Continues (record (state_of old).block { lines = ls }))) (at_line old.bank old.log log n stands count gone others);
  history = refl;
}
  where
    by_ids : (o : Option (List TermId)) → is_some o ≡ true →
        continued (option_map (terms_at old.bank) o >>= λ x. Some (record (state_of old).block { lines = dropped (state_of old).block.lines (pred n) }))
        ≡ Some (Continues (record (state_of old).block { lines = dropped (state_of old).block.lines (pred n) }))
    by_ids None e = absurd cc
    by_ids (Some ids) e = refl
