-- Lines are derivable.
use Rattle.std.proofs.Common.{◌≡◌, ℕ, zero, suc, ◌<◌, ◌≤◌, ◌⊎◌, Option, Some, None, List, [], ◌∷◌, length, take, inl, inr, refl, sym, ap, ◌∙◌, subst, arith}
use Rattle.std.specs.Prelude.{slice_get}
use Rattle.std.specs.Option.{option_map}
use Rattle.std.proofs.lemmas.List.{length-take}
use Rattle.std.proofs.lemmas.Option.{slice_get_within}
use Rattle.nq_logic.specs.Terms.{Name, Symbol, Term, IsTerm, Each}
use Rattle.nq_logic.specs.Formulas.{clause}
use Rattle.nq_logic.specs.Ground.{symbols_of}
use Rattle.nq_logic.specs.Derivations.{Derivable}
use Rattle.nq_bank.specs.Content.{Content, terms_at}
use Rattle.nq_proof.specs.Closed.{IsClosed}
use Rattle.nq_proof.specs.Laws.{LemmasHold, LinesHold}
use Rattle.nq_proof.specs.Rules.{rule_terms}
use Rattle.nq_arith.specs.Laws.{FullSoundness}
use Rattle.nq_history.specs.declared.entry.Entry.{Entry}
use Rattle.nq_history.specs.Events.{events_at}
use Rattle.nq_kernel.specs.declared.rule.Line.{Line}
use Rattle.nq_kernel.specs.Lines.{ids_of, ids_if}
use Rattle.nq_kernel.specs.Meaning.{rule_at, clause_at, conclusion_at}
use Rattle.nq_kernel.specs.Over.{IsVariable, IsTermOf, RulesAreOver}
use Rattle.nq_kernel.specs.Growing.{IsLegal}
use Rattle.nq_kernel.specs.Laws.{SoundLine, SoundLog}
use Rattle.nq_kernel.proofs.LogGrowth.{slice_get-take, below_or_not}

pub line_law : FullSoundness → SoundLine
unfolding conclusion_at
line_law rules_hold bank history log rule c closed lemmas lines terms made = rules_hold (events_at bank history) (clause_at bank log) (rule_at bank rule) c closed lemmas lines terms made

each_over : (P : Name → Type 0) (symbols : List Symbol) (ts : List Term) → Each (IsTermOf P symbols) ts → Each (IsTerm symbols) ts
each_over P symbols [] h = tt
each_over P symbols (t ∷ ts) h = (h.0.over, each_over P symbols ts h.1)

-- a line that stands among the first k lines stands in the log, with the same clause, and has a number up to k
line_taken : (bank : Content) (log : List Line) (k n : ℕ) (c : List Term) → clause_at bank (take k log) n ≡ Some c → (n ≤ k) × (clause_at bank log n ≡ Some c)
line_taken bank log k zero c e = absurd cc
line_taken bank log k (suc m) c e = by_line (slice_get (take k log) m) refl e
  where
    by_line : (o : Option Line) → slice_get (take k log) m ≡ o → option_map (terms_at bank) (ids_of o) ≡ Some c → (suc m ≤ k) × (clause_at bank log (suc m) ≡ Some c)
    by_line None at h = absurd cc
    by_line (Some line) at h =
        let within = slice_get_within (take k log) m line at in
        let count = length-take k log in
        (omega (arith, within, count), ap (λ o. option_map (terms_at bank) (ids_of o)) (slice_get-take log k m line at) ∙ h)

-- Of a log the first lines are derivable, and each later one is legal: then each standing line is derivable.
module _ (rules_hold : FullSoundness) (bank : Content) (history : List Entry) (log : List Line) (P : Name → Type 0) (start : ℕ) (closed : IsClosed (events_at bank history)) (lemmas : LemmasHold (events_at bank history)) (legal : (k : ℕ) → start ≤ k → k < length log → IsLegal bank history log k) (over : RulesAreOver P bank history start log) (known : (n : ℕ) (c : List Term) → n ≤ start → clause_at bank log n ≡ Some c → Derivable (events_at bank history) (clause c)) where
  legal_line : (k : ℕ) (c : List Term) → start ≤ k → (legal : IsLegal bank history log k) → LinesHold (events_at bank history) (clause_at bank (take k log)) → clause_at bank log (suc k) ≡ Some c → Derivable (events_at bank history) (clause c)
  legal_line k c from legal lines e =
      let ids : List Term = terms_at bank legal.line.clause.items in
      let terms = each_over P (symbols_of (events_at bank history)) (rule_terms (rule_at bank legal.line.rule)) (over.each k legal.line from legal.at).terms in
      let shown : Derivable (events_at bank history) (clause ids) = line_law rules_hold bank history (take k log) legal.line.rule ids closed lemmas lines terms legal.clause.concluded in
      let found : clause_at bank log (suc k) ≡ Some ids = ap (λ o. option_map (terms_at bank) (ids_of o)) legal.at ∙ ap (λ b. option_map (terms_at bank) (ids_if b legal.line.clause.items)) legal.stands in
      subst (λ d. Derivable (events_at bank history) (clause d)) (by_some ids c (sym found ∙ e)) shown
    where
      by_some : (a b : List Term) → Some a ≡ Some b → a ≡ b
      by_some a b e = cc

  next_line : (k : ℕ) (c : List Term) → start ≤ k → LinesHold (events_at bank history) (clause_at bank (take k log)) → clause_at bank log (suc k) ≡ Some c → Derivable (events_at bank history) (clause c)
  next_line k c from lines e = by_line (slice_get log k) refl e
    where
      by_line : (o : Option Line) → slice_get log k ≡ o → option_map (terms_at bank) (ids_of o) ≡ Some c → Derivable (events_at bank history) (clause c)
      by_line None at h = absurd cc
      by_line (Some line) at h = legal_line k c from (legal k from (slice_get_within log k line at)) lines e

  first_lines : (m n : ℕ) (c : List Term) → n ≤ m → clause_at bank log n ≡ Some c → Derivable (events_at bank history) (clause c)
  first_lines m zero c within e = absurd cc
  first_lines zero (suc k) c within e = absurd (omega arith)
  first_lines (suc m) (suc k) c within e = by_place (below_or_not k start) (λ n d h. let there = line_taken bank log k n d h in first_lines m n d (omega (arith, within, there.0)) there.1)
    where
      by_place : (k < start) ⊎ (start ≤ k) → LinesHold (events_at bank history) (clause_at bank (take k log)) → Derivable (events_at bank history) (clause c)
      by_place (inl below) lines = known (suc k) c (omega (arith, below)) e
      by_place (inr from) lines = next_line k c from lines e

  pub lines_law : LinesHold (events_at bank history) (clause_at bank log)
  lines_law n c e = first_lines n n c (omega arith) e

pub log_law : FullSoundness → SoundLog
log_law rules_hold bank history log closed lemmas grows over = lines_law rules_hold bank history log IsVariable zero closed lemmas grows.legal over (λ n c within e. no_line n c within e)
  where
    no_line : (n : ℕ) (c : List Term) → n ≤ zero → clause_at bank log n ≡ Some c → Derivable (events_at bank history) (clause c)
    no_line zero c within e = absurd cc
    no_line (suc n) c within e = absurd (omega (arith, within))
