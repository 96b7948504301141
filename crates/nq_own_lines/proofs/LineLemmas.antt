-- The clauses of lines that are added to work are over the history's functions, with variables that a log can spell.
use Rattle.std.proofs.Common.{◌≡◌, ℕ, zero, suc, ◌<◌, ◌≤◌, ◌⊎◌, Option, Some, None, List, [], ◌∷◌, length, take, inl, inr, refl, sym, ap, ◌∙◌, subst, arith}
use Rattle.std.specs.Prelude.{slice_get}
use Rattle.std.specs.Option.{option_map}
use Rattle.std.proofs.lemmas.List.{length-take}
use Rattle.std.proofs.lemmas.Option.{slice_get_within}
use Rattle.nq_logic.specs.Terms.{Name, Symbol, Term, IsTerm, Each}
use Rattle.nq_logic.specs.Formulas.{clause}
use Rattle.nq_logic.specs.Histories.{History}
use Rattle.nq_logic.specs.Ground.{symbols_of}
use Rattle.nq_logic.proofs.Basic.{well_formed}
use Rattle.nq_logic.proofs.Clauses.{literals_over}
use Rattle.nq_bank.specs.declared.node.TermId.{TermId}
use Rattle.nq_bank.specs.Content.{Content, terms_at}
use Rattle.nq_bank.proofs.Growth.{terms_at-grown}
use Rattle.nq_proof.specs.Clauses.{Clause}
use Rattle.nq_proof.specs.Rows.{axiom_clause}
use Rattle.nq_proof.specs.Rules.{rule_terms}
use Rattle.nq_history.specs.declared.entry.Entry.{Entry}
use Rattle.nq_history.specs.Events.{events_at}
use Rattle.nq_history.proofs.HistoryLemmas.{events_at-grown}
use Rattle.nq_kernel.specs.declared.rule.Line.{Line}
use Rattle.nq_kernel.specs.declared.work.Work.{Work}
use Rattle.nq_kernel.specs.Lines.{ids_of, ids_if, ids_at}
use Rattle.nq_kernel.specs.Meaning.{rule_at, clause_at, conclusion_at}
use Rattle.nq_kernel.specs.Over.{IsVariable, IsTermOf, VariablesAre, RulesAreOver}
use Rattle.nq_kernel.specs.Growing.{IsLegal, WorkStands, WorkGrows}
use Rattle.nq_kernel.specs.Ready.{IsReady, WorkHolds}
use Rattle.nq_kernel.specs.ReadyLaws.{GrownWorkHolds}
use Rattle.nq_kernel.proofs.LogGrowth.{slice_get-take, below_or_not}
use Rattle.nq_kernel.proofs.LogLemmas.{ids_stand}
use Rattle.nq_lines.specs.OwnTerms.{IsOver, HasOwnTerms}
use Rattle.nq_ready.specs.OwnTerms.{ReadyOwnTerms}
use Rattle.nq_own_lines.specs.OwnLines.{LinesStayOwn, NoLineIsForeign}
use Rattle.nq_own_lines.proofs.RuleLemmas.{rule_over}

abbrev Spelled : Term → Type 0
Spelled = VariablesAre IsVariable

spelled : (symbols : List Symbol) (ts : List Term) → Each (IsTermOf IsVariable symbols) ts → Each Spelled ts
spelled symbols [] h = tt
spelled symbols (t ∷ ts) h = (h.0.variables, spelled symbols ts h.1)

both : (symbols : List Symbol) (c : Clause) → Each (IsTerm symbols) c → Each Spelled c → Each (IsTermOf IsVariable symbols) c
both symbols [] a b = tt
both symbols (t ∷ c) a b = (record { over = a.0; variables = b.0 }, both symbols c a.1 b.1)

-- a line that stands among the first k lines stands in the log, with the same clause, and has a number up to k
line_taken : (bank : Content) (log : List Line) (k n : ℕ) (c : Clause) → clause_at bank (take k log) n ≡ Some c → (n ≤ k) × (clause_at bank log n ≡ Some c)
line_taken bank log k zero c e = absurd cc
line_taken bank log k (suc m) c e = by_line (slice_get (take k log) m) refl e
  where
    by_line : (o : Option Line) → slice_get (take k log) m ≡ o → option_map (terms_at bank) (ids_of o) ≡ Some c → (suc m ≤ k) × (clause_at bank log (suc m) ≡ Some c)
    by_line None at h = absurd cc
    by_line (Some line) at h =
        let within = slice_get_within (take k log) m line at in
        let count = length-take k log in
        (omega (arith, within, count), ap (λ o. option_map (terms_at bank) (ids_of o)) (slice_get-take log k m line at) ∙ h)

-- Of a log the first lines are spelled, and each later one is legal: then each standing line is spelled.
module _ (bank : Content) (history : List Entry) (log : List Line) (start : ℕ) (own : HasOwnTerms (events_at bank history)) (legal : (k : ℕ) → start ≤ k → k < length log → IsLegal bank history log k) (over : RulesAreOver IsVariable bank history start log) (known : (n : ℕ) (c : Clause) → n ≤ start → clause_at bank log n ≡ Some c → Each Spelled c) where
  abbrev h : History
  h = events_at bank history

  row_spelled : (name : Name) (row part : ℕ) (c : Clause) → axiom_clause h name row part ≡ Some c → Each Spelled c
  row_spelled name row part c e = spelled (symbols_of h) c (own.rows name row part c e)

  legal_line : (k : ℕ) (c : Clause) → start ≤ k → (legal : IsLegal bank history log k) → ((n : ℕ) (d : Clause) → clause_at bank (take k log) n ≡ Some d → Each Spelled d) → clause_at bank log (suc k) ≡ Some c → Each Spelled c
  unfolding conclusion_at
  legal_line k c from legal lines e =
      let ids : List Term = terms_at bank legal.line.clause.items in
      let terms = spelled (symbols_of h) (rule_terms (rule_at bank legal.line.rule)) (over.each k legal.line from legal.at).terms in
      let shown : Each Spelled ids = rule_over IsVariable h (clause_at bank (take k log)) row_spelled (λ name t is. (own.events name t is).variables) lines (rule_at bank legal.line.rule) ids terms legal.clause.concluded in
      let found : clause_at bank log (suc k) ≡ Some ids = ap (λ o. option_map (terms_at bank) (ids_of o)) legal.at ∙ ap (λ b. option_map (terms_at bank) (ids_if b legal.line.clause.items)) legal.stands in
      subst (Each Spelled) (by_some ids c (sym found ∙ e)) shown
    where
      by_some : (a b : List Term) → Some a ≡ Some b → a ≡ b
      by_some a b e = cc

  next_line : (k : ℕ) (c : Clause) → start ≤ k → ((n : ℕ) (d : Clause) → clause_at bank (take k log) n ≡ Some d → Each Spelled d) → clause_at bank log (suc k) ≡ Some c → Each Spelled c
  next_line k c from lines e = by_line (slice_get log k) refl e
    where
      by_line : (o : Option Line) → slice_get log k ≡ o → option_map (terms_at bank) (ids_of o) ≡ Some c → Each Spelled c
      by_line None at g = absurd cc
      by_line (Some line) at g = legal_line k c from (legal k from (slice_get_within log k line at)) lines e

  first_lines : (m n : ℕ) (c : Clause) → n ≤ m → clause_at bank log n ≡ Some c → Each Spelled c
  first_lines m zero c within e = absurd cc
  first_lines zero (suc k) c within e = absurd (omega arith)
  first_lines (suc m) (suc k) c within e = by_place (below_or_not k start) (λ n d g. let there = line_taken bank log k n d g in first_lines m n d (omega (arith, within, there.0)) there.1)
    where
      by_place : (k < start) ⊎ (start ≤ k) → ((n : ℕ) (d : Clause) → clause_at bank (take k log) n ≡ Some d → Each Spelled d) → Each Spelled c
      by_place (inl below) lines = known (suc k) c (omega (arith, below)) e
      by_place (inr from) lines = next_line k c from lines e

  pub spelled_lines : (n : ℕ) (c : Clause) → clause_at bank log n ≡ Some c → Each Spelled c
  spelled_lines n c e = first_lines n n c (omega arith) e

slice_get-below : {X : Type 0} (xs : List X) (m k : ℕ) → k < m → slice_get (take m xs) k ≡ slice_get xs k
slice_get-below [] zero k below = refl
slice_get-below [] (suc m) k below = refl
slice_get-below (x ∷ xs) zero k below = absurd (omega (arith, below))
slice_get-below (x ∷ xs) (suc m) zero below = refl
slice_get-below (x ∷ xs) (suc m) (suc k) below = slice_get-below xs m k (omega (arith, below))

-- a line that stood before has the ids that it had
ids_before : (old new : List Line) (n : ℕ) → take (length old) new ≡ old → n ≤ length old → ids_at new n ≡ ids_at old n
ids_before old new zero kept within = refl
ids_before old new (suc k) kept within =
    ap ids_of (sym (slice_get-below new (length old) k (omega (arith, within))) ∙ ap (λ xs. slice_get xs k) kept)

-- and the clause that it had
line_before : (history : List Entry) (old new : Work) (n : ℕ) (c : Clause) → WorkStands history old → WorkGrows history old new → n ≤ length old.log → clause_at new.bank new.log n ≡ Some c → clause_at old.bank old.log n ≡ Some c
line_before history old new n c stands grows within e =
    by_ids (ids_at old.log n) refl (ap (option_map (terms_at new.bank)) (sym (ids_before old.log new.log n grows.log.kept within)) ∙ e)
  where
    by_ids : (o : Option (List TermId)) → ids_at old.log n ≡ o → option_map (terms_at new.bank) (ids_at old.log n) ≡ Some c → clause_at old.bank old.log n ≡ Some c
    by_ids None is h = absurd (let none : option_map (terms_at new.bank) None ≡ Some c = ap (option_map (terms_at new.bank)) (sym is) ∙ h in cc)
    by_ids (Some ids) is h =
        ap (option_map (terms_at old.bank)) is ∙
        ap Some (sym (terms_at-grown old.bank new.bank ids grows.bank (ids_stand old.bank old.log n ids stands.log is))) ∙
        ap (option_map (terms_at new.bank)) (sym is) ∙ h

no_line : (history : List Entry) (bank : Content) (n : ℕ) (c : Clause) → clause_at bank [] n ≡ Some c → Each (IsOver (events_at bank history)) c
no_line history bank zero c e = absurd cc
no_line history bank (suc n) c e = absurd cc

pub none_law : NoLineIsForeign
none_law history work none = subst (λ log. (n : ℕ) (c : Clause) → clause_at work.bank log n ≡ Some c → Each (IsOver (events_at work.bank history)) c) (sym none) (no_line history work.bank)

pub stay_law : ReadyOwnTerms → GrownWorkHolds → LinesStayOwn
stay_law own_terms held history old new stands ready holds own grows n c e =
    let same : events_at new.bank history ≡ events_at old.bank history = events_at-grown old.bank new.bank grows.bank history stands.history.entries in
    let ready_still : IsReady (events_at new.bank history) = subst IsReady (sym same) ready in
    let now : WorkHolds history new = held history old new stands ready holds grows in
    let h : History = events_at new.bank history in
    let over : Each (IsTerm (symbols_of h)) c = literals_over h c (well_formed h (clause c) (now n c e)) in
    let variables : Each Spelled c = spelled_lines new.bank history new.log (length old.log) (own_terms new.bank history ready_still) grows.log.legal grows.rules
    (λ k d within f. spelled (symbols_of (events_at old.bank history)) d (own k d (line_before history old new k d stands grows within f))) n c e in
    both (symbols_of h) c over variables
