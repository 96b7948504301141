-- What numbers name in a block is what they name in its context, and what a context means in a bank that grew.
use Rattle.std.proofs.Common.{◌≡◌, ℕ, zero, suc, Bool, true, false, List, [], ◌∷◌, ◌++◌, map, get_or, refl, sym, ap, ◌∙◌, subst, arith}
use Rattle.std.specs.Prelude.{Option, Some, None, All, IfSome, slice_get, not, Vec}
use Rattle.std.specs.declared.alloc.Global.{Global}
use Rattle.std.specs.Option.{option_map}
use Rattle.std.proofs.lemmas.Option.{slice_get-map}
use Rattle.std.proofs.lemmas.List.{map-append}
use Rattle.nq_logtext.specs.Reading.{◌>>=◌}
use Rattle.nq_logtext.specs.Fields.{name}
use Rattle.nq_logic.specs.Terms.{Name, Term, Variable}
use Rattle.nq_logic.specs.Histories.{Part as PartOfTexts}
use Rattle.nq_logic.specs.Names.{has_name, constant_names}
use Rattle.nq_bank.specs.declared.node.TermId.{TermId}
use Rattle.nq_bank.specs.declared.shell.Part.{Part}
use Rattle.nq_bank.specs.Content.{Content, IsNamed, Stands, Grows, IsIdOf, term_at, terms_at}
use Rattle.nq_bank.specs.Shells.{part_at, parts_at, PartStands}
use Rattle.nq_bank.proofs.NodesLemmas.{All-head, All-tail}
use Rattle.nq_bank.proofs.Growth.{terms_at-grown, text_at-grown, IsNamed-grown}
use Rattle.nq_bank.proofs.Standing.{stand_grown, All-push}
use Rattle.nq_proof.specs.Clauses.{Clause}
use Rattle.nq_history.specs.declared.entry.Entry.{Entry}
use Rattle.nq_history.specs.Events.{events_at}
use Rattle.nq_history.proofs.HistoryLemmas.{events_at-grown, history_grown}
use Rattle.nq_history.proofs.MarkingLemmas.{marked_grown}
use Rattle.nq_history.proofs.ShellLemmas.{texts-grown, names-grown}
use Rattle.nq_kernel.specs.declared.rule.Line.{Line}
use Rattle.nq_kernel.specs.Lines.{ids_if, ids_of}
use Rattle.nq_kernel.specs.Meaning.{IsOver}
use Rattle.nq_kernel.specs.Meaning as kernel
use Rattle.nq_kernel.proofs.LogLemmas.{over_grown}
use Rattle.nq_log.specs.States.{Block, State, Step, Continues, numbered, only_when, start_of}
use Rattle.nq_log.specs.Logs.{continued}
use Rattle.nq_log.specs.States as logs
use Rattle.nq_log.specs.TermLines.{with_term, variable_line}
use Rattle.nq_check.specs.declared.waiting.CaseLine.{CaseLine}
use Rattle.nq_check.specs.declared.waiting.Introduced.{Introduced}
use Rattle.nq_check.specs.declared.waiting.MeasureLine.{MeasureLine}
use Rattle.nq_check.specs.declared.context.Context.{Context}
use Rattle.nq_check.specs.Contexts.{clause_of, case_of, function_of, measure_of, block_of, state_of, HasNewNames, IsKept, IsWhole}
use Rattle.nq_check.specs.Judging.{GoesOn}

-- ---- numbers

pub numbered_map : {A B : Type 0} (f : A → B) (xs : List A) (n : ℕ) → numbered (map f xs) n ≡ option_map f (numbered xs n)
numbered_map f xs zero = refl
numbered_map f xs (suc n) = slice_get-map f xs n

All-slice_get : {X : Type 0} (P : X → Type 0) (xs : List X) (k : ℕ) (x : X) → All P xs → slice_get xs k ≡ Some x → P x
All-slice_get P [] k x h e = absurd cc
All-slice_get P (y ∷ xs) zero x h e = let same : y ≡ x = cc in subst P same (All-head P y xs h)
All-slice_get P (y ∷ xs) (suc k) x h e = All-slice_get P xs k x (All-tail P y xs h) e

pub numbered_stands : (bank : Content) (ids : List TermId) (n : ℕ) (o : Option TermId) → All (Stands bank) ids → numbered ids n ≡ o → IfSome o (λ t. Stands bank t)
numbered_stands bank ids n None all e = tt
numbered_stands bank ids zero (Some t) all e = absurd cc
numbered_stands bank ids (suc k) (Some t) all e = All-slice_get (Stands bank) ids k t all e

by_line : (bank : Content) (o : Option Line) → (option_map (clause_of bank) o >>= λ c. c) ≡ option_map (terms_at bank) (ids_of o)
by_line bank None = refl
by_line bank (Some line) = refl

-- the clause of a line in the block is that in the log
pub clause_same : (bank : Content) (f : Option Introduced) (ids : List TermId) (log : List Line) (parts : List Part) (cases : List CaseLine) (m : Option MeasureLine) (n : ℕ) → logs.clause_at (block_of bank f ids log parts cases m) n ≡ kernel.clause_at bank log n
clause_same bank f ids log parts cases m zero = refl
clause_same bank f ids log parts cases m (suc k) = ap (λ (o : Option (Option Clause)). o >>= λ c. c) (slice_get-map (clause_of bank) log k) ∙ by_line bank (slice_get log k)

-- ---- a bank that grew

clause_grown : (old new : Content) (ids : List TermId) (b : Bool) → Grows old new → All (Stands old) ids → option_map (terms_at old) (ids_if b ids) ≡ option_map (terms_at new) (ids_if b ids)
clause_grown old new ids true h stand = ap Some (sym (terms_at-grown old new ids h stand))
clause_grown old new ids false h stand = refl

lines_grown : (old new : Content) (log : List Line) → Grows old new → All (λ line. All (Stands old) line.clause.items) log → map (clause_of old) log ≡ map (clause_of new) log
lines_grown old new [] h over = refl
lines_grown old new (line ∷ log) h over =
    ap (λ (c : Option Clause). c ∷ map (clause_of old) log) (clause_grown old new line.clause.items line.stands h (All-head (λ line. All (Stands old) line.clause.items) line log over))
    ∙ ap (λ (cs : List (Option Clause)). clause_of new line ∷ cs) (lines_grown old new log h (All-tail (λ line. All (Stands old) line.clause.items) line log over))

pub log_grown : (old new : Content) (log : List Line) → Grows old new → IsOver old log → map (clause_of old) log ≡ map (clause_of new) log
log_grown old new log h over = lines_grown old new log h over.stand

-- parts mean the same
module _ (old new : Content) (h : Grows old new) where
  part_grown : (part : Part) → PartStands old part → part_at old part ≡ part_at new part
  part_grown part k =
      let accessor = text_at-grown old new part.accessor h k.accessor in
      let recognizers = texts-grown old new h part.recognizers.items k.recognizers in
      let default = text_at-grown old new part.default h k.default in
      rw (accessor, recognizers, default) refl

  pub parts_grown : (parts : List Part) → All (PartStands old) parts → parts_at old parts ≡ parts_at new parts
  parts_grown [] k = refl
  parts_grown (part ∷ parts) k =
      ap (λ (x : PartOfTexts). x ∷ parts_at old parts) (part_grown part (All-head (PartStands old) part parts k))
      ∙ ap (λ (xs : List PartOfTexts). part_at new part ∷ xs) (parts_grown parts (All-tail (PartStands old) part parts k))

  part_stands : (part : Part) → PartStands old part → PartStands new part
  part_stands part k =
      record { accessor = IsNamed-grown old new part.accessor h k.accessor; recognizers = names-grown old new h part.recognizers.items k.recognizers; default = IsNamed-grown old new part.default h k.default }

  pub parts_stand : (parts : List Part) → All (PartStands old) parts → All (PartStands new) parts
  parts_stand parts k = λ i d below. part_stands (get_or parts i d) (k i d below)

  pub kept_grown : (history : List Entry) → IsKept old history → IsKept new history
  kept_grown history kept = record {
    stands = history_grown old new h history kept.stands;
    marks = marked_grown old new history h kept.marks;
    names = subst HasNewNames (sym (events_at-grown old new h history kept.stands.entries)) kept.names;
  }

-- the function that is introduced means the same
pub introduced_grown : (old new : Content) (f : Option Introduced) → Grows old new → IfSome f (λ f. IsNamed old f.function) → option_map (function_of old) f ≡ option_map (function_of new) f
introduced_grown old new None h named = refl
introduced_grown old new (Some f) h named = ap (λ (n : Name). Some (n, f.arity)) (sym (text_at-grown old new f.function h named))

pub introduced_named : (old new : Content) (f : Option Introduced) → Grows old new → IfSome f (λ f. IsNamed old f.function) → IfSome f (λ f. IsNamed new f.function)
introduced_named old new None h named = tt
introduced_named old new (Some f) h named = IsNamed-grown old new f.function h named

pub block_is : (f g : Option (Name × ℕ)) (ts us : List Term) (ls ms : List (Option Clause)) (ps qs : List PartOfTexts) (cases : List logs.CaseLine) (m : Option logs.MeasureLine) → f ≡ g → ts ≡ us → ls ≡ ms → ps ≡ qs →
    ◌≡◌ {A = Block} (record { introduced = f; terms = ts; lines = ls; parts = ps; cases = cases; measure = m }) (record { introduced = g; terms = us; lines = ms; parts = qs; cases = cases; measure = m })
block_is f g ts us ls ms ps qs cases m same e h k = λ i. record { introduced = same i; terms = e i; lines = h i; parts = k i; cases = cases; measure = m }

-- a context in a bank that grew
module _ (c : Context) (bank : Content) (h : Grows c.bank bank) (whole : IsWhole c) where
  pub whole_grown : IsWhole (record c { bank = bank })
  whole_grown = record {
    history = kept_grown c.bank bank h c.history whole.history;
    introduced = introduced_named c.bank bank c.introduced h whole.introduced;
    terms = stand_grown c.bank bank c.terms.items h whole.terms;
    lines = over_grown c.bank bank c.log h whole.lines;
    parts = parts_stand c.bank bank h c.parts.items whole.parts;
  }

  pub events_grown : events_at bank c.history ≡ events_at c.bank c.history
  events_grown = events_at-grown c.bank bank h c.history whole.history.stands.entries

  pub state_grown : state_of c ≡ state_of (record c { bank = bank })
  state_grown =
      let block = block_is (option_map (function_of c.bank) c.introduced) (option_map (function_of bank) c.introduced) (terms_at c.bank c.terms.items) (terms_at bank c.terms.items) (map (clause_of c.bank) c.log) (map (clause_of bank) c.log)
      (parts_at c.bank c.parts.items) (parts_at bank c.parts.items) (map case_of c.cases.items) (option_map measure_of c.measure) (introduced_grown c.bank bank c.introduced h whole.introduced)
      (sym (terms_at-grown c.bank bank c.terms.items h whole.terms)) (log_grown c.bank bank c.log h whole.lines) (parts_grown c.bank bank h c.parts.items whole.parts) in
      λ i. record { history = sym events_grown i; block = block i }

terms_pushed : (old new : Content) (ids : List TermId) (t : TermId) (term : Term) → Grows old new → All (Stands old) ids → IsIdOf new t term → terms_at old ids ++ (term ∷ []) ≡ terms_at new (ids ++ t ∷ [])
terms_pushed old new ids t term h stand id =
    ap (λ (ts : List Term). ts ++ (term ∷ [])) (sym (terms_at-grown old new ids h stand)) ∙ ap (λ (u : Term). terms_at new ids ++ (u ∷ [])) (sym id.denotes)
    ∙ sym (map-append (term_at new) ids (t ∷ []))

-- a term was added to the block
pub term_goes_on : (old : Context) (bank : Content) (terms : Vec TermId Global) (t : TermId) (term : Term) → IsWhole old → Grows old.bank bank → IsIdOf bank t term → terms.items ≡ old.terms.items ++ t ∷ [] →
    GoesOn (state_of old) (Some (Continues (with_term (state_of old).block term))) (record old { bank = bank; terms = terms })
term_goes_on old bank terms t term whole h id pushed = record {
  whole = let w = whole_grown old bank h whole in record { history = w.history; introduced = w.introduced; terms = subst (All (Stands bank)) (sym pushed) (All-push (Stands bank) old.terms.items t w.terms id.stands); lines = w.lines; parts = w.parts };
  step = ap (λ (b : Block). Some (Continues b))
      (block_is _ _ _ _ _ _ _ _ (map case_of old.cases.items) (option_map measure_of old.measure) (introduced_grown old.bank bank old.introduced h whole.introduced) (terms_pushed old.bank bank old.terms.items t term h whole.terms id ∙ ap (terms_at bank) (sym pushed))
      (log_grown old.bank bank old.log h whole.lines) (parts_grown old.bank bank h old.parts.items whole.parts));
  history = events_grown old bank h whole;
}

pub variable_goes_on : (old : Context) (bank : Content) (terms : Vec TermId Global) (x : List ℕ) (t : TermId) → has_name x constant_names ≡ false → IsWhole old → Grows old.bank bank → IsIdOf bank t (Variable x) →
    terms.items ≡ old.terms.items ++ t ∷ [] → GoesOn (state_of old) (continued (variable_line (state_of old) (name x ∷ []))) (record old { bank = bank; terms = terms })
variable_goes_on old bank terms x t free whole h id pushed =
    subst (λ (o : Option Step). GoesOn (state_of old) o (record old { bank = bank; terms = terms })) (ap (λ b. continued (only_when (not b) (with_term (state_of old).block (Variable x)))) (sym free))
    (term_goes_on old bank terms t (Variable x) whole h id pushed)

-- ---- a block begins

pub all_none : {X : Type 0} (P : X → Type 0) → All P []
all_none P k d below = absurd (omega arith)

-- the history is kept, and the block has no line
pub whole_begun : (c : Context) → IsKept c.bank c.history → c.introduced ≡ None → c.terms.items ≡ [] → c.log ≡ [] → c.parts.items ≡ [] → IsWhole c
whole_begun c kept introduced terms log parts = record {
  history = kept;
  introduced = subst (λ (f : Option Introduced). IfSome f (λ f. IsNamed c.bank f.function)) (sym introduced) tt;
  terms = subst (All (Stands c.bank)) (sym terms) (all_none (Stands c.bank));
  lines = subst (IsOver c.bank) (sym log) (record { stand = all_none (λ line. All (Stands c.bank) line.clause.items) });
  parts = subst (All (PartStands c.bank)) (sym parts) (all_none (PartStands c.bank));
}

pub state_begun : (c : Context) → c.introduced ≡ None → c.terms.items ≡ [] → c.log ≡ [] → c.parts.items ≡ [] → c.cases.items ≡ [] → c.measure ≡ None → state_of c ≡ start_of (events_at c.bank c.history)
state_begun c introduced terms log parts cases measure =
    λ i. record { history = events_at c.bank c.history; block = block_of c.bank (introduced i) (terms i) (log i) (parts i) (cases i) (measure i) }
