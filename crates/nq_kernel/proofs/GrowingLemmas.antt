-- Work that grew keeps its lines and what they mean.
use Rattle.std.proofs.Common.{◌≡◌, ℕ, Option, Some, None, List, length, take, refl, sym, ap, ◌∙◌, subst, arith, inl, inr}
use Rattle.std.specs.Prelude.{All, IsSome, get_or}
use Rattle.std.specs.Option.{option_map}
use Rattle.std.proofs.lemmas.List.{take_all}
use Rattle.nq_bank.specs.declared.node.TermId.{TermId}
use Rattle.nq_bank.specs.Content.{Content, Grows, terms_at}
use Rattle.nq_bank.proofs.Growth.{Grows-refl, Grows-trans, IsNamed-grown, terms_at-grown, prefix_within}
use Rattle.nq_steps.specs.NewNames.{AddsSymbols}
use Rattle.nq_steps.proofs.NameLemmas.{AddsSymbols-refl, AddsSymbols-trans}
use Rattle.nq_proof.specs.Clauses.{Clause}
use Rattle.nq_history.specs.declared.entry.Entry.{Entry}
use Rattle.nq_history.proofs.HistoryLemmas.{history_grown}
use Rattle.nq_kernel.specs.declared.rule.Rule.{Rule}
use Rattle.nq_kernel.specs.declared.rule.Line.{Line}
use Rattle.nq_kernel.specs.declared.prescription.Prescription.{Prescription}
use Rattle.nq_kernel.specs.declared.work.Work.{Work}
use Rattle.nq_kernel.specs.Lines.{ids_at}
use Rattle.nq_kernel.specs.Meaning.{RuleStands, IsOver, clause_at, conclusion_at, Adds, Places}
use Rattle.nq_kernel.specs.Counting.{Counting}
use Rattle.nq_kernel.specs.Over.{IsVariable, RuleIsIn}
use Rattle.nq_kernel.specs.Growing.{Fits, CountsUp, PrescriptionStands, WorkStands, WorkGrows, LineHolds}
use Rattle.nq_kernel.proofs.LogLemmas.{ids_stand, over_grown}
use Rattle.nq_kernel.proofs.LogGrowth.{ids_at-kept, LogGrows-refl, LogGrows-trans, added_over, kept_by_line, take-kept}
pub use Rattle.nq_kernel.proofs.LogGrowth.{same_log, added_grows, added_clause}
use Rattle.nq_kernel.proofs.OverLemmas.{RulesAreOver-trans, added_rule, none_over}

pub fits : (history : List Entry) (work : Work) → WorkStands history work → Fits work.bank history work.log
fits history work stands = record { log = stands.log; history = stands.history }

stands_still : (old new : List Line) (n : ℕ) → take (length old) new ≡ old → IsSome (ids_at old n) → IsSome (ids_at new n)
stands_still old new n kept h = by_ids (ids_at old n) refl h
  where
    by_ids : (o : Option (List TermId)) → ids_at old n ≡ o → IsSome o → IsSome (ids_at new n)
    by_ids None e k = absurd cc
    by_ids (Some ids) e k = subst IsSome (sym (ids_at-kept old new n ids kept e)) refl

-- what is known of a log is known of one that keeps its lines
pub known_grown : (before after : Content) (old new : List Line) (known : List Prescription) → Grows before after → take (length old) new ≡ old → All (PrescriptionStands before old) known → All (PrescriptionStands after new) known
known_grown before after old new known h kept stand =
    λ k d below.
    let p : Prescription = get_or known k d in
    record { function = IsNamed-grown before after p.function h (stand k d below).function; line = stands_still old new p.line kept (stand k d below).line }

-- no step is used
pub uncounted : (c : Counting) → CountsUp c c
uncounted c = record { used = omega arith; limit = refl }

-- what is known stays
pub known_stays : (work : Work) → take (length work.known.items) work.known.items ≡ work.known.items
known_stays work = take_all (length work.known.items) work.known.items (omega arith)

known_trans : (first second third : Work) → take (length first.known.items) second.known.items ≡ first.known.items → take (length second.known.items) third.known.items ≡ second.known.items → take (length first.known.items) third.known.items ≡ first.known.items
known_trans first second third one two = take-kept second.known.items third.known.items (length first.known.items) two (prefix_within first.known.items second.known.items one) ∙ one

-- what stands, stands after a line was added
pub stands_by_line : (history : List Entry) (old : Work) (bank : Content) (log : List Line) (counter : Counting) (rule : Rule) (n : ℕ) → WorkStands history old → Grows old.bank bank → Adds old.bank bank history old.log log rule n → WorkStands history (record { bank = bank; log = log; counter = counter; known = old.known })
stands_by_line history old bank log counter rule n stands grows adds =
    record {
      log = added_over old.bank bank history old.log log rule n grows stands.log adds;
      history = history_grown old.bank bank grows history stands.history;
      known = known_grown old.bank bank old.log log old.known.items grows (kept_by_line old.bank bank history old.log log rule n adds) stands.known;
    }

-- and after terms were added
pub stands_without_line : (history : List Entry) (old : Work) (bank : Content) (log : List Line) (counter : Counting) → WorkStands history old → Grows old.bank bank → log ≡ old.log → WorkStands history (record { bank = bank; log = log; counter = counter; known = old.known })
stands_without_line history old bank log counter stands grows same =
    let kept : take (length old.log) log ≡ old.log = ap (take (length old.log)) same ∙ take_all (length old.log) old.log (omega arith) in
    record {
      log = subst (IsOver bank) (sym same) (over_grown old.bank bank old.log grows stands.log);
      history = history_grown old.bank bank grows history stands.history;
      known = known_grown old.bank bank old.log log old.known.items grows kept stands.known;
    }

-- a line was added, and steps perhaps counted
pub grows_by_line : (history : List Entry) (old : Work) (bank : Content) (log : List Line) (counter : Counting) (rule : Rule) (n : ℕ) → WorkStands history old → RuleStands old.bank rule → RuleIsIn old.bank history rule → Grows old.bank bank → AddsSymbols old.bank bank → Adds old.bank bank history old.log log rule n → CountsUp old.counter counter → WorkGrows history old (record { bank = bank; log = log; counter = counter; known = old.known })
grows_by_line history old bank log counter rule n stands named over grows symbols adds counts =
    record {
      bank = grows;
      names = symbols;
      log = added_grows old.bank bank history old.log log rule n grows (fits history old stands) named adds;
      rules = added_rule IsVariable old.bank bank history grows stands.history old.log log rule n named over adds;
      counter = counts;
      known = known_stays old;
      stands = stands_by_line history old bank log counter rule n stands grows adds;
    }

-- no line was added, but terms perhaps, and steps perhaps counted
pub grows_without_line : (history : List Entry) (old : Work) (bank : Content) (log : List Line) (counter : Counting) → WorkStands history old → Grows old.bank bank → AddsSymbols old.bank bank → log ≡ old.log → CountsUp old.counter counter → WorkGrows history old (record { bank = bank; log = log; counter = counter; known = old.known })
grows_without_line history old bank log counter stands grows symbols same counts =
    record {
      bank = grows;
      names = symbols;
      log = same_log bank history old.log log same;
      rules = none_over IsVariable bank history old.log log same;
      counter = counts;
      known = known_stays old;
      stands = stands_without_line history old bank log counter stands grows same;
    }

-- a line that stood has the clause of the rule, or one that was added
pub placed_clause : (before after : Content) (history : List Entry) (old new : List Line) (rule : Rule) (n : ℕ) → Places before after history old new rule n → clause_at after new n ≡ conclusion_at before history old rule
placed_clause before after history old new rule n places =
    elim places [ inl stood ↦ ap (λ log. clause_at after log n) stood.0 ∙ stood.1 | inr adds ↦ added_clause before after history old new rule n adds ]

pub placed_grows : (history : List Entry) (old : Work) (bank : Content) (log : List Line) (counter : Counting) (rule : Rule) (n : ℕ) → WorkStands history old → RuleStands old.bank rule → RuleIsIn old.bank history rule → Grows old.bank bank → AddsSymbols old.bank bank → Places old.bank bank history old.log log rule n → CountsUp old.counter counter → WorkGrows history old (record { bank = bank; log = log; counter = counter; known = old.known })
placed_grows history old bank log counter rule n stands named over grows symbols places counts =
    elim places [
      | inl stood ↦ grows_without_line history old bank log counter stands grows symbols stood.0 counts
      | inr adds ↦ grows_by_line history old bank log counter rule n stands named over grows symbols adds counts
    ]

-- work whose log stays
pub bank_grows : (history : List Entry) (old : Work) (bank : Content) (counter : Counting) → WorkStands history old → Grows old.bank bank → AddsSymbols old.bank bank → CountsUp old.counter counter → WorkGrows history old (record { bank = bank; log = old.log; counter = counter; known = old.known })
bank_grows history old bank counter stands grows symbols counts = grows_without_line history old bank old.log counter stands grows symbols refl counts

pub WorkGrows-refl : (history : List Entry) (work : Work) → WorkStands history work → WorkGrows history work work
WorkGrows-refl history work stands =
    record {
      bank = Grows-refl work.bank;
      names = AddsSymbols-refl work.bank;
      log = LogGrows-refl work.bank history work.log;
      rules = none_over IsVariable work.bank history work.log work.log refl;
      counter = uncounted work.counter;
      known = known_stays work;
      stands = stands;
    }

pub WorkGrows-trans : (history : List Entry) (first second third : Work) → WorkGrows history first second → WorkGrows history second third → WorkGrows history first third
WorkGrows-trans history first second third one two =
    record {
      bank = Grows-trans first.bank second.bank third.bank one.bank two.bank;
      names = AddsSymbols-trans first.bank second.bank third.bank one.names two.names;
      log = LogGrows-trans second.bank third.bank history first.log second.log third.log two.bank (fits history second one.stands) one.log two.log;
      rules = RulesAreOver-trans IsVariable second.bank third.bank history two.bank one.stands.history first.log second.log third.log one.log two.log.kept one.rules two.rules;
      counter = record { used = omega (arith, one.counter.used, two.counter.used); limit = two.counter.limit ∙ one.counter.limit };
      known = known_trans first second third one.known two.known;
      stands = two.stands;
    }

-- a line that holds a clause holds it still
pub LineHolds-grown : (history : List Entry) (old new : Work) (n : ℕ) (c : Clause) → WorkStands history old → WorkGrows history old new → LineHolds old n c → LineHolds new n c
LineHolds-grown history old new n c stands grows holds = by_ids (ids_at old.log n) refl holds
  where
    by_ids : (o : Option (List TermId)) → ids_at old.log n ≡ o → option_map (terms_at old.bank) o ≡ Some c → clause_at new.bank new.log n ≡ Some c
    by_ids None e h = absurd cc
    by_ids (Some ids) e h =
        ap (option_map (terms_at new.bank)) (ids_at-kept old.log new.log n ids grows.log.kept e) ∙
        ap Some (terms_at-grown old.bank new.bank ids grows.bank (ids_stand old.bank old.log n ids stands.log e)) ∙ h
