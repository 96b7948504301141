-- The lines of a log, one after the other, and then the closing line.
use Rattle.std.proofs.Common.{◌≡◌, ℕ, zero, suc, ◌+◌, ◌<◌, Bool, true, false, Option, Some, None, List, [], ◌∷◌, ◌++◌, length, take, refl, sym, ap, ◌∙◌, subst, add-one, arith}
use Rattle.std.specs.Prelude.{IsSome, slice_get, Result, OnOk}
use Rattle.std.specs.Option.{option_map}
use Rattle.std.specs.declared.alloc.AllocError.{AllocError}
use Rattle.std.proofs.lemmas.List.{take_all, map_push}
use Rattle.std.proofs.lemmas.Option.{slice_get-map}
use Rattle.nq_logtext.specs.Reading.{◌>>=◌}
use Rattle.nq_logic.specs.Terms.{Name, Symbol, Term}
use Rattle.nq_logic.specs.Words.{call1}
use Rattle.nq_logic.specs.Admissible.{Call, calls_of, obligation}
use Rattle.nq_bank.specs.Content.{Content, terms_at, term_at, text_at}
use Rattle.nq_bank.specs.Shells.{texts_at}
use Rattle.nq_proof.specs.Clauses.{Clause}
use Rattle.nq_proof.specs.Rules.{conclusion, has_only, rule_terms}
use Rattle.nq_proof.specs.Laws.{HasMoreLines}
use Rattle.nq_proof.proofs.Monotone.{more_lines_law}
use Rattle.nq_proof.proofs.Tests.{some_same}
use Rattle.nq_history.specs.declared.entry.Entry.{Entry}
use Rattle.nq_history.specs.Events.{events_at}
use Rattle.nq_kernel.specs.declared.rule.Rule.{Rule}
use Rattle.nq_kernel.specs.declared.rule.Line.{Line}
use Rattle.nq_kernel.specs.Lines.{ids_at, ids_if, ids_of, rule_if, rule_of}
use Rattle.nq_kernel.specs.Meaning.{rule_at, RuleStands, clause_at, conclusion_at}
use Rattle.nq_kernel.specs.Growing.{IsLegal, LogGrows}
use Rattle.nq_kernel.specs.Over.{RulesAreOver, IsVariable}
use Rattle.nq_block.specs.declared.writer.Writer.{Writer}
use Rattle.nq_block.specs.declared.closing.Closing.{Closing}
use Rattle.nq_block.specs.declared.closing.Closing.TheVariants as closing
use Rattle.nq_block.specs.Closings.{AreFalls, CanCloseAfter, CanClose, introduced_by}
use Rattle.nq_block.specs.Writing.{Frame, Concludes, IsNew, line_clause, with_line, IsWriting, WritesRule, clauses_of, frame_after}
use Rattle.nq_block.proofs.NewFunction.{without_new}
use Rattle.nq_block.proofs.Stepping.{all_shallow}

-- the clauses of the kernel's lines are those of the block's
lines_there : (bank : Content) (history : List Entry) (introduced : Option Symbol) (log : List Line) (k : ℕ) → HasMoreLines (clause_at bank (take k log)) (line_clause (frame_after bank history introduced log k))
lines_there bank history introduced log k zero c e = absurd cc
lines_there bank history introduced log k (suc n) c e = by_line (slice_get (take k log) n) refl e
  where
    by_stands : (line : Line) (b : Bool) → option_map (terms_at bank) (ids_if b line.clause.items) ≡ Some c → Some (terms_at bank line.clause.items) ≡ Some c
    by_stands line true f = f
    by_stands line false f = absurd cc

    by_line : (o : Option Line) → slice_get (take k log) n ≡ o → option_map (terms_at bank) (ids_of o) ≡ Some c → line_clause (frame_after bank history introduced log k) (suc n) ≡ Some c
    by_line None is f = absurd cc
    by_line (Some line) is f =
        let at : slice_get (clauses_of bank (take k log)) n ≡ Some (Some (terms_at bank line.clause.items)) =
        slice_get-map (λ line. Some (terms_at bank line.clause.items)) (take k log) n ∙ ap (option_map (λ (line : Line). Some (terms_at bank line.clause.items))) is in
        ap (λ (o : Option (Option (List Term))). o >>= λ o. o) at ∙ by_stands line line.stands f

take_next : {X : Type 0} (xs : List X) (k : ℕ) (x : X) → slice_get xs k ≡ Some x → take (suc k) xs ≡ take k xs ++ (x ∷ [])
take_next [] k x e = absurd cc
take_next (y ∷ xs) zero x e = ap (λ y. y ∷ []) (some_same y x e)
take_next (y ∷ xs) (suc k) x e = ap (λ rest. y ∷ rest) (take_next xs k x e)

-- one more line of the log is one more line of the block
frame_next : (bank : Content) (history : List Entry) (introduced : Option Symbol) (log : List Line) (k : ℕ) (line : Line) → slice_get log k ≡ Some line →
    with_line (frame_after bank history introduced log k) (terms_at bank line.clause.items) ≡ frame_after bank history introduced log (k + 1)
frame_next bank history introduced log k line at =
    let whole : clauses_of bank (take (k + 1) log) ≡ clauses_of bank (take k log) ++ (Some (terms_at bank line.clause.items) ∷ []) =
    ap (λ n. clauses_of bank (take n log)) (add-one k) ∙ ap (clauses_of bank) (take_next log k line at) ∙ map_push (λ line. Some (terms_at bank line.clause.items)) (take k log) line in
    let with_clauses : List (Option (List Term)) → Frame = λ cs. record { history = events_at bank history; introduced = introduced; clauses = cs; parts = []; cases = [] } in
    ap with_clauses (sym whole)

module _ (bank : Content) (history : List Entry) (log : List Line) (grows : LogGrows bank history [] log) (over : RulesAreOver IsVariable bank history 0 log) where
  legal_at : (k : ℕ) → k < length log → IsLegal bank history log k
  legal_at k below = grows.legal k (omega arith) below

  same_rule : (k : ℕ) (rule : Rule) (below : k < length log) → rule_of log (k + 1) ≡ Some rule → (legal_at k below).line.rule ≡ rule
  same_rule k rule below told =
      let legal = legal_at k below in
      let found : rule_of log (k + 1) ≡ Some legal.line.rule = ap (rule_of log) (add-one k) ∙ ap rule_if legal.at in
      some_same legal.line.rule rule (sym found ∙ told)

  pub line_stands_at : (k : ℕ) → k < length log → IsSome (ids_at log (k + 1))
  line_stands_at k below =
      let legal = legal_at k below in
      subst IsSome (sym (ap (ids_at log) (add-one k) ∙ ap ids_of legal.at ∙ ap (λ b. ids_if b legal.line.clause.items) legal.stands)) refl

  pub rule_stands_at : (k : ℕ) (rule : Rule) → k < length log → rule_of log (k + 1) ≡ Some rule → RuleStands bank rule
  rule_stands_at k rule below told = subst (RuleStands bank) (same_rule k rule below told) (legal_at k below).rule

  concluded : (k : ℕ) (below : k < length log) → conclusion (events_at bank history) (clause_at bank (take k log)) (rule_at bank (legal_at k below).line.rule) ≡ Some (terms_at bank (legal_at k below).line.clause.items)
  unfolding conclusion_at
  concluded k below = (legal_at k below).clause.concluded

  pub rule_goes_on : (introduced : Option Symbol) (k : ℕ) (rule : Rule) (old new : Writer) (result : Result (Unit {0}) AllocError) → k < length log → rule_of log (k + 1) ≡ Some rule → IsWriting bank (frame_after bank history introduced log k) old →
      WritesRule bank old result new (rule_at bank rule) → OnOk result (IsWriting bank (frame_after bank history introduced log (k + 1)) new)
  rule_goes_on introduced k rule old new result below told v writes =
      let legal = legal_at k below in
      let line : Line = legal.line in
      let c : Clause = terms_at bank line.clause.items in
      let same = same_rule k rule below told in
      let frame : Frame = frame_after bank history introduced log k in
      let here = over.each k line (omega arith) legal.at in
      let more = more_lines_law (events_at bank history) (clause_at bank (take k log)) (line_clause frame) (rule_at bank line.rule) c (lines_there bank history introduced log k) (concluded k below) in
      let allowed : Concludes frame (rule_at bank line.rule) c = record { clause = more; without = without_new (events_at bank history) introduced (rule_terms (rule_at bank line.rule)) v.new here.terms } in
      let done = subst (λ rule. WritesRule bank old result new (rule_at bank rule)) (sym same) writes frame c v refl here allowed (all_shallow bank line.clause.items v.sound legal.clause.stand) in
      subst (λ f. OnOk result (IsWriting bank f new)) (frame_next bank history introduced log k line legal.at) done

-- what has only these literals in the log has only these in the block
only_kept : (bank : Content) (history : List Entry) (introduced : Option Symbol) (log : List Line) (l : ℕ) (these : List Term) → has_only (clause_at bank log l) these ≡ true →
    has_only (line_clause (frame_after bank history introduced log (length log)) l) these ≡ true
only_kept bank history introduced log l these e = by_clause (clause_at bank log l) refl e
  where
    by_clause : (o : Option Clause) → clause_at bank log l ≡ o → has_only o these ≡ true → has_only (line_clause (frame_after bank history introduced log (length log)) l) these ≡ true
    by_clause None is e = absurd cc
    by_clause (Some d) is e =
        let whole : clause_at bank (take (length log) log) l ≡ Some d = ap (λ lines. clause_at bank lines l) (take_all (length log) log (omega arith)) ∙ is in
        ap (λ o. has_only o these) (lines_there bank history introduced log (length log) l d whole) ∙ e

falls_kept : (bank : Content) (history : List Entry) (introduced : Option Symbol) (log : List Line) (f : Name) (xs : List Name) (m : Term) (calls : List Call) (rs : List ℕ) → AreFalls (clause_at bank log) f xs m calls rs →
    AreFalls (line_clause (frame_after bank history introduced log (length log))) f xs m calls rs
falls_kept bank history introduced log f xs m [] [] falls = tt
falls_kept bank history introduced log f xs m [] (r ∷ rs) falls = absurd falls
falls_kept bank history introduced log f xs m (c ∷ calls) [] falls = absurd falls
falls_kept bank history introduced log f xs m (c ∷ calls) (r ∷ rs) falls = (
  record { older = falls.0.older; less = only_kept bank history introduced log r (obligation f xs m c.tests c.arguments) falls.0.less },
  falls_kept bank history introduced log f xs m calls rs falls.1,
)

-- a closing line that may stand after the log may stand after the block
pub closes_block : (bank : Content) (history : List Entry) (log : List Line) (c : Closing) → CanClose bank history log c → CanCloseAfter bank (events_at bank history) (line_clause (frame_after bank history (introduced_by bank c) log (length log))) c
closes_block bank history log closing.BootStrap can = tt
closes_block bank history log (closing.Lemma name t l) can = record { free = can.free; claimable = can.claimable; only = only_kept bank history None log l (term_at bank t ∷ []) can.only }
closes_block bank history log (closing.Axiomatize name t) can = can
closes_block bank history log (closing.Dcl name arity) can = can
closes_block bank history log (closing.Defn name formals body) can = can
closes_block bank history log (closing.Recursion name formals body measured) can =
    let new : Option Symbol = introduced_by bank (closing.Recursion name formals body measured) in
    let m : Term = term_at bank measured.measure in
    record {
      free = can.free;
      count = can.count;
      spelled = can.spelled;
      distinct = can.distinct;
      over = can.over;
      small = can.small;
      within = can.within;
      recursive = can.recursive;
      measure_over = can.measure_over;
      measure_within = can.measure_within;
      is_ordinal = only_kept bank history new log measured.ordinal (call1 "ORDINALP" m ∷ []) can.is_ordinal;
      each_falls = falls_kept bank history new log (text_at bank name) (texts_at bank formals.items) m (calls_of (text_at bank name) (term_at bank body)) measured.falls.items can.each_falls;
    }
closes_block bank history log (closing.Shell shell) can = can
closes_block bank history log (closing.Toggle name old disabled) can = can
closes_block bank history log (closing.Undo name) can = can

-- what the block introduces is new
pub introduces_new : (bank : Content) (history : List Entry) (log : List Line) (c : Closing) → CanClose bank history log c → IsNew (events_at bank history) (introduced_by bank c)
introduces_new bank history log closing.BootStrap can = tt
introduces_new bank history log (closing.Lemma name t l) can = tt
introduces_new bank history log (closing.Axiomatize name t) can = tt
introduces_new bank history log (closing.Dcl name arity) can = tt
introduces_new bank history log (closing.Defn name formals body) can = tt
introduces_new bank history log (closing.Recursion name formals body measured) can = record { free = can.free; arity = can.count }
introduces_new bank history log (closing.Shell shell) can = tt
introduces_new bank history log (closing.Toggle name old disabled) can = tt
introduces_new bank history log (closing.Undo name) can = tt
