-- The lines of rules keep a block right.
use Rattle.std.proofs.Common.{◌≡◌, true, ℕ, zero, suc, List, [], ◌∷◌, ◌++◌, ◌&&◌, refl, subst}
use Rattle.std.specs.Prelude.{Option, Some, None, slice_get, pred}
use Rattle.nq_logtext.specs.Fields.{Field, number}
use Rattle.nq_logtext.specs.Reading.{◌>>=◌}
use Rattle.nq_logic.specs.Terms.{Term, IsTerm, Each}
use Rattle.nq_logic.specs.Formulas.{clause}
use Rattle.nq_logic.specs.Histories.{History}
use Rattle.nq_logic.specs.Ground.{symbols_of}
use Rattle.nq_logic.specs.Derivations.{Derivable}
use Rattle.nq_logic.specs.Laws.{IsClause}
use Rattle.nq_logic.proofs.Lists.{each_append, each_at, among_at}
use Rattle.nq_logic.proofs.Clauses.{more_literals}
use Rattle.nq_proof.specs.Clauses.{Clause}
use Rattle.nq_proof.specs.Rules.{Rule, conclusion, rule_terms, has_only}
use Rattle.nq_logic.specs.Admissible.{mentions}
use Rattle.nq_proof.specs.Laws.{LinesHold}
use Rattle.nq_proof.proofs.Tests.{and_left, and_right, within_each}
use Rattle.nq_arith.specs.Laws.{FullSoundness}
use Rattle.nq_log.specs.Sizes.{are_shallow}
use Rattle.nq_log.specs.States.{CaseOf, HypothesisOf, Block, State, introduced_symbols, block_symbols, clause_at, has_line, has_term_at, only_when}
use Rattle.nq_log.specs.Fields.{pairs_in}
use Rattle.nq_log.specs.RuleLines.{is_without, are_without, with_clause, rule_line, induct_rule, induct_line, dropped, drop_line, with_case, case_line, have_terms, hypothesis_line}
use Rattle.nq_log.proofs.Options.{denied, nothing_found, found_same, bound, allowed}
use Rattle.nq_log.proofs.Events.{lemmas_hold, closed_history}
use Rattle.nq_log.proofs.Functions.{without_function}
use Rattle.nq_log.proofs.RuleTerms.{induct_over}
use Rattle.nq_log.proofs.TermSteps.{Stands, IsRight, with_block}

pub lines_hold : (s : State) → IsRight s → LinesHold s.history (clause_at s.block)
lines_hold s w zero c e = absurd (nothing_found c e)
lines_hold s w (suc n) c e =
    let a = bound (slice_get s.block.lines n) (λ o. o) c e in
    each_at (Stands s.history) a.0 s.block.lines w.lines (among_at a.0 s.block.lines n a.1) c a.2

-- a line that has only these literals shows their clause
pub only_holds : (h : History) (o : Option Clause) (these : List Term) → Stands h o → IsClause h these → has_only o these ≡ true → Derivable h (clause these)
only_holds h None these stands over e = absurd cc
only_holds h (Some c) these stands over e = more_literals h c these (stands c refl) over (within_each c these e)

-- terms of the block without the function that it introduces are over the history's symbols
own_term : (s : State) (t : Term) → IsTerm (block_symbols s) t → is_without s.block.introduced t ≡ true → IsTerm (symbols_of s.history) t
own_term s t o e = by_function s.block.introduced o e
  where
    by_function : (i : Option (List ℕ × ℕ)) → IsTerm (introduced_symbols i ++ symbols_of s.history) t → is_without i t ≡ true → IsTerm (symbols_of s.history) t
    by_function None o e = o
    by_function (Some i) o e = without_function i.0 i.1 (symbols_of s.history) t zero (denied (mentions i.0 t) e) o

own_terms : (s : State) (ts : List Term) → Each (IsTerm (block_symbols s)) ts → are_without s.block.introduced ts ≡ true → Each (IsTerm (symbols_of s.history)) ts
own_terms s [] o e = tt
own_terms s (t ∷ ts) o e =
    (own_term s t o.0 (and_left (is_without s.block.introduced t) (are_without s.block.introduced ts) e), own_terms s ts o.1 (and_right (is_without s.block.introduced t) (are_without s.block.introduced ts) e))

pub rule_right : FullSoundness → (s : State) → IsRight s → (rule : Option Rule) → ((r : Rule) → rule ≡ Some r → Each (IsTerm (block_symbols s)) (rule_terms r)) → (block : Block) → rule_line s rule ≡ Some block → IsRight (with_block s block)
rule_right rules_hold s w rule over_block block e =
    let result = λ (c : Clause). only_when (are_shallow c) (with_clause s.block c) in
    let concluded = λ (r : Rule). conclusion s.history (clause_at s.block) r >>= result in
    let a = bound rule (λ r. only_when (are_without s.block.introduced (rule_terms r)) r >>= concluded) block e in
    let b = bound (only_when (are_without s.block.introduced (rule_terms a.0)) a.0) concluded block a.2 in
    let over = allowed (are_without s.block.introduced (rule_terms a.0)) a.0 b.0 b.1 in
    let d = bound (conclusion s.history (clause_at s.block) b.0) result block b.2 in
    let new = allowed (are_shallow d.0) (with_clause s.block d.0) block d.2 in
    let terms : Each (IsTerm (symbols_of s.history)) (rule_terms b.0) =
    subst (λ r. Each (IsTerm (symbols_of s.history)) (rule_terms r)) over.1 (own_terms s (rule_terms a.0) (over_block a.0 a.1) over.0) in
    let holds_here = rules_hold s.history (clause_at s.block) b.0 d.0 (closed_history s.history w.sound) (lemmas_hold s.history w.sound) (lines_hold s w) terms d.1 in
    let stands : Stands s.history (Some d.0) = λ c same. subst (λ c. Derivable s.history (clause c)) (found_same d.0 c same) holds_here in
    subst (λ b. IsRight (with_block s b)) new.1
    (record { sound = w.sound; terms = w.terms; lines = each_append (Stands s.history) s.block.lines (Some d.0 ∷ []) w.lines (stands, tt) })

pub induct_right : FullSoundness → (s : State) → IsRight s → (fields : List Field) (block : Block) → induct_line s fields ≡ Some block → IsRight (with_block s block)
induct_right rules_hold s w fields block e =
    let a = bound (rule_line s (induct_rule s.block fields)) (λ b. Some (record b { cases = [] })) block e in
    let r = rule_right rules_hold s w (induct_rule s.block fields) (λ r e. induct_over s w fields r e) a.0 a.1 in
    subst (λ b. IsRight (with_block s b)) (found_same (record a.0 { cases = [] }) block a.2) (record { sound = r.sound; terms = r.terms; lines = r.lines })

dropped_hold : (h : History) (lines : List (Option (List Term))) (k : ℕ) → Each (Stands h) lines → Each (Stands h) (dropped lines k)
dropped_hold h [] k all = tt
dropped_hold h (o ∷ lines) zero all = (λ c e. absurd (nothing_found c e), all.1)
dropped_hold h (o ∷ lines) (suc k) all = (all.0, dropped_hold h lines k all.1)

pub drop_right : (s : State) → IsRight s → (fields : List Field) (block : Block) → drop_line s fields ≡ Some block → IsRight (with_block s block)
drop_right s w (number l ∷ []) block e =
    let new : Block = record s.block { lines = dropped s.block.lines (pred l) } in
    let a = bound (clause_at s.block l) (λ c. Some new) block e in
    subst (λ b. IsRight (with_block s b)) (found_same new block a.2) (record { sound = w.sound; terms = w.terms; lines = dropped_hold s.history s.block.lines (pred l) w.lines })
drop_right s w fields block e = absurd (nothing_found block e)

pub case_right : (s : State) → IsRight s → (fields : List Field) (block : Block) → case_line s fields ≡ Some block → IsRight (with_block s block)
case_right s w (number q ∷ number l ∷ []) block e =
    let new = with_case s.block (CaseOf q l) in
    let a = allowed (has_term_at s.block q && has_line s.block l) new block e in
    subst (λ b. IsRight (with_block s b)) a.1 (record { sound = w.sound; terms = w.terms; lines = w.lines })
case_right s w fields block e = absurd (nothing_found block e)

pub hypothesis_right : (s : State) → IsRight s → (fields : List Field) (block : Block) → hypothesis_line s fields ≡ Some block → IsRight (with_block s block)
hypothesis_right s w (number r ∷ fields) block e =
    let result = λ (pairs : List (ℕ × ℕ)). only_when (has_line s.block r && have_terms s.block pairs) (with_case s.block (HypothesisOf r pairs)) in
    let a = bound (pairs_in fields) result block e in
    let b = allowed (has_line s.block r && have_terms s.block a.0) (with_case s.block (HypothesisOf r a.0)) block a.2 in
    subst (λ b. IsRight (with_block s b)) b.1 (record { sound = w.sound; terms = w.terms; lines = w.lines })
hypothesis_right s w fields block e = absurd (nothing_found block e)
