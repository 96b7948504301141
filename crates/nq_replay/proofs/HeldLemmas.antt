-- Lines that stand, under their numbers.
use Rattle.std.proofs.Common.{◌≡◌, ◌∙◌, ℕ, zero, suc, Bool, true, false, List, [], ◌∷◌, ◌++◌, length, get_or, refl, sym, ap, ap₂, subst}
use Rattle.std.specs.Prelude.{Option, Some, None, All, IsSome, unwrap_or, slice_get, is_some}
use Rattle.nq_logic.specs.Terms.{Term}
use Rattle.nq_bank.specs.Content.{terms_at}
use Rattle.nq_bank.specs.Shells.{texts_at}
use Rattle.nq_bank.proofs.NodesLemmas.{All-head, All-tail}
use Rattle.nq_proof.specs.Clauses.{Clause}
use Rattle.nq_proof.proofs.Tests.{none_is_not_some}
use Rattle.nq_proof.specs.Laws.{renumbered}
use Rattle.nq_proof.specs.Rules.{conclusion}
use Rattle.nq_history.specs.declared.entry.Entry.{Entry}
use Rattle.nq_history.specs.Events.{events_at}
use Rattle.nq_kernel.specs.declared.work.Work.{Work}
use Rattle.nq_kernel.specs.declared.rule.Rule.{Rule}
use Rattle.nq_kernel.specs.Meaning.{clause_at, conclusion_at, rule_at}
use Rattle.nq_kernel.specs.Growing.{LineStands, LineHolds, held, WorkStands, WorkGrows}
use Rattle.nq_kernel.proofs.GrowingLemmas.{LineHolds-grown}
use Rattle.std.proofs.lemmas.List.{length-map}
use Rattle.nq_replay.specs.declared.table.LawRule.{LawRule}
use Rattle.nq_replay.specs.Tables.{number_in, rule_in}
use Rattle.nq_replay.specs.Replaying.{line_in, law_line, after_rules, last_of, law_names, law_terms, is_table, law_clause}
use Rattle.nq_replay.specs.Parts.{lines_held, ArePartsOf}
use Rattle.nq_replay.specs.declared.parts.Parts.{Parts}
use Rattle.nq_replay.specs.declared.table.Law.{Law}
use Rattle.nq_replay.proofs.GroundLemmas.{judged, allowed_there}

pub held_holds : (work : Work) (n : ℕ) → LineStands work n → LineHolds work n (held work n)
held_holds work n h = by_clause (clause_at work.bank work.log n) h
  where
    by_clause : (o : Option Clause) → IsSome o → o ≡ Some (unwrap_or o [])
    by_clause None h = absurd cc
    by_clause (Some c) h = refl

held_there : (work : Work) (numbers : List ℕ) (k : ℕ) (c : Clause) → All (LineStands work) numbers → slice_get (lines_held work numbers) k ≡ Some c → LineHolds work (get_or numbers k 0) c
held_there work [] k c h e = absurd (none_is_not_some c e)
held_there work (n ∷ numbers) zero c h e = held_holds work n (All-head (LineStands work) n numbers h) ∙ e
held_there work (n ∷ numbers) (suc k) c h e = held_there work numbers k c (All-tail (LineStands work) n numbers h) e

pub there : (work : Work) (numbers : List ℕ) → All (LineStands work) numbers → (n : ℕ) (c : Clause) → line_in (lines_held work numbers) n ≡ Some c → clause_at work.bank work.log (number_in numbers n) ≡ Some c
there work numbers h zero c e = absurd (none_is_not_some c e)
there work numbers h (suc k) c e = held_there work numbers k c h e

-- what the law's line gives, the rule over ids gives
pub concluded : (history : List Entry) (work : Work) (numbers : List ℕ) (xs : List (List ℕ)) (ts : List Term) (r : LawRule) (made : Rule) (c : Clause) → All (LineStands work) numbers → rule_at work.bank made ≡ renumbered (number_in numbers) (rule_in xs ts r) → law_line xs ts (lines_held work numbers) r ≡ Some c → conclusion_at work.bank history work.log made ≡ Some c
unfolding conclusion_at
concluded history work numbers xs ts r made c h e g =
    ap (conclusion (events_at work.bank history) (clause_at work.bank work.log)) e ∙
    allowed_there (events_at work.bank history) (clause_at work.bank work.log) numbers (lines_held work numbers) (there work numbers h) (rule_in xs ts r) c (judged xs ts (lines_held work numbers) r c g).gives

pub some_of : {X : Type 0} (o : Option X) → IsSome o → (x : X) × (o ≡ Some x)
some_of None h = absurd cc
some_of (Some x) h = (x, refl)

-- lines that stand have their clauses however the work grows
pub held_grown : (history : List Entry) (old new : Work) (n : ℕ) → WorkStands history old → WorkGrows history old new → LineStands old n → held new n ≡ held old n
held_grown history old new n stands grows h = ap (λ o. unwrap_or o []) (LineHolds-grown history old new n (held old n) stands grows (held_holds old n h))

pub lines_grown : (history : List Entry) (old new : Work) (numbers : List ℕ) → WorkStands history old → WorkGrows history old new → All (LineStands old) numbers → lines_held new numbers ≡ lines_held old numbers
lines_grown history old new [] stands grows h = refl
lines_grown history old new (n ∷ numbers) stands grows h =
    ap₂ (λ c cs. c ∷ cs) (held_grown history old new n stands grows (All-head (LineStands old) n numbers h)) (lines_grown history old new numbers stands grows (All-tail (LineStands old) n numbers h))

pub stand_grown : (history : List Entry) (old new : Work) (numbers : List ℕ) → WorkStands history old → WorkGrows history old new → All (LineStands old) numbers → All (LineStands new) numbers
stand_grown history old new numbers stands grows h =
    λ k d below. ap is_some (LineHolds-grown history old new (get_or numbers k d) (held old (get_or numbers k d)) stands grows (held_holds old (get_or numbers k d) (h k d below)))

lines_push : (work : Work) (numbers : List ℕ) (n : ℕ) → lines_held work (numbers ++ n ∷ []) ≡ lines_held work numbers ++ held work n ∷ []
lines_push work [] n = refl
lines_push work (m ∷ numbers) n = ap (λ cs. held work m ∷ cs) (lines_push work numbers n)

-- one line more
pub one_line : (history : List Entry) (old new : Work) (numbers : List ℕ) (n : ℕ) (c : Clause) → WorkStands history old → WorkGrows history old new → All (LineStands old) numbers → clause_at new.bank new.log n ≡ Some c → lines_held new (numbers ++ n ∷ []) ≡ lines_held old numbers ++ c ∷ []
one_line history old new numbers n c stands grows h e =
    lines_push new numbers n ∙ ap₂ (λ cs d. cs ++ d ∷ []) (lines_grown history old new numbers stands grows h) (ap (λ o. unwrap_or o []) e)

-- what the first of some rules gives, and the rest
pub first_rule : (xs : List (List ℕ)) (ts : List Term) (cs : List Clause) (r : LawRule) (rules : List LawRule) → IsSome (after_rules xs ts cs (r ∷ rules)) → (c : Clause) × (law_line xs ts cs r ≡ Some c) × (after_rules xs ts cs (r ∷ rules) ≡ after_rules xs ts (cs ++ c ∷ []) rules)
first_rule xs ts cs r rules h = by_line (law_line xs ts cs r) refl h
  where
    by_line : (o : Option Clause) → law_line xs ts cs r ≡ o → IsSome (elim o as (λ o. Option (List (List Term))) [ None ↦ None | Some c ↦ after_rules xs ts (cs ++ c ∷ []) rules ]) →
        (c : Clause) × (law_line xs ts cs r ≡ Some c) × (after_rules xs ts cs (r ∷ rules) ≡ after_rules xs ts (cs ++ c ∷ []) rules)
    by_line None e k = absurd cc
    by_line (Some c) e k = (c, e, ap (λ o. elim o as (λ o. Option (List (List Term))) [ None ↦ None | Some c ↦ after_rules xs ts (cs ++ c ∷ []) rules ]) e)

-- the last of the lines that stand
pub last_there : (work : Work) (numbers : List ℕ) (c : Clause) → All (LineStands work) numbers → line_in (lines_held work numbers) (length (lines_held work numbers)) ≡ Some c → clause_at work.bank work.log (number_in numbers (length numbers)) ≡ Some c
last_there work numbers c h e = subst (λ n. clause_at work.bank work.log (number_in numbers n) ≡ Some c) (length-map numbers (held work)) (there work numbers h (length (lines_held work numbers)) c e)

-- the clause of a law, by its parts in the bank
pub table_clause : (history : List Entry) (old new : Work) (law : Law) (parts : Parts) (known : List ℕ) → WorkStands history old → WorkGrows history old new → All (LineStands old) known → ArePartsOf new.bank (law_names law) (law_terms law) parts → IsSome (law_clause law (lines_held old known)) →
    last_of (after_rules (texts_at new.bank parts.names.items) (terms_at new.bank parts.terms.items) (lines_held new known) law.rules.now) ≡ law_clause law (lines_held old known)
unfolding law_clause
table_clause history old new law parts known stands grows h are some =
    ap₂ (λ xs ts. last_of (after_rules xs ts (lines_held new known) law.rules.now)) are.names are.terms ∙
    ap (λ cs. last_of (after_rules (law_names law) (law_terms law) cs law.rules.now)) (lines_grown history old new known stands grows h) ∙
    by_test (is_table law) refl some
  where
    by_test : (b : Bool) → is_table law ≡ b → IsSome (elim b as (λ b. Option (List Term)) [ true ↦ last_of (after_rules (law_names law) (law_terms law) (lines_held old known) law.rules.now) | false ↦ None ]) →
        last_of (after_rules (law_names law) (law_terms law) (lines_held old known) law.rules.now) ≡ law_clause law (lines_held old known)
    by_test true e s = ap (λ b. elim b as (λ b. Option (List Term)) [ true ↦ last_of (after_rules (law_names law) (law_terms law) (lines_held old known) law.rules.now) | false ↦ None ]) (sym e)
    by_test false e s = absurd cc

pub is_table_of : (law : Law) (cs : List Clause) → IsSome (law_clause law cs) → is_table law ≡ true
unfolding law_clause
is_table_of law cs some = by_test (is_table law) refl some
  where
    by_test : (b : Bool) → is_table law ≡ b → IsSome (elim b as (λ b. Option (List Term)) [ true ↦ last_of (after_rules (law_names law) (law_terms law) cs law.rules.now) | false ↦ None ]) → is_table law ≡ true
    by_test true e s = e
    by_test false e s = absurd cc
