-- What closing lines claim holds.
use Rattle.std.proofs.Common.{◌≡◌, Bool, true, false, ℕ, ◌==◌, ◌^◌, List, [], ◌∷◌, ◌++◌, ◌&&◌, length, nat_lt, nat_le, subst}
use Rattle.std.specs.Prelude.{Option, Some, None, is_none, is_some, not}
use Rattle.nq_logtext.specs.Reading.{◌>>=◌}
use Rattle.nq_logtext.specs.Fields.{Field, number, name, mode}
use Rattle.nq_logic.specs.Terms.{Name, Term, IsTerm}
use Rattle.nq_logic.specs.Histories.{AddShell, Declaration, Defines, Axiom, Lemma, Toggle, Part}
use Rattle.nq_logic.specs.Ground.{symbols_of}
use Rattle.nq_proof.specs.Rules.{has_only}
use Rattle.nq_proof.proofs.Tests.{and_left, and_right}
use Rattle.nq_logic.specs.Names.{is_in_use, event_in, looked_up}
use Rattle.nq_logic.specs.ShellPrinciple.{shells_of, shell_refusal}
use Rattle.nq_log.specs.Sizes.{is_small}
use Rattle.nq_log.specs.States.{is_empty, MeasureLine, Block, State, Claim, Grounded, Adds, Undoes, introduced_symbols, block_symbols, term_at, variables_at, clause_at, has_line, have_lines, has_term_at, only_when}
use Rattle.nq_log.specs.Fields.{numbers_in, names_in}
use Rattle.nq_log.specs.ClosingLines.{restriction_of, part_line, measure_line, has_room, is_plain, is_free, bootstrap_claim, added_shell, are_short, is_shell_ok, shell_claim, declaration_claim, axiom_claim, lemma_claim, toggle_claim, undo_claim, new_definition, is_definition, definition_claim}
use Rattle.nq_log.specs.Laws.{ClaimHolds}
use Rattle.nq_log.proofs.Options.{none_is, denied, nothing_found, found_same, bound, allowed}
use Rattle.nq_log.proofs.TermSteps.{IsRight, with_block, term_over}
use Rattle.nq_log.proofs.RuleSteps.{lines_hold, only_holds}
use Rattle.nq_log.proofs.Definitions.{admissible}
use Rattle.nq_logic.proofs.ShellTests.{shells_refused_law}

pub part_right : (s : State) → IsRight s → (fields : List Field) (block : Block) → part_line s fields ≡ Some block → IsRight (with_block s block)
part_right s w (name a ∷ mode m ∷ name d ∷ fields) block e =
    let new = λ (rs : List (List ℕ)). let part : Part = record { accessor = a; restriction = restriction_of m rs; default = d } in let b : Block = record s.block { parts = s.block.parts ++ (part ∷ []) } in b in
    let f = bound (names_in fields) (λ rs. Some (new rs)) block e in
    subst (λ b. IsRight (with_block s b)) (found_same (new f.0) block f.2) (record { sound = w.sound; terms = w.terms; lines = w.lines })
part_right s w fields block e = absurd (nothing_found block e)

pub measure_right : (s : State) → IsRight s → (fields : List Field) (block : Block) → measure_line s fields ≡ Some block → IsRight (with_block s block)
measure_right s w (number m ∷ number o ∷ fields) block e =
    let new = λ (rs : List ℕ). let measure : MeasureLine = record { measure = m; ordinal = o; falls = rs } in let b : Block = record s.block { measure = Some measure } in b in
    let stand = λ (rs : List ℕ). has_term_at s.block m && has_line s.block o && have_lines s.block rs in
    let f = bound (numbers_in fields) (λ rs. only_when (stand rs) (new rs)) block e in
    let g = allowed (stand f.0) (new f.0) block f.2 in
    subst (λ b. IsRight (with_block s b)) g.1 (record { sound = w.sound; terms = w.terms; lines = w.lines })
measure_right s w fields block e = absurd (nothing_found block e)

-- the terms of a block that introduces no function are over the history's symbols
plain_over : (s : State) (t : Term) → is_none s.block.introduced ≡ true → IsTerm (block_symbols s) t → IsTerm (symbols_of s.history) t
plain_over s t e o = by_function s.block.introduced e o
  where
    by_function : (i : Option (Name × ℕ)) → is_none i ≡ true → IsTerm (introduced_symbols i ++ symbols_of s.history) t → IsTerm (symbols_of s.history) t
    by_function None e o = o
    by_function (Some i) e o = absurd cc

free_plain : (s : State) (n : Name) → is_free s n ≡ true → is_none s.block.introduced ≡ true
free_plain s n e =
    let nothing = is_none s.block.introduced in
    let no_parts = is_empty s.block.parts in
    let plain = and_left (is_plain s.block) (has_room s.history) (and_left (is_plain s.block && has_room s.history) (not (is_in_use n s.history)) e) in
    and_left nothing no_parts (and_left (nothing && no_parts) (is_empty s.block.cases) plain)

-- the name of a new event is new
free_unused : (s : State) (n : Name) → is_free s n ≡ true → is_in_use n s.history ≡ false
free_unused s n e = denied (is_in_use n s.history) (and_right (is_plain s.block && has_room s.history) (not (is_in_use n s.history)) e)

pub bootstrap_holds : (s : State) → IsRight s → (fields : List Field) (c : Claim) → bootstrap_claim s fields ≡ Some c → ClaimHolds s.history c
bootstrap_holds s w [] c e = subst (ClaimHolds s.history) (allowed (is_plain s.block) Grounded c e).1 tt
bootstrap_holds s w (f ∷ fields) c e = absurd (nothing_found c e)

pub shell_holds : (s : State) → IsRight s → (fields : List Field) (c : Claim) → shell_claim s fields ≡ Some c → ClaimHolds s.history c
shell_holds s w (name n ∷ name b ∷ name r ∷ []) c e =
    let shell = added_shell s.block n b r in
    let others = is_none s.block.introduced && is_empty s.block.cases && has_room s.history in
    let a = allowed (others && is_shell_ok s.history shell) (Adds (AddShell shell)) c e in
    let right = and_right others (is_shell_ok s.history shell) a.0 in
    let accepted = is_none (shell_refusal (λ name. is_in_use name s.history) (shells_of s.history) shell) in
    let few = nat_le (length shell.parts) 20 in
    let first = and_left accepted few (and_left (accepted && few) (are_short shell.parts) right) in
    let in_use : Name → Bool = λ name. is_in_use name s.history in
    let holds_here = ((shells_refused_law in_use (shells_of s.history) shell).0 (none_is (shell_refusal in_use (shells_of s.history) shell) first)).0 in
    subst (ClaimHolds s.history) a.1 (holds_here.unused.0, holds_here)
shell_holds s w fields c e = absurd (nothing_found c e)

pub declaration_holds : (s : State) → IsRight s → (fields : List Field) (c : Claim) → declaration_claim s fields ≡ Some c → ClaimHolds s.history c
declaration_holds s w (name f ∷ number k ∷ []) c e =
    let a = allowed (is_free s f && nat_lt k (2 ^ 32)) (Adds (Declaration f k)) c e in
    subst (ClaimHolds s.history) a.1 (free_unused s f (and_left (is_free s f) (nat_lt k (2 ^ 32)) a.0), tt)
declaration_holds s w fields c e = absurd (nothing_found c e)

pub axiom_holds : (s : State) → IsRight s → (fields : List Field) (c : Claim) → axiom_claim s fields ≡ Some c → ClaimHolds s.history c
axiom_holds s w (name n ∷ number i ∷ []) c e =
    let a = bound (term_at s.block i) (λ t. only_when (is_free s n && is_small t) (Adds (Axiom n [] t))) c e in
    let b = allowed (is_free s n && is_small a.0) (Adds (Axiom n [] a.0)) c a.2 in
    let free = and_left (is_free s n) (is_small a.0) b.0 in
    subst (ClaimHolds s.history) b.1 (free_unused s n free, plain_over s a.0 (free_plain s n free) (term_over s w i a.0 a.1))
axiom_holds s w fields c e = absurd (nothing_found c e)

pub lemma_holds : (s : State) → IsRight s → (fields : List Field) (c : Claim) → lemma_claim s fields ≡ Some c → ClaimHolds s.history c
lemma_holds s w (name n ∷ number i ∷ number l ∷ []) c e =
    let shown = λ (t : Term). has_only (clause_at s.block l) (t ∷ []) in
    let a = bound (term_at s.block i) (λ t. only_when (is_free s n && is_small t && shown t) (Adds (Lemma n [] t))) c e in
    let t = a.0 in
    let b = allowed (is_free s n && is_small t && shown t) (Adds (Lemma n [] t)) c a.2 in
    let free = and_left (is_free s n) (is_small t) (and_left (is_free s n && is_small t) (shown t) b.0) in
    let over = plain_over s t (free_plain s n free) (term_over s w i t a.1) in
    subst (ClaimHolds s.history) b.1
    (free_unused s n free, only_holds s.history (clause_at s.block l) (t ∷ []) (lines_hold s w l) (over, tt) (and_right (is_free s n && is_small t) (shown t) b.0))
lemma_holds s w fields c e = absurd (nothing_found c e)

pub toggle_holds : (s : State) → IsRight s → (fields : List Field) (c : Claim) → toggle_claim s fields ≡ Some c → ClaimHolds s.history c
toggle_holds s w (name n ∷ name old ∷ number d ∷ []) c e =
    let a = allowed (is_free s n && is_some (looked_up old s.history) && nat_lt d 2) (Adds (Toggle n old (d == 1))) c e in
    subst (ClaimHolds s.history) a.1 (free_unused s n (and_left (is_free s n) (is_some (looked_up old s.history)) (and_left (is_free s n && is_some (looked_up old s.history)) (nat_lt d 2) a.0)), tt)
toggle_holds s w fields c e = absurd (nothing_found c e)

pub undo_holds : (s : State) → IsRight s → (fields : List Field) (c : Claim) → undo_claim s fields ≡ Some c → ClaimHolds s.history c
undo_holds s w (name n ∷ []) c e = subst (ClaimHolds s.history) (allowed (is_plain s.block && is_some (event_in n s.history)) (Undoes n) c e).1 tt
undo_holds s w fields c e = absurd (nothing_found c e)

pub definition_holds : (s : State) → IsRight s → (fields : List Field) (c : Claim) → definition_claim s fields ≡ Some c → ClaimHolds s.history c
definition_holds s w (name f ∷ number b ∷ fields) c e =
    let no_parts = is_empty s.block.parts in
    let no_cases = is_empty s.block.cases in
    let room = has_room s.history in
    let free = not (is_in_use f s.history) in
    let narrow = λ (xs : List Name). nat_lt (length xs) (2 ^ 32) in
    let right = λ (body : Term) (xs : List Name). no_parts && no_cases && room && free && narrow xs && is_small body && is_definition s f xs body in
    let event = λ (body : Term) (xs : List Name). Adds (Defines (new_definition s.block f xs body)) in
    let a = bound (term_at s.block b) (λ body. numbers_in fields >>= λ ns. variables_at s.block ns >>= λ xs. only_when (right body xs) (event body xs)) c e in
    let body = a.0 in
    let d = bound (numbers_in fields) (λ ns. variables_at s.block ns >>= λ xs. only_when (right body xs) (event body xs)) c a.2 in
    let g = bound (variables_at s.block d.0) (λ xs. only_when (right body xs) (event body xs)) c d.2 in
    let xs = g.0 in
    let r = allowed (right body xs) (event body xs) c g.2 in
    let six = and_left (no_parts && no_cases && room && free && narrow xs && is_small body) (is_definition s f xs body) r.0 in
    let five = and_left (no_parts && no_cases && room && free && narrow xs) (is_small body) six in
    let four = and_left (no_parts && no_cases && room && free) (narrow xs) five in
    let unused = and_right (no_parts && no_cases && room) free four in
    let holds_here = admissible s w f xs body (term_over s w b body a.1) (denied (is_in_use f s.history) unused)
    (and_right (no_parts && no_cases && room && free && narrow xs && is_small body) (is_definition s f xs body) r.0) in
    subst (ClaimHolds s.history) r.1 (denied (is_in_use f s.history) unused, holds_here)
definition_holds s w fields c e = absurd (nothing_found c e)
