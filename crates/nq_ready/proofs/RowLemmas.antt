-- The rows of the tables of axioms are over a ready history's own functions, with variables that a log can spell.
use Rattle.std.proofs.Common.{◌≡◌, ◌≤◌, ◌<◌, ◌+◌, ◌^◌, ◌⊎◌, ℕ, zero, suc, Bool, true, false, ◌&&◌, List, [], ◌∷◌, ◌++◌, map, length, inl, inr, refl, ap, subst, arith}
use Rattle.std.specs.Prelude.{Option, Some, None, slice_get, slice_set, codes}
use Rattle.std.specs.List.{list_all}
use Rattle.std.proofs.lemmas.List.{length-map}
use Rattle.nq_logic.specs.Terms.{Name, Term, Variable, Function, Applied, applied, IsTerm, IsAmong, Each}
use Rattle.nq_logic.specs.Words.{equal_term}
use Rattle.nq_logic.specs.Names.{has_name, constant_names}
use Rattle.nq_logic.specs.Histories.{History, Shell, Part, Restriction, OneOf, NoneOf, Definition, event_shells, events_shells, events_definitions}
use Rattle.nq_logic.specs.Ground.{symbols_of, ground_definitions, ground_shells}
use Rattle.nq_logic.specs.Laws.{IsClause}
use Rattle.nq_logic.specs.Shells.{IsShellClause, recognizer_is_truth_value, made_is_recognized, base_is_recognized, made_is_no_base, remade_is_same, part_of_made, wrong_part_of_made, part_of_other, part_of_base, wrong_part, truth_is_none, falsity_is_none, kinds_differ, size_of_made, size_of_base, either_of, recognized, restricted, digits_of, part_variable, part_variables, made, whole, accessed, remade, is_base, part_sizes, sum_of}
use Rattle.nq_logic.proofs.Lists.{each_at, each_append, each_among}
use Rattle.nq_steps.proofs.NameLemmas.{part_symbol}
use Rattle.nq_proof.specs.Clauses.{Clause, distinct}
use Rattle.nq_proof.specs.Closed.{IsClosed}
use Rattle.nq_proof.specs.Laws.{LinesHold}
use Rattle.nq_proof.specs.Rows.{GroundRow, ground_rows, row_found, definition_found, opening, opening_at, shell_found, without_part, first_found, axiom_clause}
use Rattle.nq_proof.specs.Rules.{AxiomRow, given}
use Rattle.nq_proof.proofs.Tests.{each_distinct, and_left, and_right}
use Rattle.nq_proof.proofs.AxiomRows.{row_found_is, definition_found_is, opening_is, part_is, first_or, shell_found_is}
use Rattle.nq_proof.proofs.KeptSymbols.{rule_over}
use Rattle.nq_bank.specs.Content.{Content}
use Rattle.nq_history.specs.declared.entry.Entry.{Entry}
use Rattle.nq_bank.specs.declared.node.Sym.{Sym}
use Rattle.nq_bank.specs.Shells.{part_at}
use Rattle.nq_history.specs.declared.entry.EntryKind.{EntryKind}
use Rattle.nq_history.specs.declared.entry.EntryKind.TheVariants as kinds
use Rattle.nq_history.specs.Events.{event_of, event_at, events_at, past_ground}
use Rattle.nq_kernel.specs.Over.{IsVariable, VariablesAre}
use Rattle.nq_kernel.specs.Ready.{IsReady}
use Rattle.nq_kernel.specs.ReadyLaws.{ReadyIsClosed, ReadyTerms}
use Rattle.nq_kernel.proofs.ReadyLaws.{IsPlain, each_plain, variables_are, is_variable, variable_told}
use Rattle.nq_lines.specs.OwnTerms.{IsOver}
use Rattle.nq_ready.specs.OwnTerms.{ReadyOwnTerms}

-- each variable of the term is one that a log can spell
abbrev Spelled : Term → Type 0
Spelled t = VariablesAre IsVariable t

-- ---- the ground rows, by a test

abbrev are_spelled : Term → Bool
are_spelled (Variable x) = is_variable x
are_spelled (Function f) = true
are_spelled (Applied t u) = are_spelled t && are_spelled u

spelled_told : (t : Term) → are_spelled t ≡ true → Spelled t
spelled_told (Variable x) e = variable_told x e
spelled_told (Function f) e = tt
spelled_told (Applied t u) e = (spelled_told t (and_left (are_spelled t) (are_spelled u) e), spelled_told u (and_right (are_spelled t) (are_spelled u) e))

all_told : (ts : List Term) → list_all are_spelled ts ≡ true → Each Spelled ts
all_told [] e = tt
all_told (t ∷ ts) e = (spelled_told t (and_left (are_spelled t) (list_all are_spelled ts) e), all_told ts (and_right (are_spelled t) (list_all are_spelled ts) e))

rows_told : (rows : List GroundRow) → list_all (λ r. list_all are_spelled r.literals) rows ≡ true → Each (λ r. Each Spelled r.literals) rows
rows_told [] e = tt
rows_told (r ∷ rows) e =
    (all_told r.literals (and_left (list_all are_spelled r.literals) (list_all (λ r. list_all are_spelled r.literals) rows) e), rows_told rows (and_right (list_all are_spelled r.literals) (list_all (λ r. list_all are_spelled r.literals) rows) e))

ground_told : Each (λ r. Each Spelled r.literals) ground_rows
ground_told = rows_told ground_rows refl

-- ---- openings

applied_spelled : (t : Term) (xs : List Name) → Spelled t → Each IsVariable xs → Spelled (applied t (map Variable xs))
applied_spelled t [] k each = k
applied_spelled t (x ∷ xs) k each = applied_spelled (Applied t (Variable x)) xs (k, each.0) each.1

opening_spelled : (d : Definition) → IsPlain d → Each Spelled (opening d)
opening_spelled d plain = (((tt, applied_spelled (Function d.function) d.formals tt plain.spelled), variables_are IsVariable d.formals d.body plain.spelled plain.closed), tt)

-- ---- the rows of shells

-- the shell has not too many parts for their variables to be spelled
abbrev HasRoom : Shell → Type 0
HasRoom s = length s.parts ≤ 2 ^ 64

no_constant : (ds : List ℕ) → has_name (codes "X" ++ ds) constant_names ≡ false
no_constant ds = refl

part_spelled : (k : ℕ) → k < 2 ^ 64 → Spelled (part_variable k)
part_spelled k small = record { symbol = part_symbol k small; other = no_constant (digits_of (k + 1) (k + 1)) }

whole_spelled : Spelled whole
whole_spelled = variable_told (codes "X") refl

applied_terms : (t : Term) (ts : List Term) → Spelled t → Each Spelled ts → Spelled (applied t ts)
applied_terms t [] k each = k
applied_terms t (u ∷ ts) k each = applied_terms (Applied t u) ts (k, each.0) each.1

parts_spelled : (k : ℕ) (parts : List Part) → k + length parts ≤ 2 ^ 64 → Each Spelled (part_variables k parts)
parts_spelled k [] room = tt
parts_spelled k (part ∷ parts) room = (part_spelled k (omega (arith, room)), parts_spelled (suc k) parts (omega (arith, room)))

made_spelled : (s : Shell) → HasRoom s → Spelled (made s)
made_spelled s room = applied_terms (Function s.constructor) (part_variables 0 s.parts) tt (parts_spelled 0 s.parts (omega (arith, room)))

set_spelled : (ts : List Term) (k : ℕ) (t : Term) → Each Spelled ts → Spelled t → Each Spelled (slice_set ts k t)
set_spelled [] k t each kept = tt
set_spelled (u ∷ ts) zero t each kept = (kept, each.1)
set_spelled (u ∷ ts) (suc k) t each kept = (each.0, set_spelled ts k t each.1 kept)

recognized_spelled : (rs : List Name) (t : Term) → Spelled t → Each Spelled (recognized rs t)
recognized_spelled [] t k = tt
recognized_spelled (r ∷ rs) t k = ((tt, k), recognized_spelled rs t k)

either_spelled : (ts : List Term) → Each Spelled ts → Spelled (either_of ts)
either_spelled [] each = tt
either_spelled (t ∷ []) each = each.0
either_spelled (t ∷ u ∷ ts) each = ((tt, each.0), either_spelled (u ∷ ts) each.1)

restricted_spelled : (r : Restriction) (t : Term) → Spelled t → Spelled (restricted r t)
restricted_spelled (OneOf rs) t k = either_spelled (recognized rs t) (recognized_spelled rs t k)
restricted_spelled (NoneOf []) t k = tt
restricted_spelled (NoneOf (r ∷ rs)) t k = (tt, either_spelled (recognized (r ∷ rs) t) (recognized_spelled (r ∷ rs) t k))

accessed_spelled : (t : Term) (parts : List Part) → Spelled t → Each Spelled (accessed t parts)
accessed_spelled t [] k = tt
accessed_spelled t (part ∷ parts) k = ((tt, k), accessed_spelled t parts k)

base_spelled : (base : Option Name) → Each Spelled (is_base base)
base_spelled None = tt
base_spelled (Some b) = (((tt, whole_spelled), tt), tt)

sizes_spelled : (k : ℕ) (parts : List Part) → k + length parts ≤ 2 ^ 64 → Each Spelled (part_sizes k parts)
sizes_spelled k [] room = tt
sizes_spelled k (part ∷ parts) room =
    let here = part_spelled k (omega (arith, room)) in
    ((((tt, restricted_spelled part.restriction (part_variable k) here), (tt, here)), tt), sizes_spelled (suc k) parts (omega (arith, room)))

sum_spelled : (ts : List Term) → Each Spelled ts → Spelled (sum_of ts)
sum_spelled [] each = tt
sum_spelled (t ∷ []) each = each.0
sum_spelled (t ∷ u ∷ ts) each = ((tt, each.0), sum_spelled (u ∷ ts) each.1)

found_below : (parts : List Part) (k : ℕ) (part : Part) → slice_get parts k ≡ Some part → k < length parts
found_below [] k part e = absurd cc
found_below (p ∷ parts) zero part e = omega arith
found_below (p ∷ parts) (suc k) part e = let below = found_below parts k part e in omega (arith, below)

module _ (earlier : List Shell) (s : Shell) (room : HasRoom s) where
  at_part : (k : ℕ) (part : Part) → slice_get s.parts k ≡ Some part → Spelled (part_variable k)
  at_part k part e = let below = found_below s.parts k part e in part_spelled k (omega (arith, below, room))

  shell_spelled : {row i : ℕ} {c : List Term} → IsShellClause earlier s row i c → Each Spelled c
  shell_spelled recognizer_is_truth_value = (((tt, (tt, whole_spelled)), tt), (((tt, (tt, whole_spelled)), tt), tt))
  shell_spelled made_is_recognized = ((tt, made_spelled s room), tt)
  shell_spelled (base_is_recognized b e) = ((tt, tt), tt)
  shell_spelled (made_is_no_base b e) = ((tt, ((tt, made_spelled s room), tt)), tt)
  shell_spelled remade_is_same =
      ((tt, (tt, whole_spelled)), each_append Spelled (is_base s.base) (equal_term (remade s) whole ∷ []) (base_spelled s.base) (((tt, applied_terms (Function s.constructor) (accessed whole s.parts) tt (accessed_spelled whole s.parts whole_spelled)), whole_spelled), tt))
  shell_spelled (part_of_made k part e) =
      let here = at_part k part e in
      ((tt, restricted_spelled part.restriction (part_variable k) here), (((tt, (tt, made_spelled s room)), here), tt))
  shell_spelled (wrong_part_of_made k part e) =
      (restricted_spelled part.restriction (part_variable k) (at_part k part e), (((tt, (tt, made_spelled s room)), tt), tt))
  shell_spelled (part_of_other k part e) = ((tt, whole_spelled), (((tt, (tt, whole_spelled)), tt), tt))
  shell_spelled (part_of_base k part b e f) = (((tt, (tt, tt)), tt), tt)
  shell_spelled (wrong_part k part e) = (
    restricted_spelled part.restriction (part_variable k) (at_part k part e),
    (((tt, made_spelled s room), applied_terms (Function s.constructor) (slice_set (part_variables 0 s.parts) k (Function part.default)) tt (set_spelled (part_variables 0 s.parts) k (Function part.default) (parts_spelled 0 s.parts (omega (arith, room))) tt)), tt),
  )
  shell_spelled truth_is_none = ((tt, (tt, tt)), tt)
  shell_spelled falsity_is_none = ((tt, (tt, tt)), tt)
  shell_spelled (kinds_differ j other e) = ((tt, (tt, whole_spelled)), ((tt, (tt, whole_spelled)), tt))
  shell_spelled size_of_made = (((tt, (tt, made_spelled s room)), (tt, sum_spelled (part_sizes 0 s.parts) (sizes_spelled 0 s.parts (omega (arith, room))))), tt)
  shell_spelled (size_of_base b e) = (((tt, (tt, tt)), tt), tt)

-- ---- the clause under a name in the tables

module _ (h : History) (ready : IsReady h) (rooms : Each HasRoom (ground_shells ++ events_shells h)) where
  right_of : {X : Type 0} (P : X → Type 0) (xs ys : List X) → Each P (xs ++ ys) → Each P ys
  right_of P [] ys ps = ps
  right_of P (x ∷ xs) ys ps = right_of P xs ys ps.1

  row_spelled : (name : Name) (row i : ℕ) (c : Clause) → axiom_clause h name row i ≡ Some c → Each Spelled c
  row_spelled name row i c e =
      by_table (first_or (without_part i (row_found name row ground_rows)) (first_found (without_part i (opening_at row (definition_found name (ground_definitions ++ events_definitions h)))) (shell_found name row i [] (ground_shells ++ events_shells h))) c e)
    where
      by_rest : (without_part i (opening_at row (definition_found name (ground_definitions ++ events_definitions h))) ≡ Some c) ⊎ (shell_found name row i [] (ground_shells ++ events_shells h) ≡ Some c) → Each Spelled c
      by_rest (inl p) =
          let q = opening_is row (definition_found name (ground_definitions ++ events_definitions h)) c (part_is i (opening_at row (definition_found name (ground_definitions ++ events_definitions h))) c p) in
          subst (Each Spelled) q.2 (opening_spelled q.0 (each_at IsPlain q.0 (ground_definitions ++ events_definitions h) (each_plain h ready) (definition_found_is name (ground_definitions ++ events_definitions h) q.0 q.1)))
      by_rest (inr p) =
          let q = shell_found_is name row i [] (ground_shells ++ events_shells h) c p in
          let room = subst (Each HasRoom) q.3 rooms in
          shell_spelled q.0 q.1 (right_of HasRoom q.0 (q.1 ∷ q.2) room).0 q.4

      by_table : (without_part i (row_found name row ground_rows) ≡ Some c) ⊎ (first_found (without_part i (opening_at row (definition_found name (ground_definitions ++ events_definitions h)))) (shell_found name row i [] (ground_shells ++ events_shells h)) ≡ Some c) → Each Spelled c
      by_table (inl p) = row_found_is (Each Spelled) name row ground_rows c ground_told (part_is i (row_found name row ground_rows) c p)
      by_table (inr p) = by_rest (first_or (without_part i (opening_at row (definition_found name (ground_definitions ++ events_definitions h)))) (shell_found name row i [] (ground_shells ++ events_shells h)) c p)

  no_line_holds : LinesHold h (λ n. None)
  no_line_holds n c e = absurd cc

  row_over : IsClosed h → (name : Name) (row i : ℕ) (c : Clause) → axiom_clause h name row i ≡ Some c → Each (IsTerm (symbols_of h)) c
  row_over closed name row i c e =
      let all : IsClause h (distinct c) = rule_over h (λ n. None) closed no_line_holds (AxiomRow name row i) (distinct c) tt (ap (λ o. given o (λ d. Some (distinct d))) e) in
      each_among (IsTerm (symbols_of h)) c (λ t m. each_at (IsTerm (symbols_of h)) t (distinct c) all (each_at (λ p. IsAmong p (distinct c)) t c (each_distinct c) m))

  both : (c : Clause) → Each (IsTerm (symbols_of h)) c → Each Spelled c → Each (IsOver h) c
  both [] a b = tt
  both (t ∷ c) a b = (record { over = a.0; variables = b.0 }, both c a.1 b.1)

-- ---- shells of entries

ground_rooms : Each HasRoom ground_shells
ground_rooms = (omega arith, (omega arith, (omega arith, (omega arith, tt))))

-- a vector has fewer elements than 2 ^ 64
kind_rooms : (bank : Content) (name : Sym) (kind : EntryKind) → Each HasRoom (event_shells (event_of bank name kind))
kind_rooms bank name (kinds.Shell shell) =
    let count = length-map shell.parts.items (part_at bank) in
    let fits : length shell.parts.items ≤ 2 ^ 64 = omega (arith, shell.parts.ok.0, shell.parts.ok.1) in
    (omega (arith, count, fits), tt)
kind_rooms bank name (kinds.Dcl n) = tt
kind_rooms bank name (kinds.Defn formals body measure) = tt
kind_rooms bank name (kinds.Axiom classes t) = tt
kind_rooms bank name (kinds.Lemma classes t) = tt
kind_rooms bank name (kinds.Toggle old disabled) = tt

entries_rooms : (bank : Content) (entries : List Entry) → Each HasRoom (events_shells (map (event_at bank) entries))
entries_rooms bank [] = tt
entries_rooms bank (e ∷ entries) = each_append HasRoom (event_shells (event_at bank e)) (events_shells (map (event_at bank) entries)) (kind_rooms bank e.name e.kind) (entries_rooms bank entries)

pub own_terms_law : ReadyIsClosed → ReadyTerms → ReadyOwnTerms
own_terms_law closed terms bank history ready =
    let h : History = events_at bank history in
    let rooms : Each HasRoom (ground_shells ++ events_shells h) = each_append HasRoom ground_shells (events_shells h) ground_rooms (entries_rooms bank (past_ground history)) in
    record {
      events = λ name t is. terms h name t ready is;
      rows = λ name row part c is. both h ready rooms c (row_over h ready rooms (closed h ready) name row part c is) (row_spelled h ready rooms name row part c is);
    }
