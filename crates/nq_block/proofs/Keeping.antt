-- What has a number keeps one.
use Rattle.std.proofs.Common.{◌≡◌, ◌<◌, ◌≤◌, ◌+◌, ◌^◌, Fits, w32, w64, length-append, add-one, ℕ, zero, suc, List, [], ◌∷◌, ◌++◌, length, map, get_or, take, Some, sym, ap, ◌∙◌, subst, arith}
use Rattle.std.specs.Prelude.{nat_eq, All, IsSome, Result, Ok, Err, OnOk}
use Rattle.std.proofs.lemmas.List.{take_all}
use Rattle.std.specs.HashMap.{get, Updates}
use Rattle.std.proofs.Math.Seq.{take-suc}
use Rattle.nq_bank.proofs.Standing.{All-push}
use Rattle.nq_logic.specs.Terms.{Name, Term, Each}
use Rattle.nq_bank.specs.Content.{Content, text_at, term_at}
use Rattle.nq_clause.specs.Substitution.{substitution_at}
use Rattle.nq_proof.specs.Rules.{pair_terms}
use Rattle.nq_kernel.specs.Over.{pair_names}
use Rattle.nq_bank.specs.declared.node.Sym.{Sym}
use Rattle.nq_bank.specs.declared.node.TermId.{TermId}
use Rattle.nq_clause.specs.declared.substitution.Pair.{Pair}
use Rattle.nq_block.specs.declared.writer.Writer.{Writer}
use Rattle.nq_block.specs.Writing.{IsWritten, IsVariableWritten, IsPairWritten, Keeps}
use Rattle.nq_block.proofs.Numbering.{written_kept}

pub keeps_same : (w : Writer) → Keeps w w
keeps_same w = record { terms = λ t written. written; variables = λ s written. written }

pub keeps_more : (a b c : Writer) → Keeps a b → Keeps b c → Keeps a c
keeps_more a b c h k = record { terms = λ t written. k.terms t (h.terms t written); variables = λ s written. k.variables s (h.variables s written) }

-- the tables are all that counts
pub keeps_tables : (a b : Writer) → b.terms ≡ a.terms → b.variables ≡ a.variables → Keeps a b
keeps_tables a b terms variables =
    record {
      terms = λ t written. subst (λ known. IsSome (get nat_eq known t.0)) (sym terms) written;
      variables = λ s written. subst (λ known. IsSome (get nat_eq known s.0)) (sym variables) written;
    }

pub keeps_term : (a b : Writer) (k n : ℕ) → Updates nat_eq a.terms b.terms k (Some n) → b.variables ≡ a.variables → Keeps a b
keeps_term a b k n updates variables =
    record {
      terms = λ t written. written_kept a.terms b.terms k n t.0 updates written;
      variables = λ s written. subst (λ known. IsSome (get nat_eq known s.0)) (sym variables) written;
    }

pub keeps_variable : (a b : Writer) (k n : ℕ) → b.terms ≡ a.terms → Updates nat_eq a.variables b.variables k (Some n) → Keeps a b
keeps_variable a b k n terms updates =
    record {
      terms = λ t written. subst (λ known. IsSome (get nat_eq known t.0)) (sym terms) written;
      variables = λ s written. written_kept a.variables b.variables k n s.0 updates written;
    }

pub all_written : (a b : Writer) (ids : List TermId) → Keeps a b → All (IsWritten a) ids → All (IsWritten b) ids
all_written a b ids keeps written = λ k d below. keeps.terms (get_or ids k d) (written k d below)

pub pair_written : (a b : Writer) (pair : Pair) → Keeps a b → IsPairWritten a pair → IsPairWritten b pair
pair_written a b pair keeps written = record { variable = keeps.variables pair.variable written.variable; term = keeps.terms pair.term written.term }

pub pairs_written : (a b : Writer) (pairs : List Pair) → Keeps a b → All (IsPairWritten a) pairs → All (IsPairWritten b) pairs
pairs_written a b pairs keeps written = λ k d below. pair_written a b (get_or pairs k d) keeps (written k d below)

-- what holds of each of some things made of these holds of the one at a place
pub each_made : {X Y : Type 0} (P : Y → Type 0) (f : X → Y) (xs : List X) (i : ℕ) (d : X) → i < length xs → Each P (map f xs) → P (f (get_or xs i d))
each_made P f [] i d below all = absurd (omega arith)
each_made P f (x ∷ xs) zero d below all = all.0
each_made P f (x ∷ xs) (suc i) d below all = each_made P f xs i d (omega arith) all.1

-- one more term that is written
pub written_next : (a b : Writer) (ids : List TermId) (i : ℕ) (d : TermId) → i < length ids → Keeps a b → All (IsWritten a) (take i ids) → IsWritten b (get_or ids i d) → All (IsWritten b) (take (i + 1) ids)
written_next a b ids i d below keeps written here =
    subst (All (IsWritten b)) (sym (ap (λ n. take n ids) (add-one i) ∙ take-suc ids i d below)) (All-push (IsWritten b) (take i ids) (get_or ids i d) (all_written a b (take i ids) keeps written) here)

pub pairs_next : (a b : Writer) (pairs : List Pair) (i : ℕ) (d : Pair) → i < length pairs → Keeps a b → All (IsPairWritten a) (take i pairs) → IsPairWritten b (get_or pairs i d) → All (IsPairWritten b) (take (i + 1) pairs)
pairs_next a b pairs i d below keeps written here =
    subst (All (IsPairWritten b)) (sym (ap (λ n. take n pairs) (add-one i) ∙ take-suc pairs i d below)) (All-push (IsPairWritten b) (take i pairs) (get_or pairs i d) (pairs_written a b (take i pairs) keeps written) here)

pub whole_written : (w : Writer) (ids : List TermId) (i : ℕ) → length ids ≤ i → All (IsWritten w) (take i ids) → All (IsWritten w) ids
whole_written w ids i all written = subst (All (IsWritten w)) (take_all i ids all) written

pub whole_pairs : (w : Writer) (pairs : List Pair) (i : ℕ) → length pairs ≤ i → All (IsPairWritten w) (take i pairs) → All (IsPairWritten w) pairs
whole_pairs w pairs i all written = subst (All (IsPairWritten w)) (take_all i pairs all) written

pub on_ok_known : {A E P : Type 0} (r : Result A E) → P → OnOk r P
on_ok_known (Ok x) p = p
on_ok_known (Err e) p = tt

-- what holds of each variable, or of each term, of some pairs holds of the one at a place
pub each_name : (bank : Content) (P : Name → Type 0) (pairs : List Pair) (i : ℕ) (d : Pair) → i < length pairs → Each P (pair_names (substitution_at bank pairs)) → P (text_at bank (get_or pairs i d).variable)
each_name bank P [] i d below all = absurd (omega arith)
each_name bank P (p ∷ pairs) zero d below all = all.0
each_name bank P (p ∷ pairs) (suc i) d below all = each_name bank P pairs i d (omega arith) all.1

pub each_term : (bank : Content) (P : Term → Type 0) (pairs : List Pair) (i : ℕ) (d : Pair) → i < length pairs → Each P (pair_terms (substitution_at bank pairs)) → P (term_at bank (get_or pairs i d).term)
each_term bank P [] i d below all = absurd (omega arith)
each_term bank P (p ∷ pairs) zero d below all = all.0
each_term bank P (p ∷ pairs) (suc i) d below all = each_term bank P pairs i d (omega arith) all.1

pub fits : (n : ℕ) → Fits w64 n → n < 2 ^ 64
fits n h = omega (arith, h)

-- a text that grew is no shorter
pub longer : (n : ℕ) (old mid new first second : List ℕ) → n ≤ length old → mid ≡ old ++ first → new ≡ mid ++ second → n ≤ length new
longer n old mid new first second h e f = omega (arith, h, ap length e, ap length f, length-append old first, length-append mid second)

pub fits_short : (n : ℕ) → Fits w32 n → n < 2 ^ 32
fits_short n h = omega (arith, h)

-- the same of variables
names_written : (a b : Writer) (names : List Sym) → Keeps a b → All (IsVariableWritten a) names → All (IsVariableWritten b) names
names_written a b names keeps written = λ k d below. keeps.variables (get_or names k d) (written k d below)

pub names_next : (a b : Writer) (names : List Sym) (i : ℕ) (d : Sym) → i < length names → Keeps a b → All (IsVariableWritten a) (take i names) → IsVariableWritten b (get_or names i d) → All (IsVariableWritten b) (take (i + 1) names)
names_next a b names i d below keeps written here =
    subst (All (IsVariableWritten b)) (sym (ap (λ n. take n names) (add-one i) ∙ take-suc names i d below)) (All-push (IsVariableWritten b) (take i names) (get_or names i d) (names_written a b (take i names) keeps written) here)

pub whole_names : (w : Writer) (names : List Sym) (i : ℕ) → length names ≤ i → All (IsVariableWritten w) (take i names) → All (IsVariableWritten w) names
whole_names w names i all written = subst (All (IsVariableWritten w)) (take_all i names all) written
