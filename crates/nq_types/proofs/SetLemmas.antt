-- The facts of sets.
use Rattle.std.proofs.Common.{◌≡◌, ◌≢◌, ◌+◌, ◌<◌, ◌≤◌, ℕ, zero, suc, Bool, true, false, Some, List, [], ◌∷◌, ◌++◌, map, length, refl, sym, ap, subst, arith}
use Rattle.std.specs.Prelude.{slice_get, codes, if◌then◌else◌}
use Rattle.std.proofs.lemmas.Option.{slice_get_within}
use Rattle.std.proofs.lemmas.List.{length-map}
use Rattle.nq_logic.specs.Terms.{Name, Term}
use Rattle.nq_logic.specs.Words.{true_term, not_term}
use Rattle.nq_logic.specs.Histories.{History, Shell}
use Rattle.nq_logic.specs.ShellPrinciple.{shells_of}
use Rattle.nq_logic.proofs.Lists.{among_left}
use Rattle.nq_proof.proofs.Tests.{names_same, some_same}
use Rattle.nq_kernel.specs.declared.work.Work.{Work}
use Rattle.nq_kernel.specs.Ready.{IsReady}
use Rattle.nq_lines.specs.Lines.{LineHasOnly}
use Rattle.nq_lines.proofs.Among.{and_among, none_among, on_left}
use Rattle.nq_lines.proofs.LineLemmas.{only_more}
use Rattle.nq_types.specs.declared.sets.TypeSet.{TypeSet}
use Rattle.nq_types.specs.Kinds.{IsOfKind, of_truth, of_falsity, of_base, of_made}
use Rattle.nq_types.specs.TypeSets.{IsOneBit, all_of, denials, facts, is_in, members, other_place, outsiders, recognized_by, recognizers}
use Rattle.nq_types.specs.Shown.{IsExact, IsKnown, IsShown}
use Rattle.nq_types.specs.Finding.{first_from, recognizes_by}
use Rattle.nq_types.proofs.FindingLemmas.{Found, found}
use Rattle.nq_types.proofs.JudgeLemmas.{member_there}
use Rattle.nq_types.proofs.OwnNames.{one_kind}

-- where all bits are in, no recognizer is outside
none_outside : (set : ℕ → Bool) (place : ℕ) (rs : List Name) (t : Term) → ((k : ℕ) → k < place + length rs → set k ≡ true) → outsiders set place rs t ≡ []
none_outside set place [] t all = refl
none_outside set place (r ∷ rs) t all = by_bit (set place) (all place (omega arith)) (none_outside set (suc place) rs t (λ k below. all k (omega (arith, below))))
  where
    by_bit : (b : Bool) → b ≡ true → outsiders set (suc place) rs t ≡ [] → (if b then outsiders set (suc place) rs t else not_term (recognized_by r t) ∷ outsiders set (suc place) rs t) ≡ []
    by_bit true e rest = rest
    by_bit false e rest = absurd cc

pub any_facts : (h : History) (set : ℕ) (t : Term) → length (shells_of h) ≤ 61 → ((k : ℕ) → k < 64 → is_in set k ≡ true) → facts h set t ≡ true_term ∷ []
any_facts h set t room all = by_other (is_in set other_place) (all other_place (omega arith))
  where
    count : 0 + length (recognizers h) ≤ 63
    count = omega (arith, room, length-map (shells_of h) (λ (s : Shell). s.recognizer))

    by_other : (b : Bool) → b ≡ true → (if b then all_of (outsiders (is_in set) 0 (recognizers h) t) ∷ [] else members (is_in set) 0 (recognizers h) t) ≡ true_term ∷ []
    by_other true e = ap (λ ts. all_of ts ∷ []) (none_outside (is_in set) 0 (recognizers h) t (λ k below. all k (omega (arith, below, count))))
    by_other false e = absurd cc

-- where other objects are out, the facts are the members
pub member_facts : (h : History) (set : ℕ) (t : Term) → is_in set other_place ≡ false → facts h set t ≡ members (is_in set) 0 (recognizers h) t
member_facts h set t e = by_other (is_in set other_place) e
  where
    by_other : (b : Bool) → b ≡ false → (if b then all_of (outsiders (is_in set) 0 (recognizers h) t) ∷ [] else members (is_in set) 0 (recognizers h) t) ≡ members (is_in set) 0 (recognizers h) t
    by_other true e = absurd cc
    by_other false e = refl

-- the recognizer of a kind's bit
record HasRecognizer (h : History) (bit : ℕ) : Type 0 where
  name : Name
  at : slice_get (recognizers h) bit ≡ Some name
  below : bit < 63

pub recognizer_in : (shells : List Shell) (k : ℕ) (s : Shell) → slice_get shells k ≡ Some s → slice_get (map (λ (s : Shell). s.recognizer) shells) k ≡ Some s.recognizer
recognizer_in [] k s e = absurd cc
recognizer_in (q ∷ shells) zero s e = let same : q ≡ s = some_same q s e in ap (λ (x : Shell). Some x.recognizer) same
recognizer_in (q ∷ shells) (suc k) s e = recognizer_in shells k s e

shell_recognizer : (h : History) (k : ℕ) (s : Shell) → length (shells_of h) ≤ 61 → slice_get (shells_of h) k ≡ Some s → HasRecognizer h (k + 2)
shell_recognizer h k s room at =
    let places : suc (suc k) ≡ k + 2 = omega arith in
    let within : k < length (shells_of h) = slice_get_within (shells_of h) k s at in
    record { name = s.recognizer; at = subst (λ n. slice_get (recognizers h) n ≡ Some s.recognizer) places (recognizer_in (shells_of h) k s at); below = omega (arith, within, room) }

recognizer_at : (h : History) (t : Term) (bit : ℕ) → length (shells_of h) ≤ 61 → IsOfKind h t bit → HasRecognizer h bit
recognizer_at h t bit room (of_truth e) = record { name = codes "TRUEP"; at = refl; below = omega arith }
recognizer_at h t bit room (of_falsity e) = record { name = codes "FALSEP"; at = refl; below = omega arith }
recognizer_at h t bit room (of_base k b) = shell_recognizer h k b.shell room b.at
recognizer_at h t bit room (of_made k m) = shell_recognizer h k m.shell room m.at

-- a type that is known is shown under any assumptions
pub known_shown : (h : History) (work : Work) (assumed : List Term) (t : Term) (r : TypeSet × ℕ) → length (shells_of h) ≤ 61 → IsKnown h work t r → IsShown h work assumed t r
known_shown h work assumed t r room known =
    let q : HasRecognizer h known.bit = recognizer_at h t known.bit room known.kind in
    let apart : other_place ≢ known.bit = λ same. omega (arith, same, q.below) in
    let zeroth : is_in r.0.0 (0 + known.bit) ≡ true = subst (λ n. is_in r.0.0 n ≡ true) (omega arith) known.set.there in
    let there = member_there (recognizers h) (is_in r.0.0) 0 known.bit q.name t q.at zeroth in
    let all : List Term = members (is_in r.0.0) 0 (recognizers h) t ++ denials assumed in
    subst (λ ts. LineHasOnly work r.1 (ts ++ denials assumed)) (sym (member_facts h r.0.0 t (known.set.others other_place apart)))
    (only_more work r.1 (recognized_by q.name t ∷ []) all
    (and_among (recognized_by q.name t) [] all (among_left (recognized_by q.name t) (members (is_in r.0.0) 0 (recognizers h) t) (denials assumed) there) (none_among all)) (known.line q.name q.at))

-- and exact
pub known_exact : (h : History) (work : Work) (t : Term) (r : TypeSet × ℕ) → IsReady h → IsKnown h work t r → IsExact h t r
known_exact h work t r ready known = λ k w. subst (IsOneBit r.0.0) (one_kind h t known.bit k ready known.kind w) known.set

-- the line of T shows the type of any term
pub any_shown : (h : History) (work : Work) (assumed : List Term) (t : Term) (r : TypeSet × ℕ) → length (shells_of h) ≤ 61 → ((k : ℕ) → k < 64 → is_in r.0.0 k ≡ true) → LineHasOnly work r.1 (true_term ∷ []) → IsShown h work assumed t r
any_shown h work assumed t r room all line =
    subst (λ ts. LineHasOnly work r.1 (ts ++ denials assumed)) (sym (any_facts h r.0.0 t room all)) (only_more work r.1 (true_term ∷ []) ((true_term ∷ []) ++ denials assumed) (on_left (true_term ∷ []) (denials assumed)) line)

-- a line of members and denials shows a set without other objects
pub members_shown : (h : History) (work : Work) (assumed : List Term) (t : Term) (r : TypeSet × ℕ) → is_in r.0.0 other_place ≡ false → LineHasOnly work r.1 (members (is_in r.0.0) 0 (recognizers h) t ++ denials assumed) → IsShown h work assumed t r
members_shown h work assumed t r other line = subst (λ ts. LineHasOnly work r.1 (ts ++ denials assumed)) (sym (member_facts h r.0.0 t other)) line

-- the bit of a recognizer that is found
pub recognizer_found : (h : History) (f : Name) (p : ℕ) → first_from (recognizes_by f) 0 (shells_of h) ≡ Some p → slice_get (recognizers h) (p + 2) ≡ Some f
recognizer_found h f p e =
    let q : Found (recognizes_by f) 0 p (shells_of h) = found (recognizes_by f) 0 (shells_of h) p e in
    let name : f ≡ q.shell.recognizer = names_same f q.shell.recognizer q.holds in
    let places : suc (suc q.offset) ≡ p + 2 = omega (arith, q.is) in
    subst (λ n. slice_get (recognizers h) n ≡ Some f) places (subst (λ r. slice_get (recognizers h) (suc (suc q.offset)) ≡ Some r) (sym name) (recognizer_in (shells_of h) q.offset q.shell q.at))
