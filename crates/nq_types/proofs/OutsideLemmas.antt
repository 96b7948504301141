-- What nests of ANDs say of the recognizers outside a set.
use Rattle.std.proofs.Common.{◌≡◌, ◌<◌, ◌≤◌, ◌+◌, ◌-◌, ◌∙◌, ℕ, zero, suc, Bool, true, false, Some, List, [], ◌∷◌, ◌++◌, length, drop, get_or, refl, sym, ap, ap₂, subst, arith}
use Rattle.std.proofs.lemmas.List.{length-drop, length-map}
use Rattle.std.proofs.lemmas.Option.{slice_get_within}
use Rattle.std.specs.Prelude.{slice_get, bytes_eq, codes, All, ◌&&◌, if◌then◌else◌}
use Rattle.nq_logic.specs.Terms.{Name, Term, call}
use Rattle.nq_logic.specs.Words.{and_term, not_term}
use Rattle.nq_logic.specs.Histories.{History, Shell}
use Rattle.nq_logic.specs.ShellPrinciple.{shells_of}
use Rattle.nq_bank.specs.declared.node.TermId.{TermId}
use Rattle.nq_bank.specs.declared.shell.Shell.{Shell as ShellOfIds}
use Rattle.nq_bank.specs.Shells.{shell_at, shells_at}
use Rattle.nq_bank.specs.Content.{Content, Stands, term_at, terms_at}
use Rattle.nq_bank.proofs.Texts.{bytes_eq-true}
use Rattle.nq_kernel.specs.declared.work.Work.{Work}
use Rattle.nq_lines.specs.Lines.{LineHasOnly}
use Rattle.nq_proof.proofs.Tests.{and_left, and_right, names_same, some_same}
use Rattle.nq_types.specs.declared.sets.TypeSet.{TypeSet}
use Rattle.nq_types.specs.TypeSets.{all_of, denials, is_in, members, other_place, outsiders, recognized_by, recognizers}
use Rattle.nq_types.specs.Shown.{IsOneAmong, IsShown}
use Rattle.nq_types.specs.Outside.{HasBoth, IsNest, IsOneRecognizer, IsOutsiderAt, IsRecognizerAt, IsRest}
use Rattle.nq_types.proofs.JudgeLemmas.{among_ids, one_argument, only_term}

-- how many recognizers there are
pub shells_count : (h : History) (bank : Content) (shells : List ShellOfIds) → shells_at bank shells ≡ shells_of h → length shells ≡ length (shells_of h)
shells_count h bank shells same = sym (length-map shells (shell_at bank)) ∙ ap length same

pub recognizers_count : (h : History) (n : ℕ) → n ≡ length (shells_of h) → n + 2 ≡ length (recognizers h)
recognizers_count h n same = omega (arith, same, length-map (shells_of h) (λ (s : Shell). s.recognizer))

-- the arguments of a call stand
pub arguments_stand : (bank : Content) (t : TermId) (ids : List TermId) → Stands bank t → All (λ a. a.0 < t.0) ids → All (Stands bank) ids
arguments_stand bank t ids stands before = λ k d below. let first : (get_or ids k d).0 < t.0 = before k d below in omega (arith, first, stands)

-- an AND has two parts
pub two_parts : (bank : Content) (f : Name) (t : TermId) (ids : List TermId) (d : TermId) → term_at bank t ≡ call f (terms_at bank ids) → bytes_eq f (codes "AND") ≡ true → 2 ≤ length ids → length ids < 3 → All (λ a. a.0 < t.0) ids → HasBoth bank t (record { first = get_or ids 0 d; rest = get_or ids 1 d })
two_parts bank f t ids d is same least most before = by_ids ids refl
  where
    by_ids : (xs : List TermId) → ids ≡ xs → HasBoth bank t (record { first = get_or ids 0 d; rest = get_or ids 1 d })
    by_ids [] e = let short : length ids ≡ 0 = ap length e in absurd (omega arith)
    by_ids (a ∷ []) e = let short : length ids ≡ 1 = ap length e in absurd (omega arith)
    by_ids (a ∷ b ∷ []) e =
        record {
          whole = is ∙ ap (λ g. call g (terms_at bank ids)) (bytes_eq-true f (codes "AND") same) ∙ ap (λ xs. call (codes "AND") (terms_at bank xs)) e ∙ ap (λ xs. and_term (term_at bank (get_or xs 0 d)) (term_at bank (get_or xs 1 d))) (sym e);
          first = before 0 d (omega arith);
          rest = before 1 d (omega arith);
        }
    by_ids (a ∷ b ∷ (c ∷ xs)) e = let long : length ids ≡ suc (suc (suc (length xs))) = ap length e in absurd (omega arith)

-- the call of a recognizer that is at a bit, on one term
pub recognizer_told : (h : History) (bank : Content) (place : ℕ) (f : Name) (v : Term) (ts : List Term) (found : List TermId) (t : TermId) (named one : Bool) → v ≡ call f ts → terms_at bank found ≡ ts → (named ≡ true → slice_get (recognizers h) place ≡ Some f) → (one ≡ true → IsOneAmong found (t ∷ [])) → (named && one) ≡ true → IsRecognizerAt h place (term_at bank t) v
recognizer_told h bank place f v ts found t named one is parts at there e =
    let told : IsOneAmong found (t ∷ []) = there (and_right named one e) in
    let same : term_at bank told.one ≡ term_at bank t = only_term bank told.one t (among_ids bank told.one (t ∷ []) told.there) in
    record { name = f; at = at (and_left named one e); is = one_argument bank f v ts found (t ∷ []) is parts told ∙ ap (recognized_by f) same }

-- and its NOT
pub outsider_told : (h : History) (bank : Content) (place : ℕ) (f : Name) (v t : Term) (ts : List Term) (found : List TermId) (denies one : Bool) → v ≡ call f ts → terms_at bank found ≡ ts → denies ≡ bytes_eq f (codes "NOT") → (one ≡ true → IsOneRecognizer h place t (terms_at bank found)) → (denies && one) ≡ true → IsOutsiderAt h place t v
outsider_told h bank place f v t ts found denies one is parts named there e =
    let told : IsOneRecognizer h place t (terms_at bank found) = there (and_right denies one e) in
    let name : f ≡ codes "NOT" = names_same f (codes "NOT") (sym named ∙ and_left denies one e) in
    let whole : v ≡ not_term told.one = is ∙ ap₂ call name (sym parts ∙ told.only) in
    record { name = told.recognizes.name; at = told.recognizes.at; is = whole ∙ ap not_term told.recognizes.is }

-- the names from a place on begin with one
record StartsAt (rs : List Name) (k : ℕ) : Type 0 where
  name : Name
  is : drop k rs ≡ name ∷ drop (suc k) rs

starts_at : (rs : List Name) (k : ℕ) → k < length rs → StartsAt rs k
starts_at [] k below = absurd (omega (arith, below))
starts_at (r ∷ rs) zero below = record { name = r; is = refl }
starts_at (r ∷ rs) (suc k) below = let rest : StartsAt rs k = starts_at rs k (omega (arith, below)) in record { name = rest.name; is = rest.is }

name_at : (rs : List Name) (k : ℕ) (r : Name) → slice_get rs k ≡ Some r → drop k rs ≡ r ∷ drop (suc k) rs
name_at [] k r e = absurd cc
name_at (q ∷ rs) zero r e = let same : q ≡ r = some_same q r e in ap (λ (x : Name). x ∷ rs) same
name_at (q ∷ rs) (suc k) r e = name_at rs k r e

skipped : (set : ℕ → Bool) (place : ℕ) (r : Name) (rs : List Name) (t : Term) → set place ≡ true → outsiders set place (r ∷ rs) t ≡ outsiders set (suc place) rs t
skipped set place r rs t e = by_bit (set place) e
  where
    by_bit : (b : Bool) → b ≡ true → (if b then outsiders set (suc place) rs t else not_term (recognized_by r t) ∷ outsiders set (suc place) rs t) ≡ outsiders set (suc place) rs t
    by_bit true e = refl
    by_bit false e = absurd cc

kept : (set : ℕ → Bool) (place : ℕ) (r : Name) (rs : List Name) (t : Term) → set place ≡ false → outsiders set place (r ∷ rs) t ≡ not_term (recognized_by r t) ∷ outsiders set (suc place) rs t
kept set place r rs t e = by_bit (set place) e
  where
    by_bit : (b : Bool) → b ≡ false → (if b then outsiders set (suc place) rs t else not_term (recognized_by r t) ∷ outsiders set (suc place) rs t) ≡ not_term (recognized_by r t) ∷ outsiders set (suc place) rs t
    by_bit true e = absurd cc
    by_bit false e = refl

-- where all bits from a place on are in, no recognizer from there on is outside
none_from : (set : ℕ → Bool) (place : ℕ) (rs : List Name) (t : Term) → ((k : ℕ) → place ≤ k → k < place + length rs → set k ≡ true) → outsiders set place rs t ≡ []
none_from set place [] t all = refl
none_from set place (r ∷ rs) t all = skipped set place r rs t (all place (omega arith) (omega arith)) ∙ none_from set (suc place) rs t (λ k from below. all k (omega (arith, from)) (omega (arith, below)))

nest_more : (p : Term) (ps : List Term) (q : Term) (qs : List Term) → ps ≡ q ∷ qs → and_term p (all_of ps) ≡ all_of (p ∷ ps)
nest_more p [] q qs e = absurd cc
nest_more p (a ∷ more) q qs e = refl

module _ (h : History) (set from : ℕ) (t u : Term) where
  -- a bit that is in
  pub rest_in : from < length (recognizers h) → is_in set from ≡ true → IsRest h set (from + 1) t u → IsRest h set from t u
  rest_in below there rest =
      let rs : List Name = recognizers h in
      let next : from + 1 ≡ suc from = omega arith in
      let q : StartsAt rs from = starts_at rs from below in
      let same : outsiders (is_in set) from (drop from rs) t ≡ outsiders (is_in set) (suc from) (drop (suc from) rs) t = ap (λ ns. outsiders (is_in set) from ns t) q.is ∙ skipped (is_in set) from q.name (drop (suc from) rs) t there in
      let later : IsNest (outsiders (is_in set) (suc from) (drop (suc from) rs) t) u = subst (λ n. IsNest (outsiders (is_in set) n (drop n rs) t) u) next rest in
      subst (λ ps. IsNest ps u) (sym same) later

  outsider_first : (out : IsOutsiderAt h from t u) → is_in set from ≡ false → outsiders (is_in set) from (drop from (recognizers h)) t ≡ u ∷ outsiders (is_in set) (suc from) (drop (suc from) (recognizers h)) t
  outsider_first out absent =
      let rs : List Name = recognizers h in
      let later : List Term = outsiders (is_in set) (suc from) (drop (suc from) rs) t in
      ap (λ ns. outsiders (is_in set) from ns t) (name_at rs from out.name out.at) ∙ kept (is_in set) from out.name (drop (suc from) rs) t absent ∙ ap (λ p. p ∷ later) (sym out.is)

  -- the last bit that is out
  pub rest_last : is_in set from ≡ false → ((k : ℕ) → from + 1 ≤ k → k < length (recognizers h) → is_in set k ≡ true) → IsOutsiderAt h from t u → IsRest h set from t u
  rest_last absent full out =
      let rs : List Name = recognizers h in
      let within : from < length rs = slice_get_within rs from out.name out.at in
      let left : length (drop (suc from) rs) ≡ length rs - suc from = length-drop (suc from) rs in
      let none : outsiders (is_in set) (suc from) (drop (suc from) rs) t ≡ [] = none_from (is_in set) (suc from) (drop (suc from) rs) t (λ k least below. full k (omega (arith, least)) (omega (arith, below, left, within))) in
      let these : outsiders (is_in set) from (drop from rs) t ≡ u ∷ [] = outsider_first out absent ∙ ap (λ ps. u ∷ ps) none in
      subst (λ ps. IsNest ps u) (sym these) (record { first = u; more = []; some = refl; is = refl })

-- a bit that is out, before others
pub rest_more : (h : History) (set from : ℕ) (t u p q : Term) → is_in set from ≡ false → IsOutsiderAt h from t p → IsRest h set (from + 1) t q → u ≡ and_term p q → IsRest h set from t u
rest_more h set from t u p q absent out rest is =
    let rs : List Name = recognizers h in
    let next : from + 1 ≡ suc from = omega arith in
    let later : List Term = outsiders (is_in set) (suc from) (drop (suc from) rs) t in
    let tail : IsNest later q = subst (λ n. IsNest (outsiders (is_in set) n (drop n rs) t) q) next rest in
    let these : outsiders (is_in set) from (drop from rs) t ≡ p ∷ later = outsider_first h set from t p out absent in
    let nest : u ≡ all_of (p ∷ later) = is ∙ ap (and_term p) tail.is ∙ nest_more p later tail.first tail.more tail.some in
    subst (λ ps. IsNest ps u) (sym these) (record { first = p; more = later; some = refl; is = nest })

none_dropped : (rs : List Name) → drop 0 rs ≡ rs
none_dropped [] = refl
none_dropped (r ∷ rs) = refl

-- a line of such a literal and denials shows a set with other objects
pub outside_shown : (h : History) (work : Work) (assumed : List Term) (t u : Term) (r : TypeSet × ℕ) → is_in r.0.0 other_place ≡ true → IsRest h r.0.0 0 t u → LineHasOnly work r.1 (u ∷ denials assumed) → IsShown h work assumed t r
outside_shown h work assumed t u r other rest line = subst (λ ts. LineHasOnly work r.1 (ts ++ denials assumed)) (sym (by_other (is_in r.0.0 other_place) other)) line
  where
    nest : IsNest (outsiders (is_in r.0.0) 0 (recognizers h) t) u
    nest = subst (λ ns. IsNest (outsiders (is_in r.0.0) 0 ns t) u) (none_dropped (recognizers h)) rest

    by_other : (b : Bool) → b ≡ true → (if b then all_of (outsiders (is_in r.0.0) 0 (recognizers h) t) ∷ [] else members (is_in r.0.0) 0 (recognizers h) t) ≡ u ∷ []
    by_other true e = ap (λ v. v ∷ []) (sym nest.is)
    by_other false e = absurd cc
