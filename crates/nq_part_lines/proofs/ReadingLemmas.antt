-- Arguments of small terms, and what is read from an equation of a size.
use Rattle.std.proofs.Common.{◌≡◌, ◌≤◌, ◌<◌, ◌-◌, ℕ, zero, suc, Bool, true, false, Option, Some, None, List, [], ◌∷◌, length, refl, sym, ap, ◌∙◌, subst, arith}
use Rattle.std.specs.Prelude.{slice_get, get_or, if◌then◌else◌, is_some, IsSome}
use Rattle.std.specs.Option.{option_map}
use Rattle.nq_logic.specs.Terms.{Term, Variable, Function, Applied, Each}
use Rattle.nq_logic.specs.Words.{call1, equal_term, if_term, zero_term, add1_term}
use Rattle.nq_logic.specs.Numerals.{number_of, is_numeral, next_number}
use Rattle.nq_logic.specs.Sizes.{depth_of, tree_depth}
use Rattle.nq_bank.specs.Parts.{parts_of, arguments_before}
use Rattle.nq_bank.specs.declared.node.TermId.{TermId}
use Rattle.nq_bank.specs.Content.{Content, term_at, terms_at}
use Rattle.nq_proof.specs.Clauses.{literal_at}
use Rattle.nq_proof.proofs.Tests.{none_is_not_some, some_same}
use Rattle.nq_history.specs.declared.entry.Entry.{Entry}
use Rattle.nq_kernel.specs.declared.work.Work.{Work}
use Rattle.nq_kernel.specs.Growing.{WorkStands, WorkGrows}
use Rattle.nq_lines.proofs.TermLemmas.{term_grown, same_term_grown}
use Rattle.nq_shell_parts.specs.Summands.{IsPlus, IsSum, left_of, right_of, summand}
use Rattle.nq_part_lines.specs.LawLines.{term_room}
use Rattle.nq_part_lines.specs.Pieces.{IsSizeEquation}
use Rattle.nq_part_lines.specs.Small.{IsSmallIn}

arguments_low : (d : ℕ) (t : Term) (others : List Term) → tree_depth t ≤ d → Each (λ u. depth_of u ≤ d) others → Each (λ u. depth_of u ≤ d) (arguments_before t others)
unfolding tree_depth
arguments_low d (Variable x) others h each = each
arguments_low d (Function f) others h each = each
arguments_low d (Applied t u) others h each = let head : tree_depth t ≤ d = omega (arith, h) in let part : depth_of u ≤ d = omega (arith, h) in arguments_low d t (u ∷ others) head (part, each)

each_got : (P : Term → Type 0) (ts : List Term) (k : ℕ) (a : Term) → Each P ts → slice_get ts k ≡ Some a → P a
each_got P [] k a each e = absurd (none_is_not_some a e)
each_got P (t ∷ ts) zero a each e = subst P (some_same t a e) each.0
each_got P (t ∷ ts) (suc k) a each e = each_got P ts k a each.1 e

literal_low : (d : ℕ) (ts : List Term) (place : ℕ) (a : Term) → Each (λ u. depth_of u ≤ d) ts → literal_at place ts ≡ Some a → depth_of a ≤ d
literal_low d ts zero a each e = absurd (none_is_not_some a e)
literal_low d ts (suc k) a each e = each_got (λ u. depth_of u ≤ d) ts k a each e

-- an argument is no deeper than the call
pub argument_low : (place : ℕ) (t a : Term) → literal_at place (parts_of t) ≡ Some a → depth_of a ≤ depth_of t
argument_low place t a e = by_number (is_numeral t) refl e
  where
    by_number : (b : Bool) → is_numeral t ≡ b → literal_at place (if b then [] else arguments_before t []) ≡ Some a → depth_of a ≤ depth_of t
    by_number true n k = literal_low (depth_of t) [] place a tt k
    by_number false n k =
        let whole : depth_of t ≡ tree_depth t = ap (λ b. if b then 1 else tree_depth t) n in
        let low : tree_depth t ≤ depth_of t = omega (arith, whole) in
        literal_low (depth_of t) (arguments_before t []) place a (arguments_low (depth_of t) t [] low tt) k

-- a small term stays one as the work grows
pub small_grown : (history : List Entry) (old new : Work) (t : TermId) → WorkStands history old → WorkGrows history old new → IsSmallIn history old t → IsSmallIn history new t
small_grown history old new t stands grows h =
    record { inside = term_grown history old new t stands grows h.inside; room = subst (λ u. depth_of u ≤ term_room) (sym (same_term_grown history old new t grows h.inside)) h.room }

-- the arguments of calls
pub equal_parts : (a b : Term) → parts_of (equal_term a b) ≡ a ∷ b ∷ []
unfolding number_of
equal_parts a b = refl

pub count_parts : (a : Term) → parts_of (call1 "COUNT" a) ≡ a ∷ []
unfolding number_of
count_parts a = refl

pub if_parts : (a b c : Term) → parts_of (if_term a b c) ≡ a ∷ b ∷ c ∷ []
unfolding number_of
if_parts a b c = refl

pub add1_parts : (a : Term) → number_of a ≡ None → parts_of (add1_term a) ≡ a ∷ []
unfolding number_of
add1_parts a none = ap (λ o. if is_some (next_number o) then [] else a ∷ []) none

pub plus_parts : (t : Term) → IsPlus t → parts_of t ≡ left_of t ∷ right_of t ∷ []
unfolding number_of
plus_parts t is = ap parts_of is

-- what stands at a place of a term whose arguments are known
pub there : (place : ℕ) (t u a : Term) (ts : List Term) → t ≡ u → parts_of u ≡ ts → literal_at place ts ≡ Some a → literal_at place (parts_of t) ≡ Some a
there place t u a ts e parts k = ap (λ v. literal_at place (parts_of v)) e ∙ ap (literal_at place) parts ∙ k

pub found : (place : ℕ) (t a b : Term) → literal_at place (parts_of t) ≡ Some a → literal_at place (parts_of t) ≡ Some b → b ≡ a
found place t a b e f = some_same b a (sym f ∙ e)

-- the one literal of a line
pub one_ids : (bank : Content) (o : Option (List TermId)) (t : Term) → option_map (terms_at bank) o ≡ Some (t ∷ []) → IsSome o
one_ids bank None t h = absurd cc
one_ids bank (Some ids) t h = refl

pub one_literal : (bank : Content) (ids : List TermId) (o : Option (List TermId)) (t : Term) → o ≡ Some ids → option_map (terms_at bank) o ≡ Some (t ∷ []) → terms_at bank ids ≡ t ∷ []
one_literal bank ids o t e h = let same : Some (terms_at bank ids) ≡ Some (t ∷ []) = subst (λ o. option_map (terms_at bank) o ≡ Some (t ∷ [])) e h in cc

pub one_length : (bank : Content) (ids : List TermId) (t : Term) → terms_at bank ids ≡ t ∷ [] → 0 < length ids
one_length bank [] t e = absurd cc
one_length bank (i ∷ ids) t e = omega arith

pub one_first : (bank : Content) (ids : List TermId) (t : Term) (d : TermId) → terms_at bank ids ≡ t ∷ [] → term_at bank (get_or ids 0 d) ≡ t
one_first bank [] t d e = absurd cc
one_first bank (i ∷ ids) t d e = cc

-- sums whose summand stands behind others, first among others, or alone
pub later_sum : (place more : ℕ) (t : Term) → 0 < place → IsSum place more t → IsPlus t × IsSum (place - 1) more (right_of t)
later_sum zero more t l is = absurd (omega (arith, l))
later_sum (suc k) more t l is = let e : suc k - 1 ≡ k = omega arith in (is.0, subst (λ n. IsSum n more (right_of t)) (sym e) is.1)

pub later_summand : (place more : ℕ) (t : Term) → 0 < place → summand (place - 1) more (right_of t) ≡ summand place more t
later_summand zero more t l = absurd (omega (arith, l))
later_summand (suc k) more t l = let e : suc k - 1 ≡ k = omega arith in ap (λ n. summand n more (right_of t)) e

pub first_sum : (place more : ℕ) (t : Term) → place ≤ 0 → 0 < more → IsSum place more t → IsPlus t
first_sum zero zero t l m is = absurd (omega (arith, m))
first_sum zero (suc more) t l m is = is
first_sum (suc k) more t l m is = absurd (omega (arith, l))

pub first_summand : (place more : ℕ) (t : Term) → place ≤ 0 → 0 < more → left_of t ≡ summand place more t
first_summand zero zero t l m = absurd (omega (arith, m))
first_summand zero (suc more) t l m = refl
first_summand (suc k) more t l m = absurd (omega (arith, l))

pub only_summand : (place more : ℕ) (t : Term) → place ≤ 0 → more ≤ 0 → t ≡ summand place more t
only_summand zero zero t l m = refl
only_summand zero (suc more) t l m = absurd (omega (arith, m))
only_summand (suc k) more t l m = absurd (omega (arith, l))

-- the arguments of a sum
pub left_there : (t : Term) → IsPlus t → literal_at 1 (parts_of t) ≡ Some (left_of t)
left_there t is = there 1 t t (left_of t) (left_of t ∷ right_of t ∷ []) refl (plus_parts t is) refl

pub right_there : (t : Term) → IsPlus t → literal_at 2 (parts_of t) ≡ Some (right_of t)
right_there t is = there 2 t t (right_of t) (left_of t ∷ right_of t ∷ []) refl (plus_parts t is) refl

-- what stands in an equation of a size
module _ (place more : ℕ) (e : Term) (v : IsSizeEquation place more e) where
  pub count_there : literal_at 1 (parts_of e) ≡ Some (call1 "COUNT" v.object)
  count_there = there 1 e (equal_term (call1 "COUNT" v.object) (add1_term v.sum)) (call1 "COUNT" v.object) (call1 "COUNT" v.object ∷ add1_term v.sum ∷ []) v.whole (equal_parts (call1 "COUNT" v.object) (add1_term v.sum)) refl

  pub successor_there : literal_at 2 (parts_of e) ≡ Some (add1_term v.sum)
  successor_there = there 2 e (equal_term (call1 "COUNT" v.object) (add1_term v.sum)) (add1_term v.sum) (call1 "COUNT" v.object ∷ add1_term v.sum ∷ []) v.whole (equal_parts (call1 "COUNT" v.object) (add1_term v.sum)) refl

  pub object_there : (count : Term) → count ≡ call1 "COUNT" v.object → literal_at 1 (parts_of count) ≡ Some v.object
  object_there count k = there 1 count (call1 "COUNT" v.object) v.object (v.object ∷ []) k (count_parts v.object) refl

  pub sum_there : (successor : Term) → successor ≡ add1_term v.sum → literal_at 1 (parts_of successor) ≡ Some v.sum
  sum_there successor k = there 1 successor (add1_term v.sum) v.sum (v.sum ∷ []) k (add1_parts v.sum v.plain) refl

  pub allowed_there : (size : Term) → size ≡ if_term v.allowed (call1 "COUNT" v.variable) zero_term → literal_at 1 (parts_of size) ≡ Some v.allowed
  allowed_there size k = there 1 size (if_term v.allowed (call1 "COUNT" v.variable) zero_term) v.allowed (v.allowed ∷ call1 "COUNT" v.variable ∷ zero_term ∷ []) k (if_parts v.allowed (call1 "COUNT" v.variable) zero_term) refl

  pub sized_there : (size : Term) → size ≡ if_term v.allowed (call1 "COUNT" v.variable) zero_term → literal_at 2 (parts_of size) ≡ Some (call1 "COUNT" v.variable)
  sized_there size k = there 2 size (if_term v.allowed (call1 "COUNT" v.variable) zero_term) (call1 "COUNT" v.variable) (v.allowed ∷ call1 "COUNT" v.variable ∷ zero_term ∷ []) k (if_parts v.allowed (call1 "COUNT" v.variable) zero_term) refl

  pub variable_there : (sized : Term) → sized ≡ call1 "COUNT" v.variable → literal_at 1 (parts_of sized) ≡ Some v.variable
  variable_there sized k = there 1 sized (call1 "COUNT" v.variable) v.variable (v.variable ∷ []) k (count_parts v.variable) refl
