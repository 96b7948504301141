-- X in the place of a term in the literal that says that what an accessor takes from the term is smaller.
use Rattle.std.proofs.Common.{◌≡◌, ◌≤◌, ◌+◌, ◌∙◌, ℕ, max, false, Some, List, [], ◌∷◌, ◌++◌, sym, ap, subst, inl, inr, arith}
use Rattle.std.specs.Prelude.{All, bytes_eq, codes}
use Rattle.nq_logic.specs.Terms.{Name, Term, Function, Applied, IsAmong}
use Rattle.nq_logic.specs.Words.{call1, equal_term, not_term}
use Rattle.nq_logic.specs.Sizes.{depth_of, depth_limit}
use Rattle.nq_bank.specs.declared.node.TermId.{TermId}
use Rattle.nq_bank.specs.Content.{IsIdOf, term_at}
use Rattle.nq_bank.specs.Soundness.{IsSound}
use Rattle.nq_bank.proofs.Numerals.{depth_of-other, number_of-call}
use Rattle.nq_bank.proofs.Standing.{All-push}
use Rattle.nq_proof.specs.Clauses.{Clause, distinct}
use Rattle.nq_proof.specs.Paths.{replaced_at}
use Rattle.nq_proof.specs.Rules.{Side, Forwards, Backwards, used_equation}
use Rattle.nq_proof.proofs.Tests.{some_same}
use Rattle.nq_arith.specs.Nests.{is_smaller}
use Rattle.nq_history.specs.declared.entry.Entry.{Entry}
use Rattle.nq_kernel.specs.declared.work.Work.{Work}
use Rattle.nq_kernel.specs.Growing.{WorkStands, WorkGrows, LineHolds}
use Rattle.nq_lines.specs.Lines.{AreAmong, CanReplace, IsTermIn, LineLeads, ReplacesTo}
use Rattle.nq_lines.proofs.LineLemmas.{among_either, from_distinct, leads_only, only_more}
use Rattle.nq_lines.proofs.TermLemmas.{same_term_grown}
use Rattle.nq_part_lines.specs.Known.{row_room}
use Rattle.nq_part_lines.specs.LawLines.{term_room}
use Rattle.nq_part_lines.specs.Replacing.{IsLowChange}
use Rattle.nq_part_lines.specs.Wholes.{IsTakenFrom, MovesTo}
use Rattle.nq_part_lines.proofs.CallLemmas.{one_depth}
use Rattle.nq_part_lines.proofs.LineLemmas.{line_shallow}
use Rattle.nq_part_lines.proofs.RoomLemmas.{two_low}
use Rattle.nq_part_lines.proofs.TermLemmas.{size_depth}
use Rattle.nq_part_lines.proofs.WholeLemmas.{other_replaced, taken_replaced}

-- the literals of a line with a replacement are not too deep
pub replaced_low : (history : List Entry) (work : Work) (line : ℕ) (side : Side) (first u : Term) (rest : Clause) (change : Term × Term) → IsSound work.bank → WorkStands history work → LineHolds work line (first ∷ rest) →
    (depth_of change.1 ≤ depth_limit) × (depth_of (not_term (equal_term change.0 u)) ≤ depth_limit) × (depth_of (not_term (equal_term u change.0)) ≤ depth_limit) →
    (v : Term) → IsAmong v (distinct (change.1 ∷ (rest ++ used_equation side change.0 u ∷ []))) → depth_of v ≤ depth_limit
replaced_low history work line side first u rest change sound stands holds low v m = by_place (from_distinct v (change.1 ∷ (rest ++ used_equation side change.0 u ∷ [])) m)
  where
    equation : (s : Side) → depth_of (used_equation s change.0 u) ≤ depth_limit
    equation Forwards = low.1
    equation Backwards = low.2

    by_place : IsAmong v (change.1 ∷ (rest ++ used_equation side change.0 u ∷ [])) → depth_of v ≤ depth_limit
    by_place (inl e) = subst (λ t. depth_of t ≤ depth_limit) (sym e) low.0
    by_place (inr k) =
        elim (among_either v rest (used_equation side change.0 u ∷ []) k) [
          | inl there ↦ line_shallow history work line (first ∷ rest) v sound stands holds (inr there)
          | inr last ↦ elim last [ inl e ↦ subst (λ t. depth_of t ≤ depth_limit) (sym e) (equation side) | inr none ↦ absurd none ]
        ]

-- a line begins with one literal
heads_same : (t u : Term) (c d : Clause) → Some (t ∷ c) ≡ Some (u ∷ d) → t ≡ u
heads_same t u c d e = cc

leads_same : (work : Work) (line : ℕ) (t u : Term) (these those : List Term) → LineLeads work line t these → LineLeads work line u those → t ≡ u
leads_same work line t u these those h k = heads_same t u h.rest k.rest (sym h.holds ∙ k.holds)

pub low_change : (work : Work) (line : ℕ) (path : List ℕ) (u first : Term) (these : List Term) (change : Term × Term) → LineLeads work line first these → replaced_at path u first ≡ Some change →
    (depth_of change.1 ≤ depth_limit) × (depth_of (not_term (equal_term change.0 u)) ≤ depth_limit) × (depth_of (not_term (equal_term u change.0)) ≤ depth_limit) → IsLowChange work line path u
low_change work line path u first these change leads changed low t those other k e =
    let one : first ≡ t = leads_same work line first t these those leads k in
    let same : change ≡ other = some_same change other (sym changed ∙ ap (replaced_at path u) one ∙ e) in
    subst (λ (c : Term × Term). (depth_of c.1 ≤ depth_limit) × (depth_of (not_term (equal_term c.0 u)) ≤ depth_limit) × (depth_of (not_term (equal_term u c.0)) ≤ depth_limit)) same low

-- how deep the terms are
smaller_is_deep : (t u : Term) → depth_of (is_smaller t u) ≡ max (depth_of t) (depth_of u) + 2
smaller_is_deep t u =
    let whole : depth_of (is_smaller t u) ≡ max (depth_of (call1 "COUNT" t)) (max (depth_of (call1 "COUNT" u)) 0) + 1 = depth_of-other (codes "LESSP") (call1 "COUNT" t ∷ call1 "COUNT" u ∷ []) (number_of-call (codes "LESSP") (call1 "COUNT" t ∷ call1 "COUNT" u ∷ [])) in
    let left = size_depth t in
    let right = size_depth u in
    omega (arith, whole, left, right)

pub denied_room : (t : Term) → depth_of t ≤ term_room → depth_of (not_term t) ≤ depth_limit
denied_room t h = let low = one_depth (codes "NOT") t in omega (arith, low, h)

pub opposites_low : (t : Term) → depth_of t ≤ term_room → (u : Term) → IsAmong u (distinct (t ∷ not_term t ∷ [])) → depth_of u ≤ depth_limit
opposites_low t h u m = by_place (from_distinct u (t ∷ not_term t ∷ []) m)
  where
    by_place : IsAmong u (t ∷ not_term t ∷ []) → depth_of u ≤ depth_limit
    by_place (inl e) = let same : depth_of u ≡ depth_of t = ap depth_of e in omega (arith, same, h)
    by_place (inr (inl e)) = subst (λ v. depth_of v ≤ depth_limit) (sym e) (denied_room t h)
    by_place (inr (inr none)) = absurd none

-- the NOT of a term after the work grew
pub denied_now : (history : List Entry) (old mid : Work) (t denied : TermId) → WorkGrows history old mid → IsTermIn history old t → IsIdOf mid.bank denied (not_term (term_at old.bank t)) → IsIdOf mid.bank denied (not_term (term_at mid.bank t))
denied_now history old mid t denied grows there is = subst (λ v. IsIdOf mid.bank denied (not_term v)) (sym (same_term_grown history old mid t grows there)) is

pub two_all : {X : Type 0} (P : X → Type 0) (x y : X) → P x → P y → All P (x ∷ y ∷ [])
two_all P x y h k = All-push P (x ∷ []) y (All-push P [] x (λ i d below. absurd (omega (arith, below))) h) k

denied_equal : (t u : Term) → depth_of t ≤ term_room → depth_of u ≤ term_room → depth_of (not_term (equal_term t u)) ≤ depth_limit
denied_equal t u h k =
    let inner = two_low (codes "EQUAL") t u term_room h k in
    let low = one_depth (codes "NOT") (equal_term t u) in
    omega (arith, low, inner)

pub smaller_room : (t u : Term) → depth_of t ≤ row_room → depth_of u ≤ row_room → depth_of (is_smaller t u) ≤ term_room
smaller_room t u h k = let deep = smaller_is_deep t u in omega (arith, deep, h, k)

module _ (f : Name) (c x : Term) (room : depth_of (is_smaller (Applied (Function f) c) c) ≤ term_room) (low : depth_of x ≤ row_room) where
  abbrev half : Term
  half = is_smaller (Applied (Function f) x) c

  abbrev both : Term
  both = is_smaller (Applied (Function f) x) x

  object_room : depth_of c ≤ term_room
  object_room = let deep = smaller_is_deep (Applied (Function f) c) c in omega (arith, deep, room)

  x_room : depth_of x ≤ term_room
  x_room = omega (arith, low)

  first_low : (depth_of half ≤ depth_limit) × (depth_of (not_term (equal_term c x)) ≤ depth_limit) × (depth_of (not_term (equal_term x c)) ≤ depth_limit)
  first_low =
      let one = one_depth f x in
      let object = object_room in
      let deep = smaller_is_deep (Applied (Function f) x) c in
      let little : depth_of half ≤ depth_limit = omega (arith, deep, one, object, low) in
      (little, denied_equal c x object_room x_room, denied_equal x c x_room object_room)

  second_low : (depth_of both ≤ depth_limit) × (depth_of (not_term (equal_term c x)) ≤ depth_limit) × (depth_of (not_term (equal_term x c)) ≤ depth_limit)
  second_low =
      let one = one_depth f x in
      let deep = smaller_is_deep (Applied (Function f) x) x in
      let little : depth_of both ≤ depth_limit = omega (arith, deep, one, low) in
      (little, denied_equal c x object_room x_room, denied_equal x c x_room object_room)

name_same : (f g : Name) (c d : Term) → Applied (Function f) c ≡ Applied (Function g) d → f ≡ g
name_same f g c d e = cc

object_same : (t u c d : Term) → is_smaller t c ≡ is_smaller u d → (t ≡ u) × (c ≡ d)
object_same t u c d e = (let both = e in cc, let both = e in cc)

-- the literals of the line with both replacements
moved_among : (a q d : Term) → AreAmong (a ∷ q ∷ q ∷ d ∷ []) (a ∷ d ∷ q ∷ [])
moved_among a q d v (inl e) = inl e
moved_among a q d v (inr (inl e)) = inr (inr (inl e))
moved_among a q d v (inr (inr (inl e))) = inr (inr (inl e))
moved_among a q d v (inr (inr (inr (inl e)))) = inr (inl e)
moved_among a q d v (inr (inr (inr (inr none)))) = absurd none

pub moves : (one two three : Work) (smaller x : Term) (opposites taken n : ℕ) → IsTakenFrom smaller → LineLeads one opposites smaller (not_term smaller ∷ []) → ReplacesTo one two opposites (1 ∷ 1 ∷ 1 ∷ []) x Forwards taken → ReplacesTo two three taken (2 ∷ 1 ∷ []) x Forwards n → MovesTo three smaller x n
moves one two three smaller x opposites taken n is leads first second f c e =
    let both = object_same (Applied (Function is.accessor) is.object) (Applied (Function f) c) is.object c (sym is.is ∙ e) in
    let name : is.accessor ≡ f = name_same is.accessor f is.object c both.0 in
    let other : bytes_eq f (codes "ADD1") ≡ false = subst (λ g. bytes_eq g (codes "ADD1") ≡ false) name is.other in
    let equation : Term = not_term (equal_term c x) in
    let middle : LineLeads two taken (is_smaller (Applied (Function f) x) c) (equation ∷ not_term smaller ∷ []) =
    first smaller (c, is_smaller (Applied (Function f) x) c) (not_term smaller ∷ []) leads (ap (replaced_at (1 ∷ 1 ∷ 1 ∷ []) x) e ∙ taken_replaced f c c x other) in
    let last : LineLeads three n (is_smaller (Applied (Function f) x) x) (equation ∷ equation ∷ not_term smaller ∷ []) =
    second (is_smaller (Applied (Function f) x) c) (c, is_smaller (Applied (Function f) x) x) (equation ∷ not_term smaller ∷ []) middle (other_replaced (Applied (Function f) x) c x) in
    only_more three n (is_smaller (Applied (Function f) x) x ∷ equation ∷ equation ∷ not_term smaller ∷ []) (is_smaller (Applied (Function f) x) x ∷ not_term smaller ∷ equation ∷ []) (moved_among (is_smaller (Applied (Function f) x) x) equation (not_term smaller)) (leads_only three n (is_smaller (Applied (Function f) x) x) (equation ∷ equation ∷ not_term smaller ∷ []) last)

-- both replacements can be made, and make no deep terms
module _ (smaller x : Term) (is : IsTakenFrom smaller) where
  abbrev accessor : Name
  accessor = is.accessor

  abbrev object : Term
  object = is.object

  pub can_first : (one : Work) (opposites : ℕ) → LineLeads one opposites smaller (not_term smaller ∷ []) → CanReplace one opposites (1 ∷ 1 ∷ 1 ∷ []) x
  can_first one opposites leads =
      record { first = smaller; these = not_term smaller ∷ []; leads = leads; change = (object, is_smaller (Applied (Function accessor) x) object); changed = ap (replaced_at (1 ∷ 1 ∷ 1 ∷ []) x) is.is ∙ taken_replaced accessor object object x is.other }

  middle_leads : (one two : Work) (opposites taken : ℕ) → LineLeads one opposites smaller (not_term smaller ∷ []) → ReplacesTo one two opposites (1 ∷ 1 ∷ 1 ∷ []) x Forwards taken → LineLeads two taken (is_smaller (Applied (Function accessor) x) object) (not_term (equal_term object x) ∷ not_term smaller ∷ [])
  middle_leads one two opposites taken leads replaced =
      replaced smaller (object, is_smaller (Applied (Function accessor) x) object) (not_term smaller ∷ []) leads (ap (replaced_at (1 ∷ 1 ∷ 1 ∷ []) x) is.is ∙ taken_replaced accessor object object x is.other)

  pub can_second : (one two : Work) (opposites taken : ℕ) → LineLeads one opposites smaller (not_term smaller ∷ []) → ReplacesTo one two opposites (1 ∷ 1 ∷ 1 ∷ []) x Forwards taken → CanReplace two taken (2 ∷ 1 ∷ []) x
  can_second one two opposites taken leads replaced =
      record {
        first = is_smaller (Applied (Function accessor) x) object;
        these = not_term (equal_term object x) ∷ not_term smaller ∷ [];
        leads = middle_leads one two opposites taken leads replaced;
        change = (object, is_smaller (Applied (Function accessor) x) x);
        changed = other_replaced (Applied (Function accessor) x) object x;
      }

  module _ (room : depth_of smaller ≤ term_room) (low : depth_of x ≤ row_room) where
    given_room : depth_of (is_smaller (Applied (Function accessor) object) object) ≤ term_room
    given_room = subst (λ t. depth_of t ≤ term_room) is.is room

    pub low_first : (one : Work) (opposites : ℕ) → LineLeads one opposites smaller (not_term smaller ∷ []) → IsLowChange one opposites (1 ∷ 1 ∷ 1 ∷ []) x
    low_first one opposites leads =
        low_change one opposites (1 ∷ 1 ∷ 1 ∷ []) x smaller (not_term smaller ∷ []) (object, is_smaller (Applied (Function accessor) x) object) leads (ap (replaced_at (1 ∷ 1 ∷ 1 ∷ []) x) is.is ∙ taken_replaced accessor object object x is.other) (first_low accessor object x given_room low)

    pub low_second : (one two : Work) (opposites taken : ℕ) → LineLeads one opposites smaller (not_term smaller ∷ []) → ReplacesTo one two opposites (1 ∷ 1 ∷ 1 ∷ []) x Forwards taken → IsLowChange two taken (2 ∷ 1 ∷ []) x
    low_second one two opposites taken leads replaced =
        low_change two taken (2 ∷ 1 ∷ []) x (is_smaller (Applied (Function accessor) x) object) (not_term (equal_term object x) ∷ not_term smaller ∷ []) (object, is_smaller (Applied (Function accessor) x) x) (middle_leads one two opposites taken leads replaced) (other_replaced (Applied (Function accessor) x) object x) (second_low accessor object x given_room low)
