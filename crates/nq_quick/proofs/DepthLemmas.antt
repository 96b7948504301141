-- How deep propositions are, and clauses whose terms are not too deep.
use Rattle.std.proofs.Common.{◌≡◌, ◌<◌, ◌≤◌, ◌+◌, ℕ, Bool, true, false, max, Option, Some, None, List, [], ◌∷◌, refl, sym, ◌∙◌, subst, inl, inr, arith}
use Rattle.std.specs.Prelude.{codes, All}
use Rattle.std.specs.Option.{option_map}
use Rattle.nq_logic.specs.Terms.{Term, Function, IsAmong, Each}
use Rattle.nq_logic.specs.Words.{not_term, if_term, true_term, false_term}
use Rattle.nq_logic.specs.Sizes.{depth_of, depth_limit}
use Rattle.nq_bank.specs.declared.node.TermId.{TermId}
use Rattle.nq_bank.specs.Content.{Content, Stands, IsIdOf, term_at, terms_at}
use Rattle.nq_bank.specs.Soundness.{IsSound}
use Rattle.nq_bank.proofs.NodesLemmas.{All-head, All-tail}
use Rattle.nq_bank.proofs.Numerals.{number_of-call, depth_of-other}
use Rattle.nq_proof.specs.Clauses.{Clause}
use Rattle.nq_history.specs.declared.entry.Entry.{Entry}
use Rattle.nq_kernel.specs.declared.work.Work.{Work}
use Rattle.nq_kernel.specs.Lines.{ids_at}
use Rattle.nq_kernel.specs.Growing.{WorkStands, LineHolds}
use Rattle.nq_kernel.proofs.LogLemmas.{ids_stand}
use Rattle.nq_fragments.specs.declared.connective.Connective.{Connective}
use Rattle.nq_fragments.specs.declared.connective.Connective.TheVariants.{And, Or, Implies, Iff}
use Rattle.nq_quick.specs.Heads.{joined_term}
use Rattle.nq_quick.specs.Lines.{HasOnly, IsShallow, signed, denial}

pub depth_not : (t : Term) → depth_of (not_term t) ≡ depth_of t + 1
depth_not t =
    let whole : depth_of (not_term t) ≡ max (depth_of t) 0 + 1 = depth_of-other (codes "NOT") (t ∷ []) (number_of-call (codes "NOT") (t ∷ [])) in
    omega (arith, whole)

depth_if : (p x y : Term) → depth_of (if_term p x y) ≡ max (depth_of p) (max (depth_of x) (max (depth_of y) 0)) + 1
depth_if p x y = depth_of-other (codes "IF") (p ∷ x ∷ y ∷ []) (number_of-call (codes "IF") (p ∷ x ∷ y ∷ []))

depth_joined : (c : Connective) (p q : Term) → depth_of (joined_term c p q) ≡ max (depth_of p) (max (depth_of q) 0) + 1
depth_joined And p q = depth_of-other (codes "AND") (p ∷ q ∷ []) (number_of-call (codes "AND") (p ∷ q ∷ []))
depth_joined Or p q = depth_of-other (codes "OR") (p ∷ q ∷ []) (number_of-call (codes "OR") (p ∷ q ∷ []))
depth_joined Implies p q = depth_of-other (codes "IMPLIES") (p ∷ q ∷ []) (number_of-call (codes "IMPLIES") (p ∷ q ∷ []))
depth_joined Iff p q = depth_of-other (codes "IFF") (p ∷ q ∷ []) (number_of-call (codes "IFF") (p ∷ q ∷ []))

pub under_not_shallower : (p : Term) → depth_of p < depth_of (not_term p)
under_not_shallower p = let whole = depth_not p in omega (arith, whole)

pub test_shallower : (p x y : Term) → depth_of p < depth_of (if_term p x y)
test_shallower p x y = let whole = depth_if p x y in omega (arith, whole)

pub first_shallower : (p x y : Term) → depth_of x < depth_of (if_term p x y)
first_shallower p x y = let whole = depth_if p x y in omega (arith, whole)

pub second_shallower : (p x y : Term) → depth_of y < depth_of (if_term p x y)
second_shallower p x y = let whole = depth_if p x y in omega (arith, whole)

pub left_shallower : (c : Connective) (p q : Term) → depth_of p < depth_of (joined_term c p q)
left_shallower c p q = let whole = depth_joined c p q in omega (arith, whole)

pub right_shallower : (c : Connective) (p q : Term) → depth_of q < depth_of (joined_term c p q)
right_shallower c p q = let whole = depth_joined c p q in omega (arith, whole)

-- a NOT is shallow where there is room for it
pub not_shallow : (t : Term) → depth_of t < depth_limit → depth_of (not_term t) ≤ depth_limit
not_shallow t h = let whole = depth_not t in omega (arith, whole, h)

pub under_shallow : (t : Term) → depth_of (not_term t) ≤ depth_limit → depth_of t < depth_limit
under_shallow t h = let whole = depth_not t in omega (arith, whole, h)

pub denial_shallow : (b : Bool) (t : Term) → depth_of t < depth_limit → depth_of (denial b t) ≤ depth_limit
denial_shallow true t h = not_shallow t h
denial_shallow false t h = omega (arith, h)

pub signed_shallow : (b : Bool) (t : Term) → depth_of t ≤ depth_limit → (b ≡ false → depth_of t < depth_limit) → depth_of (signed b t) ≤ depth_limit
signed_shallow true t h k = h
signed_shallow false t h k = not_shallow t (k refl)

-- a term that stands is not too deep
pub stand_shallow : (bank : Content) (t : TermId) → IsSound bank → Stands bank t → depth_of (term_at bank t) ≤ depth_limit
stand_shallow bank t sound stands = sound.shallow t.0 (Function []) stands

pub id_shallow : (bank : Content) (t : TermId) (u : Term) → IsSound bank → IsIdOf bank t u → depth_of u ≤ depth_limit
id_shallow bank t u sound is = subst (λ v. depth_of v ≤ depth_limit) is.denotes (stand_shallow bank t sound is.stands)

pub ids_shallow : (bank : Content) (ids : List TermId) (u : Term) → IsSound bank → All (Stands bank) ids → IsAmong u (terms_at bank ids) → depth_of u ≤ depth_limit
ids_shallow bank [] u sound stand m = absurd m
ids_shallow bank (t ∷ ids) u sound stand (inl e) = subst (λ v. depth_of v ≤ depth_limit) (sym e) (stand_shallow bank t sound (All-head (Stands bank) t ids stand))
ids_shallow bank (t ∷ ids) u sound stand (inr m) = ids_shallow bank ids u sound (All-tail (Stands bank) t ids stand) m

-- a literal of a line is not too deep
pub line_shallow : (history : List Entry) (work : Work) (n : ℕ) (c : Clause) (u : Term) → IsSound work.bank → WorkStands history work → LineHolds work n c → IsAmong u c → depth_of u ≤ depth_limit
line_shallow history work n c u sound stands holds m = by_ids (ids_at work.log n) refl holds
  where
    by_ids : (o : Option (List TermId)) → ids_at work.log n ≡ o → option_map (terms_at work.bank) o ≡ Some c → depth_of u ≤ depth_limit
    by_ids None e h = absurd cc
    by_ids (Some ids) e h =
        let same : terms_at work.bank ids ≡ c = cc in
        ids_shallow work.bank ids u sound (ids_stand work.bank work.log n ids stands.log e) (subst (λ d. IsAmong u d) (sym same) m)

-- a clause whose literals are not too deep
pub all_shallow : (o : Option Clause) (c : Clause) → o ≡ Some c → ((u : Term) → IsAmong u c → depth_of u ≤ depth_limit) → IsShallow o
all_shallow o c e h =
    record {
      not_deep = λ deep.
          let same : deep.terms ≡ c = (let both : Some deep.terms ≡ Some c = sym deep.concluded ∙ e in cc) in
          let within : depth_of deep.deep.term ≤ depth_limit = h deep.deep.term (subst (λ d. IsAmong deep.deep.term d) same deep.deep.among) in
          omega (arith, within, deep.deep.deep);
    }

pub among_each : (P : Term → Type 0) (c : Clause) → Each P c → (u : Term) → IsAmong u c → P u
among_each P [] each u m = absurd m
among_each P (t ∷ c) each u (inl e) = subst P (sym e) each.0
among_each P (t ∷ c) each u (inr m) = among_each P c each.1 u m

pub each_shallow : (o : Option Clause) (c : Clause) → o ≡ Some c → Each (λ u. depth_of u ≤ depth_limit) c → IsShallow o
each_shallow o c e each = all_shallow o c e (among_each (λ u. depth_of u ≤ depth_limit) c each)

pub only_shallow : (o : Option Clause) (these : Clause) → HasOnly o these → Each (λ u. depth_of u ≤ depth_limit) these → IsShallow o
only_shallow o these h each = all_shallow o h.literals h.stands (λ u m. among_each (λ v. depth_of v ≤ depth_limit) these each u (h.only u m))

pub truth_shallow : depth_of true_term ≤ depth_limit
truth_shallow = let whole : depth_of true_term ≡ 1 = depth_of-other (codes "TRUE") [] (number_of-call (codes "TRUE") []) in omega (arith, whole)

pub falsity_shallow : depth_of (not_term false_term) ≤ depth_limit
falsity_shallow =
    let inner : depth_of false_term ≡ 1 = depth_of-other (codes "FALSE") [] (number_of-call (codes "FALSE") []) in
    let whole = depth_not false_term in
    omega (arith, inner, whole)

pub not_both : (n : ℕ) → n ≤ depth_limit → depth_limit < n → ⊥
not_both n h k = omega (arith, h, k)
