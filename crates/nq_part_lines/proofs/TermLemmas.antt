-- Terms that are made, and how deep they are.
use Rattle.std.proofs.Common.{◌≡◌, ◌≤◌, ◌<◌, ◌+◌, ℕ, max, List, [], ◌∷◌, sym, ap, ap₂, ◌∙◌, subst, arith}
use Rattle.std.specs.Prelude.{Result, Ok, Err, IfOk, OnErr, codes}
use Rattle.std.specs.declared.alloc.AllocError.{AllocError}
use Rattle.nq_logic.specs.Terms.{Term}
use Rattle.nq_logic.specs.Words.{call1, call2}
use Rattle.nq_logic.specs.Sizes.{depth_of, depth_limit}
use Rattle.nq_logic.proofs.Symbols.{count_symbol, lessp_symbol}
use Rattle.nq_bank.specs.declared.node.TermId.{TermId}
use Rattle.nq_bank.specs.Content.{Content, IsIdOf, Gives, Grows, term_at}
use Rattle.nq_bank.proofs.Numerals.{number_of-call, depth_of-other}
use Rattle.nq_bank.proofs.Growth.{Grows-refl, term_at-grown}
use Rattle.nq_history.specs.declared.entry.Entry.{Entry}
use Rattle.nq_history.specs.Events.{events_at}
use Rattle.nq_kernel.specs.declared.work.Work.{Work}
use Rattle.nq_arith.specs.Nests.{is_smaller}
use Rattle.nq_kernel.specs.Growing.{WorkGrows}
use Rattle.nq_lines.specs.Lines.{IsTermIn}
use Rattle.nq_lines.proofs.TermLemmas.{IsOver, same_term_grown}
use Rattle.nq_part_lines.specs.LawLines.{term_room}

pub not_both : (d : ℕ) → d ≤ depth_limit → depth_limit < d → ⊥
not_both d h k = absurd (omega arith)

pub size_depth : (t : Term) → depth_of (call1 "COUNT" t) ≡ depth_of t + 1
size_depth t =
    let whole : depth_of (call1 "COUNT" t) ≡ max (depth_of t) 0 + 1 = depth_of-other (codes "COUNT") (t ∷ []) (number_of-call (codes "COUNT") (t ∷ [])) in
    omega (arith, whole)

pub size_shallow : (t : Term) → depth_of t ≤ term_room → depth_of (call1 "COUNT" t) ≤ depth_limit
size_shallow t h = let whole = size_depth t in omega (arith, whole, h)

pub smaller_depth : (t u : Term) → depth_of t ≤ term_room → depth_of u ≤ term_room → depth_of (is_smaller t u) ≤ depth_limit
smaller_depth t u h k =
    let whole : depth_of (is_smaller t u) ≡ max (depth_of (call1 "COUNT" t)) (max (depth_of (call1 "COUNT" u)) 0) + 1 = depth_of-other (codes "LESSP") (call1 "COUNT" t ∷ call1 "COUNT" u ∷ []) (number_of-call (codes "LESSP") (call1 "COUNT" t ∷ call1 "COUNT" u ∷ [])) in
    let left = size_depth t in
    let right = size_depth u in
    omega (arith, whole, left, right, h, k)

module _ (history : List Entry) (work : Work) where
  pub size_over : (t : Term) → IsOver history work t → IsOver history work (call1 "COUNT" t)
  size_over t k = record { over = (count_symbol (events_at work.bank history), k.over); variables = (tt, k.variables) }

  pub smaller_over : (t u : Term) → IsOver history work t → IsOver history work u → IsOver history work (is_smaller t u)
  smaller_over t u k l =
      let a = size_over t k in
      let b = size_over u l in
      record { over = ((lessp_symbol (events_at work.bank history), a.over), b.over); variables = ((tt, a.variables), b.variables) }

-- the LESSP of two ids of COUNTs
pub sizes_same : (history : List Entry) (old one two : Work) (t u left right : TermId) → WorkGrows history old one → WorkGrows history one two → IsTermIn history old u →
    IsIdOf one.bank left (call1 "COUNT" (term_at old.bank t)) → IsIdOf two.bank right (call1 "COUNT" (term_at one.bank u)) → call2 "LESSP" (term_at two.bank left) (term_at two.bank right) ≡ is_smaller (term_at old.bank t) (term_at old.bank u)
sizes_same history old one two t u left right first second k l r =
    ap₂ (call2 "LESSP") (term_at-grown one.bank two.bank left second.bank l.stands ∙ l.denotes) (r.denotes ∙ ap (call1 "COUNT") (same_term_grown history old one u first k))

-- the bank after a variable was made
pub gives_grow : (old new : Content) (r : Result TermId AllocError) (t : Term) → IfOk r (λ id. Gives old new id t) → OnErr r (new ≡ old) → Grows old new
gives_grow old new (Ok id) t h k = h.grows
gives_grow old new (Err e) t h k = subst (Grows old) (sym k) (Grows-refl old)

pub gives_names : (old new : Content) (r : Result TermId AllocError) (t : Term) → IfOk r (λ id. Gives old new id t) → OnErr r (new ≡ old) → new.names ≡ old.names
gives_names old new (Ok id) t h k = h.names
gives_names old new (Err e) t h k = ap (λ (bank : Content). bank.names) k
