-- Terms in which others took terms' places are over the same functions.
use Rattle.std.proofs.Common.{◌≡◌, ◌<◌, ℕ, zero, suc, Bool, true, false, List, [], ◌∷◌, length, map, get_or, refl, sym, subst, inl, inr, arith}
use Rattle.std.specs.Prelude.{All, ⊤, Vec}
use Rattle.std.specs.declared.alloc.Global.{Global}
use Rattle.nq_logic.specs.Terms.{Symbol, Term, Variable, Function, Applied, Takes, IsAmong}
use Rattle.nq_logic.specs.Ground.{symbols_of}
use Rattle.nq_bank.specs.declared.node.TermId.{TermId}
use Rattle.nq_bank.specs.Content.{Stands, term_at, terms_at}
use Rattle.nq_bank.proofs.NodesLemmas.{All-head, All-tail}
use Rattle.nq_proof.specs.Clauses.{Clause, same_term}
use Rattle.nq_history.specs.declared.entry.Entry.{Entry}
use Rattle.nq_history.specs.Events.{events_at}
use Rattle.nq_history.proofs.HistoryLemmas.{events_at-grown}
use Rattle.nq_kernel.specs.declared.work.Work.{Work}
use Rattle.nq_kernel.specs.Over.{IsVariable, VariablesAre, IsTermOf}
use Rattle.nq_kernel.specs.Growing.{WorkStands, WorkGrows}
use Rattle.nq_lines.specs.Lines.{IsTermIn}
use Rattle.nq_goals.specs.Replacing.{Exchange, exchanged, exchanged_for, exchanged_within}
use Rattle.nq_moves.proofs.ClosingLemmas.{IsInWork}

module _ (symbols : List Symbol) where
  abbrev IsIn : Term → Type 0
  IsIn t = IsTermOf IsVariable symbols t

  -- what takes the places is over the functions
  abbrev pub EachIn : Exchange → Type 0
  EachIn [] = ⊤
  EachIn (e ∷ es) = IsIn e.1 × EachIn es

  for_in : (es : Exchange) → EachIn es → (t other : Term) → IsIn other → IsIn (exchanged_for es t other)
  for_in [] each t other h = h
  for_in (e ∷ es) each t other h = by_test (same_term e.0 t) (for_in es each.1 t other h)
    where
      by_test : (b : Bool) → IsIn (exchanged_for es t other) → IsIn (elim b as (λ b. Term) [ true ↦ e.1 | false ↦ exchanged_for es t other ])
      by_test true later = each.0
      by_test false later = later

  abbrev IsRight : Exchange → Term → ℕ → Type 0
  IsRight es t n = Takes symbols (exchanged_within es t) n × VariablesAre IsVariable (exchanged_within es t)

  abbrev Stays : Exchange → Term → Type 0
  Stays es t = (n : ℕ) → Takes symbols t (suc n) → VariablesAre IsVariable t → IsRight es t (suc n)

  applied_in : (es : Exchange) (t u : Term) → Stays es t → (IsIn u → IsIn (exchanged es u)) → (n : ℕ) → Takes symbols (Applied t u) n → VariablesAre IsVariable (Applied t u) → IsRight es (Applied t u) n
  applied_in es t u left right n h k =
      let l = left n h.0 k.0 in
      let r = right (record { over = h.1; variables = k.1 }) in
      ((l.0, r.over), (l.1, r.variables))

  both_in : (es : Exchange) → EachIn es → (t : Term) → Stays es t × (IsIn t → IsIn (exchanged es t))
  both_in es each (Variable x) = (λ n h k. absurd h, λ h. for_in es each (Variable x) (Variable x) h)
  both_in es each (Function f) = (λ n h k. (h, k), λ h. for_in es each (Function f) (Function f) h)
  both_in es each (Applied t u) =
      let left = both_in es each t in
      let right = both_in es each u in (
        λ n h k. applied_in es t u left.0 right.1 (suc n) h k,
        λ h.
            let w = applied_in es t u left.0 right.1 zero h.over h.variables in
            for_in es each (Applied t u) (exchanged_within es (Applied t u)) (record { over = w.0; variables = w.1 }),
      )

  pub exchanged_in : (es : Exchange) → EachIn es → (t : Term) → IsIn t → IsIn (exchanged es t)
  exchanged_in es each t h = (both_in es each t).1 h

-- one term in another's place
pub one_exchanged_in : (history : List Entry) (work : Work) (a b t : Term) → IsInWork history work b → IsInWork history work t → IsInWork history work (exchanged ((a, b) ∷ []) t)
one_exchanged_in history work a b t into h = exchanged_in (symbols_of (events_at work.bank history)) ((a, b) ∷ []) (into, tt) t h

-- what was over the history's functions is so when work has grown
pub in_grown : (history : List Entry) (old new : Work) (t : Term) → WorkStands history old → WorkGrows history old new → IsInWork history old t → IsInWork history new t
in_grown history old new t stood grows h = subst (λ es. IsTermOf IsVariable (symbols_of es) t) (sym (events_at-grown old.bank new.bank grows.bank history stood.history.entries)) h

-- ids of terms that are in are in
module _ (history : List Entry) (work : Work) where
  pub ids_in : (ids : List TermId) → All (Stands work.bank) ids → ((t : Term) → IsAmong t (terms_at work.bank ids) → IsInWork history work t) → All (IsTermIn history work) ids
  ids_in [] stand each = λ k d below. absurd (omega (arith, below))
  ids_in (x ∷ ids) stand each = λ k d below. at_place (ids_in ids (All-tail (Stands work.bank) x ids stand) (λ t m. each t (inr m))) k d below
    where
      at_place : All (IsTermIn history work) ids → (k : ℕ) (d : TermId) → k < length (x ∷ ids) → IsTermIn history work (get_or (x ∷ ids) k d)
      at_place more zero d below = record { stands = All-head (Stands work.bank) x ids stand; over = each (term_at work.bank x) (inl refl) }
      at_place more (suc k) d below = more k d (omega (arith, below))

  -- each image is in
  pub mapped_in : (f : Term → Term) (c : Clause) → ((t : Term) → IsAmong t c → IsInWork history work (f t)) → (u : Term) → IsAmong u (map f c) → IsInWork history work u
  mapped_in f [] each u m = absurd m
  mapped_in f (t ∷ c) each u (inl e) = subst (IsInWork history work) (sym e) (each t (inl refl))
  mapped_in f (t ∷ c) each u (inr m) = mapped_in f c (λ v k. each v (inr k)) u m

  -- the goals of one child
  pub one_child_in : (children : List (Vec TermId Global)) (child : Vec TermId Global) → children ≡ child ∷ [] → All (IsTermIn history work) child.items → All (λ c. All (IsTermIn history work) c.items) children
  one_child_in children child is h = subst (All (λ (c : Vec TermId Global). All (IsTermIn history work) c.items)) (sym is) (λ k d below. at_place k d below)
    where
      at_place : (k : ℕ) (d : Vec TermId Global) → k < 1 → All (IsTermIn history work) (get_or (child ∷ []) k d).items
      at_place zero d below = h
      at_place (suc k) d below = absurd (omega (arith, below))
