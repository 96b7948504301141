-- Calls with values in the places of arguments.
use Rattle.std.proofs.Common.{◌≡◌, ◌≤◌, ◌<◌, ◌+◌, ℕ, zero, suc, Option, Some, None, true, false, List, [], ◌∷◌, length, get_or, refl, sym, ap, ap₂, ◌∙◌, subst, arith}
use Rattle.std.specs.Prelude.{All, slice_set, codes, is_some}
use Rattle.nq_logic.specs.Terms.{Name, Symbol, Term, Function, Applied, applied, call, Takes, Each}
use Rattle.nq_logic.specs.Words.{equal_term}
use Rattle.nq_logic.specs.Numerals.{number_of}
use Rattle.nq_logic.specs.Sizes.{depth_of, greatest_depth}
use Rattle.nq_logic.specs.Ground.{symbols_of}
use Rattle.nq_bank.specs.declared.node.TermId.{TermId}
use Rattle.nq_bank.specs.declared.node.Sym.{Sym}
use Rattle.nq_bank.specs.Content.{Content, text_at, term_at, terms_at}
use Rattle.nq_bank.proofs.Growth.{IsNamed-grown, text_at-grown}
use Rattle.nq_bank.proofs.NodesLemmas.{All-head, All-tail}
use Rattle.nq_bank.proofs.Numerals.{number_of-call, depth_of-other, depth_of-number}
use Rattle.nq_history.proofs.Lists.{All-cons}
use Rattle.nq_proof.specs.Paths.{around, in_argument, replaced_at}
use Rattle.nq_rule.proofs.PathLemmas.{in_argument-call}
use Rattle.nq_history.specs.declared.entry.Entry.{Entry}
use Rattle.nq_history.specs.Events.{events_at}
use Rattle.nq_kernel.specs.declared.work.Work.{Work}
use Rattle.nq_kernel.specs.Over.{IsVariable, VariablesAre, IsTermOf}
use Rattle.nq_kernel.specs.Growing.{WorkStands}
use Rattle.nq_fragments.specs.Outcomes.{term_depth}
use Rattle.nq_eval.specs.Lines.{GrowsUncounted}
use Rattle.nq_eval.specs.Gathered.{HasRoom}
use Rattle.nq_eval.specs.declared.reducing.Reduced.{Reduced}
use Rattle.nq_eval.specs.Reducing.{count, MayCall, IsReducing}
use Rattle.nq_eval.proofs.LineLemmas.{equates_grown}
use Rattle.nq_eval.proofs.ClosingLemmas.{usable_after, same_after, events_same}
use Rattle.nq_eval.proofs.EvaluationLemmas.{rooms_after, terms_after}

pub takes_call : (symbols : List Symbol) (t : Term) (us : List Term) → Takes symbols (applied t us) zero → Takes symbols t (count us)
takes_call symbols t [] h = h
takes_call symbols t (u ∷ us) h = (takes_call symbols (Applied t u) us h).0

call_takes : (symbols : List Symbol) (t : Term) (us : List Term) → Takes symbols t (count us) → VariablesAre IsVariable t → Each (IsTermOf IsVariable symbols) us → IsTermOf IsVariable symbols (applied t us)
call_takes symbols t [] h v each = record { over = h; variables = v }
call_takes symbols t (u ∷ us) h v each = call_takes symbols (Applied t u) us (h, each.0.over) (v, each.0.variables) each.1

depth_of_call : (f : Name) (ts : List Term) → depth_of (call f ts) ≤ greatest_depth ts + 1
depth_of_call f ts = by_number (number_of (call f ts)) refl
  where
    by_number : (o : Option ℕ) → number_of (call f ts) ≡ o → depth_of (call f ts) ≤ greatest_depth ts + 1
    by_number None e = let whole = depth_of-other f ts e in omega (arith, whole)
    by_number (Some n) e = let one = depth_of-number (call f ts) n e in omega (arith, one)

module _ (bank : Content) (history : List Entry) where
  greatest_room : (ids : List TermId) → All (HasRoom bank history) ids → greatest_depth (terms_at bank ids) < term_depth
  greatest_room [] all = omega arith
  greatest_room (a ∷ ids) all =
      let one = (All-head (HasRoom bank history) a ids all).room in
      let rest = greatest_room ids (All-tail (HasRoom bank history) a ids all) in
      omega (arith, one, rest)

  each_over : (ids : List TermId) → All (HasRoom bank history) ids → Each (IsTermOf IsVariable (symbols_of (events_at bank history))) (terms_at bank ids)
  each_over [] all = tt
  each_over (a ∷ ids) all = ((All-head (HasRoom bank history) a ids all).usable.over, each_over ids (All-tail (HasRoom bank history) a ids all))

  -- a call that may be made is over the history's functions, and not too deep
  pub may_over : (f : Sym) (ids : List TermId) → MayCall bank history f ids → IsTermOf IsVariable (symbols_of (events_at bank history)) (call (text_at bank f) (terms_at bank ids))
  may_over f ids may = call_takes (symbols_of (events_at bank history)) (Function (text_at bank f)) (terms_at bank ids) may.arity tt (each_over ids may.rooms)

  pub may_shallow : (f : Sym) (ids : List TermId) → MayCall bank history f ids → depth_of (call (text_at bank f) (terms_at bank ids)) ≤ term_depth
  may_shallow f ids may = let whole = depth_of_call (text_at bank f) (terms_at bank ids) in let few = greatest_room ids may.rooms in omega (arith, whole, few)

  count_set : (ids : List TermId) (i : ℕ) (a : TermId) → count (terms_at bank (slice_set ids i a)) ≡ count (terms_at bank ids)
  count_set [] i a = refl
  count_set (x ∷ ids) zero a = refl
  count_set (x ∷ ids) (suc i) a = ap suc (count_set ids i a)

  pub terms_set : (ids : List TermId) (i : ℕ) (a v : TermId) → get_or ids i v ≡ v → i < length ids → slice_set (terms_at bank (slice_set ids i a)) i (term_at bank v) ≡ terms_at bank ids
  terms_set [] i a v e below = absurd (omega arith)
  terms_set (x ∷ ids) zero a v e below = ap (λ w. term_at bank w ∷ terms_at bank ids) (sym e)
  terms_set (x ∷ ids) (suc i) a v e below = ap (λ ts. term_at bank x ∷ ts) (terms_set ids i a v e (omega arith))

  pub term_there : (ids : List TermId) (i : ℕ) (a : TermId) (d : Term) → i < length ids → get_or (terms_at bank (slice_set ids i a)) i d ≡ term_at bank a
  term_there [] i a d below = absurd (omega arith)
  term_there (x ∷ ids) zero a d below = refl
  term_there (x ∷ ids) (suc i) a d below = term_there ids i a d (omega arith)

  pub length_set : (ids : List TermId) (i : ℕ) (a : TermId) → length (terms_at bank (slice_set ids i a)) ≡ length ids
  length_set [] i a = refl
  length_set (x ∷ ids) zero a = ap suc (length_terms ids)
    where
      length_terms : (ids : List TermId) → length (terms_at bank ids) ≡ length ids
      length_terms [] = refl
      length_terms (x ∷ ids) = ap suc (length_terms ids)
  length_set (x ∷ ids) (suc i) a = ap suc (length_set ids i a)

  pub may_reset : (f : Sym) (ids : List TermId) (i : ℕ) (a v : TermId) → get_or ids i v ≡ v → HasRoom bank history v → MayCall bank history f (slice_set ids i a) → MayCall bank history f ids
  may_reset f ids i a v e room may =
      record {
        name = may.name;
        arity = subst (λ (n : ℕ). Takes (symbols_of (events_at bank history)) (Function (text_at bank f)) n) (count_set ids i a) may.arity;
        rooms = all_reset ids i may.rooms e;
      }
    where
      all_reset : (ids : List TermId) (i : ℕ) → All (HasRoom bank history) (slice_set ids i a) → get_or ids i v ≡ v → All (HasRoom bank history) ids
      all_reset [] i all e = all
      all_reset (x ∷ ids) zero all e = All-cons (HasRoom bank history) x ids (subst (HasRoom bank history) (sym e) room) (All-tail (HasRoom bank history) a ids all)
      all_reset (x ∷ ids) (suc i) all e = All-cons (HasRoom bank history) x ids (All-head (HasRoom bank history) x (slice_set ids i a) all) (all_reset ids i (All-tail (HasRoom bank history) x (slice_set ids i a) all) e)

  pub room_there : (ids : List TermId) (i : ℕ) (a : TermId) → i < length ids → All (HasRoom bank history) (slice_set ids i a) → HasRoom bank history a
  room_there [] i a below all = absurd (omega arith)
  room_there (x ∷ ids) zero a below all = All-head (HasRoom bank history) a ids all
  room_there (x ∷ ids) (suc i) a below all = room_there ids i a (omega arith) (All-tail (HasRoom bank history) x (slice_set ids i a) all)

-- what is put back, and what stands there already
pub set_back : (ids : List TermId) (i : ℕ) (a v : TermId) → get_or ids i a ≡ a → slice_set (slice_set ids i v) i a ≡ ids
set_back [] i a v e = refl
set_back (x ∷ ids) zero a v e = ap (λ y. y ∷ ids) (sym e)
set_back (x ∷ ids) (suc i) a v e = ap (λ ys. x ∷ ys) (set_back ids i a v e)

pub set_same : (ids : List TermId) (i : ℕ) (a : TermId) → get_or ids i a ≡ a → slice_set ids i a ≡ ids
set_same [] i a e = refl
set_same (x ∷ ids) zero a e = ap (λ y. y ∷ ids) (sym e)
set_same (x ∷ ids) (suc i) a e = ap (λ ys. x ∷ ys) (set_same ids i a e)

pub set_at : (ids : List TermId) (i : ℕ) (v : TermId) → i < length ids → get_or (slice_set ids i v) i v ≡ v
set_at [] i v below = absurd (omega arith)
set_at (x ∷ ids) zero v below = refl
set_at (x ∷ ids) (suc i) v below = set_at ids i v (omega arith)

pub set_length : (ids : List TermId) (i : ℕ) (v : TermId) → length (slice_set ids i v) ≡ length ids
set_length [] i v = refl
set_length (x ∷ ids) zero v = refl
set_length (x ∷ ids) (suc i) v = ap suc (set_length ids i v)

-- the argument of the right side of an equation is replaced
pub argument_put : (t v : Term) (f : Name) (ts : List Term) (i : ℕ) (d : Term) → i < length ts → number_of (call f ts) ≡ None → replaced_at (2 ∷ (i + 1) ∷ []) v (equal_term t (call f ts)) ≡ Some (get_or ts i d, equal_term t (call f (slice_set ts i v)))
argument_put t v f ts i d below plain =
    let one : i + 1 ≡ suc i = omega arith in
    let u : Term = call f ts in
    ap (λ n. replaced_at (2 ∷ n ∷ []) v (equal_term t u)) one ∙
    ap (λ o. elim (is_some o) as (λ b. Option (Term × Term)) [ true ↦ None | false ↦ in_argument 2 (replaced_at (suc i ∷ []) v) (equal_term t u) ]) (number_of-call (codes "EQUAL") (t ∷ u ∷ [])) ∙
    in_argument-call (replaced_at (suc i ∷ []) v) (codes "EQUAL") (t ∷ u ∷ []) 1 t (omega arith) ∙
    ap (λ o. around (λ w. equal_term t w) (elim (is_some o) as (λ b. Option (Term × Term)) [ true ↦ None | false ↦ in_argument (suc i) (replaced_at [] v) u ])) plain ∙
    ap (λ c. around (λ w. equal_term t w) c) (in_argument-call (replaced_at [] v) f ts i d below)

module _ (history : List Entry) (old new : Work) (stands : WorkStands history old) (grown : GrowsUncounted history old new) where
  pub call_after : (f : Sym) (ids : List TermId) → MayCall old.bank history f ids → call (text_at new.bank f) (terms_at new.bank ids) ≡ call (text_at old.bank f) (terms_at old.bank ids)
  call_after f ids may = ap₂ (λ g ts. call g ts) (text_at-grown old.bank new.bank f grown.grows.bank may.name) (terms_after history old new stands grown ids may.rooms)

  pub may_after : (f : Sym) (ids : List TermId) → MayCall old.bank history f ids → MayCall new.bank history f ids
  may_after f ids may =
      let events : events_at new.bank history ≡ events_at old.bank history = events_same history old new stands grown in
      let name : text_at new.bank f ≡ text_at old.bank f = text_at-grown old.bank new.bank f grown.grows.bank may.name in
      let terms : terms_at new.bank ids ≡ terms_at old.bank ids = terms_after history old new stands grown ids may.rooms in
      record { name = IsNamed-grown old.bank new.bank f grown.grows.bank may.name; arity = rw (events, name, terms) may.arity; rooms = rooms_after history old new stands grown ids may.rooms }

  pub reducing_after : (t : TermId) (f : Sym) (ids : List TermId) (r : Reduced) → IsReducing history old t f ids r → IsReducing history new t f ids r
  reducing_after t f ids r k =
      record {
        may = may_after f ids k.may;
        whole = usable_after history old new stands grown t k.whole;
        term = usable_after history old new stands grown r.term k.term;
        is = same_after history old new stands grown r.term k.term ∙ k.is ∙ sym (call_after f ids k.may);
        line = λ differs. equates_grown history old new r.line t r.term stands grown.grows k.whole k.term (k.line differs);
      }
