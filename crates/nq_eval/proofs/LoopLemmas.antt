-- The arguments of a call, replaced by their values one after the other.
use Rattle.std.proofs.Common.{◌≡◌, ◌≤◌, ◌<◌, ◌+◌, ℕ, zero, suc, None, true, false, List, [], ◌∷◌, ◌++◌, length, get_or, take, drop, map, refl, sym, ap, ◌∙◌, subst, arith}
use Rattle.std.specs.Prelude.{All, slice_set}
use Rattle.std.proofs.lemmas.List.{take_all}
use Rattle.nq_logic.specs.Terms.{Name, Term, Function, call}
use Rattle.nq_logic.specs.Numerals.{number_of}
use Rattle.nq_logic.specs.Histories.{History}
use Rattle.nq_logic.specs.Ground.{symbols_of}
use Rattle.nq_bank.specs.declared.node.TermId.{TermId}
use Rattle.nq_bank.specs.declared.node.Sym.{Sym}
use Rattle.nq_bank.specs.Content.{Content, Stands, text_at, term_at, terms_at}
use Rattle.nq_bank.specs.Parts.{parts_of}
use Rattle.nq_bank.proofs.Numerals.{number_of-call}
use Rattle.nq_history.proofs.Lists.{All-cons, All-none}
use Rattle.nq_history.specs.declared.entry.Entry.{Entry}
use Rattle.nq_history.specs.Events.{events_at}
use Rattle.nq_kernel.specs.declared.work.Work.{Work}
use Rattle.nq_kernel.specs.Over.{IsVariable, IsTermOf}
use Rattle.nq_kernel.specs.Growing.{WorkStands}
use Rattle.nq_fragments.specs.Outcomes.{is_small}
use Rattle.nq_fragments.specs.Evaluation.{choice_of, on_values, outcome_within}
use Rattle.nq_eval.specs.Costs.{granted, inner}
use Rattle.nq_eval.specs.Lines.{IsUsable, GrowsUncounted}
use Rattle.nq_eval.specs.Heads.{IsOtherCall}
use Rattle.nq_eval.specs.declared.found.Known.{Known}
use Rattle.nq_eval.specs.declared.gathered.Values.{Values}
use Rattle.nq_eval.specs.declared.reducing.Reduced.{Reduced}
use Rattle.nq_eval.specs.Known.{IsKnown}
use Rattle.nq_eval.specs.Gathered.{HasRoom, AreKnown, AreReached, values_of, values_at}
use Rattle.nq_eval.specs.Reducing.{MayCall, IsReducing}
use Rattle.nq_eval.proofs.CostLemmas.{arguments_done}
use Rattle.nq_eval.proofs.ClosingLemmas.{same_after}
use Rattle.nq_eval.proofs.EvaluationLemmas.{take_more, each_known_after, each_takes_after, terms_after, other_after, large_after}
use Rattle.nq_eval.proofs.ReducingLemmas.{takes_call}

-- the call itself may be made
pub may_start : (bank : Content) (history : List Entry) (t : TermId) (f : Sym) (ids : List TermId) → IsUsable bank history t → IsOtherCall bank t f → terms_at bank ids ≡ parts_of (term_at bank t) → All (HasRoom bank history) ids → MayCall bank history f ids
may_start bank history t f ids usable head same rooms =
    let symbols = symbols_of (events_at bank history) in
    let whole : term_at bank t ≡ call (text_at bank f) (terms_at bank ids) = head.is ∙ ap (call (text_at bank f)) (sym same) in
    let over : IsTermOf IsVariable symbols (call (text_at bank f) (terms_at bank ids)) = subst (IsTermOf IsVariable symbols) whole usable.over in
    record { name = head.name; arity = takes_call symbols (Function (text_at bank f)) (terms_at bank ids) over.over; rooms = rooms }

pub known_length : (history : List Entry) (work : Work) (ids : List TermId) (ks : List Known) → AreKnown history work ids ks → length ks ≡ length ids
known_length history work [] [] known = refl
known_length history work [] (k ∷ ks) known = absurd known
known_length history work (t ∷ ids) [] known = absurd known
known_length history work (t ∷ ids) (k ∷ ks) known = ap suc (known_length history work ids ks known.1)

pub known_at : (history : List Entry) (work : Work) (ids : List TermId) (ks : List Known) (i : ℕ) (d : TermId) (e : Known) → AreKnown history work ids ks → i < length ids → IsKnown history work (get_or ids i d) (get_or ks i e)
known_at history work [] ks i d e known below = absurd (omega arith)
known_at history work (t ∷ ids) [] i d e known below = absurd known
known_at history work (t ∷ ids) (k ∷ ks) zero d e known below = known.0
known_at history work (t ∷ ids) (k ∷ ks) (suc i) d e known below = known_at history work ids ks i d e known.1 (omega arith)

pub values_are : (history : List Entry) (work : Work) (ids : List TermId) (ks : List Known) → AreKnown history work ids ks → All (λ v. is_small (term_at work.bank v) ≡ true) (values_of ks)
values_are history work [] [] known = All-none (λ v. is_small (term_at work.bank v) ≡ true)
values_are history work [] (k ∷ ks) known = absurd known
values_are history work (t ∷ ids) [] known = absurd known
values_are history work (t ∷ ids) (k ∷ ks) known = All-cons (λ v. is_small (term_at work.bank v) ≡ true) k.value (values_of ks) known.0.small (values_are history work ids ks known.1)

values_length : (ks : List Known) → length (values_of ks) ≡ length ks
values_length [] = refl
values_length (k ∷ ks) = ap suc (values_length ks)

values_get : (ks : List Known) (i : ℕ) (e : Known) (d : TermId) → i < length ks → get_or (values_of ks) i d ≡ (get_or ks i e).value
values_get [] i e d below = absurd (omega arith)
values_get (k ∷ ks) zero e d below = refl
values_get (k ∷ ks) (suc i) e d below = values_get ks i e d (omega arith)

take_set : (ids : List TermId) (i : ℕ) (v : TermId) → i < length ids → take (i + 1) (slice_set ids i v) ≡ take i ids ++ v ∷ []
take_set [] i v below = absurd (omega arith)
take_set (x ∷ ids) zero v below = refl
take_set (x ∷ ids) (suc i) v below =
    let same : suc i + 1 ≡ suc (i + 1) = omega arith in
    ap (λ n. take n (x ∷ slice_set ids i v)) same ∙ ap (λ xs. x ∷ xs) (take_set ids i v (omega arith))

drop_set : (ids : List TermId) (i : ℕ) (v : TermId) → drop (i + 1) (slice_set ids i v) ≡ drop (i + 1) ids
drop_set [] i v = refl
drop_set (x ∷ ids) zero v = refl
drop_set (x ∷ ids) (suc i) v =
    let same : suc i + 1 ≡ suc (i + 1) = omega arith in
    ap (λ n. drop n (x ∷ slice_set ids i v)) same ∙ drop_set ids i v ∙ ap (λ n. drop n (x ∷ ids)) (sym same)

drop_more : (ids : List TermId) (i : ℕ) → drop (i + 1) ids ≡ drop 1 (drop i ids)
drop_more ids zero = refl
drop_more [] (suc i) = let same : suc i + 1 ≡ suc (i + 1) = omega arith in ap (λ n. drop {A = TermId} n []) same
drop_more (x ∷ ids) (suc i) = let same : suc i + 1 ≡ suc (i + 1) = omega arith in ap (λ n. drop n (x ∷ ids)) same ∙ drop_more ids i

get_drop : (ids : List TermId) (i : ℕ) (d : TermId) → get_or ids i d ≡ get_or (drop i ids) 0 d
get_drop ids zero d = refl
get_drop [] (suc i) d = refl
get_drop (x ∷ ids) (suc i) d = get_drop ids i d

-- where the rest is untouched, the next argument is too
pub rest_at : (mixed ids : List TermId) (i : ℕ) (d : TermId) → drop i mixed ≡ drop i ids → get_or mixed i d ≡ get_or ids i d
rest_at mixed ids i d e = get_drop mixed i d ∙ ap (λ xs. get_or xs 0 d) e ∙ sym (get_drop ids i d)

pub done_more : (mixed : List TermId) (ks : List Known) (i : ℕ) (e : Known) → i < length mixed → i < length ks → take i mixed ≡ take i (values_of ks) → take (i + 1) (slice_set mixed i (get_or ks i e).value) ≡ take (i + 1) (values_of ks)
done_more mixed ks i e below few done =
    let v : TermId = (get_or ks i e).value in
    let count = values_length ks in
    take_set mixed i v below ∙ ap (λ xs. xs ++ v ∷ []) done ∙
    sym (take_more (values_of ks) i v (omega (arith, count, few)) ∙ ap (λ w. take i (values_of ks) ++ w ∷ []) (values_get ks i e v few))

pub rest_more : (mixed ids : List TermId) (i : ℕ) (v : TermId) → drop i mixed ≡ drop i ids → drop (i + 1) (slice_set mixed i v) ≡ drop (i + 1) ids
rest_more mixed ids i v e = drop_set mixed i v ∙ drop_more mixed i ∙ ap (λ xs. drop 1 xs) e ∙ sym (drop_more ids i)

-- a call of two arguments or more is no numeral
pub plain_more : (bank : Content) (f : Name) (ids : List TermId) → 2 ≤ length ids → number_of (call f (terms_at bank ids)) ≡ None
plain_more bank f [] h = absurd (omega arith)
plain_more bank f (a ∷ []) h = absurd (omega arith)
plain_more bank f (a ∷ b ∷ ids) h = number_of-call f (terms_at bank (a ∷ b ∷ ids))

-- all are replaced
pub all_done : (mixed : List TermId) (ks : List Known) (i n : ℕ) → length mixed ≡ n → length ks ≡ n → n ≤ i → take i mixed ≡ take i (values_of ks) → mixed ≡ values_of ks
all_done mixed ks i n one two h done =
    let count = values_length ks in
    sym (take_all i mixed (omega (arith, one, h))) ∙ done ∙ take_all i (values_of ks) (omega (arith, count, two, h))

module _ (history : List Entry) (old new : Work) (stands : WorkStands history old) (grown : GrowsUncounted history old new) (t : TermId) (f : Sym) (ids mixed : List TermId) (n left line : ℕ) (v : Values) (r : Reduced)
    (usable : IsUsable old.bank history t) (large : is_small (term_at old.bank t) ≡ false) (head : IsOtherCall old.bank t f) (same : terms_at old.bank ids ≡ parts_of (term_at old.bank t)) (rooms : All (HasRoom old.bank history) ids)
    (reached : AreReached history old ids n left v) (reducing : IsReducing history new t f mixed r) (done : mixed ≡ values_of v.known.items) where
  known_new : AreKnown history new ids v.known.items
  known_new = each_known_after history old new stands grown ids v.known.items rooms reached.known

  pub all_values : All (λ v. is_small (term_at new.bank v) ≡ true) mixed
  all_values = subst (λ (xs : List TermId). All (λ v. is_small (term_at new.bank v) ≡ true) xs) (sym done) (values_are history new ids v.known.items known_new)

  pub all_stand : All (Stands new.bank) mixed
  all_stand = λ i d below. (reducing.may.rooms i d below).usable.stands

  pub reduced_within : (m rest : ℕ) → outcome_within (events_at new.bank history) m (term_at new.bank t) rest ≡ granted v.calls v.nesting m rest (on_values (events_at new.bank history) (inner (events_at new.bank history) m) (term_at new.bank r.term))
  reduced_within m rest =
      let h : History = events_at new.bank history in
      let name : Name = text_at new.bank f in
      let ts : List Term = terms_at new.bank ids in
      let vs : List Term = values_at new.bank v.known.items in
      let other : IsOtherCall new.bank t f = other_after history old new stands grown t f usable head in
      let parts : ts ≡ parts_of (term_at new.bank t) = terms_after history old new stands grown ids rooms ∙ same ∙ ap parts_of (sym (same_after history old new stands grown t usable)) in
      let whole : term_at new.bank t ≡ call name ts = other.is ∙ ap (call name) (sym parts) in
      let choice : choice_of name (map (outcome_within h m) ts) ≡ None = ap (λ us. choice_of name (map (outcome_within h m) us)) parts ∙ other.other (outcome_within h m) in
      let term : call name vs ≡ term_at new.bank r.term = ap (λ xs. call name (terms_at new.bank xs)) (sym done) ∙ sym reducing.is in
      ap (λ u. outcome_within h m u rest) whole ∙
      arguments_done h name ts vs v.calls v.nesting m rest (each_takes_after history old new stands grown ids v.known.items v.calls v.nesting rooms reached.known reached.takes) (ap is_small (sym whole) ∙ large_after history old new stands grown t usable large) choice ∙
      ap (λ u. granted v.calls v.nesting m rest (on_values h (inner h m) u)) term
