-- Substitution, argument by argument.
use Rattle.std.proofs.Common.{◌≡◌, ℕ, zero, suc, ◌+◌, ◌<◌, ◌≤◌, Some, List, [], ◌∷◌, ◌++◌, length, get_or, take, drop, map, cond, refl, sym, ap, ◌∙◌, subst, inl, inr, arith}
use Rattle.std.specs.Prelude.{All, nat_eq, bytes_eq, codes}
use Rattle.std.specs.HashMap.{Updates}
use Rattle.std.proofs.lemmas.List.{take_all, at_drop_more, map_push, length-map, get_or-map}
use Rattle.nq_logic.specs.Terms.{Term, Function, Applied, applied, call, Substitution, substituted, value_at}
use Rattle.nq_logic.specs.Words.{numeral}
use Rattle.nq_bank.specs.declared.node.TermId.{TermId}
use Rattle.nq_bank.specs.declared.node.Sym.{Sym}
use Rattle.nq_logic.specs.Sizes.{depth_of, depth_limit}
use Rattle.nq_bank.specs.Parts.{parts_of}
use Rattle.nq_bank.specs.Content.{Content, text_at, term_at, terms_at, term_from, Stands, IsNamed, Grows, IsIdOf}
use Rattle.nq_bank.proofs.NodesLemmas.{All-head, All-tail}
use Rattle.nq_bank.proofs.ArgumentLemmas.{terms_from-take}
use Rattle.nq_bank.proofs.Standing.{id_grown}
use Rattle.nq_bank.proofs.DeepLemmas.{deep_argument}
use Rattle.nq_bank.proofs.Growth.{Stands-grown, IsNamed-grown, text_at-grown, term_at-grown, terms_at-grown}
use Rattle.nq_clause.specs.declared.substitution.Pair.{Pair}
use Rattle.nq_clause.specs.Substitution.{substitution_at, PairStands, Ids, HasIds}
use Rattle.nq_clause.proofs.Lookups.{kept_or_stood}

substituted-applied : (s : Substitution) (t : Term) (us : List Term) → substituted s (applied t us) ≡ applied (substituted s t) (map (substituted s) us)
substituted-applied s t [] = refl
substituted-applied s t (u ∷ us) = substituted-applied s (Applied t u) us

pub substituted-call : (s : Substitution) (f : List ℕ) (ts : List Term) → substituted s (call f ts) ≡ call f (map (substituted s) ts)
substituted-call s f ts = substituted-applied s (Function f) ts

pub substituted-numeral : (s : Substitution) (n : ℕ) → substituted s (numeral n) ≡ numeral n
unfolding numeral
substituted-numeral s zero = refl
substituted-numeral s (suc n) = ap (Applied (Function (codes "ADD1"))) (substituted-numeral s n)

-- the first pair that is left, and then the others
pub value_at-more : (bank : Content) (pairs : List Pair) (x : List ℕ) (i : ℕ) (d : Pair) → i < length pairs → value_at (substitution_at bank (drop i pairs)) x ≡ cond (bytes_eq x (text_at bank (get_or pairs i d).variable)) (term_at bank (get_or pairs i d).term) (value_at (substitution_at bank (drop (i + 1) pairs)) x)
value_at-more bank pairs x i d h = at_drop_more (λ ps. value_at (substitution_at bank ps) x) pairs i d h

-- pairs mean the same in a bank that grew
pub substitution_at-grown : (old new : Content) (pairs : List Pair) → Grows old new → All (PairStands old) pairs → substitution_at new pairs ≡ substitution_at old pairs
substitution_at-grown old new [] h k = refl
substitution_at-grown old new (p ∷ pairs) h k =
    let here : PairStands old p = All-head (PairStands old) p pairs k in
    let text = text_at-grown old new p.variable h here.variable in
    let term = term_at-grown old new p.term h here.term in
    let rest = substitution_at-grown old new pairs h (All-tail (PairStands old) p pairs k) in
    rw (text, term, rest) refl

pub pairs_grown : (old new : Content) (pairs : List Pair) → Grows old new → All (PairStands old) pairs → All (PairStands new) pairs
pairs_grown old new pairs h k = λ i d below. let here = k i d below in record { variable = IsNamed-grown old new (get_or pairs i d).variable h here.variable; term = Stands-grown old new (get_or pairs i d).term h here.term }

pub ids_grown : (old new : Content) (s : Substitution) (known : Ids) → Grows old new → HasIds old s known → HasIds new s known
ids_grown old new s known h k =
    record {
      stands = λ t id found. Stands-grown old new t h (k.stands t id found);
      right = λ t id found. id_grown old new id (substituted s (term_at new t)) h (subst (λ u. IsIdOf old id (substituted s u)) (sym (term_at-grown old new t h (k.stands t id found))) (k.right t id found));
    }

-- an id that is kept is right
pub ids_kept : (bank : Content) (s : Substitution) (old new : Ids) (t id : TermId) → HasIds bank s old → Updates nat_eq old new t.0 (Some id) → Stands bank t → IsIdOf bank id (substituted s (term_at bank t)) → HasIds bank s new
ids_kept bank s old new t id h updates stands is =
    record {
      stands = λ q r found.
          elim (kept_or_stood old new t.0 q.0 id r updates found) [
            | inl here ↦ subst (λ k. k < length bank.terms) here.0 stands
            | inr there ↦ h.stands q r there
          ];
      right = λ q r found.
          elim (kept_or_stood old new t.0 q.0 id r updates found) [
            | inl here ↦ subst (λ r'. IsIdOf bank r' (substituted s (term_at bank q))) here.1 (subst (λ k. IsIdOf bank id (substituted s (term_at bank (record { 0 = k })))) here.0 is)
            | inr there ↦ h.right q r there
          ];
    }

-- what a step of the loop knows: the bank grew from old to bank, and the next argument makes it new
pub record IsStep (old bank new : Content) (pairs : List Pair) (ids parts : List TermId) (i : ℕ) : Type 0 where
  pub before : Grows old bank
  pub after : Grows bank new
  pub stand : All (Stands bank) parts
  pub arguments : All (Stands old) ids
  pub standing : All (PairStands old) pairs
  pub below : i < length ids
  pub done : terms_at bank parts ≡ map (substituted (substitution_at old pairs)) (terms_at old (take i ids))

-- the argument of the step, replaced, is the same term in the bank that grew
pub argument_same : (old bank new : Content) (pairs : List Pair) (ids parts : List TermId) (i : ℕ) (d : TermId) → IsStep old bank new pairs ids parts i → substituted (substitution_at bank pairs) (term_at bank (get_or ids i d)) ≡ substituted (substitution_at old pairs) (term_at old (get_or ids i d))
argument_same old bank new pairs ids parts i d step =
    ap (λ s. substituted s (term_at bank (get_or ids i d))) (substitution_at-grown old bank pairs step.before step.standing) ∙
    ap (substituted (substitution_at old pairs)) (term_at-grown old bank (get_or ids i d) step.before (step.arguments i d step.below))

-- one more argument is replaced
pub replaced_step : (old bank new : Content) (pairs : List Pair) (ids parts : List TermId) (i : ℕ) (d part : TermId) → IsStep old bank new pairs ids parts i → IsIdOf new part (substituted (substitution_at bank pairs) (term_at bank (get_or ids i d))) → terms_at new (parts ++ part ∷ []) ≡ map (substituted (substitution_at old pairs)) (terms_at old (take (i + 1) ids))
replaced_step old bank new pairs ids parts i d part step id =
    let s : Substitution = substitution_at old pairs in
    let here : term_at new part ≡ substituted s (term_at old (get_or ids i d)) = id.denotes ∙ argument_same old bank new pairs ids parts i d step in
    let were : terms_at new parts ≡ map (substituted s) (terms_at old (take i ids)) = terms_at-grown bank new parts step.after step.stand ∙ step.done in
    let so_far : terms_at new (parts ++ part ∷ []) ≡ map (substituted s) (terms_at old (take i ids)) ++ substituted s (term_at old (get_or ids i d)) ∷ [] =
    map_push (term_from new.terms) parts part ∙ ap (λ ts. ts ++ term_at new part ∷ []) were ∙ ap (λ t. map (substituted s) (terms_at old (take i ids)) ++ t ∷ []) here in
    so_far ∙ sym (ap (map (substituted s)) (terms_from-take old.terms ids i d step.below) ∙ map_push (substituted s) (terms_at old (take i ids)) (term_at old (get_or ids i d)))

-- arguments of a term that stands stand too
pub arguments_stand : (bank : Content) (t : TermId) (told copy ids : List TermId) → Stands bank t → All (λ a. a.0 < t.0) told → copy ≡ told → ids ≡ copy → All (Stands bank) ids
arguments_stand bank t told copy ids stands earlier same as_copied =
    let all : All (Stands bank) told = λ k d below. let less : (get_or told k d).0 < t.0 = earlier k d below in omega (arith, less, stands) in
    subst (All (Stands bank)) (sym (as_copied ∙ same)) all

-- a call of the arguments, all replaced, is the whole, replaced
pub replaced_call : (s : Substitution) (old bank : Content) (term : Term) (f : List ℕ) (told ids parts : List TermId) (i : ℕ) → term ≡ call f (parts_of term) → terms_at old told ≡ parts_of term → ids ≡ told → length ids ≤ i → terms_at bank parts ≡ map (substituted s) (terms_at old (take i ids)) → call f (terms_at bank parts) ≡ substituted s term
replaced_call s old bank term f told ids parts i is tells same all done =
    let whole : terms_at bank parts ≡ map (substituted s) (parts_of term) =
    done ∙ ap (λ xs. map (substituted s) (terms_at old xs)) (take_all i ids all ∙ same) ∙ ap (map (substituted s)) tells in
    ap (call f) whole ∙ sym (substituted-call s f (parts_of term)) ∙ ap (substituted s) (sym is)

-- a term with an argument that is too deep when replaced is too deep when replaced
pub deep_replaced : (s : Substitution) (old : Content) (term : Term) (f : List ℕ) (told ids : List TermId) (i : ℕ) (d : TermId) → term ≡ call f (parts_of term) → terms_at old told ≡ parts_of term → ids ≡ told → i < length ids → depth_limit < depth_of (substituted s (term_at old (get_or ids i d))) → depth_limit < depth_of (substituted s term)
deep_replaced s old term f told ids i d is tells same below deep =
    let ts : List Term = map (substituted s) (terms_at old ids) in
    let count : length ts ≡ length ids = length-map (terms_at old ids) (substituted s) ∙ length-map ids (term_from old.terms) in
    let at : get_or ts i (Function []) ≡ substituted s (term_at old (get_or ids i d)) =
    get_or-map (substituted s) (terms_at old ids) i (term_at old d) (Function []) (omega (arith, below, length-map ids (term_from old.terms))) ∙ ap (substituted s) (get_or-map (term_from old.terms) ids i d (term_at old d) below) in
    let whole : call f ts ≡ substituted s term =
    ap (λ xs. call f (map (substituted s) xs)) (ap (terms_at old) same ∙ tells) ∙ sym (substituted-call s f (parts_of term)) ∙ ap (substituted s) (sym is) in
    subst (λ t. depth_limit < depth_of t) whole (deep_argument f ts i (Function []) (omega (arith, count, below)) (subst (λ t. depth_limit < depth_of t) (sym at) deep))

-- the same, in a bank that grew
pub whole_call : (s : Substitution) (old bank : Content) (term : Term) (f : Sym) (told ids parts given : List TermId) (i : ℕ) → Grows old bank → IsNamed old f → term ≡ call (text_at old f) (parts_of term) → terms_at old told ≡ parts_of term → ids ≡ told → length ids ≤ i → terms_at bank parts ≡ map (substituted s) (terms_at old (take i ids)) → given ≡ parts → call (text_at bank f) (terms_at bank given) ≡ substituted s term
whole_call s old bank term f told ids parts given i grows named is tells same all done as_given =
    ap (λ x. call x (terms_at bank given)) (text_at-grown old bank f grows named) ∙
    ap (λ xs. call (text_at old f) (terms_at bank xs)) as_given ∙
    replaced_call s old bank term (text_at old f) told ids parts i is tells same all done
