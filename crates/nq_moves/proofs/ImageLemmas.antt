-- Images of terms, argument by argument.
use Rattle.std.proofs.Common.{◌≡◌, ℕ, ◌+◌, ◌<◌, ◌≤◌, Bool, true, false, Option, Some, None, List, [], ◌∷◌, ◌++◌, length, get_or, take, drop, map, refl, sym, ap, ◌∙◌, subst, inl, inr}
use Rattle.std.specs.Prelude.{All, nat_eq, MatchOption}
use Rattle.std.specs.HashMap.{Updates}
use Rattle.std.proofs.lemmas.List.{take_all, map_push, at_drop_more, at_drop_all}
use Rattle.nq_logic.specs.Terms.{Term, call}
use Rattle.nq_bank.specs.declared.node.TermId.{TermId}
use Rattle.nq_bank.specs.declared.node.Sym.{Sym}
use Rattle.nq_bank.specs.Parts.{parts_of}
use Rattle.nq_bank.specs.Content.{Content, text_at, term_at, terms_at, term_from, Stands, IsNamed, Grows, IsIdOf}
use Rattle.nq_bank.proofs.NodesLemmas.{All-head, All-tail}
use Rattle.nq_bank.proofs.ArgumentLemmas.{terms_from-take}
use Rattle.nq_bank.proofs.Standing.{id_grown}
use Rattle.nq_bank.proofs.Growth.{Stands-grown, text_at-grown, term_at-grown, terms_at-grown}
use Rattle.nq_clause.specs.Substitution.{Ids}
use Rattle.nq_clause.proofs.Lookups.{kept_or_stood}
use Rattle.nq_proof.specs.Clauses.{same_term}
use Rattle.nq_goals.specs.Replacing.{Exchange, exchanged, exchanged_for, exchanged_within}
use Rattle.nq_moves.specs.declared.exchanging.Exchanging.{Exchanging}
use Rattle.nq_moves.specs.Exchanging.{exchange_at, ExchangeStands, HasImages, StandsFor, Stays}
use Rattle.nq_moves.proofs.SoFarLemmas.{exchanged-call}

pub exchange_grown : (old new : Content) (es : List Exchanging) → Grows old new → All (ExchangeStands old) es → exchange_at new es ≡ exchange_at old es
exchange_grown old new [] h k = refl
exchange_grown old new (e ∷ es) h k =
    let here : ExchangeStands old e = All-head (ExchangeStands old) e es k in
    let rest = exchange_grown old new es h (All-tail (ExchangeStands old) e es k) in
    ap (λ t. (t, term_at new e.into) ∷ exchange_at new es) (term_at-grown old new e.from h here.from) ∙
    ap (λ t. (term_at old e.from, t) ∷ exchange_at new es) (term_at-grown old new e.into h here.into) ∙ ap (λ xs. (term_at old e.from, term_at old e.into) ∷ xs) rest

pub exchange_stands_grown : (old new : Content) (es : List Exchanging) → Grows old new → All (ExchangeStands old) es → All (ExchangeStands new) es
exchange_stands_grown old new es h k = λ i d below. let here = k i d below in record { from = Stands-grown old new (get_or es i d).from h here.from; into = Stands-grown old new (get_or es i d).into h here.into }

pub images_grown : (old new : Content) (X : Term → Term) (known : Ids) → Grows old new → HasImages old X known → HasImages new X known
images_grown old new X known h k =
    record {
      stands = λ t id found. Stands-grown old new t h (k.stands t id found);
      right = λ t id found. id_grown old new id (X (term_at new t)) h (subst (λ u. IsIdOf old id (X u)) (sym (term_at-grown old new t h (k.stands t id found))) (k.right t id found));
    }

pub images_kept : (bank : Content) (X : Term → Term) (old new : Ids) (t id : TermId) → HasImages bank X old → Updates nat_eq old new t.0 (Some id) → Stands bank t → IsIdOf bank id (X (term_at bank t)) → HasImages bank X new
images_kept bank X old new t id h updates stands is =
    record {
      stands = λ q r found.
          elim (kept_or_stood old new t.0 q.0 id r updates found) [
            | inl here ↦ subst (λ k. k < length bank.terms) here.0 stands
            | inr there ↦ h.stands q r there
          ];
      right = λ q r found.
          elim (kept_or_stood old new t.0 q.0 id r updates found) [
            | inl here ↦ subst (λ r'. IsIdOf bank r' (X (term_at bank q))) here.1 (subst (λ k. IsIdOf bank id (X (term_at bank (record { 0 = k })))) here.0 is)
            | inr there ↦ h.right q r there
          ];
    }

-- one more argument
pub image_step : (old bank new : Content) (X : Term → Term) (ids parts : List TermId) (i : ℕ) (d part : TermId) → Grows old bank → Grows bank new → All (Stands bank) parts → All (Stands old) ids → i < length ids → terms_at bank parts ≡ map X (terms_at old (take i ids)) → IsIdOf new part (X (term_at bank (get_or ids i d))) → terms_at new (parts ++ part ∷ []) ≡ map X (terms_at old (take (i + 1) ids))
image_step old bank new X ids parts i d part before after stand arguments below done id =
    let here : term_at new part ≡ X (term_at old (get_or ids i d)) = id.denotes ∙ ap X (term_at-grown old bank (get_or ids i d) before (arguments i d below)) in
    let were : terms_at new parts ≡ map X (terms_at old (take i ids)) = terms_at-grown bank new parts after stand ∙ done in
    let so_far : terms_at new (parts ++ part ∷ []) ≡ map X (terms_at old (take i ids)) ++ X (term_at old (get_or ids i d)) ∷ [] =
    map_push (term_from new.terms) parts part ∙ ap (λ ts. ts ++ term_at new part ∷ []) were ∙ ap (λ t. map X (terms_at old (take i ids)) ++ t ∷ []) here in
    so_far ∙ sym (ap (map X) (terms_from-take old.terms ids i d below) ∙ map_push X (terms_at old (take i ids)) (term_at old (get_or ids i d)))

-- a call that is none of the exchanged terms is exchanged when its arguments are
pub image_call : (es : Exchange) (old bank : Content) (term : Term) (f : Sym) (told ids parts given : List TermId) (i : ℕ) → Grows old bank → IsNamed old f → term ≡ call (text_at old f) (parts_of term) → terms_at old told ≡ parts_of term → ids ≡ told → length ids ≤ i → terms_at bank parts ≡ map (exchanged es) (terms_at old (take i ids)) → given ≡ parts → exchanged es term ≡ exchanged_within es term → call (text_at bank f) (terms_at bank given) ≡ exchanged es term
image_call es old bank term f told ids parts given i grows named is tells same all done as_given stays =
    let whole : terms_at bank parts ≡ map (exchanged es) (parts_of term) =
    done ∙ ap (λ xs. map (exchanged es) (terms_at old xs)) (take_all i ids all ∙ same) ∙ ap (map (exchanged es)) tells in
    ap (λ x. call x (terms_at bank given)) (text_at-grown old bank f grows named) ∙
    ap (λ xs. call (text_at old f) (terms_at bank xs)) as_given ∙
    ap (call (text_at old f)) whole ∙ sym (exchanged-call es (text_at old f) (parts_of term)) ∙ ap (exchanged_within es) (sym is) ∙ sym stays

-- the exchanged terms that are left give what all give
abbrev pub LeftGive : Content → List Exchanging → List Exchanging → TermId → Type 0
LeftGive bank es left t = (other : Term) → exchanged_for (exchange_at bank es) (term_at bank t) other ≡ exchanged_for (exchange_at bank left) (term_at bank t) other

module _ (bank : Content) (es : List Exchanging) (t : TermId) (i : ℕ) (d : Exchanging) where
  step : i < length es → (b : Bool) → same_term (term_at bank (get_or es i d).from) (term_at bank t) ≡ b → LeftGive bank es (drop i es) t → (other : Term) → exchanged_for (exchange_at bank es) (term_at bank t) other ≡ elim b as (λ b. Term) [ true ↦ term_at bank (get_or es i d).into | false ↦ exchanged_for (exchange_at bank (drop (i + 1) es)) (term_at bank t) other ]
  step below b e left other =
      left other ∙ at_drop_more (λ xs. exchanged_for (exchange_at bank xs) (term_at bank t) other) es i d below ∙
      ap (λ b. elim b as (λ b. Term) [ true ↦ term_at bank (get_or es i d).into | false ↦ exchanged_for (exchange_at bank (drop (i + 1) es)) (term_at bank t) other ]) e

  pub left_more : i < length es → same_term (term_at bank (get_or es i d).from) (term_at bank t) ≡ false → LeftGive bank es (drop i es) t → LeftGive bank es (drop (i + 1) es) t
  left_more below e left other = step below false e left other

  pub left_here : i < length es → All (ExchangeStands bank) es → same_term (term_at bank (get_or es i d).from) (term_at bank t) ≡ true → LeftGive bank es (drop i es) t → StandsFor bank es t (get_or es i d).into
  left_here below stand e left = record { stands = (stand i d below).into; is = λ other. step below true e left other }

pub left_none : (bank : Content) (es : List Exchanging) (t : TermId) (i : ℕ) → length es ≤ i → LeftGive bank es (drop i es) t → Stays bank es t
left_none bank es t i all left other = left other ∙ at_drop_all (λ xs. exchanged_for (exchange_at bank xs) (term_at bank t) other) es i all

-- what an answer says that is none, or that is some id
pub stays_as : (N : Type 0) (S : TermId → Type 0) (r : Option TermId) → MatchOption r N S → r ≡ None → N
stays_as N S None h e = h
stays_as N S (Some id) h e = absurd cc

pub stands_as : (N : Type 0) (S : TermId → Type 0) (r : Option TermId) (id : TermId) → MatchOption r N S → r ≡ Some id → S id
stands_as N S None id h e = absurd cc
stands_as N S (Some x) id h e = let same : x ≡ id = cc in subst S same h
