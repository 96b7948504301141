-- One substitution for some terms, from the first on.
use Rattle.std.proofs.Common.{◌≡◌, ℕ, zero, suc, ◌+◌, ◌-◌, ◌<◌, ◌≤◌, ◌⊎◌, List, [], ◌∷◌, ◌++◌, length, get_or, take, drop, map, refl, sym, ap, ◌∙◌, subst, inl, inr, arith}
use Rattle.std.specs.Prelude.{All}
use Rattle.std.proofs.lemmas.List.{take_all}
use Rattle.nq_logic.specs.Terms.{Term, IsAmong, Each, Substitution, substituted}
use Rattle.nq_logic.specs.Admissible.{HasVariables}
use Rattle.nq_bank.specs.declared.node.TermId.{TermId}
use Rattle.nq_bank.specs.Content.{Content, term_at, terms_at}
use Rattle.nq_bank.proofs.ArgumentLemmas.{terms_from-take}
use Rattle.nq_bank.proofs.NodesLemmas.{All-head, All-tail}
use Rattle.nq_clause.specs.declared.binding.Binding.{Binding}
use Rattle.nq_clause.specs.Binding.{bindings_at, variables_of, Extends, Matches, MatchesNone}
use Rattle.nq_clause.specs.Subsumption.{HasRoomWith, SubsumesFrom, SubsumesNone}
use Rattle.nq_clause.proofs.BindingLemmas.{extended_same, more_extends, Extends-refl, among_kept}
use Rattle.nq_clause.proofs.MatchLemmas.{extends_match}
use Rattle.nq_clause.proofs.RoomLemmas.{room_after}

-- a list that is not empty is its first element and the rest
pub first_rest : {X : Type 0} (xs : List X) (d : X) → 1 ≤ length xs → xs ≡ get_or xs 0 d ∷ take (length xs - 1) (drop 1 xs)
first_rest [] d h = absurd (omega (arith, h))
first_rest (x ∷ xs) d h =
    let rest : take (length (x ∷ xs) - 1) xs ≡ xs = take_all (length (x ∷ xs) - 1) xs (omega arith) in
    ap (λ ys. x ∷ ys) (sym rest)

pub none_left : {X : Type 0} (xs : List X) → length xs < 1 → xs ≡ []
none_left [] h = refl
none_left (x ∷ xs) h = absurd (omega (arith, h))

pub all_first : (P : TermId → Type 0) (xs rest : List TermId) (x : TermId) → xs ≡ x ∷ rest → All P xs → P x
all_first P xs rest x is h = All-head P x rest (subst (All P) is h)

pub all_rest : (P : TermId → Type 0) (xs rest : List TermId) (x : TermId) → xs ≡ x ∷ rest → All P xs → All P rest
all_rest P xs rest x is h = All-tail P x rest (subst (All P) is h)

-- no terms are left
pub subsumes_none_left : (r : Substitution) (c d : List Term) → c ≡ [] → SubsumesFrom r c d
subsumes_none_left r c d is =
    subst (λ ts. SubsumesFrom r ts d) (sym is) (record { substitution = r; extends = Extends-refl r; takes = tt })

-- the first is matched, and the others are taken
pub subsumes_next : (bank : Content) (p u : Term) (ps c d : List Term) (old mid : List Binding) → c ≡ p ∷ ps → Matches bank p u old mid → IsAmong u d → SubsumesFrom (bindings_at bank mid) ps d → SubsumesFrom (bindings_at bank old) c d
subsumes_next bank p u ps c d old mid is m among h =
    let s : Substitution = h.substitution in
    let more : Extends (bindings_at bank mid) (bindings_at bank old) = more_extends bank old m.more mid m.whole in
    let fits : substituted s p ≡ u = extended_same s (bindings_at bank mid) p h.extends m.all ∙ m.fits in
    subst (λ ts. SubsumesFrom (bindings_at bank old) ts d) (sym is) (record {
      substitution = s;
      extends = record { same = λ x stood. h.extends.same x (among_kept bank x old m.more mid m.whole stood) ∙ more.same x stood };
      takes = (subst (λ v. IsAmong v d) (sym fits) among, h.takes);
    })

-- the first has no match
pub none_here : (r : Substitution) (p u : Term) (ps d : List Term) → MatchesNone r p u → SubsumesNone r p u ps d
none_here r p u ps d n = record { none = λ s h e takes. n.none s h e }

-- the others are not taken by what the match binds
pub none_later : (bank : Content) (p u : Term) (ps d : List Term) (old mid : List Binding) → Matches bank p u old mid → (SubsumesFrom (bindings_at bank mid) ps d → ⊥) → SubsumesNone (bindings_at bank old) p u ps d
none_later bank p u ps d old mid m refused =
    record { none = λ s h e takes. refused (record { substitution = s; extends = extends_match bank p u old mid s m h e; takes = takes }) }

among_push : (t u : Term) (ts : List Term) → IsAmong t (ts ++ u ∷ []) → IsAmong t ts ⊎ (t ≡ u)
among_push t u [] (inl e) = inr e
among_push t u [] (inr m) = absurd m
among_push t u (v ∷ ts) (inl e) = inl (inl e)
among_push t u (v ∷ ts) (inr m) = elim (among_push t u ts m) [ inl there ↦ inl (inr there) | inr e ↦ inr e ]

pub among_terms : (g : TermId → Term) (ids : List TermId) (i : ℕ) (d : TermId) → i < length ids → IsAmong (g (get_or ids i d)) (map g ids)
among_terms g [] i d below = absurd (omega (arith, below))
among_terms g (a ∷ ids) zero d below = inl refl
among_terms g (a ∷ ids) (suc i) d below = inr (among_terms g ids i d (omega (arith, below)))

-- one more term of d does not serve
pub none_more : (bank : Content) (r : Substitution) (p : Term) (ps ds : List Term) (ids : List TermId) (i : ℕ) (d : TermId) → i < length ids → ((v : Term) → IsAmong v (terms_at bank (take i ids)) → SubsumesNone r p v ps ds) → SubsumesNone r p (term_at bank (get_or ids i d)) ps ds → (v : Term) → IsAmong v (terms_at bank (take (i + 1) ids)) → SubsumesNone r p v ps ds
none_more bank r p ps ds ids i d below so_far here v m =
    elim (among_push v (term_at bank (get_or ids i d)) (terms_at bank (take i ids)) (subst (IsAmong v) (terms_from-take bank.terms ids i d below) m)) [
      | inl before ↦ so_far v before
      | inr e ↦ subst (λ u. SubsumesNone r p u ps ds) (sym e) here
    ]

-- no term of d serves
pub none_at_all : (bank : Content) (r : Substitution) (p : Term) (ps c : List Term) (ids : List TermId) (i : ℕ) → c ≡ p ∷ ps → length ids ≤ i → ((v : Term) → IsAmong v (terms_at bank (take i ids)) → SubsumesNone r p v ps (terms_at bank ids)) → SubsumesFrom r c (terms_at bank ids) → ⊥
none_at_all bank r p ps c ids i is all none whole =
    let h : SubsumesFrom r (p ∷ ps) (terms_at bank ids) = subst (λ ts. SubsumesFrom r ts (terms_at bank ids)) is whole in
    let among : IsAmong (substituted h.substitution p) (terms_at bank (take i ids)) = subst (λ xs. IsAmong (substituted h.substitution p) (terms_at bank xs)) (sym (take_all i ids all)) h.takes.0 in
    (none (substituted h.substitution p) among).none h.substitution h.extends refl h.takes.1

-- room for the first, and for the rest after it
pub room_first : (r s : Substitution) (p : Term) (ps c : List Term) (room left : ℕ) → HasRoomWith room r c → c ≡ p ∷ ps → s ≡ r → left ≡ room → HasRoomWith left s (p ∷ [])
room_first r s p ps c room left h is same same_room =
    let each : Each (HasVariables h.names) (p ∷ ps) = subst (Each (HasVariables h.names)) is h.all in
    record {
      names = h.names;
      bound = λ x m. h.bound x (subst (λ q. IsAmong x (variables_of q)) same m);
      all = (each.0, tt);
      enough = omega (arith, h.enough, same_room);
    }

pub room_rest : (bank : Content) (p u : Term) (ps c : List Term) (old mid : List Binding) (room left : ℕ) → HasRoomWith room (bindings_at bank old) c → c ≡ p ∷ ps → Matches bank p u old mid → left ≡ room → HasRoomWith left (bindings_at bank mid) ps
room_rest bank p u ps c old mid room left h is m same =
    let each : Each (HasVariables h.names) (p ∷ ps) = subst (Each (HasVariables h.names)) is h.all in
    room_after bank p u c ps old mid room left h each.0 each.1 m same
