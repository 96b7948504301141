-- Denied tests, and formals with their arguments, one by one.
use Rattle.std.proofs.Common.{◌≡◌, ℕ, ◌+◌, ◌<◌, ◌≤◌, List, [], ◌∷◌, ◌++◌, length, get_or, drop, take, drop-cons, add-one, map, refl, sym, subst, ap, ap₂, ◌∙◌, ◌⊎◌, inl, inr, append_assoc, arith}
use Rattle.std.specs.Prelude.{All}
use Rattle.std.proofs.lemmas.List.{take_more, map_push, append-nil, at_drop_all}
use Rattle.nq_logic.specs.Terms.{Name, Term, Substitution}
use Rattle.nq_logic.specs.Words.{call2, not_term}
use Rattle.nq_logic.specs.Admissible.{matched}
use Rattle.nq_bank.specs.declared.node.Sym.{Sym}
use Rattle.nq_bank.specs.declared.node.TermId.{TermId}
use Rattle.nq_bank.specs.Content.{Content, Grows, Stands, IsIdOf, IsNamed, term_at, terms_at, text_at, term_from}
use Rattle.nq_bank.specs.Shells.{texts_at}
use Rattle.nq_bank.proofs.Growth.{term_at-grown, terms_at-grown, Stands-grown}
use Rattle.nq_bank.proofs.Standing.{stand_grown, All-push}
use Rattle.nq_clause.specs.declared.substitution.Pair.{Pair}
use Rattle.nq_clause.specs.Substitution.{substitution_at, PairStands}
use Rattle.nq_calls.specs.declared.calls.Guard.{Guard}
use Rattle.nq_calls.specs.Calls.{GuardStands, signed, guard_at, guards_at}
use Rattle.nq_calls.specs.Falls.{fall_clause}

pub guard_at-grown : (old new : Content) (g : Guard) → Grows old new → GuardStands old g → guard_at new g ≡ guard_at old g
guard_at-grown old new g h stands = ap (signed g.holds) (term_at-grown old new g.test h stands)

pub guards_stand-grown : (old new : Content) (guards : List Guard) → Grows old new → All (GuardStands old) guards → All (GuardStands new) guards
guards_stand-grown old new guards h stand i d below = Stands-grown old new (get_or guards i d).test h (stand i d below)

module _ (old bank new : Content) (guards : List Guard) (i : ℕ) (d : Guard) (made more : List TermId) (id : TermId) (before : Grows old bank) (after : Grows bank new) (below : i < length guards) (stand : All (GuardStands old) guards) (were : All (Stands bank) made) (are : more ≡ made ++ id ∷ []) (is : IsIdOf new id (not_term (guard_at bank (get_or guards i d)))) where
  pub denied_more : terms_at bank made ≡ map not_term (guards_at old (take i guards)) → terms_at new more ≡ map not_term (guards_at old (take (i + 1) guards))
  denied_more so_far =
      let here : term_at new id ≡ not_term (guard_at old (get_or guards i d)) = is.denotes ∙ ap not_term (guard_at-grown old bank (get_or guards i d) before (stand i d below)) in
      ap (terms_at new) are ∙
      map_push (term_from new.terms) made id ∙
      ap₂ (λ (ts : List Term) (t : Term). ts ++ t ∷ []) (terms_at-grown bank new made after were ∙ so_far) here ∙
      sym (map_push not_term (guards_at old (take i guards)) (guard_at old (get_or guards i d))) ∙
      ap (map not_term) (sym (map_push (guard_at old) (take i guards) (get_or guards i d))) ∙
      ap (λ l. map not_term (guards_at old l)) (sym (take_more guards i d below))

  pub denied_stand : All (Stands new) more
  denied_stand = subst (λ (l : List TermId). All (Stands new) l) (sym are) (All-push (Stands new) made id (stand_grown bank new made after were) is.stands)

pub reached : (a b i n : ℕ) → (n ≡ a) ⊎ (n ≡ b) → n ≤ i → (a ≤ i) ⊎ (b ≤ i)
reached a b i n (inl e) past = inl (omega (arith, e, past))
reached a b i n (inr e) past = inr (omega (arith, e, past))

matched_none : (xs : List Name) → matched xs [] ≡ []
matched_none [] = refl
matched_none (x ∷ xs) = refl

module _ (bank : Content) (formals : List Sym) (arguments : List TermId) where
  abbrev pub matched_from : ℕ → Substitution
  matched_from i = matched (texts_at bank (drop i formals)) (terms_at bank (drop i arguments))

  pub pair_more : (i : ℕ) (x : Sym) (t : TermId) (pairs more : List Pair) (all : Substitution) → i < length formals → i < length arguments → more ≡ pairs ++ record { variable = get_or formals i x; term = get_or arguments i t } ∷ [] →
      substitution_at bank pairs ++ matched_from i ≡ all → substitution_at bank more ++ matched_from (i + 1) ≡ all
  pair_more i x t pairs more all first second are so_far =
      let p : Pair = record { variable = get_or formals i x; term = get_or arguments i t } in
      let here : Name × Term = (text_at bank p.variable, term_at bank p.term) in
      ap (λ l. substitution_at bank l ++ matched_from (i + 1)) are ∙
      ap (λ (s : Substitution). s ++ matched_from (i + 1)) (map_push (λ q. (text_at bank q.variable, term_at bank q.term)) pairs p) ∙
      append_assoc (substitution_at bank pairs) (here ∷ []) (matched_from (i + 1)) ∙
      ap (λ n. substitution_at bank pairs ++ (here ∷ matched_from n)) (add-one i) ∙
      ap₂ (λ (xs : List Sym) (ts : List TermId). substitution_at bank pairs ++ matched (texts_at bank xs) (terms_at bank ts)) (sym (drop-cons formals i x first)) (sym (drop-cons arguments i t second)) ∙
      so_far

  pub pairs_done : (i : ℕ) (pairs : List Pair) (all : Substitution) → (length formals ≤ i) ⊎ (length arguments ≤ i) → substitution_at bank pairs ++ matched_from i ≡ all → substitution_at bank pairs ≡ all
  pairs_done i pairs all (inl past) so_far =
      sym (append-nil (substitution_at bank pairs)) ∙ sym (at_drop_all (λ l. substitution_at bank pairs ++ matched (texts_at bank l) (terms_at bank (drop i arguments))) formals i past) ∙ so_far
  pairs_done i pairs all (inr past) so_far =
      sym (append-nil (substitution_at bank pairs)) ∙ ap (λ (l : Substitution). substitution_at bank pairs ++ l) (sym (matched_none (texts_at bank (drop i formals)))) ∙
      sym (at_drop_all (λ l. substitution_at bank pairs ++ matched (texts_at bank (drop i formals)) (terms_at bank l)) arguments i past) ∙ so_far

  pub pair_stands : (i : ℕ) (x : Sym) (t : TermId) (pairs more : List Pair) → i < length formals → i < length arguments → All (IsNamed bank) formals → All (Stands bank) arguments → more ≡ pairs ++ record { variable = get_or formals i x; term = get_or arguments i t } ∷ [] →
      All (PairStands bank) pairs → All (PairStands bank) more
  pair_stands i x t pairs more first second named stand are so_far =
      subst (λ (l : List Pair). All (PairStands bank) l) (sym are) (All-push (PairStands bank) pairs (record { variable = get_or formals i x; term = get_or arguments i t }) so_far (record { variable = named i x first; term = stand i t second }))

module _ (old bank new : Content) (smaller m : TermId) (tests : List Term) (made more : List TermId) (last : TermId) (before : Grows old bank) (after : Grows bank new) (left : Stands old smaller) (right : Stands old m) (were : All (Stands bank) made) (are : more ≡ made ++ last ∷ []) (is : IsIdOf new last (call2 "ORD-LESSP" (term_at bank smaller) (term_at bank m))) where
  pub clause_more : terms_at bank made ≡ map not_term tests → terms_at new more ≡ fall_clause (term_at old smaller) (term_at old m) tests
  clause_more so_far =
      let here : term_at new last ≡ call2 "ORD-LESSP" (term_at old smaller) (term_at old m) = is.denotes ∙ ap₂ (call2 "ORD-LESSP") (term_at-grown old bank smaller before left) (term_at-grown old bank m before right) in
      ap (terms_at new) are ∙ map_push (term_from new.terms) made last ∙ ap₂ (λ (ts : List Term) (t : Term). ts ++ t ∷ []) (terms_at-grown bank new made after were ∙ so_far) here

  pub clause_stands : All (Stands new) more
  clause_stands = subst (λ (l : List TermId). All (Stands new) l) (sym are) (All-push (Stands new) made last (stand_grown bank new made after were) is.stands)
