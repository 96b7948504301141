-- The law that opens an OR, at two terms, and nests that are opened side by side.
use Rattle.std.proofs.Common.{◌≡◌, ◌≤◌, ◌<◌, ◌+◌, ◌-◌, add-one, ℕ, zero, suc, Option, Some, List, [], ◌∷◌, ◌++◌, length, get_or, drop, take, map, refl, sym, ap, ap₂, ◌∙◌, subst, inl, inr, arith}
use Rattle.std.specs.Prelude.{codes, is_some, IsSome, Vec, All}
use Rattle.std.specs.declared.alloc.Global.{Global}
use Rattle.nq_logic.specs.Terms.{Term, Substitution, substituted, IsAmong}
use Rattle.nq_logic.specs.Words.{not_term, or_term}
use Rattle.nq_logic.specs.Shells.{either_of}
use Rattle.nq_logic.specs.Sizes.{depth_of, depth_limit}
use Rattle.nq_proof.specs.Clauses.{Clause, distinct, literal_at}
use Rattle.nq_proof.specs.Rules as tree
use Rattle.nq_proof.specs.Rules.{given, when, is_substitution}
use Rattle.nq_bank.specs.declared.node.TermId.{TermId}
use Rattle.std.proofs.lemmas.List.{take_all}
use Rattle.std.proofs.Math.Arith.{lt_of_le-ne}
use Rattle.nq_bank.specs.Content.{Content, Grows, IsIdOf, Stands, term_at, terms_at}
use Rattle.nq_bank.specs.Parts.{parts_of}
use Rattle.nq_logic.specs.Numerals.{number_of}
use Rattle.nq_bank.specs.Soundness.{IsSound}
use Rattle.nq_clause.specs.declared.substitution.Pair.{Pair}
use Rattle.nq_clause.specs.Substitution.{substitution_at, PairStands}
use Rattle.nq_bank.proofs.Standing.{All-push, id_grown}
use Rattle.nq_history.specs.declared.entry.Entry.{Entry}
use Rattle.nq_history.specs.Events.{events_at}
use Rattle.nq_logic.specs.Ground.{symbols_of}
use Rattle.nq_kernel.specs.declared.work.Work.{Work}
use Rattle.nq_kernel.specs.declared.rule.Rule.TheVariants.{Instance}
use Rattle.nq_kernel.specs.Meaning.{conclusion_at, clause_at}
use Rattle.nq_kernel.specs.Over.{IsVariable, IsTermOf, RuleIsOver, TermIsIn, RuleIsIn}
use Rattle.nq_lines.specs.Lines.{AreAmong, HasOnly}
use Rattle.nq_replay.specs.Uncounted.{IsShallow, GrowsUncounted}
use Rattle.nq_measures.specs.Pairs.{IsPair}
use Rattle.nq_lines.proofs.LineLemmas.{from_distinct}
use Rattle.nq_measures.proofs.TermLemmas.{only_more}
use Rattle.nq_replay.proofs.UncountedLemmas.{grown_trans}
use Rattle.nq_measures.proofs.TermLemmas.{term_in_grown, parts_of_two}
use Rattle.nq_bank.proofs.Growth.{term_at-grown, Stands-grown}
use Rattle.nq_kernel.specs.Growing.{WorkStands, LineHolds}
use Rattle.nq_measures.proofs.DepthLemmas.{only_shallow, id_shallow, stand_shallow, right_shallower}
use Rattle.nq_replay.specs.LawClauses.{choice_opens_clause}

abbrev pub for_sides : Term → Term → Substitution
for_sides t u = (codes "X", t) ∷ (codes "Y", u) ∷ []

-- the term of the list from which a mapped one comes
record Comes (f : Term → Term) (c : Clause) (u : Term) : Type 0 where
  from : Term
  among : IsAmong from c
  is : u ≡ f from

map_among : (f : Term → Term) (c : Clause) (u : Term) → IsAmong u (map f c) → Comes f c u
map_among f [] u m = absurd m
map_among f (t ∷ c) u (inl e) = record { from = t; among = inl refl; is = e }
map_among f (t ∷ c) u (inr m) = let rest = map_among f c u m in record { from = rest.from; among = inr rest.among; is = rest.is }

abbrev pub opened : Term → Term → Clause
opened t u = not_term (or_term t u) ∷ t ∷ u ∷ []

module _ (t u : Term) where
  law_replaced : (v : Term) → IsAmong v choice_opens_clause → IsAmong (substituted (for_sides t u) v) (opened t u)
  law_replaced v (inl e) = inr (inr (inl (ap (substituted (for_sides t u)) e)))
  law_replaced v (inr (inl e)) = inr (inl (ap (substituted (for_sides t u)) e))
  law_replaced v (inr (inr (inl e))) = inl (ap (substituted (for_sides t u)) e)
  law_replaced v (inr (inr (inr none))) = absurd none

  law_within : AreAmong (distinct (map (substituted (for_sides t u)) choice_opens_clause)) (opened t u)
  law_within v m =
      let comes : Comes (substituted (for_sides t u)) choice_opens_clause v = map_among (substituted (for_sides t u)) choice_opens_clause v (from_distinct v (map (substituted (for_sides t u)) choice_opens_clause) m) in
      subst (λ w. IsAmong w (opened t u)) (sym comes.is) (law_replaced comes.from comes.among)

abbrev instance_clause : Substitution → Option Clause → Option Clause
instance_clause s o = given o (λ c. when (is_substitution s) (distinct (map (substituted s) c)))

x_plain : IsVariable (codes "X")
x_plain = record { symbol = refl; other = refl }

y_plain : IsVariable (codes "Y")
y_plain = record { symbol = refl; other = refl }

module _ (history : List Entry) (work : Work) (line : ℕ) (pairs : Vec Pair Global) (first second : Pair) (e : pairs.items ≡ first ∷ second ∷ []) (left : IsPair work.bank first (codes "X")) (right : IsPair work.bank second (codes "Y")) where
  pub law_only : LineHolds work line choice_opens_clause → HasOnly (conclusion_at work.bank history work.log (Instance line pairs)) (opened (term_at work.bank first.term) (term_at work.bank second.term))
  unfolding conclusion_at
  law_only h =
      let p : Term = term_at work.bank first.term in
      let q : Term = term_at work.bank second.term in
      record {
        literals = distinct (map (substituted (for_sides p q)) choice_opens_clause);
        stands =
            ap (λ ps. instance_clause (substitution_at work.bank ps) (clause_at work.bank work.log line)) e ∙
            ap₂ (λ x y. instance_clause ((x, p) ∷ (y, q) ∷ []) (clause_at work.bank work.log line)) left.name.reads right.name.reads ∙
            ap (instance_clause (for_sides p q)) h;
        only = law_within p q;
      }

  pub law_allowed : LineHolds work line choice_opens_clause → IsSome (conclusion_at work.bank history work.log (Instance line pairs))
  law_allowed h = ap is_some (law_only h).stands

  pub law_shallow : (denied : TermId) → IsSound work.bank → IsIdOf work.bank denied (not_term (or_term (term_at work.bank first.term) (term_at work.bank second.term))) → LineHolds work line choice_opens_clause → IsShallow (conclusion_at work.bank history work.log (Instance line pairs))
  law_shallow denied sound is h =
      only_shallow (conclusion_at work.bank history work.log (Instance line pairs)) (opened (term_at work.bank first.term) (term_at work.bank second.term)) (law_only h)
      (id_shallow work.bank denied _ sound is, (stand_shallow work.bank first.term sound left.term, (stand_shallow work.bank second.term sound right.term, tt)))

  pub law_stand : All (PairStands work.bank) pairs.items
  law_stand =
      subst (All (PairStands work.bank)) (sym e) (
      All-push (PairStands work.bank) (first ∷ []) second (All-push (PairStands work.bank) [] first (λ i d below. absurd (omega arith)) (record { variable = left.name.named; term = left.term })) (record { variable = right.name.named; term = right.term }))

  pub law_in : TermIsIn work.bank history first.term → TermIsIn work.bank history second.term → RuleIsIn work.bank history (Instance line pairs)
  law_in one two =
      subst (λ ps. RuleIsOver IsVariable (symbols_of (events_at work.bank history)) (tree.Instance line (substitution_at work.bank ps))) (sym e)
      (record { terms = (one, (two, tt)); names = (subst IsVariable (sym left.name.reads) x_plain, (subst IsVariable (sym right.name.reads) y_plain, tt)) })

-- the sides of an OR
or_parts : (t u : Term) → parts_of (or_term t u) ≡ t ∷ u ∷ []
unfolding number_of
or_parts t u = refl

second_there : (t u w : Term) → w ≡ or_term t u → literal_at 2 (parts_of w) ≡ Some u
second_there t u w e = ap (λ v. literal_at 2 (parts_of v)) e ∙ ap (literal_at 2) (or_parts t u)

-- the id of the second argument
pub second_is : (bank : Content) (inner whole : TermId) → Stands bank inner → literal_at 2 (parts_of (term_at bank whole)) ≡ Some (term_at bank inner) → (t u : Term) → term_at bank whole ≡ or_term t u → IsIdOf bank inner u
second_is bank inner whole stands there t u e = record { stands = stands; denotes = same (sym there ∙ second_there t u (term_at bank whole) e) }
  where
    same : Some (term_at bank inner) ≡ Some u → term_at bank inner ≡ u
    same k = cc

-- a nest of more than one
pub nest_more : (bank : Content) (ids : List TermId) (d : TermId) → 1 < length ids → either_of (terms_at bank ids) ≡ or_term (term_at bank (get_or ids 0 d)) (either_of (terms_at bank (drop 1 ids)))
nest_more bank [] d some = absurd (omega arith)
nest_more bank (a ∷ []) d some = absurd (omega arith)
nest_more bank (a ∷ b ∷ ids) d some = refl

-- a line with its first literal, and two more among the others
pub behind : (o : Option Clause) (t a b : Term) (these : Clause) → HasOnly o (t ∷ these) → HasOnly o (t ∷ a ∷ b ∷ these)
behind o t a b these h = only_more o (t ∷ these) (t ∷ a ∷ b ∷ these) (λ v m. elim m [ inl e ↦ inl e | inr k ↦ inr (inr (inr k)) ]) h

-- the law at two terms, and any others
pub with_these : (o : Option Clause) (t u : Term) (these : Clause) → HasOnly o (opened t u) → HasOnly o (not_term (or_term t u) ∷ t ∷ u ∷ these)
with_these o t u these h =
    only_more o (opened t u) (not_term (or_term t u) ∷ t ∷ u ∷ these) (λ v m. elim m [ inl e ↦ inl e | inr k ↦ elim k [ inl e ↦ inr (inl e) | inr r ↦ elim r [ inl e ↦ inr (inr (inl e)) | inr none ↦ absurd none ] ] ]) h

-- a literal that stands among the others is not told twice
pub absorbed : (o : Option Clause) (t : Term) (these : Clause) → IsAmong t these → HasOnly o (t ∷ these) → HasOnly o these
absorbed o t these m h = only_more o (t ∷ these) these (λ v k. elim k [ inl e ↦ subst (λ w. IsAmong w these) (sym e) m | inr r ↦ r ]) h

pub absorbed_first : (o : Option Clause) (t u : Term) (these : Clause) → IsAmong t these → HasOnly o (t ∷ u ∷ these) → HasOnly o (u ∷ these)
absorbed_first o t u these m h = absorbed o t (u ∷ these) (inr m) h

among_place : (bank : Content) (ids : List TermId) (i : ℕ) (d : TermId) (these : Clause) → i < length ids → IsAmong (term_at bank (get_or ids i d)) (terms_at bank ids ++ these)
among_place bank [] i d these below = absurd (omega arith)
among_place bank (a ∷ ids) zero d these below = inl refl
among_place bank (a ∷ ids) (suc i) d these below = inr (among_place bank ids i d these (omega (arith, below)))

pub literals_among : (o : Option Clause) (t : Term) (c these : Clause) → HasOnly o (t ∷ these) → HasOnly o (t ∷ (c ++ these))
literals_among o t c these h = only_more o (t ∷ these) (t ∷ (c ++ these)) (λ v m. elim m [ inl e ↦ inl e | inr k ↦ inr (behind_all c v k) ]) h
  where
    behind_all : (c : Clause) (v : Term) → IsAmong v these → IsAmong v (c ++ these)
    behind_all [] v k = k
    behind_all (w ∷ c) v k = inr (behind_all c v k)

nest_here : (bank : Content) (ids : List TermId) (i : ℕ) (d : TermId) → suc i < length ids → either_of (terms_at bank (drop i ids)) ≡ or_term (term_at bank (get_or ids i d)) (either_of (terms_at bank (drop (suc i) ids)))
nest_here bank [] i d below = absurd (omega arith)
nest_here bank (a ∷ []) i d below = absurd (omega (arith, below))
nest_here bank (a ∷ b ∷ ids) zero d below = refl
nest_here bank (a ∷ b ∷ ids) (suc i) d below = nest_here bank (b ∷ ids) i d (omega (arith, below))

nest_last : (bank : Content) (ids : List TermId) (i : ℕ) (d : TermId) → suc i ≡ length ids → either_of (terms_at bank (drop i ids)) ≡ term_at bank (get_or ids i d)
nest_last bank [] i d last = absurd (omega (arith, last))
nest_last bank (a ∷ []) zero d last = refl
nest_last bank (a ∷ []) (suc i) d last = absurd (omega (arith, last))
nest_last bank (a ∷ b ∷ ids) zero d last = absurd (omega (arith, last))
nest_last bank (a ∷ b ∷ ids) (suc i) d last = nest_last bank (b ∷ ids) i d (omega (arith, last))

-- once all but the last literal are told, so is the last
pub end_opened : (o : Option Clause) (bank : Content) (ids : List TermId) (i : ℕ) (d : TermId) (these : Clause) → 0 < length ids → i < length ids → length ids - 1 ≤ i → HasOnly o (either_of (terms_at bank (drop i ids)) ∷ (terms_at bank ids ++ these)) → HasOnly o (terms_at bank ids ++ these)
end_opened o bank ids i d these some below past h =
    absorbed o (term_at bank (get_or ids i d)) (terms_at bank ids ++ these) (among_place bank ids i d these below)
    (subst (λ (t : Term). HasOnly o (t ∷ (terms_at bank ids ++ these))) (nest_last bank ids i d (omega (arith, some, below, past))) h)

-- what a step of the loop knows: the work grew from old to now, and whole is the nest of the literals from a place on
pub record IsOpened (history : List Entry) (old now : Work) (literals : List TermId) (i : ℕ) (whole : TermId) : Type 0 where
  pub grows : GrowsUncounted history old now
  pub stands : WorkStands history now
  pub nested : IsIdOf now.bank whole (either_of (terms_at old.bank (drop i literals)))
  pub over : TermIsIn now.bank history whole
  pub room : depth_of (term_at now.bank whole) < depth_limit

-- while more than one literal is left, whole has a second side
pub has_second : (history : List Entry) (old now : Work) (literals : List TermId) (i : ℕ) (whole : TermId) → IsOpened history old now literals i whole → i < length literals - 1 → IsSome (literal_at 2 (parts_of (term_at now.bank whole)))
has_second history old now literals i whole here below =
    ap is_some (second_there _ _ (term_at now.bank whole) (here.nested.denotes ∙ nest_here old.bank literals i (record { 0 = 0 }) (omega (arith, below))))

module _ (history : List Entry) (old now : Work) (literals : List TermId) (i : ℕ) (whole inner : TermId) (d : TermId) (here : IsOpened history old now literals i whole) (stand : All (Stands old.bank) literals) (below : i < length literals - 1) (second : (t u : Term) → term_at now.bank whole ≡ or_term t u → IsIdOf now.bank inner u) where
  abbrev pub t : TermId
  t = get_or literals i d

  first : i < length literals
  first = omega (arith, below)

  abbrev pub rest : Term
  rest = either_of (terms_at old.bank (drop (suc i) literals))

  pub sides : term_at now.bank whole ≡ or_term (term_at old.bank t) rest
  sides = here.nested.denotes ∙ nest_here old.bank literals i d (omega (arith, below))

  pub inner_is : IsIdOf now.bank inner rest
  inner_is = second (term_at old.bank t) rest sides

  same : term_at now.bank t ≡ term_at old.bank t
  same = term_at-grown old.bank now.bank t here.grows.grows.bank (stand i d first)

  pub left_stands : Stands now.bank t
  left_stands = Stands-grown old.bank now.bank t here.grows.grows.bank (stand i d first)

  pub whole_is : IsIdOf now.bank whole (or_term (term_at now.bank t) (term_at now.bank inner))
  whole_is = record { stands = here.nested.stands; denotes = sides ∙ sym (ap₂ or_term same inner_is.denotes) }

  parts : IsTermOf IsVariable (symbols_of (events_at now.bank history)) (term_at now.bank t) × IsTermOf IsVariable (symbols_of (events_at now.bank history)) (term_at now.bank inner)
  parts = parts_of_two (symbols_of (events_at now.bank history)) (codes "OR") (term_at now.bank t) (term_at now.bank inner) (subst (λ (w : Term). IsTermOf IsVariable (symbols_of (events_at now.bank history)) w) whole_is.denotes here.over)

  pub left_in : TermIsIn now.bank history t
  left_in = parts.0

  pub right_in : TermIsIn now.bank history inner
  right_in = parts.1

  pub inner_room : depth_of (term_at now.bank inner) < depth_limit
  inner_room =
      let shallower : depth_of (term_at now.bank inner) < depth_of (or_term (term_at now.bank t) (term_at now.bank inner)) = right_shallower (term_at now.bank t) (term_at now.bank inner) in
      let room : depth_of (or_term (term_at now.bank t) (term_at now.bank inner)) < depth_limit = subst (λ (w : Term). depth_of w < depth_limit) whole_is.denotes here.room in
      omega (arith, shallower, room)

  pub next_opened : (new : Work) → GrowsUncounted history now new → IsOpened history old new literals (i + 1) inner
  next_opened new grows =
      let same_inner : term_at new.bank inner ≡ term_at now.bank inner = term_at-grown now.bank new.bank inner grows.grows.bank inner_is.stands in
      record {
        grows = grown_trans history old now new here.grows grows;
        stands = grows.grows.stands;
        nested = subst (λ n. IsIdOf new.bank inner (either_of (terms_at old.bank (drop n literals)))) (sym (add-one i)) (id_grown now.bank new.bank inner rest grows.grows.bank inner_is);
        over = term_in_grown now.bank new.bank history inner grows.grows.bank here.stands.history inner_is.stands right_in;
        room = subst (λ (w : Term). depth_of w < depth_limit) (sym same_inner) inner_room;
      }

  pub next_line : (o q : Option Clause) (these : Clause) →
      ((those : List Term) → HasOnly o (or_term (term_at now.bank t) (term_at now.bank inner) ∷ those) → HasOnly q (term_at now.bank t ∷ term_at now.bank inner ∷ those)) →
      HasOnly o (either_of (terms_at old.bank (drop i literals)) ∷ (terms_at old.bank literals ++ these)) → HasOnly q (either_of (terms_at old.bank (drop (i + 1) literals)) ∷ (terms_at old.bank literals ++ these))
  next_line o q these opens h =
      let all : Clause = terms_at old.bank literals ++ these in
      let before : HasOnly o (or_term (term_at now.bank t) (term_at now.bank inner) ∷ all) = subst (λ (w : Term). HasOnly o (w ∷ all)) (sym here.nested.denotes ∙ whole_is.denotes) h in
      let after : HasOnly q (term_at old.bank t ∷ rest ∷ all) = subst (λ (w : Term). HasOnly q (w ∷ rest ∷ all)) same (subst (λ (w : Term). HasOnly q (term_at now.bank t ∷ w ∷ all)) inner_is.denotes (opens all before)) in
      subst (λ n. HasOnly q (either_of (terms_at old.bank (drop n literals)) ∷ all)) (sym (add-one i))
      (absorbed_first q (term_at old.bank t) rest all (among_place old.bank literals i d these first) after)

-- the literals behind the first
pub rest_same : (ids : List TermId) → take (length ids - 1) (drop 1 ids) ≡ drop 1 ids
rest_same [] = refl
rest_same (a ∷ ids) = take_all (length (a ∷ ids) - 1) ids (omega arith)

-- the nest of the first literal and that of the rest is that of all
pub nest_made : (old bank : Content) (ids : List TermId) (rest d : TermId) → Grows old bank → All (Stands old) ids → 0 < length ids → (length ids ≡ 1 → ⊥) → IsIdOf bank rest (either_of (terms_at old (take (length ids - 1) (drop 1 ids)))) →
    or_term (term_at bank (get_or ids 0 d)) (term_at bank rest) ≡ either_of (terms_at old ids)
nest_made old bank ids rest d h stand some more is =
    ap₂ or_term (term_at-grown old bank (get_or ids 0 d) h (stand 0 d some)) (is.denotes ∙ ap (λ l. either_of (terms_at old l)) (rest_same ids)) ∙
    sym (nest_more old ids d (omega (arith, some, lt_of_le-ne {i = 1} (omega (arith, some)) (λ e. more (sym e)))))

pub nest_deeper : (bank : Content) (ids : List TermId) → 0 < length ids → (length ids ≡ 1 → ⊥) → depth_limit < depth_of (either_of (terms_at bank (take (length ids - 1) (drop 1 ids)))) → depth_limit < depth_of (either_of (terms_at bank ids))
nest_deeper bank ids some more deep =
    let d : TermId = record { 0 = 0 } in
    let first : Term = term_at bank (get_or ids 0 d) in
    let rest : Term = either_of (terms_at bank (drop 1 ids)) in
    let inner : depth_limit < depth_of rest = subst (λ l. depth_limit < depth_of (either_of (terms_at bank l))) (rest_same ids) deep in
    let shallower : depth_of rest < depth_of (or_term first rest) = right_shallower first rest in
    let outer : depth_limit < depth_of (or_term first rest) = omega (arith, inner, shallower) in
    subst (λ (w : Term). depth_limit < depth_of w) (sym (nest_more bank ids d (omega (arith, some, lt_of_le-ne {i = 1} (omega (arith, some)) (λ e. more (sym e)))))) outer
