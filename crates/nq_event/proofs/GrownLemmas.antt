-- What events are read as stays as a bank grows; and lists that are read element by element.
use Rattle.std.proofs.Common.{◌≡◌, ℕ, suc, ◌+◌, ◌<◌, ◌≤◌, List, [], ◌∷◌, ◌++◌, length, get_or, take, drop, map, refl, sym, ap, ◌∙◌, subst, drop-cons, add-one}
use Rattle.std.specs.Prelude.{All, Option, None}
use Rattle.std.proofs.lemmas.List.{map_push, map_more, take_all, drop_all}
use Rattle.nq_bank.specs.Content.{Content, Grows, Stands, IsNamed, text_at, term_at}
use Rattle.nq_bank.specs.Shells.{part_at, PartStands}
use Rattle.nq_bank.proofs.Growth.{Grows-refl, Grows-trans, Stands-grown, IsNamed-grown, text_at-grown, term_at-grown}
use Rattle.nq_bank.proofs.NodesLemmas.{All-head, All-tail}
use Rattle.nq_bank.proofs.Standing.{All-push}
use Rattle.nq_history.proofs.Lists.{All-none}
use Rattle.nq_history.proofs.ShellLemmas.{texts-grown, names-grown}
use Rattle.nq_events.specs.Refusals.{Refusal}
use Rattle.nq_events.specs.TermRefusals.{first}
use Rattle.nq_event.specs.declared.fault.EventFault.{EventFault}
use Rattle.nq_clause.specs.Substitution.{PairStands}
use Rattle.nq_history.specs.Hints.{InstanceStands}
use Rattle.nq_event.specs.EventsAt.{measure_at, pair_at, instance_at, MeasureStands}
use Rattle.nq_event.specs.Readings.{IsToldOf, IsReadAs}
use Rattle.nq_event.proofs.ToldLemmas.{told_first}

pub map_map : {X Y Z : Type 0} (g : Y → Z) (f : X → Y) (xs : List X) → map g (map f xs) ≡ map (λ x. g (f x)) xs
map_map g f [] = refl
map_map g f (x ∷ xs) = ap (λ ys. g (f x) ∷ ys) (map_map g f xs)

-- a way to see what stands in a bank, which stays as the bank grows
pub record Stays {X Y : Type 0} (S : Content → X → Type 0) (at : Content → X → Y) : Type 0 where
  pub keeps : (old new : Content) (x : X) → Grows old new → S old x → S new x
  pub same : (old new : Content) (x : X) → Grows old new → S old x → at new x ≡ at old x

module _ {X Y : Type 0} (S : Content → X → Type 0) (at : Content → X → Y) (stays : Stays S at) (old new : Content) (grows : Grows old new) where
  pub all_keep : (xs : List X) → All (S old) xs → All (S new) xs
  all_keep xs h = λ i d below. stays.keeps old new (get_or xs i d) grows (h i d below)

  pub map_grown : (xs : List X) → All (S old) xs → map (at new) xs ≡ map (at old) xs
  map_grown [] h = refl
  map_grown (x ∷ xs) h =
      ap (λ y. y ∷ map (at new) xs) (stays.same old new x grows (All-head (S old) x xs h)) ∙ ap (λ ys. at old x ∷ ys) (map_grown xs (All-tail (S old) x xs h))

  pub all_more : (xs pushed : List X) (x : X) → pushed ≡ xs ++ x ∷ [] → All (S old) xs → S new x → All (S new) pushed
  all_more xs pushed x is h k = subst (All (S new)) (sym is) (All-push (S new) xs x (all_keep xs h) k)

  pub map_pushed : (xs pushed : List X) (x : X) (ys : List Y) (y : Y) → pushed ≡ xs ++ x ∷ [] → All (S old) xs → map (at old) xs ≡ ys → at new x ≡ y → map (at new) pushed ≡ ys ++ y ∷ []
  map_pushed xs pushed x ys y is h are k =
      ap (map (at new)) is ∙ map_push (at new) xs x ∙ ap (λ zs. zs ++ at new x ∷ []) (map_grown xs h ∙ are) ∙ ap (λ z. ys ++ z ∷ []) k

-- so do names, terms, parts, measures, pairs and instances
pub names_stay : Stays IsNamed text_at
names_stay = record { keeps = λ old new s grows h. IsNamed-grown old new s grows h; same = λ old new s grows h. text_at-grown old new s grows h }

pub terms_stay : Stays Stands term_at
terms_stay = record { keeps = λ old new t grows h. Stands-grown old new t grows h; same = λ old new t grows h. term_at-grown old new t grows h }

pub measures_stay : Stays MeasureStands measure_at
measures_stay = record {
  keeps = λ old new m grows h. record { relation = IsNamed-grown old new m.relation grows h.relation; measure = Stands-grown old new m.term grows h.measure };
  same = λ old new m grows h. let r = text_at-grown old new m.relation grows h.relation in let t = term_at-grown old new m.term grows h.measure in rw (r, t) refl;
}

pub pairs_stay : Stays PairStands pair_at
pairs_stay = record {
  keeps = λ old new p grows h. record { variable = IsNamed-grown old new p.variable grows h.variable; term = Stands-grown old new p.term grows h.term };
  same = λ old new p grows h. let r = text_at-grown old new p.variable grows h.variable in let t = term_at-grown old new p.term grows h.term in rw (r, t) refl;
}

pub instances_stay : Stays InstanceStands instance_at
instances_stay = record {
  keeps = λ old new i grows h. record { name = IsNamed-grown old new i.name grows h.name; pairs = all_keep PairStands pair_at pairs_stay old new grows i.pairs.items h.pairs };
  same = λ old new i grows h. let r = text_at-grown old new i.name grows h.name in let t = map_grown PairStands pair_at pairs_stay old new grows i.pairs.items h.pairs in rw (r, t) refl;
}

pub parts_stay : Stays PartStands part_at
parts_stay = record {
  keeps = λ old new p grows h. record { accessor = IsNamed-grown old new p.accessor grows h.accessor; recognizers = names-grown old new grows p.recognizers.items h.recognizers; default = IsNamed-grown old new p.default grows h.default };
  same = λ old new p grows h.
      let a = text_at-grown old new p.accessor grows h.accessor in
      let r = texts-grown old new grows p.recognizers.items h.recognizers in
      let d = text_at-grown old new p.default grows h.default in
      rw (a, r, d) refl;
}

-- the first elements of a list are read in a bank that grew, and the others are still to be refused
pub record IsReadSoFar {W X Y : Type 0} (S : Content → X → Type 0) (at : Content → X → Y) (refusals : List W → Option Refusal) (given : W → Y) (first now : Content) (ws : List W) (i : ℕ) (xs : List X) : Type 0 where
  pub grows : Grows first now
  pub stand : All (S now) xs
  pub are : map (at now) xs ≡ map given (take i ws)
  pub refused : refusals ws ≡ refusals (drop i ws)

-- the refusals of a list are those of its elements, in their order
pub record InOrder {W : Type 0} (refusal : W → Option Refusal) (refusals : List W → Option Refusal) : Type 0 where
  pub none : refusals [] ≡ None
  pub more : (w : W) (ws : List W) → refusals (w ∷ ws) ≡ first (refusal w) (refusals ws)

module _ {W X Y : Type 0} (S : Content → X → Type 0) (at : Content → X → Y) (stays : Stays S at) (refusal : W → Option Refusal) (refusals : List W → Option Refusal) (order : InOrder refusal refusals) (given : W → Y) (bank : Content) (ws : List W) where
  pub none_read : (xs : List X) → xs ≡ [] → IsReadSoFar S at refusals given bank bank ws 0 xs
  none_read xs e = record { grows = Grows-refl bank; stand = subst (All (S bank)) (sym e) (All-none (S bank)); are = ap (map (at bank)) e; refused = refl }

  at_place : (now : Content) (i : ℕ) (xs : List X) (w : W) → i < length ws → w ≡ get_or ws i w → IsReadSoFar S at refusals given bank now ws i xs → refusals ws ≡ first (refusal w) (refusals (drop (i + 1) ws))
  at_place now i xs w lt is h =
      h.refused ∙ ap refusals (drop-cons ws i w lt) ∙ order.more (get_or ws i w) (drop (suc i) ws) ∙
      ap (λ v. first (refusal v) (refusals (drop (suc i) ws))) (sym is) ∙ ap (λ n. first (refusal w) (refusals (drop n ws))) (sym (add-one i))

  pub one_read : (now new : Content) (i : ℕ) (xs pushed : List X) (w : W) (x : X) → i < length ws → w ≡ get_or ws i w → IsReadSoFar S at refusals given bank now ws i xs → Grows now new → pushed ≡ xs ++ x ∷ []
      → IsReadAs (S new) (at new) (refusal w) (given w) x → IsReadSoFar S at refusals given bank new ws (i + 1) pushed
  one_read now new i xs pushed w x lt is h grows more read = record {
    grows = Grows-trans bank now new h.grows grows;
    stand = all_more S at stays now new grows xs pushed x more h.stand read.stands;
    are =
        map_pushed S at stays now new grows xs pushed x (map given (take i ws)) (given w) more h.stand h.are read.is ∙
        ap (λ v. map given (take i ws) ++ given v ∷ []) is ∙ sym (map_more given ws i w lt);
    refused = at_place now i xs w lt is h ∙ ap (λ r. first r (refusals (drop (i + 1) ws))) read.unrefused;
  }

  pub one_told : (now : Content) (i : ℕ) (xs : List X) (w : W) (fault : EventFault) → i < length ws → w ≡ get_or ws i w → IsReadSoFar S at refusals given bank now ws i xs → IsToldOf (refusal w) fault → IsToldOf (refusals ws) fault
  one_told now i xs w fault lt is h told =
      subst (λ r. IsToldOf r fault) (sym (at_place now i xs w lt is h)) (told_first (refusal w) (refusals (drop (i + 1) ws)) fault told)

  pub all_are : (now : Content) (i : ℕ) (xs : List X) → length ws ≤ i → IsReadSoFar S at refusals given bank now ws i xs → map (at now) xs ≡ map given ws
  all_are now i xs past h = h.are ∙ ap (map given) (take_all i ws past)

  pub none_refused : (now : Content) (i : ℕ) (xs : List X) → length ws ≤ i → IsReadSoFar S at refusals given bank now ws i xs → refusals ws ≡ None
  none_refused now i xs past h = h.refused ∙ ap refusals (drop_all i ws past) ∙ order.none
