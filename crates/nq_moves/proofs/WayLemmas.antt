-- Ways back from the goals to which moves led.
use Rattle.std.proofs.Common.{◌≡◌, ◌<◌, ℕ, zero, suc, Option, Some, None, List, [], ◌∷◌, length, map, get_or, refl, sym, ap, ◌∙◌, subst, inl, inr, arith}
use Rattle.std.specs.Prelude.{All, IfSome, IfOk, Result, Ok, Err, Vec, MatchOption}
use Rattle.std.specs.declared.alloc.Global.{Global}
use Rattle.nq_logic.specs.Terms.{Term, IsAmong, substituted}
use Rattle.nq_logic.specs.Ground.{symbols_of}
use Rattle.nq_bank.specs.declared.node.TermId.{TermId}
use Rattle.nq_bank.specs.Content.{Stands, term_at, terms_at}
use Rattle.nq_bank.proofs.NodesLemmas.{All-head, All-tail}
use Rattle.nq_bank.proofs.Growth.{Grows-refl}
use Rattle.nq_clause.proofs.SubstitutionLemmas.{substitution_at-grown}
use Rattle.nq_proof.specs.Clauses.{Clause, without, distinct}
use Rattle.nq_history.specs.declared.entry.Entry.{Entry}
use Rattle.nq_history.specs.Events.{events_at}
use Rattle.nq_kernel.specs.declared.work.Work.{Work}
use Rattle.nq_kernel.specs.declared.verdict.MoveKind.{MoveKind}
use Rattle.nq_kernel.specs.declared.verdict.MoveKind.TheVariants as kind
use Rattle.nq_kernel.specs.Growing.{WorkStands, WorkGrows}
use Rattle.nq_kernel.specs.Over.{IsVariable}
use Rattle.nq_lines.specs.Lines.{IsTermIn, AreAmong}
use Rattle.nq_lines.proofs.LineLemmas.{from_distinct}
use Rattle.nq_lines.proofs.InstanceLemmas.{pairs_in_grown}
use Rattle.nq_lines.proofs.FactLemmas.{substituted_over}
use Rattle.nq_goals.specs.Substituting.{substituted_goal}
use Rattle.nq_goals.specs.Dropping.{others}
use Rattle.nq_goals.specs.Replacing.{exchanged}
use Rattle.nq_goals.specs.Generalizing.{exchange_of}
use Rattle.nq_moves.specs.declared.moved.Moved.{Moved}
use Rattle.nq_moves.specs.Found.{goals_at, GoalsStand, substituting_at, IsSubstituted}
use Rattle.nq_moves.specs.Dropped.{IsDropped, IsLeft}
use Rattle.nq_moves.specs.declared.moved.Crossing.{Crossing}
use Rattle.nq_moves.specs.declared.readings.Reading.{Reading}
use Rattle.nq_moves.specs.Swapped.{IsSwapped, IsSwapping}
use Rattle.nq_moves.specs.Renamed.{IsRenamed, AreNewIn}
use Rattle.nq_moves.specs.Ways.{WayOf, IsWay, IsMove}
use Rattle.nq_moves.proofs.ClosingLemmas.{IsInWork, each_over, all_stand, term_in, without_among}
use Rattle.nq_moves.proofs.OverLemmas.{in_grown, ids_in, mapped_in, one_child_in}
use Rattle.nq_moves.proofs.DroppingLemmas.{others_among}
use Rattle.nq_moves.proofs.LastingLemmas.{goals_grown, goals_stand_grown, substituted_lasts}
use Rattle.nq_moves.proofs.EliminatedLemmas.{eliminated_lasts}
use Rattle.nq_moves.proofs.SwappedLemmas.{goal_same, swapping_grown, swapped_grown}

-- goals of terms that are in are in
module _ (history : List Entry) (work : Work) where
  pub goals_in : (children : List (Vec TermId Global)) (goals : List Clause) → goals_at work.bank children ≡ goals → All (λ child. All (Stands work.bank) child.items) children → ((c : Clause) → IsAmong c goals → (t : Term) → IsAmong t c → IsInWork history work t) → All (λ child. All (IsTermIn history work) child.items) children
  goals_in [] goals is stand each = λ k d below. absurd (omega (arith, below))
  goals_in (x ∷ children) [] is stand each = absurd cc
  goals_in (x ∷ children) (g ∷ goals) is stand each =
      let first : terms_at work.bank x.items ≡ g = cc in
      let rest : goals_at work.bank children ≡ goals = cc in
      let here : All (IsTermIn history work) x.items = ids_in history work x.items (All-head (λ child. All (Stands work.bank) child.items) x children stand) (λ t m. each g (inl refl) t (subst (IsAmong t) first m)) in
      let later = goals_in children goals rest (All-tail (λ child. All (Stands work.bank) child.items) x children stand) (λ c m. each c (inr m)) in
      λ k d below. at_place here later k d below
    where
      at_place : All (IsTermIn history work) x.items → All (λ child. All (IsTermIn history work) child.items) children → (k : ℕ) (d : Vec TermId Global) → k < length (x ∷ children) → All (IsTermIn history work) (get_or (x ∷ children) k d).items
      at_place here later zero d below = here
      at_place here later (suc k) d below = later k d (omega (arith, below))

  -- the one goal
  pub one_goal_in : (children : List (Vec TermId Global)) (goal : Clause) → goals_at work.bank children ≡ goal ∷ [] → GoalsStand work.bank children → ((t : Term) → IsAmong t goal → IsInWork history work t) → All (λ child. All (IsTermIn history work) child.items) children
  one_goal_in children goal is stand each = goals_in children (goal ∷ []) is stand.each (λ c m t k. each t (subst (IsAmong t) (only c m) k))
    where
      only : (c : Clause) → IsAmong c (goal ∷ []) → c ≡ goal
      only c (inl e) = e
      only c (inr none) = absurd none

-- SUBST
module _ (history : List Entry) (old new : Work) (stood : WorkStands history old) (grows : WorkGrows history old new) (goal : List TermId) (all : All (IsTermIn history old) goal) (moved : Moved) where
  pub substituted_move : IsSubstituted old.bank new.bank goal moved → IsMove history new goal moved
  substituted_move m =
      let f = m.found in
      let c : Clause = without (term_at old.bank f.literal) (terms_at old.bank goal) in
      let symbols = symbols_of (events_at old.bank history) in
      let s = substituting_at old.bank f in
      let put : Term → Term = substituted ((s.variable, s.term) ∷ []) in
      let into = (term_in history old goal f all m.is).over in
      let each : (t : Term) → IsAmong t (substituted_goal s (terms_at old.bank goal)) → IsInWork history new t =
      λ t k. in_grown history old new t stood grows
      (mapped_in history old put c (λ u q. substituted_over IsVariable symbols ((s.variable, s.term) ∷ []) u (into, tt) (each_over history old goal all u (without_among (term_at old.bank f.literal) (terms_at old.bank goal) u q))) t (from_distinct t (map put c) k)) in
      let way : IsSubstituted new.bank new.bank goal moved = substituted_lasts old.bank new.bank new.bank goal moved grows.bank (Grows-refl new.bank) (all_stand history old goal all) m in
      record {
        way = subst (λ k. WayOf k history new goal moved) (sym m.kind) way;
        children_in = one_goal_in history new moved.children.items (substituted_goal s (terms_at old.bank goal)) m.leads m.stand each;
      }

-- IRR
module _ (history : List Entry) (work : Work) (goal : List TermId) (all : All (IsTermIn history work) goal) (moved : Moved) where
  pub dropped_move : IsDropped work.bank (events_at work.bank history) goal moved → IsMove history work goal moved
  dropped_move m =
      let c : Clause = others m.group (terms_at work.bank goal) in
      let within : AreAmong c (terms_at work.bank goal) = λ t k. others_among m.group (terms_at work.bank goal) t k in
      let way : IsLeft work.bank goal moved = record { child = c; within = within; leads = m.leads; stand = m.stand } in
      record {
        way = subst (λ k. WayOf k history work goal moved) (sym m.kind) way;
        children_in = one_goal_in history work moved.children.items c m.leads m.stand (λ t k. each_over history work goal all t (within t k));
      }

-- what is some by an exact answer
pub some_of : (N : Type 0) (P Q : Moved → Type 0) (o : Option Moved) → ((m : Moved) → P m → Q m) → MatchOption o N P → IfSome o Q
some_of N P Q None f h = tt
some_of N P Q (Some m) f h = f m h

-- the ways last
module _ (history : List Entry) (old new : Work) (stood : WorkStands history old) (grows : WorkGrows history old new) (goal : List TermId) (all : All (IsTermIn history old) goal) (moved : Moved) where
  left_lasts : IsLeft old.bank goal moved → IsLeft new.bank goal moved
  left_lasts m =
      record {
        child = m.child;
        within = subst (AreAmong m.child) (sym (goal_same history old new stood grows goal all)) m.within;
        leads = goals_grown old.bank new.bank moved.children.items grows.bank m.stand.each ∙ m.leads;
        stand = goals_stand_grown old.bank new.bank moved.children.items grows.bank m.stand;
      }

  renamed_lasts : IsRenamed history old goal moved → IsRenamed history new goal moved
  renamed_lasts m =
      let same = goal_same history old new stood grows goal all in
      record {
        names = m.names;
        terms = m.terms;
        stand = goals_stand_grown old.bank new.bank moved.children.items grows.bank m.stand;
        leads =
            goals_grown old.bank new.bank moved.children.items grows.bank m.stand.each ∙ m.leads ∙
            ap (λ c. distinct (map (exchanged (exchange_of m.terms m.names)) c) ∷ []) (sym same);
        pairs = substitution_at-grown old.bank new.bank moved.why.pairs.items grows.bank m.over.stand ∙ m.pairs;
        over = pairs_in_grown history old new moved.why.pairs.items stood grows m.over;
        apart = m.apart;
        new = subst (AreNewIn m.names) (sym same) m.new;
      }

  lasts_by : (k : MoveKind) → WayOf k history old goal moved → WayOf k history new goal moved
  lasts_by kind.Simp h = h
  lasts_by kind.Subst h = substituted_lasts old.bank old.bank new.bank goal moved (Grows-refl old.bank) grows.bank (all_stand history old goal all) h
  lasts_by kind.Elim h = eliminated_lasts history old new stood grows goal all moved h
  lasts_by kind.Fert h = swapped_grown history old new stood grows goal all moved h
  lasts_by kind.Gen h = renamed_lasts h
  lasts_by kind.Irr h = left_lasts h
  lasts_by kind.Ind h = h

  pub way_lasts : IsWay history old goal moved → IsWay history new goal moved
  way_lasts h = lasts_by moved.why.kind h

-- what holds of an answer by four facts
pub four_ok : {X E : Type 0} (r : Result X E) (P Q R S W : X → Type 0) → ((x : X) → P x → Q x → R x → S x → W x) → IfOk r P → IfOk r Q → IfOk r R → IfOk r S → IfOk r W
four_ok (Ok x) P Q R S W f p q k s = f x p q k s
four_ok (Err e) P Q R S W f p q k s = p

-- FERT
module _ (history : List Entry) (old new : Work) (stood : WorkStands history old) (grows : WorkGrows history old new) (goal : List TermId) (all : All (IsTermIn history old) goal) (r : Reading) (crossing : Option Crossing) (child : Vec TermId Global) (moved : Moved) where
  pub swapped_move : IsSwapping history old goal r crossing (terms_at new.bank child.items) → All (IsTermIn history new) child.items → moved.why.kind ≡ kind.Fert → moved.children.items ≡ child ∷ [] → moved.why.literals.items ≡ r.literal ∷ r.from ∷ r.into ∷ [] → moved.why.crossing ≡ crossing → IsMove history new goal moved
  swapped_move h over is children literals crosses =
      let now : IsSwapping history new goal r crossing (terms_at new.bank child.items) = swapping_grown history old new stood grows goal all r crossing (terms_at new.bank child.items) h in
      let way : IsSwapped history new goal moved = record {
        reading = r;
        child = terms_at new.bank child.items;
        swapping = subst (λ o. IsSwapping history new goal r o (terms_at new.bank child.items)) (sym crosses) now;
        leads = ap (goals_at new.bank) children;
        stand = record { each = subst (All (λ c. All (Stands new.bank) c.items)) (sym children) (λ k d below. one_place k d below) };
        literals = literals;
      } in
      record {
        way = subst (λ k. WayOf k history new goal moved) (sym is) way;
        children_in = one_child_in history new moved.children.items child children over;
      }
    where
      one_place : (k : ℕ) (d : Vec TermId Global) → k < 1 → All (Stands new.bank) (get_or (child ∷ []) k d).items
      one_place zero d below = all_stand history new child.items over
      one_place (suc k) d below = absurd (omega (arith, below))
