-- The goals to which eliminations lead, over ids.
use Rattle.std.proofs.Common.{◌≡◌, List, [], ◌∷◌, map, refl, ap}
use Rattle.std.specs.Prelude.{All, Vec}
use Rattle.std.specs.declared.alloc.Global.{Global}
use Rattle.nq_bank.specs.declared.node.TermId.{TermId}
use Rattle.nq_bank.specs.Content.{Content, term_at, terms_at}
use Rattle.nq_bank.proofs.NodesLemmas.{All-head, All-tail}
use Rattle.nq_moves.specs.Found.{goals_at}
use Rattle.nq_elim.specs.declared.cases.Case.{Case}
use Rattle.nq_elim.specs.Cases.{next_ids, case_goals}
use Rattle.nq_elim.specs.Eliminations.{ids_of}
use Rattle.nq_elim.proofs.ListLemmas.{all_none, all_cons}

-- the goals of ids
pub goals_ids : (bank : Content) (goals : List (Vec TermId Global)) → goals_at bank goals ≡ map (terms_at bank) (ids_of goals)
goals_ids bank [] = refl
goals_ids bank (g ∷ goals) = ap (λ gs. terms_at bank g.items ∷ gs) (goals_ids bank goals)

pub case_goals_ids : (bank : Content) (cases : List Case) (goal : List TermId) → map (terms_at bank) (next_ids cases goal) ≡ case_goals bank cases (terms_at bank goal)
case_goals_ids bank [] goal = refl
case_goals_ids bank (c ∷ cases) goal = ap (λ gs. (term_at bank c.other ∷ terms_at bank goal) ∷ gs) (case_goals_ids bank cases goal)

-- what holds of each list of ids
pub all_ids : (Q : List TermId → Type 0) (goals : List (Vec TermId Global)) → All (λ g. Q g.items) goals → All Q (ids_of goals)
all_ids Q [] h = all_none Q
all_ids Q (g ∷ goals) h = all_cons Q g.items (ids_of goals) (All-head (λ g. Q g.items) g goals h) (all_ids Q goals (All-tail (λ g. Q g.items) g goals h))

pub ids_all : (Q : List TermId → Type 0) (goals : List (Vec TermId Global)) → All Q (ids_of goals) → All (λ g. Q g.items) goals
ids_all Q [] h = all_none (λ g. Q g.items)
ids_all Q (g ∷ goals) h = all_cons (λ g. Q g.items) g goals (All-head Q g.items (ids_of goals) h) (ids_all Q goals (All-tail Q g.items (ids_of goals) h))
