-- Moves that were made last while the bank grows.
use Rattle.std.proofs.Common.{◌≡◌, List, [], ◌∷◌, get_or, refl, sym, ap, ◌∙◌, subst}
use Rattle.std.specs.Prelude.{All, Vec}
use Rattle.std.specs.declared.alloc.Global.{Global}
use Rattle.nq_logic.specs.Terms.{IsAmong}
use Rattle.nq_bank.specs.declared.node.TermId.{TermId}
use Rattle.nq_bank.specs.Content.{Content, Stands, Grows, text_at, term_at, terms_at}
use Rattle.nq_bank.proofs.NodesLemmas.{All-head, All-tail}
use Rattle.nq_bank.proofs.Growth.{Grows-trans, Stands-grown, IsNamed-grown, text_at-grown, term_at-grown, terms_at-grown}
use Rattle.nq_bank.proofs.Standing.{stand_grown}
use Rattle.nq_moves.specs.declared.moved.Moved.{Moved}
use Rattle.nq_moves.specs.declared.substituting.Found.{Found}
use Rattle.nq_goals.specs.Substituting.{substitutions_of, substituted_goal}
use Rattle.nq_moves.specs.Found.{goals_at, GoalsStand, FoundStands, substituting_at, IsSubstituted}

pub goals_grown : (old new : Content) (goals : List (Vec TermId Global)) → Grows old new → All (λ goal. All (Stands old) goal.items) goals → goals_at new goals ≡ goals_at old goals
goals_grown old new [] h k = refl
goals_grown old new (g ∷ goals) h k =
    ap (λ c. c ∷ goals_at new goals) (terms_at-grown old new g.items h (All-head (λ goal. All (Stands old) goal.items) g goals k)) ∙
    ap (λ cs. terms_at old g.items ∷ cs) (goals_grown old new goals h (All-tail (λ goal. All (Stands old) goal.items) g goals k))

pub goals_stand_grown : (old new : Content) (goals : List (Vec TermId Global)) → Grows old new → GoalsStand old goals → GoalsStand new goals
goals_stand_grown old new goals h k = record { each = λ i d below. stand_grown old new (get_or goals i d).items h (k.each i d below) }

found_grown : (old new : Content) (f : Found) → Grows old new → FoundStands old f → substituting_at new f ≡ substituting_at old f
found_grown old new f h k =
    ap (λ t. record { literal = t; variable = text_at new f.variable; term = term_at new f.term }) (term_at-grown old new f.literal h k.literal) ∙
    ap (λ x. record { literal = term_at old f.literal; variable = x; term = term_at new f.term }) (text_at-grown old new f.variable h k.variable) ∙
    ap (λ t. record { literal = term_at old f.literal; variable = text_at old f.variable; term = t }) (term_at-grown old new f.term h k.term)

pub substituted_lasts : (old new later : Content) (goal : List TermId) (moved : Moved) → Grows old new → Grows new later → All (Stands old) goal → IsSubstituted old new goal moved → IsSubstituted later later goal moved
substituted_lasts old new later goal moved before after stand m =
    let g = Grows-trans old new later before after in
    let f : Found = m.found in
    let same = found_grown old later f g m.is.stands in
    let goals = terms_at-grown old later goal g stand in
    record {
      kind = m.kind;
      found = f;
      is = record {
        stands = record {
          literal = Stands-grown old later f.literal g m.is.stands.literal;
          variable = IsNamed-grown old later f.variable g m.is.stands.variable;
          term = Stands-grown old later f.term g m.is.stands.term;
        };
        among =
            subst (λ c. IsAmong (substituting_at later f) (substitutions_of c)) (sym goals)
            (subst (λ s. IsAmong s (substitutions_of (terms_at old goal))) (sym same) m.is.among);
      };
      leads =
          goals_grown new later moved.children.items after m.stand.each ∙ m.leads ∙
          ap (λ s. substituted_goal s (terms_at old goal) ∷ []) (sym same) ∙ ap (λ c. substituted_goal (substituting_at later f) c ∷ []) (sym goals);
      stand = record { each = λ i d below. stand_grown new later (get_or moved.children.items i d).items after (m.stand.each i d below) };
      pairs = m.pairs;
      literals = m.literals;
    }
