-- GEN, and the way back.
use Rattle.std.proofs.Common.{◌≡◌, ◌<◌, ℕ, zero, suc, List, [], ◌∷◌, length, get_or, refl, sym, ap, ◌∙◌, subst, arith}
use Rattle.std.specs.Prelude.{All, Vec, Result, Ok, Err, IfOk}
use Rattle.std.specs.declared.alloc.Global.{Global}
use Rattle.nq_logic.specs.Terms.{IsAmong}
use Rattle.nq_bank.specs.declared.node.TermId.{TermId}
use Rattle.nq_bank.specs.Content.{Content, Stands, terms_at}
use Rattle.nq_clause.specs.declared.substitution.Pair.{Pair}
use Rattle.nq_clause.specs.Substitution.{substitution_at}
use Rattle.nq_proof.specs.Clauses.{Clause, distinct}
use Rattle.nq_proof.specs.Rules.{pair_terms}
use Rattle.nq_history.specs.declared.entry.Entry.{Entry}
use Rattle.nq_kernel.specs.declared.work.Work.{Work}
use Rattle.nq_kernel.specs.declared.work.Stop.{Stop}
use Rattle.nq_kernel.specs.declared.verdict.MoveKind.TheVariants as kind
use Rattle.nq_kernel.specs.Over.{pair_names}
use Rattle.nq_lines.specs.Lines.{IsTermIn}
use Rattle.nq_lines.specs.Instances.{ArePairsIn}
use Rattle.nq_lines.proofs.LineLemmas.{from_distinct}
use Rattle.nq_moves.specs.declared.moved.Moved.{Moved}
use Rattle.nq_moves.specs.declared.naming.Renaming.{Renaming}
use Rattle.nq_moves.specs.Found.{goals_at}
use Rattle.nq_moves.specs.Naming.{IsRenaming}
use Rattle.nq_moves.specs.Renamed.{IsRenamed}
use Rattle.nq_moves.specs.Ways.{WayOf, IsMove}
use Rattle.nq_moves.proofs.ClosingLemmas.{some_in}
use Rattle.nq_moves.proofs.NamingLemmas.{terms_for_own}
use Rattle.nq_moves.proofs.OverLemmas.{one_child_in}

module _ (history : List Entry) (work : Work) (goal : List TermId) (r : Renaming) (child : Vec TermId Global) (moved : Moved) where
  pub renamed_move : IsRenaming history work goal r → All (Stands work.bank) child.items → terms_at work.bank child.items ≡ distinct (terms_at work.bank r.literals.items) → moved.why.kind ≡ kind.Gen → moved.children.items ≡ child ∷ [] → moved.why.pairs ≡ r.pairs → IsMove history work goal moved
  renamed_move h stand is gen children pairs =
      let s = substitution_at work.bank r.pairs.items in
      let own : substitution_at work.bank moved.why.pairs.items ≡ s = ap (λ (v : Vec Pair Global). substitution_at work.bank v.items) pairs in
      let way : IsRenamed history work goal moved = record {
        names = pair_names s;
        terms = pair_terms s;
        stand = record { each = subst (All (λ c. All (Stands work.bank) c.items)) (sym children) (λ k d below. one_place k d below) };
        leads = ap (goals_at work.bank) children ∙ ap (λ c. c ∷ []) (is ∙ ap distinct h.renamed);
        pairs = own ∙ terms_for_own s;
        over = subst (λ (v : Vec Pair Global). ArePairsIn history work v.items) (sym pairs) h.over;
        apart = h.apart;
        new = h.new;
      } in
      let over : All (IsTermIn history work) child.items = some_in history work r.literals.items child.items h.literals_in stand (λ t m. from_distinct t (terms_at work.bank r.literals.items) (subst (IsAmong t) is m)) in
      record {
        way = subst (λ k. WayOf k history work goal moved) (sym gen) way;
        children_in = one_child_in history work moved.children.items child children over;
      }
    where
      one_place : (k : ℕ) (d : Vec TermId Global) → k < 1 → All (Stands work.bank) (get_or (child ∷ []) k d).items
      one_place zero d below = stand
      one_place (suc k) d below = absurd (omega (arith, below))

-- what holds of an answer by three facts
pub three_ok : {X E : Type 0} (r : Result X E) (P Q R W : X → Type 0) → ((x : X) → P x → Q x → R x → W x) → IfOk r P → IfOk r Q → IfOk r R → IfOk r W
three_ok (Ok x) P Q R W f p q k = f x p q k
three_ok (Err e) P Q R W f p q k = p

-- what stands in a list does not hang on what stands past its end
pub same_default : (xs : List TermId) (i : ℕ) (d e : TermId) → i < length xs → get_or xs i d ≡ get_or xs i e
same_default [] i d e below = absurd (omega (arith, below))
same_default (x ∷ xs) zero d e below = refl
same_default (x ∷ xs) (suc i) d e below = same_default xs i d e (omega (arith, below))

-- the one goal of a move
pub one_child_leads : (bank : Content) (r : Result Moved Stop) (child : Vec TermId Global) (c : Clause) → terms_at bank child.items ≡ c → IfOk r (λ m. m.children.items ≡ child ∷ []) → IfOk r (λ m. goals_at bank m.children.items ≡ c ∷ [])
one_child_leads bank (Ok m) child c is only = ap (goals_at bank) only ∙ ap (λ x. x ∷ []) is
one_child_leads bank (Err e) child c is only = only
