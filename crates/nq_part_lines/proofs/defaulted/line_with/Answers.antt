use Rattle.std.proofs.Common.{◌≡◌, ◌≤◌, ◌∷◌, [], map, arith, sym, subst}
use Rattle.nq_logic.specs.Terms.{Each, Name, Variable, substituted}
use Rattle.nq_logic.specs.Sizes.{depth_of}
use Rattle.nq_logic.specs.Words.{not_term}
use Rattle.nq_bank.specs.Content.{term_at}
use Rattle.nq_clause.specs.Substitution.{substitution_at}
use Rattle.nq_proof.specs.Rules.{pair_terms}
use Rattle.nq_rule.proofs.Made.{for_ok}
use Rattle.nq_arith.specs.Nests.{is_smaller}
use Rattle.nq_lines.specs.Instances.{InstancesTo}
use Rattle.nq_lines.specs.Lines.{LineHasOnly}
use Rattle.nq_lines.proofs.LineLemmas.{only_stands}
use Rattle.nq_replay.proofs.UncountedLemmas.{grown_refl}
use Rattle.nq_part_lines.specs.Defaulted.{put}
use Rattle.nq_part_lines.specs.Known.{row_room}
use Rattle.nq_part_lines.proofs.PutLemmas.{put_literals, put_shallow}
use Rattle.nq_part_lines.proofs.RoomLemmas.{variable_low}
use Rattle.nq_part_lines.proofs.defaulted.line_with.Goals as goal

pub pairs_with-requires-clause-variable : goal.pairs_with-requires-clause-variable
pairs_with-requires-clause-variable c = c.requires.low.variable

pub pairs_with-requires-clause-is : goal.pairs_with-requires-clause-is
pairs_with-requires-clause-is c = c.requires.low.is

pub pairs_with-requires-clause-term : goal.pairs_with-requires-clause-term
pairs_with-requires-clause-term c = c.requires.low.default

pub instance-requires-clause-line : goal.instance-requires-clause-line
instance-requires-clause-line c = only_stands c.args.work.now c.args.line _ c.requires.line

pub instance-requires-clause-shallow : goal.instance-requires-clause-shallow
instance-requires-clause-shallow c =
    let w = c.args.work.now in
    let p = c.args.piece in
    let k = c.requires.low in
    let pairs = c.in_ok-pairs.ensures.pairs k.is.0 k.is.1 in
    let plain = variable_low k.is.0 in
    let low : depth_of (Variable k.is.0) ≤ row_room = omega (arith, plain) in
    put_shallow c.args.history.now w (substitution_at w.bank c.in_ok-pairs.pairs.items) (subst (λ s. Each (λ u. depth_of u ≤ row_room) (pair_terms s)) (sym pairs) (k.default_low, tt)) c.args.line (term_at w.bank p.allowed) (term_at w.bank p.variable) (term_at w.bank p.object) c.requires.line k.allowed.inside.over k.variable.inside.over k.object.inside.over k.allowed_low (subst (λ u. depth_of u ≤ row_room) (sym k.is.1) low) k.object_low

pub returns-in_err-pairs-clause-grows : goal.returns-in_err-pairs-clause-grows
returns-in_err-pairs-clause-grows c = grown_refl c.args.history.now c.args.work.now c.requires.stands

pub returns-clause-line : goal.returns-clause-line
returns-clause-line c =
    let w = c.args.work.now in
    let new = c.instance.new.work in
    let d = term_at w.bank c.args.default in
    let a = term_at w.bank c.args.piece.allowed in
    let v = term_at w.bank c.args.piece.variable in
    let o = term_at w.bank c.args.piece.object in
    for_ok c.instance.result (InstancesTo w new (substitution_at w.bank c.in_ok-pairs.pairs.items) c.args.line) (λ n. (x : Name) → v ≡ Variable x → LineHasOnly new n (not_term (put x d a) ∷ is_smaller d (put x d o) ∷ [])) (λ n f x e.
    subst (LineHasOnly new n) (put_literals x d a v o e) (subst (λ s. LineHasOnly new n (map (substituted s) (not_term a ∷ is_smaller v o ∷ []))) (c.in_ok-pairs.ensures.pairs x e) (f (not_term a ∷ is_smaller v o ∷ []) c.requires.line))) c.instance.ensures.line
