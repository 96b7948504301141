use Rattle.std.proofs.Common.{◌≤◌, ◌+◌, ◌∷◌, ◌∙◌, [], Err, ap, arith, refl, sym, subst}
use Rattle.nq_logic.specs.Terms.{Each, Substitution, substituted}
use Rattle.nq_logic.specs.Ground.{symbols_of}
use Rattle.nq_logic.specs.Sizes.{depth_of}
use Rattle.nq_bank.specs.Content.{IsIdOf, term_at}
use Rattle.nq_clause.specs.declared.substitution.Pair.{Pair}
use Rattle.nq_clause.specs.Substitution.{substitution_at}
use Rattle.nq_proof.specs.Rules.{pair_terms}
use Rattle.nq_history.proofs.HistoryLemmas.{events_at-grown}
use Rattle.nq_kernel.specs.declared.work.Work.{Work}
use Rattle.nq_kernel.specs.Over.{IsTermOf, IsVariable}
use Rattle.nq_lines.proofs.TermLemmas.{id_in}
use Rattle.nq_steps.proofs.NameLemmas.{no_names}
use Rattle.nq_replay.proofs.UncountedLemmas.{bank_uncounted}
use Rattle.nq_part_lines.specs.Defaulted.{put}
use Rattle.nq_part_lines.specs.Known.{row_room}
use Rattle.nq_part_lines.specs.LawLines.{term_room}
use Rattle.nq_part_lines.proofs.DefaultedLemmas.{one_pair, one_stands, put_over}
use Rattle.nq_part_lines.proofs.PutLemmas.{put_low}
use Rattle.nq_part_lines.proofs.TermLemmas.{not_both}
use Rattle.nq_part_lines.proofs.defaulted.term_with.Goals as goal

pub pair_with-pair-requires-clause-variable : goal.pair_with-pair-requires-clause-variable
pair_with-pair-requires-clause-variable c = c.requires.variable.inside.stands

pub pair_with-pair-requires-clause-term : goal.pair_with-pair-requires-clause-term
pair_with-pair-requires-clause-term c = c.requires.default.inside.stands

pub substitute-requires-clause-stands : goal.substitute-requires-clause-stands
substitute-requires-clause-stands c = c.requires.term.inside.stands

pub substitute-requires-clause-pairs : goal.substitute-requires-clause-pairs
substitute-requires-clause-pairs c = one_stands c.args.work.now.bank (c.pair_with-pair.result ∷ []) c.pair_with-pair.result refl c.pair_with-pair.ensures.stands

pub unreachable-requires : goal.unreachable-requires
unreachable-requires c =
    let w = c.args.work.now in
    let p : Pair = c.pair_with-pair.result in
    let s : Substitution = substitution_at w.bank (p ∷ []) in
    let pairs = one_pair w.bank (p ∷ []) p c.args.default c.args.variable c.requires.is.0 refl c.pair_with-pair.ensures.variable c.pair_with-pair.ensures.term c.requires.is.1 in
    let room : depth_of (term_at w.bank c.args.t) ≤ row_room = c.requires.low in
    let low = put_low c.args.history.now w s (subst (λ s. Each (λ u. depth_of u ≤ row_room) (pair_terms s)) (sym pairs) (c.requires.shallow, tt)) (term_at w.bank c.args.t) c.requires.term.inside.over in
    not_both (depth_of (substituted s (term_at w.bank c.args.t))) (omega (arith, low, room)) (c.substitute.ensures.deep (c.in-Err-Deep.is ∙ ap Err c.in-Err-Deep.field-0-is))

pub returns-in-Ok-clause-term : goal.returns-in-Ok-clause-term
returns-in-Ok-clause-term c x e =
    let w = c.args.work.now in
    let p : Pair = c.pair_with-pair.result in
    let pairs = one_pair w.bank (p ∷ []) p c.args.default c.args.variable x refl c.pair_with-pair.ensures.variable c.pair_with-pair.ensures.term e in
    subst (λ s. IsIdOf c.substitute.new.bank c.in-Ok.u (substituted s (term_at w.bank c.args.t))) pairs c.in-Ok.ensures.ok

pub returns-in-Ok-clause-small : goal.returns-in-Ok-clause-small
returns-in-Ok-clause-small c =
    let h = c.args.history.now in
    let w : Work = c.args.work.now in
    let new : Work = record w { bank = c.substitute.new.bank } in
    let p : Pair = c.pair_with-pair.result in
    let x = c.requires.is.0 in
    let d = term_at w.bank c.args.default in
    let t = term_at w.bank c.args.t in
    let pairs = one_pair w.bank (p ∷ []) p c.args.default c.args.variable x refl c.pair_with-pair.ensures.variable c.pair_with-pair.ensures.term c.requires.is.1 in
    let is : IsIdOf new.bank c.in-Ok.u (put x d t) = subst (λ s. IsIdOf new.bank c.in-Ok.u (substituted s t)) pairs c.in-Ok.ensures.ok in
    let over = put_over h w x c.args.default c.args.t c.requires.default c.requires.term in
    let room : depth_of t ≤ row_room = c.requires.low in
    let low : depth_of (put x d t) ≤ depth_of t + row_room = put_low h w ((x, d) ∷ []) (c.requires.shallow, tt) t c.requires.term.inside.over in
    let few : depth_of (put x d t) ≤ term_room = omega (arith, low, room) in
    record {
      inside = id_in h new c.in-Ok.u (put x d t) is (subst (λ es. IsTermOf IsVariable (symbols_of es) (put x d t)) (sym (events_at-grown w.bank new.bank c.substitute.ensures.grows h c.requires.stands.history.entries)) over);
      room = subst (λ u. depth_of u ≤ term_room) (sym is.denotes) few;
    }

pub returns-in-Ok-clause-grows : goal.returns-in-Ok-clause-grows
returns-in-Ok-clause-grows c = bank_uncounted c.args.history.now c.args.work.now c.substitute.new.bank c.requires.stands c.substitute.ensures.grows (no_names c.args.work.now.bank c.substitute.new.bank c.substitute.ensures.names)

pub returns-in-Err-Memory-clause-grows : goal.returns-in-Err-Memory-clause-grows
returns-in-Err-Memory-clause-grows c = bank_uncounted c.args.history.now c.args.work.now c.substitute.new.bank c.requires.stands c.substitute.ensures.grows (no_names c.args.work.now.bank c.substitute.new.bank c.substitute.ensures.names)
