use Rattle.std.proofs.Common.{◌≡◌, ◌∙◌, ap, refl, sym, subst}
use Rattle.nq_logic.specs.Terms.{Function, IsAmong}
use Rattle.nq_logic.specs.Ground.{symbols_of}
use Rattle.nq_logic.specs.Shells.{part_variable, restricted}
use Rattle.nq_bank.specs.Content.{term_at, text_at}
use Rattle.nq_bank.specs.Shells.{part_at}
use Rattle.nq_bank.proofs.Growth.{IsNamed-grown, text_at-grown}
use Rattle.nq_history.specs.Events.{events_at}
use Rattle.nq_lines.specs.Lines.{CutsTo}
use Rattle.nq_lines.proofs.LineLemmas.{line_grown, only_stands}
use Rattle.nq_lines.proofs.TermLemmas.{same_term_grown, term_grown}
use Rattle.nq_replay.proofs.UncountedLemmas.{grown_trans}
use Rattle.nq_part_lines.specs.Defaulted.{put}
use Rattle.nq_part_lines.specs.Defaults.{truth_name, truth_term}
use Rattle.nq_part_lines.specs.Wholes.{part_name}
use Rattle.nq_part_lines.proofs.DefaultedLemmas.{allowed_cut, defaulted_same, low_still, truth_in}
use Rattle.nq_part_lines.proofs.KnownGrowth.{one_grown, three_steps}
use Rattle.nq_part_lines.proofs.PutLemmas.{put_restricted, put_variable}
use Rattle.nq_part_lines.proofs.TakenLemmas.{piece_grown}
use Rattle.nq_part_lines.proofs.defaulted.smaller_default.Goals as goal

pub put_part-requires-clause-named : goal.put_part-requires-clause-named
put_part-requires-clause-named c = IsNamed-grown c.args.work.now.bank c.default_meets.new.work.bank c.args.part.now.default c.default_meets.ensures.grows.grows.bank c.requires.part.default

pub put_part-requires-clause-symbol : goal.put_part-requires-clause-symbol
put_part-requires-clause-symbol c =
    let w = c.args.work.now in
    let new = c.default_meets.new.work in
    let name : text_at new.bank c.args.part.now.default ≡ truth_name c.args.yes = text_at-grown w.bank new.bank c.args.part.now.default c.default_meets.ensures.grows.grows.bank c.requires.part.default ∙ c.requires.default.is in
    subst (λ n. IsAmong (n, 0) (symbols_of (events_at new.bank c.args.history.now))) (sym name) (truth_in (events_at new.bank c.args.history.now) c.args.yes)

pub put_part-requires-clause-piece : goal.put_part-requires-clause-piece
put_part-requires-clause-piece c = piece_grown c.args.history.now c.args.work.now c.default_meets.new.work c.requires.stands c.default_meets.ensures.grows.grows c.args.place c.args.more c.args.sized.piece c.requires.piece

pub put_part-requires-clause-size : goal.put_part-requires-clause-size
put_part-requires-clause-size c = one_grown c.args.history.now c.args.work.now c.default_meets.new.work c.requires.stands c.default_meets.ensures.grows.grows c.args.sized.line c.args.sized.piece.equation c.requires.piece.equation c.requires.size

pub put_part-requires-clause-object_low : goal.put_part-requires-clause-object_low
put_part-requires-clause-object_low c = low_still c.args.history.now c.args.work.now c.default_meets.new.work c.requires.stands c.default_meets.ensures.grows.grows c.args.sized.piece.object c.requires.piece.object c.requires.object_low

pub put_part-requires-clause-allowed_low : goal.put_part-requires-clause-allowed_low
put_part-requires-clause-allowed_low c = low_still c.args.history.now c.args.work.now c.default_meets.new.work c.requires.stands c.default_meets.ensures.grows.grows c.args.sized.piece.allowed c.requires.piece.allowed c.requires.allowed_low

pub put_part-requires-clause-variable_is : goal.put_part-requires-clause-variable_is
put_part-requires-clause-variable_is c = same_term_grown c.args.history.now c.args.work.now c.default_meets.new.work c.args.sized.piece.variable c.default_meets.ensures.grows.grows c.requires.piece.variable.inside ∙ c.requires.variable_is

pub cut-requires-clause-first : goal.cut-requires-clause-first
cut-requires-clause-first c = line_grown c.args.history.now c.default_meets.new.work c.put_part.new.work c.in_ok-met.met.line c.default_meets.ensures.grows.grows.stands c.put_part.ensures.grows.grows (only_stands c.default_meets.new.work c.in_ok-met.met.line _ c.in_ok-met.ensures.line)

pub cut-requires-clause-second : goal.cut-requires-clause-second
cut-requires-clause-second c = only_stands c.put_part.new.work c.in_ok-put.put.line _ c.in_ok-put.ensures.put.line

pub cut-requires-clause-term : goal.cut-requires-clause-term
cut-requires-clause-term c = term_grown c.args.history.now c.default_meets.new.work c.put_part.new.work c.in_ok-met.met.term c.default_meets.ensures.grows.grows.stands c.put_part.ensures.grows.grows c.in_ok-met.ensures.small.inside

pub returns-in_err-put-clause-grows : goal.returns-in_err-put-clause-grows
returns-in_err-put-clause-grows c = grown_trans c.args.history.now c.args.work.now c.default_meets.new.work c.put_part.new.work c.default_meets.ensures.grows c.put_part.ensures.grows

pub returns-in_err-line-clause-grows : goal.returns-in_err-line-clause-grows
returns-in_err-line-clause-grows c = three_steps c.args.history.now c.args.work.now c.default_meets.new.work c.put_part.new.work c.cut.new.work c.default_meets.ensures.grows c.put_part.ensures.grows c.cut.ensures.grows

pub returns-clause-grows : goal.returns-clause-grows
returns-clause-grows c = three_steps c.args.history.now c.args.work.now c.default_meets.new.work c.put_part.new.work c.cut.new.work c.default_meets.ensures.grows c.put_part.ensures.grows c.cut.ensures.grows

pub returns-clause-smaller : goal.returns-clause-smaller
returns-clause-smaller c =
    let h = c.args.history.now in
    let w0 = c.args.work.now in
    let w1 = c.default_meets.new.work in
    let w2 = c.put_part.new.work in
    let w3 = c.cut.new.work in
    let p = c.args.sized.piece in
    let k = c.requires.piece in
    let q = part_at w0.bank c.args.part.now in
    let x = part_name c.args.place in
    let e = truth_term c.args.yes in
    let d = Function (text_at w1.bank c.args.part.now.default) in
    let first = c.default_meets.ensures.grows.grows in
    let same : d ≡ e = ap Function (text_at-grown w0.bank w1.bank c.args.part.now.default first.bank c.requires.part.default ∙ c.requires.default.is) in
    let allowed : term_at w1.bank p.allowed ≡ restricted q.restriction (part_variable c.args.place) = same_term_grown h w0 w1 p.allowed first k.allowed.inside ∙ c.requires.allowed_is in
    let is : put x d (term_at w1.bank p.allowed) ≡ restricted q.restriction e = ap (put x d) allowed ∙ put_restricted x d q.restriction (part_variable c.args.place) ∙ ap (restricted q.restriction) (put_variable x d ∙ same) in
    let object : term_at w1.bank p.object ≡ term_at w0.bank p.object = same_term_grown h w0 w1 p.object first k.object.inside in
    let met : term_at w2.bank c.in_ok-met.met.term ≡ restricted q.restriction e = same_term_grown h w1 w2 c.in_ok-met.met.term c.put_part.ensures.grows.grows c.in_ok-met.ensures.small.inside ∙ c.in_ok-met.ensures.term.denotes in
    let cuts = subst (λ v. CutsTo w2 w3 v c.in_ok-met.met.line c.in_ok-put.put.line c.in_ok-line.line) met c.in_ok-line.ensures.line in
    defaulted_same h w3 x e e (term_at w1.bank p.object) (term_at w0.bank p.object) _ refl object
    (allowed_cut h w0 w1 w2 w3 x d e (term_at w1.bank p.allowed) (term_at w1.bank p.object) (restricted q.restriction e) c.in_ok-put.put c.in_ok-met.met.line c.in_ok-line.line first.stands c.put_part.ensures.grows.grows c.put_part.ensures.grows.grows.stands c.cut.ensures.grows.grows same is c.in_ok-met.ensures.line c.in_ok-put.ensures.put cuts)
