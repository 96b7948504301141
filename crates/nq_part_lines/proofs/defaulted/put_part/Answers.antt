use Rattle.std.proofs.Common.{◌≡◌, ◌≤◌, ◌∙◌, ap, arith, sym, subst}
use Rattle.nq_logic.specs.Terms.{Function, Variable}
use Rattle.nq_logic.specs.Sizes.{depth_of}
use Rattle.nq_bank.specs.Content.{term_at, text_at}
use Rattle.nq_bank.proofs.Growth.{IsNamed-grown, text_at-grown}
use Rattle.nq_rule.proofs.Made.{for_ok}
use Rattle.nq_lines.proofs.TermLemmas.{same_term_grown}
use Rattle.nq_replay.proofs.UncountedLemmas.{grown_trans}
use Rattle.nq_part_lines.specs.Defaulted.{IsPut}
use Rattle.nq_part_lines.specs.Known.{row_room}
use Rattle.nq_part_lines.specs.Wholes.{part_name}
use Rattle.nq_part_lines.proofs.DefaultedLemmas.{line_kept, low_still, put_same}
use Rattle.nq_part_lines.proofs.KnownGrowth.{symbol_grown, three_steps}
use Rattle.nq_part_lines.proofs.ReadingLemmas.{small_grown}
use Rattle.nq_part_lines.proofs.RoomLemmas.{constant_low}
use Rattle.nq_part_lines.proofs.defaulted.put_part.Goals as goal

pub base_term-requires-clause-named : goal.base_term-requires-clause-named
base_term-requires-clause-named c = IsNamed-grown c.args.work.now.bank c.variable_line.new.work.bank c.args.part.now.default c.variable_line.ensures.grows.grows.bank c.requires.named

pub base_term-requires-clause-symbol : goal.base_term-requires-clause-symbol
base_term-requires-clause-symbol c = symbol_grown c.args.history.now c.args.work.now c.variable_line.new.work c.requires.stands c.variable_line.ensures.grows.grows c.args.part.now.default 0 c.requires.named c.requires.symbol

pub put_default-requires-clause-low : goal.put_default-requires-clause-low
put_default-requires-clause-low c =
    let h = c.args.history.now in
    let w0 = c.args.work.now in
    let w1 = c.variable_line.new.work in
    let w2 = c.base_term.new.work in
    let p = c.args.sized.piece in
    let k = c.requires.piece in
    let grows = grown_trans h w0 w1 w2 c.variable_line.ensures.grows c.base_term.ensures.grows in
    let constant = constant_low (text_at w1.bank c.args.part.now.default) in
    let room : depth_of (Function (text_at w1.bank c.args.part.now.default)) ≤ row_room = omega (arith, constant) in
    record {
      object = small_grown h w0 w2 p.object c.requires.stands grows.grows k.object;
      object_low = low_still h w0 w2 c.requires.stands grows.grows p.object k.object c.requires.object_low;
      allowed = small_grown h w0 w2 p.allowed c.requires.stands grows.grows k.allowed;
      allowed_low = low_still h w0 w2 c.requires.stands grows.grows p.allowed k.allowed c.requires.allowed_low;
      variable = small_grown h w0 w2 p.variable c.requires.stands grows.grows k.variable;
      is = (part_name c.args.place, same_term_grown h w0 w2 p.variable grows.grows k.variable.inside ∙ c.requires.variable_is);
      default = c.in_ok-default.ensures.small;
      default_low = subst (λ u. depth_of u ≤ row_room) (sym c.in_ok-default.ensures.constant.denotes) room;
    }

pub put_default-requires-clause-line : goal.put_default-requires-clause-line
put_default-requires-clause-line c =
    let h = c.args.history.now in
    let w0 = c.args.work.now in
    let w1 = c.variable_line.new.work in
    let w2 = c.base_term.new.work in
    let k = c.requires.piece in
    line_kept h w0 w1 w2 c.requires.stands c.variable_line.ensures.grows c.base_term.ensures.grows c.args.sized.piece c.in_ok-line.line k.allowed k.variable k.object c.in_ok-line.ensures.line

pub returns-in_err-default-clause-grows : goal.returns-in_err-default-clause-grows
returns-in_err-default-clause-grows c = grown_trans c.args.history.now c.args.work.now c.variable_line.new.work c.base_term.new.work c.variable_line.ensures.grows c.base_term.ensures.grows

pub returns-clause-grows : goal.returns-clause-grows
returns-clause-grows c = three_steps c.args.history.now c.args.work.now c.variable_line.new.work c.base_term.new.work c.put_default.new.work c.variable_line.ensures.grows c.base_term.ensures.grows c.put_default.ensures.grows

pub returns-clause-put : goal.returns-clause-put
returns-clause-put c =
    let h = c.args.history.now in
    let w0 = c.args.work.now in
    let w1 = c.variable_line.new.work in
    let w2 = c.base_term.new.work in
    let w3 = c.put_default.new.work in
    let p = c.args.sized.piece in
    let k = c.requires.piece in
    let grows = grown_trans h w0 w1 w2 c.variable_line.ensures.grows c.base_term.ensures.grows in
    let d = c.in_ok-default.default in
    let x = part_name c.args.place in
    let constant : term_at w2.bank d ≡ Function (text_at w0.bank c.args.part.now.default) = c.in_ok-default.ensures.constant.denotes ∙ ap Function (text_at-grown w0.bank w1.bank c.args.part.now.default c.variable_line.ensures.grows.grows.bank c.requires.named) in
    let variable : term_at w2.bank p.variable ≡ Variable x = same_term_grown h w0 w2 p.variable grows.grows k.variable.inside ∙ c.requires.variable_is in
    for_ok c.put_default.result _ (IsPut h w3 x (Function (text_at w0.bank c.args.part.now.default)) (term_at w0.bank p.allowed) (term_at w0.bank p.object)) (λ z f.
    put_same h w3 x (term_at w2.bank d) (Function (text_at w0.bank c.args.part.now.default)) (term_at w2.bank p.allowed) (term_at w0.bank p.allowed) (term_at w2.bank p.object) (term_at w0.bank p.object) z constant (same_term_grown h w0 w2 p.allowed grows.grows k.allowed.inside) (same_term_grown h w0 w2 p.object grows.grows k.object.inside) (f x variable)) c.put_default.ensures.put
