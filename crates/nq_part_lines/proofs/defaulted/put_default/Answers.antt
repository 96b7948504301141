use Rattle.std.proofs.Common.{◌≡◌, ◌∙◌}
use Rattle.nq_logic.specs.Terms.{Variable}
use Rattle.nq_bank.specs.Content.{term_at}
use Rattle.nq_lines.proofs.TermLemmas.{same_term_grown}
use Rattle.nq_replay.proofs.UncountedLemmas.{grown_trans}
use Rattle.nq_part_lines.proofs.DefaultedLemmas.{line_same, low_grown, variable_kept}
use Rattle.nq_part_lines.proofs.ReadingLemmas.{small_grown}
use Rattle.nq_part_lines.proofs.defaulted.put_default.Goals as goal

pub term_with-requires-clause-term : goal.term_with-requires-clause-term
term_with-requires-clause-term c = c.requires.low.object

pub term_with-requires-clause-low : goal.term_with-requires-clause-low
term_with-requires-clause-low c = c.requires.low.object_low

pub term_with-requires-clause-variable : goal.term_with-requires-clause-variable
term_with-requires-clause-variable c = c.requires.low.variable

pub term_with-requires-clause-is : goal.term_with-requires-clause-is
term_with-requires-clause-is c = c.requires.low.is

pub term_with-requires-clause-default : goal.term_with-requires-clause-default
term_with-requires-clause-default c = c.requires.low.default

pub term_with-requires-clause-shallow : goal.term_with-requires-clause-shallow
term_with-requires-clause-shallow c = c.requires.low.default_low

pub line_with-requires-clause-low : goal.line_with-requires-clause-low
line_with-requires-clause-low c = low_grown c.args.history.now c.args.work.now c.term_with.new.work c.requires.stands c.term_with.ensures.grows.grows c.args.piece c.args.default c.requires.low

pub line_with-requires-clause-line : goal.line_with-requires-clause-line
line_with-requires-clause-line c = variable_kept c.args.history.now c.args.work.now c.term_with.new.work c.requires.stands c.term_with.ensures.grows.grows c.args.piece c.args.line c.requires.low.allowed c.requires.low.variable c.requires.low.object c.requires.line

pub returns-in_err-line-clause-grows : goal.returns-in_err-line-clause-grows
returns-in_err-line-clause-grows c = grown_trans c.args.history.now c.args.work.now c.term_with.new.work c.line_with.new.work c.term_with.ensures.grows c.line_with.ensures.grows

pub returns-clause-grows : goal.returns-clause-grows
returns-clause-grows c = grown_trans c.args.history.now c.args.work.now c.term_with.new.work c.line_with.new.work c.term_with.ensures.grows c.line_with.ensures.grows

pub returns-clause-put : goal.returns-clause-put
returns-clause-put c x e =
    let h = c.args.history.now in
    let w0 = c.args.work.now in
    let w1 = c.term_with.new.work in
    let w2 = c.line_with.new.work in
    let p = c.args.piece in
    let k = c.requires.low in
    let first = c.term_with.ensures.grows.grows in
    let both = grown_trans h w0 w1 w2 c.term_with.ensures.grows c.line_with.ensures.grows in
    let object = c.in_ok-object.object in
    let variable : term_at w1.bank p.variable ≡ Variable x = same_term_grown h w0 w1 p.variable first k.variable.inside ∙ e in
    record {
      default = small_grown h w0 w2 c.args.default c.requires.stands both.grows k.default;
      default_is = same_term_grown h w0 w2 c.args.default both.grows k.default.inside;
      object = small_grown h w1 w2 object first.stands c.line_with.ensures.grows.grows c.in_ok-object.ensures.small;
      object_is = same_term_grown h w1 w2 object c.line_with.ensures.grows.grows c.in_ok-object.ensures.small.inside ∙ (c.in_ok-object.ensures.term x e).denotes;
      line =
          line_same w2 c.in_ok-line.line x (term_at w1.bank c.args.default) (term_at w0.bank c.args.default) (term_at w1.bank p.allowed) (term_at w0.bank p.allowed) (term_at w1.bank p.object) (term_at w0.bank p.object) (same_term_grown h w0 w1 c.args.default first k.default.inside) (same_term_grown h w0 w1 p.allowed first k.allowed.inside) (same_term_grown h w0 w1 p.object first k.object.inside)
          (c.in_ok-line.ensures.line x variable);
    }
