use Rattle.std.proofs.Common.{refl}
use Rattle.nq_cases.proofs.ChoiceLemmas.{first_shallow, second_later, around_later}
use Rattle.nq_cases.proofs.choosing.choice_around.Goals as goal

pub with_argument_at-requires-clause-shallow : goal.with_argument_at-requires-clause-shallow
with_argument_at-requires-clause-shallow c = first_shallow c.args.bank.now c.args.t c.args.inside c.args.choice c.requires.inside c.requires.place c.requires.choice c.depth-depth.result c.depth-depth.ensures.depth c.depth-depth.ensures.limited

pub with_argument_at-requires-2-clause-shallow : goal.with_argument_at-requires-2-clause-shallow
with_argument_at-requires-2-clause-shallow c =
    second_later c.args.bank.now c.args.t c.args.inside c.args.choice c.requires.inside c.requires.place c.requires.choice c.with_argument_at.new.bank c.depth-depth.result c.with_argument_at.ensures.grows c.requires.stands c.depth-depth.ensures.depth c.depth-depth.ensures.limited

pub returns-clause-ok : goal.returns-clause-ok
returns-clause-ok c =
    around_later c.args.bank.now c.args.t c.args.inside c.args.choice c.requires.inside c.requires.place c.requires.choice c.with_argument_at.new.bank c.with_argument_at-2.new.bank _
    c.with_argument_at.ensures.grows c.with_argument_at-2.ensures.grows c.requires.stands c.in_ok-put_before.ensures.ok refl refl refl refl c.in_ok-first.ensures.ok c.in_ok-second.ensures.ok
