use Rattle.std.proofs.Common.{sym, ◌∙◌}
use Rattle.nq_bank.specs.Content.{text_at}
use Rattle.nq_value.proofs.ObjectLemmas.{falsity, atom, negative, pair}
use Rattle.nq_eval.proofs.object.object_of_call.Goals as goal

pub returns-else-is_ground : goal.returns-else-is_ground
returns-else-is_ground c =
    let bank = c.args.bank.now in
    falsity bank (text_at bank c.args.f) c.args.arguments.now c.in-empty.len_below (sym c.is_ground.ensures ∙ c.if-is_ground.false) c.requires.value

pub returns-then-is_ground-2 : goal.returns-then-is_ground-2
returns-then-is_ground-2 c =
    let bank = c.args.bank.now in
    atom bank (text_at bank c.args.f) c.args.arguments.now c.in-len1.len_at_least c.in-len1.len_below c.requires.arguments (sym c.is_ground-in-len1.ensures ∙ c.if-is_ground-2.true) c.requires.value

pub returns-else-is_ground-2 : goal.returns-else-is_ground-2
returns-else-is_ground-2 c =
    let bank = c.args.bank.now in
    negative bank (text_at bank c.args.f) c.args.arguments.now c.in-len1.len_at_least c.in-len1.len_below c.requires.arguments (sym c.is_ground-in-len1.ensures ∙ c.if-is_ground-2.false) c.requires.value

pub returns-in-len2 : goal.returns-in-len2
returns-in-len2 c =
    let bank = c.args.bank.now in
    pair bank (text_at bank c.args.f) c.args.arguments.now c.in-len2.len_at_least c.in-len2.len_below c.requires.arguments c.requires.value
