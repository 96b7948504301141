use Rattle.std.proofs.Common.{sym, ◌∙◌}
use Rattle.nq_bank.specs.declared.node.TermId.{TermId}
use Rattle.nq_bank.specs.Content.{text_at, term_at}
use Rattle.nq_decrease.proofs.CallLemmas.{other_no_equation, short_no_equation, long_no_equation, two_equated}
use Rattle.nq_decrease.proofs.calls.equation_of_call.Goals as goal

pub returns-then-not-is_ground : goal.returns-then-not-is_ground
returns-then-not-is_ground c = other_no_equation c.args.bank.now (term_at c.args.bank.now c.args.t) (text_at c.args.bank.now c.args.f) c.args.arguments.now c.requires.call (sym c.is_ground.ensures ∙ c.if-not-is_ground.true)

pub returns-in-len1 : goal.returns-in-len1
returns-in-len1 c = short_no_equation c.args.bank.now (term_at c.args.bank.now c.args.t) (text_at c.args.bank.now c.args.f) c.args.arguments.now c.requires.call c.in-len1.len_below

pub returns-in-len2 : goal.returns-in-len2
returns-in-len2 c =
    let first : TermId = record { 0 = 0 } in
    two_equated c.args.bank.now (text_at c.args.bank.now c.args.f) c.args.t c.args.arguments.now first c.requires.call (sym c.is_ground.ensures ∙ c.if-not-is_ground.false) c.in-len2.len_at_least c.in-len2.len_below c.requires.stands c.requires.before

pub returns-in_default : goal.returns-in_default
returns-in_default c = long_no_equation c.args.bank.now (term_at c.args.bank.now c.args.t) (text_at c.args.bank.now c.args.f) c.args.arguments.now c.requires.call c.in_default.len_at_least
