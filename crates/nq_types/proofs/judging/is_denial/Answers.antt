use Rattle.std.proofs.Common.{◌∙◌, sym}
use Rattle.nq_bank.specs.Content.{term_at, text_at}
use Rattle.nq_bank.specs.Parts.{parts_of}
use Rattle.nq_types.proofs.JudgeLemmas.{denial_told}
use Rattle.nq_types.proofs.judging.is_denial.Goals as goal

pub returns-in-App : goal.returns-in-App
returns-in-App c =
    let bank = c.args.bank.now in
    let t = term_at bank c.args.literal in
    λ e. denial_told bank (text_at bank c.in-App.f) t (parts_of t) c.args-arguments.result.now c.args.assumed.now c.is_ground-denies.result c.is_one_among-one.result c.in-App.ensures.head.1 c.args-arguments.ensures.parts c.is_ground-denies.ensures c.is_one_among-one.ensures (sym c.is_both.ensures ∙ e)
