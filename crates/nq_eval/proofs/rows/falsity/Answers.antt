use Rattle.std.proofs.Common.{◌<◌, [], ◌∙◌, Err, ap, sym, subst, arith}
use Rattle.nq_logic.specs.Terms.{call}
use Rattle.nq_logic.specs.Words.{false_term}
use Rattle.nq_logic.specs.Sizes.{depth_of, depth_limit}
use Rattle.nq_bank.specs.Content.{Grows}
use Rattle.nq_bank.proofs.Growth.{Grows-refl}
use Rattle.nq_steps.proofs.NameLemmas.{no_names}
use Rattle.nq_eval.proofs.LineLemmas.{bank_uncounted}
use Rattle.nq_eval.proofs.TruthLemmas.{false_depth}
use Rattle.nq_eval.proofs.rows.falsity.Goals as goal

pub unreachable-requires : goal.unreachable-requires
unreachable-requires c =
    let deep : depth_limit < depth_of false_term = subst (λ x. depth_limit < depth_of (call x [])) c.ground_name-name.ensures.reads (c.app.ensures.deep.0 (c.in-Err-Deep.is ∙ ap Err c.in-Err-Deep.field-0-is)) in
    let one = false_depth in
    omega (arith, deep, one)

pub returns-in-Ok-clause-grows : goal.returns-in-Ok-clause-grows
returns-in-Ok-clause-grows c = bank_uncounted c.args.history.now c.args.work.now c.app.new.self c.requires c.in-Ok.ensures.ok.grows (no_names c.args.work.now.bank c.app.new.self c.in-Ok.ensures.ok.names)

pub returns-in-Err-Memory-clause-grows : goal.returns-in-Err-Memory-clause-grows
returns-in-Err-Memory-clause-grows c =
    bank_uncounted c.args.history.now c.args.work.now c.app.new.self c.requires (subst (Grows c.args.work.now.bank) (sym c.in-Err-Memory.ensures.err) (Grows-refl c.args.work.now.bank)) (no_names c.args.work.now.bank c.app.new.self (ap (λ bank. bank.names) c.in-Err-Memory.ensures.err))
