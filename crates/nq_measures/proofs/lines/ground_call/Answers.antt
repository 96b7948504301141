use Rattle.std.proofs.Common.{◌<◌, ◌∙◌, Err, ap, sym, subst, refl, arith}
use Rattle.nq_logic.specs.Terms.{call}
use Rattle.nq_logic.specs.Sizes.{depth_of, depth_limit}
use Rattle.nq_bank.specs.Content.{Grows, terms_at}
use Rattle.nq_bank.proofs.Growth.{Grows-refl}
use Rattle.nq_steps.proofs.NameLemmas.{no_names}
use Rattle.nq_kernel.proofs.GrowingLemmas.{bank_grows}
use Rattle.nq_measures.proofs.DepthLemmas.{not_both}
use Rattle.nq_measures.proofs.lines.ground_call.Goals as goal

pub unreachable-requires : goal.unreachable-requires
unreachable-requires c =
    not_both _ c.requires.shallow (subst (λ x. depth_limit < depth_of (call x (terms_at c.args.work.now.bank c.args.arguments.now))) c.ground_name-name.ensures.reads (c.app.ensures.deep.0 (c.in-Err-Deep.is ∙ ap Err c.in-Err-Deep.field-0-is)))

pub returns-in-Ok-clause-grows : goal.returns-in-Ok-clause-grows
returns-in-Ok-clause-grows c =
    record { grows = bank_grows c.args.history.now c.args.work.now c.app.new.self c.args.work.now.counter c.requires.stands c.in-Ok.ensures.ok.grows (no_names c.args.work.now.bank c.app.new.self c.in-Ok.ensures.ok.names) (record { used = omega arith; limit = refl }); uncounted = refl }

pub returns-in-Err-Memory-clause-grows : goal.returns-in-Err-Memory-clause-grows
returns-in-Err-Memory-clause-grows c =
    record { grows = bank_grows c.args.history.now c.args.work.now c.app.new.self c.args.work.now.counter c.requires.stands (subst (Grows c.args.work.now.bank) (sym c.in-Err-Memory.ensures.err) (Grows-refl c.args.work.now.bank)) (no_names c.args.work.now.bank c.app.new.self (ap (λ bank. bank.names) c.in-Err-Memory.ensures.err)) (record { used = omega arith; limit = refl }); uncounted = refl }
