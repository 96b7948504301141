use Rattle.std.proofs.Common.{◌≡◌, ◌≤◌, ◌∙◌, Err, sym, ap, subst, arith}
use Rattle.nq_logic.specs.Terms.{Term, call}
use Rattle.nq_logic.specs.Ground.{symbols_of}
use Rattle.nq_logic.specs.Sizes.{depth_of}
use Rattle.nq_bank.specs.Content.{Grows, text_at, term_at, terms_at}
use Rattle.nq_bank.proofs.Growth.{Grows-refl}
use Rattle.nq_steps.proofs.NameLemmas.{no_names}
use Rattle.nq_history.specs.Events.{events_at}
use Rattle.nq_kernel.specs.declared.work.Work.{Work}
use Rattle.nq_kernel.specs.Over.{IsVariable, IsTermOf}
use Rattle.nq_fragments.specs.Outcomes.{term_depth}
use Rattle.nq_eval.specs.Lines.{GrowsUncounted}
use Rattle.nq_eval.proofs.LineLemmas.{bank_uncounted}
use Rattle.nq_eval.proofs.ReducingLemmas.{may_over, may_shallow, call_after, may_after}
use Rattle.nq_eval.proofs.reducing.call_of.Goals as goal

pub unreachable-requires : goal.unreachable-requires
unreachable-requires c =
    let bank = c.args.work.now.bank in
    let shallow = may_shallow bank c.args.history.now c.args.f c.args.arguments.now c.requires.may in
    let deep = c.app.ensures.deep.0 (c.in-Err-Deep.is ∙ ap Err c.in-Err-Deep.field-0-is) in
    omega (arith, shallow, deep)

pub returns-in-Ok-clause-grows : goal.returns-in-Ok-clause-grows
returns-in-Ok-clause-grows c = bank_uncounted c.args.history.now c.args.work.now c.app.new.self c.requires.stands c.in-Ok.ensures.ok.grows (no_names c.args.work.now.bank c.app.new.self c.in-Ok.ensures.ok.names)

pub returns-in-Ok-clause-is : goal.returns-in-Ok-clause-is
returns-in-Ok-clause-is c =
    let old : Work = c.args.work.now in
    let new : Work = record old { bank = c.app.new.self } in
    let grown : GrowsUncounted c.args.history.now old new = bank_uncounted c.args.history.now old c.app.new.self c.requires.stands c.in-Ok.ensures.ok.grows (no_names old.bank c.app.new.self c.in-Ok.ensures.ok.names) in
    c.in-Ok.ensures.ok.id.denotes ∙ sym (call_after c.args.history.now old new c.requires.stands grown c.args.f c.args.arguments.now c.requires.may)

pub returns-in-Ok-clause-term : goal.returns-in-Ok-clause-term
returns-in-Ok-clause-term c =
    let h = c.args.history.now in
    let old : Work = c.args.work.now in
    let new : Work = record old { bank = c.app.new.self } in
    let grown : GrowsUncounted h old new = bank_uncounted h old c.app.new.self c.requires.stands c.in-Ok.ensures.ok.grows (no_names old.bank c.app.new.self c.in-Ok.ensures.ok.names) in
    let may = may_after h old new c.requires.stands grown c.args.f c.args.arguments.now c.requires.may in
    let same : term_at new.bank c.in-Ok.t ≡ call (text_at new.bank c.args.f) (terms_at new.bank c.args.arguments.now) = c.in-Ok.ensures.ok.id.denotes ∙ sym (call_after h old new c.requires.stands grown c.args.f c.args.arguments.now c.requires.may) in
    record {
      stands = c.in-Ok.ensures.ok.id.stands;
      over = subst (λ (u : Term). IsTermOf IsVariable (symbols_of (events_at new.bank h)) u) (sym same) (may_over new.bank h c.args.f c.args.arguments.now may);
      shallow = subst (λ (u : Term). depth_of u ≤ term_depth) (sym same) (may_shallow new.bank h c.args.f c.args.arguments.now may);
    }

pub returns-in-Err-Memory-clause-grows : goal.returns-in-Err-Memory-clause-grows
returns-in-Err-Memory-clause-grows c =
    bank_uncounted c.args.history.now c.args.work.now c.app.new.self c.requires.stands (subst (Grows c.args.work.now.bank) (sym c.in-Err-Memory.ensures.err) (Grows-refl c.args.work.now.bank)) (no_names c.args.work.now.bank c.app.new.self (ap (λ bank. bank.names) c.in-Err-Memory.ensures.err))
