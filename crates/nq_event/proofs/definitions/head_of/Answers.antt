use Rattle.std.proofs.Common.{sym, ap, ◌∙◌, arith}
use Rattle.std.specs.Prelude.{Some}
use Rattle.nq_bank.specs.Content.{text_at, term_at}
use Rattle.nq_bank.specs.Parts.{parts_of}
use Rattle.nq_bank.proofs.SoundLemmas.{text_at-ground}
use Rattle.nq_events.specs.Inductions.{head_of}
use Rattle.nq_event.proofs.DefinitionLemmas.{head_call, head_zero, head_more}
use Rattle.nq_event.proofs.definitions.head_of.Goals as goal

pub returns-then-n-eq0-clause-is : goal.returns-then-n-eq0-clause-is
returns-then-n-eq0-clause-is c =
    ap Some (text_at-ground c.args.bank.now (record { 0 = 8 }) c.is_sound.ensures (omega arith)) ∙ sym (ap head_of c.in-Num.ensures.head.1 ∙ head_zero c.in-Num.n c.if-n-eq0.true)

pub returns-else-n-eq0-clause-is : goal.returns-else-n-eq0-clause-is
returns-else-n-eq0-clause-is c =
    ap Some (text_at-ground c.args.bank.now (record { 0 = 7 }) c.is_sound.ensures (omega arith)) ∙ sym (ap head_of c.in-Num.ensures.head.1 ∙ head_more c.in-Num.n c.if-n-eq0.false)

pub returns-in-App-clause-is : goal.returns-in-App-clause-is
returns-in-App-clause-is c =
    sym (ap head_of c.in-App.ensures.head.1 ∙ head_call (text_at c.args.bank.now c.in-App.f) (parts_of (term_at c.args.bank.now c.args.t)))
