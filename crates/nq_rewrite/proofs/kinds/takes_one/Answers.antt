use Rattle.std.proofs.Common.{◌≡◌, ◌∙◌, Some, sym}
use Rattle.nq_logic.specs.Ground.{symbols_of}
use Rattle.nq_language.specs.Arities.{arity_in}
use Rattle.nq_bank.specs.Content.{text_at}
use Rattle.nq_history.specs.Events.{events_at}
use Rattle.nq_rewrite.proofs.KindLemmas.{arity_one}
use Rattle.nq_rewrite.proofs.kinds.takes_one.Goals as goal

pub returns-in-Some : goal.returns-in-Some
returns-in-Some c = λ h.
    let bank = c.args.work.now.bank in
    let name = text_at bank c.args.f in
    let symbols = symbols_of (events_at bank c.args.history.now) in
    let arity : arity_in symbols name ≡ Some c.in-Some.n = sym (c.arity.ensures.events bank c.is_sound.ensures c.requires.stands.history c.requires.function) ∙ c.in-Some.is in
    arity_one symbols name c.in-Some.n arity (c.is_one.ensures h)
