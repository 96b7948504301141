use Rattle.std.proofs.Common.{sym, ◌∙◌}
use Rattle.nq_abbrev.proofs.ArityLemmas.{arity-none, arity-at}
use Rattle.nq_abbrev.proofs.arities.arity_of.Goals as goal

pub returns-in-Some : goal.returns-in-Some
returns-in-Some g c =
    let names = c.args.bank.now.names in
    c.arity.ensures ∙ sym (arity-at names (g.A.Arities.at c.args.arities.now) c.args.name.now c.in-Some.f.0 c.in-Some.ensures.named c.in-Some.ensures.reads
    (λ j below e. (c.is_sound.ensures.names c.in-Some.f c.in-Some.ensures.named).only (record { 0 = j }) below (e ∙ sym c.in-Some.ensures.reads)))

pub returns-in-None : goal.returns-in-None
returns-in-None g c =
    sym (arity-none 0 c.args.bank.now.names (g.A.Arities.at c.args.arities.now) c.args.name.now (λ j below e. c.in-None.ensures.none (record { 0 = j }) below e))
