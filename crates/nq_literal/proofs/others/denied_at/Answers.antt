use Rattle.std.proofs.Common.{◌≡◌, get_or, subst}
use Rattle.nq_logic.specs.Terms.{IsAmong}
use Rattle.nq_logic.specs.Words.{not_term}
use Rattle.nq_bank.specs.declared.node.TermId.{TermId}
use Rattle.nq_bank.specs.Content.{term_at, terms_at}
use Rattle.nq_reduce.proofs.RewritingLemmas.{member_among}
use Rattle.nq_literal.proofs.LiteralLemmas.{denied_found}
use Rattle.nq_literal.proofs.others.denied_at.Goals as goal

pub returns : goal.returns
returns c =
    let d : TermId = record { 0 = 0 } in
    denied_found c.args.history.now c.args.work.now c.args.others.now c.args.place d c.one_of.result c.requires.place c.requires.others c.one_of.ensures
