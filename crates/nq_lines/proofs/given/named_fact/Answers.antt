use Rattle.nq_bank.specs.Content.{term_at, text_at}
use Rattle.nq_lines.specs.Lines.{IsTermIn}
use Rattle.nq_lines.proofs.FactLemmas.{fact_made}
use Rattle.nq_lines.proofs.given.named_fact.Goals as goal

pub returns-clause-fact : goal.returns-clause-fact
returns-clause-fact c =
    let w = c.args.work.now in
    let there : IsTermIn c.args.history.now w c.args.t = record { stands = c.requires.term; over = c.requires.ready.events (text_at w.bank c.args.name) (term_at w.bank c.args.t) c.requires.event } in
    fact_made c.args.history.now w c.event_line.new.work c.event_line.ensures.grows c.args.t c.in_ok-line.line c.requires.stands there (c.in_ok-line.ensures.line (term_at w.bank c.args.t) c.requires.event)
