use Rattle.std.specs.Prelude.{Some}
use Rattle.nq_lines.specs.Lines.{IsTermIn}
use Rattle.nq_lines.proofs.TermLemmas.{term_grown}
use Rattle.nq_schemes.specs.declared.opened.Opened.{Opened}
use Rattle.nq_schemes.specs.Known.{IsOpenedIn}
use Rattle.nq_schemes.proofs.GrownLemmas.{all_with}
use Rattle.nq_schemes.proofs.certain.opened_call.Goals as goal

pub returns-clause-opened : goal.returns-clause-opened
returns-clause-opened c =
    let here : IsTermIn c.args.history.now c.all_opened.new.work c.args.call = term_grown c.args.history.now c.args.work.now c.all_opened.new.work c.args.call c.requires.stands c.all_opened.ensures.grows c.requires.call in
    let more : Opened = record { call = c.args.call; body = c.args.call } in
    all_with (IsOpenedIn c.args.history.now c.all_opened.new.work) c.in_ok-opened.opened.items c.add_opened.new.opened.items (Some more) c.in_ok-add_opened.ensures.more c.in_ok-opened.ensures.opened (record { call = here; body = here })
