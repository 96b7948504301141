use Rattle.std.proofs.Common.{◌≡◌, sym, ap, ◌∙◌, subst}
use Rattle.std.specs.Prelude.{All}
use Rattle.nq_bank.specs.Content.{Stands, term_at, terms_at}
use Rattle.nq_events.specs.Inductions.{arguments_of}
use Rattle.nq_event.proofs.DefinitionLemmas.{arguments_call, arguments_stand}
use Rattle.nq_event.proofs.ToldLemmas.{ok_on}
use Rattle.nq_event.proofs.inductions.arguments_of.Goals as goal

pub returns-in-App-clause-stand : goal.returns-in-App-clause-stand
returns-in-App-clause-stand c =
    let bank = c.args.bank.now in
    let ids = c.args-in-App.result.now in
    ok_on c.from_slice.result (λ v. v.items ≡ ids) (λ v. All (Stands bank) v.items) (λ v e. subst (All (Stands bank)) (sym e) (arguments_stand bank c.args.t ids c.requires c.args-in-App.ensures.earlier)) c.from_slice.ensures.items

pub returns-in-App-clause-are : goal.returns-in-App-clause-are
returns-in-App-clause-are c =
    let bank = c.args.bank.now in
    let ids = c.args-in-App.result.now in
    let t = term_at bank c.args.t in
    ok_on c.from_slice.result (λ v. v.items ≡ ids) (λ v. terms_at bank v.items ≡ arguments_of t) (λ v e. ap (terms_at bank) e ∙ c.args-in-App.ensures.parts ∙ sym (arguments_call t c.in-App.ensures.head.3)) c.from_slice.ensures.items
