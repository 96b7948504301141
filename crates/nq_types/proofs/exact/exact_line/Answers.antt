use Rattle.std.proofs.Common.{subst, ℕ, []}
use Rattle.std.specs.Prelude.{MatchOption}
use Rattle.nq_bank.specs.Content.{term_at}
use Rattle.nq_history.specs.Events.{events_at}
use Rattle.nq_lines.proofs.LineLemmas.{only_stands}
use Rattle.nq_types.specs.Kinds.{IsOfKind}
use Rattle.nq_types.specs.Shown.{IsKnown}
use Rattle.nq_types.proofs.SetLemmas.{known_shown}
use Rattle.nq_types.proofs.exact.exact_line.Goals as goal

pub returns-in-Some-clause-line : goal.returns-in-Some-clause-line
returns-in-Some-clause-line c =
    let bank = c.args.work.now.bank in
    let h = events_at bank c.args.history.now in
    let t = term_at bank c.args.t in
    let w1 = c.exact_type.new.work in
    let known : IsKnown h w1 t c.in-Some.found = subst (λ o. MatchOption o ((k : ℕ) → IsOfKind h t k → ⊥) (IsKnown h w1 t)) c.in-Some.is c.in_ok-found.ensures.known in
    only_stands w1 c.in-Some.found.1 _ (known_shown h w1 [] t c.in-Some.found c.requires.room known)
