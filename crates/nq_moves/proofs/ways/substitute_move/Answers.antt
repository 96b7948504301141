use Rattle.std.proofs.Common.{◌≡◌, []}
use Rattle.std.specs.Prelude.{MatchOption, IfSome}
use Rattle.nq_bank.specs.Content.{terms_at}
use Rattle.nq_rule.proofs.Made.{for_ok}
use Rattle.nq_goals.specs.Substituting.{substitutions_of, SubstituteMove}
use Rattle.nq_moves.specs.declared.moved.Moved.{Moved}
use Rattle.nq_moves.specs.Found.{IsSubstituted, substituting_at}
use Rattle.nq_moves.specs.OfTable.{IsOfTable}
use Rattle.nq_history.specs.Events.{events_at}
use Rattle.nq_moves.proofs.LegalLemmas.{some_match}
use Rattle.nq_moves.specs.Ways.{IsMove}
use Rattle.nq_moves.proofs.ClosingLemmas.{all_stand}
use Rattle.nq_moves.proofs.WayLemmas.{some_of, substituted_move}
use Rattle.nq_moves.proofs.ways.substitute_move.Goals as goal

pub substitute_first-requires-clause-goal : goal.substitute_first-requires-clause-goal
substitute_first-requires-clause-goal c = all_stand c.args.history.now c.args.work.now c.args.goal.now c.requires.goal

pub returns-clause-moved : goal.returns-clause-moved
returns-clause-moved c =
    let h = c.args.history.now in
    let old = c.args.work.now in
    let new = c.substitute_first.new.work in
    let g = c.args.goal.now in
    let P : Moved → Type 0 = IsSubstituted old.bank new.bank g in
    for_ok c.substitute_first.result (λ found. MatchOption found (substitutions_of (terms_at old.bank g) ≡ []) P) (λ found. IfSome found (IsMove h new g))
    (λ found k. some_of _ P (IsMove h new g) found (λ m is. substituted_move h old new c.requires.stands c.substitute_first.ensures.grows g c.requires.goal m is) k) c.substitute_first.ensures.moved

pub returns-clause-legal : goal.returns-clause-legal
returns-clause-legal c =
    let h = events_at c.args.work.now.bank c.args.history.now in
    let old = c.args.work.now.bank in
    let new = c.substitute_first.new.work.bank in
    let g = c.args.goal.now in
    let P : Moved → Type 0 = IsSubstituted old new g in
    let Q : Moved → Type 0 = IsOfTable (SubstituteMove h) old new g in
    for_ok c.substitute_first.result (λ found. MatchOption found (substitutions_of (terms_at old g) ≡ []) P) (λ found. MatchOption found (substitutions_of (terms_at old g) ≡ []) Q)
    (λ found k. some_match _ P Q found (λ m is. record { leads = λ hints path. record { chosen = substituting_at old is.found; candidate = is.is.among; leads = is.leads } }) k) c.substitute_first.ensures.moved
