use Rattle.std.proofs.Common.{List, [], ◌∷◌, ◌++◌, map, take, sym, ap, ◌∙◌, subst}
use Rattle.std.specs.Prelude.{All}
use Rattle.std.proofs.lemmas.List.{map_push}
use Rattle.nq_logic.specs.Terms.{Term, Variable}
use Rattle.nq_bank.specs.declared.node.Sym.{Sym}
use Rattle.nq_bank.specs.Content.{Content, Stands, term_at, terms_at}
use Rattle.nq_bank.specs.Shells.{texts_at}
use Rattle.nq_bank.proofs.Growth.{Grows-trans, terms_at-grown}
use Rattle.nq_bank.proofs.Standing.{All-push, stand_grown}
use Rattle.nq_check.proofs.DefinitionLemmas.{variable_read}
use Rattle.nq_check.proofs.definition_lines.variables_of.Goals as goal

pub loop-name-preserved : goal.loop-name-preserved
loop-name-preserved c =
    let start : Content = c.args.bank.now in
    let bank : Content = c.loop-name.bank in
    let new : Content = c.var.new.self in
    let ids = c.loop-name.ids.items in
    let names : List Sym = c.args.names.now in
    let i = c.loop-name.name-index in
    let given = c.in_ok-t.ensures.ok in
    let push = c.in_ok-push.ensures.items in
    record {
      grows = Grows-trans start bank new c.loop-name.invariant.grows given.grows;
      stand = subst (All (Stands new)) (sym push) (All-push (Stands new) ids c.in_ok-t.t (stand_grown bank new ids given.grows c.loop-name.invariant.stand) given.id.stands);
      are =
          ap (terms_at new) push
          ∙ map_push (term_at new) ids c.in_ok-t.t
          ∙ ap (λ ts. ts ++ term_at new c.in_ok-t.t ∷ []) (terms_at-grown bank new ids given.grows c.loop-name.invariant.stand ∙ c.loop-name.invariant.are)
          ∙ ap (λ (t : Term). map Variable (texts_at start (take i names)) ++ t ∷ []) given.id.denotes
          ∙ variable_read start bank names i _ c.loop-name.invariant.grows c.requires c.loop-name-test.true;
    }
