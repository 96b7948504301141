use Rattle.std.proofs.Common.{[], ◌∷◌, ◌++◌, take, sym, ap, ◌∙◌, subst, add-one}
use Rattle.std.specs.Prelude.{All}
use Rattle.std.proofs.Math.Seq.{take-suc}
use Rattle.std.proofs.lemmas.List.{map_push}
use Rattle.nq_logic.specs.Terms.{Name}
use Rattle.nq_bank.specs.Content.{Content, IsNamed, text_at}
use Rattle.nq_bank.specs.Shells.{texts_at}
use Rattle.nq_bank.proofs.Growth.{Grows-trans}
use Rattle.nq_bank.proofs.Standing.{All-push}
use Rattle.nq_history.proofs.ShellLemmas.{texts-grown, names-grown}
use Rattle.nq_check.proofs.shell_lines.symbols_of.Goals as goal

pub loop-name-preserved : goal.loop-name-preserved
loop-name-preserved c =
    let bank : Content = c.loop-name.bank in
    let new : Content = c.name.new.self in
    let xs = c.loop-name.found.items in
    let names = c.args.names.now in
    let i = c.loop-name.name-index in
    let given = c.in_ok-s.ensures.ok in
    let push = c.in_ok-push.ensures.items in
    let read : Name = c.as_slice.result.now in
    record {
      grows = Grows-trans c.args.bank.now bank new c.loop-name.invariant.grows given.grows;
      stand = subst (All (IsNamed new)) (sym push) (All-push (IsNamed new) xs c.in_ok-s.s (names-grown bank new given.grows xs c.loop-name.invariant.stand) given.named);
      texts =
          ap (texts_at new) push
          ∙ map_push (text_at new) xs c.in_ok-s.s
          ∙ ap (λ ts. ts ++ text_at new c.in_ok-s.s ∷ []) (texts-grown bank new given.grows xs c.loop-name.invariant.stand ∙ c.loop-name.invariant.texts)
          ∙ ap (λ t. take i names ++ t ∷ []) (given.reads ∙ c.as_slice.ensures ∙ c.name-item.is)
          ∙ sym (ap (λ n. take n names) (add-one i) ∙ take-suc names i c.name-item.result c.loop-name-test.true);
    }
