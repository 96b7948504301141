use Rattle.std.proofs.Common.{[], ◌∷◌, ◌++◌, map, take, sym, ap, ◌∙◌, subst}
use Rattle.std.specs.Prelude.{All}
use Rattle.std.proofs.lemmas.List.{map_push, map_more}
use Rattle.nq_bank.specs.Content.{Content, IsNamed, text_at}
use Rattle.nq_bank.specs.Shells.{texts_at}
use Rattle.nq_bank.proofs.Growth.{Grows-trans}
use Rattle.nq_bank.proofs.Standing.{All-push}
use Rattle.nq_history.specs.GroundTable.{letter}
use Rattle.nq_history.proofs.ShellLemmas.{texts-grown, names-grown}
use Rattle.nq_history.proofs.ground_entries.formals_of.Goals as goal

pub loop-letter-preserved : goal.loop-letter-preserved
loop-letter-preserved c =
    let bank : Content = c.loop-letter.bank in
    let new : Content = c.name.new.self in
    let xs = c.loop-letter.formals.items in
    let letters = c.args.letters.now in
    let given = c.in_ok-s.ensures.ok in
    let push = c.in_ok-push.ensures.items in
    record {
      grows = Grows-trans c.args.bank.now bank new c.loop-letter.invariant.grows given.grows;
      stand = subst (All (IsNamed new)) (sym push) (All-push (IsNamed new) xs c.in_ok-s.s (names-grown bank new given.grows xs c.loop-letter.invariant.stand) given.named);
      formals =
          ap (texts_at new) push ∙
          map_push (text_at new) xs c.in_ok-s.s ∙
          ap (λ ts. ts ++ text_at new c.in_ok-s.s ∷ []) (texts-grown bank new given.grows xs c.loop-letter.invariant.stand ∙ c.loop-letter.invariant.formals) ∙
          ap (λ t. map letter (take c.loop-letter.letter-index letters) ++ t ∷ []) given.reads ∙
          sym (map_more letter letters c.loop-letter.letter-index 0 c.loop-letter-test.true);
    }
