use Rattle.std.proofs.Common.{◌∙◌, ap, subst, sym, arith}
use Rattle.std.specs.Prelude.{All}
use Rattle.std.proofs.lemmas.List.{map_more}
use Rattle.nq_bank.specs.declared.node.Sym.{Sym}
use Rattle.nq_bank.specs.Content.{Content, IsNamed}
use Rattle.nq_bank.specs.Shells.{texts_at}
use Rattle.nq_replay.proofs.UncountedLemmas.{grown_refl, grown_trans}
use Rattle.nq_replay.proofs.NameLemmas.{names_grown, named_more, text_symbol}
use Rattle.nq_replay.proofs.parts.names_of.Goals as goal

pub loop-text-init : goal.loop-text-init
loop-text-init c =
    record {
      grows = grown_refl c.args.history.now c.args.work.now c.requires.stands;
      named = subst (All (IsNamed c.args.work.now.bank)) (sym c.new-names.ensures.items) (λ k d below. absurd (omega (arith, below)));
      names = ap (texts_at c.args.work.now.bank) c.new-names.ensures.items;
    }

pub symbol-requires-clause-symbol : goal.symbol-requires-clause-symbol
symbol-requires-clause-symbol c = text_symbol c.args.texts.now c.loop-text.text-index _ c.requires.symbols c.loop-text-test.true

pub returns-in_err-s-clause-grows : goal.returns-in_err-s-clause-grows
returns-in_err-s-clause-grows c = grown_trans c.args.history.now c.args.work.now c.loop-text.work c.symbol.new.work c.loop-text.invariant.grows c.symbol.ensures.grows

pub returns-in_err-push-clause-grows : goal.returns-in_err-push-clause-grows
returns-in_err-push-clause-grows c = grown_trans c.args.history.now c.args.work.now c.loop-text.work c.symbol.new.work c.loop-text.invariant.grows c.symbol.ensures.grows

pub loop-text-preserved : goal.loop-text-preserved
loop-text-preserved c =
    let old : Content = c.loop-text.work.bank in
    let new : Content = c.symbol.new.work.bank in
    let grows = c.symbol.ensures.grows.grows.bank in
    let s : Sym = c.in_ok-s.s in
    record {
      grows = grown_trans c.args.history.now c.args.work.now c.loop-text.work c.symbol.new.work c.loop-text.invariant.grows c.symbol.ensures.grows;
      named = subst (All (IsNamed new)) (sym c.in_ok-push.ensures.items) (named_more old new c.loop-text.names.items s grows c.loop-text.invariant.named c.in_ok-s.ensures.name.named);
      names =
          ap (texts_at new) c.in_ok-push.ensures.items ∙
          names_grown old new c.loop-text.names.items s _ grows c.loop-text.invariant.named c.in_ok-s.ensures.name.reads c.loop-text.invariant.names ∙
          sym (map_more (λ text. text.now) c.args.texts.now c.loop-text.text-index _ c.loop-text-test.true);
    }
