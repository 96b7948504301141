use Rattle.std.proofs.Common.{◌≡◌, ◌+◌, ℕ, suc, false, get_or, drop, sym, ap, ◌∙◌, subst, arith}
use Rattle.std.specs.Prelude.{bytes_eq}
use Rattle.nq_bank.specs.declared.shell.Part.{Part}
use Rattle.nq_bank.specs.Content.{text_at}
use Rattle.nq_bank.specs.Shells.{part_at, parts_at}
use Rattle.nq_bank.proofs.Texts.{bytes_eq-true}
use Rattle.nq_decrease.specs.OwnLevels.{HasAccessor, IsNoAccessor}
use Rattle.nq_decrease.proofs.OwnPlaceLemmas.{none_from, option_both, part_read}
use Rattle.nq_decrease.proofs.own_levels.+place_of.Goals as goal

pub returns-then-is_same_name : goal.returns-then-is_same_name
returns-then-is_same_name t c =
    let b = c.args.bank.now in
    let part = c.index-parts-from.result in
    record {
      part = part_at b part;
      at = part_read b c.args.parts.now c.args.from part c.if-from-parts.false c.index-parts-from.is;
      accessor = bytes_eq-true (text_at b c.args.f) (text_at b (get_or c.args.parts.now c.args.from part).accessor) (sym c.is_same_name.ensures ∙ c.if-is_same_name.true) ∙ ap (λ (p : Part). text_at b p.accessor) (sym c.index-parts-from.is);
    }

pub returns : goal.returns
returns t c =
    let b = c.args.bank.now in
    let part = c.index-parts-from.result in
    let parts = parts_at b c.args.parts.now in
    let f = text_at b c.args.f in
    let other : bytes_eq f (text_at b part.accessor) ≡ false = subst (λ (p : Part). bytes_eq f (text_at b p.accessor) ≡ false) (sym c.index-parts-from.is) (sym c.is_same_name.ensures ∙ c.if-is_same_name.false) in
    let next : c.args.from + 1 ≡ suc c.args.from = omega arith in
    option_both c.place_of.result (IsNoAccessor (drop (c.args.from + 1) parts) f) (IsNoAccessor (drop c.args.from parts) f) (HasAccessor parts f) (HasAccessor parts f) (λ none.
    none_from parts c.args.from f (part_at b part) (part_read b c.args.parts.now c.args.from part c.if-from-parts.false c.index-parts-from.is) other (subst (λ (k : ℕ). IsNoAccessor (drop k parts) f) next none)) (λ k h. h) c.place_of.ensures
