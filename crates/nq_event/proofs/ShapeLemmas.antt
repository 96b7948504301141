-- The parts of shells over names.
use Rattle.std.proofs.Common.{◌≡◌, ℕ, Bool, true, false, List, ap, ◌∙◌}
use Rattle.nq_logic.specs.Histories.{Restriction, Part as PartOfTexts}
use Rattle.nq_bank.specs.declared.shell.Part.{Part}
use Rattle.nq_bank.specs.Content.{Content, text_at}
use Rattle.nq_bank.specs.Shells as bank_shells
use Rattle.nq_bank.specs.Shells.{texts_at}
use Rattle.nq_event.specs.declared.shells.PartOutline.{PartOutline}
use Rattle.nq_event.specs.Shapes.{names_at, part_at, restriction_of}

restriction_same : (one_of : Bool) (xs ys : List (List ℕ)) → xs ≡ ys → bank_shells.restriction_of one_of xs ≡ restriction_of one_of ys
restriction_same true xs ys h = ap (restriction_of true) h
restriction_same false xs ys h = ap (restriction_of false) h

abbrev part_with : List ℕ → Restriction → List ℕ → PartOfTexts
part_with x y z = record { accessor = x; restriction = y; default = z }

pub part_is : (bank : Content) (part : Part) (outline : PartOutline) → text_at bank part.accessor ≡ outline.accessor.now → part.one_of ≡ outline.restriction.one_of → texts_at bank part.recognizers.items ≡ names_at outline.restriction.recognizers.now
    → text_at bank part.default ≡ outline.default.now → bank_shells.part_at bank part ≡ part_at outline
part_is bank part outline a o r d =
    let restriction = ap (λ b. bank_shells.restriction_of b (texts_at bank part.recognizers.items)) o ∙ restriction_same outline.restriction.one_of (texts_at bank part.recognizers.items) (names_at outline.restriction.recognizers.now) r in
    let first = ap (λ x. part_with x (bank_shells.restriction_of part.one_of (texts_at bank part.recognizers.items)) (text_at bank part.default)) a in
    let second = ap (λ x. part_with outline.accessor.now x (text_at bank part.default)) restriction in
    first ∙ second ∙ ap (part_with outline.accessor.now (restriction_of outline.restriction.one_of (names_at outline.restriction.recognizers.now))) d
