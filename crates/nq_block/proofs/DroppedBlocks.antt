-- A block that is written with its DROP lines.
use Rattle.std.proofs.Common.{◌≡◌, ℕ, List, ◌++◌, refl, ◌∙◌}
use Rattle.std.specs.Prelude.{Result, Ok, Err, OnOk}
use Rattle.nq_logtext.specs.Lines.{Line, IsSpellable}
use Rattle.nq_logic.specs.Terms.{Each}
use Rattle.nq_logic.specs.Histories.{History}
use Rattle.nq_log.specs.States.{Claim}
use Rattle.nq_log.specs.Blocks.{lines_text}
use Rattle.nq_drops.specs.Drops.{with_drops}
use Rattle.nq_drops.proofs.KeptClaims.{drops_keep_claim_law}
use Rattle.nq_drops.proofs.Standing.{drops_stand_law}
use Rattle.nq_block.specs.Blocks.{AddsBlock}
use Rattle.nq_block.specs.Writing.{IsDraft}

pub on_both : {T E P Q R : Type 0} (r : Result T E) → (P → Q → R) → OnOk r P → OnOk r Q → OnOk r R
on_both (Ok x) f p q = f p q
on_both (Err e) f p q = tt

pub block_dropped : (h : History) (c : Claim) (old new text given : List ℕ) → IsDraft h c text → given ≡ text →
    ((lines : List Line) → Each IsSpellable lines → given ≡ lines_text lines → new ≡ old ++ lines_text (with_drops lines)) →
    ((lines : List Line) → Each IsSpellable lines → given ≡ lines_text lines → Each IsSpellable (with_drops lines)) → AddsBlock h c old new
block_dropped h c old new text given draft same added spelled =
    record {
      text = lines_text (with_drops draft.lines);
      whole = added draft.lines draft.spellable (same ∙ draft.reads);
      block =
          record {
            lines = with_drops draft.lines;
            spellable = spelled draft.lines draft.spellable (same ∙ draft.reads);
            claims = drops_keep_claim_law h draft.lines c draft.claims;
            dropped = drops_stand_law draft.lines;
            reads = refl;
          };
    }
