-- A log that is written from its front.
use Rattle.std.proofs.Common.{◌≡◌, ℕ, List, [], ◌∷◌, ◌++◌, Option, Some, None, refl, sym, ap, ◌∙◌, subst, append_assoc, append-nil}
use Rattle.nq_logtext.specs.Lines.{Line, IsSpellable}
use Rattle.nq_logic.specs.Terms.{Each}
use Rattle.nq_logic.specs.Histories.{History}
use Rattle.nq_logic.specs.Classes.{without_classes}
use Rattle.nq_logic.proofs.Lists.{each_append}
use Rattle.nq_log.specs.States.{Block, State, Claim, after_claim, start_of, Step, Continues, Claims, Ends}
use Rattle.nq_log.specs.Logs.{step, reading_of}
use Rattle.nq_log.specs.Blocks.{block_claim, claim_at_end, header_line, end_line, lines_text, lines_of, log_text}
use Rattle.nq_log.specs.Growing.{history_after}
use Rattle.nq_log.proofs.Growing.{one_more_block_law, more_text_law}
use Rattle.nq_log.proofs.Texts.{one_log_law}
use Rattle.nq_log.proofs.RuleClasses.{steps_ignore_classes_law}
use Rattle.nq_drops.specs.Drops.{IsDropped}
use Rattle.nq_block.specs.OpenLogs.{joined, end_text, IsOpenLog, LogBegins, BlockFollows, LogEnds}

pub log_begins_law : LogBegins
log_begins_law = record { blocks = []; spellable = tt; reads = refl; claimed = refl; dropped = tt; makes = refl }

-- rule classes change nothing of what a block claims
abbrev claim_by : State → List Line → Option Step → Option Claim
claim_by s lines o = elim o as (λ o. Option Claim) [
  | None ↦ None
  | Some taken ↦ elim taken as (λ t. Option Claim) [ Continues block ↦ block_claim (record s { block = block }) lines | Claims c ↦ claim_at_end lines c | Ends ↦ None ]
]

abbrev with_history : History → Block → State
with_history h block = record { history = h; block = block }

same_claim : (h : History) (block : Block) (lines : List Line) → block_claim (with_history (without_classes h) block) lines ≡ block_claim (with_history h block) lines
same_claim h block [] = refl
same_claim h block (line ∷ lines) =
    ap (claim_by (with_history (without_classes h) block) lines) (steps_ignore_classes_law h block line) ∙ by_step (λ b. same_claim h b lines) (step (with_history h block) line)
  where
    by_step : ((b : Block) → block_claim (with_history (without_classes h) b) lines ≡ block_claim (with_history h b) lines) →
        (o : Option Step) → claim_by (with_history (without_classes h) block) lines o ≡ claim_by (with_history h block) lines o
    by_step again None = refl
    by_step again (Some (Continues b)) = again b
    by_step again (Some (Claims c)) = refl
    by_step again (Some Ends) = refl

joined_more : (blocks : List (List Line)) (block : List Line) → joined (blocks ++ (block ∷ [])) ≡ joined blocks ++ block
joined_more [] block = append-nil block
joined_more (first ∷ blocks) block = ap (λ lines. first ++ lines) (joined_more blocks block) ∙ sym (append_assoc first (joined blocks) block)

history_more : (h : History) (claims : List Claim) (c : Claim) → history_after h (claims ++ (c ∷ [])) ≡ after_claim (history_after h claims) c
history_more h [] c = refl
history_more h (first ∷ claims) c = history_more (after_claim h first) claims c

pub block_follows_law : BlockFollows
block_follows_law text more claims h g c log block same =
    let here : block_claim (start_of (without_classes g)) block.lines ≡ Some c = same_claim g (start_of g).block block.lines ∙ block.claims in
    let there : block_claim (start_of (history_after [] claims)) block.lines ≡ Some c = subst (λ k. block_claim (start_of k) block.lines ≡ Some c) (same ∙ sym log.makes) here in
    record {
      blocks = log.blocks ++ (block.lines ∷ []);
      spellable = each_append (Each IsSpellable) log.blocks (block.lines ∷ []) log.spellable (block.spellable, tt);
      reads =
          ap (λ t. t ++ more) log.reads
          ∙ ap (λ t. lines_text (header_line ∷ joined log.blocks) ++ t) block.reads
          ∙ sym (more_text_law (header_line ∷ joined log.blocks) block.lines)
          ∙ ap (λ lines. lines_text (header_line ∷ lines)) (sym (joined_more log.blocks block.lines));
      claimed = one_more_block_law [] log.blocks claims block.lines c log.claimed there;
      dropped = each_append IsDropped log.blocks (block.lines ∷ []) log.dropped (block.dropped, tt);
      makes = history_more [] claims c ∙ ap (λ k. after_claim k c) log.makes;
    }

lines_end : (blocks : List (List Line)) → joined blocks ++ (end_line ∷ []) ≡ lines_of blocks
lines_end [] = refl
lines_end (block ∷ blocks) = append_assoc block (joined blocks) (end_line ∷ []) ∙ ap (λ lines. block ++ lines) (lines_end blocks)

-- its text with the last line is that of its blocks
text_ends : (text : List ℕ) (claims : List Claim) (h : History) (log : IsOpenLog text claims h) → text ++ end_text ≡ log_text log.blocks
text_ends text claims h log =
    ap (λ t. t ++ lines_text (end_line ∷ [])) log.reads
    ∙ sym (more_text_law (header_line ∷ joined log.blocks) (end_line ∷ []))
    ∙ ap (λ lines. lines_text (header_line ∷ lines)) (lines_end log.blocks)

pub log_ends_law : LogEnds
log_ends_law text claims h log =
    record {
      reads = ap reading_of (text_ends text claims h log) ∙ one_log_law log.blocks claims log.spellable log.claimed;
      blocks = log.blocks;
      whole = text_ends text claims h log;
      claimed = log.claimed;
      dropped = log.dropped;
    }
