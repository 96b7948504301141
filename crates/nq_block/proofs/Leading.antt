-- Lines that lead from the start of a block go on with each line.
use Rattle.std.proofs.Common.{◌≡◌, ℕ, List, [], ◌∷◌, ◌++◌, refl, sym, ap, ◌∙◌}
use Rattle.std.specs.Prelude.{Some}
use Rattle.nq_logtext.specs.Lines.{Line, IsSpellable}
use Rattle.nq_logic.proofs.Lists.{each_append}
use Rattle.nq_logic.specs.Histories.{History}
use Rattle.nq_log.specs.States.{Block, State, Claim, start_of, Continues, Claims}
use Rattle.nq_log.specs.Logs.{step}
use Rattle.nq_log.specs.Blocks.{lines_text}
use Rattle.nq_log.proofs.Growing.{one_more_line_law, closing_line_law, more_text_law}
use Rattle.nq_block.specs.Writing.{IsDraft, LeadsTo, line_text}

pub leads_first : (h : History) → LeadsTo [] (start_of h)
leads_first h = record { lines = []; spellable = tt; state = refl; reads = refl }

-- the text of the lines with one more
text_on : (text : List ℕ) (lines : List Line) (line : Line) → text ≡ lines_text lines → text ++ line_text line ≡ lines_text (lines ++ (line ∷ []))
text_on text lines line reads = ap (λ t. t ++ line_text line) reads ∙ sym (more_text_law lines (line ∷ []))

pub leads_on : (text : List ℕ) (s : State) (line : Line) (block : Block) → LeadsTo text s → IsSpellable line →
    step s line ≡ Some (Continues block) → LeadsTo (text ++ line_text line) (record s { block = block })
leads_on text s line block w spellable taken =
    record {
      lines = w.lines ++ (line ∷ []);
      spellable = each_append IsSpellable w.lines (line ∷ []) w.spellable (spellable, tt);
      state = one_more_line_law (start_of s.history) s w.lines line block w.state taken;
      reads = text_on text w.lines line w.reads;
    }

-- a closing line makes them a block
pub leads_out : (text : List ℕ) (s : State) (line : Line) (c : Claim) → LeadsTo text s → IsSpellable line →
    step s line ≡ Some (Claims c) → IsDraft s.history c (text ++ line_text line)
leads_out text s line c w spellable taken =
    record {
      lines = w.lines ++ (line ∷ []);
      spellable = each_append IsSpellable w.lines (line ∷ []) w.spellable (spellable, tt);
      claims = closing_line_law (start_of s.history) s w.lines line c w.state taken;
      reads = text_on text w.lines line w.reads;
    }
