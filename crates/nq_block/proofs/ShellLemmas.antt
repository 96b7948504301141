-- The lines of a shell, written.
use Rattle.std.proofs.Math.Seq.{take-suc}
use Rattle.std.proofs.lemmas.List.{map_push}
use Rattle.std.proofs.Common.{◌≡◌, ℕ, ◌+◌, ◌<◌, ◌&&◌, Bool, true, false, Option, Some, None, List, [], ◌∷◌, ◌++◌, length, take, get_or, if◌then◌else◌, refl, sym, ap, ◌∙◌, subst, append_assoc, add-one}
use Rattle.std.specs.Prelude.{IsTrue, is_none}
use Rattle.std.specs.List.{flat_map}
use Rattle.nq_logtext.specs.Fields.{name, mode, of_name}
use Rattle.nq_logtext.specs.Symbols.{is_symbol}
use Rattle.nq_logtext.specs.Lines.{HasKinds}
use Rattle.nq_logtext.specs.Views.{one_name}
use Rattle.nq_logtext.specs.Reading.{◌>>=◌}
use Rattle.nq_logtext.specs.declared.line.Mode.{Mode}
use Rattle.nq_logtext.specs.declared.word.Word.TheVariants as word
use Rattle.nq_logic.specs.Terms.{Name, Symbol, Each}
use Rattle.nq_logic.specs.Histories.{Shell, AddShell, Part as TreePart}
use Rattle.nq_logic.specs.ShellPrinciple.{listed}
use Rattle.nq_bank.specs.declared.shell.Part.{Part}
use Rattle.nq_bank.specs.Content.{Content}
use Rattle.nq_bank.specs.Shells.{part_at, parts_at, restriction_of as bank_restriction}
use Rattle.nq_log.specs.States.{CaseLine, Block, State, Claim, Claims, Adds, Continues, is_empty, only_when}
use Rattle.nq_log.specs.Fields.{names_in}
use Rattle.nq_log.specs.ClosingLines.{restriction_of, has_room, is_shell_ok, base_of}
use Rattle.nq_log.specs.Logs.{step, continued, claimed}
use Rattle.nq_block.specs.declared.writer.Writer.{Writer}
use Rattle.nq_block.specs.Closings.{IsPartSpelled, IsBaseSpelled, CanAdd}
use Rattle.nq_block.specs.Writing.{IsDraft, Frame, block_of, state_of, with_part, IsWriting, AddsLine, line_text, base_text}
use Rattle.nq_block.proofs.Leading.{leads_on, leads_out}
use Rattle.nq_block.proofs.RuleLemmas.{after}
use Rattle.nq_block.proofs.ClosingLines.{nothing_waits}

names_spelled : (rs : List Name) → Each (λ r. IsTrue (is_symbol r)) rs → HasKinds (of_name ∷ []) [] (flat_map one_name rs)
names_spelled [] spelled = tt
names_spelled (r ∷ rs) spelled = (spelled.0, names_spelled rs spelled.1)

names_read : (rs : List Name) → names_in (flat_map one_name rs) ≡ Some rs
names_read [] = refl
names_read (r ∷ rs) = rw (names_read rs) refl

pub parts_next : (bank : Content) (before : List TreePart) (parts : List Part) (i : ℕ) (p : Part) → i < length parts → p ≡ get_or parts i p →
    (before ++ parts_at bank (take i parts)) ++ (part_at bank p ∷ []) ≡ before ++ parts_at bank (take (i + 1) parts)
parts_next bank before parts i p below is =
    let more : parts_at bank (take (i + 1) parts) ≡ parts_at bank (take i parts) ++ (part_at bank p ∷ []) =
    ap (λ n. parts_at bank (take n parts)) (add-one i) ∙ ap (parts_at bank) (take-suc parts i p below ∙ ap (λ x. take i parts ++ (x ∷ [])) (sym is)) ∙ map_push (part_at bank) (take i parts) p in
    append_assoc before (parts_at bank (take i parts)) (part_at bank p ∷ []) ∙ ap (λ ps. before ++ ps) (sym more)

listed_is : (one_of : Bool) (rs : List Name) → listed (bank_restriction one_of rs) ≡ rs
listed_is true rs = refl
listed_is false rs = refl

module _ (bank : Content) (frame : Frame) (old new : Writer) (v : IsWriting bank frame old) where
  abbrev s : State
  s = state_of frame v.waiting v.terms

  pub part_written : (a d : Name) (m : Mode) (one_of : Bool) (rs : List Name) → ((rs : List Name) → restriction_of m rs ≡ bank_restriction one_of rs) →
      IsPartSpelled (record { accessor = a; restriction = bank_restriction one_of rs; default = d }) → AddsLine (after word.Part (name a ∷ mode m ∷ name d ∷ flat_map one_name rs)) old new →
      IsWriting bank (with_part frame (record { accessor = a; restriction = bank_restriction one_of rs; default = d })) new
  part_written a d m one_of rs told spelled adds =
      let line = after word.Part (name a ∷ mode m ∷ name d ∷ flat_map one_name rs) in
      let part : TreePart = record { accessor = a; restriction = bank_restriction one_of rs; default = d } in
      let with_restriction : TreePart → Block = λ p. record s.block { parts = frame.parts ++ (p ∷ []) } in
      let taken : step s line ≡ Some (Continues (block_of (with_part frame part) v.waiting v.terms)) =
      ap (λ (o : Option (List Name)). continued (o >>= λ rs. Some (with_restriction (record { accessor = a; restriction = restriction_of m rs; default = d })))) (names_read rs)
      ∙ ap (λ r. Some (Continues (with_restriction (record { accessor = a; restriction = r; default = d })))) (told rs) in
      let rs_spelled = subst (Each (λ r. IsTrue (is_symbol r))) (listed_is one_of rs) spelled.recognizers in
      let grown : IsWriting bank (with_part frame part) (record old { text = old.text ++ line_text line }) =
      record {
        terms = v.terms;
        waiting = v.waiting;
        leads = leads_on old.text s line (block_of (with_part frame part) v.waiting v.terms) v.leads (spelled.accessor, (tt, (spelled.default, names_spelled rs rs_spelled))) taken;
        cases = v.cases;
        count = v.count;
        fits = v.fits;
        of_terms = v.of_terms;
        of_variables = v.of_variables;
        new = v.new;
        names = v.names;
        sound = v.sound;
      } in
      subst (IsWriting bank (with_part frame part)) (sym adds) grown

  pub shell_closed : (shell : Shell) → frame.introduced ≡ None → frame.parts ≡ shell.parts → frame.cases ≡ [] → CanAdd frame.history shell →
      AddsLine (after word.Shell (name shell.constructor ∷ name (base_text shell.base) ∷ name shell.recognizer ∷ [])) old new → IsDraft frame.history (Adds (AddShell shell)) new.text
  shell_closed shell alone parts cases can adds =
      let line = after word.Shell (name shell.constructor ∷ name (base_text shell.base) ∷ name shell.recognizer ∷ []) in
      let c : Claim = Adds (AddShell shell) in
      let none : v.waiting ≡ [] = nothing_waits s.block v.waiting (v.cases ∙ ap (λ cs. Some ([], cs)) cases) in
      let made : List TreePart → Option Name → Shell = λ ps b. record { constructor = shell.constructor; base = b; recognizer = shell.recognizer; parts = ps } in
      let result : Shell → Option Claim = λ x. only_when (is_none frame.introduced && is_empty v.waiting && has_room frame.history && is_shell_ok frame.history x) (Adds (AddShell x)) in
      let taken : step s line ≡ Some (Claims c) =
      ap (λ ps. claimed (result (made ps (base_of (base_text shell.base))))) parts
      ∙ ap (λ b. claimed (result (made shell.parts b))) (base_is shell.base can.base_spelled)
      ∙ ap (λ (o : Option Symbol). claimed (only_when (is_none o && is_empty v.waiting && has_room frame.history && is_shell_ok frame.history shell) c)) alone
      ∙ ap (λ (w : List CaseLine). claimed (only_when (is_empty w && has_room frame.history && is_shell_ok frame.history shell) c)) none
      ∙ ap (λ b. claimed (only_when (b && is_shell_ok frame.history shell) c)) can.room
      ∙ ap (λ b. claimed (only_when b c)) can.accepted in
      subst (IsDraft frame.history c) (sym (ap (λ (w : Writer). w.text) adds)) (leads_out old.text s line c v.leads (can.constructor_spelled, (base_spelled shell.base can.base_spelled, (can.recognizer_spelled, tt))) taken)
    where
      base_is : (b : Option Name) → IsBaseSpelled b → base_of (base_text b) ≡ b
      base_is None spelled = refl
      base_is (Some b) spelled = ap (λ t. if t then None else Some b) spelled.1

      base_spelled : (b : Option Name) → IsBaseSpelled b → IsTrue (is_symbol (base_text b))
      base_spelled None spelled = refl
      base_spelled (Some b) spelled = spelled.0
