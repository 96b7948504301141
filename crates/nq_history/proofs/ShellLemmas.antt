-- Shells mean the same in a bank that grew.
use Rattle.std.proofs.Common.{◌≡◌, Option, Some, None, List, [], ◌∷◌, get_or, refl, ap, ◌∙◌}
use Rattle.std.specs.Prelude.{All}
use Rattle.nq_bank.specs.declared.node.Sym.{Sym}
use Rattle.nq_bank.specs.declared.shell.Part.{Part}
use Rattle.nq_bank.specs.declared.shell.Shell.{Shell}
use Rattle.nq_bank.specs.Content.{Content, IsNamed, Grows, text_at}
use Rattle.nq_bank.specs.Shells.{texts_at, text_if, part_at, parts_at, shell_at, PartStands, BaseStands, ShellStands}
use Rattle.nq_bank.proofs.NodesLemmas.{All-head, All-tail}
use Rattle.nq_bank.proofs.Growth.{IsNamed-grown, text_at-grown}

module _ (old new : Content) (h : Grows old new) where
  pub texts-grown : (names : List Sym) → All (IsNamed old) names → texts_at new names ≡ texts_at old names
  texts-grown [] k = refl
  texts-grown (s ∷ names) k =
      ap (λ x. x ∷ texts_at new names) (text_at-grown old new s h (All-head (IsNamed old) s names k)) ∙
      ap (λ xs. text_at old s ∷ xs) (texts-grown names (All-tail (IsNamed old) s names k))

  pub names-grown : (names : List Sym) → All (IsNamed old) names → All (IsNamed new) names
  names-grown names k = λ i d below. IsNamed-grown old new (get_or names i d) h (k i d below)

  part_at-grown : (part : Part) → PartStands old part → part_at new part ≡ part_at old part
  part_at-grown part k =
      let accessor = text_at-grown old new part.accessor h k.accessor in
      let recognizers = texts-grown part.recognizers.items k.recognizers in
      let default = text_at-grown old new part.default h k.default in
      rw (accessor, recognizers, default) refl

  parts_at-grown : (parts : List Part) → All (PartStands old) parts → parts_at new parts ≡ parts_at old parts
  parts_at-grown [] k = refl
  parts_at-grown (part ∷ parts) k =
      ap (λ x. x ∷ parts_at new parts) (part_at-grown part (All-head (PartStands old) part parts k)) ∙
      ap (λ xs. part_at old part ∷ xs) (parts_at-grown parts (All-tail (PartStands old) part parts k))

  base-grown : (base : Option Sym) → BaseStands old base → text_if new base ≡ text_if old base
  base-grown None k = refl
  base-grown (Some s) k = ap Some (text_at-grown old new s h k)

  pub shell_at-grown : (s : Shell) → ShellStands old s → shell_at new s ≡ shell_at old s
  shell_at-grown s k =
      let constructor = text_at-grown old new s.constructor h k.constructor in
      let base = base-grown s.base k.base in
      let recognizer = text_at-grown old new s.recognizer h k.recognizer in
      let parts = parts_at-grown s.parts.items k.parts in
      rw (constructor, base, recognizer, parts) refl

  part_stands : (part : Part) → PartStands old part → PartStands new part
  part_stands part k =
      record { accessor = IsNamed-grown old new part.accessor h k.accessor; recognizers = names-grown part.recognizers.items k.recognizers; default = IsNamed-grown old new part.default h k.default }

  base_stands : (base : Option Sym) → BaseStands old base → BaseStands new base
  base_stands None k = tt
  base_stands (Some s) k = IsNamed-grown old new s h k

  pub ShellStands-grown : (s : Shell) → ShellStands old s → ShellStands new s
  ShellStands-grown s k =
      record {
        constructor = IsNamed-grown old new s.constructor h k.constructor;
        base = base_stands s.base k.base;
        recognizer = IsNamed-grown old new s.recognizer h k.recognizer;
        parts = λ i d below. part_stands (get_or s.parts.items i d) (k.parts i d below);
      }
