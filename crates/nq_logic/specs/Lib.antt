-- Terms and formulas.
pub mod Terms
pub mod Words
pub mod Numerals
pub mod Values
pub mod Sizes
pub mod Formulas
-- Histories and derivations.
pub mod Histories
pub mod Ground
pub mod Names
pub mod Shells
pub mod Derivations
pub mod Trees
-- What may be added, and what may serve as a rule.
pub mod Admissible
pub mod ShellPrinciple
pub mod RuleShapes
-- Laws.
pub mod Laws
pub mod Shapes
pub mod Additions
pub mod Classes
pub mod Tests
-- Tables and examples, written independently of the definitions.
pub mod Evaluation
pub mod GroundTable
pub mod ShellTable
pub mod TermExamples
pub mod DerivationExamples
pub mod ValueExamples
pub mod ShellExamples
pub mod DefinitionExamples
pub mod NameExamples
pub mod RuleExamples
