mod StepLemmas
mod KindLemmas
mod ConditionLemmas
mod ArithmeticLemmas
mod TruthLemmas
