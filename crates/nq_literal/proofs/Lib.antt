mod LiteralLemmas
mod TruthLemmas
