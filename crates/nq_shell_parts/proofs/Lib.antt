mod SummandLemmas
mod LongerLemmas
