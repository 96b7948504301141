mod KnownLemmas
mod GrownLemmas
mod MadeLemmas
mod SingleLemmas
mod SizeLemmas
mod OrdinalLemmas
