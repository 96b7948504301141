mod ValueLemmas
mod PlaceLemmas
mod RuleLemmas
mod LineLemmas
