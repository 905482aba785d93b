mod FarmLemmas
mod FilterLemmas
mod UnraidedLemmas
