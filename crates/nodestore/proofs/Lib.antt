mod FiledLemmas
mod LifeLemmas
