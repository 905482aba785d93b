use Rattle.words.proofs.word.digest_of.Goals as goal

pub returns-in_default-clause-only : goal.returns-in_default-clause-only
returns-in_default-clause-only c = λ digest h e. c.in_default.ensures.only (record { 0 = digest }) h e
