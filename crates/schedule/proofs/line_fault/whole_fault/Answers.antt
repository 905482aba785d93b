use Rattle.std.proofs.Common.{List, ℕ, subst, arith}
use Rattle.std.proofs.lemmas.List.{length-map}
use Rattle.events.specs.declared.event.Event.{Event}
use Rattle.words.specs.Words.{texts}
use Rattle.schedule.specs.declared.verb.Verb.{Verb}
use Rattle.schedule.specs.Forms.{Fit}
use Rattle.schedule.specs.Words.{Says}
use Rattle.schedule.proofs.FormLemmas.{said_from_fit, many_folders, folder_twice, falling_lefts}
use Rattle.schedule.proofs.line_fault.whole_fault.Goals as goal

-- the words fit, and say no event of this verb
abbrev AreSilent : List (List ℕ) → Verb → Type 0
AreSilent ws verb = Fit verb ws × ((e : Event) → Says verb ws e → ⊥)

pub unreachable-requires : goal.unreachable-requires
unreachable-requires c =
    said_from_fit c.args.verb (texts c.args.words.now) c.in_default.not-Ask c.in_default.not-Finish c.requires.fit c.requires.silent

pub returns-in-Ask : goal.returns-in-Ask
returns-in-Ask c =
    let h = subst (AreSilent (texts c.args.words.now)) c.in-Ask.is (c.requires.fit, c.requires.silent) in
    let len = length-map c.args.words.now (λ w. w.now) in
    (c.in-Ask.is, c.requires.fit, many_folders _ h.0 (omega (arith, len, c.if-words.true)))

pub returns-in-Ask-2 : goal.returns-in-Ask-2
returns-in-Ask-2 c =
    let h = subst (AreSilent (texts c.args.words.now)) c.in-Ask-2.is (c.requires.fit, c.requires.silent) in
    let len = length-map c.args.words.now (λ w. w.now) in
    (c.in-Ask-2.is, c.requires.fit, folder_twice _ h.0 (omega (arith, len, c.if-words.false)) h.1)

pub returns-in-Finish : goal.returns-in-Finish
returns-in-Finish c =
    let h = subst (AreSilent (texts c.args.words.now)) c.in-Finish.is (c.requires.fit, c.requires.silent) in
    (c.in-Finish.is, c.requires.fit, falling_lefts _ h.0 h.1)
