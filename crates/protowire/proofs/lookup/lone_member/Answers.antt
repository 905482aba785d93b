use Rattle.std.proofs.Common.{◌≡◌, true, false, List, [], ◌∷◌, Option, Some, None, get_or, sym, ◌∙◌, refl}
use Rattle.std.specs.Option.{option_map, is_some}
use Rattle.protowire.specs.Seen.{entries}
use Rattle.protowire.specs.Lookups.{Member, lone, members_in}
use Rattle.protowire.proofs.LookupLoop.{no_field, listed, first_step, same_step, second_step}
use Rattle.protowire.proofs.lookup.lone_member.Goals as goal

none_yet : {X : Type 0} (f : X → Member) (found : Option X) → is_some found ≡ false → listed (option_map f found) ≡ []
none_yet f None e = refl
none_yet f (Some x) e = absurd cc

-- where a member was found already, the next one makes two
not_lone : {X : Type 0} (f : X → Member) (found : Option X) (ms : List Member) → is_some found ≡ true → ((a : Member) → listed (option_map f found) ≡ a ∷ [] → lone ms ≡ None) → None ≡ lone ms
not_lone f None ms e second = absurd cc
not_lone f (Some x) ms e second = sym (second (f x) refl)

pub loop-field-preserved-in_default : goal.loop-field-preserved-in_default
loop-field-preserved-in_default c =
    same_step c.args.members.now c.args.fields.now c.loop-field.field-index c.loop-field-test.true (sym c.in_default.ensures) ∙ c.loop-field.invariant

pub loop-field-preserved : goal.loop-field-preserved
loop-field-preserved c =
    let f = get_or c.args.fields.now c.loop-field.field-index no_field in
    let m : Member = (f.number, c.in-Some.body.now) in
    let none = none_yet (λ m. (m.0, m.1.now)) c.loop-field.lone (sym c.is_some.ensures ∙ c.if-is_some.false) in
    first_step c.args.members.now c.args.fields.now c.loop-field.field-index m c.loop-field-test.true (sym c.in-Some.ensures) (c.loop-field.invariant ∙ none)

pub returns-then-is_some-clause-value : goal.returns-then-is_some-clause-value
returns-then-is_some-clause-value c =
    let f = get_or c.args.fields.now c.loop-field.field-index no_field in
    let m : Member = (f.number, c.in-Some.body.now) in
    not_lone (λ m. (m.0, m.1.now)) c.loop-field.lone (members_in c.args.members.now (entries c.args.fields.now)) (sym c.is_some.ensures ∙ c.if-is_some.true)
    (λ a one. second_step c.args.members.now c.args.fields.now c.loop-field.field-index a m c.loop-field-test.true (sym c.in-Some.ensures) (c.loop-field.invariant ∙ one))
