use Rattle.std.proofs.Common.{rules, ◌≡◌, ◌<◌, ◌++◌, [], sym, ◌∙◌, ap, length, get_or}
use Rattle.std.proofs.lemmas.Option.{slice_get-get_or}
use Rattle.std.specs.String.{string_bytes}
use Rattle.names.specs.declared.digest.Digest.{Digest}
use Rattle.names.specs.declared.digest.Key.{Key}
use Rattle.answers.specs.Answers.{key_line}
use Rattle.answers.proofs.definition.lines.Goals as goal
use Rattle.answers.proofs.Texts.{keys_text-next}

pub loop-number-preserved : goal.loop-number-preserved
loop-number-preserved c =
    let digests = c.args.digests.now in
    let keys = c.args.keys.now in
    let number = c.loop-number.number in
    let no_digest : Digest = record { 0 = [] } in
    let no_key : Key = record { 0 = no_digest } in
    let has_digest : number < length digests = search rules in
    let has_key : number < length keys = search rules in
    let line = key_line (get_or digests number no_digest) (get_or keys number no_key) in
    let pushed : string_bytes c.push_key.new.text ≡ string_bytes c.loop-number.text ++ line = c.in_ok-push_key.ensures in
    pushed ∙ ap (λ text. text ++ line) c.loop-number.invariant
    ∙ sym (keys_text-next digests keys number (get_or digests number no_digest) (get_or keys number no_key)
    (slice_get-get_or digests number no_digest has_digest) (slice_get-get_or keys number no_key has_key))
