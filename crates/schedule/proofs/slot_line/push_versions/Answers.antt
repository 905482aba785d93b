use Rattle.std.proofs.Common.{rules, ◌≡◌, ◌++◌, ◌+◌, Some, drop, sym, ◌∙◌, ap, append_assoc}
use Rattle.std.specs.List.{flat_map, enumerate_from}
use Rattle.std.specs.String.{string_bytes}
use Rattle.versions.specs.Line.{ticket_in, digest_in}
use Rattle.schedule.specs.Printing.{version_text}
use Rattle.schedule.proofs.PrintedVersions.{text_of_next}
use Rattle.schedule.proofs.slot_line.push_versions.Goals as goal

pub loop-index-preserved : goal.loop-index-preserved
loop-index-preserved c =
    let line = c.args.line.now in
    let index = c.loop-index.index in
    let ticket = c.unwrap-ticket.result in
    let digest = c.unwrap-digest.result in
    let ticketed : ticket_in line (index + 1) ≡ Some ticket = search rules in
    let digested : digest_in line (index + 1) ≡ Some digest = search rules in
    let version = version_text (index + 1, record { ticket = ticket; digest = digest }) in
    let rest = flat_map version_text (enumerate_from (index + 1 + 1) (drop (index + 1) line)) in
    let pushed : string_bytes c.push_version.new.text ≡ string_bytes c.loop-index.text ++ version = c.in_ok-push_version.ensures in
    ap (λ text. text ++ rest) pushed ∙ append_assoc (string_bytes c.loop-index.text) version rest
    ∙ ap (λ versions. string_bytes c.loop-index.text ++ versions) (sym (text_of_next line index ticket digest ticketed digested))
    ∙ c.loop-index.invariant
