use Rattle.std.proofs.Common.{◌++◌, ap, ◌∙◌}
use Rattle.std.specs.String.{string_bytes}
use Rattle.std.proofs.lemmas.Result.{on_ok_weaker}
use Rattle.services.proofs.SentLemmas.{adds_line, when_ok}
use Rattle.services.proofs.outside.push_message.Goals as goal
use Rattle.farmwire.specs.Sealed.{key_in}

pub returns : goal.returns
returns c = on_ok_weaker c.push_str-3.result
    (adds_line (key_in c.args.keys.now) (string_bytes c.in-Some.line) c.args.message.now (string_bytes c.args.text.now) (string_bytes c.push_str.new.self)
    (string_bytes c.push_str-2.new.self) (string_bytes c.push_str-3.new.self) (rw c.in-Some.is at c.in_ok-line.ensures.sealed) c.in_ok-push_str.ensures.bytes
    (c.in_ok-push_str-2.ensures.bytes ∙ ap (λ line. string_bytes c.push_str.new.self ++ line) c.as_str.ensures.value))
    (when_ok c.push_str-3.result _ _ _ c.push_str-3.ensures.bytes)
