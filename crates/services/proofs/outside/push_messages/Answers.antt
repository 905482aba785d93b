use Rattle.std.proofs.Common.{◌++◌, [], ◌∷◌, take, sym, ap, subst, ◌∙◌}
use Rattle.std.specs.String.{string_bytes}
use Rattle.std.proofs.lemmas.List.{take_more}
use Rattle.farm_base.specs.declared.message.Message.{Message}
use Rattle.services.specs.Outside.{Sends}
use Rattle.services.proofs.SentLemmas.{sends-push}
use Rattle.services.proofs.outside.push_messages.Goals as goal
use Rattle.farmwire.specs.Sealed.{key_in}

pub loop-message-preserved : goal.loop-message-preserved
loop-message-preserved c =
    let messages = c.args.messages.now in
    let place = c.loop-message.message-index in
    let message : Message = c.message-item.result in
    let more = take_more messages place message c.loop-message-test.true ∙ ap (λ (m : Message). take place messages ++ m ∷ []) (sym c.message-item.is) in
    let before = string_bytes c.args.text.now in
    let after = string_bytes c.push_message.new.text in
    subst (λ sent. Sends (key_in c.args.keys.now) sent before after) (sym more)
    (sends-push (key_in c.args.keys.now) (take place messages) message before (string_bytes c.loop-message.text) after c.loop-message.invariant c.in_ok-push_message.ensures)
