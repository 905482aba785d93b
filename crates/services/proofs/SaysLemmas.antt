-- What is said by a text.
use Rattle.std.proofs.Common.{◌≡◌, ℕ, Bool, true, false, ◌==◌, List, [], ◌∷◌, ◌++◌, inl, inr, refl, sym, ap, ◌∙◌, subst, append_assoc, append-nil, arith}
use Rattle.std.proofs.lemmas.Bool.Decides.{nat_tests}
use Rattle.names.specs.Decimals.{Lacks}
use Rattle.names.proofs.TextLemmas.{Lacks-head, Lacks-tail, Lacks-append, Lacks-from_test}
use Rattle.farm_base.specs.declared.message.Message.{Message}
use Rattle.farmwire.specs.Sealed.{IsSealed, Keys}
use Rattle.farmwire.proofs.EndLemmas.{sealed_ends}
use Rattle.farmwire.proofs.UniqueLemmas.{sealed_same}
use Rattle.protocol.specs.Lists.{In}
use Rattle.services.specs.Lines.{lines_behind}
use Rattle.services.specs.Outside.{from_outside, AreSent, Sends}
use Rattle.services.specs.Outside.IsSent.{Sealed, Unsent}
use Rattle.services.specs.Says.{IsNote, Says, Offers}
use Rattle.services.specs.Says.Says.{Says_nothing, Says_message, Says_note}
use Rattle.services.specs.Served.{joined}

-- what was written is still
pub still_in : (m : Message) (xs ys : List Message) → In m xs → In m (xs ++ ys)
still_in m [] ys i = absurd i
still_in m (x ∷ xs) ys (inl e) = inl e
still_in m (x ∷ xs) ys (inr i) = inr (still_in m xs ys i)

-- of messages that are lost none is written
abbrev pub said_of : Bool → List Message → List Message
said_of true messages = []
said_of false messages = messages

pub said_both : (lost : Bool) (messages more : List Message) → said_of lost messages ++ said_of lost more ≡ said_of lost (messages ++ more)
said_both true messages more = refl
said_both false messages more = refl

-- ---- texts one behind the other

pub note_says : (keys : Keys) (line : List ℕ) → IsNote line → Says keys [] line
note_says keys line note = subst (Says keys []) (append-nil line) (Says_note [] line [] note Says_nothing)

pub both_say : (keys : Keys) (messages others : List Message) (text more : List ℕ) → Says keys messages text → Says keys others more
    → Says keys (messages ++ others) (text ++ more)
both_say keys [] others text more Says_nothing h = h
both_say keys messages others text more (Says_message m rest one behind sent says) h =
    subst (Says keys ((m ∷ rest) ++ others)) (sym (append_assoc one behind more)) (Says_message m (rest ++ others) one (behind ++ more) sent (both_say keys rest others behind more says h))
both_say keys messages others text more (Says_note rest line behind note says) h =
    subst (Says keys (messages ++ others)) (sym (append_assoc line behind more)) (Says_note (messages ++ others) line (behind ++ more) note (both_say keys messages others behind more says h))

are_sent_say : (keys : Keys) (messages : List Message) (texts : List (List ℕ)) → AreSent keys messages texts → Says keys messages (joined texts)
are_sent_say keys [] [] h = Says_nothing
are_sent_say keys [] (t ∷ texts) h = absurd h
are_sent_say keys (m ∷ messages) [] h = absurd h
are_sent_say keys (m ∷ messages) (t ∷ texts) (first, others) = Says_message m messages t (joined texts) first (are_sent_say keys messages texts others)

-- messages, and notes behind them
pub sends_say : (keys : Keys) (messages : List Message) (sent notes : List ℕ) → Sends keys messages [] sent → Says keys [] notes → Says keys messages (sent ++ notes)
sends_say keys messages sent notes h behind =
    let says : Says keys messages sent = subst (Says keys messages) (sym h.written) (are_sent_say keys messages h.texts h.each) in
    subst (λ ms. Says keys ms (sent ++ notes)) (append-nil messages) (both_say keys messages [] sent notes says behind)

-- ---- the lines of a text

-- a line and its LF
line_first : (front line more : List ℕ) → Lacks 10 line → lines_behind front (line ++ 10 ∷ more) ≡ (front ++ line) ∷ lines_behind [] more
line_first front [] more h = ap (λ l. l ∷ lines_behind [] more) (sym (append-nil front))
line_first front (b ∷ line) more h =
    let other : (b == 10) ≡ false = (let no = Lacks-head 10 b line h in grind (arith, nat_tests)) in
    rw other (line_first (front ++ b ∷ []) line more (Lacks-tail 10 b line h) ∙ ap (λ l. l ∷ lines_behind [] more) (append_assoc front (b ∷ []) line))

-- what is sealed in one is of the messages, whatever the keys that it opens under
pub only_said : (keys others : Keys) (messages : List Message) (text : List ℕ) → Says keys messages text
    → (sealed : List ℕ) (m : Message) → Offers text sealed → IsSealed others sealed m → In m messages
only_said keys others messages text Says_nothing sealed m offered is = absurd offered
only_said keys others messages text (Says_message n rest one more (Sealed line is_line one_is) says) sealed m offered is =
    let lacks : Lacks 10 (from_outside line) = Lacks-append 10 (109 ∷ 32 ∷ []) line (Lacks-from_test 10 (109 ∷ 32 ∷ []) refl) (sealed_ends keys line n is_line) in
    let lines : lines_behind [] (one ++ more) ≡ from_outside line ∷ lines_behind [] more =
    ap (λ t. lines_behind [] (t ++ more)) one_is ∙ ap (λ t. lines_behind [] (109 ∷ 32 ∷ t)) (append_assoc line (10 ∷ []) more) ∙ line_first [] (from_outside line) more lacks in
    elim (subst (In (from_outside sealed)) lines offered) [
      | inl same ↦ (let line_is : sealed ≡ line = cc same in inl (sealed_same others keys line m n (subst (λ l. IsSealed others l m) line_is is) is_line))
      | inr later ↦ inr (only_said keys others rest more says sealed m later is)
    ]
only_said keys others messages text (Says_message n rest one more (Unsent none one_is) says) sealed m offered is =
    inr (only_said keys others rest more says sealed m (subst (λ t. Offers (t ++ more) sealed) one_is offered) is)
only_said keys others messages text (Says_note rest line more note says) sealed m offered is =
    let lines : lines_behind [] (line ++ more) ≡ (note.mark ∷ note.rest) ∷ lines_behind [] more =
    ap (λ t. lines_behind [] (t ++ more)) note.line_is ∙ ap (lines_behind []) (append_assoc (note.mark ∷ note.rest) (10 ∷ []) more) ∙ line_first [] (note.mark ∷ note.rest) more note.one in
    elim (subst (In (from_outside sealed)) lines offered) [
      | inl same ↦ (let first : note.mark ≡ 109 = cc same in absurd (note.other first))
      | inr later ↦ only_said keys others messages more says sealed m later is
    ]
