-- What is written: messages so far, and answers.
use Rattle.std.proofs.Common.{◌≡◌, ℕ, List, [], ◌∷◌, ◌++◌, codes, if◌then◌else◌, Result, Ok, Err, inl, inr, refl, sym, ap, ◌∙◌, append_assoc}
use Rattle.std.specs.declared.alloc.AllocError.{AllocError}
use Rattle.std.specs.declared.alloc.Global.{Global}
use Rattle.std.specs.declared.string.String.{String}
use Rattle.std.specs.Result.{IfOk, OnOk, IsErrAnd, is_ok}
use Rattle.std.specs.String.{string_bytes}
use Rattle.std.proofs.lemmas.List.{append-nil}
use Rattle.farmwire.specs.Sealed.{IsSealed, Keys}
use Rattle.protocol.specs.Machine.{Message}
use Rattle.services.specs.Outside.{message_line, HasNoLine, IsSent, Adds, AreSent, Sends}
use Rattle.services.specs.Outside.IsSent.{Sealed, Unsent}
use Rattle.services.specs.Served.{joined, answer_text, out_of_memory, OrLost}
use Rattle.services.proofs.ServingLemmas.{joined-push}

-- what a text has after a push that went well
pub when_ok : {T E : Type 0} (r : Result T E) (new pushed old : List ℕ) → new ≡ (if is_ok r then pushed else old) → OnOk r (new ≡ pushed)
when_ok (Ok done) new pushed old h = h
when_ok (Err e) new pushed old h = tt

sent-push : (keys : Keys) (messages : List Message) (texts : List (List ℕ)) (message : Message) (added : List ℕ)
    → AreSent keys messages texts → IsSent keys message added → AreSent keys (messages ++ message ∷ []) (texts ++ added ∷ [])
sent-push keys [] [] message added h is = (is, tt)
sent-push keys [] (t ∷ texts) message added h is = absurd h
sent-push keys (m ∷ messages) [] message added h is = absurd h
sent-push keys (m ∷ messages) (t ∷ texts) message added (first, others) is = (first, sent-push keys messages texts message added others is)

pub sends-none : (keys : Keys) (before : List ℕ) → Sends keys [] before before
sends-none keys before = record { texts = []; each = tt; written = sym (append-nil before) }

-- a message without a line
pub adds_nothing : (keys : Keys) (message : Message) (before : List ℕ) → HasNoLine keys message → Adds keys message before before
adds_nothing keys message before none = record { text = []; sent = Unsent none refl; written = sym (append-nil before) }

-- its line, in three parts
pub adds_line : (keys : Keys) (line : List ℕ) (message : Message) (before one two after : List ℕ) → IsSealed keys line message
    → one ≡ before ++ codes "m " → two ≡ one ++ line → after ≡ two ++ codes "\n" → Adds keys message before after
adds_line keys line message before one two after is e f g = record {
  text = message_line line;
  sent = Sealed line is refl;
  written = g ∙ ap (λ front. front ++ codes "\n") (f ∙ ap (λ front. front ++ line) e ∙ append_assoc before (codes "m ") line)
      ∙ append_assoc before (codes "m " ++ line) (codes "\n") ∙ ap (λ rest. before ++ rest) (append_assoc (codes "m ") line (codes "\n"));
}

-- one more message
pub sends-push : (keys : Keys) (messages : List Message) (message : Message) (before mid after : List ℕ)
    → Sends keys messages before mid → Adds keys message mid after → Sends keys (messages ++ message ∷ []) before after
sends-push keys messages message before mid after h is = record {
  texts = h.texts ++ is.text ∷ [];
  each = sent-push keys messages h.texts message is.text h.each is.sent;
  written = is.written ∙ ap (λ front. front ++ is.text) h.written ∙ append_assoc before (joined h.texts) is.text
      ∙ ap (λ rest. before ++ rest) (sym (joined-push h.texts is.text));
}

-- an answer whose text, if there is one, is such a text
pub or_lost : (Is : List ℕ → Type 0) (answer : Result (String Global) AllocError) → IfOk answer (λ text. Is (string_bytes text)) → OrLost Is (answer_text answer)
or_lost Is (Ok text) h = inl h
or_lost Is (Err e) h = inr refl

-- what is written where memory ran out
pub lost_text : (answer : Result (String Global) AllocError) (P : AllocError → Type 0) → IsErrAnd answer P → answer_text answer ≡ out_of_memory
lost_text (Ok text) P h = absurd h
lost_text (Err e) P h = refl
