-- Facts and notes are lines that nobody takes for messages.
use Rattle.std.proofs.Common.{◌≡◌, ◌≢◌, ℕ, List, [], ◌∷◌, ◌++◌, true, codes, drop, Result, Ok, Err, refl, subst, sym, ap, ◌∙◌, append_assoc, arith}
use Rattle.std.specs.Prelude.{⊤, decimal}
use Rattle.std.specs.List.{flat_map}
use Rattle.names.specs.Names.{slot_text}
use Rattle.names.proofs.TextLemmas.{Lacks-nil, Lacks-cons, Lacks-append, Lacks-from_test, none_of}
use Rattle.events.specs.declared.answer.CoordNote.{CoordNote}
use Rattle.events.specs.declared.answer.CoordNote.TheVariants as coord
use Rattle.events.specs.declared.answer.CoordRefusal.{CoordRefusal}
use Rattle.events.specs.declared.answer.CoordRefusal.TheVariants as coord_refusal
use Rattle.events.specs.declared.answer.NodeNote.{NodeNote}
use Rattle.events.specs.declared.answer.NodeNote.TheVariants as node
use Rattle.events.specs.declared.answer.NodeRefusal.{NodeRefusal}
use Rattle.events.specs.declared.answer.NodeRefusal.TheVariants as node_refusal
use Rattle.farm_base.specs.declared.message.Grant.{Grant}
use Rattle.farm_base.specs.declared.message.GrantedSlot.{GrantedSlot}
use Rattle.farmwire.proofs.EndLemmas.{NoEnd, decimal_ends, slot_ends, why_ends, each_ends}
use Rattle.schedule.specs.Notes as replay
use Rattle.schedule.specs.Notes.{grant_text, coord_note_text, node_note_text}
use Rattle.schedule.specs.RefusalNames.{coord_refusal_text, node_refusal_text}
use Rattle.services.specs.declared.settled.Settled.TheVariants.{Failed}
use Rattle.services.specs.declared.unread.Unread.{Unread}
use Rattle.services.specs.declared.unread.Unread.TheVariants.{TooLong, BadMac, BadForm, NotMine, BadLine, OutOfMemory}
use Rattle.services.specs.Says.{IsNote, Says}
use Rattle.services.specs.Says.Says.{Says_nothing}
use Rattle.services.specs.Served.{joined, out_of_memory, refused_save, refusals, restart_line, settled_text}
use Rattle.services.specs.Unreads.{unread_line}
use Rattle.services.proofs.SaysLemmas.{note_says, both_say}
use Rattle.farmwire.specs.Sealed.{Keys}

-- ---- one line

-- the text has one LF, at its end
pub record EndsLine (text : List ℕ) : Type 0 where
  pub body : List ℕ
  pub lacks : NoEnd body
  pub text_is : text ≡ body ++ 10 ∷ []

pub line_end : EndsLine (codes "\n")
line_end = record { body = []; lacks = Lacks-nil 10; text_is = refl }

pub then_end : (part text : List ℕ) → NoEnd part → EndsLine text → EndsLine (part ++ text)
then_end part text h ends = record {
  body = part ++ ends.body;
  lacks = Lacks-append 10 part ends.body h ends.lacks;
  text_is = ap (λ t. part ++ t) ends.text_is ∙ sym (append_assoc part ends.body (10 ∷ []));
}

-- a part that ends its line
pub last_part : (part : List ℕ) → NoEnd part → EndsLine (part ++ codes "\n")
last_part part h = then_end part (codes "\n") h line_end

pub note_of : (mark : ℕ) (text : List ℕ) → mark ≢ 109 → mark ≢ 10 → EndsLine text → IsNote (mark ∷ text)
note_of mark text other no_end ends = record {
  mark = mark;
  rest = ends.body;
  other = other;
  one = Lacks-cons 10 mark ends.body no_end ends.lacks;
  line_is = ap (λ t. mark ∷ t) ends.text_is;
}

-- a fact begins with `:`, and the last line of an answer with `=`
pub fact_of : (text : List ℕ) → EndsLine text → IsNote (58 ∷ text)
fact_of text ends = note_of 58 text (λ e. omega arith) (λ e. omega arith) ends

pub answer_of : (text : List ℕ) → EndsLine text → IsNote (61 ∷ text)
answer_of text ends = note_of 61 text (λ e. omega arith) (λ e. omega arith) ends

-- a body that begins with `:`, and its end
pub fact_line : (body : List ℕ) → NoEnd body → body ≡ 58 ∷ drop 1 body → IsNote (body ++ codes "\n")
fact_line body h e = record {
  mark = 58;
  rest = drop 1 body;
  other = λ e. omega arith;
  one = subst NoEnd e h;
  line_is = ap (λ t. t ++ 10 ∷ []) e;
}

-- texts that are known to have no LF
pub record Clean : Type 0 where
  pub text : List ℕ
  pub lacks : NoEnd text

abbrev pub clean : (text : List ℕ) → NoEnd text → Clean
clean text h = record { text = text; lacks = h }

abbrev pub word : (text : List ℕ) → none_of 10 text ≡ true → Clean
word text h = record { text = text; lacks = Lacks-from_test 10 text h }

abbrev pub number : ℕ → Clean
number n = record { text = decimal n; lacks = decimal_ends n }

infixl 65 ◌⊕◌
abbrev pub ◌⊕◌ : Clean → Clean → Clean
a ⊕ b = record { text = a.text ++ b.text; lacks = Lacks-append 10 a.text b.text a.lacks b.lacks }

-- the line of one that begins with `:`
pub fact_says : (keys : Keys) (c : Clean) → c.text ≡ 58 ∷ drop 1 c.text → Says keys [] (c.text ++ codes "\n")
fact_says keys c e = note_says keys (c.text ++ codes "\n") (fact_line c.text c.lacks e)

-- ---- notes one behind the other

pub record Notes (keys : Keys) : Type 0 where
  pub text : List ℕ
  pub says : Says keys [] text

abbrev pub notes : {keys : Keys} (text : List ℕ) → Says keys [] text → Notes keys
notes text h = record { text = text; says = h }

infixl 65 ◌⊞◌
abbrev pub ◌⊞◌ : {keys : Keys} → Notes keys → Notes keys → Notes keys
◌⊞◌ {keys} a b = record { text = a.text ++ b.text; says = both_say keys [] [] a.text b.text a.says b.says }

pub each_says : {X : Type 0} {keys : Keys} (text : X → List ℕ) → ((x : X) → Says keys [] (text x)) → (xs : List X) → Says keys [] (flat_map text xs)
each_says text one [] = Says_nothing
each_says {keys = keys} text one (x ∷ xs) = both_say keys [] [] (text x) (flat_map text xs) (one x) (each_says text one xs)

abbrev pub of_each : {X : Type 0} {keys : Keys} (text : X → List ℕ) → ((x : X) → Says keys [] (text x)) → (xs : List X) → Notes keys
of_each text one xs = notes (flat_map text xs) (each_says text one xs)

-- ---- what events did

granted_ends : (s : GrantedSlot) → NoEnd (replay.granted_text s)
granted_ends s =
    Lacks-append 10 ((codes " " ++ slot_text s.slot) ++ codes "=") (decimal s.base)
    (Lacks-append 10 (codes " " ++ slot_text s.slot) (codes "=") (Lacks-append 10 (codes " ") (slot_text s.slot) (Lacks-from_test 10 (codes " ") refl) (slot_ends s.slot)) (Lacks-from_test 10 (codes "=") refl))
    (decimal_ends s.base)

grant_ends : (g : Grant) → NoEnd (grant_text g)
grant_ends g = Lacks-append 10 (decimal g.ticket.0) (flat_map replay.granted_text g.slots) (decimal_ends g.ticket.0) (each_ends replay.granted_text granted_ends g.slots)

-- words, and what they are about
about : (word text : List ℕ) → NoEnd word → NoEnd text → NoEnd (word ++ text)
about word text h ht = Lacks-append 10 word text h ht

pub coord_note_ends : (n : CoordNote) → NoEnd (coord_note_text n)
coord_note_ends (coord.Granted g) = about (codes "granted ") (grant_text g) (Lacks-from_test 10 (codes "granted ") refl) (grant_ends g)
coord_note_ends (coord.GrantedBefore g) = about (codes "granted before ") (grant_text g) (Lacks-from_test 10 (codes "granted before ") refl) (grant_ends g)
coord_note_ends coord.Parked = Lacks-from_test 10 (codes "parked") refl
coord_note_ends (coord.Committed t) = about (codes "committed ") (decimal t.0) (Lacks-from_test 10 (codes "committed ") refl) (decimal_ends t.0)
coord_note_ends (coord.CommittedBefore t) = about (codes "committed before ") (decimal t.0) (Lacks-from_test 10 (codes "committed before ") refl) (decimal_ends t.0)
coord_note_ends (coord.Fenced t) = about (codes "fenced ") (decimal t.0) (Lacks-from_test 10 (codes "fenced ") refl) (decimal_ends t.0)
coord_note_ends (coord.Released t) = about (codes "released ") (decimal t.0) (Lacks-from_test 10 (codes "released ") refl) (decimal_ends t.0)
coord_note_ends (coord.Denied why) = about (codes "denied ") _ (Lacks-from_test 10 (codes "denied ") refl) (why_ends why)
coord_note_ends coord.OldLife = Lacks-from_test 10 (codes "old life") refl
coord_note_ends coord.NodeRetired = Lacks-from_test 10 (codes "retired node") refl
coord_note_ends (coord.Withdrawn t) = about (codes "withdrawn ") (decimal t.0) (Lacks-from_test 10 (codes "withdrawn ") refl) (decimal_ends t.0)
coord_note_ends (coord.Pruned t) = about (codes "pruned ") (decimal t.0) (Lacks-from_test 10 (codes "pruned ") refl) (decimal_ends t.0)
coord_note_ends (coord.Retired n) = about (codes "retired ") (decimal n.0) (Lacks-from_test 10 (codes "retired ") refl) (decimal_ends n.0)
coord_note_ends coord.Nudged = Lacks-from_test 10 (codes "nudged") refl
coord_note_ends coord.Nothing = Lacks-from_test 10 (codes "nothing") refl

pub node_note_ends : (n : NodeNote) → NoEnd (node_note_text n)
node_note_ends (node.Asked a) = about (codes "asked ") (decimal a.0) (Lacks-from_test 10 (codes "asked ") refl) (decimal_ends a.0)
node_note_ends (node.Begun t) = about (codes "begun ") (decimal t.0) (Lacks-from_test 10 (codes "begun ") refl) (decimal_ends t.0)
node_note_ends (node.Finished t) = about (codes "finished ") (decimal t.0) (Lacks-from_test 10 (codes "finished ") refl) (decimal_ends t.0)
node_note_ends (node.Aborted t) = about (codes "aborted ") (decimal t.0) (Lacks-from_test 10 (codes "aborted ") refl) (decimal_ends t.0)
node_note_ends node.Resent = Lacks-from_test 10 (codes "resent") refl
node_note_ends (node.Life l) = about (codes "life ") (decimal l.0) (Lacks-from_test 10 (codes "life ") refl) (decimal_ends l.0)
node_note_ends (node.Took g) = about (codes "took ") (grant_text g) (Lacks-from_test 10 (codes "took ") refl) (grant_ends g)
node_note_ends (node.GaveBack t) = about (codes "gave back ") (decimal t.0) (Lacks-from_test 10 (codes "gave back ") refl) (decimal_ends t.0)
node_note_ends (node.Learned t) = about (codes "learned ") (decimal t.0) (Lacks-from_test 10 (codes "learned ") refl) (decimal_ends t.0)
node_note_ends (node.Dropped t) = about (codes "dropped ") (decimal t.0) (Lacks-from_test 10 (codes "dropped ") refl) (decimal_ends t.0)
node_note_ends (node.Denied why) = about (codes "denied ") _ (Lacks-from_test 10 (codes "denied ") refl) (why_ends why)
node_note_ends (node.Recalled t) = about (codes "recalled ") (decimal t.0) (Lacks-from_test 10 (codes "recalled ") refl) (decimal_ends t.0)
node_note_ends node.SentBlob = Lacks-from_test 10 (codes "sent blob") refl
node_note_ends node.BlobTaken = Lacks-from_test 10 (codes "blob taken") refl
node_note_ends node.Forgot = Lacks-from_test 10 (codes "forgot") refl
node_note_ends node.OldLife = Lacks-from_test 10 (codes "old life") refl
node_note_ends node.Nothing = Lacks-from_test 10 (codes "nothing") refl

pub coord_refusal_ends : (r : CoordRefusal) → NoEnd (coord_refusal_text r)
coord_refusal_ends coord_refusal.Down = Lacks-from_test 10 (codes "Down") refl
coord_refusal_ends coord_refusal.SaveFault = Lacks-from_test 10 (codes "SaveFault") refl
coord_refusal_ends coord_refusal.BadRecord = Lacks-from_test 10 (codes "BadRecord") refl
coord_refusal_ends coord_refusal.NotLive = Lacks-from_test 10 (codes "NotLive") refl
coord_refusal_ends coord_refusal.SlotLeased = Lacks-from_test 10 (codes "SlotLeased") refl
coord_refusal_ends coord_refusal.NoSuchSlot = Lacks-from_test 10 (codes "NoSuchSlot") refl
coord_refusal_ends coord_refusal.TicketsSpent = Lacks-from_test 10 (codes "TicketsSpent") refl
coord_refusal_ends coord_refusal.OutOfMemory = Lacks-from_test 10 (codes "OutOfMemory") refl
coord_refusal_ends coord_refusal.LoadFault = Lacks-from_test 10 (codes "LoadFault") refl
coord_refusal_ends coord_refusal.Tenure = Lacks-from_test 10 (codes "Tenure") refl
coord_refusal_ends coord_refusal.TenureHeld = Lacks-from_test 10 (codes "TenureHeld") refl
coord_refusal_ends coord_refusal.NodeRetired = Lacks-from_test 10 (codes "NodeRetired") refl

pub node_refusal_ends : (r : NodeRefusal) → NoEnd (node_refusal_text r)
node_refusal_ends node_refusal.NotHomeHere = Lacks-from_test 10 (codes "NotHomeHere") refl
node_refusal_ends node_refusal.NoSuchTicket = Lacks-from_test 10 (codes "NoSuchTicket") refl
node_refusal_ends node_refusal.ContentsMissing = Lacks-from_test 10 (codes "ContentsMissing") refl
node_refusal_ends node_refusal.WrongNews = Lacks-from_test 10 (codes "WrongNews") refl
node_refusal_ends node_refusal.NotRunning = Lacks-from_test 10 (codes "NotRunning") refl
node_refusal_ends node_refusal.LivesSpent = Lacks-from_test 10 (codes "LivesSpent") refl
node_refusal_ends node_refusal.AsksSpent = Lacks-from_test 10 (codes "AsksSpent") refl
node_refusal_ends node_refusal.OutOfMemory = Lacks-from_test 10 (codes "OutOfMemory") refl
node_refusal_ends node_refusal.TenureHere = Lacks-from_test 10 (codes "TenureHere") refl
node_refusal_ends node_refusal.TenureInUse = Lacks-from_test 10 (codes "TenureInUse") refl
node_refusal_ends node_refusal.NoSuchContent = Lacks-from_test 10 (codes "NoSuchContent") refl
node_refusal_ends node_refusal.Needed = Lacks-from_test 10 (codes "Needed") refl

-- ---- lines of both filters

-- a line that is always the same
pub fixed : (keys : Keys) (text : List ℕ) → NoEnd text → Says keys [] (61 ∷ text ++ 10 ∷ [])
fixed keys text h = note_says keys (61 ∷ text ++ 10 ∷ []) (answer_of (text ++ 10 ∷ []) (last_part text h))

-- the last line of an answer, and a refusal
pub noted_says : (keys : Keys) (text : List ℕ) → NoEnd text → Says keys [] (codes "= " ++ (text ++ codes "\n"))
noted_says keys text h =
    note_says keys (codes "= " ++ (text ++ codes "\n"))
    (answer_of (codes " " ++ (text ++ codes "\n")) (then_end (codes " ") (text ++ codes "\n") (Lacks-from_test 10 (codes " ") refl) (last_part text h)))

pub refused_says : (keys : Keys) (text : List ℕ) → NoEnd text → Says keys [] (codes "= refused " ++ (text ++ codes "\n"))
refused_says keys text h =
    note_says keys (codes "= refused " ++ (text ++ codes "\n"))
    (answer_of (codes " refused " ++ (text ++ codes "\n")) (then_end (codes " refused ") (text ++ codes "\n") (Lacks-from_test 10 (codes " refused ") refl) (last_part text h)))

pub lost_says : (keys : Keys) → Says keys [] out_of_memory
lost_says keys = fixed keys (codes " refused OutOfMemory") (Lacks-from_test 10 (codes " refused OutOfMemory") refl)

pub unread_says : (keys : Keys) (why : Unread) → Says keys [] (unread_line why)
unread_says keys TooLong = fixed keys (codes " dropped TooLong") (Lacks-from_test 10 (codes " dropped TooLong") refl)
unread_says keys BadMac = fixed keys (codes " dropped BadMac") (Lacks-from_test 10 (codes " dropped BadMac") refl)
unread_says keys BadForm = fixed keys (codes " dropped BadForm") (Lacks-from_test 10 (codes " dropped BadForm") refl)
unread_says keys NotMine = fixed keys (codes " dropped NotMine") (Lacks-from_test 10 (codes " dropped NotMine") refl)
unread_says keys BadLine = fixed keys (codes " refused BadLine") (Lacks-from_test 10 (codes " refused BadLine") refl)
unread_says keys OutOfMemory = lost_says keys

pub restart_says : (keys : Keys) (r : Result ⊤ CoordRefusal) → Says keys [] (restart_line r)
restart_says keys (Ok done) = note_says keys (restart_line (Ok done)) (fact_of (codes " restarted\n") (last_part (codes " restarted") (Lacks-from_test 10 (codes " restarted") refl)))
restart_says keys (Err refusal) =
    note_says keys (restart_line (Err refusal)) (fact_of (codes " down " ++ (coord_refusal_text refusal ++ codes "\n"))
    (then_end (codes " down ") (coord_refusal_text refusal ++ codes "\n") (Lacks-from_test 10 (codes " down ") refl) (last_part (coord_refusal_text refusal) (coord_refusal_ends refusal))))

refusals_say : (keys : Keys) (answers : List (List ℕ)) → Says keys [] (joined (refusals answers))
refusals_say keys [] = Says_nothing
refusals_say keys (answer ∷ answers) =
    both_say keys [] [] refused_save (joined (refusals answers)) (fixed keys (codes " refused SaveFault") (Lacks-from_test 10 (codes " refused SaveFault") refl)) (refusals_say keys answers)

-- what is written of answers that don't last
pub failed_says : (keys : Keys) (restart : Result ⊤ CoordRefusal) (answers : List (List ℕ)) → Says keys [] (settled_text (Failed restart) answers)
failed_says keys restart answers = both_say keys [] [] (restart_line restart) (joined (refusals answers)) (restart_says keys restart) (refusals_say keys answers)
