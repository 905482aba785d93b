-- How a node's filter answers a line (this project's own).
use Rattle.std.specs.Prelude.{◌≡◌, ◌≢◌, ℕ, Bool, true, false, List, [], codes, Some, None, option_map, Result, slice_get}
use Rattle.std.specs.List.{AllZip}
use Rattle.names.specs.declared.digest.Digest.{Digest}
use Rattle.farm_base.specs.declared.left.Left.{Left}
use Rattle.names.specs.declared.number.Ask.{Ask}
use Rattle.names.specs.declared.number.Ticket.{Ticket}
use Rattle.nodecore.specs.declared.message.NodeDone.{NodeDone}
use Rattle.nodeasks.specs.Asks.{told_unless}
use Rattle.events.specs.declared.answer.NodeRefusal.{NodeRefusal}
use Rattle.protocol.specs.Lists.{nth}
use Rattle.services.specs.declared.lost.Lost.{Lost}
use Rattle.services.specs.declared.settled.Settled.{Settled}
use Rattle.services.specs.declared.settled.Settled.TheVariants.{Lasts}
use Rattle.services.specs.declared.unread.Unread.{Unread}
use Rattle.services.specs.Served.{OrLost, out_of_memory}
use Rattle.services.specs.Unreads.{unread_line}
use Rattle.nodelines.specs.declared.about.About.{About}
use Rattle.nodelines.specs.declared.order.Call.{Call}
use Rattle.nodelines.specs.declared.order.Call.TheVariants as call
use Rattle.nodelines.specs.declared.order.LeftFile.{LeftFile}
use Rattle.nodelines.specs.declared.order.Order.{Order}
use Rattle.nodelines.specs.declared.order.Order.TheVariants as order
use Rattle.nodefilter.specs.Asked.{AsksFor, AsksNothing}
use Rattle.nodefilter.specs.Carried.{about_call, CarriesOut}
use Rattle.nodefilter.specs.States.{Seen}
use Rattle.nodestore.specs.Stores.{Kept, HadBytes, HasContent, IsTooLarge}
use Rattle.nodelines.specs.Written.{noted, IsWritten, content_line, state_text}
use Rattle.farmwire.specs.Sealed.{Keys}

-- a content of the node could not be kept or forgotten, now or earlier
abbrev pub store_fault : List ℕ
store_fault = codes "= refused StoreFault\n"

-- a file of the agent's can't be used
abbrev pub file_fault : List ℕ
file_fault = codes "= refused FileFault\n"

-- a file of the agent's has more than a content may have
abbrev pub too_large : List ℕ
too_large = codes "= refused TooLarge\n"

-- the content isn't stored here
abbrev pub no_content : List ℕ
no_content = codes "= refused NoSuchContent\n"

-- what was left in the slots of these files, where files had such bytes
abbrev pub AreLeft : (List ℕ → List ℕ → Type 0) → List LeftFile → List Left → Type 0
AreLeft Had files lefts = AllZip (λ (file : LeftFile) (left : Left). (left.slot ≡ file.slot) × Had file.file left.content) files lefts

-- the call that an order is for, once its files are read
pub data IsCallOf (Had : List ℕ → List ℕ → Type 0) : Order → Call → Type 0 where
  Itself : (call : Call) → IsCallOf Had (order.Call call) call
  Left_in : (ticket : Ticket) (files : List LeftFile) (lefts : List Left) → AreLeft (HasContent Had) files lefts
      → IsCallOf Had (order.Finish ticket files) (call.Finish ticket lefts)
  Brought_in : (file content : List ℕ) → HasContent Had file content → IsCallOf Had (order.Blob file) (call.Bring content)

-- one of these files has more than a content may have
abbrev pub AnyLarge : (List ℕ → List ℕ → Type 0) → List LeftFile → Type 0
AnyLarge Had files = (place : ℕ) × (file : LeftFile) × (slice_get files place ≡ Some file) × IsTooLarge Had file.file

-- a file of the order has
abbrev pub HasLarge : (List ℕ → List ℕ → Type 0) → Order → Type 0
HasLarge Had (order.Call call) = ⊥
HasLarge Had (order.Finish ticket files) = AnyLarge Had files
HasLarge Had (order.Blob file) = IsTooLarge Had file
HasLarge Had (order.Content digest file) = ⊥
HasLarge Had (order.State ask) = ⊥

-- the order needs a file
abbrev pub HasFile : Order → Type 0
HasFile (order.Call call) = ⊥
HasFile (order.Finish ticket files) = files ≢ []
HasFile (order.Blob file) = Unit {0}
HasFile (order.Content digest file) = Unit {0}
HasFile (order.State ask) = ⊥

-- what is written of a call: where a content could not be kept or forgotten, no message of it
abbrev pub IsAnswered : Bool → Keys → About → Result NodeDone NodeRefusal → List ℕ → Type 0
IsAnswered true keys it answer text = text ≡ store_fault
IsAnswered false keys it answer text = IsWritten keys it answer text

-- a call is made, or memory runs out before it
pub data Makes {S : Type 0} (kept : Kept S) (last_life : S → ℕ) (call : Call) (old new : Seen S) (answer : List ℕ) : Type 0 where
  Made : (done : Result NodeDone NodeRefusal) → CarriesOut kept last_life call old new done
      → OrLost (IsAnswered new.down old.keys (about_call call) done) answer
      → Makes kept last_life call old new answer
  Stopped : new ≡ old → answer ≡ out_of_memory → Makes kept last_life call old new answer

-- what comes of an order
pub data Follows {S : Type 0} (kept : Kept S) (last_life : S → ℕ) (had : HadBytes S) (o : Order) (old new : Seen S) (answer : List ℕ) : Type 0 where
  Calls : (call : Call) → IsCallOf (had old.store) o call → Makes kept last_life call old new answer → Follows kept last_life had o old new answer
  -- a file can't be used, or memory runs out
  Misses : HasFile o → new ≡ old → OrLost (λ text. text ≡ file_fault) answer → Follows kept last_life had o old new answer
  -- one of them has more than a content may have
  Is_large : HasLarge (had old.store) o → new ≡ old → OrLost (λ text. text ≡ too_large) answer → Follows kept last_life had o old new answer
  -- the content of this digest is put in the file
  Hands : (digest : Digest) (file content : List ℕ) → o ≡ order.Content digest file → old.node.store digest ≡ Some content → had old.store file content
      → new ≡ old
      → OrLost (λ text. text ≡ content_line digest) answer → Follows kept last_life had o old new answer
  -- it isn't stored here
  Has_not : (digest : Digest) (file : List ℕ) → o ≡ order.Content digest file → old.node.store digest ≡ None → new ≡ old
      → OrLost (λ text. text ≡ no_content) answer → Follows kept last_life had o old new answer
  Tells : (ask : Ask) → o ≡ order.State ask → new ≡ old
      → OrLost (λ text. text ≡ noted (state_text ask (option_map (told_unless (old.forgets ask.0)) (nth old.node.asks ask.0)))) answer
      → Follows kept last_life had o old new answer

-- a line is answered
pub data Filters {S : Type 0} (kept : Kept S) (last_life : S → ℕ) (had : HadBytes S) (given : Result (List ℕ) Lost) (answer : List ℕ)
    (old new : Seen S) : Type 0 where
  -- since a content could not be kept or forgotten nothing is done, until the process starts again
  Is_down : old.down ≡ true → new ≡ old → OrLost (λ text. text ≡ store_fault) answer → Filters kept last_life had given answer old new
  Does : (o : Order) → old.down ≡ false → AsksFor old.keys old.me given o → Follows kept last_life had o old new answer
      → Filters kept last_life had given answer old new
  Drops : (why : Unread) → old.down ≡ false → AsksNothing old.keys old.me given why → new ≡ old
      → OrLost (λ text. text ≡ unread_line why) answer
      → Filters kept last_life had given answer old new

-- what was answered lasts: contents and the life are kept before a line is answered
abbrev pub IsSettled : {S : Type 0} → S → Settled → S → Type 0
IsSettled old settled new = (settled ≡ Lasts) × (new ≡ old)
