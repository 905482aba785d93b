-- What a line of its agent asks of a node: a verb, and behind it what the verb takes (this project's own).
use Rattle.std.specs.Prelude.{◌≡◌, ℕ, List, [], ◌∷◌, map, codes}
use Rattle.std.specs.List.{All}
use Rattle.names.specs.declared.digest.Digest.{Digest}
use Rattle.names.specs.declared.folder.FolderName.{FolderName}
use Rattle.names.specs.declared.folder.Mode.TheVariants.{Shared}
use Rattle.names.specs.declared.number.Ask as number
use Rattle.names.specs.declared.number.Ticket.{Ticket}
use Rattle.farm_base.specs.declared.want.Want.{Want}
use Rattle.names.specs.Decimals.{Lacks}
use Rattle.names.specs.Digests.{IsDigest}
use Rattle.names.specs.Names.{folder_text, IsName, IsSlot}
use Rattle.farmwire.specs.Lawful.{IsAsk, IsTicket}
use Rattle.words.specs.Words.{ticket_text, digits_text, slot_with, SpellGiven}
use Rattle.farmwire.specs.Lines.{ask_text}
use Rattle.nodelines.specs.declared.order.Call.{Call}
use Rattle.nodelines.specs.declared.order.Call.TheVariants as call
use Rattle.nodelines.specs.declared.order.LeftFile.{LeftFile}
use Rattle.nodelines.specs.declared.order.Order.{Order}
use Rattle.nodelines.specs.declared.order.Order.TheVariants as order
use Rattle.nodelines.specs.declared.verb.Verb.{Verb}
use Rattle.nodelines.specs.declared.verb.Verb.TheVariants.{Ask, Tenure, Begin, Finish, Abort, Resend, Blob, Content, Forget, State}

abbrev pub verb_text : Verb → List ℕ
verb_text Ask = codes "ask"
verb_text Tenure = codes "tenure"
verb_text Begin = codes "begin"
verb_text Finish = codes "finish"
verb_text Abort = codes "abort"
verb_text Resend = codes "resend"
verb_text Blob = codes "blob"
verb_text Content = codes "content"
verb_text Forget = codes "forget"
verb_text State = codes "state"

-- SLOT=FILE; the file has no `=`, so the slot ends at the last `=` of the word
abbrev pub left_text : LeftFile → List ℕ
left_text left = slot_with left.slot left.file

pub record IsLeft (left : LeftFile) : Type 0 where
  pub slot : IsSlot left.slot
  pub file : Lacks 61 left.file

-- ---- what the words behind a verb ask for

-- [ro=]FOLDER.., in any order
pub record Asks (ws : List (List ℕ)) (o : Order) : Type 0 where
  pub wants : List Want
  pub spelled : SpellGiven ws wants
  pub asked : o ≡ order.Call (call.Ask wants)

-- FOLDER, which is SHARED
pub record AsksTenure (ws : List (List ℕ)) (o : Order) : Type 0 where
  pub folder : FolderName
  pub name : IsName folder
  pub shared : folder.mode ≡ Shared
  pub text : ws ≡ folder_text folder ∷ []
  pub asked : o ≡ order.Call (call.Tenure folder)

-- T
pub record OfTicket (make : Ticket → Call) (ws : List (List ℕ)) (o : Order) : Type 0 where
  pub ticket : Ticket
  pub is_ticket : IsTicket ticket
  pub text : ws ≡ ticket_text ticket ∷ []
  pub asked : o ≡ order.Call (make ticket)

-- T SLOT=FILE..
pub record Finishes (ws : List (List ℕ)) (o : Order) : Type 0 where
  pub ticket : Ticket
  pub lefts : List LeftFile
  pub is_ticket : IsTicket ticket
  pub each : All IsLeft lefts
  pub text : ws ≡ ticket_text ticket ∷ map left_text lefts
  pub asked : o ≡ order.Finish ticket lefts

-- nothing
pub record Resends (ws : List (List ℕ)) (o : Order) : Type 0 where
  pub text : ws ≡ []
  pub asked : o ≡ order.Call call.Resend

-- FILE
pub record Brings (ws : List (List ℕ)) (o : Order) : Type 0 where
  pub file : List ℕ
  pub text : ws ≡ file ∷ []
  pub asked : o ≡ order.Blob file

-- DIGEST FILE
pub record Hands (ws : List (List ℕ)) (o : Order) : Type 0 where
  pub digest : Digest
  pub file : List ℕ
  pub is_digest : IsDigest digest
  pub text : ws ≡ digits_text digest ∷ file ∷ []
  pub asked : o ≡ order.Content digest file

-- DIGEST
pub record Forgets (ws : List (List ℕ)) (o : Order) : Type 0 where
  pub digest : Digest
  pub is_digest : IsDigest digest
  pub text : ws ≡ digits_text digest ∷ []
  pub asked : o ≡ order.Call (call.Forget digest)

-- A
pub record Tells (ws : List (List ℕ)) (o : Order) : Type 0 where
  pub ask : number.Ask
  pub is_ask : IsAsk ask
  pub text : ws ≡ ask_text ask ∷ []
  pub asked : o ≡ order.State ask

abbrev pub Says : Verb → List (List ℕ) → Order → Type 0
Says Ask = Asks
Says Tenure = AsksTenure
Says Begin = OfTicket call.Begin
Says Finish = Finishes
Says Abort = OfTicket call.Abort
Says Resend = Resends
Says Blob = Brings
Says Content = Hands
Says Forget = Forgets
Says State = Tells

-- the words of a line ask for this
pub record AskedBy (ws : List (List ℕ)) (o : Order) : Type 0 where
  pub verb : Verb
  pub behind : List (List ℕ)
  pub text : ws ≡ verb_text verb ∷ behind
  pub says : Says verb behind o
