-- The text of each message: its words, parted by one space (this project's own). A value has one spelling.
use Rattle.std.specs.Prelude.{ℕ, true, false, List, [], ◌∷◌, ◌++◌, map, codes, decimal}
use Rattle.std.specs.List.{join_with_byte}
use Rattle.base64.specs.GeneralPurpose.{encode_of}
use Rattle.base64.specs.Engines.{standard}
use Rattle.names.specs.declared.digest.Digest.{Digest}
use Rattle.farm_base.specs.declared.lease.LeaseKind.{LeaseKind}
use Rattle.farm_base.specs.declared.lease.LeaseKind.TheVariants as kind
use Rattle.farm_base.specs.declared.message.Confirmed.{Confirmed}
use Rattle.farm_base.specs.declared.message.FromCoord.{FromCoord}
use Rattle.farm_base.specs.declared.message.FromCoord.TheVariants.{Granted, Committed, Fenced, Denied, Recall}
use Rattle.farm_base.specs.declared.message.Grant.{Grant}
use Rattle.farm_base.specs.declared.message.GrantedSlot.{GrantedSlot}
use Rattle.farm_base.specs.declared.message.Message.{Message}
use Rattle.farm_base.specs.declared.message.Message.TheVariants as to
use Rattle.farm_base.specs.declared.message.News.{News}
use Rattle.farm_base.specs.declared.message.Request.{Request}
use Rattle.farm_base.specs.declared.message.Request.TheVariants.{Hello, Acquire, Commit, Release}
use Rattle.farm_base.specs.declared.message.ToNode.TheVariants as to_node
use Rattle.names.specs.declared.number.Ask.{Ask}
use Rattle.names.specs.declared.number.Life.{Life}
use Rattle.names.specs.declared.number.NodeId.{NodeId}
use Rattle.farm_base.specs.declared.want.Want.{Want}
use Rattle.names.specs.Names.{folder_text}
use Rattle.words.specs.Words.{node_text, ticket_text, digits_text, why_text, slot_with, access_text, want_text}

-- ---- words

-- L
abbrev pub life_text : Life → List ℕ
life_text life = decimal life.0

-- A
abbrev pub ask_text : Ask → List ℕ
ask_text ask = decimal ask.0

-- BYTES: standard base64 with padding, as RFC 4648 defines it in section 4
abbrev pub bytes_text : List ℕ → List ℕ
bytes_text bytes = encode_of standard bytes

-- FOLDER, for the folder of a tenure
abbrev pub tenure_text : Want → List ℕ
tenure_text want = folder_text want.folder

-- NUMBER:DIGEST
abbrev pub version_text : ℕ → Digest → List ℕ
version_text number digest = decimal number ++ 58 ∷ digits_text digest

-- SLOT=DIGEST
abbrev pub news_text : News → List ℕ
news_text news = slot_with news.slot (digits_text news.digest)

-- SLOT=NUMBER:DIGEST
abbrev pub confirmed_text : Confirmed → List ℕ
confirmed_text version = slot_with version.slot (version_text version.number version.digest)

-- [ro=]SLOT=BASE:DIGEST
abbrev pub granted_text : GrantedSlot → List ℕ
granted_text granted = access_text granted.writable ++ slot_with granted.slot (version_text granted.base granted.digest)

-- KIND
abbrev pub kind_text : LeaseKind → List ℕ
kind_text kind.Plain = codes "plain"
kind_text kind.Shared = codes "shared"
kind_text kind.Tenure = codes "tenure"

-- ---- messages

-- the words of what a life of a node says
abbrev pub said_words : NodeId → Life → Request → List (List ℕ)
said_words n l Hello = codes "hello" ∷ node_text n ∷ life_text l ∷ []
said_words n l (Acquire a wants false) = codes "acquire" ∷ node_text n ∷ life_text l ∷ ask_text a ∷ map want_text wants
said_words n l (Acquire a wants true) = codes "tenure" ∷ node_text n ∷ life_text l ∷ ask_text a ∷ map tenure_text wants
said_words n l (Commit t news) = codes "commit" ∷ node_text n ∷ life_text l ∷ ticket_text t ∷ map news_text news
said_words n l (Release t) = codes "release" ∷ node_text n ∷ life_text l ∷ ticket_text t ∷ []

-- N L A T KIND [ro=]SLOT=BASE:DIGEST..
abbrev pub grant_words : Grant → List (List ℕ)
grant_words g =
    node_text g.node ∷ life_text g.life ∷ ask_text g.ask ∷ ticket_text g.ticket ∷ kind_text g.kind ∷ map granted_text g.slots

-- the words of what the coordinator tells
abbrev pub told_words : FromCoord → List (List ℕ)
told_words (Granted g) = codes "granted" ∷ grant_words g
told_words (Committed n l t versions) = codes "committed" ∷ node_text n ∷ life_text l ∷ ticket_text t ∷ map confirmed_text versions
told_words (Fenced n l t) = codes "fenced" ∷ node_text n ∷ life_text l ∷ ticket_text t ∷ []
told_words (Denied n l a why) = codes "denied" ∷ node_text n ∷ life_text l ∷ ask_text a ∷ why_text why ∷ []
told_words (Recall n l t) = codes "recall" ∷ node_text n ∷ life_text l ∷ ticket_text t ∷ []

-- the words of a message
abbrev pub message_words : Message → List (List ℕ)
message_words (to.ToCoord y) = said_words y.node y.life y.request
message_words (to.ToNode (to_node.FromCoord told)) = told_words told
message_words (to.ToNode (to_node.Fetch f)) = codes "fetch" ∷ node_text f.node ∷ node_text f.from ∷ digits_text f.digest ∷ []
message_words (to.ToNode (to_node.Blob n content)) = codes "blob" ∷ node_text n ∷ bytes_text content ∷ []

-- the words, parted by spaces
abbrev pub message_text : Message → List ℕ
message_text m = join_with_byte 32 (message_words m)
