-- What the words of a text say: a verb, and after it what the verb takes.
use Rattle.std.specs.Prelude.{◌≡◌, ℕ, false, true, List, [], ◌∷◌, ◌++◌, map, codes}
use Rattle.std.specs.List.{All}
use Rattle.names.specs.declared.digest.Digest.{Digest}
use Rattle.names.specs.declared.folder.FolderName.{FolderName}
use Rattle.names.specs.declared.folder.Mode.TheVariants.{Shared}
use Rattle.farm_base.specs.declared.lease.LeaseKind.{LeaseKind}
use Rattle.farm_base.specs.declared.message.Confirmed.{Confirmed}
use Rattle.farm_base.specs.declared.message.FromCoord.{FromCoord}
use Rattle.farm_base.specs.declared.message.FromCoord.TheVariants as from_coord
use Rattle.farm_base.specs.declared.message.GrantedSlot.{GrantedSlot}
use Rattle.farm_base.specs.declared.message.Message.{Message}
use Rattle.farm_base.specs.declared.message.Message.TheVariants as to
use Rattle.farm_base.specs.declared.message.News.{News}
use Rattle.farm_base.specs.declared.message.Request.{Request}
use Rattle.farm_base.specs.declared.message.Request.TheVariants as request
use Rattle.farm_base.specs.declared.message.ToNode.TheVariants as to_node
use Rattle.farm_base.specs.declared.message.Why.{Why}
use Rattle.names.specs.declared.number.Ask.{Ask}
use Rattle.names.specs.declared.number.Life.{Life}
use Rattle.names.specs.declared.number.NodeId.{NodeId}
use Rattle.names.specs.declared.number.Ticket.{Ticket}
use Rattle.farm_base.specs.declared.want.Want.{Want}
use Rattle.names.specs.Digests.{IsBytes, IsDigest}
use Rattle.names.specs.Names.{folder_text, IsName}
use Rattle.farmwire.specs.declared.verb.Verb.{Verb}
use Rattle.farmwire.specs.declared.verb.Verb.TheVariants.{Hello, Acquire, Tenure, Commit, Release, Granted, Committed, Fenced, Denied, Recall, Fetch, Blob}
use Rattle.words.specs.Words.{AreWants, node_text, ticket_text, digits_text, want_text, why_text}
use Rattle.farmwire.specs.Lawful.{IsNode, IsLife, IsAsk, IsTicket, IsNews, IsConfirmed, IsGranted}
use Rattle.farmwire.specs.Lines.{life_text, ask_text, bytes_text, news_text, confirmed_text, granted_text, kind_text}

-- the words, each behind a space
abbrev pub spaced : List (List ℕ) → List ℕ
spaced [] = []
spaced (w ∷ ws) = 32 ∷ w ++ spaced ws

-- a verb, and words behind it
abbrev pub line_of : List ℕ → List (List ℕ) → List ℕ
line_of verb ws = verb ++ spaced ws

-- the first word, and those behind it
abbrev pub joined : List (List ℕ) → List ℕ
joined [] = []
joined (w ∷ ws) = line_of w ws

abbrev pub verb_text : Verb → List ℕ
verb_text Hello = codes "hello"
verb_text Acquire = codes "acquire"
verb_text Tenure = codes "tenure"
verb_text Commit = codes "commit"
verb_text Release = codes "release"
verb_text Granted = codes "granted"
verb_text Committed = codes "committed"
verb_text Fenced = codes "fenced"
verb_text Denied = codes "denied"
verb_text Recall = codes "recall"
verb_text Fetch = codes "fetch"
verb_text Blob = codes "blob"

-- ---- messages

abbrev pub said : NodeId → Life → Request → Message
said n l request = to.ToCoord (record { node = n; life = l; request = request })

abbrev pub told : FromCoord → Message
told message = to.ToNode (to_node.FromCoord message)

-- ---- what the words after a verb say

-- the words spell these values, one a word
pub record SpellAll {X : Type 0} (spelling : X → List ℕ) (Is : X → Type 0) (ws : List (List ℕ)) (xs : List X) : Type 0 where
  pub each : All Is xs
  pub text : ws ≡ map spelling xs

-- FOLDER.., which rise
pub record SpellWants (ws : List (List ℕ)) (wants : List Want) : Type 0 where
  pub lawful : AreWants wants
  pub text : ws ≡ map want_text wants

-- N L
pub record Hellos (ws : List (List ℕ)) (m : Message) : Type 0 where
  pub node : NodeId
  pub life : Life
  pub is_node : IsNode node
  pub is_life : IsLife life
  pub text : ws ≡ node_text node ∷ life_text life ∷ []
  pub message : m ≡ said node life request.Hello

-- N L A FOLDER..
pub record Acquires (ws : List (List ℕ)) (m : Message) : Type 0 where
  pub node : NodeId
  pub life : Life
  pub ask : Ask
  pub folders : List (List ℕ)
  pub wants : List Want
  pub is_node : IsNode node
  pub is_life : IsLife life
  pub is_ask : IsAsk ask
  pub spelled : SpellWants folders wants
  pub text : ws ≡ node_text node ∷ life_text life ∷ ask_text ask ∷ folders
  pub message : m ≡ said node life (request.Acquire ask wants false)

-- N L A FOLDER, which is SHARED
pub record AsksTenure (ws : List (List ℕ)) (m : Message) : Type 0 where
  pub node : NodeId
  pub life : Life
  pub ask : Ask
  pub folder : FolderName
  pub is_node : IsNode node
  pub is_life : IsLife life
  pub is_ask : IsAsk ask
  pub is_name : IsName folder
  pub shared : folder.mode ≡ Shared
  pub text : ws ≡ node_text node ∷ life_text life ∷ ask_text ask ∷ folder_text folder ∷ []
  pub message : m ≡ said node life (request.Acquire ask (record { folder = folder; writable = true } ∷ []) true)

-- N L T SLOT=DIGEST..
pub record Commits (ws : List (List ℕ)) (m : Message) : Type 0 where
  pub node : NodeId
  pub life : Life
  pub ticket : Ticket
  pub slots : List (List ℕ)
  pub news : List News
  pub is_node : IsNode node
  pub is_life : IsLife life
  pub is_ticket : IsTicket ticket
  pub spelled : SpellAll news_text IsNews slots news
  pub text : ws ≡ node_text node ∷ life_text life ∷ ticket_text ticket ∷ slots
  pub message : m ≡ said node life (request.Commit ticket news)

-- N L T
pub record OfLease (make : NodeId → Life → Ticket → Message) (ws : List (List ℕ)) (m : Message) : Type 0 where
  pub node : NodeId
  pub life : Life
  pub ticket : Ticket
  pub is_node : IsNode node
  pub is_life : IsLife life
  pub is_ticket : IsTicket ticket
  pub text : ws ≡ node_text node ∷ life_text life ∷ ticket_text ticket ∷ []
  pub message : m ≡ make node life ticket

abbrev pub releases : NodeId → Life → Ticket → Message
releases n l t = said n l (request.Release t)

abbrev pub fences : NodeId → Life → Ticket → Message
fences n l t = told (from_coord.Fenced n l t)

abbrev pub recalls : NodeId → Life → Ticket → Message
recalls n l t = told (from_coord.Recall n l t)

-- N L A T KIND [ro=]SLOT=BASE:DIGEST..
pub record Grants (ws : List (List ℕ)) (m : Message) : Type 0 where
  pub node : NodeId
  pub life : Life
  pub ask : Ask
  pub ticket : Ticket
  pub kind : LeaseKind
  pub words : List (List ℕ)
  pub slots : List GrantedSlot
  pub is_node : IsNode node
  pub is_life : IsLife life
  pub is_ask : IsAsk ask
  pub is_ticket : IsTicket ticket
  pub spelled : SpellAll granted_text IsGranted words slots
  pub text : ws ≡ node_text node ∷ life_text life ∷ ask_text ask ∷ ticket_text ticket ∷ kind_text kind ∷ words
  pub message : m ≡ told (from_coord.Granted (record { ticket = ticket; node = node; life = life; ask = ask; kind = kind; slots = slots }))

-- N L T SLOT=NUMBER:DIGEST..
pub record Confirms (ws : List (List ℕ)) (m : Message) : Type 0 where
  pub node : NodeId
  pub life : Life
  pub ticket : Ticket
  pub slots : List (List ℕ)
  pub versions : List Confirmed
  pub is_node : IsNode node
  pub is_life : IsLife life
  pub is_ticket : IsTicket ticket
  pub spelled : SpellAll confirmed_text IsConfirmed slots versions
  pub text : ws ≡ node_text node ∷ life_text life ∷ ticket_text ticket ∷ slots
  pub message : m ≡ told (from_coord.Committed node life ticket versions)

-- N L A and the reason
pub record Denies (ws : List (List ℕ)) (m : Message) : Type 0 where
  pub node : NodeId
  pub life : Life
  pub ask : Ask
  pub why : Why
  pub is_node : IsNode node
  pub is_life : IsLife life
  pub is_ask : IsAsk ask
  pub text : ws ≡ node_text node ∷ life_text life ∷ ask_text ask ∷ why_text why ∷ []
  pub message : m ≡ told (from_coord.Denied node life ask why)

-- N FROM DIGEST
pub record Fetches (ws : List (List ℕ)) (m : Message) : Type 0 where
  pub node : NodeId
  pub from : NodeId
  pub digest : Digest
  pub is_node : IsNode node
  pub is_from : IsNode from
  pub is_digest : IsDigest digest
  pub text : ws ≡ node_text node ∷ node_text from ∷ digits_text digest ∷ []
  pub message : m ≡ to.ToNode (to_node.Fetch (record { node = node; from = from; digest = digest }))

-- N BYTES
pub record Blobs (ws : List (List ℕ)) (m : Message) : Type 0 where
  pub node : NodeId
  pub content : List ℕ
  pub is_node : IsNode node
  pub is_content : IsBytes content
  pub text : ws ≡ node_text node ∷ bytes_text content ∷ []
  pub message : m ≡ to.ToNode (to_node.Blob node content)

-- the words after the verb say this message
abbrev pub Says : Verb → List (List ℕ) → Message → Type 0
Says Hello = Hellos
Says Acquire = Acquires
Says Tenure = AsksTenure
Says Commit = Commits
Says Release = OfLease releases
Says Granted = Grants
Says Committed = Confirms
Says Fenced = OfLease fences
Says Denied = Denies
Says Recall = OfLease recalls
Says Fetch = Fetches
Says Blob = Blobs

-- the words of a text spell this message
pub record SpelledBy (ws : List (List ℕ)) (m : Message) : Type 0 where
  pub verb : Verb
  pub behind : List (List ℕ)
  pub text : ws ≡ verb_text verb ∷ behind
  pub says : Says verb behind m
