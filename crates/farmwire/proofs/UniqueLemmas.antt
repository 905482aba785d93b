-- A text spells one message.
use Rattle.std.proofs.Common.{◌≡◌, ℕ, true, false, List, [], ◌∷◌, Option, Some, None, refl, sym, ◌∙◌, subst}
use Rattle.std.specs.Prelude.{if◌then◌else◌}
use Rattle.std.specs.Str.{bytes_eq}
use Rattle.farm_base.specs.declared.message.FromCoord.TheVariants as from_coord
use Rattle.farm_base.specs.declared.message.Message.{Message}
use Rattle.farm_base.specs.declared.message.Message.TheVariants as to
use Rattle.farm_base.specs.declared.message.Request.TheVariants as request
use Rattle.farm_base.specs.declared.message.ToNode.TheVariants as to_node
use Rattle.names.specs.declared.number.Life.{Life}
use Rattle.names.specs.declared.number.NodeId.{NodeId}
use Rattle.names.specs.declared.number.Ticket.{Ticket}
use Rattle.farm_base.specs.declared.want.Want.{Want}
use Rattle.names.specs.declared.folder.FolderName.{FolderName}
use Rattle.names.proofs.NameLaws.{folder_text-injective}
use Rattle.farmwire.specs.declared.verb.Verb.{Verb}
use Rattle.farmwire.specs.declared.verb.Verb.TheVariants.{Hello, Acquire, Tenure, Commit, Release, Granted, Committed, Fenced, Denied, Recall, Fetch, Blob}
use Rattle.words.specs.Words.{IsWant, want_text}
use Rattle.farmwire.specs.Lawful.{IsLawful, IsNews, IsConfirmed, IsGranted}
use Rattle.farmwire.specs.Lines.{message_text, news_text, confirmed_text, granted_text}
use Rattle.farmwire.specs.Sealed.{IsSealed, IsSpelled}
use Rattle.protocol.specs.Hostile.{key_of}
use Rattle.seals.specs.Keyrings.{Keys}
use Rattle.farmwire.proofs.SealedLemmas.{under_same}
use Rattle.farmwire.specs.Words.{verb_text, said, told, releases, fences, recalls, SpellAll, SpellWants, OfLease, Says}
use Rattle.words.proofs.ListLemmas.{map-injective, read_back-injective}
use Rattle.words.proofs.Spelling.{node_same, ticket_same, digest_same, want_same}
use Rattle.farmwire.proofs.Spelling.{node_fits, life_same, ask_same, bytes_same, kind_same, why_same, news_same, confirmed_same, granted_same}
use Rattle.farmwire.proofs.SpelledLemmas.{words-from_spelled}

-- ---- verbs

-- the verb of a word
abbrev message_verb : List ℕ → Option Verb
message_verb text =
    if bytes_eq text (verb_text Hello) then Some Hello
    else if bytes_eq text (verb_text Acquire) then Some Acquire
    else if bytes_eq text (verb_text Tenure) then Some Tenure
    else if bytes_eq text (verb_text Commit) then Some Commit
    else if bytes_eq text (verb_text Release) then Some Release
    else if bytes_eq text (verb_text Granted) then Some Granted
    else if bytes_eq text (verb_text Committed) then Some Committed
    else if bytes_eq text (verb_text Fenced) then Some Fenced
    else if bytes_eq text (verb_text Denied) then Some Denied
    else if bytes_eq text (verb_text Recall) then Some Recall
    else if bytes_eq text (verb_text Fetch) then Some Fetch
    else if bytes_eq text (verb_text Blob) then Some Blob
    else None

message_verb-text : (v : Verb) → message_verb (verb_text v) ≡ Some v
message_verb-text Hello = refl
message_verb-text Acquire = refl
message_verb-text Tenure = refl
message_verb-text Commit = refl
message_verb-text Release = refl
message_verb-text Granted = refl
message_verb-text Committed = refl
message_verb-text Fenced = refl
message_verb-text Denied = refl
message_verb-text Recall = refl
message_verb-text Fetch = refl
message_verb-text Blob = refl

-- ---- items

all_same : {X : Type 0} (spelling : X → List ℕ) (Is : X → Type 0) → ((x y : X) → Is x → Is y → spelling x ≡ spelling y → x ≡ y)
    → (ws vs : List (List ℕ)) (xs ys : List X) → ws ≡ vs → SpellAll spelling Is ws xs → SpellAll spelling Is vs ys → xs ≡ ys
all_same spelling Is one ws vs xs ys e hx hy = map-injective spelling Is one xs ys hx.each hy.each (sym hx.text ∙ e ∙ hy.text)

wants_same : (ws vs : List (List ℕ)) (a b : List Want) → ws ≡ vs → SpellWants ws a → SpellWants vs b → a ≡ b
wants_same ws vs a b e ha hb = map-injective want_text IsWant want_same a b ha.lawful.0 hb.lawful.0 (sym ha.text ∙ e ∙ hb.text)

-- ---- messages

of_lease_same : (make : NodeId → Life → Ticket → Message) (ws : List (List ℕ)) (a b : Message) → OfLease make ws a → OfLease make ws b → a ≡ b
of_lease_same make ws a b ha hb =
    let n = node_same ha.node hb.node (node_fits ha.node ha.is_node) (node_fits hb.node hb.is_node) (cc (ha.text, hb.text)) in
    let l = life_same ha.life hb.life ha.is_life hb.is_life (cc (ha.text, hb.text)) in
    let t = ticket_same ha.ticket hb.ticket ha.is_ticket.1 hb.is_ticket.1 (cc (ha.text, hb.text)) in
    ha.message ∙ cc (n, l, t) ∙ sym hb.message

said_same : (v : Verb) (ws : List (List ℕ)) (a b : Message) → Says v ws a → Says v ws b → a ≡ b
said_same Hello ws a b ha hb =
    let n = node_same ha.node hb.node (node_fits ha.node ha.is_node) (node_fits hb.node hb.is_node) (cc (ha.text, hb.text)) in
    let l = life_same ha.life hb.life ha.is_life hb.is_life (cc (ha.text, hb.text)) in
    let same : said ha.node ha.life request.Hello ≡ said hb.node hb.life request.Hello = λ i. said (n i) (l i) request.Hello in
    ha.message ∙ same ∙ sym hb.message
said_same Acquire ws a b ha hb =
    let n = node_same ha.node hb.node (node_fits ha.node ha.is_node) (node_fits hb.node hb.is_node) (cc (ha.text, hb.text)) in
    let l = life_same ha.life hb.life ha.is_life hb.is_life (cc (ha.text, hb.text)) in
    let k = ask_same ha.ask hb.ask ha.is_ask hb.is_ask (cc (ha.text, hb.text)) in
    let wants = wants_same ha.folders hb.folders ha.wants hb.wants (cc (ha.text, hb.text)) ha.spelled hb.spelled in
    let same : said ha.node ha.life (request.Acquire ha.ask ha.wants false) ≡ said hb.node hb.life (request.Acquire hb.ask hb.wants false) =
    λ i. said (n i) (l i) (request.Acquire (k i) (wants i) false) in
    ha.message ∙ same ∙ sym hb.message
said_same Tenure ws a b ha hb =
    let n = node_same ha.node hb.node (node_fits ha.node ha.is_node) (node_fits hb.node hb.is_node) (cc (ha.text, hb.text)) in
    let l = life_same ha.life hb.life ha.is_life hb.is_life (cc (ha.text, hb.text)) in
    let k = ask_same ha.ask hb.ask ha.is_ask hb.is_ask (cc (ha.text, hb.text)) in
    let f = folder_text-injective ha.folder hb.folder ha.is_name hb.is_name (cc (ha.text, hb.text)) in
    let alone : FolderName → List Want = λ folder. record { folder = folder; writable = true } ∷ [] in
    let same : said ha.node ha.life (request.Acquire ha.ask (alone ha.folder) true) ≡ said hb.node hb.life (request.Acquire hb.ask (alone hb.folder) true) =
    λ i. said (n i) (l i) (request.Acquire (k i) (alone (f i)) true) in
    ha.message ∙ same ∙ sym hb.message
said_same Commit ws a b ha hb =
    let n = node_same ha.node hb.node (node_fits ha.node ha.is_node) (node_fits hb.node hb.is_node) (cc (ha.text, hb.text)) in
    let l = life_same ha.life hb.life ha.is_life hb.is_life (cc (ha.text, hb.text)) in
    let t = ticket_same ha.ticket hb.ticket ha.is_ticket.1 hb.is_ticket.1 (cc (ha.text, hb.text)) in
    let news = all_same news_text IsNews news_same ha.slots hb.slots ha.news hb.news (cc (ha.text, hb.text)) ha.spelled hb.spelled in
    let same : said ha.node ha.life (request.Commit ha.ticket ha.news) ≡ said hb.node hb.life (request.Commit hb.ticket hb.news) =
    λ i. said (n i) (l i) (request.Commit (t i) (news i)) in
    ha.message ∙ same ∙ sym hb.message
said_same Release ws a b ha hb = of_lease_same releases ws a b ha hb
said_same Granted ws a b ha hb =
    let n = node_same ha.node hb.node (node_fits ha.node ha.is_node) (node_fits hb.node hb.is_node) (cc (ha.text, hb.text)) in
    let l = life_same ha.life hb.life ha.is_life hb.is_life (cc (ha.text, hb.text)) in
    let k = ask_same ha.ask hb.ask ha.is_ask hb.is_ask (cc (ha.text, hb.text)) in
    let t = ticket_same ha.ticket hb.ticket ha.is_ticket.1 hb.is_ticket.1 (cc (ha.text, hb.text)) in
    let kind = kind_same ha.kind hb.kind (cc (ha.text, hb.text)) in
    let slots = all_same granted_text IsGranted granted_same ha.words hb.words ha.slots hb.slots (cc (ha.text, hb.text)) ha.spelled hb.spelled in
    let same : told (from_coord.Granted (record { ticket = ha.ticket; node = ha.node; life = ha.life; ask = ha.ask; kind = ha.kind; slots = ha.slots }))
    ≡ told (from_coord.Granted (record { ticket = hb.ticket; node = hb.node; life = hb.life; ask = hb.ask; kind = hb.kind; slots = hb.slots })) =
    λ i. told (from_coord.Granted (record { ticket = t i; node = n i; life = l i; ask = k i; kind = kind i; slots = slots i })) in
    ha.message ∙ same ∙ sym hb.message
said_same Committed ws a b ha hb =
    let n = node_same ha.node hb.node (node_fits ha.node ha.is_node) (node_fits hb.node hb.is_node) (cc (ha.text, hb.text)) in
    let l = life_same ha.life hb.life ha.is_life hb.is_life (cc (ha.text, hb.text)) in
    let t = ticket_same ha.ticket hb.ticket ha.is_ticket.1 hb.is_ticket.1 (cc (ha.text, hb.text)) in
    let versions = all_same confirmed_text IsConfirmed confirmed_same ha.slots hb.slots ha.versions hb.versions (cc (ha.text, hb.text)) ha.spelled hb.spelled in
    let same : told (from_coord.Committed ha.node ha.life ha.ticket ha.versions) ≡ told (from_coord.Committed hb.node hb.life hb.ticket hb.versions) =
    λ i. told (from_coord.Committed (n i) (l i) (t i) (versions i)) in
    ha.message ∙ same ∙ sym hb.message
said_same Fenced ws a b ha hb = of_lease_same fences ws a b ha hb
said_same Denied ws a b ha hb =
    let n = node_same ha.node hb.node (node_fits ha.node ha.is_node) (node_fits hb.node hb.is_node) (cc (ha.text, hb.text)) in
    let l = life_same ha.life hb.life ha.is_life hb.is_life (cc (ha.text, hb.text)) in
    let k = ask_same ha.ask hb.ask ha.is_ask hb.is_ask (cc (ha.text, hb.text)) in
    let why = why_same ha.why hb.why (cc (ha.text, hb.text)) in
    let same : told (from_coord.Denied ha.node ha.life ha.ask ha.why) ≡ told (from_coord.Denied hb.node hb.life hb.ask hb.why) =
    λ i. told (from_coord.Denied (n i) (l i) (k i) (why i)) in
    ha.message ∙ same ∙ sym hb.message
said_same Recall ws a b ha hb = of_lease_same recalls ws a b ha hb
said_same Fetch ws a b ha hb =
    let n = node_same ha.node hb.node (node_fits ha.node ha.is_node) (node_fits hb.node hb.is_node) (cc (ha.text, hb.text)) in
    let f = node_same ha.from hb.from (node_fits ha.from ha.is_from) (node_fits hb.from hb.is_from) (cc (ha.text, hb.text)) in
    let d = digest_same ha.digest hb.digest ha.is_digest hb.is_digest (cc (ha.text, hb.text)) in
    let same : to.ToNode (to_node.Fetch (record { node = ha.node; from = ha.from; digest = ha.digest })) ≡ to.ToNode (to_node.Fetch (record { node = hb.node; from = hb.from; digest = hb.digest })) =
    λ i. to.ToNode (to_node.Fetch (record { node = n i; from = f i; digest = d i })) in
    ha.message ∙ same ∙ sym hb.message
said_same Blob ws a b ha hb =
    let n = node_same ha.node hb.node (node_fits ha.node ha.is_node) (node_fits hb.node hb.is_node) (cc (ha.text, hb.text)) in
    let content = bytes_same ha.content hb.content ha.is_content hb.is_content (cc (ha.text, hb.text)) in
    let same : to.ToNode (to_node.Blob ha.node ha.content) ≡ to.ToNode (to_node.Blob hb.node hb.content) = λ i. to.ToNode (to_node.Blob (n i) (content i)) in
    ha.message ∙ same ∙ sym hb.message

-- a text spells one message
pub spelled_same : (text : List ℕ) (a b : Message) → IsSpelled text a → IsSpelled text b → a ≡ b
spelled_same text a b sa sb =
    let ha = words-from_spelled text a sa in
    let hb = words-from_spelled text b sb in
    let verbs = read_back-injective verb_text message_verb message_verb-text ha.verb hb.verb (cc (ha.text, hb.text)) in
    let behind : ha.behind ≡ hb.behind = cc (ha.text, hb.text) in
    let says = subst (λ v. Says v hb.behind a) verbs (subst (λ ws. Says ha.verb ws a) behind ha.says) in
    said_same hb.verb hb.behind a b says hb.says

pub text_same : (a b : Message) → IsLawful a → IsLawful b → message_text a ≡ message_text b → a ≡ b
text_same a b ha hb e = spelled_same (message_text a) a b (record { lawful = ha; text = refl }) (record { lawful = hb; text = e })

-- a line is that of one message, whatever the keys
pub sealed_same : (keys others : Keys) (line : List ℕ) (a b : Message) → IsSealed keys line a → IsSealed others line b → a ≡ b
sealed_same keys others line a b ha hb =
    text_same a b ha.lawful hb.lawful (under_same keys others (key_of a) (key_of b) (message_text a) (message_text b) line ha.text hb.text)
