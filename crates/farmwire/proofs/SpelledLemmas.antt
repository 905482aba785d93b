-- The words of a text say the message that the text spells.
use Rattle.std.proofs.Common.{◌≡◌, ℕ, true, false, List, [], ◌∷◌, map, refl, sym, ap, ◌∙◌, subst}
use Rattle.std.specs.Prelude.{decimal}
use Rattle.std.specs.List.{All, join_with_byte}
use Rattle.std.specs.Str.{IsUtf8}
use Rattle.std.proofs.lemmas.List.Elements.{All-nil, All-cons}
use Rattle.std.proofs.lemmas.List.Splits.{join_with_byte-slice_split}
use Rattle.farm_base.specs.declared.lease.LeaseKind.{LeaseKind}
use Rattle.farm_base.specs.declared.lease.LeaseKind.TheVariants as kind
use Rattle.farm_base.specs.declared.message.FromCoord.{FromCoord}
use Rattle.farm_base.specs.declared.message.FromCoord.TheVariants as from_coord
use Rattle.farm_base.specs.declared.message.Message.{Message}
use Rattle.farm_base.specs.declared.message.Message.TheVariants as to
use Rattle.farm_base.specs.declared.message.Request.{Request}
use Rattle.farm_base.specs.declared.message.Request.TheVariants as request
use Rattle.farm_base.specs.declared.message.ToNode.TheVariants as to_node
use Rattle.farm_base.specs.declared.message.Why.{Why}
use Rattle.farm_base.specs.declared.message.Why.TheVariants.{InstancesSpent, TicketsSpent}
use Rattle.names.specs.declared.number.Life.{Life}
use Rattle.names.specs.declared.number.NodeId.{NodeId}
use Rattle.names.specs.declared.number.Ticket.{Ticket}
use Rattle.names.specs.Names.{folder_text}
use Rattle.farmwire.specs.declared.verb.Verb.{Verb}
use Rattle.farmwire.specs.declared.verb.Verb.TheVariants.{Hello, Acquire, Tenure, Commit, Release, Granted, Committed, Fenced, Denied, Recall, Fetch, Blob}
use Rattle.farmwire.specs.Lawful.{IsNode, IsCounted, IsLife, IsTicket, IsNews, IsConfirmed, IsGranted, IsRequest, IsTold, IsLawful}
use Rattle.words.specs.Words.{node_text, ticket_text, digits_text, want_text, why_text, words}
use Rattle.farmwire.specs.Lines.{life_text, ask_text, bytes_text, tenure_text, news_text, confirmed_text, granted_text, kind_text, message_words}
use Rattle.farmwire.specs.Sealed.{IsSpelled}
use Rattle.farmwire.specs.Words.{verb_text, said, told, releases, fences, recalls, Says, SpelledBy, OfLease}
use Rattle.words.proofs.PlainLemmas.{IsWord, IsWord-from_test, decimal_word, digest_word, folder_word, want_words, words-joined, joined_utf8, last_word, node_words}
use Rattle.farmwire.proofs.Spelling.{node_fits, life_counted}
use Rattle.farmwire.proofs.PlainLemmas.{bytes_word, news_word, confirmed_word, granted_word, item_words}

-- ---- words of a text

then_word : (w : List ℕ) (ws : List (List ℕ)) → IsWord w → All IsWord ws → All IsWord (w ∷ ws)
then_word w ws h hs = All-cons IsWord w ws h hs

counted_words : (n : ℕ) (ws : List (List ℕ)) → IsCounted n → All IsWord ws → All IsWord (decimal n ∷ ws)
counted_words n ws h hs = then_word (decimal n) ws (decimal_word n h.1) hs

verb_word : (v : Verb) → IsWord (verb_text v)
verb_word Hello = IsWord-from_test (verb_text Hello) refl
verb_word Acquire = IsWord-from_test (verb_text Acquire) refl
verb_word Tenure = IsWord-from_test (verb_text Tenure) refl
verb_word Commit = IsWord-from_test (verb_text Commit) refl
verb_word Release = IsWord-from_test (verb_text Release) refl
verb_word Granted = IsWord-from_test (verb_text Granted) refl
verb_word Committed = IsWord-from_test (verb_text Committed) refl
verb_word Fenced = IsWord-from_test (verb_text Fenced) refl
verb_word Denied = IsWord-from_test (verb_text Denied) refl
verb_word Recall = IsWord-from_test (verb_text Recall) refl
verb_word Fetch = IsWord-from_test (verb_text Fetch) refl
verb_word Blob = IsWord-from_test (verb_text Blob) refl

kind_word : (k : LeaseKind) → IsWord (kind_text k)
kind_word kind.Plain = IsWord-from_test (kind_text kind.Plain) refl
kind_word kind.Shared = IsWord-from_test (kind_text kind.Shared) refl
kind_word kind.Tenure = IsWord-from_test (kind_text kind.Tenure) refl

why_word : (why : Why) → IsWord (why_text why)
why_word InstancesSpent = IsWord-from_test (why_text InstancesSpent) refl
why_word TicketsSpent = IsWord-from_test (why_text TicketsSpent) refl

-- a node, its life, and words
speaker_words : (n : NodeId) (l : Life) (ws : List (List ℕ)) → IsNode n → IsLife l → All IsWord ws → All IsWord (node_text n ∷ life_text l ∷ ws)
speaker_words n l ws hn hl hs = node_words n (life_text l ∷ ws) (node_fits n hn) (counted_words l.0 ws (life_counted l hl) hs)

-- the same, and an ask or a ticket
numbered_words : (n : NodeId) (l : Life) (k : ℕ) (ws : List (List ℕ)) → IsNode n → IsLife l → IsCounted k → All IsWord ws
    → All IsWord (node_text n ∷ life_text l ∷ decimal k ∷ ws)
numbered_words n l k ws hn hl hk hs = speaker_words n l (decimal k ∷ ws) hn hl (counted_words k ws hk hs)

lease_words : (make : NodeId → Life → Ticket → Message) (ws : List (List ℕ)) (m : Message) → OfLease make ws m → All IsWord ws
lease_words make ws m h =
    subst (All IsWord) (sym h.text) (numbered_words h.node h.life h.ticket.0 [] h.is_node h.is_life h.is_ticket (All-nil IsWord))

-- the words after a verb
said_are_words : (v : Verb) (ws : List (List ℕ)) (m : Message) → Says v ws m → All IsWord ws
said_are_words Hello ws m h = subst (All IsWord) (sym h.text) (speaker_words h.node h.life [] h.is_node h.is_life (All-nil IsWord))
said_are_words Acquire ws m h =
    let folders = subst (All IsWord) (sym h.spelled.text) (want_words h.wants h.spelled.lawful.0) in
    subst (All IsWord) (sym h.text) (numbered_words h.node h.life h.ask.0 h.folders h.is_node h.is_life h.is_ask folders)
said_are_words Tenure ws m h =
    let folder = last_word (folder_text h.folder) (folder_word h.folder h.is_name) in
    subst (All IsWord) (sym h.text) (numbered_words h.node h.life h.ask.0 (folder_text h.folder ∷ []) h.is_node h.is_life h.is_ask folder)
said_are_words Commit ws m h =
    let slots = item_words news_text IsNews news_word h.slots h.news h.spelled in
    subst (All IsWord) (sym h.text) (numbered_words h.node h.life h.ticket.0 h.slots h.is_node h.is_life h.is_ticket slots)
said_are_words Release ws m h = lease_words releases ws m h
said_are_words Granted ws m h =
    let slots = item_words granted_text IsGranted granted_word h.words h.slots h.spelled in
    let kind = then_word (kind_text h.kind) h.words (kind_word h.kind) slots in
    let ticket = counted_words h.ticket.0 (kind_text h.kind ∷ h.words) h.is_ticket kind in
    subst (All IsWord) (sym h.text)
    (numbered_words h.node h.life h.ask.0 (ticket_text h.ticket ∷ kind_text h.kind ∷ h.words) h.is_node h.is_life h.is_ask ticket)
said_are_words Committed ws m h =
    let slots = item_words confirmed_text IsConfirmed confirmed_word h.slots h.versions h.spelled in
    subst (All IsWord) (sym h.text) (numbered_words h.node h.life h.ticket.0 h.slots h.is_node h.is_life h.is_ticket slots)
said_are_words Fenced ws m h = lease_words fences ws m h
said_are_words Denied ws m h =
    let why = last_word (why_text h.why) (why_word h.why) in
    subst (All IsWord) (sym h.text) (numbered_words h.node h.life h.ask.0 (why_text h.why ∷ []) h.is_node h.is_life h.is_ask why)
said_are_words Recall ws m h = lease_words recalls ws m h
said_are_words Fetch ws m h =
    let digest = last_word (digits_text h.digest) (digest_word h.digest h.is_digest) in
    subst (All IsWord) (sym h.text)
    (node_words h.node (node_text h.from ∷ digits_text h.digest ∷ []) (node_fits h.node h.is_node)
    (node_words h.from (digits_text h.digest ∷ []) (node_fits h.from h.is_from) digest))
said_are_words Blob ws m h =
    let content = last_word (bytes_text h.content) (bytes_word h.content h.is_content) in
    subst (All IsWord) (sym h.text) (node_words h.node (bytes_text h.content ∷ []) (node_fits h.node h.is_node) content)

-- ---- from the words to the text

-- the text of a verb and the words after it
abbrev pub spoken : Verb → List (List ℕ) → List ℕ
spoken v ws = join_with_byte 32 (verb_text v ∷ ws)

-- the text that says a message spells it
said_spelled : (v : Verb) (ws : List (List ℕ)) (m : Message) → Says v ws m → IsSpelled (spoken v ws) m
said_spelled Hello ws m h =
    subst (IsSpelled (spoken Hello ws)) (sym h.message)
    (record { lawful = record { node = h.is_node; life = h.is_life; request = tt }; text = ap (spoken Hello) h.text })
said_spelled Acquire ws m h =
    let ws_are = h.text ∙ ap (λ others. node_text h.node ∷ life_text h.life ∷ ask_text h.ask ∷ others) h.spelled.text in
    subst (IsSpelled (spoken Acquire ws)) (sym h.message)
    (record { lawful = record { node = h.is_node; life = h.is_life; request = (h.is_ask, h.spelled.lawful) }; text = ap (spoken Acquire) ws_are })
said_spelled Tenure ws m h =
    subst (IsSpelled (spoken Tenure ws)) (sym h.message) (record {
      lawful = record {
        node = h.is_node;
        life = h.is_life;
        request = (h.is_ask, record { folder = h.folder; name = h.is_name; shared = h.shared; one = refl });
      };
      text = ap (spoken Tenure) h.text;
    })
said_spelled Commit ws m h =
    let ws_are = h.text ∙ ap (λ others. node_text h.node ∷ life_text h.life ∷ ticket_text h.ticket ∷ others) h.spelled.text in
    subst (IsSpelled (spoken Commit ws)) (sym h.message)
    (record { lawful = record { node = h.is_node; life = h.is_life; request = (h.is_ticket, h.spelled.each) }; text = ap (spoken Commit) ws_are })
said_spelled Release ws m h =
    subst (IsSpelled (spoken Release ws)) (sym h.message)
    (record { lawful = record { node = h.is_node; life = h.is_life; request = h.is_ticket }; text = ap (spoken Release) h.text })
said_spelled Granted ws m h =
    let ws_are = h.text
    ∙ ap (λ others. node_text h.node ∷ life_text h.life ∷ ask_text h.ask ∷ ticket_text h.ticket ∷ kind_text h.kind ∷ others) h.spelled.text in
    subst (IsSpelled (spoken Granted ws)) (sym h.message) (record {
      lawful = record { node = h.is_node; life = h.is_life; ask = h.is_ask; ticket = h.is_ticket; slots = h.spelled.each };
      text = ap (spoken Granted) ws_are;
    })
said_spelled Committed ws m h =
    let ws_are = h.text ∙ ap (λ others. node_text h.node ∷ life_text h.life ∷ ticket_text h.ticket ∷ others) h.spelled.text in
    subst (IsSpelled (spoken Committed ws)) (sym h.message)
    (record { lawful = (h.is_node, h.is_life, h.is_ticket, h.spelled.each); text = ap (spoken Committed) ws_are })
said_spelled Fenced ws m h =
    subst (IsSpelled (spoken Fenced ws)) (sym h.message) (record { lawful = (h.is_node, h.is_life, h.is_ticket); text = ap (spoken Fenced) h.text })
said_spelled Denied ws m h =
    subst (IsSpelled (spoken Denied ws)) (sym h.message) (record { lawful = (h.is_node, h.is_life, h.is_ask); text = ap (spoken Denied) h.text })
said_spelled Recall ws m h =
    subst (IsSpelled (spoken Recall ws)) (sym h.message) (record { lawful = (h.is_node, h.is_life, h.is_ticket); text = ap (spoken Recall) h.text })
said_spelled Fetch ws m h =
    subst (IsSpelled (spoken Fetch ws)) (sym h.message)
    (record { lawful = record { node = h.is_node; from = h.is_from; digest = h.is_digest }; text = ap (spoken Fetch) h.text })
said_spelled Blob ws m h =
    subst (IsSpelled (spoken Blob ws)) (sym h.message) (record { lawful = (h.is_node, h.is_content); text = ap (spoken Blob) h.text })

-- a text whose words spell a message spells it
pub spelled-from_words : (text : List ℕ) (m : Message) → SpelledBy (words text) m → IsSpelled text m
spelled-from_words text m h =
    let whole : spoken h.verb h.behind ≡ text = ap (join_with_byte 32) (sym h.text) ∙ join_with_byte-slice_split 32 text in
    subst (λ t. IsSpelled t m) whole (said_spelled h.verb h.behind m h.says)

-- ---- from the text to the words

-- a verb and what it takes
pub record Saying (m : Message) : Type 0 where
  pub verb : Verb
  pub behind : List (List ℕ)
  pub says : Says verb behind m
  pub words_are : message_words m ≡ verb_text verb ∷ behind

lease_saying : (make : NodeId → Life → Ticket → Message) (n : NodeId) (l : Life) (t : Ticket) → IsNode n → IsLife l → IsTicket t
    → OfLease make (node_text n ∷ life_text l ∷ ticket_text t ∷ []) (make n l t)
lease_saying make n l t hn hl ht = record { node = n; life = l; ticket = t; is_node = hn; is_life = hl; is_ticket = ht; text = refl; message = refl }

said_saying : (n : NodeId) (l : Life) (r : Request) → IsNode n → IsLife l → IsRequest r → Saying (said n l r)
said_saying n l request.Hello hn hl h = record {
  verb = Hello;
  behind = node_text n ∷ life_text l ∷ [];
  says = record { node = n; life = l; is_node = hn; is_life = hl; text = refl; message = refl };
  words_are = refl;
}
said_saying n l (request.Acquire a wants false) hn hl h = record {
  verb = Acquire;
  behind = node_text n ∷ life_text l ∷ ask_text a ∷ map want_text wants;
  says = record {
    node = n;
    life = l;
    ask = a;
    folders = map want_text wants;
    wants = wants;
    is_node = hn;
    is_life = hl;
    is_ask = h.0;
    spelled = record { lawful = h.1; text = refl };
    text = refl;
    message = refl;
  };
  words_are = refl;
}
said_saying n l (request.Acquire a wants true) hn hl h = record {
  verb = Tenure;
  behind = node_text n ∷ life_text l ∷ ask_text a ∷ map tenure_text wants;
  says = record {
    node = n;
    life = l;
    ask = a;
    folder = h.1.folder;
    is_node = hn;
    is_life = hl;
    is_ask = h.0;
    is_name = h.1.name;
    shared = h.1.shared;
    text = ap (λ ws. node_text n ∷ life_text l ∷ ask_text a ∷ map tenure_text ws) h.1.one;
    message = ap (λ ws. said n l (request.Acquire a ws true)) h.1.one;
  };
  words_are = refl;
}
said_saying n l (request.Commit t news) hn hl h = record {
  verb = Commit;
  behind = node_text n ∷ life_text l ∷ ticket_text t ∷ map news_text news;
  says = record {
    node = n;
    life = l;
    ticket = t;
    slots = map news_text news;
    news = news;
    is_node = hn;
    is_life = hl;
    is_ticket = h.0;
    spelled = record { each = h.1; text = refl };
    text = refl;
    message = refl;
  };
  words_are = refl;
}
said_saying n l (request.Release t) hn hl h = record {
  verb = Release;
  behind = node_text n ∷ life_text l ∷ ticket_text t ∷ [];
  says = lease_saying releases n l t hn hl h;
  words_are = refl;
}

told_saying : (f : FromCoord) → IsTold f → Saying (told f)
told_saying (from_coord.Granted g) h = record {
  verb = Granted;
  behind = node_text g.node ∷ life_text g.life ∷ ask_text g.ask ∷ ticket_text g.ticket ∷ kind_text g.kind ∷ map granted_text g.slots;
  says = record {
    node = g.node;
    life = g.life;
    ask = g.ask;
    ticket = g.ticket;
    kind = g.kind;
    words = map granted_text g.slots;
    slots = g.slots;
    is_node = h.node;
    is_life = h.life;
    is_ask = h.ask;
    is_ticket = h.ticket;
    spelled = record { each = h.slots; text = refl };
    text = refl;
    message = refl;
  };
  words_are = refl;
}
told_saying (from_coord.Committed n l t versions) h = record {
  verb = Committed;
  behind = node_text n ∷ life_text l ∷ ticket_text t ∷ map confirmed_text versions;
  says = record {
    node = n;
    life = l;
    ticket = t;
    slots = map confirmed_text versions;
    versions = versions;
    is_node = h.0;
    is_life = h.1;
    is_ticket = h.2;
    spelled = record { each = h.3; text = refl };
    text = refl;
    message = refl;
  };
  words_are = refl;
}
told_saying (from_coord.Fenced n l t) h = record {
  verb = Fenced;
  behind = node_text n ∷ life_text l ∷ ticket_text t ∷ [];
  says = lease_saying fences n l t h.0 h.1 h.2;
  words_are = refl;
}
told_saying (from_coord.Denied n l a why) h = record {
  verb = Denied;
  behind = node_text n ∷ life_text l ∷ ask_text a ∷ why_text why ∷ [];
  says = record { node = n; life = l; ask = a; why = why; is_node = h.0; is_life = h.1; is_ask = h.2; text = refl; message = refl };
  words_are = refl;
}
told_saying (from_coord.Recall n l t) h = record {
  verb = Recall;
  behind = node_text n ∷ life_text l ∷ ticket_text t ∷ [];
  says = lease_saying recalls n l t h.0 h.1 h.2;
  words_are = refl;
}

pub saying : (m : Message) → IsLawful m → Saying m
saying (to.ToCoord y) h = said_saying y.node y.life y.request h.node h.life h.request
saying (to.ToNode (to_node.FromCoord f)) h = told_saying f h
saying (to.ToNode (to_node.Fetch f)) h = record {
  verb = Fetch;
  behind = node_text f.node ∷ node_text f.from ∷ digits_text f.digest ∷ [];
  says = record { node = f.node; from = f.from; digest = f.digest; is_node = h.node; is_from = h.from; is_digest = h.digest; text = refl; message = refl };
  words_are = refl;
}
saying (to.ToNode (to_node.Blob n content)) h = record {
  verb = Blob;
  behind = node_text n ∷ bytes_text content ∷ [];
  says = record { node = n; content = content; is_node = h.0; is_content = h.1; text = refl; message = refl };
  words_are = refl;
}

pub saying_words : {m : Message} (s : Saying m) → All IsWord (verb_text s.verb ∷ s.behind)
saying_words {m} s = All-cons IsWord (verb_text s.verb) s.behind (verb_word s.verb) (said_are_words s.verb s.behind m s.says)

-- the words of a text that spells a message spell it
pub words-from_spelled : (text : List ℕ) (m : Message) → IsSpelled text m → SpelledBy (words text) m
words-from_spelled text m h =
    let s = saying m h.lawful in
    record {
      verb = s.verb;
      behind = s.behind;
      text = ap words (h.text ∙ ap (join_with_byte 32) s.words_are) ∙ words-joined (verb_text s.verb) s.behind (saying_words s);
      says = s.says;
    }

-- a text that spells a message is UTF-8
pub utf8-from_spelled : (text : List ℕ) (m : Message) → IsSpelled text m → IsUtf8 text
utf8-from_spelled text m h =
    let s = saying m h.lawful in
    subst IsUtf8 (sym (h.text ∙ ap (join_with_byte 32) s.words_are)) (joined_utf8 (verb_text s.verb ∷ s.behind) (saying_words s))
