-- The results of calls.
use Rattle.std.proofs.Common.{◌≡◌, ℕ, ◌+◌, ◌<◌, Bool, true, false, not, nat_lt, List, [], ◌∷◌, length, refl, ap, sym, ◌∙◌, add-one, arith, is_some, Option, Some, None, Ok, Err}
use Rattle.std.specs.List.{list_any}
use Rattle.std.proofs.lemmas.List.Sums.{AllPass-from_list_all}
use Rattle.names.specs.Contents.{content_digest}
use Rattle.std.proofs.Math.ListN.{set}
use Rattle.std.proofs.lemmas.Grind.{common_steps}
use Rattle.protocol.specs.Lists.{set_nth}
use Rattle.protocol.specs.Names.{Ticket, Digest, slots_eq}
use Rattle.protocol.specs.Machine.{GrantedSlot, Message, News, commit, slots_of, written}
use Rattle.protocol.specs.World.{Node, keep}
use Rattle.events.specs.declared.ask.KeptAsk.{KeptAsk}
use Rattle.events.specs.declared.ask.KeptAsk.TheVariants.{Running, Finished}
use Rattle.protocol.specs.Nodes.{NodeAnswer, NodeWork, Place, HeldGrant, guard, first, held, held_or_running, begun, beginning, all_stored, becomes, aborted, aborting, in_use, gives_up, brought, is_base, running, Left, stored, leaving, leaves, news_of, finishing, finished_with}
use Rattle.events.specs.declared.answer.NodeNote.TheVariants as note
use Rattle.events.specs.declared.answer.NodeRefusal.{NodeRefusal}
use Rattle.events.specs.declared.answer.NodeRefusal.TheVariants as refusal
use Rattle.nodecore.specs.Shown.{content_at, HasBase, HasBases}

-- a test that refuses nothing
pub passes : {b : Bool} (e : NodeRefusal) (r : NodeAnswer) → b ≡ false → guard b e r ≡ r
passes e r h = rw h refl

-- one more ask can be made
pub has_room : (asks : List KeptAsk) → length asks < 0xffff_ffff_ffff_ffff → not (nat_lt (length asks) 0xffff_ffff_ffff_ffff) ≡ false
has_room asks h = grind (arith, common_steps)

-- another ask stands at a place
pub set_at : (asks : List KeptAsk) (i : ℕ) (k s : KeptAsk) → s ≡ k → set_nth asks (i + 1) s ≡ set asks i k
set_at asks i k s e = rw add-one (ap (set asks i) e)

pub becomes_at : (x : Node) (asks : List KeptAsk) (i : ℕ) (k s : KeptAsk) → x.asks ≡ asks → s ≡ k → becomes (i + 1) s x ≡ record x { asks = set asks i k }
becomes_at x asks i k s is e = ap (λ (l : List KeptAsk). record x { asks = l }) (ap (λ (l : List KeptAsk). set_nth l (i + 1) s) is ∙ set_at asks i k s e)

-- the same, where the asks of the new node are known
pub becomes_now : (x : Node) (asks : List KeptAsk) (i : ℕ) (s k : KeptAsk) → asks ≡ set x.asks i k → s ≡ k → becomes (i + 1) s x ≡ record x { asks = asks }
becomes_now x asks i s k is e = becomes_at x x.asks i k s refl e ∙ ap (λ (l : List KeptAsk). record x { asks = l }) (sym is)

-- begin

pub begins_not : (t : Ticket) (x : Node) → x.spent ≡ false → first (held t) x.asks 0 ≡ None → begun t x ≡ Err refusal.NoSuchTicket
begins_not t x p q = passes _ _ p ∙ ap (beginning t x) q

pub begins_missing : (t : Ticket) (x : Node) (a : ℕ) (h : HeldGrant) → x.spent ≡ false → first (held t) x.asks 0 ≡ Some (a, h) → all_stored x h.grant.slots ≡ false → begun t x ≡ Err refusal.ContentsMissing
begins_missing t x a h p q r = passes _ _ p ∙ ap (beginning t x) q ∙ rw r refl

pub begins : (t : Ticket) (x y : Node) (a : ℕ) (h : HeldGrant) (sends : List Message) → x.spent ≡ false → first (held t) x.asks 0 ≡ Some (a, h) → all_stored x h.grant.slots ≡ true → [] ≡ sends → becomes a (Running h.wants h.grant h.recalled) x ≡ y
    → begun t x ≡ Ok (record { node = y; sends = sends; note = note.Begun t })
begins t x y a h sends p q r m s = passes _ _ p ∙ ap (beginning t x) q ∙ rw r (λ j. Ok (record { node = s j; sends = m j; note = note.Begun t }))

-- the content of each base is stored
has_base : (x y : Node) → x.store ≡ y.store → (u : GrantedSlot) → is_some (x.store u.digest) ≡ true → HasBase y u
has_base x y e u h =
    let here : is_some (y.store u.digest) ≡ true = ap (λ (s : Digest → Option (List ℕ)). is_some (s u.digest)) (sym e) ∙ h in
    record { stored = here; held = λ k. ap (λ (o : Option Digest). is_some (content_at y o)) k ∙ here }

pub has_bases : (x y : Node) → x.store ≡ y.store → (slots : List GrantedSlot) → all_stored x slots ≡ true → HasBases y slots
has_bases x y e slots h k d lt = has_base x y e _ (AllPass-from_list_all (λ (u : GrantedSlot). is_some (x.store u.digest)) slots h k d lt)

-- abort

pub aborts_not : (at : Place) (t : Ticket) (x : Node) → x.spent ≡ false → first (held_or_running t) x.asks 0 ≡ None → aborted at t x ≡ Err refusal.NoSuchTicket
aborts_not at t x p q = passes _ _ p ∙ ap (aborting at x) q

pub aborts_in_use : (at : Place) (t : Ticket) (x : Node) (a : ℕ) (h : HeldGrant) → x.spent ≡ false → first (held_or_running t) x.asks 0 ≡ Some (a, h) → in_use x.asks a h.wants h.grant ≡ true → aborted at t x ≡ Err refusal.TenureInUse
aborts_in_use at t x a h p q r = passes _ _ p ∙ ap (aborting at x) q ∙ rw r refl

pub aborts : (at : Place) (t : Ticket) (x : Node) (w : NodeWork) (a : ℕ) (h : HeldGrant) → x.spent ≡ false → first (held_or_running t) x.asks 0 ≡ Some (a, h) → in_use x.asks a h.wants h.grant ≡ false
    → h.grant.ticket ≡ t → gives_up at a t (note.Aborted t) x ≡ w
    → aborted at t x ≡ Ok w
aborts at t x w a h p q r e s =
    passes _ _ p ∙ ap (aborting at x) q ∙ passes _ _ r
    ∙ ap (λ (u : Ticket). Ok (gives_up at a u (note.Aborted u) x)) e
    ∙ ap (λ (v : NodeWork). Ok v) s

-- a content that is wanted and isn't stored
pub brings : (c : List ℕ) (x y : Node) (d : Digest) → d ≡ content_digest c → is_some (x.store d) ≡ false → list_any (is_base d) x.asks ≡ true → record x { store = keep d c x.store } ≡ y
    → brought content_digest c x ≡ record { node = y; sends = []; note = note.BlobTaken }
brings c x y d e p q s =
    let stored : is_some (x.store (content_digest c)) ≡ false = ap (λ (z : Digest). is_some (x.store z)) (sym e) ∙ p in
    let based : list_any (is_base (content_digest c)) x.asks ≡ true = ap (λ (z : Digest). list_any (is_base z) x.asks) (sym e) ∙ q in
    let kept : record x { store = keep (content_digest c) c x.store } ≡ y = ap (λ (z : Digest). record x { store = keep z c x.store }) (sym e) ∙ s in
    rw (stored, based) (λ j. record { node = kept j; sends = []; note = note.BlobTaken })

-- finish

pub finishes_not : (at : Place) (t : Ticket) (lefts : List Left) (x : Node) → x.spent ≡ false → first (running t) x.asks 0 ≡ None → finished_with content_digest at t lefts x ≡ Err refusal.NotRunning
finishes_not at t lefts x p q = passes _ _ p ∙ ap (finishing content_digest at lefts x) q

pub finishes_in_use : (at : Place) (t : Ticket) (lefts : List Left) (x : Node) (a : ℕ) (h : HeldGrant) → x.spent ≡ false → first (running t) x.asks 0 ≡ Some (a, h) → in_use x.asks a h.wants h.grant ≡ true
    → finished_with content_digest at t lefts x ≡ Err refusal.TenureInUse
finishes_in_use at t lefts x a h p q r = passes _ _ p ∙ ap (finishing content_digest at lefts x) q ∙ rw r refl

abbrev pub fitting : List Left → HeldGrant → Bool
fitting lefts h = slots_eq (slots_of (news_of content_digest lefts)) (written h.grant.slots)

pub finishes_wrong : (at : Place) (t : Ticket) (lefts : List Left) (x : Node) (a : ℕ) (h : HeldGrant) → x.spent ≡ false → first (running t) x.asks 0 ≡ Some (a, h) → in_use x.asks a h.wants h.grant ≡ false → fitting lefts h ≡ false
    → finished_with content_digest at t lefts x ≡ Err refusal.WrongNews
finishes_wrong at t lefts x a h p q r s = passes _ _ p ∙ ap (finishing content_digest at lefts x) q ∙ passes _ _ r ∙ ap (λ (b : Bool). guard (not b) refusal.WrongNews (Ok (leaving content_digest at a h lefts x))) s

pub finishes : (at : Place) (t : Ticket) (lefts : List Left) (x : Node) (w : NodeWork) (a : ℕ) (h : HeldGrant) → x.spent ≡ false → first (running t) x.asks 0 ≡ Some (a, h) → in_use x.asks a h.wants h.grant ≡ false → fitting lefts h ≡ true
    → leaving content_digest at a h lefts x ≡ w → finished_with content_digest at t lefts x ≡ Ok w
finishes at t lefts x w a h p q r s e = passes _ _ p ∙ ap (finishing content_digest at lefts x) q ∙ passes _ _ r ∙ ap (λ (b : Bool). guard (not b) refusal.WrongNews (Ok (leaving content_digest at a h lefts x))) s ∙ ap (λ (v : NodeWork). Ok v) e

pub leaves_none : (at : Place) (a : ℕ) (h : HeldGrant) (lefts : List Left) (x : Node) (t : Ticket) → lefts ≡ [] → h.grant.ticket ≡ t → leaving content_digest at a h lefts x ≡ gives_up at a t (note.Finished t) x
leaves_none at a h lefts x t e f = ap (λ (l : List Left). leaving content_digest at a h l x) e ∙ ap (λ (u : Ticket). gives_up at a u (note.Finished u) x) f

pub leaves_some : (at : Place) (a : ℕ) (h : HeldGrant) (lefts : List Left) (x : Node) → 0 < length lefts → leaving content_digest at a h lefts x ≡ leaves content_digest at a h lefts x
leaves_some at a h [] x e = absurd (omega (arith, e))
leaves_some at a h (l ∷ ls) x e = refl

pub left_work : (at : Place) (t : Ticket) (a : ℕ) (h : HeldGrant) (lefts : List Left) (news : List News) (x : Node) (asks : List KeptAsk) (store : Digest → Option (List ℕ)) (sends : List Message) → 0 < length lefts
    → h.grant.ticket ≡ t → news ≡ news_of content_digest lefts → set_nth x.asks a (Finished h.wants h.grant news) ≡ asks → stored content_digest lefts x.store ≡ store → commit at.node x.life t news ∷ [] ≡ sends
    → leaving content_digest at a h lefts x ≡ record { node = record x { asks = asks; store = store }; sends = sends; note = note.Finished t }
left_work at t a h lefts news x asks store sends some ticket is asked stored_as said =
    leaves_some at a h lefts x some
    ∙ ap (λ (n : List News). record { node = record (becomes a (Finished h.wants h.grant n) x) { store = stored content_digest lefts x.store }; sends = commit at.node x.life h.grant.ticket n ∷ []; note = note.Finished h.grant.ticket }) (sym is)
    ∙ ap (λ (u : Ticket). record { node = record (becomes a (Finished h.wants h.grant news) x) { store = stored content_digest lefts x.store }; sends = commit at.node x.life u news ∷ []; note = note.Finished u }) ticket
    ∙ (λ j. record { node = record x { asks = asked j; store = stored_as j }; sends = said j; note = note.Finished t })
