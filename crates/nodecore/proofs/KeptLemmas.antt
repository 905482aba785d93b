-- What a test tells of the ask that it picks.
use Rattle.std.proofs.Common.{◌≡◌, ◌⊎◌, ℕ, ◌<◌, ◌==◌, Bool, true, false, not, ◌&&◌, [], inl, inr, List, length, get_or, slice_get, refl, sym, ap, ◌∙◌, Option, None, Some}
use Rattle.std.proofs.lemmas.Option.{slice_get-get_or, get_or_from_slice_get}
use Rattle.farm_base.specs.Kinds.{is_tenure}
use Rattle.events.specs.declared.answer.How.TheVariants as how
use Rattle.events.specs.declared.answer.NodeNote.TheVariants as note
use Rattle.nodecore.proofs.FirstLemmas.{FirstAt}
use Rattle.nodeasks.proofs.RowLemmas.{kept_at}
use Rattle.nodeasks.specs.declared.ask_row.AskRow.{AskRow}
use Rattle.nodeasks.specs.Rows.{HaveRows}
use Rattle.protocol.proofs.Base.{some_is}
use Rattle.events.specs.declared.answer.How.{How}
use Rattle.protocol.proofs.Moving.{held_is, running_is, either_is}
use Rattle.protocol.specs.Names.{Want, Ticket, Ask, Life}
use Rattle.protocol.specs.Machine.{Grant, Why}
use Rattle.protocol.specs.World.{Node, keeps}
use Rattle.events.specs.declared.ask.KeptAsk.{KeptAsk}
use Rattle.events.specs.declared.ask.KeptAsk.TheVariants.{Open, Holding, Running, Finished, Over}
use Rattle.protocol.specs.Ledger.{Limits}
use Rattle.std.proofs.Common.{Result, Ok, Err, IfOk}
use Rattle.std.specs.declared.alloc.AllocError.{AllocError}
use Rattle.nodecore.specs.declared.message.NodeDone.{NodeDone}
use Rattle.nodecore.specs.Shown.{work_of, Does}
use Rattle.protocol.specs.Nodes.{HeldGrant, in_use, held, running, held_or_running, recallable, recalled_if, denied, nothing, becomes, granted, gives_back, of_life, NodeWork, Place}
use Rattle.nodeasks.specs.Asks.{recalls, is_open, is_in_use}

abbrev pub held_ask : HeldGrant → KeptAsk
held_ask h = Holding h.wants h.grant h.recalled

abbrev pub running_ask : HeldGrant → KeptAsk
running_ask h = Running h.wants h.grant h.recalled

-- the ask at the place has its lease under the ticket, and its folders are in use where the protocol says so
pub record FoundAt (t : Ticket) (asks : List KeptAsk) (i : ℕ) (h : HeldGrant) (s : KeptAsk) : Type 0 where
  pub get : slice_get asks i ≡ Some s
  pub ticket : h.grant.ticket ≡ t
  pub uses : (all : List KeptAsk) (a : ℕ) → is_in_use all a s ≡ in_use all a h.wants h.grant

found_at : (t : Ticket) (asks : List KeptAsk) (i : ℕ) (d : KeptAsk) (h : HeldGrant) (s : KeptAsk) → i < length asks → (get_or asks i d ≡ s) × (h.grant.ticket ≡ t) → ((all : List KeptAsk) (a : ℕ) → is_in_use all a s ≡ in_use all a h.wants h.grant) → FoundAt t asks i h s
found_at t asks i d h s inside is uses = record { get = slice_get-get_or asks i d inside ∙ ap (λ (x : KeptAsk). Some x) is.0; ticket = is.1; uses = uses }

abbrev any_ask : KeptAsk
any_ask = Over (how.Released (record { 0 = 0 }))

abbrev pub any_row : AskRow
any_row = record { place = 0; kept = any_ask }

pub held_at : (t : Ticket) (asks : List KeptAsk) (i : ℕ) (f : FirstAt (held t) asks 0 i) → FoundAt t asks i f.what (held_ask f.what)
held_at t asks i f = found_at t asks i any_ask f.what _ f.inside (held_is t (get_or asks i any_ask) f.what (f.here any_ask)) (λ all a. refl)

pub running_at : (t : Ticket) (asks : List KeptAsk) (i : ℕ) (f : FirstAt (running t) asks 0 i) → FoundAt t asks i f.what (running_ask f.what)
running_at t asks i f = found_at t asks i any_ask f.what _ f.inside (running_is t (get_or asks i any_ask) f.what (f.here any_ask)) (λ all a. refl)

pub held_or_running_at : (t : Ticket) (asks : List KeptAsk) (i : ℕ) (f : FirstAt (held_or_running t) asks 0 i) → (s : KeptAsk) × FoundAt t asks i f.what s
held_or_running_at t asks i f =
    let is = either_is t (get_or asks i any_ask) f.what (f.here any_ask) in
    elim is.0 [
      | inl holds ↦ (held_ask f.what, found_at t asks i any_ask f.what (held_ask f.what) f.inside (holds, is.1) (λ all a. refl))
      | inr runs ↦ (running_ask f.what, found_at t asks i any_ask f.what (running_ask f.what) f.inside (runs, is.1) (λ all a. refl))
    ]

-- what the row of an ask keeps
pub kept_is : (all : List KeptAsk) (rows : List AskRow) (index : ℕ) (r : AskRow) (s : KeptAsk) → HaveRows all 0 rows → slice_get rows index ≡ Some r → slice_get all r.place ≡ Some s → r.kept ≡ s
kept_is all rows index r s h get at = some_is r.kept s (sym (kept_at all rows index r h get) ∙ at)

-- what is read there
pub read_row : (all : List KeptAsk) (rows : List AskRow) (index : ℕ) (r : AskRow) (s : KeptAsk) (d : AskRow) → HaveRows all 0 rows → slice_get rows index ≡ Some r → slice_get all r.place ≡ Some s → d ≡ get_or rows index d → d.kept ≡ s
read_row all rows index r s d h get at e = ap (λ (x : AskRow). x.kept) (e ∙ get_or_from_slice_get rows index r d get) ∙ kept_is all rows index r s h get at

-- a recalled ask
recalled_is : (b : Bool) (x s : KeptAsk) → recalled_if b x ≡ Some s → x ≡ s
recalled_is true x s e = cc
recalled_is false x s e = absurd (cc)

pub recalls_is : (t : Ticket) (d s : KeptAsk) → recallable t d ≡ Some s → recalls d ≡ s
recalls_is t (Open w b) s e = absurd (cc)
recalls_is t (Holding w g r) s e = recalled_is ((g.ticket.0 == t.0) && is_tenure g.kind && not r) (Holding w g true) s e
recalls_is t (Running w g r) s e = recalled_is ((g.ticket.0 == t.0) && is_tenure g.kind && not r) (Running w g true) s e
recalls_is t (Finished w g news) s e = absurd (cc)
recalls_is t (Over how) s e = absurd (cc)

-- an open ask
pub open_is : (d : KeptAsk) → is_open d ≡ true → (w : List Want) × (b : Bool) × (d ≡ Open w b)
open_is (Open w b) e = (w, b, refl)
open_is (Holding w g r) e = absurd (cc)
open_is (Running w g r) e = absurd (cc)
open_is (Finished w g news) e = absurd (cc)
open_is (Over how) e = absurd (cc)

-- what is not open is not denied
pub not_denied : (a : Ask) (why : Why) (x : Node) (d : KeptAsk) → is_open d ≡ false → denied a why x (Some d) ≡ nothing x
not_denied a why x (Open w b) e = absurd (cc)
not_denied a why x (Holding w g r) e = refl
not_denied a why x (Running w g r) e = refl
not_denied a why x (Finished w g news) e = refl
not_denied a why x (Over how) e = refl

pub is_denied : (a : Ask) (why : Why) (x : Node) (d : KeptAsk) → is_open d ≡ true → denied a why x (Some d) ≡ record { node = becomes a.0 (Over (how.Denied why)) x; sends = []; note = note.Denied why }
is_denied a why x (Open w b) e = refl
is_denied a why x (Holding w g r) e = absurd (cc)
is_denied a why x (Running w g r) e = absurd (cc)
is_denied a why x (Finished w g news) e = absurd (cc)
is_denied a why x (Over how) e = absurd (cc)

-- a lease comes to an ask that isn't open
pub granted_kept : (k : Limits) (at : Place) (g : Grant) (x : Node) (d : KeptAsk) (b : Bool) → is_open d ≡ false → keeps d g.ticket ≡ b
    → granted k at g x (Some d) ≡ gives_back at g b x
granted_kept k at g x (Open w t) b e h = absurd (cc)
granted_kept k at g x (Holding w h r) b e f = ap (λ (c : Bool). gives_back at g c x) f
granted_kept k at g x (Running w h r) b e f = ap (λ (c : Bool). gives_back at g c x) f
granted_kept k at g x (Finished w h news) b e f = ap (λ (c : Bool). gives_back at g c x) f
granted_kept k at g x (Over how) b e f = ap (λ (c : Bool). gives_back at g c x) f

-- work that changes nothing
pub does_ok : (w v : NodeWork) (x : Node) (r : Result NodeDone AllocError) → w ≡ v → IfOk r (λ (done : NodeDone). v ≡ work_of x done) → Does w x x r
does_ok w v x (Ok done) e h = e ∙ h
does_ok w v x (Err f) e h = refl

-- a message for this life
pub of_life_now : (l : Life) (x : Node) (w : NodeWork) → (l.0 == x.life.0) ≡ true → of_life l x w ≡ w
of_life_now l x w e = rw e refl

-- an ask that wasn't made, or is over, is granted nothing and denied nothing
pub none_granted : (k : Limits) (at : Place) (g : Grant) (x : Node) (o : Option KeptAsk) → (o ≡ None) ⊎ ((how : How) × (o ≡ Some (Over how))) → granted k at g x o ≡ gives_back at g false x
none_granted k at g x o h = elim h [
  | inl e ↦ ap (granted k at g x) e
  | inr e ↦ ap (granted k at g x) e.1
]

pub none_denied : (a : Ask) (why : Why) (x : Node) (o : Option KeptAsk) → (o ≡ None) ⊎ ((how : How) × (o ≡ Some (Over how))) → denied a why x o ≡ nothing x
none_denied a why x o h = elim h [
  | inl e ↦ ap (denied a why x) e
  | inr e ↦ ap (denied a why x) e.1
]
