-- Newer lives, withdrawals, retirements, prunes, nudges and restarts follow the machine.
use Rattle.std.proofs.Common.{◌≡◌, ◌≢◌, ℕ, ◌+◌, ◌<◌, ◌≤◌, List, [], ◌∷◌, ◌++◌, ◌⊎◌, Bool, true, false, not, ◌&&◌, ◌||◌, eqb, filter, Option, Some, None, Result, Ok, Err, refl, sym, ◌∙◌, ap, subst, inl, inr, arith, append-nil}
use Rattle.std.proofs.lemmas.Bool.{cases_eq, cases_Bool, eqb-false, and_parts, eqb-true, not-true, or_parts}
use Rattle.std.proofs.lemmas.Bool.Decides.{nat_tests}
use Rattle.std.specs.List.{list_any}
use Rattle.std.specs.Prelude.{⊤, nat_lt, if◌then◌else◌}
use Rattle.farm_base.specs.Kinds.{is_tenure}
use Rattle.protocol.specs.Lists.{In, put, is_nil}
use Rattle.protocol.specs.Names.{Slot, slot_eq, is_private, NodeId, Life, Ticket}
use Rattle.protocol.specs.Machine.{Grant, GrantedSlot, LineVersion, Ending, Granted, Pruned, Withdrawn, Died, Message, Said, ToCoord, FromCoord, Parked, Machine, Has, Live, line, WasHeard, cleared, HasPart, Step, Prunes, Sees, Retires, Unparks, Raises, Says, Says_recall}
use Rattle.farm_base.specs.declared.message.FromCoord.TheVariants as told
use Rattle.events.specs.declared.answer.CoordNote.{CoordNote}
use Rattle.events.specs.declared.answer.CoordNote.TheVariants as note
use Rattle.events.specs.declared.answer.CoordRefusal.{CoordRefusal}
use Rattle.events.specs.declared.answer.CoordRefusal.TheVariants as refusal
use Rattle.protocol.specs.Ledger.{Limits, Ledger, Work, Lease, begin_work, notes, has_slot, some_lease, is_leased, is_saved, grant_of, retried, holds_wanted, has_ticket, lease_under, is_older, is_older_ask, sees, is_home, newer_life, handled, retires, withdraws, withdrawing, withdrawn, is_at, retire_all, goes, retired, prunes, pruned, is_awaited, nudges, nudge_all, nudged, reread}
use Rattle.protocol.specs.Follows.{lease_from, Works, Begins_work, Goes_on, Speaks, Agrees, WithdrawIsTaken}
use Rattle.protocol.specs.Meaning.{Ended, MessageEnds, Of_older_life, By_commit, By_release, WithdrawEnds, RetireEnds, RestartEnds, NoEnds, CoordMeans, Meant}
use Rattle.protocol.proofs.Base.{lt_not, true_false, none_some, some_is, eqb_same, slot_eq_is, node_is, any_in, from_any, any_none, in_filter, from_filter, in_map, from_map, ticket_is, put_same, put_other}
use Rattle.protocol.proofs.Steps.{Sound, later_refl, same_grant}
use Rattle.protocol.proofs.Leases.{Core, core_of, agrees_from, not_leased, find_some, find_in, waits_filter}
use Rattle.protocol.proofs.Following.{part_filter, part_none, Sent, notes_follows, now_sound, grant_says, retried_follows, more_sent}
use Rattle.protocol.proofs.Trying.{raised_block, raised_covers, try_new, try-gone, try-lives, try-note}
use Rattle.protocol.proofs.Meanings.{none_ended, ended_more}
use Rattle.protocol.proofs.Bulk.{EndsThose}
use Rattle.protocol.proofs.Calls as calls
use Rattle.protocol.proofs.Calls.{Fo, picks}

pub or_cases : (a b : Bool) → (a || b) ≡ true → (a ≡ true) ⊎ (b ≡ true)
or_cases true b h = inl refl
or_cases false b h = inr h

pub or_left : (a b : Bool) → a ≡ true → (a || b) ≡ true
or_left true b h = refl
or_left false b h = (let bad : false ≡ true = h in cc)

pub or_right : (a b : Bool) → b ≡ true → (a || b) ≡ true
or_right true b h = refl
or_right false b h = h

-- what a newer life makes of the lives that were seen
retried-lives : (k : Limits) (v : Work) → (retried k v).ledger.lives ≡ v.ledger.lives
unfolding retried
retried-lives k v = try-lives k v.ledger.parked v

newer-lives : (k : Limits) (n : NodeId) (l : Life) (w : Work) → (newer_life k n l w).ledger.lives ≡ put n.0 l.0 w.ledger.lives
unfolding newer_life
newer-lives k n l w = elim (cases_Bool (list_any (is_older n l) w.ledger.live || is_home n w.ledger.old_home)) [ inl t ↦ rw t (retried-lives k (sees n l w)) | inr t ↦ rw t refl ]

lt_is : (a b : ℕ) → nat_lt a b ≡ true → a < b
lt_is a b h = grind (arith, nat_tests)

filter-not_not : {A : Type 0} (test : A → Bool) (xs : List A) → filter (λ x. not (not (test x))) xs ≡ filter test xs
filter-not_not test [] = refl
filter-not_not test (x ∷ xs) = (let rest = filter-not_not test xs in elim (cases_Bool (test x)) [ inl t ↦ rw (t, rest) refl | inr t ↦ rw (t, rest) refl ])

-- a lease of a life that has just begun is one of before: no ask of that life was parked
pub newer_mine : (k : Limits) (q : Ledger) → ((p : Parked) → In p q.parked → p.life.0 ≤ q.lives p.node.0) → (n : NodeId) (l : Life) → nat_lt (q.lives n.0) l.0 ≡ true → (h : Lease) → In h (newer_life k n l (begin_work q)).ledger.live → h.node ≡ n → h.life ≡ l → In h q.live
unfolding newer_life retried
newer_mine k q known n l newer h i at life = elim (cases_Bool (list_any (is_older n l) q.live || is_home n q.old_home)) [
  | inl t ↦ elim (try_new k (sees n l (begin_work q)).ledger.parked (sees n l (begin_work q)) h (rw t at i)) [
    | inl old ↦ (from_filter (λ (g : Lease). not (is_older n l g)) h q.live old).0
    | inr r ↦ (let le : r.0.life.0 ≤ q.lives r.0.node.0 = known r.0 (from_filter (λ (p : Parked). not (is_older_ask n l p)) r.0 q.parked r.1).0 in
        let lt : q.lives n.0 < l.0 = lt_is (q.lives n.0) l.0 newer in
        let same : q.lives r.0.node.0 ≡ q.lives n.0 = ap (λ (z : NodeId). q.lives z.0) (sym r.2 ∙ at) in
        let its : r.0.life.0 ≡ l.0 = ap (λ (z : Life). z.0) (sym r.3 ∙ life) in
        absurd (omega arith))
  ]
  | inr t ↦ (let j : In h (filter (λ (g : Lease). not (is_older n l g)) q.live) = rw t at i in (from_filter (λ (g : Lease). not (is_older n l g)) h q.live j).0)
]

module _ (k : Limits) (fits : k.instances ≤ 4096) (pool : List Message) (m : Machine) (sound : Sound k.empty m) (sent : Sent pool m) (P : (ℕ → Option Ending) → Type 0) where
  abbrev Fi : Work → Type 0
  Fi w = Fo k fits pool m sound sent P w

  pub core_at : (w : Work) (f : Fi w) → Core k.empty f.machine w.ledger
  core_at w f = core_of k.empty pool f.machine w.ledger f.agrees

  pub sound_at : (w : Work) (f : Fi w) → Sound k.empty f.machine
  sound_at w f = now_sound k fits pool m sound sent P f.machine w.sends f.works

  pub retry : (w : Work) → Fi w → Fi (retried k w)
  retry w f = retried_follows k fits pool m sound sent P w f

  pub note_it : (n : CoordNote) (w : Work) → Fi w → Fi (notes n w)
  note_it n w f = notes_follows k fits pool m sound sent P n w f

  -- parked asks go
  pub unpark_it : (test : Parked → Bool) (w : Work) (f : Fi w) → Fi (record w { ledger = record w.ledger { parked = filter test w.ledger.parked } })
  unpark_it test w f =
      let b : Machine = f.machine in
      let ps : List Parked = filter test w.ledger.parked in
      let next : Machine = record b { parked = ps } in
      let core = core_at w f in
      record {
        machine = next;
        ended = f.ended;
        granted = f.granted;
        works = Goes_on b next w.sends f.works (Unparks ps (subst (λ l. HasPart l ps) f.agrees.parked (part_filter test w.ledger.parked)));
        agrees = agrees_from k.empty pool next (record w.ledger { parked = ps })
            (record { live_made = core.live_made; live_kept = core.live_kept; retired_made = core.retired_made; retired_kept = core.retired_kept; lines = core.lines; last = core.last; ceiling = core.ceiling; block = core.block; seen = core.seen; old_home = core.old_home; gone = core.gone; lives = core.lives })
            refl
            (λ p i. f.agrees.asked p (from_filter test p w.ledger.parked i).0)
            (waits_filter w.ledger.live test w.ledger.parked f.agrees.waits);
      }

  -- ---- a newer life

  -- the life is kept where nothing is left of older ones
  pub life_it : (n : NodeId) (l : Life) (w : Work) (f : Fi w) → WasHeard pool n l → w.ledger.gone n.0 ≡ false → nat_lt (w.ledger.lives n.0) l.0 ≡ true
      → ((h : Lease) → In h w.ledger.live → is_older n l h ≡ false) → ((p : Parked) → In p w.ledger.parked → is_older_ask n l p ≡ false)
      → Fi (record w { ledger = record w.ledger { lives = put n.0 l.0 w.ledger.lives; old_home = cleared n w.ledger.old_home }; changed = true })
  life_it n l w f heard here newer leases asks =
      let b : Machine = f.machine in
      let core = core_at w f in
      let next : Machine = record b { lives = put n.0 l.0 b.lives; old_home = cleared n b.old_home } in
      let older : (a c : ℕ) (d e : ℕ) → a ≡ c → d < e → ((eqb a c) && nat_lt d e) ≡ true = λ a c d e p q. grind (arith, nat_tests) in
      let step : Step k.empty pool b next = Sees n l heard (subst (λ g. g n.0 ≡ false) core.gone here) (lt_is (b.lives n.0) l.0 (subst (λ g. nat_lt (g n.0) l.0 ≡ true) core.lives newer))
      (λ g live at lt. true_false (is_older n l (lease_from g)) (older g.node.0 n.0 g.life.0 l.0 (ap (λ (z : NodeId). z.0) at) lt) (leases (lease_from g) (core.live_kept g live)))
      (λ p i at lt. true_false (is_older_ask n l p) (older p.node.0 n.0 p.life.0 l.0 (ap (λ (z : NodeId). z.0) at) lt) (asks p (subst (In p) (sym f.agrees.parked) i))) in
      record {
        machine = next;
        ended = f.ended;
        granted = f.granted;
        works = Goes_on b next w.sends f.works step;
        agrees = agrees_from k.empty pool next (record w.ledger { lives = put n.0 l.0 w.ledger.lives; old_home = cleared n w.ledger.old_home })
            (record { live_made = core.live_made; live_kept = core.live_kept; retired_made = core.retired_made; retired_kept = core.retired_kept; lines = core.lines; last = core.last; ceiling = core.ceiling; block = core.block; seen = λ h i. rises h.node.0 h.life.0 (core.seen h i); old_home = ap (cleared n) core.old_home; gone = core.gone; lives = ap (put n.0 l.0) core.lives })
            f.agrees.parked (λ p i. (let a = f.agrees.asked p i in (a.0, a.1, rises p.node.0 p.life.0 a.2))) f.agrees.waits;
      }
    where
      rises : (j a : ℕ) → a ≤ w.ledger.lives j → a ≤ put n.0 l.0 w.ledger.lives j
      rises j a le = elim (cases_eq j n.0) [
        | inl e ↦ (let at : put n.0 l.0 w.ledger.lives j ≡ l.0 = ap (put n.0 l.0 w.ledger.lives) e ∙ put_same n.0 l.0 w.ledger.lives in
            let was : w.ledger.lives j ≡ w.ledger.lives n.0 = ap w.ledger.lives e in
            let lt : w.ledger.lives n.0 < l.0 = lt_is (w.ledger.lives n.0) l.0 newer in omega arith)
        | inr ne ↦ (let at : put n.0 l.0 w.ledger.lives j ≡ w.ledger.lives j = put_other n.0 l.0 w.ledger.lives j ne in omega arith)
      ]

  pub retried-gone : (v : Work) → (retried k v).ledger.gone ≡ v.ledger.gone
  unfolding retried
  retried-gone v = try-gone k v.ledger.parked v

  pub retried-note : (v : Work) → (retried k v).note ≡ v.note
  unfolding retried
  retried-note v = try-note k v.ledger.parked v

  -- a node is retired where nothing is left of it
  not_home : (n : NodeId) (o : Option NodeId) → is_home n o ≡ false → o ≢ Some n
  not_home n None h e = none_some n e
  not_home n (Some x) h e = (let same : x ≡ n = some_is x n e in true_false (eqb x.0 n.0) (subst (λ (z : NodeId). eqb z.0 n.0 ≡ true) (sym same) (eqb_same n.0)) h)

  pub gone_it : (n : NodeId) (w : Work) (f : Fi w) → w.ledger.gone n.0 ≡ false → ((h : Lease) → In h w.ledger.live → is_at n h ≡ false) → ((p : Parked) → In p w.ledger.parked → eqb p.node.0 n.0 ≡ false) → is_home n w.ledger.old_home ≡ false
      → Fi (record w { ledger = record w.ledger { gone = put n.0 true w.ledger.gone }; changed = true })
  gone_it n w f here leases asks home =
      let b : Machine = f.machine in
      let core = core_at w f in
      let next : Machine = record b { gone = put n.0 true b.gone } in
      let step : Step k.empty pool b next = Retires n (subst (λ g. g n.0 ≡ false) core.gone here) (subst (λ o. o ≢ Some n) core.old_home (not_home n w.ledger.old_home home))
      (λ g l e. true_false (is_at n (lease_from g)) (subst (λ (z : NodeId). eqb g.node.0 z.0 ≡ true) e (eqb_same g.node.0)) (leases (lease_from g) (core.live_kept g l)))
      (λ p i e. true_false (eqb p.node.0 n.0) (subst (λ (z : NodeId). eqb p.node.0 z.0 ≡ true) e (eqb_same p.node.0)) (asks p (subst (In p) (sym f.agrees.parked) i))) in
      record {
        machine = next;
        ended = f.ended;
        granted = f.granted;
        works = Goes_on b next w.sends f.works step;
        agrees = agrees_from k.empty pool next (record w.ledger { gone = put n.0 true w.ledger.gone })
            (record { live_made = core.live_made; live_kept = core.live_kept; retired_made = core.retired_made; retired_kept = core.retired_kept; lines = core.lines; last = core.last; ceiling = core.ceiling; block = core.block; seen = core.seen; old_home = core.old_home; gone = ap (put n.0 true) core.gone; lives = core.lives })
            f.agrees.parked
            (λ p i. (let r = f.agrees.asked p i in (r.0, put_other n.0 true w.ledger.gone p.node.0 (eqb-false p.node.0 n.0 (asks p i)) ∙ r.1, r.2)))
            f.agrees.waits;
      }

-- ---- ends, and how tickets ended then

module _ (k : Limits) (fits : k.instances ≤ 4096) (pool : List Message) (m : Machine) (sound : Sound k.empty m) (sent : Sent pool m) (P is : (ℕ → Option Ending) → Type 0) where
  -- the leases that `test` picks end so
  abbrev SoEnds : (Lease → Bool) → Ending → (w : Work) → Fi k fits pool m sound sent P w → Type 0
  SoEnds test y w f = (e : ℕ → Option Ending) → EndsThose f.machine.ending e (λ (g : Grant). test (lease_from g)) y f.machine.made → is e

  -- ---- a newer life

  pub sees_it : (n : NodeId) (l : Life) (w : Work) (f : Fi k fits pool m sound sent P w) → WasHeard pool n l → w.ledger.gone n.0 ≡ false → nat_lt (w.ledger.lives n.0) l.0 ≡ true
      → SoEnds (is_older n l) Died w f → Fi k fits pool m sound sent is (sees n l w)
  sees_it n l w f heard here newer so =
      let died = calls.plain_ends k fits pool m sound sent P is (is_older n l) Died true w f (λ s t. refl) (λ q. (let bad : Died ≡ Withdrawn = q in cc))
      (λ e g made t. (let b = and_parts (eqb g.node.0 n.0) (nat_lt g.life.0 l.0) t in
      let node : g.node ≡ n = node_is g.node n (eqb-true g.node.0 n.0 b.0) in (
        l,
        subst (λ (z : NodeId). WasHeard pool z l) (sym node) heard,
        lt_is g.life.0 l.0 b.1,
        subst (λ (z : NodeId). f.machine.gone z.0 ≡ false) (sym node) (subst (λ h. h n.0 ≡ false) f.agrees.gone here),
      ))) so in
      let v : Work = record w { ledger = record w.ledger { live = filter (λ h. not (is_older n l h)) w.ledger.live }; changed = true } in
      let left = unpark_it k fits pool m sound sent is (λ p. not (is_older_ask n l p)) v died in
      let u : Work = record v { ledger = record v.ledger { parked = filter (λ p. not (is_older_ask n l p)) w.ledger.parked } } in
      life_it k fits pool m sound sent is n l u left heard here newer
      (λ h i. not-true (is_older n l h) (from_filter (λ (z : Lease). not (is_older n l z)) h w.ledger.live i).1)
      (λ p i. not-true (is_older_ask n l p) (from_filter (λ (z : Parked). not (is_older_ask n l z)) p w.ledger.parked i).1)

  pub newer_it : (n : NodeId) (l : Life) (w : Work) (f : Fi k fits pool m sound sent P w) → WasHeard pool n l → w.ledger.gone n.0 ≡ false → nat_lt (w.ledger.lives n.0) l.0 ≡ true → SoEnds (is_older n l) Died w f
      → Fi k fits pool m sound sent is (newer_life k n l w) × ((newer_life k n l w).ledger.gone ≡ w.ledger.gone) × ((newer_life k n l w).note ≡ w.note)
  unfolding newer_life
  newer_it n l w f heard here newer so = elim (cases_Bool (list_any (is_older n l) w.ledger.live || is_home n w.ledger.old_home)) [
    | inl t ↦ rw t (retry k fits pool m sound sent is (sees n l w) (sees_it n l w f heard here newer so), retried-gone k fits pool m sound sent is (sees n l w), retried-note k fits pool m sound sent is (sees n l w))
    | inr t ↦ rw t (sees_it n l w f heard here newer so, refl, refl)
  ]

  -- ---- withdrawals

  pub withdraws_it : (h : Lease) (w : Work) (f : Fi k fits pool m sound sent P w) → In h w.ledger.live → h.tenure ≡ false → SoEnds (has_ticket h.ticket) Withdrawn w f → Fi k fits pool m sound sent is (withdraws h w)
  withdraws_it h w f i free so =
      let g = f.agrees.live_made h i in
      let only : (x : Grant) → Live f.machine x → has_ticket h.ticket (lease_from x) ≡ true → lease_from x ≡ h =
      λ x l t. (let at : x.ticket.0 ≡ g.0.ticket.0 = eqb-true x.ticket.0 h.ticket.0 t ∙ ap (λ (z : Lease). z.ticket.0) (sym g.2) in
      ap lease_from (same_grant k.empty f.machine (sound_at k fits pool m sound sent P w f) x g.0 l.0 g.1.0 at) ∙ g.2) in
      calls.withdrawn_ends k fits pool m sound sent P is (has_ticket h.ticket) (w.changed || is_saved h) (retires h w.ledger.retired) w f
      (λ x l t. ap (λ (z : Lease). z.tenure) (only x l t) ∙ free)
      (λ s t. elim (or_cases (is_private s.folder.mode && has_slot h.slots s) (w.ledger.retired s) t) [
        | inl new ↦ (let b = and_parts (is_private s.folder.mode) (has_slot h.slots s) new in inr (b.0, (h, i, eqb_same h.ticket.0, b.1)))
        | inr old ↦ inl old
      ])
      (λ s t. or_right (is_private s.folder.mode && has_slot h.slots s) (w.ledger.retired s) t)
      (λ s x p j t has. (let o = f.agrees.live_made x j in
      let is : x ≡ h = sym o.2 ∙ only o.0 o.1 (subst (λ z. has_ticket h.ticket z ≡ true) (sym o.2) t) in
      let has' : has_slot h.slots s ≡ true = subst (λ (z : Lease). has_slot z.slots s ≡ true) is has in
      or_left (is_private s.folder.mode && has_slot h.slots s) (w.ledger.retired s) (rw (p, has') refl)))
      so

  -- ---- a node retires

  pub goes_it : (n : NodeId) (w : Work) (f : Fi k fits pool m sound sent P w) → w.ledger.gone n.0 ≡ false → list_any (λ (h : Lease). is_at n h && h.tenure) w.ledger.live ≡ false → is_home n w.ledger.old_home ≡ false → SoEnds (is_at n) Withdrawn w f → Fi k fits pool m sound sent is (goes n w)
  goes_it n w f here plain home so =
      let gone' : Slot → Bool = retire_all (filter (is_at n) w.ledger.live) w.ledger.retired in
      let ended = calls.withdrawn_ends k fits pool m sound sent P is (is_at n) true gone' w f
      (λ g l t. (let x : (is_at n (lease_from g) && is_tenure g.kind) ≡ false = any_none (λ (h : Lease). is_at n h && h.tenure) (lease_from g) w.ledger.live plain (f.agrees.live_kept g l) in rw t at x))
      (λ s t. elim (or_cases (is_private s.folder.mode && some_lease (filter (is_at n) w.ledger.live) s) (w.ledger.retired s) t) [
        | inl new ↦ (let b = and_parts (is_private s.folder.mode) (some_lease (filter (is_at n) w.ledger.live) s) new in
            let r = from_any (λ (h : Lease). has_slot h.slots s) (filter (is_at n) w.ledger.live) b.1 in
            let o = from_filter (is_at n) r.0 w.ledger.live r.1 in
            inr (b.0, (r.0, o.0, o.1, r.2)))
        | inr old ↦ inl old
      ])
      (λ s t. or_right (is_private s.folder.mode && some_lease (filter (is_at n) w.ledger.live) s) (w.ledger.retired s) t)
      (λ s h p i t has. (let some : some_lease (filter (is_at n) w.ledger.live) s ≡ true = any_in (λ (z : Lease). has_slot z.slots s) h (filter (is_at n) w.ledger.live) (in_filter (is_at n) h w.ledger.live i t) has in
      or_left (is_private s.folder.mode && some_lease (filter (is_at n) w.ledger.live) s) (w.ledger.retired s) (rw (p, some) refl))) so in
      let v : Work = record w { ledger = record w.ledger { live = filter (λ h. not (is_at n h)) w.ledger.live; retired = gone' }; changed = true } in
      let left = unpark_it k fits pool m sound sent is (λ p. not (eqb p.node.0 n.0)) v ended in
      let u : Work = record v { ledger = record v.ledger { parked = filter (λ p. not (eqb p.node.0 n.0)) w.ledger.parked } } in
      gone_it k fits pool m sound sent is n u left here (λ h i. not-true (is_at n h) (from_filter (λ (z : Lease). not (is_at n z)) h w.ledger.live i).1)
      (λ p i. not-true (eqb p.node.0 n.0) (from_filter (λ (z : Parked). not (eqb z.node.0 n.0)) p w.ledger.parked i).1) home

  -- ---- restarts

  -- the machine may become what the record has: leases that aren't saved are withdrawn
  pub reread_it : (w : Work) (f : Fi k fits pool m sound sent P w) → SoEnds (λ h. not (is_saved h)) Withdrawn w f → Fi k fits pool m sound sent is (record w { ledger = reread w.ledger; changed = true })
  reread_it w f so =
      let ended = calls.withdrawn_ends k fits pool m sound sent P is (λ h. not (is_saved h)) true w.ledger.retired w f
      (λ g l t. (or_parts (is_tenure g.kind) (list_any (λ (x : Slot × Bool). is_private x.0.folder.mode) (lease_from g).slots) (not-true (is_saved (lease_from g)) t)).0)
      (λ s t. inl t) (λ s t. t)
      (λ s h p i t has. (let o = or_parts h.tenure (list_any (λ (x : Slot × Bool). is_private x.0.folder.mode) h.slots) (not-true (is_saved h) t) in
      let r = from_any (λ (x : Slot × Bool). slot_eq x.0 s) h.slots has in
      let private : is_private r.0.0.folder.mode ≡ true = subst (λ (z : Slot). is_private z.folder.mode ≡ true) (sym (slot_eq_is r.0.0 s r.2)) p in
      true_false (list_any (λ (x : Slot × Bool). is_private x.0.folder.mode) h.slots) (any_in (λ (x : Slot × Bool). is_private x.0.folder.mode) r.0 h.slots r.1 private) o.1)) so in
      let v : Work = record w { ledger = record w.ledger { live = filter (λ h. not (not (is_saved h))) w.ledger.live; retired = w.ledger.retired }; changed = true } in
      let b : Machine = ended.machine in
      let core = core_at k fits pool m sound sent is v ended in
      let bare : Machine = record b { parked = [] } in
      let next : Machine = record b { parked = []; last = w.ledger.ceiling } in
      let le : b.last ≤ w.ledger.ceiling = subst (λ z. z ≤ w.ledger.ceiling) core.last core.ceiling in
      subst (λ l. Fi k fits pool m sound sent is (record w { ledger = record w.ledger { live = l; last = w.ledger.ceiling; parked = [] }; changed = true })) (filter-not_not is_saved w.ledger.live)
      (record {
        machine = next;
        ended = ended.ended;
        granted = ended.granted;
        works = Goes_on bare next w.sends (Goes_on b bare w.sends ended.works (Unparks [] (part_none b.parked))) (Raises w.ledger.ceiling le);
        agrees = agrees_from k.empty pool next (record v.ledger { last = w.ledger.ceiling; parked = [] })
            (record { live_made = core.live_made; live_kept = core.live_kept; retired_made = core.retired_made; retired_kept = core.retired_kept; lines = core.lines; last = refl; ceiling = omega arith; block = omega arith; seen = core.seen; old_home = core.old_home; gone = core.gone; lives = core.lives })
            refl (λ p i. absurd i) tt;
      })

module _ (k : Limits) (fits : k.instances ≤ 4096) (pool : List Message) (m : Machine) (sound : Sound k.empty m) (sent : Sent pool m) (P : (ℕ → Option Ending) → Type 0) where
  -- ---- prunes

  pub prunes_it : (s : Slot) (w : Work) (f : Fi k fits pool m sound sent P w) → is_leased w.ledger s ≡ false → is_nil (w.ledger.line s) ≡ false → nat_lt w.ledger.last k.greatest ≡ true → Fi k fits pool m sound sent P (prunes k s w)
  prunes_it s w f idle some below =
      let q : Ledger = w.ledger in
      let b : Machine = f.machine in
      let core = core_at k fits pool m sound sent P w f in
      let t : Ticket = record { 0 = q.last + 1 } in
      let next : Machine = record b { made = Pruned t s ∷ b.made; last = q.last + 1 } in
      let some_line : line k.empty b s ≢ [] = λ e. nil_line (q.line s) some (core.lines s ∙ e) in
      let newer : b.last < q.last + 1 = (let l : q.last ≡ b.last = core.last in omega arith) in
      let step : Step k.empty pool b next = Prunes t s newer (not_leased k.empty b q s core idle) some_line in
      record {
        machine = next;
        ended = f.ended;
        granted = λ g i. f.granted g (before g i);
        works = Goes_on b next w.sends f.works step;
        agrees = agrees_from k.empty pool next (prunes k s w).ledger
            (record {
              live_made = λ h i. (let r = core.live_made h i in (r.0, (inr r.1.0, r.1.1), r.2));
              live_kept = λ g l. core.live_kept g (before g l.0, l.1);
              retired_made = λ x e. (let r = core.retired_made x e in (r.0, (r.1.0, inr r.1.1, r.1.2, r.1.3)));
              retired_kept = λ x r. core.retired_kept x (r.0, (r.1.0, before r.1.0 r.1.1, r.1.2, r.1.3));
              lines = λ x. elim (cases_Bool (slot_eq s x)) [
                | inl e ↦ (let l = core.lines x in rw (e, l) refl)
                | inr e ↦ (let l = core.lines x in rw (e, l) (sym (append-nil (line k.empty b x))))
              ];
              last = refl;
              ceiling = raised_covers k q core.ceiling below;
              block = raised_block k q core.block;
              seen = core.seen;
              old_home = core.old_home;
              gone = core.gone;
              lives = core.lives;
            })
            f.agrees.parked f.agrees.asked f.agrees.waits;
      }
    where
      nil_line : (vs : List LineVersion) → is_nil vs ≡ false → vs ≡ [] → ⊥
      nil_line [] h e = (let bad : true ≡ false = h in cc)
      nil_line (v ∷ vs) h e = (let bad : v ∷ vs ≡ [] = e in cc)

      before : (g : Grant) → In (Granted g) (Pruned (record { 0 = w.ledger.last + 1 }) s ∷ f.machine.made) → In (Granted g) f.machine.made
      before g (inl q) = cc
      before g (inr i) = i

  -- ---- nudges

  nudges_it : (h : Lease) (w : Work) (f : Fi k fits pool m sound sent P w) → In h w.ledger.live → Fi k fits pool m sound sent P (nudges k h w) × ((nudges k h w).ledger ≡ w.ledger)
  nudges_it h w f i =
      let y : FromCoord = told.Granted (grant_of k.empty w.ledger.line h) in
      let once : Works k.empty pool m f.machine (w.sends ++ y ∷ []) = Speaks f.machine w.sends y f.works (grant_says k fits pool m sound sent P w f h i) in
      elim (cases_Bool (is_awaited w.ledger.parked h)) [
        | inl t ↦ rw t (let g = f.agrees.live_made h i in
            let tenure : is_tenure g.0.kind ≡ true = ap (λ (z : Lease). z.tenure) g.2 ∙ (and_parts h.tenure (list_any (λ p. p.tenure && holds_wanted p h) w.ledger.parked) t).0 in
            let r : FromCoord = told.Recall h.node h.life h.ticket in
            let may : Says k.empty pool f.machine r = subst (λ (z : Lease). Says k.empty pool f.machine (told.Recall z.node z.life z.ticket)) g.2 (Says_recall g.0 g.1 tenure) in
            (record { machine = f.machine; works = Speaks f.machine (w.sends ++ y ∷ []) r once may; ended = f.ended; granted = λ g i. more_sent k fits pool m sound sent P g (w.sends ++ y ∷ []) r (more_sent k fits pool m sound sent P g w.sends y (f.granted g i)); agrees = f.agrees }, refl))
        | inr t ↦ rw t (record { machine = f.machine; works = once; ended = f.ended; granted = λ g i. more_sent k fits pool m sound sent P g w.sends y (f.granted g i); agrees = f.agrees }, refl)
      ]

  pub nudge_all_it : (hs : List Lease) (w : Work) (f : Fi k fits pool m sound sent P w) → ((h : Lease) → In h hs → In h w.ledger.live) → Fi k fits pool m sound sent P (nudge_all k hs w)
  nudge_all_it [] w f all = f
  nudge_all_it (h ∷ hs) w f all =
      let r = nudges_it h w f (all h (inl refl)) in
      nudge_all_it hs (nudges k h w) r.0 (λ x i. subst (λ (q : Ledger). In x q.live) (sym r.1) (all x (inr i)))

-- ---- each decision, from a ledger that agrees

in_private : Slot × Bool → Bool
in_private x = is_private x.0.folder.mode

-- a grant whose lease isn't saved
pub unsaved_ends : (g : Grant) → is_saved (lease_from g) ≡ false → RestartEnds g Withdrawn
unfolding in_private
unsaved_ends g t = (let o = or_parts (is_tenure g.kind) (list_any in_private (lease_from g).slots) t in (
  o.0,
  λ s has. subst (λ (z : Slot). is_private z.folder.mode ≡ false) has.2
      (any_none in_private (has.0.slot, has.0.writable) (lease_from g).slots o.1 (in_map (λ (v : GrantedSlot). (v.slot, v.writable)) has.0 g.slots has.1)),
  refl,
))

module _ (k : Limits) (fits : k.instances ≤ 4096) (pool : List Message) (m : Machine) (sound : Sound k.empty m) (sent : Sent pool m) where
  abbrev Same : (ℕ → Option Ending) → Type 0
  Same e = e ≡ m.ending

  abbrev F : (Grant → Ending → Type 0) → CoordNote → Work → Type 0
  F ends told w = Fi k fits pool m sound sent (Meant m ends told) w

  -- work begins
  abbrev begins : (is : (ℕ → Option Ending) → Type 0) (q : Ledger) → Agrees k.empty pool m q → is m.ending → Fi k fits pool m sound sent is (begin_work q)
  begins is q agrees so = record { machine = m; works = Begins_work; ended = so; granted = λ g i. inl i; agrees = agrees }

  -- those that `test` picks end, and nothing else
  just_those : (ends : Grant → Ending → Type 0) (test : Lease → Bool) (y : Ending) (e : ℕ → Option Ending) → EndsThose m.ending e (λ (g : Grant). test (lease_from g)) y m.made
      → ((g : Grant) → test (lease_from g) ≡ true → ends g y) → ((g : Grant) (z : Ending) → ends g z → (test (lease_from g) ≡ true) × (z ≡ y)) → Ended m ends e
  just_those ends test y e those into from =
      ended_more k.empty m m NoEnds ends e (λ (g : Grant). test (lease_from g)) y sound (later_refl k.empty m) (none_ended m NoEnds (λ g z l h. h)) those
      (λ g l t. l.0) (λ g l t. into g t) (λ g z h. absurd h) (λ g z l h. inr (from g z h)) (λ g z l h t. h)

  -- ---- messages

  older_is : (y : ToCoord) (told : CoordNote) → m.gone y.node.0 ≡ false → m.lives y.node.0 < y.life.0 → (g : Grant) → is_older y.node y.life (lease_from g) ≡ true → MessageEnds m y told g Died
  older_is y told here newer g t = (let b = and_parts (eqb g.node.0 y.node.0) (nat_lt g.life.0 y.life.0) t in Of_older_life here newer (node_is g.node y.node (eqb-true g.node.0 y.node.0 b.0)) (lt_is g.life.0 y.life.0 b.1))

  is_older_is : (y : ToCoord) (g : Grant) (z : Ending) → MessageEnds m y note.Nothing g z → (is_older y.node y.life (lease_from g) ≡ true) × (z ≡ Died)
  is_older_is y g z (Of_older_life here newer node older) = (test g.node.0 y.node.0 g.life.0 y.life.0 (ap (λ (n : NodeId). n.0) node) older, refl)
    where
      test : (a c : ℕ) (d e : ℕ) → a ≡ c → d < e → ((eqb a c) && nat_lt d e) ≡ true
      test a c d e p q = grind (arith, nat_tests)
  is_older_is y g z (By_commit news r p) = (let bad : note.Nothing ≡ note.Committed g.ticket = p in cc)
  is_older_is y g z (By_release r p) = (let bad : note.Nothing ≡ note.Released g.ticket = p in cc)

  -- where no older life dies, and nothing else was told, nothing ends
  quiet_ends : (y : ToCoord) (told : CoordNote) → ((t : Ticket) → told ≢ note.Committed t) → ((t : Ticket) → told ≢ note.Released t) → (m.gone y.node.0 ≡ false → m.lives y.node.0 < y.life.0 → ⊥)
      → (g : Grant) (z : Ending) → Live m g → MessageEnds m y told g z → ⊥
  quiet_ends y told c r none g z l (Of_older_life here newer node older) = none here newer
  quiet_ends y told c r none g z l (By_commit news q p) = c g.ticket p
  quiet_ends y told c r none g z l (By_release q p) = r g.ticket p

  -- a message that was sent
  pub handled_follows : (y : ToCoord) (q : Ledger) → Agrees k.empty pool m q → In (Said y) pool → F (MessageEnds m y (handled k y (begin_work q)).note) (handled k y (begin_work q)).note (handled k y (begin_work q))
  unfolding handled
  handled_follows y q agrees asked = elim (cases_Bool (q.gone y.node.0)) [
    | inl t ↦ rw t (note_it k fits pool m sound sent (Meant m (MessageEnds m y note.NodeRetired) note.NodeRetired) note.NodeRetired (begin_work q) (begins (Meant m (MessageEnds m y note.NodeRetired) note.NodeRetired) q agrees (
      none_ended m (MessageEnds m y note.NodeRetired) (quiet_ends y note.NodeRetired (λ u p. (let bad : note.NodeRetired ≡ note.Committed u = p in cc)) (λ u p. (let bad : note.NodeRetired ≡ note.Released u = p in cc))
          (λ here newer. true_false (q.gone y.node.0) t (ap (λ (f : ℕ → Bool). f y.node.0) agrees.gone ∙ here))),
      tt,
    )))
    | inr here ↦ rw here (elim (cases_Bool (nat_lt y.life.0 (q.lives y.node.0))) [
      | inl t ↦ rw t (note_it k fits pool m sound sent (Meant m (MessageEnds m y note.OldLife) note.OldLife) note.OldLife (begin_work q) (begins (Meant m (MessageEnds m y note.OldLife) note.OldLife) q agrees (
        none_ended m (MessageEnds m y note.OldLife) (quiet_ends y note.OldLife (λ u p. (let bad : note.OldLife ≡ note.Committed u = p in cc)) (λ u p. (let bad : note.OldLife ≡ note.Released u = p in cc))
            (λ here newer. (let lt : y.life.0 < q.lives y.node.0 = lt_is y.life.0 (q.lives y.node.0) t in let same : q.lives y.node.0 ≡ m.lives y.node.0 = lives in omega arith))),
        tt,
      )))
      | inr t ↦ rw t (elim (cases_Bool (nat_lt (q.lives y.node.0) y.life.0)) [
        | inl newer ↦ rw newer (let lt : m.lives y.node.0 < y.life.0 = subst (λ z. z < y.life.0) lives (lt_is (q.lives y.node.0) y.life.0 newer) in
            let here' : m.gone y.node.0 ≡ false = sym gone ∙ here in
            let v = newer_it k fits pool m sound sent Same (Meant m (MessageEnds m y note.Nothing) note.Nothing) y.node y.life (begin_work q) (begins Same q agrees refl) (y, asked, refl, refl) here newer
            (λ e those. (just_those (MessageEnds m y note.Nothing) (is_older y.node y.life) Died e those (older_is y note.Nothing here' lt) (is_older_is y), tt)) in
            calls.answering_it k fits pool m sound sent y (newer_life k y.node y.life (begin_work q)) v.0 (λ h i at life. agrees.live_made h (newer_mine k q (λ p j. (agrees.asked p j).2) y.node y.life newer h i at life)) v.2 asked (ap (λ (f : ℕ → Bool). f y.node.0) v.1 ∙ here) (let kept : (newer_life k y.node y.life (begin_work q)).ledger.lives y.node.0 ≡ y.life.0 = ap (λ (f : ℕ → ℕ). f y.node.0) (newer-lives k y.node y.life (begin_work q)) ∙ put_same y.node.0 y.life.0 q.lives in omega arith))
        | inr same ↦ rw same (calls.answering_it k fits pool m sound sent y (begin_work q) (begins (Meant m (MessageEnds m y note.Nothing) note.Nothing) q agrees (
          none_ended m (MessageEnds m y note.Nothing) (quiet_ends y note.Nothing (λ u p. (let bad : note.Nothing ≡ note.Committed u = p in cc)) (λ u p. (let bad : note.Nothing ≡ note.Released u = p in cc))
              (λ here newer. (let le : y.life.0 ≤ q.lives y.node.0 = lt_not (q.lives y.node.0) y.life.0 same in let e : q.lives y.node.0 ≡ m.lives y.node.0 = lives in omega arith))),
          tt,
        )) (λ h i at life. agrees.live_made h i) refl asked here (lt_not (q.lives y.node.0) y.life.0 same))
      ])
    ])
  ]
    where
      lives : q.lives y.node.0 ≡ m.lives y.node.0
      lives = ap (λ (f : ℕ → ℕ). f y.node.0) agrees.lives

      gone : q.gone y.node.0 ≡ m.gone y.node.0
      gone = ap (λ (f : ℕ → Bool). f y.node.0) agrees.gone

  -- ---- withdrawals

  abbrev pub OnWork : (Grant → Ending → Type 0) → Result Work CoordRefusal → Type 0
  OnWork ends (Ok w) = F ends w.note w
  OnWork ends (Err e) = ⊤

  withdrawing_if : (t : Ticket) (b : Bool) (h : Lease) (q : Ledger) (agrees : Agrees k.empty pool m q) → In h q.live → h.ticket ≡ t → h.tenure ≡ b
      → OnWork (WithdrawEnds t) (if b then Err refusal.Tenure else Ok (notes (note.Withdrawn h.ticket) (retried k (withdraws h (begin_work q)))))
  withdrawing_if t true h q agrees i at e = tt
  withdrawing_if t false h q agrees i at e =
      let is : (ℕ → Option Ending) → Type 0 = Meant m (WithdrawEnds t) (note.Withdrawn h.ticket) in
      let g = agrees.live_made h i in
      let w : Work = withdraws h (begin_work q) in
      note_it k fits pool m sound sent is (note.Withdrawn h.ticket) (retried k w) (retry k fits pool m sound sent is w
      (withdraws_it k fits pool m sound sent Same is h (begin_work q) (begins Same q agrees refl) i e
      (λ x those. (
        just_those (WithdrawEnds t) (has_ticket h.ticket) Withdrawn x those
            (λ y u. (ticket_is y.ticket h.ticket (eqb-true y.ticket.0 h.ticket.0 u) ∙ at, refl))
            (λ y z o. (subst (λ (s : Ticket). eqb y.ticket.0 s.0 ≡ true) (o.0 ∙ sym at) (eqb_same y.ticket.0), o.1)),
        (g.0, g.1, ap (λ (l : Lease). l.ticket) g.2),
      ))))

  withdrawing_it : (o : Option Lease) (q : Ledger) (agrees : Agrees k.empty pool m q) (t : Ticket) → lease_under q.live t ≡ o → OnWork (WithdrawEnds t) (withdrawing k o (begin_work q))
  withdrawing_it None q agrees t e = tt
  withdrawing_it (Some h) q agrees t e = (let r = find_some (has_ticket t) q.live h e in withdrawing_if t h.tenure h q agrees r.0 (ticket_is h.ticket t (eqb-true h.ticket.0 t.0 r.1)) refl)

  pub withdrawn_follows : (t : Ticket) (q : Ledger) → Agrees k.empty pool m q → OnWork (WithdrawEnds t) (withdrawn k t (begin_work q))
  withdrawn_follows t q agrees = withdrawing_it (lease_under q.live t) q agrees t refl

  pub withdraw_taken : (q : Ledger) → Agrees k.empty pool m q → WithdrawIsTaken k m q
  withdraw_taken q agrees g live free =
      let found = find_in (has_ticket g.ticket) q.live (lease_from g) (agrees.live_kept g live) (eqb_same g.ticket.0) in
      let h : Lease = found.0 in
      let r = find_some (has_ticket g.ticket) q.live h found.1 in
      let x = agrees.live_made h r.0 in
      let same : x.0 ≡ g = same_grant k.empty m sound x.0 g x.1.0 live.0 (ap (λ (z : Lease). z.ticket.0) x.2 ∙ eqb-true h.ticket.0 g.ticket.0 r.1) in
      let is : lease_from g ≡ h = ap lease_from (sym same) ∙ x.2 in
      let plain : h.tenure ≡ false = sym (ap (λ (z : Lease). z.tenure) is) ∙ free in
      let taken : withdrawing k (Some h) (begin_work q) ≡ Ok (notes (note.Withdrawn h.ticket) (retried k (withdraws h (begin_work q)))) = rw plain refl in
      (notes (note.Withdrawn h.ticket) (retried k (withdraws h (begin_work q))), ap (λ o. withdrawing k o (begin_work q)) found.1 ∙ taken)

  -- what is so of an accepted call
  abbrev pub OnOk : (Work → Type 0) → Result Work CoordRefusal → Type 0
  OnOk so (Ok w) = so w
  OnOk so (Err e) = ⊤

  -- a newer life tells nothing
  pub retried-newer : (n : NodeId) (l : Life) (w : Work) → (newer_life k n l w).note ≡ w.note
  unfolding newer_life
  retried-newer n l w = elim (cases_Bool (list_any (is_older n l) w.ledger.live || is_home n w.ledger.old_home)) [
    | inl t ↦ rw t (retried-note k fits pool m sound sent Same (sees n l w))
    | inr t ↦ rw t refl
  ]

  pub pruned_told : (s : Slot) (w : Work) → OnOk (λ v. v.note ≡ note.Pruned (record { 0 = w.ledger.last + 1 })) (pruned k s w)
  pruned_told s w = elim (cases_Bool (is_leased w.ledger s)) [
    | inl t ↦ rw t tt
    | inr idle ↦ rw idle (elim (cases_Bool (is_nil (w.ledger.line s))) [
      | inl t ↦ rw t tt
      | inr some ↦ rw some (elim (cases_Bool (nat_lt w.ledger.last k.greatest)) [ inl b ↦ rw b refl | inr b ↦ rw b tt ])
    ])
  ]

  withdrawing_told : (o : Option Lease) (w : Work) (t : Ticket) → lease_under w.ledger.live t ≡ o → OnOk (λ v. v.note ≡ note.Withdrawn t) (withdrawing k o w)
  withdrawing_told None w t e = tt
  withdrawing_told (Some h) w t e = elim (cases_Bool h.tenure) [
    | inl b ↦ rw b tt
    | inr b ↦ rw b (let r = find_some (has_ticket t) w.ledger.live h e in ap note.Withdrawn (ticket_is h.ticket t (eqb-true h.ticket.0 t.0 r.1)))
  ]

  pub withdrawn_told : (t : Ticket) (w : Work) → OnOk (λ v. v.note ≡ note.Withdrawn t) (withdrawn k t w)
  withdrawn_told t w = withdrawing_told (lease_under w.ledger.live t) w t refl

  -- ---- a node retires

  pub retired_told : (n : NodeId) (w : Work) → OnOk (λ v. (v.note ≡ note.Retired n) × (v.ledger.gone n.0 ≡ true)) (retired k n w)
  retired_told n w = elim (cases_Bool (w.ledger.gone n.0)) [
    | inl t ↦ rw t tt
    | inr here ↦ rw here (elim (cases_Bool (list_any (λ (h : Lease). is_at n h && h.tenure) w.ledger.live || is_home n w.ledger.old_home)) [
      | inl t ↦ rw t tt
      | inr t ↦ rw t (
        refl,
        elim (cases_Bool (list_any (is_at n) w.ledger.live)) [
          | inl some ↦ rw some (ap (λ (f : ℕ → Bool). f n.0) (retried-gone k fits pool m sound sent Same (goes n w)) ∙ put_same n.0 true w.ledger.gone)
          | inr none ↦ rw none (put_same n.0 true w.ledger.gone)
        ],
      )
    ])
  ]

  pub retired_follows : (n : NodeId) (q : Ledger) → Agrees k.empty pool m q → OnWork (RetireEnds n) (retired k n (begin_work q))
  retired_follows n q agrees = elim (cases_Bool (q.gone n.0)) [
    | inl t ↦ rw t tt
    | inr here ↦ rw here (elim (cases_Bool (list_any (λ (h : Lease). is_at n h && h.tenure) q.live || is_home n q.old_home)) [
      | inl t ↦ rw t tt
      | inr t ↦ rw t (let o = or_parts (list_any (λ (h : Lease). is_at n h && h.tenure) q.live) (is_home n q.old_home) t in
          let is : (ℕ → Option Ending) → Type 0 = Meant m (RetireEnds n) (note.Retired n) in
          let w : Work = goes n (begin_work q) in
          let g = goes_it k fits pool m sound sent Same is n (begin_work q) (begins Same q agrees refl) here o.0 o.1
          (λ x those. (
            just_those (RetireEnds n) (is_at n) Withdrawn x those
                (λ y u. (node_is y.node n (eqb-true y.node.0 n.0 u), refl))
                (λ y z e. (subst (λ (s : NodeId). eqb y.node.0 s.0 ≡ true) e.0 (eqb_same y.node.0), e.1)),
            sym (ap (λ (f : ℕ → Bool). f n.0) agrees.gone) ∙ here,
          )) in
          note_it k fits pool m sound sent is (note.Retired n) (if list_any (is_at n) q.live then retried k w else w) (elim (cases_Bool (list_any (is_at n) q.live)) [
            | inl some ↦ rw some (retry k fits pool m sound sent is w g)
            | inr none ↦ rw none g
          ]))
    ])
  ]

  -- ---- prunes, nudges and restarts

  none : (told : CoordNote) → CoordMeans m told → Meant m NoEnds told m.ending
  none told so = (none_ended m NoEnds (λ g z l h. h), so)

  pub pruned_follows : (s : Slot) (q : Ledger) → Agrees k.empty pool m q → OnWork NoEnds (pruned k s (begin_work q))
  pruned_follows s q agrees = elim (cases_Bool (is_leased q s)) [
    | inl t ↦ rw t tt
    | inr idle ↦ rw idle (elim (cases_Bool (is_nil (q.line s))) [
      | inl t ↦ rw t tt
      | inr some ↦ rw some (elim (cases_Bool (nat_lt q.last k.greatest)) [
        | inl below ↦ rw below (let told : CoordNote = note.Pruned (record { 0 = q.last + 1 }) in
            note_it k fits pool m sound sent (Meant m NoEnds told) told (prunes k s (begin_work q)) (prunes_it k fits pool m sound sent (Meant m NoEnds told) s (begin_work q) (begins (Meant m NoEnds told) q agrees (none told tt)) idle some below))
        | inr t ↦ rw t tt
      ])
    ])
  ]

  pub nudged_follows : (q : Ledger) → Agrees k.empty pool m q → F NoEnds note.Nudged (nudged k (begin_work q))
  nudged_follows q agrees = note_it k fits pool m sound sent (Meant m NoEnds note.Nudged) note.Nudged (nudge_all k q.live (begin_work q)) (nudge_all_it k fits pool m sound sent (Meant m NoEnds note.Nudged) q.live (begin_work q) (begins (Meant m NoEnds note.Nudged) q agrees (none note.Nudged tt)) (λ h i. i))

  pub reread_follows : (q : Ledger) → Agrees k.empty pool m q → F RestartEnds note.Nothing (record (begin_work q) { ledger = reread q; changed = true })
  reread_follows q agrees = reread_it k fits pool m sound sent Same (Meant m RestartEnds note.Nothing) (begin_work q) (begins Same q agrees refl)
      (λ x those. (
        just_those RestartEnds (λ h. not (is_saved h)) Withdrawn x those
            (λ g t. unsaved_ends g (not-true (is_saved (lease_from g)) t))
            (λ g z o. (unsaved g o.0 o.1, o.2)),
        tt,
      ))
    where
      private : Slot × Bool → Bool
      private x = is_private x.0.folder.mode

      unsaved : (g : Grant) → is_tenure g.kind ≡ false → ((s : Slot) → Has g s → is_private s.folder.mode ≡ false) → not (is_saved (lease_from g)) ≡ true
      unsaved g plain none = elim (cases_Bool (list_any private (lease_from g).slots)) [
        | inl t ↦ (let r = from_any private (lease_from g).slots t in
            let u = from_map (λ (v : GrantedSlot). (v.slot, v.writable)) r.0 g.slots r.1 in
            true_false (is_private r.0.0.folder.mode) r.2 (none r.0.0 (u.0, u.1, sym (ap (λ (x : Slot × Bool). x.0) u.2))))
        | inr f ↦ rw (plain, f) refl
      ]
