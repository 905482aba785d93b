-- Each message and call of the coordinator follows the machine.
use Rattle.std.proofs.Common.{◌≡◌, ◌≢◌, ℕ, suc, ◌+◌, ◌≤◌, List, [], ◌∷◌, ◌++◌, ◌⊎◌, Bool, true, false, not, ◌&&◌, ◌||◌, eqb, filter, Option, Some, None, slice_get, refl, sym, ◌∙◌, ap, subst, inl, inr, arith}
use Rattle.std.proofs.lemmas.Bool.{cases_Bool, eqb-true, and_parts, not-true, eqb-false, cases_eq, ne_eqb}
use Rattle.std.specs.List.{find}
use Rattle.std.specs.Prelude.{is_some}
use Rattle.farm_base.specs.Kinds.{is_tenure}
use Rattle.protocol.specs.Lists.{In, put, is_nil}
use Rattle.protocol.specs.Names.{Slot, slots_eq, is_private, is_shared, wants_shared, only_slot, Digest, NodeId, Life, Ticket, Want, leased_wants}
use Rattle.protocol.specs.Machine.{Grant, News, Confirmed, LineVersion, Granted, Ending, Committed, Released, Withdrawn, Died, Message, Said, ToCoord, FromCoord, Parked, Machine, Has, Live, Retired, line, version_of, digest_for, slots_of, written, acquire, commit, release, MayEnd, Step, Ends, Parks, Stands, Says, Says_committed, Says_fenced, Says_denied, Says_recall}
use Rattle.farm_base.specs.declared.message.FromCoord.TheVariants as told
use Rattle.farm_base.specs.declared.message.Request.{Request}
use Rattle.farm_base.specs.declared.message.Request.TheVariants.{Hello, Acquire, Commit, Release}
use Rattle.events.specs.declared.answer.CoordNote.{CoordNote}
use Rattle.events.specs.declared.answer.CoordNote.TheVariants as note
use Rattle.protocol.specs.Ledger.{Limits, Ledger, Work, Lease, says, notes, has_slot, is_saved, writable_slots, grant_of, Decision, Give, Deny, Wait, elsewhere, decision, lease_for, gives, denies, parks, retried, is_of, lease_of, is_parked, holds_wanted, recall, recalls, decided, acquiring, has_ticket, lease_under, without, ends, commits, place_on_line, confirmed, versions_of, on_all, is_its, may_commit, may_release, confirms, answered, committing, released, answering}
use Rattle.protocol.specs.Follows.{lease_from, NoLease, Waits, Works, Goes_on}
use Rattle.protocol.proofs.Base.{true_false, none_some, some_is, eqb_same, slot_eq_same, node_is, life_is, ticket_is, from_any, in_filter, from_filter, in_append, in_right, in_one, put_same, put_other}
use Rattle.protocol.proofs.Lines.{line-end}
use Rattle.protocol.proofs.Steps.{Sound, Later, same_grant}
use Rattle.protocol.proofs.Bulk.{EndsThose, end_those, Bare, ended_line, still_live, live_after, retired_before, retired_stays, retired_now}
use Rattle.protocol.specs.Meaning.{Ended, MessageEnds, Of_older_life, By_commit, By_release, CoordMeans, Meant}
use Rattle.protocol.proofs.Meanings.{ended_as, ended_more, was_live, those_put}
use Rattle.protocol.proofs.Leases.{Core, core_of, agrees_from, lease_has, has_lease, writable-from, find_some, find_none, find_in, waits_give, waits_less, waits_push, no_grant}
use Rattle.protocol.proofs.Following.{works_sound, slots_eq_is, slots_eq_same, Sent, F, notes_follows, says_follows, now_sound, grant_says, going, give_going, retried_follows}

-- ---- places on a line

-- the version of a ticket stands where its place says
pub place_stands : (t : Ticket) (vs : List LineVersion) (k : ℕ) (x : ℕ × Digest) → place_on_line t vs k ≡ Some x → (j : ℕ) × (x.0 ≡ k + j + 1) × (slice_get vs j ≡ Some (record { ticket = t; digest = x.1 }))
place_stands t [] k x e = none_some x e
place_stands t (v ∷ vs) k x e = elim (cases_Bool (eqb v.ticket.0 t.0)) [
  | inl b ↦ (let is : (k + 1, v.digest) ≡ x = some_is (k + 1, v.digest) x (rw b at e) in
      let number : k + 1 ≡ x.0 = ap (λ (z : ℕ × Digest). z.0) is in
      let digest : v.digest ≡ x.1 = ap (λ (z : ℕ × Digest). z.1) is in
      let ticket : v.ticket ≡ t = ticket_is v.ticket t (eqb-true v.ticket.0 t.0 b) in
      (0, omega arith, λ i. Some (record { ticket = ticket i; digest = digest i })))
  | inr b ↦ (let r = place_stands t vs (k + 1) x (rw b at e) in
      let at : x.0 ≡ k + 1 + r.0 + 1 = r.1 in
      (suc r.0, omega arith, r.2))
]

place_found : (t : Ticket) (vs : List LineVersion) (k : ℕ) (v : LineVersion) → In v vs → v.ticket ≡ t → (x : ℕ × Digest) × (place_on_line t vs k ≡ Some x)
place_found t [] k v i e = absurd i
place_found t (u ∷ vs) k v i e = elim (cases_Bool (eqb u.ticket.0 t.0)) [
  | inl b ↦ ((k + 1, u.digest), rw b refl)
  | inr b ↦ elim i [
    | inl p ↦ (let same : u.ticket ≡ t = ap (λ (z : LineVersion). z.ticket) (sym p) ∙ e in
        true_false (eqb u.ticket.0 t.0) (subst (λ (z : Ticket). eqb u.ticket.0 z.0 ≡ true) same (eqb_same u.ticket.0)) b)
    | inr j ↦ (let r = place_found t vs (k + 1) v j e in (r.0, rw b r.1))
  ]
]

pub some_test : {A : Type 0} (o : Option A) → is_some o ≡ true → (x : A) × (o ≡ Some x)
some_test None h = (let bad : false ≡ true = h in cc)
some_test (Some x) h = (x, refl)

no_confirmed : {P : Type 0} (v : Confirmed) (vs : List Confirmed) → (v ∷ vs ≡ []) → P
no_confirmed v vs e = cc

pub is_nil_is : (news : List News) → is_nil news ≡ false → news ≢ []
is_nil_is [] h = (let bad : true ≡ false = h in cc)
is_nil_is (x ∷ xs) h = λ e. (let bad : x ∷ xs ≡ [] = e in cc)

pub not_nil : (news : List News) → news ≢ [] → is_nil news ≡ false
not_nil [] h = absurd (h refl)
not_nil (x ∷ xs) h = refl

module _ (empty : Digest) (m : Machine) (line' : Slot → List LineVersion) (lines : (s : Slot) → line' s ≡ line empty m s) (t : Ticket) where
  confirmed_stands : (s : Slot) (o : Option (ℕ × Digest)) → place_on_line t (line' s) 0 ≡ o → (v : Confirmed) → In v (confirmed s o) → Stands empty m t v
  confirmed_stands s None e v i = absurd i
  confirmed_stands s (Some x) e v i =
      let r = place_stands t (line' s) 0 x e in
      let at : x.0 ≡ 0 + r.0 + 1 = r.1 in
      let is : v ≡ record { slot = s; number = x.0; digest = x.1 } = in_one v (record { slot = s; number = x.0; digest = x.1 }) i in
      subst (Stands empty m t) (sym is) (r.0, omega arith, subst (λ l. slice_get l r.0 ≡ Some (record { ticket = t; digest = x.1 })) (lines s) r.2)

  versions_stand : (news : List News) (v : Confirmed) → In v (versions_of line' t news) → Stands empty m t v
  versions_stand [] v i = absurd i
  versions_stand (x ∷ xs) v i = elim (in_append v (confirmed x.slot (place_on_line t (line' x.slot) 0)) (versions_of line' t xs) i) [
    | inl j ↦ confirmed_stands x.slot (place_on_line t (line' x.slot) 0) refl v j
    | inr j ↦ versions_stand xs v j
  ]

  -- there is a version where the ticket is on the line of a slot
  versions_some : (x : News) (xs : List News) → is_some (place_on_line t (line' x.slot) 0) ≡ true → versions_of line' t (x ∷ xs) ≢ []
  versions_some x xs h e =
      let r = some_test (place_on_line t (line' x.slot) 0) h in
      no_confirmed (record { slot = x.slot; number = r.0.0; digest = r.0.1 }) (versions_of line' t xs)
      (sym (ap (λ o. confirmed x.slot o ++ versions_of line' t xs) r.1) ∙ e)

-- what is not on all lines
all_on : (line' : Slot → List LineVersion) (t : Ticket) (news : List News) → ((x : News) → In x news → (v : LineVersion) × In v (line' x.slot) × (v.ticket ≡ t)) → on_all line' t news ≡ true
all_on line' t [] h = refl
all_on line' t (x ∷ xs) h =
    let v = h x (inl refl) in
    let found = place_found t (line' x.slot) 0 v.0 v.1 v.2 in
    let here : is_some (place_on_line t (line' x.slot) 0) ≡ true = ap is_some found.1 in
    rw here (all_on line' t xs (λ y i. h y (inr i)))

digest_found : (x : News) (xs : List News) → (d : Digest) × (digest_for x.slot (x ∷ xs) ≡ Some d)
digest_found x xs = (x.digest, (let e = slot_eq_same x.slot in rw e refl))

bare_released : Bare Released
bare_released s t = refl

bare_withdrawn : Bare Withdrawn
bare_withdrawn s t = refl

bare_died : Bare Died
bare_died s t = refl

module _ (k : Limits) (fits : k.instances ≤ 4096) (pool : List Message) (m : Machine) (sound : Sound k.empty m) (sent : Sent pool m) (P : (ℕ → Option Ending) → Type 0) where
  abbrev pub Fo : Work → Type 0
  Fo w = F k fits pool m sound sent P w

  abbrev pub core_at : (w : Work) (f : Fo w) → Core k.empty f.machine w.ledger
  core_at w f = core_of k.empty pool f.machine w.ledger f.agrees

  pub sound_at : (w : Work) (f : Fo w) → Sound k.empty f.machine
  sound_at w f = now_sound k fits pool m sound sent P f.machine w.sends f.works

  pub retry : (w : Work) → Fo w → Fo (retried k w)
  retry w f = retried_follows k fits pool m sound sent P w f

  pub note_it : (n : CoordNote) (w : Work) → Fo w → Fo (notes n w)
  note_it n w f = notes_follows k fits pool m sound sent P n w f

  pub say_it : (y : FromCoord) (w : Work) (f : Fo w) → Says k.empty pool f.machine y → Fo (says y w)
  say_it y w f may = says_follows k fits pool m sound sent P y w f may

  -- ---- Acquire

  no_lease_from : (live : List Lease) (p : Parked) → lease_of live p.node p.life p.ask ≡ None → NoLease live p
  no_lease_from live p e g i = find_none (is_of p.node p.life p.ask) live e g i

  give_it : (p : Parked) (w : Work) → Fo w → In (acquire p.node p.life p.ask p.wants p.tenure) pool → w.ledger.gone p.node.0 ≡ false → p.life.0 ≤ w.ledger.lives p.node.0 → NoLease w.ledger.live p → is_parked w.ledger.parked p.node p.life p.ask ≡ false → decision k w.ledger p ≡ Give → Fo (gives k p w)
  unfolding gives
  give_it p w f asked here le none other e =
      let g = give_going k fits pool m sound sent P p w (going k fits pool m sound sent P w f) asked here le none e in
      record {
        machine = g.machine;
        works = g.works;
        ended = g.ended;
        granted = g.granted;
        agrees = agrees_from k.empty pool g.machine (gives k p w).ledger g.core g.parked f.agrees.asked
            (waits_give w.ledger.live (lease_for k w.ledger p) p w.ledger.parked refl refl refl other f.agrees.waits);
      }

  recall_it : (p : Parked) (w : Work) (f : Fo w) (o : Option Lease) → find (holds_wanted p) w.ledger.live ≡ o → p.tenure ≡ true → Fo (recall o w)
  recall_it p w f None e t = f
  recall_it p w f (Some h) e t =
      let r = find_some (holds_wanted p) w.ledger.live h e in
      let g = f.agrees.live_made h r.0 in
      let wanted = from_any (λ (v : Want). has_slot h.slots (only_slot v.folder)) (leased_wants p.tenure p.wants) r.1 in
      let has : Has g.0 (only_slot wanted.0.folder) = has_lease g.0 (only_slot wanted.0.folder) (subst (λ (z : Lease). has_slot z.slots (only_slot wanted.0.folder) ≡ true) (sym g.2) wanted.2) in
      let shared : is_shared wanted.0.folder.mode ≡ true = (from_filter wants_shared wanted.0 p.wants (subst (λ b. In wanted.0 (leased_wants b p.wants)) t wanted.1)).1 in
      let tenure : is_tenure g.0.kind ≡ true = (sound_at w f).tenures g.0 (only_slot wanted.0.folder) g.1.0 has shared in
      say_it (told.Recall h.node h.life h.ticket) w f (subst (λ (z : Lease). Says k.empty pool f.machine (told.Recall z.node z.life z.ticket)) g.2 (Says_recall g.0 g.1 tenure))

  recalls_it : (b : Bool) (p : Parked) (w : Work) (f : Fo w) → (b ≡ true → p.tenure ≡ true) → Fo (recalls b p w)
  recalls_it false p w f t = f
  recalls_it true p w f t = recall_it p w f (find (holds_wanted p) w.ledger.live) refl (t refl)

  recall-ledger : (o : Option Lease) (w : Work) → (recall o w).ledger ≡ w.ledger
  recall-ledger None w = refl
  recall-ledger (Some h) w = refl

  recalls-ledger : (b : Bool) (p : Parked) (w : Work) → (recalls b p w).ledger ≡ w.ledger
  recalls-ledger false p w = refl
  recalls-ledger true p w = recall-ledger (find (holds_wanted p) w.ledger.live) w

  -- an ask without a lease joins the parked ones
  park_it : (p : Parked) (ps : List Parked) (w : Work) (f : Fo w) → w.ledger.parked ≡ ps → In (acquire p.node p.life p.ask p.wants p.tenure) pool → w.ledger.gone p.node.0 ≡ false → p.life.0 ≤ w.ledger.lives p.node.0 → NoLease w.ledger.live p → is_parked ps p.node p.life p.ask ≡ false → Fo (parks (ps ++ p ∷ []) w)
  park_it p ps w f same asked here le none other =
      let b : Machine = f.machine in
      let at : b.parked ≡ ps = sym f.agrees.parked ∙ same in
      let next : Machine = record b { parked = ps ++ p ∷ [] } in
      let step : Step k.empty pool b next = subst (λ l. Step k.empty pool b (record b { parked = l ++ p ∷ [] })) at (Parks p asked (λ g l same. no_grant k.empty b w.ledger p (core_at w f) none g l same)) in
      let core = core_at w f in
      record {
        machine = next;
        works = Goes_on b next w.sends f.works step;
        ended = f.ended;
        granted = f.granted;
        agrees = agrees_from k.empty pool next (record w.ledger { parked = ps ++ p ∷ [] })
            (record { live_made = core.live_made; live_kept = core.live_kept; retired_made = core.retired_made; retired_kept = core.retired_kept; lines = core.lines; last = core.last; ceiling = core.ceiling; block = core.block; seen = core.seen; old_home = core.old_home; gone = core.gone; lives = core.lives })
            refl
            (λ q i. elim (in_append q ps (p ∷ []) i) [ inl j ↦ f.agrees.asked q (subst (In q) (sym same) j) | inr j ↦ subst (λ (z : Parked). In (acquire z.node z.life z.ask z.wants z.tenure) pool × (w.ledger.gone z.node.0 ≡ false) × (z.life.0 ≤ w.ledger.lives z.node.0)) (sym (in_one q p j)) (asked, here, le) ])
            (waits_push w.ledger.live ps p (subst (Waits w.ledger.live) same f.agrees.waits) none other);
      }

  decided_it : (d : Decision) (p : Parked) (w : Work) (f : Fo w) → In (acquire p.node p.life p.ask p.wants p.tenure) pool → w.ledger.gone p.node.0 ≡ false → p.life.0 ≤ w.ledger.lives p.node.0 → NoLease w.ledger.live p → is_parked w.ledger.parked p.node p.life p.ask ≡ false → decision k w.ledger p ≡ d → Fo (decided k d p w)
  decided_it Give p w f asked here le none other e = note_it (note.Granted (grant_of k.empty w.ledger.line (lease_for k w.ledger p))) (gives k p w) (give_it p w f asked here le none other e)
  decided_it (Deny why) p w f asked here le none other e = note_it (note.Denied why) (denies why p w) (say_it (told.Denied p.node p.life p.ask why) w f (Says_denied p.node p.life p.ask why p.wants p.tenure asked))
  decided_it Wait p w f asked here le none other e =
      let b : Bool = p.tenure && not (elsewhere w.ledger p) in
      let v : Work = recalls b p w in
      let same : v.ledger ≡ w.ledger = recalls-ledger b p w in
      let g = recalls_it b p w f (λ t. (and_parts p.tenure (not (elsewhere w.ledger p)) t).0) in
      note_it note.Parked (parks (w.ledger.parked ++ p ∷ []) v)
      (park_it p w.ledger.parked v g (ap (λ (z : Ledger). z.parked) same) asked (subst (λ (z : Ledger). z.gone p.node.0 ≡ false) (sym same) here) (subst (λ (z : Ledger). p.life.0 ≤ z.lives p.node.0) (sym same) le) (subst (λ (z : Ledger). NoLease z.live p) (sym same) none) other)

  acquiring_it : (o : Option Lease) (b : Bool) (p : Parked) (w : Work) (f : Fo w) → In (acquire p.node p.life p.ask p.wants p.tenure) pool → w.ledger.gone p.node.0 ≡ false → p.life.0 ≤ w.ledger.lives p.node.0 → lease_of w.ledger.live p.node p.life p.ask ≡ o → is_parked w.ledger.parked p.node p.life p.ask ≡ b → Fo (acquiring k o b p w)
  acquiring_it (Some h) b p w f asked here le e i =
      let r = find_some (is_of p.node p.life p.ask) w.ledger.live h e in
      note_it (note.GrantedBefore (grant_of k.empty w.ledger.line h)) (says (told.Granted (grant_of k.empty w.ledger.line h)) w)
      (say_it (told.Granted (grant_of k.empty w.ledger.line h)) w f (grant_says k fits pool m sound sent P w f h r.0))
  acquiring_it None true p w f asked here le e i = note_it note.Parked w f
  acquiring_it None false p w f asked here le e i = decided_it (decision k w.ledger p) p w f asked here le (no_lease_from w.ledger.live p e) i refl

  -- ---- ends of leases

  abbrev pub picks : (Lease → Bool) → Grant → Bool
  picks test g = test (lease_from g)

  -- the ledger without the leases that `test` picks, whose grants all end so, without a version
  bulk_core : (test : Lease → Bool) (y : Ending) (b : Machine) (q : Ledger) (e : ℕ → Option Ending) (retired' : Slot → Bool) → Sound k.empty b → Core k.empty b q → EndsThose b.ending e (picks test) y b.made → Bare y
      → ((s : Slot) → retired' s ≡ true → Retired (record b { ending = e }) s) → ((s : Slot) → Retired (record b { ending = e }) s → retired' s ≡ true)
      → Core k.empty (record b { ending = e }) (record q { live = filter (λ h. not (test h)) q.live; retired = retired' })
  bulk_core test y b q e retired' sound core ends bare made kept = record {
    live_made = λ h i. (let r = from_filter (λ (z : Lease). not (test z)) h q.live i in
        let g = core.live_made h r.0 in
        (g.0, live_after k.empty b sound e (picks test) y ends g.0 g.1 (subst (λ z. test z ≡ false) (sym g.2) (not-true (test h) r.1)), g.2));
    live_kept = λ g l. (let r = still_live k.empty b sound e (picks test) y ends g l in
        in_filter (λ (z : Lease). not (test z)) (lease_from g) q.live (core.live_kept g r.0) (ap not r.1));
    retired_made = made;
    retired_kept = kept;
    lines = λ s. core.lines s ∙ sym (ended_line k.empty b sound e (picks test) y ends bare s);
    last = core.last;
    ceiling = core.ceiling;
    block = core.block;
    seen = λ h i. core.seen h (from_filter (λ (z : Lease). not (test z)) h q.live i).0;
    old_home = core.old_home;
    gone = core.gone;
    lives = core.lives;
  }

  end_all : (test : Lease → Bool) (y : Ending) (w : Work) (f : Fo w) → ((e : ℕ → Option Ending) (g : Grant) → In (Granted g) f.machine.made → picks test g ≡ true → MayEnd pool (record f.machine { ending = e }) g y)
      → (e : ℕ → Option Ending) × Works k.empty pool m (record f.machine { ending = e }) w.sends × EndsThose f.machine.ending e (picks test) y f.machine.made
  end_all test y w f may = end_those k.empty pool m f.machine w.sends f.works (picks test) y may f.machine.made (λ x i. i)

  pub less_live : (test : Lease → Bool) (live : List Lease) (g : Lease) → In g (filter (λ h. not (test h)) live) → In g live
  less_live test live g i = (from_filter (λ (h : Lease). not (test h)) g live i).0

  -- an end that retires nothing
  pub plain_ends : (is : (ℕ → Option Ending) → Type 0) (test : Lease → Bool) (y : Ending) (changed : Bool) (w : Work) (f : Fo w) → Bare y → y ≢ Withdrawn
      → ((e : ℕ → Option Ending) (g : Grant) → In (Granted g) f.machine.made → picks test g ≡ true → MayEnd pool (record f.machine { ending = e }) g y)
      → ((e : ℕ → Option Ending) → EndsThose f.machine.ending e (picks test) y f.machine.made → is e)
      → F k fits pool m sound sent is (record w { ledger = record w.ledger { live = filter (λ h. not (test h)) w.ledger.live }; changed = changed })
  plain_ends is test y changed w f bare other may so =
      let r = end_all test y w f may in
      let b : Machine = f.machine in
      let sound' = sound_at w f in
      let core = core_at w f in
      record {
        machine = record b { ending = r.0 };
        works = r.1;
        ended = so r.0 r.2;
        granted = f.granted;
        agrees = agrees_from k.empty pool (record b { ending = r.0 }) (record w.ledger { live = filter (λ h. not (test h)) w.ledger.live })
            (bulk_core test y b w.ledger r.0 w.ledger.retired sound' core r.2 bare
            (λ s t. retired_stays k.empty b sound' r.0 (picks test) y r.2 s (core.retired_made s t))
            (λ s t. elim (retired_before k.empty b sound' r.0 (picks test) y r.2 s t) [ inl old ↦ core.retired_kept s old | inr new ↦ absurd (other new.0) ]))
            f.agrees.parked f.agrees.asked
            (waits_less w.ledger.live (filter (λ h. not (test h)) w.ledger.live) w.ledger.parked (less_live test w.ledger.live) f.agrees.waits);
      }

  -- withdrawals, which retire the PRIVATE slots
  pub withdrawn_ends : (is : (ℕ → Option Ending) → Type 0) (test : Lease → Bool) (changed : Bool) (retired' : Slot → Bool) (w : Work) (f : Fo w) → ((g : Grant) → Live f.machine g → picks test g ≡ true → is_tenure g.kind ≡ false)
      → ((s : Slot) → retired' s ≡ true → (w.ledger.retired s ≡ true) ⊎ ((is_private s.folder.mode ≡ true) × ((h : Lease) × In h w.ledger.live × (test h ≡ true) × (has_slot h.slots s ≡ true))))
      → ((s : Slot) → w.ledger.retired s ≡ true → retired' s ≡ true)
      → ((s : Slot) (h : Lease) → is_private s.folder.mode ≡ true → In h w.ledger.live → test h ≡ true → has_slot h.slots s ≡ true → retired' s ≡ true)
      → ((e : ℕ → Option Ending) → EndsThose f.machine.ending e (picks test) Withdrawn f.machine.made → is e)
      → F k fits pool m sound sent is (record w { ledger = record w.ledger { live = filter (λ h. not (test h)) w.ledger.live; retired = retired' }; changed = changed })
  withdrawn_ends is test changed retired' w f plain made old new so =
      let b : Machine = f.machine in
      let sound' = sound_at w f in
      let core = core_at w f in
      let tenure_free : (g : Grant) → Live b g → picks test g ≡ true → is_tenure g.kind ≡ false = plain in
      let r = end_live_withdrawn b (picks test) w.sends f.works tenure_free in
      record {
        machine = record b { ending = r.0 };
        works = r.1;
        ended = so r.0 r.2;
        granted = f.granted;
        agrees = agrees_from k.empty pool (record b { ending = r.0 }) (record w.ledger { live = filter (λ h. not (test h)) w.ledger.live; retired = retired' })
            (bulk_core test Withdrawn b w.ledger r.0 retired' sound' core r.2 bare_withdrawn
            (λ s t. elim (made s t) [
              | inl was ↦ retired_stays k.empty b sound' r.0 (picks test) Withdrawn r.2 s (core.retired_made s was)
              | inr h ↦ (let g = core.live_made h.1.0 h.1.1 in
                  retired_now k.empty b sound' r.0 (picks test) Withdrawn r.2 g.0 s refl g.1 (subst (λ z. test z ≡ true) (sym g.2) h.1.2) (has_lease g.0 s (subst (λ (z : Lease). has_slot z.slots s ≡ true) (sym g.2) h.1.3)) h.0)
            ])
            (λ s t. elim (retired_before k.empty b sound' r.0 (picks test) Withdrawn r.2 s t) [
              | inl was ↦ old s (core.retired_kept s was)
              | inr g ↦ new s (lease_from g.1.0) g.1.4 (core.live_kept g.1.0 g.1.1) g.1.2 (lease_has g.1.0 s g.1.3)
            ]))
            f.agrees.parked f.agrees.asked
            (waits_less w.ledger.live (filter (λ h. not (test h)) w.ledger.live) w.ledger.parked (less_live test w.ledger.live) f.agrees.waits);
      }
    where
      -- only live grants are ended, and none of these is a tenure
      end_live_withdrawn : (b : Machine) (test : Grant → Bool) (sends : List FromCoord) → Works k.empty pool m b sends → ((g : Grant) → Live b g → test g ≡ true → is_tenure g.kind ≡ false)
          → (e : ℕ → Option Ending) × Works k.empty pool m (record b { ending = e }) sends × EndsThose b.ending e test Withdrawn b.made
      end_live_withdrawn b test sends works plain =
          let r = end_those k.empty pool m b sends works (λ g. test g && not (is_tenure g.kind)) Withdrawn (λ e g i t. not-true (is_tenure g.kind) (and_parts (test g) (not (is_tenure g.kind)) t).1) b.made (λ x i. i) in (
            r.0,
            r.1,
            record {
              done = λ g i t e. (let free : is_tenure g.kind ≡ false = plain g (i, e) t in r.2.done g i (rw (t, free) refl) e);
              only = λ t. elim (r.2.only t) [ inl e ↦ inl e | inr q ↦ inr (q.0, q.1, (and_parts (test q.0) (not (is_tenure q.0.kind)) q.2).0, q.3, q.4, q.5) ];
            },
          )

  -- ---- Commit and Release

  pub lease_of_ticket : (w : Work) (f : Fo w) (t : Ticket) (h : Lease) → lease_under w.ledger.live t ≡ Some h → In h w.ledger.live × (h.ticket ≡ t)
  lease_of_ticket w f t h e = (let r = find_some (has_ticket t) w.ledger.live h e in (r.0, ticket_is h.ticket t (eqb-true h.ticket.0 t.0 r.1)))

  its_is : (n : NodeId) (l : Life) (h : Lease) → is_its n l h ≡ true → (h.node ≡ n) × (h.life ≡ l)
  its_is n l h e = (let b = and_parts (eqb h.node.0 n.0) (eqb h.life.0 l.0) e in (node_is h.node n (eqb-true h.node.0 n.0 b.0), life_is h.life l (eqb-true h.life.0 l.0 b.1)))

  -- a grant of the ticket that a message of a node names is that node's
  pub same_ticket : (b : Machine) (g h : Grant) → Sound k.empty b → Live b g → Live b h → g.ticket ≡ h.ticket → g ≡ h
  same_ticket b g h s l l' e = same_grant k.empty b s g h l.0 l'.0 (ap (λ (t : Ticket). t.0) e)

  -- the lease ends Committed, and each line gets its version
  pub commit_it : (is : (ℕ → Option Ending) → Type 0) (n : NodeId) (l : Life) (t : Ticket) (news : List News) (w : Work) (f : Fo w) (h : Lease) → In (commit n l t news) pool → lease_under w.ledger.live t ≡ Some h → may_commit n l news (Some h) ≡ true
      → ((e : ℕ → Option Ending) → EndsThose f.machine.ending e (picks (has_ticket t)) (Committed news) f.machine.made → is e) → F k fits pool m sound sent is (commits t news w)
  commit_it is n l t news w f h asked e may so =
      let r = lease_of_ticket w f t h e in
      let g = f.agrees.live_made h r.0 in
      let b1 = and_parts (is_its n l h && slots_eq (slots_of news) (writable_slots h.slots)) (not (is_nil news)) may in
      let b2 = and_parts (is_its n l h) (slots_eq (slots_of news) (writable_slots h.slots)) b1.0 in
      let its = its_is n l h b2.0 in
      let ticket : g.0.ticket ≡ t = ap (λ (z : Lease). z.ticket) g.2 ∙ r.1 in
      let node : g.0.node ≡ n = ap (λ (z : Lease). z.node) g.2 ∙ its.0 in
      let life : g.0.life ≡ l = ap (λ (z : Lease). z.life) g.2 ∙ its.1 in
      let slots : slots_of news ≡ written g.0.slots =
      slots_eq_is (slots_of news) (writable_slots h.slots) b2.1 ∙ ap (λ (z : Lease). writable_slots z.slots) (sym g.2) ∙ writable-from g.0.slots in
      let message : In (commit g.0.node g.0.life g.0.ticket news) pool =
      subst (λ (z : NodeId). In (commit z g.0.life g.0.ticket news) pool) (sym node) (subst (λ (z : Life). In (commit n z g.0.ticket news) pool) (sym life) (subst (λ (z : Ticket). In (commit n l z news) pool) (sym ticket) asked)) in
      let b : Machine = f.machine in
      let core = core_at w f in
      let sound' = sound_at w f in
      let y : Ending = Committed news in
      let next : Machine = record b { ending = put g.0.ticket.0 (Some y) b.ending } in
      let step : Step k.empty pool b next = Ends g.0 y g.1 (message, slots, is_nil_is news (not-true (is_nil news) b1.1)) in
      let other : (x : Grant) → Live b x → has_ticket t (lease_from x) ≡ false → x.ticket.0 ≢ g.0.ticket.0 =
      λ x lx free q. eqb-false x.ticket.0 t.0 free (q ∙ ap (λ (z : Ticket). z.0) ticket) in
      record {
        machine = next;
        works = Goes_on b next w.sends f.works step;
        granted = f.granted;
        ended = so next.ending (those_put k.empty b sound' g.0 y (picks (has_ticket t)) g.1 (ap (λ (z : Ticket). eqb g.0.ticket.0 z.0) (sym ticket) ∙ eqb_same g.0.ticket.0)
            (λ x i z. eqb-true x.ticket.0 t.0 z ∙ ap (λ (z : Ticket). z.0) (sym ticket)));
        agrees = agrees_from k.empty pool next (commits t news w).ledger
            (record {
              live_made = λ x i. (let q = from_filter (λ (z : Lease). not (has_ticket t z)) x w.ledger.live i in
                  let o = core.live_made x q.0 in
                  let free : has_ticket t (lease_from o.0) ≡ false = subst (λ z. has_ticket t z ≡ false) (sym o.2) (not-true (has_ticket t x) q.1) in
                  (o.0, (o.1.0, put_other g.0.ticket.0 (Some y) b.ending o.0.ticket.0 (other o.0 o.1 free) ∙ o.1.1), o.2));
              live_kept = λ x lx. elim (cases_eq x.ticket.0 g.0.ticket.0) [
                | inl q ↦ none_some y (sym lx.1 ∙ ap (put g.0.ticket.0 (Some y) b.ending) q ∙ put_same g.0.ticket.0 (Some y) b.ending)
                | inr ne ↦ (let was : Live b x = (lx.0, sym (put_other g.0.ticket.0 (Some y) b.ending x.ticket.0 ne) ∙ lx.1) in
                    in_filter (λ (z : Lease). not (has_ticket t z)) (lease_from x) w.ledger.live (core.live_kept x was)
                    (ap not (ne_eqb x.ticket.0 t.0 (λ q. ne (q ∙ sym (ap (λ (z : Ticket). z.0) ticket))))))
              ];
              retired_made = λ s i. (let o = core.retired_made s i in (
                o.0,
                (
                  o.1.0,
                  o.1.1,
                  elim (cases_eq o.1.0.ticket.0 g.0.ticket.0) [
                    | inl q ↦ none_some Withdrawn (sym g.1.1 ∙ sym (ap b.ending q) ∙ o.1.2)
                    | inr ne ↦ put_other g.0.ticket.0 (Some y) b.ending o.1.0.ticket.0 ne ∙ o.1.2
                  ],
                  o.1.3,
                ),
              ));
              retired_kept = λ s o. core.retired_kept s (
                o.0,
                (
                  o.1.0,
                  o.1.1,
                  elim (cases_eq o.1.0.ticket.0 g.0.ticket.0) [
                    | inl q ↦ (let bad : Some y ≡ Some Withdrawn = sym (put_same g.0.ticket.0 (Some y) b.ending) ∙ sym (ap (put g.0.ticket.0 (Some y) b.ending) q) ∙ o.1.2 in absurd (wrong (some_is y Withdrawn bad)))
                    | inr ne ↦ sym (put_other g.0.ticket.0 (Some y) b.ending o.1.0.ticket.0 ne) ∙ o.1.2
                  ],
                  o.1.3,
                ),
              );
              lines = λ s. ap (λ v. v ++ version_of t (digest_for s news)) (core.lines s)
                  ∙ ap (λ z. line k.empty b s ++ version_of z (digest_for s news)) (sym ticket)
                  ∙ sym (line-end k.empty s b.ending g.0 y b.made (b.last + 1) sound'.order sound'.apart sound'.laws slots g.1.1 g.1.0);
              last = core.last;
              ceiling = core.ceiling;
              block = core.block;
              seen = λ h i. core.seen h (from_filter (λ (z : Lease). not (has_ticket t z)) h w.ledger.live i).0;
              old_home = core.old_home;
              gone = core.gone;
              lives = core.lives;
            })
            f.agrees.parked f.agrees.asked
            (waits_less w.ledger.live (without t w.ledger.live) w.ledger.parked (less_live (has_ticket t) w.ledger.live) f.agrees.waits);
      }
    where
      wrong : Committed news ≡ Withdrawn → ⊥
      wrong q = (let bad : Committed news ≡ Withdrawn = q in cc)

  confirm_it : (n : NodeId) (l : Life) (t : Ticket) (x : News) (xs : List News) (w : Work) (f : Fo w) → In (commit n l t (x ∷ xs)) pool → is_some (place_on_line t (w.ledger.line x.slot) 0) ≡ true → Fo (confirms n l t (x ∷ xs) w)
  confirm_it n l t x xs w f asked on =
      let vs : List Confirmed = versions_of w.ledger.line t (x ∷ xs) in
      let stand : (v : Confirmed) → In v vs → Stands k.empty f.machine t v = versions_stand k.empty f.machine w.ledger.line (core_at w f).lines t (x ∷ xs) in
      let some : vs ≢ [] = versions_some k.empty f.machine w.ledger.line (core_at w f).lines t x xs on in
      say_it (told.Committed n l t vs) w f (Says_committed n l t (x ∷ xs) vs asked stand some)

  -- after a commit the ticket is on the line of each of its slots
  now_on : (t : Ticket) (x : News) (xs : List News) (line' : Slot → List LineVersion) → is_some (place_on_line t (line' x.slot ++ version_of t (digest_for x.slot (x ∷ xs))) 0) ≡ true
  now_on t x xs line' =
      let d = digest_found x xs in
      let v : LineVersion = record { ticket = t; digest = d.0 } in
      let i : In v (line' x.slot ++ version_of t (digest_for x.slot (x ∷ xs))) = in_right v (line' x.slot) (version_of t (digest_for x.slot (x ∷ xs))) (subst (λ o. In v (version_of t o)) (sym d.1) (inl refl)) in
      let r = place_found t (line' x.slot ++ version_of t (digest_for x.slot (x ∷ xs))) 0 v i refl in
      ap is_some r.1

  answered_it : (b : Bool) (n : NodeId) (l : Life) (t : Ticket) (news : List News) (w : Work) (f : Fo w) → In (commit n l t news) pool → may_commit n l news (lease_under w.ledger.live t) ≡ false → (not (is_nil news) && on_all w.ledger.line t news) ≡ b → Fo (answered b n l t news w)
  answered_it true n l t [] w f asked may e = (let bad : false ≡ true = e in cc)
  answered_it true n l t (x ∷ xs) w f asked may e =
      note_it (note.CommittedBefore t) (confirms n l t (x ∷ xs) w) (confirm_it n l t x xs w f asked (and_parts (is_some (place_on_line t (w.ledger.line x.slot) 0)) (on_all w.ledger.line t xs) e).0)
  answered_it false n l t news w f asked may e =
      let refused : (g : Grant) → Live f.machine g → (g.ticket ≡ t) → (g.node ≡ n) → (g.life ≡ l) → (slots_of news ≡ written g.slots) → (news ≢ []) → ⊥ =
      λ g live ticket node life slots some.
      (let i = f.agrees.live_kept g live in
      let ht : has_ticket t (lease_from g) ≡ true = subst (λ (z : Ticket). eqb g.ticket.0 z.0 ≡ true) ticket (eqb_same g.ticket.0) in
      let found = find_in (has_ticket t) w.ledger.live (lease_from g) i ht in
      let o = lease_of_ticket w f t found.0 found.1 in
      let og = f.agrees.live_made found.0 o.0 in
      let same : og.0 ≡ g = same_ticket f.machine og.0 g (sound_at w f) og.1 live (ap (λ (z : Lease). z.ticket) og.2 ∙ o.1 ∙ sym ticket) in
      let is : found.0 ≡ lease_from g = sym og.2 ∙ ap lease_from same in
      let nodes : eqb g.node.0 n.0 ≡ true = subst (λ (z : NodeId). eqb g.node.0 z.0 ≡ true) node (eqb_same g.node.0) in
      let lifes : eqb g.life.0 l.0 ≡ true = subst (λ (z : Life). eqb g.life.0 z.0 ≡ true) life (eqb_same g.life.0) in
      let eqs : slots_eq (slots_of news) (writable_slots (lease_from g).slots) ≡ true = subst (λ z. slots_eq (slots_of news) z ≡ true) (slots ∙ sym (writable-from g.slots)) (slots_eq_same (slots_of news)) in
      let nil = not_nil news some in
      let yes' : may_commit n l news (Some (lease_from g)) ≡ true = rw (nodes, lifes, eqs, nil) refl in
      true_false (may_commit n l news (lease_under w.ledger.live t)) (ap (may_commit n l news) (found.1 ∙ ap Some is) ∙ yes') may) in
      let off : (news ≢ []) → ((x : News) → In x news → (v : LineVersion) × In v (line k.empty f.machine x.slot) × (v.ticket ≡ t)) → ⊥ =
      λ some all. (let nil = not_nil news some in
      let on : on_all w.ledger.line t news ≡ true = all_on w.ledger.line t news (λ x i. (let v = all x i in (v.0, subst (In v.0) (sym ((core_at w f).lines x.slot)) v.1, v.2))) in
      true_false (not (is_nil news) && on_all w.ledger.line t news) (rw (nil, on) refl) e) in
      note_it (note.Fenced t) (says (told.Fenced n l t) w) (say_it (told.Fenced n l t) w f (Says_fenced n l t news asked refused off))

-- ---- a message, and what it ends

module _ (k : Limits) (fits : k.instances ≤ 4096) (pool : List Message) (m : Machine) (sound : Sound k.empty m) (sent : Sent pool m) (y : ToCoord) where
  -- what is so before the answer, and after one that was told so
  abbrev pub Is : CoordNote → (ℕ → Option Ending) → Type 0
  Is told = Meant m (MessageEnds m y told) told

  abbrev pub At : CoordNote → Work → Type 0
  At told w = F k fits pool m sound sent (Is told) w

  later_at : (told : CoordNote) (w : Work) (f : At told w) → Later k.empty m f.machine
  later_at told w f = (works_sound k.empty pool m f.machine w.sends sound f.works).0

  -- what an answer that is no Committed and no Released ends, any ends
  message_keeps : (told : CoordNote) (g : Grant) (z : Ending) → MessageEnds m y note.Nothing g z → MessageEnds m y told g z
  message_keeps told g z (Of_older_life here newer node older) = Of_older_life here newer node older
  message_keeps told g z (By_commit news r p) = (let bad : note.Nothing ≡ note.Committed g.ticket = p in cc)
  message_keeps told g z (By_release r p) = (let bad : note.Nothing ≡ note.Released g.ticket = p in cc)

  message_quiet : (told : CoordNote) (g : Grant) (z : Ending) → ((t : Ticket) → told ≢ note.Committed t) → ((t : Ticket) → told ≢ note.Released t) → MessageEnds m y told g z → MessageEnds m y note.Nothing g z
  message_quiet told g z c r (Of_older_life here newer node older) = Of_older_life here newer node older
  message_quiet told g z c r (By_commit news q p) = absurd (c g.ticket p)
  message_quiet told g z c r (By_release q p) = absurd (r g.ticket p)

  pub quiet_it : (told : CoordNote) (w : Work) → ((t : Ticket) → told ≢ note.Committed t) → ((t : Ticket) → told ≢ note.Released t) → CoordMeans m told → At note.Nothing w → At told w
  quiet_it told w c r so f = record {
    machine = f.machine;
    works = f.works;
    granted = f.granted;
    ended = (ended_as m (MessageEnds m y note.Nothing) (MessageEnds m y told) f.machine.ending (message_keeps told) (λ g z h. message_quiet told g z c r h) f.ended.0, so);
    agrees = f.agrees;
  }

  -- the live grant that an accepted Commit or Release names, and no other grant has its ticket
  record Named (told : CoordNote) (w : Work) (f : At told w) (t : Ticket) : Type 0 where
    pub grant : Grant
    pub live : Live m grant
    pub ticket : grant.ticket ≡ t
    pub life : grant.life ≡ y.life
    pub one : (g : Grant) → In (Granted g) f.machine.made → eqb g.ticket.0 t.0 ≡ true → g ≡ grant

  -- of the sender's leases none was made in this event
  abbrev pub Mine : Work → Type 0
  Mine w = (h : Lease) → In h w.ledger.live → h.node ≡ y.node → h.life ≡ y.life → (g : Grant) × Live m g × (lease_from g ≡ h)

  -- the grant of the sender's lease
  record Owned (t : Ticket) : Type 0 where
    pub grant : Grant
    pub made : In (Granted grant) m.made
    pub ticket : grant.ticket ≡ t
    pub life : grant.life ≡ y.life

  owned : (told : CoordNote) (w : Work) (f : At told w) → Mine w → (t : Ticket) (h : Lease) → lease_under w.ledger.live t ≡ Some h → is_its y.node y.life h ≡ true → Owned t
  owned told w f mine t h e its =
      let r = lease_of_ticket k fits pool m sound sent (Is told) w f t h e in
      let i = its_is k fits pool m sound sent (Is told) y.node y.life h its in
      let g = mine h r.0 i.0 i.1 in
      record { grant = g.0; made = g.1.0; ticket = ap (λ (z : Lease). z.ticket) g.2 ∙ r.1; life = ap (λ (z : Lease). z.life) g.2 ∙ i.1 }

  named : (told : CoordNote) (w : Work) (f : At told w) (t : Ticket) (h : Lease) (g : Grant) → lease_under w.ledger.live t ≡ Some h → In (Granted g) m.made → g.ticket ≡ t → g.life ≡ y.life → Named told w f t
  named told w f t h g e made ticket life =
      let r = lease_of_ticket k fits pool m sound sent (Is told) w f t h e in
      let x = f.agrees.live_made h r.0 in
      let later = later_at told w f in
      let sound' = sound_at k fits pool m sound sent (Is told) w f in
      let at : x.0.ticket ≡ t = ap (λ (z : Lease). z.ticket) x.2 ∙ r.1 in
      let same : x.0 ≡ g = same_grant k.empty f.machine sound' x.0 g x.1.0 (later.made (Granted g) made) (ap (λ (z : Ticket). z.0) (at ∙ sym ticket)) in
      record {
        grant = g;
        live = was_live k.empty m f.machine g later made (subst (Live f.machine) same x.1);
        ticket = ticket;
        life = life;
        one = λ z i q. same_grant k.empty f.machine sound' z g i (later.made (Granted g) made) (eqb-true z.ticket.0 t.0 q ∙ ap (λ (z : Ticket). z.0) (sym ticket));
      }

  -- the grant that is named ends besides those of older lives
  named_ends : (w : Work) (f : At note.Nothing w) (t : Ticket) (told : CoordNote) (z : Ending) (e : ℕ → Option Ending) → Named note.Nothing w f t
      → EndsThose f.machine.ending e (λ (g : Grant). has_ticket t (lease_from g)) z f.machine.made
      → ((g : Grant) → g.ticket ≡ t → MessageEnds m y told g z)
      → ((g : Grant) (x : Ending) → MessageEnds m y told g x → MessageEnds m y note.Nothing g x ⊎ ((g.ticket ≡ t) × (x ≡ z)))
      → Ended m (MessageEnds m y told) e
  named_ends w f t told z e n those here from =
      let sound' = sound_at k fits pool m sound sent (Is note.Nothing) w f in
      let later = later_at note.Nothing w f in
      let test : Grant → Bool = λ (g : Grant). has_ticket t (lease_from g) in
      ended_more k.empty m f.machine (MessageEnds m y note.Nothing) (MessageEnds m y told) e test z sound' later f.ended.0 those
      (λ g l q. subst (λ (x : Grant). In (Granted x) m.made) (sym (n.one g l.0 q)) n.live.0)
      (λ g l q. here g (ticket_is g.ticket t (eqb-true g.ticket.0 t.0 q)))
      (message_keeps told)
      (λ g x l h. elim (from g x h) [
        | inl old ↦ inl old
        | inr new ↦ inr (subst (λ (u : Ticket). eqb g.ticket.0 u.0 ≡ true) new.0 (eqb_same g.ticket.0), new.1)
      ])
      (λ g x l old q. young g x (ap (λ (u : Grant). u.life) (n.one g (later.made (Granted g) l.0) q) ∙ n.life) old)
    where
      young : (g : Grant) (x : Ending) → g.life ≡ y.life → MessageEnds m y note.Nothing g x → ⊥
      young g x at (Of_older_life here newer node older) = (let same : g.life.0 ≡ y.life.0 = ap (λ (l : Life). l.0) at in absurd (omega arith))
      young g x at (By_commit news r p) = (let bad : note.Nothing ≡ note.Committed g.ticket = p in cc)
      young g x at (By_release r p) = (let bad : note.Nothing ≡ note.Released g.ticket = p in cc)

  -- ---- Commit

  commit_from : (t : Ticket) (news : List News) → y.request ≡ Commit t news → (g : Grant) (x : Ending) → MessageEnds m y (note.Committed t) g x → MessageEnds m y note.Nothing g x ⊎ ((g.ticket ≡ t) × (x ≡ Committed news))
  commit_from t news at g x (Of_older_life here newer node older) = inl (Of_older_life here newer node older)
  commit_from t news at g x (By_commit news' r p) = (let same : Commit t news ≡ Commit g.ticket news' = sym at ∙ r in
      let one : news' ≡ news = cc in
      let ticket : g.ticket ≡ t = cc in
      inr (ticket, ap Committed one))
  commit_from t news at g x (By_release r p) = (let bad : note.Committed t ≡ note.Released g.ticket = p in cc)

  committing_it : (b : Bool) (o : Option Lease) (t : Ticket) (news : List News) (w : Work) (f : At note.Nothing w) → Mine w → y.request ≡ Commit t news → In (commit y.node y.life t news) pool → lease_under w.ledger.live t ≡ o → may_commit y.node y.life news o ≡ b
      → At (committing k b y.node y.life t news w).note (committing k b y.node y.life t news w)
  committing_it true None t news w f mine at asked e may = (let bad : false ≡ true = may in cc)
  committing_it true (Some h) t [] w f mine at asked e may = (let b = and_parts (is_its y.node y.life h && slots_eq (slots_of []) (writable_slots h.slots)) false may in let bad : false ≡ true = b.1 in cc)
  committing_it true (Some h) t (x ∷ xs) w f mine at asked e may =
      let b1 = and_parts (is_its y.node y.life h && slots_eq (slots_of (x ∷ xs)) (writable_slots h.slots)) true may in
      let g = owned note.Nothing w f mine t h e (and_parts (is_its y.node y.life h) (slots_eq (slots_of (x ∷ xs)) (writable_slots h.slots)) b1.0).0 in
      let n = named note.Nothing w f t h g.grant e g.made g.ticket g.life in
      let told : CoordNote = note.Committed t in
      let here : (z : Grant) → z.ticket ≡ t → MessageEnds m y told z (Committed (x ∷ xs)) =
      λ z q. By_commit (x ∷ xs) (at ∙ ap (λ (u : Ticket). Commit u (x ∷ xs)) (sym q)) (ap note.Committed (sym q)) in
      let c = commit_it k fits pool m sound sent (Is note.Nothing) (Is told) y.node y.life t (x ∷ xs) w f h asked e may
      (λ i those. (named_ends w f t told (Committed (x ∷ xs)) i n those here (commit_from t (x ∷ xs) at), (n.grant, n.live, n.ticket))) in
      note_it k fits pool m sound sent (Is told) told (retried k (confirms y.node y.life t (x ∷ xs) (commits t (x ∷ xs) w)))
      (retry k fits pool m sound sent (Is told) (confirms y.node y.life t (x ∷ xs) (commits t (x ∷ xs) w))
      (confirm_it k fits pool m sound sent (Is told) y.node y.life t x xs (commits t (x ∷ xs) w) c asked (now_on k fits pool m sound sent (Is told) t x xs w.ledger.line)))
  committing_it false o t news w f mine at asked e may =
      answered_quiet (not (is_nil news) && on_all w.ledger.line t news) (answered_it k fits pool m sound sent (Is note.Nothing) (not (is_nil news) && on_all w.ledger.line t news) y.node y.life t news w f asked (ap (may_commit y.node y.life news) e ∙ may) refl)
    where
      answered_quiet : (b : Bool) → At note.Nothing (answered b y.node y.life t news w) → At (answered b y.node y.life t news w).note (answered b y.node y.life t news w)
      answered_quiet true f = quiet_it (note.CommittedBefore t) (answered true y.node y.life t news w) (λ u q. (let bad : note.CommittedBefore t ≡ note.Committed u = q in cc)) (λ u q. (let bad : note.CommittedBefore t ≡ note.Released u = q in cc)) tt f
      answered_quiet false f = quiet_it (note.Fenced t) (answered false y.node y.life t news w) (λ u q. (let bad : note.Fenced t ≡ note.Committed u = q in cc)) (λ u q. (let bad : note.Fenced t ≡ note.Released u = q in cc)) tt f

  -- ---- Release

  release_from : (t : Ticket) → y.request ≡ Release t → (g : Grant) (x : Ending) → MessageEnds m y (note.Released t) g x → MessageEnds m y note.Nothing g x ⊎ ((g.ticket ≡ t) × (x ≡ Released))
  release_from t at g x (Of_older_life here newer node older) = inl (Of_older_life here newer node older)
  release_from t at g x (By_commit news r p) = (let bad : note.Released t ≡ note.Committed g.ticket = p in cc)
  release_from t at g x (By_release r p) = (let same : Release t ≡ Release g.ticket = sym at ∙ r in let ticket : g.ticket ≡ t = cc in inr (ticket, refl))

  released_it : (b : Bool) (o : Option Lease) (t : Ticket) (w : Work) (f : At note.Nothing w) → Mine w → w.note ≡ note.Nothing → y.request ≡ Release t → In (release y.node y.life t) pool → lease_under w.ledger.live t ≡ o → may_release y.node y.life o ≡ b
      → At (released k b t o w).note (released k b t o w)
  released_it b None t w f mine quiet at asked e may = subst (λ n. At n w) (sym quiet) f
  released_it false (Some h) t w f mine quiet at asked e may = subst (λ n. At n w) (sym quiet) f
  released_it true (Some h) t w f mine quiet at asked e may =
      let r = lease_of_ticket k fits pool m sound sent (Is note.Nothing) w f t h e in
      let its = its_is k fits pool m sound sent (Is note.Nothing) y.node y.life h may in
      let g = f.agrees.live_made h r.0 in
      let s = owned note.Nothing w f mine t h e may in
      let n = named note.Nothing w f t h s.grant e s.made s.ticket s.life in
      let told : CoordNote = note.Released t in
      let here : (z : Grant) → z.ticket ≡ t → MessageEnds m y told z Released =
      λ z q. By_release (at ∙ ap Release (sym q)) (ap note.Released (sym q)) in
      note_it k fits pool m sound sent (Is told) told (retried k (ends h w)) (retry k fits pool m sound sent (Is told) (ends h w)
      (plain_ends k fits pool m sound sent (Is note.Nothing) (Is told) (has_ticket h.ticket) Released (w.changed || is_saved h) w f bare_released (λ q. (let bad : Released ≡ Withdrawn = q in cc))
      (λ x z made t'. (let same : z.ticket.0 ≡ g.0.ticket.0 = eqb-true z.ticket.0 h.ticket.0 t' ∙ ap (λ (u : Lease). u.ticket.0) (sym g.2) in
      let one : z ≡ g.0 = same_grant k.empty f.machine (sound_at k fits pool m sound sent (Is note.Nothing) w f) z g.0 made g.1.0 same in
      let is : lease_from z ≡ h = ap lease_from one ∙ g.2 in
      subst (λ (u : Lease). In (release u.node u.life u.ticket) pool) (sym is)
      (subst (λ (u : NodeId). In (release u h.life h.ticket) pool) (sym its.0) (subst (λ (u : Life). In (release y.node u h.ticket) pool) (sym its.1) (subst (λ (u : Ticket). In (release y.node y.life u) pool) (sym r.1) asked)))))
      (λ i those. (named_ends w f t told Released i n (subst (λ (u : Ticket). EndsThose f.machine.ending i (λ (x : Grant). has_ticket u (lease_from x)) Released f.machine.made) r.1 those) here (release_from t at), (n.grant, n.live, n.ticket)))))

  -- ---- Acquire

  acquired_quiet : (o : Option Lease) (b : Bool) (p : Parked) (w : Work) → At note.Nothing (acquiring k o b p w) → At (acquiring k o b p w).note (acquiring k o b p w)
  acquired_quiet (Some h) b p w f = quiet_it (note.GrantedBefore (grant_of k.empty w.ledger.line h)) (acquiring k (Some h) b p w) (λ u q. (let bad : note.GrantedBefore (grant_of k.empty w.ledger.line h) ≡ note.Committed u = q in cc)) (λ u q. (let bad : note.GrantedBefore (grant_of k.empty w.ledger.line h) ≡ note.Released u = q in cc)) tt f
  acquired_quiet None true p w f = quiet_it note.Parked (acquiring k None true p w) (λ u q. (let bad : note.Parked ≡ note.Committed u = q in cc)) (λ u q. (let bad : note.Parked ≡ note.Released u = q in cc)) tt f
  acquired_quiet None false p w f = decided_quiet (decision k w.ledger p) f
    where
      decided_quiet : (d : Decision) → At note.Nothing (decided k d p w) → At (decided k d p w).note (decided k d p w)
      decided_quiet Give f = (let g : Grant = grant_of k.empty w.ledger.line (lease_for k w.ledger p) in quiet_it (note.Granted g) (decided k Give p w) (λ u q. (let bad : note.Granted g ≡ note.Committed u = q in cc)) (λ u q. (let bad : note.Granted g ≡ note.Released u = q in cc)) tt f)
      decided_quiet (Deny why) f = quiet_it (note.Denied why) (decided k (Deny why) p w) (λ u q. (let bad : note.Denied why ≡ note.Committed u = q in cc)) (λ u q. (let bad : note.Denied why ≡ note.Released u = q in cc)) tt f
      decided_quiet Wait f = quiet_it note.Parked (decided k Wait p w) (λ u q. (let bad : note.Parked ≡ note.Committed u = q in cc)) (λ u q. (let bad : note.Parked ≡ note.Released u = q in cc)) tt f

  -- a message of the life that is now the greatest
  answering_by : (r : Request) (w : Work) (f : At note.Nothing w) → Mine w → w.note ≡ note.Nothing → y.request ≡ r → In (Said (record { node = y.node; life = y.life; request = r })) pool → w.ledger.gone y.node.0 ≡ false → y.life.0 ≤ w.ledger.lives y.node.0
      → At (answering k y.node y.life r w).note (answering k y.node y.life r w)
  answering_by Hello w f mine quiet at asked here le = subst (λ n. At n w) (sym quiet) f
  answering_by (Acquire a wants tenure) w f mine quiet at asked here le =
      let p : Parked = record { node = y.node; life = y.life; ask = a; wants = wants; tenure = tenure } in
      acquired_quiet (lease_of w.ledger.live y.node y.life a) (is_parked w.ledger.parked y.node y.life a) p w
      (acquiring_it k fits pool m sound sent (Is note.Nothing) (lease_of w.ledger.live y.node y.life a) (is_parked w.ledger.parked y.node y.life a) p w f asked here le refl refl)
  answering_by (Commit t news) w f mine quiet at asked here le = committing_it (may_commit y.node y.life news (lease_under w.ledger.live t)) (lease_under w.ledger.live t) t news w f mine at asked refl refl
  answering_by (Release t) w f mine quiet at asked here le = released_it (may_release y.node y.life (lease_under w.ledger.live t)) (lease_under w.ledger.live t) t w f mine quiet at asked refl refl

  pub answering_it : (w : Work) (f : At note.Nothing w) → Mine w → w.note ≡ note.Nothing → In (Said y) pool → w.ledger.gone y.node.0 ≡ false → y.life.0 ≤ w.ledger.lives y.node.0 → At (answering k y.node y.life y.request w).note (answering k y.node y.life y.request w)
  answering_it w f mine quiet asked here le = answering_by y.request w f mine quiet refl asked here le
