-- What the invariant says of a world.
use Rattle.std.proofs.Common.{◌≡◌, ◌≢◌, ℕ, ◌+◌, ◌<◌, List, [], ◌∷◌, ◌++◌, Bool, true, not, eqb, map, Option, Some, None, slice_get, refl, sym, ◌∙◌, ap, subst, inl, inr, arith, append-nil}
use Rattle.std.proofs.lemmas.Bool.{cases_Bool, cases_order}
use Rattle.std.proofs.lemmas.Bool.Decides.{nat_tests}
use Rattle.farm_base.specs.Kinds.{is_tenure}
use Rattle.protocol.specs.Lists.{In, nth}
use Rattle.protocol.specs.Names.{Mode, Shared, Slot, IsInstance, is_alone, wants_shared, only_slot, Digest, NodeId, Life, Ticket, Want, FolderName, leased_wants, tenure_wants}
use Rattle.protocol.specs.Machine.{Grant, News, LineVersion, Confirmed, Ending, Committed, Released, Withdrawn, Died, Made, Granted, Pruned, ticket_of, AnswersAsk, want_of, Told, Has, added, line, line_of, version_at, Names, Stands}
use Rattle.farm_base.specs.declared.message.FromCoord.TheVariants as told
use Rattle.protocol.specs.World.{KeptAsk, Running, World, start}
use Rattle.protocol.specs.Safe.{InUse, HoldsContent, IsWithdrawn, OnALine, Rising, Falling, Safe, EveryRunIsSafe, EveryRunStaysSafe}
use Rattle.lists.proofs.Places.{cases_list}
use Rattle.protocol.proofs.Base.{in_one, in_append, from_map, get_in, some_is, slot_path}
use Rattle.protocol.proofs.Lines.{Below, below_in, one_made, line_source, added_ticket, added_cases_one}
use Rattle.protocol.proofs.Steps.{names_later, same_grant, older_gone, live_apart}
use Rattle.protocol.proofs.Invariant.{spent, Spent, Its, Fate, Inv}
use Rattle.protocol.proofs.Worlds.{Onward, moves_inv, start_whole}

falling : (xs : List Made) (b : ℕ) → Below xs b → Falling xs
falling [] b h = tt
falling (x ∷ xs) b h = (λ y i. below_in xs (ticket_of x) y h.1 i, falling xs (ticket_of x) h.1)

rising_push : (vs : List LineVersion) (v : LineVersion) → Rising vs → ((x : LineVersion) → In x vs → x.ticket.0 < v.ticket.0) → Rising (vs ++ v ∷ [])
rising_push [] v h all = (λ x i. absurd i, tt)
rising_push (u ∷ us) v h all = (
  λ x i. elim (in_append x us (v ∷ []) i) [
    | inl old ↦ h.0 x old
    | inr new ↦ subst (λ (z : LineVersion). u.ticket.0 < z.ticket.0) (sym (in_one x v new)) (all u (inl refl))
  ],
  rising_push us v h.1 (λ x i. all x (inr i)),
)

pub line_rising : (empty : Digest) (s : Slot) (e : ℕ → Option Ending) (xs : List Made) (b : ℕ) → Below xs b → Rising (line_of empty s e xs)
line_rising empty s e [] b h = tt
line_rising empty s e (x ∷ xs) b h =
    let rest : Rising (line_of empty s e xs) = line_rising empty s e xs (ticket_of x) h.1 in
    elim (added_cases_one empty s e x) [
      | inl q ↦ subst Rising (sym (ap (λ v. line_of empty s e xs ++ v) q ∙ append-nil (line_of empty s e xs))) rest
      | inr d ↦ subst (λ v. Rising (line_of empty s e xs ++ v)) (sym d.2)
          (rising_push (line_of empty s e xs) d.0 rest
          (λ v i. (let r = line_source empty s e v xs i in
          let lt : ticket_of r.0 < ticket_of x = below_in xs (ticket_of x) r.0 h.1 r.1 in
          let same : v.ticket.0 ≡ ticket_of r.0 = added_ticket empty s e r.0 v r.2 in
          let at : d.0.ticket.0 ≡ ticket_of x = d.1 in
          omega arith)))
    ]

-- a version has one digest on one line
pub one_digest : (empty : Digest) (vs : List LineVersion) (k : ℕ) (d d' : Digest) → Names empty vs k d → Names empty vs k d' → d ≡ d'
one_digest empty vs k d d' (inl h) (inl h') = h.1 ∙ sym h'.1
one_digest empty vs k d d' (inl h) (inr h') = (let a : k ≡ 0 = h.0 in let b : k ≡ h'.0 + 1 = h'.2 in absurd (omega arith))
one_digest empty vs k d d' (inr h) (inl h') = (let a : k ≡ 0 = h'.0 in let b : k ≡ h.0 + 1 = h.2 in absurd (omega arith))
one_digest empty vs k d d' (inr h) (inr h') =
    let a : k ≡ h.0 + 1 = h.2 in
    let b : k ≡ h'.0 + 1 = h'.2 in
    let same : h'.0 ≡ h.0 = omega arith in
    let at : slice_get vs h.0 ≡ Some h'.1 = subst (λ j. slice_get vs j ≡ Some h'.1) same h'.3 in
    let one : h.1 ≡ h'.1 = some_is h.1 h'.1 (sym h.3 ∙ at) in
    sym h.4 ∙ ap (λ (z : LineVersion). z.digest) one ∙ h'.4

-- what stands on a line was committed or pruned
not_on_line : (s : Slot) (t : Ticket) (o : Option Ending) (y : Ending) (v : LineVersion) → o ≡ Some y → ((news : List News) → y ≢ Committed news) → In v (version_at s t o) → ⊥
not_on_line s t None y v e n i = i
not_on_line s t (Some (Committed news)) y v e n i = n news (let same : Some (Committed news) ≡ Some y = e in cc)
not_on_line s t (Some Released) y v e n i = i
not_on_line s t (Some Withdrawn) y v e n i = i
not_on_line s t (Some Died) y v e n i = i

spent_running : (s : KeptAsk) (wants : List Want) (g : Grant) (r : Bool) → s ≡ Running wants g r → spent s g.ticket.0 ≡ true → ⊥
spent_running s wants g r e h =
    let now : spent (Running wants g r) g.ticket.0 ≡ true = sym (ap (λ z. spent z g.ticket.0) e) ∙ h in
    no_spent_self g.ticket.0 now
  where
    no_spent_self : (t : ℕ) → not (eqb t t) ≡ true → ⊥
    no_spent_self t h = let same : eqb t t ≡ true = grind (arith, nat_tests) in let bad : not true ≡ true = subst (λ b. not b ≡ true) same h in cc

-- the one slot of a tenure
tenure_slot : (g : Grant) (wants : List Want) (v : Want) → AnswersAsk g wants → is_tenure g.kind ≡ true → In v wants → Has g (only_slot v.folder)
tenure_slot g wants v answers t i =
    let f = answers.tenure t in
    let one : v ≡ record { folder = record f.0 { mode = Shared }; writable = true } = in_one v (record { folder = record f.0 { mode = Shared }; writable = true }) (subst (In v) f.1 i) in
    let slots : map want_of g.slots ≡ tenure_wants f.0 = answers.slots ∙ ap (λ b. leased_wants b wants) t ∙ ap (leased_wants true) f.1 in
    let r = from_map want_of v g.slots (subst (In v) (sym slots) (inl one)) in
    let folder : r.0.slot.folder ≡ v.folder = ap (λ (z : Want). z.folder) (sym r.2) in
    let mode : r.0.slot.folder.mode ≡ Shared = ap (λ (z : FolderName). z.mode) folder ∙ ap (λ (z : Want). z.folder.mode) one in
    let instance : r.0.slot.instance ≡ 0 = subst (λ (z : Mode). IsInstance z r.0.slot.instance) mode (answers.instances r.0 r.1) in
    (r.0, r.1, slot_path r.0.slot (only_slot v.folder) folder instance)

module _ (sha : List ℕ → Digest) (w : World) (inv : Inv sha w) where
  in_use_ok : (n : NodeId) (g : Grant) (ws : List Want) (u : InUse w n g ws) → Its w.machine n (w.nodes n.0).life u.0 g × AnswersAsk g ws
  in_use_ok n g ws u = (inv.nodes n).states u.0 (Running ws g u.1) u.2

  in_use_its : (n : NodeId) (g : Grant) (ws : List Want) (u : InUse w n g ws) → Its w.machine n (w.nodes n.0).life u.0 g
  in_use_its n g ws u = (in_use_ok n g ws u).0

  -- an execution isn't spent
  pub in_use_unspent : (n : NodeId) (g : Grant) (ws : List Want) → InUse w n g ws → Spent (w.nodes n.0) g → ⊥
  in_use_unspent n g ws u s =
      let its = in_use_its n g ws u in
      let life : g.life.0 ≡ (w.nodes n.0).life.0 = ap (λ (z : Life). z.0) its.2 in
      elim s [
        | inl lt ↦ omega arith
        | inr k ↦ (let is : k.1.0 ≡ Running ws g u.1 = some_is k.1.0 (Running ws g u.1) (sym k.1.1 ∙ ap (nth (w.nodes n.0).asks) its.3 ∙ u.2) in spent_running k.1.0 ws g u.1 is k.1.2)
      ]

  -- an execution's grant is live or was withdrawn
  in_use_fate : (n : NodeId) (g : Grant) (ws : List Want) (y : Ending) → InUse w n g ws → Fate w.nodes g y → y ≡ Withdrawn
  in_use_fate n g ws (Committed news) u f = absurd (in_use_unspent n g ws u (subst (λ (z : NodeId). Spent (w.nodes z.0) g) (in_use_its n g ws u).1 f))
  in_use_fate n g ws Released u f = absurd (in_use_unspent n g ws u (subst (λ (z : NodeId). Spent (w.nodes z.0) g) (in_use_its n g ws u).1 f))
  in_use_fate n g ws Withdrawn u f = refl
  in_use_fate n g ws Died u f = absurd (in_use_unspent n g ws u (inl (subst (λ (z : NodeId). g.life.0 < (w.nodes z.0).life.0) (in_use_its n g ws u).1 f)))

  older_idle : (n n' : NodeId) (g g' : Grant) (ws ws' : List Want) (s : Slot) → InUse w n g ws → InUse w n' g' ws' → Has g s → Has g' s → is_alone s ≡ true → g.ticket.0 < g'.ticket.0 → ⊥
  older_idle n n' g g' ws ws' s u u' k k' p lt =
      let its = in_use_its n g ws u in
      let its' = in_use_its n' g' ws' u' in
      let gone = older_gone (sha []) w.machine inv.sound g g' s its.0 its'.0 lt k k' in
      gone.2 refl p (in_use_fate n g ws gone.0 u (inv.fates g gone.0 its.0 gone.1))

  same_node : (n n' : NodeId) (g g' : Grant) (ws ws' : List Want) → InUse w n g ws → InUse w n' g' ws' → g ≡ g' → (n ≡ n') × (g ≡ g')
  same_node n n' g g' ws ws' u u' e = (sym (in_use_its n g ws u).1 ∙ ap (λ (z : Grant). z.node) e ∙ (in_use_its n' g' ws' u').1, e)

  off_line : (t : Ticket) (y : Ending) → w.machine.ending t.0 ≡ Some y → ((news : List News) → y ≢ Committed news) → OnALine (sha []) w.machine t → ⊥
  off_line t y e not h =
      let r = line_source (sha []) h.0 w.machine.ending h.1 w.machine.made h.2 in
      let at : ticket_of r.0 ≡ t.0 = sym (added_ticket (sha []) h.0 w.machine.ending r.0 h.1 r.2) ∙ ap (λ (z : Ticket). z.0) h.3 in
      off r.0 r.1 at r.2
    where
      off : (x : Made) → In x w.machine.made → ticket_of x ≡ t.0 → In h.1 (added (sha []) h.0 w.machine.ending x) → ⊥
      off (Granted g) i at k = not_on_line h.0 g.ticket (w.machine.ending g.ticket.0) y h.1 (ap w.machine.ending at ∙ e) not k
      off (Pruned u p) i at k =
          let g = inv.sound.ended t.0 y e in
          let same : Granted g.0 ≡ Pruned u p = one_made w.machine.made (w.machine.last + 1) (Granted g.0) (Pruned u p) inv.sound.order g.1 i (g.2 ∙ sym at) in
          cc

  withdrawn_off : (t : Ticket) → IsWithdrawn w.machine t → OnALine (sha []) w.machine t → ⊥
  withdrawn_off t (inl e) h = off_line t Withdrawn e (λ news q. (let bad : Withdrawn ≡ Committed news = q in cc)) h
  withdrawn_off t (inr e) h = off_line t Died e (λ news q. (let bad : Died ≡ Committed news = q in cc)) h

  stands_on : (t : Ticket) (vs : List Confirmed) → ((v : Confirmed) → In v vs → Stands (sha []) w.machine t v) → vs ≢ [] → OnALine (sha []) w.machine t
  stands_on t [] all some = absurd (some refl)
  stands_on t (v ∷ vs) all some =
      let r = all v (inl refl) in
      (v.slot, record { ticket = t; digest = v.digest }, get_in (line (sha []) w.machine v.slot) r.0 (record { ticket = t; digest = v.digest }) r.2, refl)

  home_of : (n : NodeId) (g : Grant) (ws : List Want) (v : Want) → InUse w n g ws → In v ws → wants_shared v ≡ true
      → (h : Grant) × (ws' : List Want) × InUse w n h ws' × (is_tenure h.kind ≡ true) × Has h (only_slot v.folder)
  home_of n g ws v u i shared = elim (cases_Bool (is_tenure g.kind)) [
    | inl t ↦ (g, ws, u, t, tenure_slot g ws v (in_use_ok n g ws u).1 t i)
    | inr t ↦ (let h = (inv.nodes n).homes u.0 (Running ws g u.1) v u.2 i shared t in
        let used : InUse w n h.2 h.1 = (h.0, h.3, h.5) in
        (h.2, h.1, used, h.6, subst (λ z. Has h.2 (only_slot z)) h.8 (tenure_slot h.2 h.1 h.4 (in_use_ok n h.2 h.1 used).1 h.6 h.7)))
  ]

  pub safe : Safe sha w
  safe = record {
    tickets = falling w.machine.made (w.machine.last + 1) inv.sound.order;
    rising = λ s. line_rising (sha []) s w.machine.ending w.machine.made (w.machine.last + 1) inv.sound.order;
    granted = λ g u i k. inv.sound.named g u (inv.messages (Told (told.Granted g)) i) k;
    confirmed = λ n l t versions v i k. (inv.messages (Told (told.Committed n l t versions)) i).0 v k;
    bases = λ s j v g h i e. inv.sound.placed s j v h g i (ap (λ (z : Ticket). z.0) e);
    withdrawn = withdrawn_off;
    unconfirmed = λ n l t versions h i. (let ok = inv.messages (Told (told.Committed n l t versions)) i in withdrawn_off t h (stands_on t versions ok.0 ok.1));
    fenced = λ n l t i h. (let ok = inv.messages (Told (told.Fenced n l t)) i in off_line t ok.0 ok.1 ok.2 h);
    alone = λ n n' g g' ws ws' s u u' k k' p. elim (cases_order g.ticket.0 g'.ticket.0) [
      | inl e ↦ same_node n n' g g' ws ws' u u' (same_grant (sha []) w.machine inv.sound g g' (in_use_its n g ws u).0 (in_use_its n' g' ws' u').0 e)
      | inr o ↦ elim o [
        | inl lt ↦ absurd (older_idle n n' g g' ws ws' s u u' k k' p lt)
        | inr gt ↦ absurd (older_idle n' n g' g ws' ws s u' u k' k p gt)
      ]
    ];
    one_live = λ n n' g g' ws ws' s u u' k k' l l'. same_node n n' g g' ws ws' u u' (live_apart (sha []) w.machine inv.sound g g' s ((in_use_its n g ws u).0, l) ((in_use_its n' g' ws' u').0, l') k k');
    at_home = home_of;
  }

held_same : (sha : List ℕ → Digest) (w u : World) → Inv sha w → Inv sha u → Onward (sha []) w u → (n n' : NodeId) (s : Slot) (k : ℕ) (c c' : List ℕ) → HoldsContent (w.nodes n.0) s k c → HoldsContent (u.nodes n'.0) s k c' → sha c ≡ sha c'
held_same sha w u inv inv' on n n' s k c c' h h' =
    let named : Names (sha []) (line (sha []) u.machine s) k h.0 = names_later (sha []) (line (sha []) w.machine s) (line (sha []) u.machine s) k h.0 (on.machine.lines s) ((inv.nodes n).known s k h.0 h.1) in
    let named' : Names (sha []) (line (sha []) u.machine s) k h'.0 = (inv'.nodes n').known s k h'.0 h'.1 in
    (inv.nodes n).stored h.0 c h.2 ∙ one_digest (sha []) (line (sha []) u.machine s) k h.0 h'.0 named named' ∙ sym ((inv'.nodes n').stored h'.0 c' h'.2)

pub every_run_is_safe : EveryRunIsSafe
every_run_is_safe sha w moves = safe sha w (moves_inv sha (start sha) w (start_whole sha) moves).0.now

pub every_run_stays_safe : EveryRunStaysSafe
every_run_stays_safe sha w u moves more =
    let before = moves_inv sha (start sha) w (start_whole sha) moves in
    let after = moves_inv sha w u before.0 more in
    record {
      lines = λ s. after.1.machine.lines s;
      contents = λ n n' s k c c' h h'. elim (cases_list c c') [
        | inl e ↦ inl e
        | inr ne ↦ inr (ne, held_same sha w u before.0.now after.0.now after.1 n n' s k c c' h h')
      ];
    }
