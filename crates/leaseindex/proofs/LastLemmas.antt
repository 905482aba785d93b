-- The last of the leases, where none of those before them passes a test.
use Rattle.std.proofs.Common.{◌≡◌, List, [], ◌∷◌, ◌++◌, Bool, false, not, ◌&&◌, ◌||◌, filter, length, refl, sym, ◌∙◌, ap, append_assoc}
use Rattle.std.specs.Prelude.{All, count_by}
use Rattle.std.specs.List.{list_any}
use Rattle.std.proofs.lemmas.List.Elements.{All-head, All-tail, All-weaker, All-filter, filter-append}
use Rattle.std.proofs.lemmas.List.Sums.{length-filter}
use Rattle.std.proofs.lemmas.List.Folds.{list_any-append, list_any_none}
use Rattle.farm_base.specs.declared.lease.Lease.{Lease}
use Rattle.protocol.specs.Names.{Slot}
use Rattle.protocol.specs.Ledger.{has_slot}
use Rattle.leaseindex.specs.Counts.{AreLast}
use Rattle.leaseindex.proofs.TakenLemmas.{any_with}

-- where each that passes a test passes another too
pub last-weaker : (p q : Lease → Bool) (last leases : List Lease) → ((g : Lease) → p g ≡ false → q g ≡ false) → AreLast p last leases → AreLast q last leases
last-weaker p q last leases weaker h = record { before = h.before; whole = h.whole; none = All-weaker (λ g. p g ≡ false) (λ g. q g ≡ false) weaker h.before h.none }

none_pass : (p : Lease → Bool) (gs : List Lease) → All (λ g. p g ≡ false) gs → filter p gs ≡ []
none_pass p [] none = refl
none_pass p (g ∷ gs) none =
    let here : p g ≡ false = All-head (λ h. p h ≡ false) g gs none in
    rw here (none_pass p gs (All-tail (λ h. p h ≡ false) g gs none))

-- none passes
pub all_stay : (p : Lease → Bool) (gs : List Lease) → All (λ g. p g ≡ false) gs → filter (λ g. not (p g)) gs ≡ gs
all_stay p [] none = refl
all_stay p (g ∷ gs) none =
    let here : p g ≡ false = All-head (λ h. p h ≡ false) g gs none in
    rw here (ap (λ (hs : List Lease). g ∷ hs) (all_stay p gs (All-tail (λ h. p h ≡ false) g gs none)))

-- of those that are kept, the ones that pass
pub last-passing : (p keep : Lease → Bool) (last leases : List Lease) → AreLast p last leases → filter p (filter keep last) ≡ filter p (filter keep leases)
last-passing p keep last leases h =
    sym (ap (λ (gs : List Lease). filter p (filter keep gs)) h.whole
    ∙ ap (filter p) (filter-append keep h.before last)
    ∙ filter-append p (filter keep h.before) (filter keep last)
    ∙ ap (λ (gs : List Lease). gs ++ filter p (filter keep last)) (none_pass p (filter keep h.before) (All-filter keep (λ g. p g ≡ false) h.before h.none)))

-- of all, the ones that pass
pub last-filter : (p : Lease → Bool) (last leases : List Lease) → AreLast p last leases → filter p last ≡ filter p leases
last-filter p last leases h =
    sym (ap (filter p) h.whole ∙ filter-append p h.before last ∙ ap (λ (gs : List Lease). gs ++ filter p last) (none_pass p h.before h.none))

-- the ones that don't
pub last-rest : (p : Lease → Bool) (last leases : List Lease) → (h : AreLast p last leases) → filter (λ g. not (p g)) leases ≡ h.before ++ filter (λ g. not (p g)) last
last-rest p last leases h =
    ap (filter (λ g. not (p g))) h.whole
    ∙ filter-append (λ g. not (p g)) h.before last
    ∙ ap (λ (gs : List Lease). gs ++ filter (λ g. not (p g)) last) (all_stay p h.before h.none)

-- whether one passes of those that are kept and of others
pub last-any : (p keep : Lease → Bool) (last leases others : List Lease) → AreLast p last leases → list_any p (filter keep last ++ others) ≡ list_any p (filter keep leases ++ others)
last-any p keep last leases others h =
    sym (ap (λ (gs : List Lease). list_any p (filter keep gs ++ others)) h.whole
    ∙ ap (λ (gs : List Lease). list_any p (gs ++ others)) (filter-append keep h.before last)
    ∙ ap (list_any p) (append_assoc (filter keep h.before) (filter keep last) others)
    ∙ list_any-append p (filter keep h.before) (filter keep last ++ others)
    ∙ ap (λ (b : Bool). b || list_any p (filter keep last ++ others)) (list_any_none p (filter keep h.before) (All-filter keep (λ g. p g ≡ false) h.before h.none)))

-- whether one passes of all
pub last-some : (p : Lease → Bool) (last leases : List Lease) → AreLast p last leases → list_any p last ≡ list_any p leases
last-some p last leases h =
    sym (ap (list_any p) h.whole ∙ list_any-append p h.before last ∙ ap (λ (b : Bool). b || list_any p last) (list_any_none p h.before h.none))

-- whether one that passes has a slot
pub last-with : (p : Lease → Bool) (s : Slot) (last leases : List Lease) → AreLast p last leases → any_with p last s ≡ any_with p leases s
last-with p s last leases h = last-some (λ g. p g && has_slot g.slots s) last leases (last-weaker p (λ g. p g && has_slot g.slots s) last leases (λ g e. ap (λ (b : Bool). b && has_slot g.slots s) e) h)

-- none of all passes where there is none of them
pub last-none : (p : Lease → Bool) (leases : List Lease) → AreLast p [] leases → leases ≡ filter (λ g. not (p g)) leases
last-none p leases h = sym (last-rest p [] leases h ∙ sym h.whole)

-- how many pass
pub last-count : (p : Lease → Bool) (last leases : List Lease) → AreLast p last leases → count_by p last ≡ count_by p leases
last-count p last leases h = sym (length-filter p last) ∙ ap (λ (gs : List Lease). length gs) (last-filter p last leases h) ∙ length-filter p leases
