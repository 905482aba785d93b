-- A text says one thing: one schedule, or one first fault.
use Rattle.std.proofs.Common.{◌≡◌, ◌≢◌, ℕ, ◌+◌, ◌⊎◌, inl, inr, List, [], ◌∷◌, ◌++◌, length, refl, sym, ap, ◌∙◌, subst, length-append, arith}
use Rattle.std.specs.List.{AllZip}
use Rattle.std.proofs.lemmas.Fmt.{decimal_injective}
use Rattle.std.proofs.lemmas.List.Elements.{filter-append}
use Rattle.events.specs.declared.event.Event.{Event}
use Rattle.schedule.specs.declared.setup.Setup.{Setup}
use Rattle.schedule.specs.declared.refusal.ScheduleRefusal.{ScheduleRefusal}
use Rattle.schedule.specs.declared.refusal.ScheduleRefusal.TheVariants.{BadLine, TooManyEvents, OutOfMemory, TooLarge}
use Rattle.schedule.specs.Lines.{IsSpelled}
use Rattle.schedule.specs.Schedules.{lines, EVENTS, is_filled, filled, IsSetup, AreEvents, Say, IsSchedule, HasLine, IsNoEventBehind, IsTooManyBehind, BehindSetup, IsBadBehind, IsRefused}
use Rattle.schedule.proofs.UniqueLemmas.{spelled_same}

-- ---- events

zip_same : (ls : List (List ℕ)) (es fs : List Event) → AllZip IsSpelled ls es → AllZip IsSpelled ls fs → es ≡ fs
zip_same [] [] [] h k = refl
zip_same [] [] (f ∷ fs) h k = absurd k
zip_same [] (e ∷ es) fs h k = absurd h
zip_same (l ∷ ls) [] fs h k = absurd h
zip_same (l ∷ ls) (e ∷ es) [] h k = absurd k
zip_same (l ∷ ls) (e ∷ es) (f ∷ fs) h k =
    let this = spelled_same l e f h.0 k.0 in
    let rest = zip_same ls es fs h.1 k.1 in
    cc (this, rest)

events_same : (ls : List (List ℕ)) (es fs : List Event) → AreEvents ls es → AreEvents ls fs → es ≡ fs
events_same ls es fs h k = zip_same (filled ls) es fs h.spelled k.spelled

setup_same : (line : List ℕ) (s t : Setup) → IsSetup line s → IsSetup line t → s ≡ t
setup_same line s t h k =
    let few = h.few in
    let few' = k.few in
    let same = decimal_injective s.nodes t.nodes (omega arith) (omega arith) (cc (sym h.text ∙ k.text)) in
    λ i. record { nodes = same i }

pub said_same : (ls : List (List ℕ)) (s t : Setup) (es fs : List Event) → Say ls s es → Say ls t fs → (s ≡ t) × (es ≡ fs)
said_same [] s t es fs h k = absurd h
said_same (first ∷ others) s t es fs h k = (setup_same first s t h.0 k.0, events_same others es fs h.1 k.1)

-- ---- faults

-- a part of a zip, and the event of a line in the middle
record Parts (ls : List (List ℕ)) (line : List ℕ) (es : List Event) : Type 0 where
  before : List Event
  event : Event
  after : List Event
  zip : AllZip IsSpelled ls before
  spelled : IsSpelled line event
  whole : es ≡ before ++ event ∷ after

zip_parts : (ls : List (List ℕ)) (line : List ℕ) (more : List (List ℕ)) (es : List Event) → AllZip IsSpelled (ls ++ line ∷ more) es → Parts ls line es
zip_parts [] line more [] h = absurd h
zip_parts [] line more (e ∷ es) h = record { before = []; event = e; after = es; zip = tt; spelled = h.0; whole = refl }
zip_parts (l ∷ ls) line more [] h = absurd h
zip_parts (l ∷ ls) line more (e ∷ es) h =
    let rest = zip_parts ls line more es h.1 in
    record { before = e ∷ rest.before; event = rest.event; after = rest.after; zip = (h.0, rest.zip); spelled = rest.spelled; whole = ap (λ fs. e ∷ fs) rest.whole }

filled-one : (line : List ℕ) (more : List (List ℕ)) → line ≢ [] → filled (line ∷ more) ≡ line ∷ filled more
filled-one [] more some = absurd (some refl)
filled-one (b ∷ line) more some = refl

-- a line that isn't empty, among lines of events
parts_of : (front : List (List ℕ)) (line : List ℕ) (more : List (List ℕ)) (es : List Event) → line ≢ [] → AreEvents (front ++ line ∷ more) es
    → Parts (filled front) line es
parts_of front line more es some h =
    let same : filled (front ++ line ∷ more) ≡ filled front ++ line ∷ filled more =
    filter-append is_filled front (line ∷ more) ∙ ap (λ ls. filled front ++ ls) (filled-one line more some) in
    zip_parts (filled front) line (filled more) es (subst (λ ls. AllZip IsSpelled ls es) same h.spelled)

-- a line that is not an event can't stand among lines of events
no_event_stops : (front : List (List ℕ)) (line : List ℕ) (more : List (List ℕ)) (es : List Event) → IsNoEventBehind front line
    → AreEvents (front ++ line ∷ more) es → ⊥
no_event_stops front line more es fault h =
    let parts = parts_of front line more es fault.filled h in
    fault.unspelled parts.event parts.spelled

-- nor can one event too many
too_many_stops : (front : List (List ℕ)) (line : List ℕ) (more : List (List ℕ)) (es : List Event) → IsTooManyBehind front line
    → AreEvents (front ++ line ∷ more) es → ⊥
too_many_stops front line more es fault h =
    let parts = parts_of front line more es fault.filled h in
    let same = zip_same (filled front) parts.before fault.events parts.zip fault.before.spelled in
    let full : length parts.before ≡ EVENTS = ap length same ∙ fault.full in
    let whole = ap length parts.whole ∙ length-append parts.before (parts.event ∷ parts.after) in
    let few = h.few in
    omega arith

-- the lines before a fault
abbrev AreInOrder : List (List ℕ) → Type 0
AreInOrder [] = Unit {0}
AreInOrder (first ∷ others) = (s : Setup) × (es : List Event) × IsSetup first s × AreEvents others es

abbrev IsFault : List (List ℕ) → List ℕ → Type 0
IsFault front line = IsBadBehind front line ⊎ BehindSetup IsTooManyBehind front line

fault_in_order : (front : List (List ℕ)) (line : List ℕ) → IsFault front line → AreInOrder front
fault_in_order [] line h = tt
fault_in_order (first ∷ others) line (inl h) = (h.0, h.2.events, h.1, h.2.before)
fault_in_order (first ∷ others) line (inr h) = (h.0, h.2.events, h.1, h.2.before)

-- lines with a fault among them are not in order
fault_stops : (front : List (List ℕ)) (line : List ℕ) (more : List (List ℕ)) → IsFault front line → AreInOrder (front ++ line ∷ more) → ⊥
fault_stops [] line more (inl h) order = h order.0 order.2
fault_stops [] line more (inr h) order = absurd h
fault_stops (first ∷ others) line more (inl h) order = no_event_stops others line more order.1 h.2 order.3
fault_stops (first ∷ others) line more (inr h) order = too_many_stops others line more order.1 h.2 order.3

-- a line can't both be bad and be one too many
fault_is_one : (front : List (List ℕ)) (line : List ℕ) → IsBadBehind front line → BehindSetup IsTooManyBehind front line → ⊥
fault_is_one [] line h k = absurd k
fault_is_one (first ∷ others) line h k =
    let same = events_same others h.2.events k.2.events h.2.before k.2.before in
    let len = ap length same in
    let room = h.2.room in
    let full = k.2.full in
    omega arith

-- ---- two faults of one text

-- two lines of one text: one is before the other, or they are the same
data Places (a : List (List ℕ)) (x : List ℕ) (a' : List (List ℕ)) (x' : List ℕ) : Type 0 where
  First : (c : List (List ℕ)) (is : a' ≡ a ++ x ∷ c) → Places a x a' x'
  Same : (fronts : a ≡ a') (lines : x ≡ x') → Places a x a' x'
  Last : (c : List (List ℕ)) (is : a ≡ a' ++ x' ∷ c) → Places a x a' x'

places_behind : (y : List ℕ) (a : List (List ℕ)) (x : List ℕ) (a' : List (List ℕ)) (x' : List ℕ) → Places a x a' x' → Places (y ∷ a) x (y ∷ a') x'
places_behind y a x a' x' (First c is) = First c (ap (λ ls. y ∷ ls) is)
places_behind y a x a' x' (Same fronts lines) = Same (ap (λ ls. y ∷ ls) fronts) lines
places_behind y a x a' x' (Last c is) = Last c (ap (λ ls. y ∷ ls) is)

places : (a : List (List ℕ)) (x : List ℕ) (b : List (List ℕ)) (a' : List (List ℕ)) (x' : List ℕ) (b' : List (List ℕ))
    → a ++ x ∷ b ≡ a' ++ x' ∷ b' → Places a x a' x'
places [] x b [] x' b' e = Same refl (cc e)
places [] x b (y ∷ a') x' b' e = let first : x ≡ y = cc e in First a' (ap (λ l. l ∷ a') (sym first))
places (y ∷ a) x b [] x' b' e = let first : x' ≡ y = cc e in Last a (ap (λ l. l ∷ a) (sym first))
places (y ∷ a) x b (y' ∷ a') x' b' e =
    let first : y ≡ y' = cc e in
    subst (λ z. Places (y ∷ a) x (z ∷ a') x') first (places_behind y a x a' x' (places a x b a' x' b' (cc e)))

-- the first fault of lines
record Fault (ls : List (List ℕ)) : Type 0 where
  front : List (List ℕ)
  line : List ℕ
  behind : List (List ℕ)
  split : ls ≡ front ++ line ∷ behind
  is : IsFault front line

faults_same : (ls : List (List ℕ)) (f g : Fault ls) → (f.front ≡ g.front) × (f.line ≡ g.line)
faults_same ls f g = at (places f.front f.line f.behind g.front g.line g.behind (sym f.split ∙ g.split))
  where
    at : Places f.front f.line g.front g.line → (f.front ≡ g.front) × (f.line ≡ g.line)
    at (First c is) = absurd (fault_stops f.front f.line c f.is (subst AreInOrder is (fault_in_order g.front g.line g.is)))
    at (Same fronts lines) = (fronts, lines)
    at (Last c is) = absurd (fault_stops g.front g.line c g.is (subst AreInOrder is (fault_in_order f.front f.line f.is)))

abbrev bad_fault : (ls : List (List ℕ)) (n : ℕ) → HasLine ls (λ front line. (n ≡ length front + 1) × IsBadBehind front line) → Fault ls
bad_fault ls n h = record { front = h.front; line = h.line; behind = h.behind; split = h.split; is = inl h.holds.1 }

abbrev many_fault : (ls : List (List ℕ)) → HasLine ls (BehindSetup IsTooManyBehind) → Fault ls
many_fault ls h = record { front = h.front; line = h.line; behind = h.behind; split = h.split; is = inr h.holds }

never_both : (ls : List (List ℕ)) (n : ℕ) → HasLine ls (λ front line. (n ≡ length front + 1) × IsBadBehind front line)
    → HasLine ls (BehindSetup IsTooManyBehind) → ⊥
never_both ls n h k =
    let same = faults_same ls (bad_fault ls n h) (many_fault ls k) in
    let bad = subst (λ line. IsBadBehind k.front line) same.1 (subst (λ front. IsBadBehind front h.line) same.0 h.holds.1) in
    fault_is_one k.front k.line bad k.holds

pub refusals_same : (text : List ℕ) (d e : ScheduleRefusal) → d ≢ OutOfMemory → e ≢ OutOfMemory → IsRefused text d → IsRefused text e → d ≡ e
refusals_same text OutOfMemory e nd ne h k = absurd (nd refl)
refusals_same text (BadLine n) OutOfMemory nd ne h k = absurd (ne refl)
refusals_same text TooManyEvents OutOfMemory nd ne h k = absurd (ne refl)
refusals_same text TooLarge OutOfMemory nd ne h k = absurd (ne refl)
refusals_same text TooLarge TooLarge nd ne h k = refl
refusals_same text TooLarge (BadLine m) nd ne h k = let small = k.0 in absurd (omega arith)
refusals_same text TooLarge TooManyEvents nd ne h k = let small = k.0 in absurd (omega arith)
refusals_same text (BadLine n) TooLarge nd ne h k = let small = h.0 in absurd (omega arith)
refusals_same text TooManyEvents TooLarge nd ne h k = let small = h.0 in absurd (omega arith)
refusals_same text (BadLine n) (BadLine m) nd ne h k =
    let same = faults_same (lines text) (bad_fault (lines text) n h.1) (bad_fault (lines text) m k.1) in
    ap BadLine (h.1.holds.0 ∙ ap (λ front. length front + 1) same.0 ∙ sym k.1.holds.0)
refusals_same text (BadLine n) TooManyEvents nd ne h k = absurd (never_both (lines text) n h.1 k.1)
refusals_same text TooManyEvents (BadLine m) nd ne h k = absurd (never_both (lines text) m k.1 h.1)
refusals_same text TooManyEvents TooManyEvents nd ne h k = refl

-- lines that say a schedule have no fault
no_fault : (ls : List (List ℕ)) (s : Setup) (es : List Event) → Say ls s es → Fault ls → ⊥
no_fault [] s es said f = absurd said
no_fault (first ∷ others) s es said f =
    let order : AreInOrder (first ∷ others) = (s, es, said.0, said.1) in
    fault_stops f.front f.line f.behind f.is (subst AreInOrder f.split order)

pub said_or_refused : (text : List ℕ) (s : Setup) (es : List Event) (d : ScheduleRefusal) → IsSchedule text s es → IsRefused text d → d ≡ OutOfMemory
said_or_refused text s es TooLarge h k = let small = h.small in absurd (omega arith)
said_or_refused text s es (BadLine n) h k = absurd (no_fault (lines text) s es h.say (bad_fault (lines text) n k.1))
said_or_refused text s es TooManyEvents h k = absurd (no_fault (lines text) s es h.say (many_fault (lines text) k.1))
said_or_refused text s es OutOfMemory h k = refl
