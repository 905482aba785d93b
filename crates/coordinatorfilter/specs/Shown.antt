-- What the operator is shown (this project's own).
use Rattle.std.specs.Prelude.{◌≡◌, ℕ, ◌-◌, Bool, true, false, not, List, ◌++◌, [], codes, decimal, length, map, slice_get, Option, Some, None}
use Rattle.std.specs.List.{flat_map, enumerate_from}
use Rattle.std.specs.List.Sorted.{IsStrictlySortedBy}
use Rattle.coordinator.specs.Held.{Held, line_at}
use Rattle.names.specs.declared.digest.Digest.{Digest}
use Rattle.farm_base.specs.declared.lease.NodeLife.{NodeLife}
use Rattle.farm_base.specs.declared.message.LineVersion.{LineVersion}
use Rattle.names.specs.declared.number.NodeId.{NodeId}
use Rattle.names.specs.Contents.{empty_digest}
use Rattle.farm_base.specs.Kinds.{kind_of}
use Rattle.names.specs.Names.{slot_text}
use Rattle.names.specs.Slots.{SlotParts, slot_cmp}
use Rattle.words.specs.Words.{access_text, digits_text, want_text}
use Rattle.farmwire.specs.Lines.{kind_text}
use Rattle.farmwire.specs.Words.{spaced}
use Rattle.holdings.specs.Leases.{among}
use Rattle.protocol.specs.Ledger.{Lease, granted_slot, last_digest}
use Rattle.protocol.specs.Lists.{is_nil}
use Rattle.protocol.specs.Machine.{Parked}
use Rattle.schedule.specs.Printing.{version_text}
use Rattle.coordinatorlines.specs.declared.call.Question.{Question}
use Rattle.coordinatorlines.specs.declared.call.Question.TheVariants.{Line, Status, Needed}
use Rattle.versions.specs.declared.lines.SlotLine.{SlotLine}
use Rattle.versions.specs.Lines.{line_shown}

-- ---- the versions of a slot

-- `: NUMBER TICKET DIGEST`
abbrev pub version_line : ℕ × LineVersion → List ℕ
version_line (number, version) =
    codes ": " ++ decimal number ++ codes " " ++ decimal version.ticket.0 ++ codes " " ++ digits_text version.digest ++ codes "\n"

-- its versions, numbered from 1
abbrev pub line_answer : Option (List LineVersion) → List ℕ
line_answer None = codes "= line\n"
line_answer (Some versions) = flat_map version_line (enumerate_from 1 versions) ++ codes "= line\n"

-- ---- slots

-- these are the slots of which this is true, rising
pub record AreSlots (is : SlotParts → Bool) (slots : List SlotParts) : Type 0 where
  pub rising : IsStrictlySortedBy slot_cmp slots
  pub these : (slot : SlotParts) → among slots slot ≡ is slot

-- the slot has a version
abbrev pub has_version : List SlotLine → SlotParts → Bool
has_version lines slot = not (is_nil (line_at lines slot))

-- ---- the status

-- ` SLOT`, and ` ro=SLOT` for one that may not be written
abbrev pub leased_text : SlotParts × Bool → List ℕ
leased_text leased = codes " " ++ access_text leased.1 ++ slot_text leased.0

-- `: lease T N L A `
abbrev pub holder_text : Lease → List ℕ
holder_text lease =
    codes ": lease " ++ decimal lease.ticket.0 ++ codes " " ++ decimal lease.node.0 ++ codes " " ++ decimal lease.life.0 ++ codes " " ++ decimal lease.ask.0
    ++ codes " "

-- `: lease T N L A KIND [ro=]SLOT..`
abbrev pub lease_fact : Lease → List ℕ
lease_fact lease =
    holder_text lease ++ kind_text (kind_of lease.shared lease.tenure) ++ flat_map leased_text lease.slots ++ codes "\n"

-- the word of what is asked for
abbrev pub asked_text : Bool → List ℕ
asked_text true = codes "tenure"
asked_text false = codes "acquire"

-- `: parked acquire|tenure N L A [ro=]FOLDER..`
abbrev pub parked_fact : Parked → List ℕ
parked_fact parked =
    codes ": parked " ++ asked_text parked.tenure ++ codes " " ++ decimal parked.node.0 ++ codes " " ++ decimal parked.life.0 ++ codes " " ++ decimal parked.ask.0
    ++ spaced (map want_text parked.wants) ++ codes "\n"

-- `: life N L`
abbrev pub life_fact : NodeLife → List ℕ
life_fact seen = codes ": life " ++ decimal seen.node.0 ++ codes " " ++ decimal seen.life.0 ++ codes "\n"

-- `: gone N`
abbrev pub gone_fact : NodeId → List ℕ
gone_fact node = codes ": gone " ++ decimal node.0 ++ codes "\n"

-- `: retired SLOT`
abbrev pub retired_fact : SlotParts → List ℕ
retired_fact slot = codes ": retired " ++ slot_text slot ++ codes "\n"

-- `: last SLOT NUMBER:TICKET:DIGEST`, of the last version on the line of a slot
abbrev pub last_of : SlotParts → ℕ → Option LineVersion → List ℕ
last_of slot number None = []
last_of slot number (Some version) = codes ": last " ++ slot_text slot ++ version_text (number, version) ++ codes "\n"

abbrev pub last_fact : SlotParts → Option (List LineVersion) → List ℕ
last_fact slot None = []
last_fact slot (Some versions) = last_of slot (length versions) (slice_get versions (length versions - 1))

abbrev pub last_at : List SlotLine → SlotParts → List ℕ
last_at lines slot = last_fact slot (line_shown (line_at lines slot))

-- `: tickets T`, the last ticket
abbrev pub tickets_fact : ℕ → List ℕ
tickets_fact last = codes ": tickets " ++ decimal last ++ codes "\n"

-- the live leases, the oldest first; the asks that wait, in order of arrival; the greatest life seen of each node; the
-- nodes and these slots, which are retired; the last version of each of these slots; and the last ticket
abbrev pub status_text : Held → List SlotParts → List SlotParts → List ℕ
status_text held retired slots =
    flat_map lease_fact held.live ++ flat_map parked_fact held.parked ++ flat_map life_fact held.lives ++ flat_map gone_fact held.gone
    ++ flat_map retired_fact retired ++ flat_map (last_at held.lines) slots ++ tickets_fact held.last ++ codes "= status\n"

pub record IsStatus (held : Held) (text : List ℕ) : Type 0 where
  pub retired : List SlotParts
  pub slots : List SlotParts
  pub are_retired : AreSlots (among held.retired) retired
  pub have_versions : AreSlots (has_version held.lines) slots
  pub written : text ≡ status_text held retired slots

-- ---- what is needed

-- `: DIGEST`
abbrev pub needed_fact : Digest → List ℕ
needed_fact digest = codes ": " ++ digits_text digest ++ codes "\n"

-- the last version of a slot
abbrev pub last_needed : List SlotLine → SlotParts → List ℕ
last_needed lines slot = needed_fact (last_digest empty_digest (line_at lines slot))

-- the base of a leased slot, as its Grant names it
abbrev pub base_needed : List SlotLine → SlotParts × Bool → List ℕ
base_needed lines leased = needed_fact (granted_slot empty_digest (line_at lines) leased).digest

abbrev pub bases_needed : List SlotLine → Lease → List ℕ
bases_needed lines lease = flat_map (base_needed lines) lease.slots

-- the last version of each of these slots, and then the bases of the live leases
abbrev pub needed_text : Held → List SlotParts → List ℕ
needed_text held slots =
    flat_map (last_needed held.lines) slots ++ flat_map (bases_needed held.lines) held.live ++ codes "= needed\n"

pub record IsNeeded (held : Held) (text : List ℕ) : Type 0 where
  pub slots : List SlotParts
  pub have_versions : AreSlots (has_version held.lines) slots
  pub written : text ≡ needed_text held slots

-- ---- a question

-- what is shown
abbrev pub IsShown : Held → Question → List ℕ → Type 0
IsShown held (Line slot) text = text ≡ line_answer (line_shown (line_at held.lines slot))
IsShown held Status text = IsStatus held text
IsShown held Needed text = IsNeeded held text
