-- What the program prints for a record (this project's own): a line for each part, in the record's order.
use Rattle.std.specs.Prelude.{◌≡◌, ◌⊎◌, ⊤, ℕ, ◌<◌, ◌≤◌, Bool, if◌then◌else◌, List, [], ◌++◌, take, codes, decimal, Option, Some, None, Ok, Err}
use Rattle.std.specs.List.{flat_map}
use Rattle.std.specs.Result.{result_err}
use Rattle.farm_base.specs.declared.lease.Lease.{Lease}
use Rattle.farm_base.specs.declared.lease.NodeLife.{NodeLife}
use Rattle.names.specs.declared.number.NodeId.{NodeId}
use Rattle.names.specs.Names.{slot_text}
use Rattle.names.specs.Slots.{SlotParts}
use Rattle.versions.specs.declared.lines.SlotLine.{SlotLine}
use Rattle.words.specs.Words.{access_text}
use Rattle.schedule.specs.Printing.{line_text}
use Rattle.filekeeper.specs.Framing.{AreTextsOf, HasDamagedHead}
use Rattle.recordparts.specs.declared.refusal.RecordRefusal.{RecordRefusal}
use Rattle.saverecord.specs.declared.record.Record.{Record}
use Rattle.saverecord.specs.Logs.{ledger_in}
use Rattle.saverecord.specs.Records.{record_of}
use Rattle.saverecord.specs.Texts.{Texts, whole_alone}
use Rattle.answers.specs.declared.failure.Failure.{Failure}
use Rattle.answers.specs.declared.failure.Failure.TheVariants as failure

-- `home NODE`, where there is an old home
abbrev pub home_line : Option NodeId → List ℕ
home_line None = []
home_line (Some node) = codes "home " ++ decimal node.0 ++ codes "\n"

-- `life NODE LIFE`
abbrev pub life_line : NodeLife → List ℕ
life_line seen = codes "life " ++ decimal seen.node.0 ++ codes " " ++ decimal seen.life.0 ++ codes "\n"

-- `gone NODE`
abbrev pub gone_line : NodeId → List ℕ
gone_line node = codes "gone " ++ decimal node.0 ++ codes "\n"

-- a word, where it holds
abbrev pub word_if : Bool → List ℕ → List ℕ
word_if holds word = if holds then word else []

-- ` SLOT`, and ` ro=SLOT` for one that may not be written
abbrev pub leased_text : SlotParts × Bool → List ℕ
leased_text leased = codes " " ++ access_text leased.1 ++ slot_text leased.0

-- `lease TICKET NODE LIFE ASK`
abbrev pub holder_text : Lease → List ℕ
holder_text lease =
    codes "lease " ++ decimal lease.ticket.0 ++ codes " " ++ decimal lease.node.0 ++ codes " " ++ decimal lease.life.0 ++ codes " " ++ decimal lease.ask.0

-- who holds the lease, `shared` and `tenure` where they hold, and the slots
abbrev pub lease_line : Lease → List ℕ
lease_line lease =
    holder_text lease ++ word_if lease.shared (codes " shared") ++ word_if lease.tenure (codes " tenure") ++ flat_map leased_text lease.slots ++ codes "\n"

-- `retired SLOT`
abbrev pub retired_line : SlotParts → List ℕ
retired_line slot = codes "retired " ++ slot_text slot ++ codes "\n"

-- a line of versions, as a replay prints it
abbrev pub versions_line : SlotLine → List ℕ
versions_line line = line_text line.slot line.line

-- `last TICKET`, and then the lines of the other parts
abbrev pub record_text : Record → List ℕ
record_text r =
    codes "last " ++ decimal r.last.0 ++ codes "\n" ++ home_line r.old_home ++ flat_map life_line r.lives ++ flat_map gone_line r.retired_nodes
    ++ flat_map lease_line r.leases ++ flat_map retired_line r.retired ++ flat_map versions_line r.lines

-- the bytes spell a record, and this is what is printed for it
abbrev pub IsRecordText : List ℕ → List ℕ → Type 0
IsRecordText bytes text = (r : Record) × (record_of bytes ≡ Ok r) × (text ≡ record_text r)

-- why the bytes don't spell a record: their first fault
abbrev pub IsNoRecord : List ℕ → Failure → Type 0
IsNoRecord bytes (failure.Read e) = ⊥
IsNoRecord bytes (failure.Load e) = ⊥
IsNoRecord bytes (failure.Schedule e) = ⊥
IsNoRecord bytes (failure.Record e) = record_of bytes ≡ Err e
IsNoRecord bytes (failure.Entry place e) = ⊥
IsNoRecord bytes (failure.BadHead place) = ⊥
IsNoRecord bytes failure.Memory = ⊤

-- the whole record with the first of its entries
abbrev pub first_entries : ℕ → Texts → Texts
first_entries n texts = record texts { entries = take n texts.entries }

-- why texts hold no ledger, if they don't
abbrev pub refusal_in : Texts → Option RecordRefusal
refusal_in texts = result_err (ledger_in texts)

-- the bytes hold what a record's file and its log's hold: where entries follow the record, a ledger
abbrev pub HoldsBoth : List ℕ → List ℕ → List ℕ → Type 0
HoldsBoth whole tail bytes = (texts : Texts) × AreTextsOf whole tail texts × (ledger_in (whole_alone bytes) ≡ ledger_in texts)
    × ((texts.entries ≡ []) ⊎ (refusal_in texts ≡ None))

-- with this many entries, and not with fewer, the texts hold no ledger
abbrev pub BreaksAt : Texts → ℕ → RecordRefusal → Type 0
BreaksAt texts place e = ((n : ℕ) → n < place → refusal_in (first_entries n texts) ≡ None) × (refusal_in (first_entries place texts) ≡ Some e)

-- why texts hold no ledger: the whole record by itself holds none, or it holds one until this entry, from 1, is added
abbrev pub IsFirstFault : Texts → Failure → Type 0
IsFirstFault texts (failure.Read e) = ⊥
IsFirstFault texts (failure.Load e) = ⊥
IsFirstFault texts (failure.Schedule e) = ⊥
IsFirstFault texts (failure.Record e) = BreaksAt texts 0 e
IsFirstFault texts (failure.Entry place e) = (1 ≤ place) × BreaksAt texts place e
IsFirstFault texts (failure.BadHead place) = ⊥
IsFirstFault texts failure.Memory = ⊥

-- why a record's file and its log's hold nothing
abbrev pub HoldNothing : List ℕ → List ℕ → Failure → Type 0
HoldNothing whole tail (failure.BadHead place) = HasDamagedHead whole tail place
HoldNothing whole tail failure.Memory = ⊤
HoldNothing whole tail why = (texts : Texts) × AreTextsOf whole tail texts × IsFirstFault texts why
