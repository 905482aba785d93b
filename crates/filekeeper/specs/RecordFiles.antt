-- What clauses see of the files of a record.
use Rattle.std.specs.Prelude.{ℕ, Bool, List, take, drop}
use Rattle.filekeeper.specs.Calls.{Called}
use Rattle.filekeeper.specs.Disks.{calls_of}
use Rattle.saverecord.specs.Texts.{Texts}
use Rattle.filekeeper.specs.declared.record_files.RecordFiles.{RecordFiles}

-- the calls that were made, the newest first
abbrev pub calls_in : {D : Type 0} → RecordFiles D → List Called
calls_in x = calls_of x.disk

-- the texts, of which the last entries may be gathered only
abbrev pub texts_in : {D : Type 0} → RecordFiles D → Texts
texts_in x = x.log

-- the texts that the files are known to hold
abbrev pub lasting_in : {D : Type 0} → RecordFiles D → Texts
lasting_in x = record (x.log) { entries = take x.lasting x.log.entries }

-- how many of the entries last
abbrev pub how_many_last : {D : Type 0} → RecordFiles D → ℕ
how_many_last x = x.lasting

-- the entries that are gathered only
abbrev pub gathered_in : {D : Type 0} → RecordFiles D → List (List ℕ)
gathered_in x = drop x.lasting x.log.entries

-- whether a crash leaves the lasting texts and nothing else
abbrev pub is_settled : {D : Type 0} → RecordFiles D → Bool
is_settled x = x.settled
