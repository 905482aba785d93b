-- What holds between the parts of a record.
use Rattle.std.specs.Prelude.{Bool, not, ◌&&◌, ◌||◌}
use Rattle.std.specs.List.{list_all}
use Rattle.farm_base.specs.declared.lease.Lease.{Lease}
use Rattle.protocol.specs.Names.{is_private}
use Rattle.recordlists.specs.Relations.{no_two, tickets_up_to, lines_up_to, lives_there, clash, has_retired, is_same_private, fits_tenure, is_gone, is_above_lines, is_home}
use Rattle.saverecord.specs.declared.record.Record.{Record}

-- what holds of each lease on its own
unfoldable pub fits_record : Record → Lease → Bool
fits_record r l = lives_there r.lives l && (not (has_retired r.retired l) && (no_two is_same_private l.slots && (fits_tenure l && (not (is_gone r.retired_nodes l) && is_above_lines r.lines l))))

-- what holds between the parts of each record
unfoldable pub agrees : Record → Bool
agrees r =
    tickets_up_to r.last.0 r.leases && (lines_up_to r.last.0 r.lines && (list_all (λ s. is_private s.folder.mode) r.retired
    && (list_all (fits_record r) r.leases && no_two clash r.leases)))

-- a record of version 1: each lease whose wants have a SHARED folder is of the home
abbrev pub is_at_home : Record → Bool
is_at_home r = list_all (λ l. not l.shared || is_home r.old_home l.node) r.leases
