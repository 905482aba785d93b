-- Entries as formats: each entry that is read is the one that was written, and what was written is read again.
use Rattle.std.proofs.Common.{◌≡◌, ℕ, ◌^◌, ◌<◌, ◌≤◌, Bool, true, List, [], ◌∷◌, ◌++◌, Option, Some, None, Ok, refl, sym, subst, arith}
use Rattle.std.specs.Int.{w32, w64, to_be_bytes}
use Rattle.std.specs.List.{AllByRecursion}
use Rattle.std.specs.Option.{option_map}
use Rattle.farm_base.specs.declared.lease.Lease.{Lease}
use Rattle.farm_base.specs.declared.message.LineVersion.{LineVersion}
use Rattle.names.specs.declared.number.NodeId.{NodeId}
use Rattle.names.specs.declared.number.Ticket.{Ticket}
use Rattle.names.specs.Slots.{SlotParts, slot_cmp}
use Rattle.recordparts.specs.declared.layout.Layout.{Layout}
use Rattle.recordparts.specs.declared.layout.Layout.TheVariants.{First, Second, Third}
use Rattle.farm_base.specs.declared.lease.NodeLife.{NodeLife}
use Rattle.versions.specs.declared.lines.SlotLine.{SlotLine}
use Rattle.versions.specs.Line.{IsLine}
use Rattle.recordparts.specs.Slots.{is_slot_above}
use Rattle.recordlists.specs.Entries.{counted_at, is_above, node_at, positive_at, node_after, ticket_after, ended_at, retired_node_at, node_life_at, retired_at, leased_at, tenure_at, lease_at, version_at, line_at}
use Rattle.recordparts.specs.Spelling.{flag_bytes, slot_bytes}
use Rattle.recordlists.specs.EntrySpelling.{counted, ticket_bytes, node_bytes, node_life_bytes, leased_bytes, holder_bytes, lease_bytes, version_bytes, line_bytes}
use Rattle.recordparts.specs.Fits.{IsNode, IsTypedSlot}
use Rattle.recordlists.specs.EntryFits.{IsTicket, IsNodeLife, IsLease, IsVersion, IsSlotLine, IsTypedTicket, IsTypedNode, IsTypedLife, IsTypedLeased, IsTypedLease, IsTypedVersion, IsTypedLine}
use Rattle.codec.proofs.Formats.{Any, IsFormat, if_passed, ◌and_then◌, begins, took, then_takes, then_again, last_again, refit}
use Rattle.codec.proofs.Fronts.{wide32, wide64}
use Rattle.names.specs.Digests.{IsBytes}
use Rattle.recordparts.proofs.Fields.{number_format, greatest, flag_format, digest_format}
use Rattle.recordparts.proofs.SlotLaws.{slot_after_format}
use Rattle.lists.proofs.Rising.{sorted-from_row, row-from_sorted}
use Rattle.recordlists.proofs.Rows.{slot_tests, numbers-from_row, row-from_numbers}
use Rattle.recordlists.proofs.EntryLaws.{IsEntry, counted_format}

-- ---- numbers

node_format : IsFormat node_at node_bytes IsNode Any
unfolding node_at
node_format =
    let number = number_format w32 (2 ^ 32) wide32 1 1024 (omega arith) in
    record {
      takes = λ bytes fits. then_takes number bytes fits _ _ λ n rest t between. (t, between);
      again = λ n rest fits typed. last_again number n.0 (begins (node_bytes n) rest) fits tt _ refl;
    }

positive_format : IsFormat positive_at (to_be_bytes w64) (λ n. 1 ≤ n) (λ n. n < 2 ^ 64)
unfolding positive_at
positive_format = refit (number_format w64 (2 ^ 64) wide64 1 greatest (omega arith)) (λ n fits. fits.0) (λ n fits typed. ((fits, omega arith), tt))

node_after_format : (before : Option ℕ) → IsFormat (node_after before) node_bytes (λ n. (is_above before n.0 ≡ true) × IsNode n) Any
unfolding node_after
node_after_format before = record {
  takes = λ bytes fits. then_takes node_format bytes fits _ _ λ n rest t between. if_passed (is_above before n.0) _ _ _ λ above. (t, (above, between));
  again = λ n rest fits typed. last_again node_format n (begins (node_bytes n) rest) fits.1 tt _ (rw fits.0 refl);
}

ticket_after_format : (before : Option ℕ) → IsFormat (ticket_after before) (λ (t : Ticket). to_be_bytes w64 t.0) (λ t. (is_above before t.0 ≡ true) × (1 ≤ t.0)) (λ t. t.0 < 2 ^ 64)
unfolding ticket_after
ticket_after_format before = record {
  takes = λ bytes fits. then_takes positive_format bytes fits _ _ λ n rest t some. if_passed (is_above before n) _ _ _ λ above. (t, (above, some));
  again = λ t rest fits typed. last_again positive_format t.0 (begins (to_be_bytes w64 t.0) rest) fits.1 typed _ (rw fits.0 refl);
}

-- ---- nodes and lives

abbrev pub node_key : NodeId → ℕ
node_key n = n.0

pub retired_node_format : (layout : Layout) → IsEntry retired_node_at layout node_bytes is_above node_key IsNode IsTypedNode
retired_node_format layout = record { format = λ before. refit (node_after_format (option_map node_key before)) (λ n fits. fits) (λ n fits typed. (fits, tt)) }

abbrev pub life_key : NodeLife → ℕ
life_key x = x.node.0

pub node_life_format : (layout : Layout) → IsEntry node_life_at layout node_life_bytes is_above life_key IsNodeLife IsTypedLife
unfolding node_life_at node_life_bytes
node_life_format layout = record {
  format = λ before.
      let node = node_after_format (option_map life_key before) in
      record {
        takes = λ bytes fits.
            then_takes node bytes fits _ _ λ n after tn is_node.
            then_takes positive_format after tn.rest_fits _ _ λ life rest tl some. (tn and_then tl, (is_node.0, record { node = is_node.1; life = some }));
        again = λ x rest fits typed.
            then_again node x.node _ (begins (node_life_bytes x) rest) (fits.0, fits.1.node) tt _ λ after is.
            last_again positive_format x.life.0 is fits.1.life typed.1 _ refl;
      };
}

-- ---- tickets

abbrev pub ended_key : Ticket → ℕ
ended_key t = t.0

pub ended_format : (layout : Layout) → IsEntry ended_at layout ticket_bytes is_above ended_key IsTicket IsTypedTicket
ended_format layout = record { format = λ before. refit (ticket_after_format (option_map ended_key before)) (λ t fits. fits) (λ t fits typed. (fits, typed.1)) }

-- ---- slots

abbrev pub slot_key : SlotParts → SlotParts
slot_key s = s

same_before : (before : Option SlotParts) → option_map slot_key before ≡ before
same_before None = refl
same_before (Some s) = refl

pub retired_format : (layout : Layout) → IsEntry retired_at layout slot_bytes is_slot_above slot_key Any IsTypedSlot
retired_format layout = record {
  format = λ before. refit (slot_after_format layout before)
      (λ s above. (subst (λ o. is_slot_above o s ≡ true) (sym (same_before before)) above, tt)) (λ s fits typed. (subst (λ o. is_slot_above o s ≡ true) (same_before before) fits.0, typed));
}

abbrev pub leased_key : SlotParts × Bool → SlotParts
leased_key x = x.0

pub leased_format : (layout : Layout) → IsEntry leased_at layout leased_bytes is_slot_above leased_key Any IsTypedLeased
unfolding leased_at leased_bytes
leased_format layout = record {
  format = λ before.
      let slot = slot_after_format layout (option_map leased_key before) in
      record {
        takes = λ bytes fits.
            then_takes slot bytes fits _ _ λ s after ts above.
            then_takes flag_format after ts.rest_fits _ _ λ writable rest tw any. (ts and_then tw, (above, tt));
        again = λ x rest fits typed.
            then_again slot x.0 _ (begins (leased_bytes x) rest) fits.0 typed _ λ after is.
            last_again flag_format x.1 is tt tt _ refl;
      };
}

-- ---- versions and lines

abbrev pub version_key : LineVersion → ℕ
version_key v = v.ticket.0

pub version_format : (layout : Layout) → IsEntry version_at layout version_bytes is_above version_key IsVersion IsTypedVersion
unfolding version_at version_bytes
version_format layout = record {
  format = λ before.
      let ticket = ticket_after_format (option_map version_key before) in
      record {
        takes = λ bytes fits.
            then_takes ticket bytes fits _ _ λ t after a is_ticket.
            then_takes digest_format after a.rest_fits _ _ λ digest rest b any. (a and_then b, is_ticket);
        again = λ v rest fits typed.
            then_again ticket v.ticket _ (begins (version_bytes v) rest) fits typed.1.ticket _ λ after is.
            last_again digest_format v.digest is tt typed.1.digest.0 _ refl;
      };
}

-- the versions that are read make a line
pub versions_rise : (layout : Layout) (low high : ℕ) → high < 2 ^ 64 → (bytes : List ℕ) (versions : List LineVersion) (rest : List ℕ) → IsBytes bytes
    → counted_at version_at layout low high bytes ≡ Ok (versions, rest) → IsLine versions
versions_rise layout low high below bytes versions rest fits e = numbers-from_row version_key versions (took (counted_format (version_format layout) low high below) bytes versions rest fits e).1.row

abbrev pub line_key : SlotLine → SlotParts
line_key l = l.slot

pub line_format : (layout : Layout) → IsEntry line_at layout line_bytes is_slot_above line_key IsSlotLine IsTypedLine
unfolding line_at line_bytes
line_format layout = record {
  format = λ before.
      let slot = slot_after_format layout (option_map line_key before) in
      let versions = counted_format (version_format layout) 1 greatest (omega arith) in
      record {
        takes = λ bytes fits.
            then_takes slot bytes fits _ _ λ s after ts above.
            then_takes versions after ts.rest_fits _ _ λ line rest tv is_line.
            (ts and_then tv, (above, record { some = is_line.low_fits; rise = numbers-from_row version_key line is_line.row; versions = is_line.each }));
        again = λ l rest fits typed.
            let few = typed.1.few in
            then_again slot l.slot _ (begins (line_bytes l) rest) fits.0 (typed.0, typed.1.slot) _ λ after is.
            last_again versions l.line is (record { low_fits = fits.1.some; high_fits = omega arith; row = row-from_numbers version_key l.line fits.1.rise; each = fits.1.versions }) (typed.0, typed.1.versions) _ refl;
      };
}

-- ---- leases

abbrev pub ticket_key : Lease → ℕ
ticket_key l = l.ticket.0

-- whether a lease is a tenure, where the layout says so
abbrev pub tenure_bytes : Layout → Bool → List ℕ
tenure_bytes First tenure = []
tenure_bytes Second tenure = flag_bytes tenure
tenure_bytes Third tenure = flag_bytes tenure

-- a lease in each layout
unfoldable pub lease_bytes_in : Layout → Lease → List ℕ
lease_bytes_in layout l = holder_bytes l ++ (flag_bytes l.shared ++ (tenure_bytes layout l.tenure ++ counted leased_bytes l.slots))

pub lease_bytes-third : (l : Lease) → lease_bytes_in Third l ≡ lease_bytes l
unfolding lease_bytes_in lease_bytes
lease_bytes-third l = refl

tenure_format : (layout : Layout) → IsFormat (tenure_at layout) (tenure_bytes layout) Any (λ _. layout ≡ Third)
unfolding tenure_at
tenure_format First = record { takes = λ bytes fits. (record { parts = refl; rest_fits = fits }, tt); again = λ tenure rest fits third. absurd cc }
tenure_format Second = refit flag_format (λ tenure fits. tt) (λ tenure fits third. (tt, tt))
tenure_format Third = refit flag_format (λ tenure fits. tt) (λ tenure fits third. (tt, tt))

pub all_any : {X : Type 0} (xs : List X) → AllByRecursion Any xs
all_any [] = tt
all_any (x ∷ xs) = (tt, all_any xs)

pub lease_format : (layout : Layout) → IsEntry lease_at layout (lease_bytes_in layout) is_above ticket_key IsLease IsTypedLease
unfolding lease_at lease_bytes_in holder_bytes
lease_format layout = record {
  format = λ before.
      let ticket = ticket_after_format (option_map ticket_key before) in
      let slots = counted_format (leased_format layout) 0 16 (omega arith) in
      record {
        takes = λ bytes fits.
            then_takes ticket bytes fits _ _ λ ticket behind_ticket a is_ticket.
            then_takes node_format behind_ticket a.rest_fits _ _ λ node behind_node b is_node.
            then_takes positive_format behind_node b.rest_fits _ _ λ life behind_life c is_life.
            then_takes positive_format behind_life c.rest_fits _ _ λ ask behind_ask d is_ask.
            then_takes flag_format behind_ask d.rest_fits _ _ λ shared behind_shared s _.
            then_takes (tenure_format layout) behind_shared s.rest_fits _ _ λ tenure behind_tenure u _.
            then_takes slots behind_tenure u.rest_fits _ _ λ xs rest v are_slots. (
              (a and_then b and_then c and_then d) and_then s and_then u and_then v,
              (
                is_ticket.0,
                record {
                  ticket = is_ticket.1;
                  node = is_node;
                  life = is_life;
                  ask = is_ask;
                  few = are_slots.high_fits;
                  rise = sorted-from_row is_slot_above slot_cmp slot_tests leased_key None xs are_slots.row;
                },
              ),
            );
        again = λ l rest fits typed.
            let own = typed.1 in
            let row = row-from_sorted is_slot_above slot_cmp slot_tests leased_key l.slots fits.1.rise in
            then_again ticket l.ticket _ (begins (lease_bytes_in layout l) rest) (fits.0, fits.1.ticket) own.ticket _ λ behind_ticket a.
            then_again node_format l.node _ a fits.1.node tt _ λ behind_node b.
            then_again positive_format l.life.0 _ b fits.1.life own.life _ λ behind_life c.
            then_again positive_format l.ask.0 _ c fits.1.ask own.ask _ λ behind_ask d.
            then_again flag_format l.shared _ d tt tt _ λ behind_shared s.
            then_again (tenure_format layout) l.tenure _ s tt typed.0 _ λ behind_tenure u.
            last_again slots l.slots u (record { low_fits = omega arith; high_fits = fits.1.few; row = row; each = all_any l.slots }) (typed.0, own.slots) _ refl;
      };
}
