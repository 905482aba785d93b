-- The versions that are read rise by ticket.
use Rattle.std.proofs.Common.{List, sym, subst, arith}
use Rattle.farm_base.specs.declared.message.LineVersion.{LineVersion}
use Rattle.versions.specs.Line.{IsLine}
use Rattle.codec.proofs.Formats.{took}
use Rattle.recordparts.proofs.SlotLaws.{slot_after_format}
use Rattle.recordlists.proofs.PartLaws.{versions_rise}
use Rattle.recordlists.proofs.entries.SlotLineEntry.take.Goals as goal

pub of-line-requires : goal.of-line-requires
of-line-requires c =
    let slot = took (slot_after_format c.args.layout _) c.args.bytes.now _ _ (λ i. omega (arith, c.type_inv.bytes i)) c.in-Ok.ensures in
    let rise = versions_rise c.args.layout 1 0xffff_ffff_ffff_ffff (omega arith) _ _ _ slot.0.rest_fits c.in_ok-versions.ensures in
    subst (λ (versions : List LineVersion). IsLine versions) (sym c.into_vec.ensures) rise
