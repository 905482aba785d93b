-- Refusals of definitions and ops.
use Rattle.std.specs.Prelude.{Result, Ok, Err}
use Rattle.codec.specs.Steps.{GivesUnless}
use Rattle.protowire.specs.declared.refusal.WireRefusal.{WireRefusal}
use Rattle.protowire.specs.declared.refusal.WireRefusal.TheVariants.{Truncated, VarintTooLong, BadWireType, BadFieldNumber, OutOfMemory}
use Rattle.opsproto.specs.declared.refusal.OpRefusal.{OpRefusal}
use Rattle.opsproto.specs.declared.refusal.OpRefusal.TheVariants as refusal

-- a fault of a message's own form, or want of memory
abbrev pub wire_refusal : WireRefusal → OpRefusal
wire_refusal Truncated = refusal.Wire Truncated
wire_refusal VarintTooLong = refusal.Wire VarintTooLong
wire_refusal BadWireType = refusal.Wire BadWireType
wire_refusal BadFieldNumber = refusal.Wire BadFieldNumber
wire_refusal OutOfMemory = refusal.OutOfMemory

abbrev pub wire : {X : Type 0} → Result X WireRefusal → Result X OpRefusal
wire (Ok x) = Ok x
wire (Err e) = Err (wire_refusal e)

-- what was returned, its value seen by view, is what reading gives, unless memory ran out
abbrev pub Gives : {X Y : Type 0} → (X → Y) → Result X OpRefusal → Result Y OpRefusal → Type 0
Gives view returned read = GivesUnless refusal.OutOfMemory view returned read
