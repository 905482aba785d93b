use Rattle.std.proofs.Common.{◌≡◌, ◌++◌, drop}
use Rattle.std.specs.List.{flat_map}
use Rattle.std.specs.String.{string_bytes}
use Rattle.draw.specs.Pages.{version_byte}
use Rattle.draw.proofs.page.push_version_bytes.Given as goal

abbrev pub invariant-loop-byte : goal.invariant-loop-byte
invariant-loop-byte l = string_bytes l.text ++ flat_map version_byte (drop l.byte-index l.bytes) ≡ string_bytes l.fn.text ++ flat_map version_byte l.bytes
