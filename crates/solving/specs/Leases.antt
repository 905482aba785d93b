-- What comes of an ask (this project's own).
use Rattle.std.specs.Prelude.{◌≡◌, ⊤, List}
use Rattle.farm_base.specs.declared.want.Want.{Want}
use Rattle.solving.specs.declared.lease.Lease.{Lease}
use Rattle.solving.specs.declared.lease.Lease.TheVariants as lease
use Rattle.solving.specs.declared.lease.Reply.{Reply}
use Rattle.solving.specs.declared.lease.Reply.TheVariants as reply

-- the lease that is granted, if one is, is of these wants
abbrev pub IsReplyTo : List Want → Reply → Type 0
IsReplyTo wanted (reply.Granted granted) = granted.wants ≡ wanted
IsReplyTo wanted (reply.Denied why) = ⊤

-- the execution that has begun, if one has, is of these wants
abbrev pub IsLeaseOf : List Want → Lease → Type 0
IsLeaseOf wanted (lease.Begun running) = running.wants ≡ wanted
IsLeaseOf wanted (lease.Denied why) = ⊤
