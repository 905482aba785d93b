-- The versions of a line from a place on.
use Rattle.std.proofs.Common.{◌≡◌, ℕ, zero, suc, ◌+◌, List, [], ◌∷◌, ◌++◌, drop, Some, ap, ◌∙◌, sym, arith}
use Rattle.std.specs.List.{flat_map, enumerate_from}
use Rattle.names.specs.declared.digest.Digest.{Digest}
use Rattle.farm_base.specs.declared.message.LineVersion.{LineVersion}
use Rattle.names.specs.declared.number.Ticket.{Ticket}
use Rattle.versions.specs.Line.{ticket_in, digest_in}
use Rattle.schedule.specs.Printing.{version_text}

version_is : (v : LineVersion) (t : Ticket) (d : Digest) → Some v.ticket ≡ Some t → Some v.digest ≡ Some d → v ≡ record { ticket = t; digest = d }
version_is v t d e f =
    let ticket : v.ticket ≡ t = cc in
    let digest : v.digest ≡ d = cc in
    let with_ticket : Ticket → LineVersion = λ x. record { ticket = x; digest = v.digest } in
    let with_digest : Digest → LineVersion = λ x. record { ticket = t; digest = x } in
    ap with_ticket ticket ∙ ap with_digest digest

version_then : (line : List LineVersion) (k : ℕ) (t : Ticket) (d : Digest) → ticket_in line (suc k) ≡ Some t → digest_in line (suc k) ≡ Some d
    → drop k line ≡ record { ticket = t; digest = d } ∷ drop (suc k) line
version_then [] k t d e f = cc
version_then (v ∷ line) zero t d e f = ap (λ (x : LineVersion). x ∷ line) (version_is v t d e f)
version_then (v ∷ line) (suc k) t d e f = version_then line k t d e f

-- a version is printed, and then those after it
pub text_of_next : (line : List LineVersion) (k : ℕ) (t : Ticket) (d : Digest) → ticket_in line (k + 1) ≡ Some t → digest_in line (k + 1) ≡ Some d
    → flat_map version_text (enumerate_from (k + 1) (drop k line))
    ≡ version_text (k + 1, record { ticket = t; digest = d }) ++ flat_map version_text (enumerate_from (k + 1 + 1) (drop (k + 1) line))
text_of_next line k t d e f =
    let next : k + 1 ≡ suc k = search arith in
    let now : drop k line ≡ record { ticket = t; digest = d } ∷ drop (suc k) line = version_then line k t d (rw next at e) (rw next at f) in
    ap (λ versions. flat_map version_text (enumerate_from (k + 1) versions)) now
    ∙ ap (λ n. version_text (k + 1, record { ticket = t; digest = d }) ++ flat_map version_text (enumerate_from (k + 1 + 1) (drop n line))) (sym next)
