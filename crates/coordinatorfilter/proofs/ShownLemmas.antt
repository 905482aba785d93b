-- What is shown of lines.
use Rattle.std.proofs.Common.{◌≡◌, ℕ, suc, ◌+◌, ◌<◌, List, [], ◌∷◌, ◌++◌, Some, None, length, get_or, drop, refl, ap, ◌∙◌, sym, append_assoc, drop-cons, arith}
use Rattle.std.specs.List.{flat_map, enumerate_from}
use Rattle.names.specs.declared.digest.Digest.{Digest}
use Rattle.farm_base.specs.declared.message.LineVersion.{LineVersion}
use Rattle.protocol.specs.Ledger.{last_digest}
use Rattle.coordinatorfilter.specs.Shown.{version_line}
use Rattle.versions.specs.Lines.{line_shown}

-- a version is shown, and then those after it
shown_next : (versions : List LineVersion) (k : ℕ) (d : LineVersion) → k < length versions
    → flat_map version_line (enumerate_from (k + 1) (drop k versions))
    ≡ version_line (k + 1, get_or versions k d) ++ flat_map version_line (enumerate_from (k + 1 + 1) (drop (k + 1) versions))
shown_next versions k d lt =
    let next : k + 1 ≡ suc k = search arith in
    ap (λ rest. flat_map version_line (enumerate_from (k + 1) rest)) (drop-cons versions k d lt)
    ∙ ap (λ n. version_line (k + 1, get_or versions k d) ++ flat_map version_line (enumerate_from (k + 1 + 1) (drop n versions))) (sym next)

-- one more version is shown
pub shown_more : (versions : List LineVersion) (k : ℕ) (d : LineVersion) (before after whole : List ℕ) → k < length versions
    → after ≡ before ++ version_line (k + 1, get_or versions k d)
    → before ++ flat_map version_line (enumerate_from (k + 1) (drop k versions)) ≡ whole
    → after ++ flat_map version_line (enumerate_from (k + 1 + 1) (drop (k + 1) versions)) ≡ whole
shown_more versions k d before after whole lt pushed so_far =
    let rest = flat_map version_line (enumerate_from (k + 1 + 1) (drop (k + 1) versions)) in
    let this = version_line (k + 1, get_or versions k d) in
    ap (λ text. text ++ rest) pushed ∙ append_assoc before this rest ∙ ap (λ text. before ++ text) (sym (shown_next versions k d lt)) ∙ so_far

-- ---- a line that may be none

pub none_shown : (e : Digest) (versions : List LineVersion) → None ≡ line_shown versions → e ≡ last_digest e versions
none_shown e [] h = refl
none_shown e (v ∷ vs) h = absurd (cc h)

pub some_shown : (versions known : List LineVersion) → Some known ≡ line_shown versions → known ≡ versions
some_shown [] known h = absurd (cc h)
some_shown (v ∷ vs) known h = cc h
