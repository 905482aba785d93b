use mathlib.Core.Path.{fun_ext}
use Rattle.std.proofs.Common.{◌≡◌, ℕ, List, [], None, ap, ◌∙◌}
use Rattle.std.specs.Map.{lookup}
use Rattle.names.specs.Contents.{content_digest}
use Rattle.names.specs.Digests.{digest_eq}
use Rattle.protocol.specs.Names.{Digest}
use Rattle.protocol.specs.World.{keep}
use Rattle.nodecontents.specs.Stored.{store_in}
use Rattle.nodecontents.proofs.MapLemmas.{keep_shown}
use Rattle.nodecontents.proofs.stored.StoredContents.new.Goals as goal

pub returns : goal.returns
returns c =
    let none : store_in c.new-by_digest.result ≡ (λ digest. None)
    = fun_ext (λ d. ap (λ (entries : List (Digest × List ℕ)). lookup (digest_eq d) entries) c.new-by_digest.ensures.empty) in
    let is_empty : c.of-empty.result ≡ [] = c.of-empty.ensures ∙ c.new.ensures.items in
    keep_shown c.new-by_digest.result c.insert.new.self c.digest.result c.of-empty.result c.in_ok-insert.ensures.updates.0
    ∙ ap (keep c.digest.result c.of-empty.result) none
    ∙ ap (λ (digest : Digest). keep digest c.of-empty.result (λ other. None)) c.digest.ensures.value
    ∙ ap (λ (content : List ℕ). keep (content_digest content) content (λ other. None)) is_empty
