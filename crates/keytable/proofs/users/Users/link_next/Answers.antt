use Rattle.std.proofs.Common.{◌≡◌, Some, None, refl, subst, ◌∙◌, arith, length, ℕ, get_or, slice_get}
use Rattle.std.proofs.lemmas.List.{get_or_default}
use Rattle.std.proofs.lemmas.Option.{slice_get_read}
use Rattle.keytable.proofs.UserLemmas.{linked_next, pushed}
use Rattle.keytable.proofs.users.Users.link_next.Goals as goal

pub returns-clause-linked : goal.returns-clause-linked
returns-clause-linked c =
    let u = c.args.self.now in
    let link = c.index.result.now in
    let n_is : c.len-place.result ≡ length u.befores.items = c.len-place.ensures ∙ u.befores.ok.0 in
    let at = slice_get_read u.links.items (length u.links.items) c.len-place.result link refl (let m = c.requires.more in omega (arith, m, n_is)) c.index.ensures in
    let within = c.requires.sources link (subst (λ (m : ℕ). slice_get u.links.items m ≡ Some link) n_is at) in
    let last_is : c.index-last.result.now ≡ get_or u.lasts.items link.source None = c.index-last.ensures ∙ get_or_default u.lasts.items link.source c.index-last.result.now None within in
    linked_next u _ link c.len-place.result c.requires.linked n_is at within refl
    (pushed u.befores.items c.push.new.self.items c.index-last.result.now (get_or u.lasts.items link.source None) c.push.result c.unwrap.result c.push.ensures.items c.unwrap.ensures last_is) refl
