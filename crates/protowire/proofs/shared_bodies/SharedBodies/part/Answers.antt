use Rattle.std.proofs.Common.{◌≡◌, ◌+◌, ◌<◌, ◌≤◌, ℕ, List, length, IfSome, slice_get, slice_range, sym, ap, subst, ◌∙◌, arith}
use Rattle.std.specs.Arc.{arc_value}
use Rattle.std.proofs.lemmas.List.{length-map}
use Rattle.protowire.specs.declared.body_list.Span.{Span}
use Rattle.protowire.proofs.PartLemmas.{part_at}
use Rattle.protowire.proofs.shared_bodies.SharedBodies.part.Goals as goal

pub returns : goal.returns
returns c =
    let text = (arc_value c.self.inside.buffer).items in
    let spans = c.self.inside.spans.items in
    let here = c.index-body.result.now in
    let all : length spans ≡ length c.args.self.now = sym (length-map spans (λ s. slice_range text s.start s.end)) ∙ ap (λ (bodies : List (List ℕ)). length bodies) c.self.view_is in
    let there : c.args.place < length spans = omega (arith, all, c.requires.place) in
    let within = subst (λ (bodies : List (List ℕ)). IfSome (slice_get bodies c.args.place) (λ body. c.args.span.end ≤ length body)) (sym c.self.view_is) c.requires.within in
    let is = c.part.ensures
    ∙ ap (λ (bytes : List ℕ). slice_range bytes (here.start + c.args.span.start) (here.start + c.args.span.end)) (ap (λ v. v.items) c.in_ok-try_clone.ensures)
    ∙ ap (λ (s : Span). slice_range text (s.start + c.args.span.start) (s.start + c.args.span.end)) c.index-body.ensures in
    subst (λ (bodies : List (List ℕ)). IfSome (slice_get bodies c.args.place) (λ body. c.part.result ≡ slice_range body c.args.span.start c.args.span.end)) c.self.view_is
    (part_at text spans c.args.place here c.args.span.start c.args.span.end c.part.result c.self.invariant there c.requires.rises within is)
