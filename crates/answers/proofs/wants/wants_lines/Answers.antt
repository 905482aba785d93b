use Rattle.std.proofs.Common.{◌≡◌, ℕ, List, [], ◌∷◌, ◌++◌, ◌≤◌, take, length, refl, sym, ap, ◌∙◌, subst}
use Rattle.std.specs.List.{AllZip, enumerate_from}
use Rattle.std.specs.String.{string_bytes}
use Rattle.lists.proofs.Places.{AllZip-push}
use Rattle.vertices.specs.declared.vertex.Vertex.{Vertex}
use Rattle.cachemounts.specs.CacheWants.{AreWants}
use Rattle.answers.specs.Wants.{wants_line, IsWantsLine}
use Rattle.answers.proofs.Texts.{texts-push, numbered-next, numbered-all}
use Rattle.answers.proofs.wants.wants_lines.Goals as goal

pub loop-number-init : goal.loop-number-init
loop-number-init c = ([], tt, c.new-text.ensures.bytes)

pub loop-number-preserved : goal.loop-number-preserved
loop-number-preserved c =
    let graph = c.args.graph.now in
    let keys = c.args.keys.now in
    let number = c.loop-number.number in
    let vertex : Vertex = c.vertex-vertex.result in
    let so_far = c.loop-number.invariant in
    let line = wants_line vertex.digest c.as_slice.result.now in
    let is : IsWantsLine graph keys (number, vertex) line
    = record { wants = c.as_slice.result.now; wants_are = subst (AreWants graph keys number) (sym c.as_slice.ensures.same) c.in_ok-wants.ensures; rising = c.as_slice.ensures.sorted; line_is = refl } in
    let pushed : string_bytes c.push_wants.new.text ≡ string_bytes c.loop-number.text ++ line = c.in_ok-push_wants.ensures in (
      so_far.0 ++ line ∷ [],
      subst (λ (placed : List (ℕ × Vertex)). AllZip (IsWantsLine graph keys) placed (so_far.0 ++ line ∷ [])) (sym (numbered-next graph.vertices number vertex c.vertex-vertex.ensures))
          (AllZip-push (IsWantsLine graph keys) (take number (enumerate_from 0 graph.vertices)) so_far.0 (number, vertex) line so_far.1 is),
      pushed ∙ ap (λ (text : List ℕ). text ++ line) so_far.2 ∙ sym (texts-push so_far.0 line),
    )

pub returns : goal.returns
returns c =
    let graph = c.args.graph.now in
    let keys = c.args.keys.now in
    let number = c.loop-number.number in
    let so_far = c.loop-number.invariant in
    let past : length graph.vertices ≤ number = subst (λ (end : ℕ). end ≤ number) c.len-number-end.ensures.value c.loop-number-test.false in (
      so_far.0,
      subst (λ (placed : List (ℕ × Vertex)). AllZip (IsWantsLine graph keys) placed so_far.0) (numbered-all graph.vertices number past) so_far.1,
      so_far.2,
    )
