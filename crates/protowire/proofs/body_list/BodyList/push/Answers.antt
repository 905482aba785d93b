use Rattle.std.proofs.Common.{List, ℕ, [], ◌∷◌, ◌++◌, ap, ◌∙◌}
use Rattle.protowire.proofs.SpanLemmas.{pushed_pieces}
use Rattle.protowire.proofs.body_list.BodyList.push.Goals as goal

pub returns-clause-ok : goal.returns-clause-ok
returns-clause-ok c =
    pushed_pieces c.self.inside.buffer.items c.args.body.now c.extend_from_slice.new.self.items c.self.inside.spans.items c.push.new.self.items _
    c.self.invariant c.in_ok-extend_from_slice.ensures.items c.in_default.ensures.items (c.len-start.ensures ∙ c.self.inside.buffer.ok.0) (c.len-end.ensures ∙ c.extend_from_slice.new.self.ok.0)
    ∙ ap (λ (bs : List (List ℕ)). bs ++ c.args.body.now ∷ []) c.self.view_is
