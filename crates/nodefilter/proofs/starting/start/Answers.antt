use Rattle.std.proofs.Common.{◌≡◌, ℕ, true, false, List, [], inl, inr, refl, sym, ap, ◌∙◌, subst}
use Rattle.std.proofs.lemmas.Bool.{cases_Bool}
use Rattle.std.proofs.lemmas.List.Elements.{All-weaker}
use Rattle.names.specs.Contents.{content_digest}
use Rattle.farm_base.specs.declared.message.Version.{Version}
use Rattle.nodecore.specs.Shown.{work_of, shown}
use Rattle.nodecontents.specs.Stored.{kept_node}
use Rattle.protocol.specs.Names.{Digest, Life}
use Rattle.protocol.specs.Farm.{farm_limits}
use Rattle.protocol.specs.Nodes.{NodeWork, restarted, may_restart}
use Rattle.nodefilter.specs.Starts.{place_in}
use Rattle.nodefilter.proofs.StartLemmas.{kept_all, went_well}
use Rattle.nodefilter.proofs.starting.start.Goals as goal

pub returns-clause-begun : goal.returns-clause-begun
returns-clause-begun g c =
    let origin = c.args.origin in
    let resumed = c.in-Ok.resumed in
    let node = shown resumed.0 in
    let begun : restarted (place_in origin) (kept_node origin.last origin.contents.items []) ≡ work_of node resumed.1 =
    subst (λ (versions : List (Version × Digest)). restarted (place_in origin) (kept_node origin.last origin.contents.items versions) ≡ work_of node resumed.1)
    c.new.ensures.items c.in-Ok.ensures.done in
    let no_fault = sym c.is_err.ensures.value ∙ c.if-is_err.false in
    let kept = c.keep_life.new.self in
    record {
      done = resumed.1;
      begun = begun;
      in_range = elim (cases_Bool (may_restart farm_limits (kept_node origin.last origin.contents.items []))) [
        | inl may ↦ may
        | inr over ↦ (let refused = c.resume.ensures.spent.1 (subst (λ (versions : List (Version × Digest)). may_restart farm_limits (kept_node origin.last origin.contents.items versions) ≡ false) (sym c.new.ensures.items) over) in absurd (cc (c.in-Ok.is, refused)))
      ];
      place = c.in-Ok.ensures.place;
      told = c.in-Ok.ensures.told;
      me = refl;
      keys = refl;
      up = refl;
      life = went_well c.keep_life.result (g.S.Store.last_life kept ≡ c.life.result.0) no_fault c.keep_life.ensures.life ∙ ap (λ (l : Life). l.0) c.life.ensures;
      sound = λ up d content is apart.
          kept_all (λ (e : Digest). g.S.Store.kept kept e ≡ true) origin.contents.items node.store (sym (ap (λ (w : NodeWork). w.node.store) begun))
          (All-weaker (λ (x : List ℕ). g.S.Store.kept origin.store (content_digest x) ≡ true) (λ (x : List ℕ). g.S.Store.kept kept (content_digest x) ≡ true)
          (λ x was. c.keep_life.ensures.contents (content_digest x) (λ e. (cc)) was) origin.contents.items c.requires)
          d content is apart;
      written = rw c.as_slice.ensures.value at c.in-Ok-greeting.ensures;
    }
