use Rattle.std.proofs.Common.{List, [], ◌∷◌, ◌++◌, sym, ap, ◌∙◌, subst, append_assoc}
use Rattle.std.specs.Prelude.{map}
use Rattle.std.specs.List.{AllZip}
use Rattle.std.specs.String.{string_bytes}
use Rattle.std.proofs.lemmas.List.{map-append}
use Rattle.lists.proofs.Places.{AllZip-push}
use Rattle.commands.specs.Acts.{File}
use Rattle.commands.specs.Runs.{IsJobOf}
use Rattle.commands.proofs.running.inputs_of.Goals as goal

pub loop-name-init : goal.loop-name-init
loop-name-init c = record {
  can_next = tt;
  is_finite = tt;
  so_far = (
    [],
    c.into_iter-name-iterator.ensures.into_iter_gives.0,
    ap (λ names. map string_bytes names) c.new.ensures.items,
    subst (AllZip IsJobOf []) (sym c.new-2.ensures.items) tt,
  );
}

pub loop-name-preserved : goal.loop-name-preserved
loop-name-preserved c =
    let so_far = c.loop-name.invariant.so_far in
    let file : File = (c.in-Some.name, c.in-Some.bytes) in
    let job = c.in_ok-push_input.ensures.jobs in
    record {
      can_next = tt;
      is_finite = tt;
      so_far = (
        so_far.0 ++ file ∷ [],
        append_assoc so_far.0 (file ∷ []) c.next.new.self.rest.items ∙ ap (λ (fs : List File). so_far.0 ++ fs) (sym c.in-Some.ensures.steps.0) ∙ so_far.1,
        c.in_ok-push_input.ensures.names ∙ ap (λ names. names ++ string_bytes c.in-Some.name ∷ []) so_far.2 ∙ sym (map-append (λ (f : File). string_bytes f.0) so_far.0 (file ∷ [])),
        subst (AllZip IsJobOf (so_far.0 ++ file ∷ [])) (sym job.1) (AllZip-push IsJobOf so_far.0 c.loop-name.inputs.jobs.items file job.0 so_far.3 job.2),
      );
    }
