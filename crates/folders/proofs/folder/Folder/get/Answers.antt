use Rattle.std.proofs.Common.{ℕ, List, Some, rules, sym, ap, ◌∙◌}
use Rattle.std.proofs.lemmas.Fn.{always_returns_same}
use Rattle.folders.specs.Files.{Files, path_cmp, content_at}
use Rattle.folders.proofs.Places.{place_found, place_missed}
use Rattle.folders.proofs.folder.Folder.get.Goals as goal

pub returns-in-Ok : goal.returns-in-Ok
returns-in-Ok c =
    let path = c.args.path.now in
    ap (λ (x : List ℕ). Some x) c.as_slice.ensures
    ∙ sym (place_found path c.self.inside.files.items c.as_slice-files.result.now c.binary_search_by.result c.in-Ok.place c.index-files-place.result c.as_slice-files.ensures.value c.self.invariant.0.rise
    c.binary_search_by.ensures.bound (c.binary_search_by.ensures.position (λ f. path_cmp f.0 path) (always_returns_same _ _ _ (λ a r g called. search rules))) c.in-Ok.is)
    ∙ ap (λ (fs : Files). content_at fs path) c.self.view_is

pub returns-in-Err : goal.returns-in-Err
returns-in-Err c =
    let path = c.args.path.now in
    sym (place_missed path c.self.inside.files.items c.as_slice-files.result.now c.binary_search_by.result c.in-Err.field-0 c.as_slice-files.ensures.value c.self.invariant.0.rise
    c.binary_search_by.ensures.bound (c.binary_search_by.ensures.position (λ f. path_cmp f.0 path) (always_returns_same _ _ _ (λ a r g called. search rules))) c.in-Err.is)
    ∙ ap (λ (fs : Files). content_at fs path) c.self.view_is
