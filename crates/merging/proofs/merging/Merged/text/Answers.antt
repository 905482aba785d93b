use Rattle.std.proofs.Common.{◌≡◌, ℕ, Bor, List, [], ◌++◌, map, flat_map, sym, ap, ◌∙◌}
use Rattle.std.proofs.lemmas.List.Folds.{flat_map-map}
use Rattle.merging.specs.declared.merging.Picked.{Picked}
use Rattle.merging.specs.Answers.{picked_text, conflict_text, answer_text}
use Rattle.merging.specs.Views.{picked}
use Rattle.merging.proofs.merging.Merged.text.Goals as goal

told : (begun first_lines all : List ℕ) (lines given : List Picked) (conflicts paths : List (Bor (List ℕ))) → begun ≡ [] → given ≡ lines → paths ≡ conflicts
    → first_lines ≡ begun ++ flat_map (λ (line : Picked). picked_text (picked line)) given
    → all ≡ first_lines ++ flat_map (λ (path : Bor (List ℕ)). conflict_text path.now) paths
    → all ≡ answer_text (map picked lines) (map (λ (path : Bor (List ℕ)). path.now) conflicts)
told begun first_lines all lines given conflicts paths none same same' first second =
    let front : first_lines ≡ flat_map picked_text (map picked lines) =
    first ∙ ap (λ (t : List ℕ). t ++ flat_map (λ (line : Picked). picked_text (picked line)) given) none
    ∙ ap (λ (l : List Picked). flat_map (λ (line : Picked). picked_text (picked line)) l) same ∙ sym (flat_map-map picked_text picked lines) in
    let back : flat_map (λ (path : Bor (List ℕ)). conflict_text path.now) paths ≡ flat_map conflict_text (map (λ (path : Bor (List ℕ)). path.now) conflicts) =
    ap (λ (l : List (Bor (List ℕ))). flat_map (λ (path : Bor (List ℕ)). conflict_text path.now) l) same' ∙ sym (flat_map-map conflict_text (λ (path : Bor (List ℕ)). path.now) conflicts) in
    second ∙ ap (λ (t : List ℕ). t ++ flat_map (λ (path : Bor (List ℕ)). conflict_text path.now) paths) front
    ∙ ap (λ (t : List ℕ). flat_map picked_text (map picked lines) ++ t) back

pub returns : goal.returns
returns c = told c.new-text.result.items c.push_lines.new.text.items c.push_conflicts.new.text.items
    c.args.self.now.lines.items c.as_slice.result.now c.args.self.now.conflicts.items c.as_slice-2.result.now
    c.new-text.ensures.items c.as_slice.ensures.value c.as_slice-2.ensures.value c.in_ok-push_lines.ensures c.in_ok-push_conflicts.ensures
