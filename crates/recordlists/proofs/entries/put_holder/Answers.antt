use Rattle.std.proofs.Common.{◌≡◌, ◌++◌, ℕ, List, ap, ◌∙◌, append_assoc}
use Rattle.recordlists.specs.EntrySpelling.{holder_bytes}
use Rattle.recordlists.proofs.entries.put_holder.Goals as goal

-- four parts behind what was there
four : (old one two three new a b c d : List ℕ) → one ≡ old ++ a → two ≡ one ++ b → three ≡ two ++ c → new ≡ three ++ d → new ≡ old ++ (a ++ (b ++ (c ++ d)))
four old one two three new a b c d first second third fourth =
    fourth ∙ ap (λ zs. zs ++ d) (third ∙ ap (λ zs. zs ++ c) (second ∙ ap (λ zs. zs ++ b) first)) ∙ append_assoc ((old ++ a) ++ b) c d ∙ append_assoc (old ++ a) b (c ++ d) ∙ append_assoc old a (b ++ (c ++ d))

pub returns-clause-spelled : goal.returns-clause-spelled
unfolding holder_bytes
returns-clause-spelled c =
    let first = c.extend_from_slice.new.self.items in
    let second = c.extend_from_slice-2.new.self.items in
    let third = c.extend_from_slice-3.new.self.items in
    four c.args.out.now.items first second third c.extend_from_slice-4.new.self.items _ _ _ _ (c.in_ok-extend_from_slice.ensures.items ∙ ap (λ bytes. c.args.out.now.items ++ bytes) c.to_be_bytes.ensures)
    (c.in_ok-extend_from_slice-2.ensures.items ∙ ap (λ bytes. first ++ bytes) c.to_be_bytes-2.ensures) (c.in_ok-extend_from_slice-3.ensures.items ∙ ap (λ bytes. second ++ bytes) c.to_be_bytes-3.ensures)
    (c.in_ok-extend_from_slice-4.ensures.items ∙ ap (λ bytes. third ++ bytes) c.to_be_bytes-4.ensures)
