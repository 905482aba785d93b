use Rattle.std.proofs.Common.{◌≡◌, ◌++◌, ◌+◌, ◌-◌, ◌<◌, ◌≤◌, ℕ, List, [], ◌∷◌, length, take, All, get_or, sym, ap, ◌∙◌, subst, arith, take_all, take-take, length-take}
use Rattle.std.proofs.lemmas.List.{take_more}
use Rattle.std.proofs.lemmas.List.Elements.{All-take}
use Rattle.filekeeper.specs.Disks.{calls_of}
use Rattle.filekeeper.specs.Framing.{log_bytes, IsTold}
use Rattle.filekeeper.specs.Settled.{AreStanding, IsSettled}
use Rattle.saverecord.specs.Texts.{Texts}
use Rattle.filekeeper.proofs.record_files.RecordFiles.drop_last.Goals as goal

-- entries and the last one
last : (xs : List (List ℕ)) → 0 < length xs → xs ≡ take (length xs - 1) xs ++ get_or xs (length xs - 1) [] ∷ []
last xs some = sym (take_all (length xs) xs (omega arith)) ∙ ap (λ n. take n xs) (one_more (length xs) some) ∙ take_more xs (length xs - 1) [] (omega (arith, some))
  where
    one_more : (n : ℕ) → 0 < n → n ≡ (n - 1) + 1
    one_more n some = omega arith

pub invariant_of-self : goal.invariant_of-self
invariant_of-self g c =
    let x = c.args.self.now in
    let entries = x.log.entries in
    let m : ℕ = length entries - 1 in
    let less : x.lasting < length entries = c.requires in
    let some : 0 < length entries = omega (arith, less) in
    let t : Texts = record { whole = x.log.whole; entries = take m entries } in
    let is : c.pop.new.self ≡ t = c.pop.ensures t (get_or entries m []) (λ i. record { whole = x.log.whole; entries = last entries some i }) in
    let len = length-take m entries in
    let first : take x.lasting (take m entries) ≡ take x.lasting entries = take-take x.lasting m entries (fewer x.lasting (length entries) less) in
    record {
      told = subst (λ (s : Texts). All IsTold s.entries) (sym is) (All-take IsTold m entries x.told);
      within = subst (λ (s : Texts). x.lasting ≤ length s.entries) (sym is) (omega (arith, less, len));
      lens = x.lens ∙ ap (λ es. length (log_bytes x.log.whole es)) (sym first) ∙ ap (λ (s : Texts). length (log_bytes s.whole (take x.lasting s.entries))) (sym is);
      left = λ settled. subst (λ (s : Texts). IsSettled (calls_of x.disk) (record s { entries = take x.lasting s.entries })) (sym is)
          (subst (λ es. IsSettled (calls_of x.disk) (record { whole = x.log.whole; entries = es })) (sym first) (x.left settled));
      standing = subst (λ (s : Texts). AreStanding (calls_of x.disk) (record s { entries = take x.lasting s.entries })) (sym is)
          (subst (λ es. AreStanding (calls_of x.disk) (record { whole = x.log.whole; entries = es })) (sym first) x.standing);
    }
  where
    fewer : (a n : ℕ) → a < n → a ≤ n - 1
    fewer a n less = omega (arith, less)
