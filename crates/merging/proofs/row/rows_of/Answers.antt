use Rattle.std.proofs.Common.{◌≡◌, map, ℕ, length, List, [], ◌∷◌, ◌++◌, Some, None, sym, ap, ◌∙◌, arith}
use Rattle.std.specs.Option.{option_copied}
use Rattle.std.proofs.lemmas.List.{map-append}
use Rattle.merging.specs.Choices.{Three}
use Rattle.merging.specs.Listings.{Listing, Place}
use Rattle.merging.specs.Rows.{Side_by_side, first_entry, behind, rows_of, least_path, row_at}
use Rattle.merging.specs.Views.{seen}
use Rattle.merging.proofs.RowLoop.{IsOpen, starts, shrinks, goes_on, is_done}
use Rattle.merging.proofs.row.rows_of.Goals as goal

pub loop-path-init : goal.loop-path-init
loop-path-init c = rw c.new-rows.ensures.items (starts c.args.base.now c.args.mine.now c.args.theirs.now)

pub loop-path-smaller : goal.loop-path-smaller
loop-path-smaller c =
    let p : List ℕ = c.in-Some.path.now in
    let least : least_path c.loop-path.base_left.now c.loop-path.mine_left.now c.loop-path.theirs_left.now ≡ Some p = sym c.least_path.ensures ∙ ap option_copied c.in-Some.is in
    let less = shrinks c.loop-path.base_left.now c.loop-path.mine_left.now c.loop-path.theirs_left.now p least in
    let b = ap length c.split.ensures.others in
    let m = ap length c.split-in-Some.ensures.others in
    let t = ap length c.split-in-Some-2.ensures.others in
    omega arith

next_row : (total front front' : Side_by_side) (base mine theirs base' mine' theirs' : Listing) (p : List ℕ) (x : Three)
    → IsOpen total front base mine theirs → least_path base mine theirs ≡ Some p
    → base' ≡ behind p base → mine' ≡ behind p mine → theirs' ≡ behind p theirs
    → x.base ≡ first_entry p base → x.mine ≡ first_entry p mine → x.theirs ≡ first_entry p theirs
    → front' ≡ front ++ (p, x) ∷ [] → IsOpen total front' base' mine' theirs'
next_row total front front' base mine theirs base' mine' theirs' p x was least eb em et fb fm ft ef =
    let same : x ≡ (let y : Three = record { base = first_entry p base; mine = first_entry p mine; theirs = first_entry p theirs } in y) =
    ap (λ (z : Place). let y : Three = record { base = z; mine = x.mine; theirs = x.theirs } in y) fb
    ∙ ap (λ (z : Place). let y : Three = record { base = first_entry p base; mine = z; theirs = x.theirs } in y) fm
    ∙ ap (λ (z : Place). let y : Three = record { base = first_entry p base; mine = first_entry p mine; theirs = z } in y) ft in
    let front_is : front' ≡ front ++ row_at p base mine theirs ∷ [] = ef ∙ ap (λ (y : Three). front ++ (p, y) ∷ []) same in
    rw (front_is, eb, em, et) (goes_on total front base mine theirs p was least)

pub loop-path-preserved : goal.loop-path-preserved
loop-path-preserved c =
    let p : List ℕ = c.in-Some.path.now in
    let least : least_path c.loop-path.base_left.now c.loop-path.mine_left.now c.loop-path.theirs_left.now ≡ Some p = sym c.least_path.ensures ∙ ap option_copied c.in-Some.is in
    next_row (rows_of c.args.base.now c.args.mine.now c.args.theirs.now) (map seen c.loop-path.rows.items) (map seen c.push.new.self.items)
    c.loop-path.base_left.now c.loop-path.mine_left.now c.loop-path.theirs_left.now
    c.split.result.1.now c.split-in-Some.result.1.now c.split-in-Some-2.result.1.now
    p (record { base = option_copied c.split.result.0; mine = option_copied c.split-in-Some.result.0; theirs = option_copied c.split-in-Some-2.result.0 })
    c.loop-path.invariant least
    c.split.ensures.others c.split-in-Some.ensures.others c.split-in-Some-2.ensures.others
    c.split.ensures.entry c.split-in-Some.ensures.entry c.split-in-Some-2.ensures.entry
    (ap (map seen) c.in_ok-push.ensures.items ∙ map-append seen c.loop-path.rows.items (record { path = c.in-Some.path; base = c.split.result.0; mine = c.split-in-Some.result.0; theirs = c.split-in-Some-2.result.0 } ∷ []))

pub returns : goal.returns
returns c =
    let none : least_path c.loop-path.base_left.now c.loop-path.mine_left.now c.loop-path.theirs_left.now ≡ None = sym c.in_default.ensures in
    is_done (rows_of c.args.base.now c.args.mine.now c.args.theirs.now) (map seen c.loop-path.rows.items)
    c.loop-path.base_left.now c.loop-path.mine_left.now c.loop-path.theirs_left.now c.loop-path.invariant none
