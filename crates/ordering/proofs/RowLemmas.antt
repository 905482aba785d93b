-- Reading and writing the lists of a table.
use Rattle.std.proofs.Common.{◌≡◌, ℕ, zero, suc, ◌<◌, List, [], ◌∷◌, ◌++◌, length, get_or, set, refl, sym, ap, subst, arith}
use Rattle.std.specs.List.{Contains, All}
use Rattle.std.specs.declared.vec.Vec.{Vec}
use Rattle.std.specs.declared.alloc.Global.{Global}
use Rattle.std.proofs.lemmas.List.Elements.{All-weaker, All-contains_itself}
use Rattle.ordering.specs.Rows.{row_at, HasInputsWithin, AreRows}

-- the list that a read of the table gives
pub row_at-read : {X : Type 0} (rows : List (Vec X Global)) (place : ℕ) (row : Vec X Global) → place < length rows
    → row ≡ get_or rows place row → row_at rows place ≡ row.items
row_at-read [] place row h is = absurd (omega arith)
row_at-read (r ∷ rows) zero row h is = ap (λ (v : Vec _ Global). v.items) (sym is)
row_at-read (r ∷ rows) (suc place) row h is = row_at-read rows place row (omega arith) is

-- what stands in the table stands at a place of it
pub row_within : {X : Type 0} (rows : List (Vec X Global)) (place : ℕ) (x : X) → Contains (row_at rows place) x → place < length rows
row_within [] place x (k, lt, is) = absurd (omega arith)
row_within (r ∷ rows) zero x h = omega arith
row_within (r ∷ rows) (suc place) x h = let less = row_within rows place x h in omega arith

-- the list that was written
pub row_at-set_same : {X : Type 0} (rows : List (Vec X Global)) (place : ℕ) (row : Vec X Global) → place < length rows
    → row_at (set rows place row) place ≡ row.items
row_at-set_same [] place row h = absurd (omega arith)
row_at-set_same (r ∷ rows) zero row h = refl
row_at-set_same (r ∷ rows) (suc place) row h = row_at-set_same rows place row (omega arith)

-- the others
pub row_at-set_other : {X : Type 0} (rows : List (Vec X Global)) (place other : ℕ) (row : Vec X Global) → (other ≡ place → ⊥)
    → row_at (set rows place row) other ≡ row_at rows other
row_at-set_other [] place other row apart = refl
row_at-set_other (r ∷ rows) zero zero row apart = absurd (apart refl)
row_at-set_other (r ∷ rows) zero (suc other) row apart = refl
row_at-set_other (r ∷ rows) (suc place) zero row apart = refl
row_at-set_other (r ∷ rows) (suc place) (suc other) row apart = row_at-set_other rows place other row (λ e. apart (ap suc e))

-- the inputs of a row are places
pub row_inputs_within : (rows : List (Vec ℕ Global)) (place n : ℕ) (row : Vec ℕ Global) → HasInputsWithin rows → place < length rows
    → row ≡ get_or rows place row → n ≡ length rows → All (λ input. input < n) row.items
row_inputs_within rows place n row within h is same =
    let items = row_at-read rows place row h is in
    All-weaker (Contains row.items) (λ input. input < n)
    (λ input c. let less : input < length rows = within place input (subst (λ (xs : List ℕ). Contains xs input) (sym items) c) in omega arith)
    row.items (All-contains_itself row.items)

-- an input of a row is a place
pub row_input_within : (rows : List (Vec ℕ Global)) (place n k : ℕ) (row : Vec ℕ Global) (inputs : List ℕ) → HasInputsWithin rows
    → place < length rows → row ≡ get_or rows place row → n ≡ length rows → inputs ≡ row.items → k < length inputs → get_or inputs k 0 < n
row_input_within rows place n k row inputs within h is same items lt =
    let all = row_inputs_within rows place n row within h is same in
    let P : List ℕ → Type 0 = λ xs. k < length xs → get_or xs k 0 < n in
    subst P (sym items) (all k 0) lt

-- a row at the end
pub row_at-push : {X : Type 0} (rows : List (Vec X Global)) (row : Vec X Global) (place : ℕ) → row.items ≡ []
    → ((p : ℕ) → row_at rows p ≡ []) → row_at (rows ++ row ∷ []) place ≡ []
row_at-push [] row zero none all = none
row_at-push [] row (suc place) none all = refl
row_at-push (r ∷ rows) row zero none all = all 0
row_at-push (r ∷ rows) row (suc place) none all = row_at-push rows row place none (λ p. all (suc p))

-- the inputs are places, since they are vertices
pub AreRows-within : (vertices : List ℕ) (rows : List (Vec ℕ Global)) → AreRows vertices rows → HasInputsWithin rows
AreRows-within vertices rows are place input edge = are.within input (are.inputs place input edge)

-- the vertices are places
pub vertices_within : (vertices : List ℕ) (rows : List (Vec ℕ Global)) → AreRows vertices rows → All (λ place. place < length rows) vertices
vertices_within vertices rows are =
    All-weaker (Contains vertices) (λ place. place < length rows) are.within vertices (All-contains_itself vertices)
