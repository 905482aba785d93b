-- What the program prints of the cache folders that a definition's vertices use (this project's own).
use Rattle.std.specs.Prelude.{◌≡◌, ℕ, List, [], ◌∷◌, ◌++◌, codes}
use Rattle.std.specs.List.{AllZip, enumerate_from, flat_map}
use Rattle.names.specs.declared.digest.Digest.{Digest}
use Rattle.names.specs.declared.digest.Key.{Key}
use Rattle.farm_base.specs.declared.want.Want.{Want}
use Rattle.names.specs.Digests.{digest_text}
use Rattle.farm_base.specs.Wanted.{IsWants}
use Rattle.words.specs.Words.{want_text}
use Rattle.vertices.specs.declared.vertex.Vertex.{Vertex}
use Rattle.vertices.specs.Loading.{GraphParts}
use Rattle.solverkeys.specs.GraphKeys.{AreKeys}
use Rattle.cachemounts.specs.CacheWants.{AreWants}

-- ` FOLDER`, and ` ro=FOLDER` for one that no mount may write
abbrev pub wanted_text : Want → List ℕ
wanted_text want = codes " " ++ want_text want

-- `DIGEST FOLDER..`, and nothing for a vertex without a cache mount
abbrev pub wants_line : Digest → List Want → List ℕ
wants_line digest [] = []
wants_line digest (want ∷ wants) = digest_text digest ++ flat_map wanted_text (want ∷ wants) ++ codes "\n"

-- the line of a vertex, given with its number: its wants, by rising folder
pub record IsWantsLine (g : GraphParts) (keys : List Key) (numbered : ℕ × Vertex) (line : List ℕ) : Type 0 where
  pub wants : List Want
  pub wants_are : AreWants g keys numbered.0 wants
  pub rising : IsWants wants
  pub line_is : line ≡ wants_line numbered.1.digest wants

-- what is printed for a graph that has these keys: the lines of its vertices, by rising place
abbrev pub AreWantsLines : GraphParts → List Key → List ℕ → Type 0
AreWantsLines g keys text = (lines : List (List ℕ)) × AllZip (IsWantsLine g keys) (enumerate_from 0 g.vertices) lines
    × (text ≡ flat_map (λ (line : List ℕ). line) lines)

-- what `wants` prints for a graph
abbrev pub AreWantsListed : GraphParts → List ℕ → Type 0
AreWantsListed g text = (keys : List Key) × AreKeys g keys × AreWantsLines g keys text
