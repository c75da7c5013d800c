-- Every small request, in order (RULES.md, 19).
use Rattle.std.specs.Prelude.{◌≡◌, cond, ◌&&◌, ℕ, ◌<◌, ◌≤◌, leb}
use mathlib.Core.List.{List, [], ◌∷◌, ◌++◌, map, flat_map, Lex}
use Rattle.request_log.specs.Log.{requests_bytes}
use Rattle.request.specs.Forest.{Direction, upright, inverted}
use Rattle.request.specs.Request.{Request, entries}
use Rattle.request.specs.Bytes.{tree_count, direction_number, request_bytes}
use Rattle.small.specs.Shapes.{child_counts, numbered, up_from, shapes, forest_of}

-- a small request of n entries explodes group 1 into exactly that many entries, with ids 1 upward in left pre-order and quota 1 each. A request
-- has at least one entry
pub record Small (n : ℕ) (q : Request) : Type 0 where
  pub some : 1 ≤ n
  pub exploded : q.exploded ≡ 1
  pub entries : entries q ≡ numbered 1 n

-- what the order goes by: upright before inverted, then the tree count, then the child counts from left to right
abbrev pub key : Request → List ℕ
key q = direction_number q.direction ∷ tree_count q.trees ∷ child_counts q.trees

-- the smaller comes first, in the first place where two keys differ
abbrev pub Before : Request → Request → Type 0
Before p q = Lex ◌<◌ (key p) (key q)

-- the request of some child counts
abbrev pub request_for : Direction → List ℕ → Request
request_for d s = record { exploded = 1; direction = d; trees = forest_of 1 s }

-- those of one direction: the smaller tree count first, then the smaller child counts
unfoldable pub small_of : Direction → ℕ → List Request
small_of d n = flat_map (λ trees. map (request_for d) (shapes n trees)) (up_from 1 n)

-- the list for n entries, for every n
unfoldable pub small : ℕ → List Request
small n = small_of upright n ++ small_of inverted n

-- the greatest size that is listed
abbrev pub greatest_size : ℕ
greatest_size = 6

-- for a size from 1 to 6, every small request of that many entries; other sizes have none
unfoldable pub listed : ℕ → List Request
listed size = cond (leb 1 size && leb size greatest_size) (small size) []

-- each is written after its length, as `grow` reads it
unfoldable pub list_bytes : ℕ → List ℕ
list_bytes size = requests_bytes (map request_bytes (listed size))
