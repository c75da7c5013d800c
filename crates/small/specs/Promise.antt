-- What the list of small requests promises.
use Rattle.std.specs.Prelude.{◌≡◌, ℕ}
use mathlib.Core.List.{Memᴰ, Nodup, Pairwise, map}
use Rattle.rules.specs.Answers.{answer}
use Rattle.request_log.specs.Log.{requests_at}
use Rattle.request.specs.Request.{Request}
use Rattle.request.specs.Bytes.{request_bytes}
use Rattle.request.specs.Reading.{request_of}
use Rattle.small.specs.Small.{Small, Before, small, listed, list_bytes}

-- of the list for n entries, for every n
pub record InOrder (n : ℕ) : Type 0 where
  -- every small request of n entries stands in it
  pub complete : (q : Request) → Small n q → Memᴰ q (small n)
  -- nothing else does
  pub only : (q : Request) → Memᴰ q (small n) → Small n q
  -- each comes before all that stand after it
  pub ordered : Pairwise Before (small n)
  -- nothing stands in it twice
  pub once : Nodup (small n)

-- of the bytes for a size, for every size
pub record Readable (size : ℕ) : Type 0 where
  -- as `grow` reads them, they are the requests' bytes, one request after another, and nothing else
  pub parts : requests_at (list_bytes size) 0 ≡ record { bytes = map request_bytes (listed size); ended = answer tt }
  -- each request's bytes read as that request
  pub reads : (q : Request) → Memᴰ q (listed size) → request_of (request_bytes q) ≡ answer q
