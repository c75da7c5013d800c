-- A log (RULES.md, 14.1): id, quota, then requests, each after its byte length as a number.
use Rattle.std.specs.Prelude.{ℕ, zero, suc, ◌+◌, ◌-◌, cond, leb, ltb, length, take, drop}
use mathlib.Core.List.{List, [], ◌∷◌, ◌++◌, flat_map}
use Rattle.rules.specs.Answers.{Answer, answer, refused, then}
use Rattle.number.specs.Number.{number_at, bytes_of}
use Rattle.request_log.specs.declared.Pair.{Pair}
use Rattle.request_log.specs.declared.Part.{Part}

-- a log begins with its pair: both numbers are read
unfoldable pub pair_of : List ℕ → Answer Pair
pair_of log =
    then (number_at log 0) λ id.
    then (number_at log id.next) λ quota. answer (record { id = id.value; quota = quota.value; next = quota.next })

-- the request whose length stands at a position. 1 for an overlong length: more than the bytes left
unfoldable pub part_at : List ℕ → ℕ → Answer Part
part_at log at =
    then (number_at log at) λ n.
    cond (ltb (length log - n.next) n.value) (refused 1) (answer (record { start = n.next; end = n.next + n.value }))

-- the bytes of a part
abbrev pub bytes_in : List ℕ → Part → List ℕ
bytes_in log p = take (p.end - p.start) (drop p.start log)

-- the requests of a log: the bytes of each, and how they end: with the log, or at a bad or overlong length with its number
pub record Requests : Type 0 where
  pub bytes : List (List ℕ)
  pub ended : Answer (Unit {0})

-- no request, and one before others
abbrev pub no_more : Answer (Unit {0}) → Requests
no_more ended = record { bytes = []; ended = ended }

abbrev pub one_more : List ℕ → Requests → Requests
one_more request others = record { bytes = request ∷ others.bytes; ended = others.ended }

-- the request at a part and the others after it; a bad or overlong length ends the requests
unfoldable pub part_then : List ℕ → Answer Part → (ℕ → Requests) → Requests
part_then log (answer p) others = one_more (bytes_in log p) (others p.end)
part_then log (refused n) others = no_more (refused n)

-- the requests from a position on, at most `most` of them
unfoldable pub requests_from : ℕ → List ℕ → ℕ → Requests
requests_from zero log at = no_more (answer tt)
requests_from (suc most) log at =
    cond (leb (length log) at) (no_more (answer tt)) (part_then log (part_at log at) λ next. requests_from most log next)

-- all of them: each has at least one byte, its length, so the log's length is enough
unfoldable pub requests_at : List ℕ → ℕ → Requests
requests_at log at = requests_from (length log) log at

-- the way back: requests, each after its byte length
unfoldable pub requests_bytes : List (List ℕ) → List ℕ
requests_bytes requests = flat_map (λ request. bytes_of (length request) ++ request) requests
