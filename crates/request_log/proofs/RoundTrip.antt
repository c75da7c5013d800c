-- Requests written after their lengths read back as they are.
use mathlib.Core.Path.{◌≡◌, refl, ap, sym, ◌∙◌}
use mathlib.Core.List.{List, [], ◌∷◌, ◌++◌, flat_map, append_assoc}
use Prim.Native.Nat.{ℕ, ◌+◌, ◌-◌, ◌≤◌}
use native.Mathlib.Omega.{arith}
use lib.ListN.{length, length-append}
use lib.Seq.{take-append_seam, drop-append_seam}
use Rattle.rules.specs.Answers.{answer}
use Rattle.rules.specs.Limits.{greatest}
use Rattle.number.specs.Number.{bytes_of}
use Rattle.number.proofs.Laws.{number_back, number_count}
use Rattle.request_log.specs.Log.{part_at, bytes_in, one_more, requests_from, requests_at, requests_bytes}
use Rattle.request_log.proofs.Laws.{length_good, stop, goes_on}

-- requests whose lengths are numbers
abbrev pub Short : List (List ℕ) → Type 0
Short [] = Unit {0}
Short (request ∷ others) = (length request ≤ greatest) × Short others

none : requests_bytes [] ≡ []
unfolding requests_bytes flat_map
none = refl

one : (request : List ℕ) (others : List (List ℕ)) → requests_bytes (request ∷ others) ≡ (bytes_of (length request) ++ request) ++ requests_bytes others
unfolding requests_bytes flat_map
one request others = refl

-- a request after its length, in the middle of a log
module _ (head request rest : List ℕ) where
  abbrev in_log : List ℕ
  in_log = head ++ ((bytes_of (length request) ++ request) ++ rest)

  abbrev starts : ℕ
  starts = length head + length (bytes_of (length request))

  log_length : length in_log ≡ starts + length request + length rest
  log_length = simp length-append (omega arith)

  part_back : length request ≤ greatest → part_at in_log (length head) ≡ answer (record { start = starts; end = starts + length request })
  part_back h =
      length_good in_log (length head)
      (rw (append_assoc (bytes_of (length request)) request rest) (number_back (length request) head (request ++ rest) h))
      (omega (arith, log_length))

  bytes_back : bytes_in in_log (record { start = starts; end = starts + length request }) ≡ request
  bytes_back =
      let e : starts + length request - starts ≡ length request = omega arith in
      let s : length (head ++ bytes_of (length request)) ≡ starts = length-append head (bytes_of (length request)) in
      let f : in_log ≡ (head ++ bytes_of (length request)) ++ (request ++ rest) = simp append_assoc in
      rw (e, f, ← s, drop-append_seam) (take-append_seam request rest)

back : (requests : List (List ℕ)) (head : List ℕ) → Short requests → (k : ℕ) → length (requests_bytes requests) ≤ k
    → requests_from k (head ++ requests_bytes requests) (length head) ≡ record { bytes = requests; ended = answer tt }
back [] head s k h = rw none (stop (head ++ []) (length head) k (omega (arith, length-append head [])))
back (request ∷ others) head s k h =
    let rest = requests_bytes others in
    let log = in_log head request rest in
    let n = log_length head request rest in
    let b = number_count (length request) in
    let l = ap length (one request others) ∙ length-append (bytes_of (length request) ++ request) rest in
    let g = goes_on log (length head) k (omega (arith, length-append (bytes_of (length request)) request)) (omega arith) (part_back head request rest s.0) in
    let next = head ++ (bytes_of (length request) ++ request) in
    let e : log ≡ next ++ rest = sym (append_assoc head (bytes_of (length request) ++ request) rest) in
    let m : starts head request rest + length request ≡ length next = simp length-append (omega arith) in
    let i : requests_from g.0 (next ++ rest) (length next) ≡ record { bytes = others; ended = answer tt } = back others next s.1 g.0 (omega (arith, g.2)) in
    ap (λ (x : List ℕ). requests_from k (head ++ x) (length head)) (one request others)
    ∙ g.1
    ∙ ap (λ (x : List ℕ). one_more x (requests_from g.0 log (starts head request rest + length request))) (bytes_back head request rest)
    ∙ ap (one_more request) (ap (requests_from g.0 log) m ∙ ap (λ (x : List ℕ). requests_from g.0 x (length next)) e ∙ i)

-- the law
pub requests_back : (requests : List (List ℕ)) (head : List ℕ) → Short requests
    → requests_at (head ++ requests_bytes requests) (length head) ≡ record { bytes = requests; ended = answer tt }
unfolding requests_at
requests_back requests head s = back requests head s (length (head ++ requests_bytes requests)) (omega (arith, length-append head (requests_bytes requests)))
