-- Laws of writing into a buffer: all of the bytes or none, and one run of bytes after another.
use mathlib.Core.Path.{◌≡◌, ap, sym, ◌∙◌}
use mathlib.Core.List.{List, [], ◌∷◌, ◌++◌}
use Prim.Native.Nat.{ℕ, suc, ◌+◌, ◌<◌, ◌≤◌}
use native.Mathlib.Omega.{arith}
use lib.ListN.{length, set, take, drop, length-append}
use lib.Seq.{sets, sets-eq, length-sets, take-append_seam}
use borrow.Author.Tests.{le-leb, lt-leb}
use Rattle.rules.specs.Answers.{answer, refused}
use Rattle.rules.specs.Buffers.{room, written, after}
use Rattle.rules.proofs.Answers.{same_answer, never_refused}
use Rattle.rules.proofs.Cases.{by_lt}

module _ (buffer : List ℕ) (at : ℕ) (bytes : List ℕ) where
  -- with room for them, the bytes are counted and stand in the buffer
  pub written_all : at + length bytes ≤ length buffer → written buffer at bytes ≡ answer (length bytes)
  unfolding written room
  written_all fits = rw (le-leb _ _ fits)

  pub after_all : at + length bytes ≤ length buffer → after buffer at bytes ≡ sets buffer at bytes
  unfolding after room
  after_all fits = rw (le-leb _ _ fits) (sym (sets-eq bytes buffer at fits))

  -- without room, 30 and the buffer as it was
  pub kept : length buffer < at + length bytes → (refused 30 ≡ written buffer at bytes) × (buffer ≡ after buffer at bytes)
  unfolding written after room
  kept short = (rw (lt-leb _ _ short), rw (lt-leb _ _ short))

  -- a writer that answered had room, and its answer is the byte count
  pub written_room : {n : ℕ} → written buffer at bytes ≡ answer n → (at + length bytes ≤ length buffer) × (length bytes ≡ n)
  written_room e =
      by_lt (length buffer) (at + length bytes)
      (λ h. never_refused ((kept h).0 ∙ e))
      (λ h. (h, same_answer (sym (written_all h) ∙ e)))

-- bytes written at the buffer's start stand there
pub after_start : (buffer bytes : List ℕ) → length bytes ≤ length buffer → take (length bytes) (after buffer 0 bytes) ≡ bytes
unfolding after room
after_start buffer bytes h =
    let fits : 0 + length bytes ≤ length buffer = omega arith in
    rw (le-leb _ _ fits) (take-append_seam bytes (drop (0 + length bytes) buffer))

-- a writer that has room from the buffer's start on is not refused
pub start_answers : {C : Type 0} (buffer bytes : List ℕ) {n : ℕ} → length bytes ≤ length buffer → written buffer 0 bytes ≡ refused n → C
start_answers buffer bytes room w = never_refused (sym w ∙ written_all buffer 0 bytes (omega arith))

sets_sets : (a b s : List ℕ) (at : ℕ) → sets (sets s at a) (at + length a) b ≡ sets s at (a ++ b)
sets_sets [] b s at = let e : at + 0 ≡ at = omega arith in ap (λ (i : ℕ). sets s i b) e
sets_sets (x ∷ a) b s at =
    let e : at + suc (length a) ≡ suc at + length a = omega arith in
    ap (λ (i : ℕ). sets (sets (set s at x) (suc at) a) i b) e ∙ sets_sets a b (set s at x) (suc at)

-- two runs of bytes, written one after the other, are one run
pub after_after : (buffer : List ℕ) (at : ℕ) (a b : List ℕ) → at + length (a ++ b) ≤ length buffer
    → after (after buffer at a) (at + length a) b ≡ after buffer at (a ++ b)
after_after buffer at a b h =
    let n = length-append a b in
    let l = length-sets buffer at a in
    rw (after_all buffer at a (omega arith), after_all (sets buffer at a) (at + length a) b (omega arith), after_all buffer at (a ++ b) h)
    (sets_sets a b buffer at)

pub after_same : (buffer : List ℕ) (at : ℕ) (bytes : List ℕ) → at + length bytes ≤ length buffer → length (after buffer at bytes) ≡ length buffer
after_same buffer at bytes h = rw (after_all buffer at bytes h) (length-sets buffer at bytes)

pub after_none : (buffer : List ℕ) (at : ℕ) → at ≤ length buffer → after buffer at [] ≡ buffer
after_none buffer at h = after_all buffer at [] (omega arith)

-- what stands at the start of a buffer that had room is the bytes, as many as were counted
pub start_whole : (buffer bytes : List ℕ) {new : List ℕ} {n : ℕ} → length bytes ≤ length buffer → new ≡ after buffer 0 bytes → written buffer 0 bytes ≡ answer n
    → (n ≤ length new) × (take n new ≡ bytes)
start_whole buffer bytes {new} {n} room e w =
    let r = written_room buffer 0 bytes w in
    let same = ap length e ∙ after_same buffer 0 bytes (omega arith) in
    (omega arith, ap (λ k. take k new) (sym r.1) ∙ ap (take (length bytes)) e ∙ after_start buffer bytes room)

-- some bytes, and then others after them
pub after_then : (buffer : List ℕ) (at : ℕ) (a b : List ℕ) {first second : List ℕ} {p : ℕ}
    → at + (length a + length b) ≤ length buffer → first ≡ after buffer at a → p ≡ at + length a → second ≡ after first p b
    → second ≡ after buffer at (a ++ b)
after_then buffer at a b h e n f =
    rw (e, n) at f ∙ after_after buffer at a b (omega (arith, length-append a b))
