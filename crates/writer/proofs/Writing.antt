-- Bytes that a writer wrote, and others after them.
use Rattle.std.proofs.Common.{◌≡◌, ℕ, ◌+◌, ◌-◌, ◌<◌, ◌≤◌, true, false, List, [], ◌∷◌, ◌++◌, length, set, take, drop, refl, ap, sym, ◌∙◌, arith, length-append, le-leb, ltb, ltb-true, ltb-false, lt-ltb, le-ltb}
use lib.Seq.{sets-eq, take-length}
use borrow.Rule.Slice.PartMut.{put_mid}
use Rattle.std.proofs.lemmas.Slice.{put_mid-paste}
use Rattle.rules.proofs.Cases.{by_lt}
use borrow.Author.Tests.{lt-leb}
use Rattle.rules.specs.Answers.{answer, refused}
use Rattle.rules.specs.Buffers.{room, written, after}
use Rattle.rules.proofs.Buffers.{after_same, after_none, after_then, after_all, written_all, kept}
use Rattle.writer.specs.Writing.{place_after, Wrote, WroteAll}
use Rattle.writer.specs.declared.Writer.{Writer}

module _ (buffer : List ℕ) (at : ℕ) (bytes : List ℕ) where
  pub place_on : at + length bytes ≤ length buffer → place_after buffer at bytes ≡ at + length bytes
  unfolding place_after room
  place_on fits = rw (le-leb _ _ fits)

  pub place_stays : length buffer < at + length bytes → place_after buffer at bytes ≡ at
  unfolding place_after room
  place_stays short = rw (lt-leb _ _ short)

-- the bytes stand in the buffer, for which there is room, and the writer stands past them
pub wrote_room : {old new : Writer} {bytes : List ℕ} → old.at + length bytes ≤ length old.buffer.now → new.buffer.now ≡ after old.buffer.now old.at bytes
    → new.at ≡ old.at + length bytes → new.buffer.ghost_name ≡ old.buffer.ghost_name → WroteAll old new bytes
wrote_room {old} {new} {bytes} fits e p g =
    record { buffer = e; place = p; same_length = ap length e ∙ after_same old.buffer.now old.at bytes fits; same_reference = g }

-- a writer that has room writes all of the bytes
pub wrote_all : {old new : Writer} {bytes : List ℕ} → Wrote old new bytes → old.at + length bytes ≤ length old.buffer.now → WroteAll old new bytes
wrote_all {old} {new} {bytes} w fits = wrote_room fits w.buffer (w.place ∙ place_on old.buffer.now old.at bytes fits) w.same_reference

-- and one that wrote all of them had room, or writes none
pub wrote_of : {old new : Writer} {bytes : List ℕ} → WroteAll old new bytes → old.at + length bytes ≤ length old.buffer.now → Wrote old new bytes
wrote_of {old} {new} {bytes} w fits =
    record { buffer = w.buffer; place = w.place ∙ sym (place_on old.buffer.now old.at bytes fits); same_reference = w.same_reference }

-- two runs of bytes, written one after the other, are one run
pub wrote_both : {a b c : Writer} {x y : List ℕ} → WroteAll a b x → WroteAll b c y → a.at + (length x + length y) ≤ length a.buffer.now → WroteAll a c (x ++ y)
wrote_both {a} {b} {c} {x} {y} w v fits =
    let n = length-append x y in
    wrote_room (omega arith) (after_then a.buffer.now a.at x y fits w.buffer w.place v.buffer) (omega (arith, w.place, v.place)) (v.same_reference ∙ w.same_reference)

-- some bytes, and then others for which there is room then
pub wrote_then : {a b c : Writer} {x y : List ℕ} → Wrote a b x → (b.at + length y ≤ length b.buffer.now → WroteAll b c y) → a.at + length (x ++ y) ≤ length a.buffer.now
    → WroteAll a c (x ++ y)
wrote_then {a} {b} {c} {x} {y} w next fits =
    let n = length-append x y in
    let first = wrote_all w (omega arith) in
    wrote_both first (next (omega (arith, first.place, first.same_length))) (omega arith)

-- no bytes
pub wrote_none : (w : Writer) → w.at ≤ length w.buffer.now → WroteAll w w []
wrote_none w fits = wrote_room (omega arith) (sym (after_none w.buffer.now w.at fits)) (omega arith) refl

-- a writer that writes no byte is as it was, wherever it stands
pub wrote_nothing : (w : Writer) → Wrote w w []
wrote_nothing w =
    let b = w.buffer.now in
    by_lt (length b) (w.at + 0)
    (λ k. record { buffer = (kept b w.at [] k).1; place = sym (place_stays b w.at [] k); same_reference = refl })
    (λ k. record { buffer = sym (after_none b w.at (omega arith)); place = omega (arith, place_on b w.at [] k); same_reference = refl })

-- ## The room, by its test

-- by what is left after a position
pub short_same : (room at bytes : ℕ) → at ≤ room → ltb (room - at) bytes ≡ ltb room (at + bytes)
short_same room at bytes h =
    by_lt room (at + bytes)
    (λ k. lt-ltb (room - at) bytes (omega arith) ∙ sym (lt-ltb room (at + bytes) k))
    (λ k. le-ltb (room - at) bytes (omega arith) ∙ sym (le-ltb room (at + bytes) k))

module _ (buffer : List ℕ) (at : ℕ) (bytes : List ℕ) where
  pub no_room_answer : ltb (length buffer) (at + length bytes) ≡ true → refused 30 ≡ written buffer at bytes
  no_room_answer h = (kept buffer at bytes (ltb-true _ _ h)).0

  pub room_answer : ltb (length buffer) (at + length bytes) ≡ false → answer (length bytes) ≡ written buffer at bytes
  room_answer h = sym (written_all buffer at bytes (ltb-false _ _ h))

-- where there is no room, the writer is as it was
pub none_written : (w : Writer) (bytes : List ℕ) → ltb (length w.buffer.now) (w.at + length bytes) ≡ true → Wrote w w bytes
none_written w bytes h =
    record {
      buffer = (kept w.buffer.now w.at bytes (ltb-true _ _ h)).1;
      place = sym (place_stays w.buffer.now w.at bytes (ltb-true _ _ h));
      same_reference = refl;
    }

-- where there is, the bytes stand there and the writer is past them
pub all_written : (old new : Writer) (bytes : List ℕ) → ltb (length old.buffer.now) (old.at + length bytes) ≡ false
    → new.buffer.now ≡ after old.buffer.now old.at bytes → new.at ≡ old.at + length bytes → new.buffer.ghost_name ≡ old.buffer.ghost_name → Wrote old new bytes
all_written old new bytes h e p g =
    record { buffer = e; place = p ∙ sym (place_on old.buffer.now old.at bytes (ltb-false _ _ h)); same_reference = g }

-- bytes in the place of as many of the buffer's
pub copied : (buffer : List ℕ) (at : ℕ) (bytes : List ℕ) {new : List ℕ} → new ≡ bytes → ltb (length buffer) (at + length bytes) ≡ false
    → put_mid at (at + length bytes - at) buffer new ≡ after buffer at bytes
copied buffer at bytes e h =
    let r : at + length bytes ≤ length buffer = ltb-false _ _ h in
    let k : length bytes ≡ at + length bytes - at = omega arith in
    put_mid-paste at _ buffer _ bytes (length bytes) e k refl
    ∙ ap (λ (t : List ℕ). take at buffer ++ t ++ drop (at + length bytes) buffer) (take-length bytes)
    ∙ sym (sets-eq bytes buffer at r)
    ∙ sym (after_all buffer at bytes r)

-- one byte
module _ (w : Writer) (byte : ℕ) where
  pub no_byte : length w.buffer.now ≤ w.at → (refused 30 ≡ written w.buffer.now w.at (byte ∷ [])) × Wrote w w (byte ∷ [])
  no_byte h = let s : ltb (length w.buffer.now) (w.at + 1) ≡ true = lt-ltb _ _ (omega arith) in (no_room_answer w.buffer.now w.at (byte ∷ []) s, none_written w (byte ∷ []) s)

  pub one_byte : (new : Writer) → w.at < length w.buffer.now → new.buffer.now ≡ set w.buffer.now w.at byte → new.at ≡ w.at + 1 → new.buffer.ghost_name ≡ w.buffer.ghost_name
      → (answer 1 ≡ written w.buffer.now w.at (byte ∷ [])) × Wrote w new (byte ∷ [])
  one_byte new h e p g =
      let s : ltb (length w.buffer.now) (w.at + 1) ≡ false = le-ltb _ _ (omega arith) in
      (room_answer w.buffer.now w.at (byte ∷ []) s, all_written w new (byte ∷ []) s (e ∙ sym (after_all w.buffer.now w.at (byte ∷ []) (omega arith))) p g)

-- ## A writer that tests the room for all that it writes, and then writes it in parts

module _ (w : Writer) (bytes : List ℕ) {whole : ℕ} (n : whole ≡ length bytes) where
  pub whole_fits : ltb (length w.buffer.now) (w.at + whole) ≡ false → w.at + length bytes ≤ length w.buffer.now
  whole_fits h = omega (arith, ltb-false _ _ h)

  pub whole_short : ltb (length w.buffer.now) (w.at + whole) ≡ true → (refused 30 ≡ written w.buffer.now w.at bytes) × Wrote w w bytes
  whole_short h =
      let k : ltb (length w.buffer.now) (w.at + length bytes) ≡ true = rw (← n) h in
      (no_room_answer w.buffer.now w.at bytes k, none_written w bytes k)

  pub whole_wrote : {new : Writer} → ltb (length w.buffer.now) (w.at + whole) ≡ false → WroteAll w new bytes
      → (answer whole ≡ written w.buffer.now w.at bytes) × Wrote w new bytes
  whole_wrote h v = (ap answer n ∙ sym (written_all w.buffer.now w.at bytes (whole_fits h)), wrote_of v (whole_fits h))
