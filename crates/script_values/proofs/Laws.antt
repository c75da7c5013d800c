-- The bytes of a line: what a writer wrote is put, and the bytes of a section are put again and again.
use Rattle.std.specs.Prelude.{Some}
use Rattle.std.proofs.Common.{◌≡◌, ℕ, suc, ◌+◌, ◌-◌, ◌<◌, ◌≤◌, Bool, true, false, cond, List, [], ◌∷◌, length, get_or, refl, ap, sym, ◌∙◌, arith, lt-ltb, le-ltb, length-set}
use Rattle.rules.specs.Answers.{Answer, answer, refused, or_else}
use Rattle.rules.specs.Buffers.{room, written, after}
use Rattle.rules.proofs.Buffers.{after_all, kept}
use Rattle.rules.proofs.Cases.{by_lt}
use Rattle.writer.specs.Writing.{place_after, Wrote}
use Rattle.writer.specs.declared.Writer.{Writer}
use Rattle.writer.proofs.Writing.{place_on, place_stays}
use Rattle.number.specs.Number.{bytes_of}
use Rattle.script.specs.declared.Item.{Item}
use Rattle.script.specs.declared.Item.TheVariants.{Word}
use Rattle.script_values.specs.Values.{narrowed}
use Rattle.script_values.specs.Bytes.{Given, given_by, byte_put, number_put, entry_put, until_from, bytes_until, bytes_from}

abbrev given : ℕ → List ℕ → Given
given i x = record { count = i; bytes = x }

same_given : {i j : ℕ} {x y : List ℕ} → i ≡ j → x ≡ y → given i x ≡ given j y
same_given e f = rw (e, f)

-- a number that was written after the bytes that are given, and three of them that are an entry; a word `until` goes back to no other place
pub number_put_lem : (v : ℕ) (g : Given) (t : Answer ℕ) {new : List ℕ} → written g.bytes g.count (bytes_of (narrowed v)) ≡ t
    → new ≡ after g.bytes g.count (bytes_of (narrowed v)) → (g.count + or_else t 0 ≡ (number_put v g).count) × (new ≡ (number_put v g).bytes)
unfolding number_put
number_put_lem v g t e f = (ap (λ a. g.count + or_else a 0) (sym e), f)

pub entry_put_lem : (id : ℕ) (g : Given) {x y z : Given} → x ≡ number_put id g → y ≡ number_put 1 x → z ≡ number_put 0 y → z ≡ entry_put id g
entry_put_lem id g e f h = h ∙ ap (number_put 0) (f ∙ ap (number_put 1) e)

pub bytes_until_lem : (items : List Item) (from : ℕ) (g : Given) → bytes_from (Word (Some 117) ∷ items) from g ≡ bytes_from items from g
unfolding bytes_from
bytes_until_lem items from g = refl

-- a writer's place after some bytes, as it counts them
placed : (buffer : List ℕ) (at : ℕ) (bytes : List ℕ) → place_after buffer at bytes ≡ at + or_else (written buffer at bytes) 0
unfolding place_after written
placed buffer at bytes = go (room buffer at bytes)
  where
    go : (r : Bool) → cond r (at + length bytes) at ≡ at + or_else (cond r (answer (length bytes)) (refused 30)) 0
    go true = refl
    go false = omega arith

pub number_wrote : (value : ℕ) {v : ℕ} {old new : Writer} → v ≡ narrowed value → Wrote old new (bytes_of v) → given_by new ≡ number_put value (given_by old)
unfolding number_put
number_wrote value {v} {old} {new} e w =
    rw (← e) (same_given (w.place ∙ placed old.buffer.now old.at (bytes_of v)) w.buffer)

pub byte_wrote : (byte : ℕ) {old new : Writer} → Wrote old new (byte ∷ []) → given_by new ≡ byte_put byte (given_by old)
unfolding byte_put
byte_wrote byte {old} {new} w =
    by_lt old.at (length old.buffer.now)
    (λ h. rw (lt-ltb _ _ h) (same_given (w.place ∙ place_on old.buffer.now old.at (byte ∷ []) (omega arith)) (w.buffer ∙ after_all old.buffer.now old.at (byte ∷ []) (omega arith))))
    (λ h. rw (le-ltb _ _ h) (same_given (w.place ∙ place_stays old.buffer.now old.at (byte ∷ []) (omega arith)) (w.buffer ∙ sym (kept old.buffer.now old.at (byte ∷ []) (omega arith)).1)))

-- ## The bytes of a section, again and again

-- a byte for which there is room
pub one_more : (byte : ℕ) (g : Given) {more : Given} → g.count < length g.bytes → more ≡ byte_put byte g
    → (more.count ≡ g.count + 1) × (length more.bytes ≡ length g.bytes)
unfolding byte_put
one_more byte g h m = rw (m, lt-ltb _ _ h, length-set) (refl, refl)

module _ (end at : ℕ) (g : Given) where
  pub until_full : length g.bytes ≤ g.count → bytes_until end at g ≡ g
  unfolding bytes_until until_from
  until_full h = let z : length g.bytes - g.count ≡ 0 = omega arith in rw z

  module _ (h : g.count < length g.bytes) where
    left : length g.bytes - g.count ≡ suc (length g.bytes - (g.count + 1))
    left = omega arith

    pub until_at : g.count ≤ at → bytes_until end at g ≡ g
    unfolding bytes_until until_from
    until_at k = rw (left, le-ltb _ _ k)

    pub until_end : at < g.count → end ≤ g.count → bytes_until end at g ≡ g
    unfolding bytes_until until_from
    until_end l k = rw (left, lt-ltb _ _ l, le-ltb _ _ k)

    pub until_more : {next : ℕ} {more : Given} → at < g.count → g.count < end → next ≡ at + 1 → more ≡ byte_put (get_or g.bytes at 0) g
        → bytes_until end next more ≡ bytes_until end at g
    unfolding bytes_until until_from byte_put
    until_more l k e m = rw (left, lt-ltb _ _ l, lt-ltb _ _ k, e, m, lt-ltb _ _ h, length-set)
