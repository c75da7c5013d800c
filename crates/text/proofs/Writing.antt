-- Digits written from the last to the first.
use mathlib.Core.Path.{◌≡◌, refl, ap, sym, ◌∙◌}
use mathlib.Core.List.{List, [], ◌∷◌, ◌++◌, append-nil}
use mathlib.Core.Logic.{◌⊎◌, inl, inr}
use Prim.Native.Nat.{ℕ, zero, suc, ◌+◌, ◌/◌, ◌%◌, ◌<◌, ◌≤◌}
use native.Mathlib.Omega.{arith}
use native.Mathlib.Numerals.{add-one}
use lib.ListN.{length, set, length-append}
use lib.Seq.{sets, length-sets, set_comm, append_snoc}
use Rattle.rules.specs.Buffers.{after}
use Rattle.rules.proofs.Buffers.{after_all}
use Rattle.rules.proofs.Cases.{by_lt}
use Rattle.text.specs.Decimal.{digits, decimal}
use Rattle.text.proofs.Laws.{one_digit, more_digits, more_count, cap}

-- ## Digits

empty : (s : List ℕ) → length s ≡ 0 → s ≡ []
empty [] e = refl
empty (x ∷ s) e = absurd (omega arith)

set_sets : (s vs : List ℕ) (i j a : ℕ) → j < i → set (sets s i vs) j a ≡ sets (set s j a) i vs
set_sets s [] i j a h = refl
set_sets s (v ∷ vs) i j a h =
    set_sets (set s i v) vs (suc i) j a (omega arith) ∙ ap (λ (t : List ℕ). sets t (suc i) vs) (set_comm s i j v a (λ e. omega arith))

-- the digits before i are still to write, and those after it stand: `left` has those of the former, and none are there at the end
pub record Writes (buffer₀ : List ℕ) (at n : ℕ) (buffer : List ℕ) (i left : ℕ) : Type 0 where
  pub front : List ℕ
  pub tail : List ℕ
  pub ahead : (front ≡ []) ⊎ ((more : ℕ) × (left < cap more) × (front ≡ digits more left))
  pub room : at + length (decimal n) ≤ length buffer₀
  pub whole : decimal n ≡ front ++ tail
  pub here : i ≡ at + length front
  pub wrote : buffer ≡ sets buffer₀ i tail

module _ {buffer₀ : List ℕ} {at n : ℕ} where
  pub begins : {count : ℕ} → n < 4294967296 → count ≡ length (decimal n) → at + length (decimal n) ≤ length buffer₀ → Writes buffer₀ at n buffer₀ (at + count) n
  unfolding decimal
  begins h e r =
      record {
        front = digits 9 n;
        tail = [];
        ahead = inr (9, (omega arith), refl);
        room = r;
        whole = sym (append-nil (digits 9 n));
        here = omega arith;
        wrote = refl;
      }

  pub same : {buffer : List ℕ} {i left : ℕ} → Writes buffer₀ at n buffer i left → length buffer ≡ length buffer₀
  same {buffer} {i} w = ap length w.wrote ∙ length-sets buffer₀ i w.tail

  -- there is a place to write to
  pub inside : {buffer : List ℕ} {i left : ℕ} → Writes buffer₀ at n buffer i left → i ≤ length buffer
  inside {buffer} {i} {left} w = omega (arith, same w, w.here, w.room, ap length w.whole, length-append w.front w.tail)

  put : {buffer : List ℕ} {i left : ℕ} (j : ℕ) (w : Writes buffer₀ at n buffer i left) (d : ℕ) → i ≡ j + 1 → set buffer j d ≡ sets buffer₀ j (d ∷ w.tail)
  put {buffer} {i} {left} j w d e =
      ap (λ (b : List ℕ). set b j d) w.wrote
      ∙ set_sets buffer₀ w.tail i j d (omega arith)
      ∙ ap (λ (k : ℕ). sets (set buffer₀ j d) k w.tail) (e ∙ add-one j)

  goes : (buffer : List ℕ) (j left k : ℕ) (tail : List ℕ) → left < cap k → at + length (decimal n) ≤ length buffer₀ → decimal n ≡ digits k left ++ tail
      → j + 1 ≡ at + length (digits k left) → set buffer j (left % 10 + 48) ≡ sets buffer₀ j ((left % 10 + 48) ∷ tail)
      → Writes buffer₀ at n (set buffer j (left % 10 + 48)) j (left / 10)
  goes buffer j left k tail f r w e s =
      by_lt left 10
      (λ h.
      let one = one_digit k left h in
      let l : left % 10 ≡ left = omega arith in
      record {
        front = [];
        tail = (left % 10 + 48) ∷ tail;
        ahead = inl refl;
        room = r;
        whole = w ∙ ap (λ (x : List ℕ). x ++ tail) one ∙ ap (λ (d : ℕ). (d + 48) ∷ tail) (sym l);
        here = omega (arith, ap length one);
        wrote = s;
      })
      (λ h. more buffer j left k tail f r w e s h)
    where
      more : (buffer : List ℕ) (j left k : ℕ) (tail : List ℕ) → left < cap k → at + length (decimal n) ≤ length buffer₀ → decimal n ≡ digits k left ++ tail
          → j + 1 ≡ at + length (digits k left) → set buffer j (left % 10 + 48) ≡ sets buffer₀ j ((left % 10 + 48) ∷ tail) → 10 ≤ left
          → Writes buffer₀ at n (set buffer j (left % 10 + 48)) j (left / 10)
      more buffer j left zero tail f r w e s h = absurd (omega arith)
      more buffer j left (suc k) tail f r w e s h =
          let c = more_count k left h in
          record {
            front = digits k (left / 10);
            tail = (left % 10 + 48) ∷ tail;
            ahead = inr (k, (omega arith), refl);
            room = r;
            whole = w ∙ ap (λ (x : List ℕ). x ++ tail) (more_digits k left h) ∙ append_snoc (digits k (left / 10)) _ tail;
            here = omega arith;
            wrote = s;
          }

  goes_as : (buffer : List ℕ) (i j left : ℕ) (front tail : List ℕ) → (front ≡ []) ⊎ ((more : ℕ) × (left < cap more) × (front ≡ digits more left))
      → at + length (decimal n) ≤ length buffer₀ → decimal n ≡ front ++ tail → i ≡ at + length front → i ≡ j + 1 → at ≤ j
      → set buffer j (left % 10 + 48) ≡ sets buffer₀ j ((left % 10 + 48) ∷ tail)
      → Writes buffer₀ at n (set buffer j (left % 10 + 48)) j (left / 10)
  goes_as buffer i j left front tail (inl z) r w e k l s = absurd (omega (arith, ap length z))
  goes_as buffer i j left front tail (inr m) r w e k l s =
      goes buffer j left m.0 tail m.1 r (w ∙ ap (λ (x : List ℕ). x ++ tail) m.2) (omega (arith, ap length m.2)) s

  pub goes_on : {buffer : List ℕ} {i left : ℕ} (j : ℕ) → Writes buffer₀ at n buffer i left → i ≡ j + 1 → at ≤ j
      → Writes buffer₀ at n (set buffer j (left % 10 + 48)) j (left / 10)
  goes_on {buffer} {i} {left} j w e l = goes_as buffer i j left w.front w.tail w.ahead w.room w.whole w.here e l (put j w (left % 10 + 48) e)

  pub ends : {buffer : List ℕ} {i left : ℕ} → Writes buffer₀ at n buffer i left → i ≤ at → buffer ≡ after buffer₀ at (decimal n)
  ends {buffer} {i} {left} w h =
      let z : length w.front ≡ 0 = omega (arith, w.here) in
      let e : i ≡ at = omega (arith, w.here) in
      let all : decimal n ≡ w.tail = w.whole ∙ ap (λ (x : List ℕ). x ++ w.tail) (empty w.front z) in
      w.wrote ∙ ap (λ (j : ℕ). sets buffer₀ j w.tail) e ∙ sym (after_all buffer₀ at (decimal n) w.room ∙ ap (sets buffer₀ at) all)
