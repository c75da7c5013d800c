-- What three numbers drawn one after another are, each from those before it.
use Rattle.std.proofs.Common.{◌≡◌, ℕ, List, ap, sym, ◌∙◌}
use Rattle.rules.specs.Answers.{Answer}
use Rattle.number.specs.Number.{found, number_at}
use Rattle.reader.specs.Drawing.{drawn, moved, Draws}

-- a reader that moves on over the same bytes makes three draws
pub draws : {bytes b₀ b₁ b₂ : List ℕ} {at a p q next : ℕ} {first second third : Answer ℕ} → b₀ ≡ bytes → a ≡ at
    → first ≡ drawn (number_at b₀ a) → p ≡ moved (number_at b₀ a) → b₁ ≡ b₀
    → second ≡ drawn (number_at b₁ p) → q ≡ moved (number_at b₁ p) → b₂ ≡ b₁
    → third ≡ drawn (number_at b₂ q) → next ≡ moved (number_at b₂ q) → Draws bytes at first second third next
draws {bytes} {b₁ = b₁} {b₂ = b₂} {at = at} {p = p} {q = q} x y f i u s j v t k =
    let e : b₁ ≡ bytes = cc in
    let g : b₂ ≡ bytes = cc in
    record {
      p = p;
      q = q;
      first_is = rw (x, y) at f;
      p_is = rw (x, y) at i;
      second_is = rw e at s;
      q_is = rw e at j;
      third_is = rw g at t;
      next_is = rw g at k;
    }

module _ {bytes : List ℕ} {at : ℕ} {first second third : Answer ℕ} {next : ℕ} (d : Draws bytes at first second third next) where
  -- the first is the number at the place, and what comes after it begins where that number ends
  pub first_drawn : (first ≡ drawn (number_at bytes at)) × (d.p ≡ moved (number_at bytes at))
  first_drawn = (d.first_is, d.p_is)

  -- where the first number stands, the second is drawn after it
  pub second_drawn : {v p : ℕ} → found v p ≡ number_at bytes at → (second ≡ drawn (number_at bytes p)) × (d.q ≡ moved (number_at bytes p))
  second_drawn {p = p} h =
      let e : d.p ≡ p = d.p_is ∙ ap moved (sym h) in
      (rw e at d.second_is, rw e at d.q_is)

  -- and where that stands, the third after it, and then the place after the third
  pub third_drawn : {v p w s : ℕ} → found v p ≡ number_at bytes at → found w s ≡ number_at bytes p → (third ≡ drawn (number_at bytes s)) × (next ≡ moved (number_at bytes s))
  third_drawn {s = s} h i =
      let e : d.q ≡ s = (second_drawn h).1 ∙ ap moved (sym i) in
      (rw e at d.third_is, rw e at d.next_is)
