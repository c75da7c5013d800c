-- What a certificate shows: every two ranges are disjoint.
use Rattle.std.proofs.Common.{◌≡◌, ℕ, ◌+◌, ◌<◌, ◌≤◌, List, get_or, sym, ap, ◌∙◌, inl, inr, arith, below_more}
use Rattle.rules.proofs.Cases.{by_lt}
use Rattle.coordinates.proofs.Ranges.{clear_apart}
use Rattle.separate.specs.Inside.Certificate.{start_at, past_at, InOrderTo, InOrder, AllApart}
use Rattle.separate.proofs.Pigeonhole.{every_met}

module _ (start size order : List ℕ) (count : ℕ) where
  -- the first k rows of the order, which end at `end` or below
  pub record Chain (k end : ℕ) : Type 0 where
    pub in_order : InOrderTo start size order count k
    pub ended : (a : ℕ) → a < k → past_at start size order a ≤ end

  pub chain_none : Chain 0 0
  chain_none =
      record {
        in_order = record { within = λ a h. absurd (omega arith); some = λ a h. absurd (omega arith); follows = λ b h. absurd (omega arith) };
        ended = λ a h. absurd (omega arith);
      }

  -- one row more, whose range begins at `own` and ends before `new`
  pub chain_more : (k : ℕ) {end row own new : ℕ} → Chain k end → row ≡ get_or order k 0 → row < count → own ≡ get_or start row 0 → end ≤ own
      → own + get_or size row 0 ≡ new → own < new → Chain (k + 1) new
  chain_more k {end} {row} {own} {new} c at w f h e g =
      let begins : start_at start order k ≡ own = ap (λ (n : ℕ). get_or start n 0) (sym at) ∙ sym f in
      let size_of : get_or size (get_or order k 0) 0 ≡ get_or size row 0 = ap (λ (n : ℕ). get_or size n 0) (sym at) in
      record {
        in_order =
            record {
              within = below_more _ k c.in_order.within (omega arith);
              some = below_more _ k c.in_order.some (omega arith);
              follows = below_more _ k c.in_order.follows (λ a x. omega (arith, c.ended a x));
            };
        ended = below_more _ k (λ a x. omega (arith, c.ended a x)) (omega arith);
      }

  pub chain_all : {k end : ℕ} → Chain k end → count ≤ k → InOrder start size order count
  chain_all c h =
      let o = c.in_order in
      record {
        within = λ a x. o.within a (omega arith);
        some = λ a x. o.some a (omega arith);
        follows = λ b x. o.follows b (omega arith);
      }

-- every row is in the order, since no row is in it twice
pub in_order_apart : {start size order : List ℕ} {count : ℕ} → InOrder start size order count → AllApart start size count
in_order_apart {start} {size} {order} {count} p j h i k =
    let once : (a b : ℕ) → a < b → b < count → get_or order a 0 ≡ get_or order b 0 → ⊥ = λ a b x y e.
    let s : start_at start order a ≡ start_at start order b = ap (λ (n : ℕ). get_or start n 0) e in
    omega (arith, p.some a (omega arith), p.follows b y a x) in
    let met = every_met count (λ a. get_or order a 0) p.within once in
    let m = met i (omega arith) in
    let n = met j h in
    let a = m.0 in
    let b = n.0 in
    let x : start_at start order a ≡ get_or start i 0 = ap (λ (r : ℕ). get_or start r 0) m.2 in
    let y : start_at start order b ≡ get_or start j 0 = ap (λ (r : ℕ). get_or start r 0) n.2 in
    let z : get_or size (get_or order a 0) 0 ≡ get_or size i 0 = ap (λ (r : ℕ). get_or size r 0) m.2 in
    let w : get_or size (get_or order b 0) 0 ≡ get_or size j 0 = ap (λ (r : ℕ). get_or size r 0) n.2 in
    clear_apart _ _ _ _ (omega (arith, p.some a m.1)) (omega (arith, p.some b n.1))
    (by_lt a b
    (λ l. inl (omega (arith, p.follows b n.1 a l)))
    (λ g. by_lt b a
    (λ l. inr (omega (arith, p.follows a m.1 b l)))
    (λ l.
    let e : a ≡ b = omega arith in
    absurd (let f : i ≡ j = sym m.2 ∙ ap (λ (r : ℕ). get_or order r 0) e ∙ n.2 in omega arith))))
