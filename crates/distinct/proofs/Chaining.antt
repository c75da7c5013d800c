-- The walk along a chain, and one id more in the chains.
use mathlib.Core.Path.{◌≡◌, ap, sym, ◌∙◌}
use mathlib.Core.Bool.{Bool, false}
use mathlib.Core.List.{List}
use Prim.Native.Nat.{ℕ, suc, ◌+◌, ◌≤◌, ◌<◌}
use native.Mathlib.Omega.{arith}
use lib.ListN.{length, get_or, set, replicate, length-set, length-replicate, get_or-replicate}
use lib.Seq.{get_or-set_same, get_or-set_other}
use borrow.Author.Count.{below_more}
use Rattle.rules.specs.Capacities.{row_capacity}
use Rattle.rules.proofs.Cases.{by_eq, by_lt}
use Rattle.distinct.specs.Inside.Chains.{slots, slot_of, slot_at, Links, Heads, Chained, InChain}
use Rattle.distinct.proofs.Differing.{Differ}

-- the walk is at a link: of the ids passed none in x's slot is x
pub record Walk (ids : List ℕ) (count link x at : ℕ) : Type 0 where
  pub within : at ≤ count
  pub alike : (m : ℕ) → at ≡ suc m → slot_at ids m ≡ slot_of x
  pub passed : (j : ℕ) → at ≤ j → j < link → slot_at ids j ≡ slot_of x → get_or ids j 0 ≡ x → ⊥

pub walk_begun : {ids next : List ℕ} {count link x : ℕ} → Chained ids next count link x → Walk ids count link x link
walk_begun c = record { within = c.within; alike = c.alike; passed = λ j h k. absurd (omega arith) }

pub walk_on : {ids next : List ℕ} {count link x at row on : ℕ} → Links ids next count → Walk ids count link x at → at ≡ suc row → (get_or ids row 0 ≡ x → ⊥) → on ≡ get_or next row 0
    → Walk ids count link x on
walk_on {ids} {next} {count} {link} {x} {at} {row} p w e f g =
    let r : row < count = omega (arith, w.within) in
    let s : slot_at ids row ≡ slot_of x = w.alike row e in
    record {
      within = omega (arith, p.falls row r);
      alike = λ m z. p.alike row r m (sym g ∙ z) ∙ s;
      passed = λ j h k z.
          by_lt j row
          (λ a. absurd (omega (arith, p.covers row r j a (z ∙ sym s))))
          (λ a. by_eq j row (λ b. rw b f) (λ b. w.passed j (omega arith) k z));
    }

pub links_none : (ids next : List ℕ) → Links ids next 0
links_none ids next = record { falls = λ k h. absurd (omega arith); alike = λ k h. absurd (omega arith); covers = λ k h. absurd (omega arith) }

pub heads_none : (ids : List ℕ) → Heads ids (replicate slots 0) 0
heads_none ids =
    record {
      within = λ h k. omega (arith, get_or-replicate {A = ℕ} slots h 0 0 k);
      alike = λ h k m e. absurd (omega (arith, get_or-replicate {A = ℕ} slots h 0 0 k));
      covers = λ j h. absurd (omega arith);
    }

module _ {ids head : List ℕ} {i s : ℕ} (e : s ≡ slot_at ids i) (b : s < slots) (o : Heads ids head i) where
  pub links_more : {next : List ℕ} → i < length next → Links ids next i → Links ids (set next i (get_or head s 0)) (i + 1)
  links_more {next} l p =
      let link = get_or head s 0 in
      let same : get_or (set next i link) i 0 ≡ link = get_or-set_same next i link 0 l in
      let other : (k : ℕ) → k < i → get_or (set next i link) k 0 ≡ get_or next k 0 = λ k h. get_or-set_other next i k link 0 (λ z. omega arith) in
      record {
        falls = below_more _ i (λ k h. rw (other k h) (p.falls k h)) (rw same (o.within s b));
        alike = below_more _ i (λ k h m z. p.alike k h m (sym (other k h) ∙ z)) (λ m z. o.alike s b m (sym same ∙ z) ∙ e);
        covers = below_more _ i (λ k h j x z. rw (other k h) (p.covers k h j x z))
            (λ j x z. rw (same, ← (z ∙ sym e)) (o.covers j x));
      }

  pub heads_more : s < length head → Heads ids (set head s (i + 1)) (i + 1)
  heads_more l =
      let same : get_or (set head s (i + 1)) s 0 ≡ i + 1 = get_or-set_same head s (i + 1) 0 l in
      let other : (h : ℕ) → (h ≡ s → ⊥) → get_or (set head s (i + 1)) h 0 ≡ get_or head h 0 = λ h z. get_or-set_other head s h (i + 1) 0 z in
      record {
        within = λ h k. by_eq h s (λ z. rw z (omega arith)) (λ z. omega (arith, other h z, o.within h k));
        alike = λ h k m f. by_eq h s
            (λ z. let g : m ≡ i = omega (arith, sym same ∙ ap (λ (n : ℕ). get_or (set head s (i + 1)) n 0) (sym z) ∙ f) in rw (g, z) (sym e))
            (λ z. o.alike h k m (sym (other h z) ∙ f));
        covers = λ j h. by_eq (slot_at ids j) s
            (λ z. rw z (omega arith))
            (λ z. by_lt j i (λ x. omega (arith, other (slot_at ids j) z, o.covers j x)) (λ x. let g : j ≡ i = omega arith in absurd (z (ap (slot_at ids) g ∙ sym e))));
      }

-- the chains of the first i ids, which all differ
pub record Chains (ids head next : List ℕ) (i : ℕ) : Type 0 where
  pub head_length : length head ≡ slots
  pub next_length : length next ≡ row_capacity
  pub heads : Heads ids head i
  pub links : Links ids next i
  pub differ : Differ ids i

pub chains_none : (ids : List ℕ) → Chains ids (replicate slots 0) (replicate row_capacity 0) 0
chains_none ids =
    record {
      head_length = length-replicate {A = ℕ} slots 0;
      next_length = length-replicate {A = ℕ} row_capacity 0;
      heads = heads_none ids;
      links = links_none ids _;
      differ = λ j h. absurd (omega arith);
    }

module _ {ids head next : List ℕ} {i s x : ℕ} (p : Chains ids head next i) (e : s ≡ slot_of x) (b : s < slots) where
  pub chained : {link : ℕ} → link ≡ get_or head s 0 → Chained ids next i link x
  chained f = record { links = p.links; within = omega (arith, p.heads.within s b); alike = λ m z. p.heads.alike s b m (sym f ∙ z) ∙ e }

  pub chains_more : {link : ℕ} {t : Bool} → x ≡ get_or ids i 0 → i < row_capacity → link ≡ get_or head s 0 → InChain ids i link x t → t ≡ false
      → Chains ids (set head s (i + 1)) (set next i (get_or head s 0)) (i + 1)
  chains_more {link} at h f c z =
      let g : s ≡ slot_at ids i = e ∙ ap slot_of at in
      record {
        head_length = simp length-set p.head_length;
        next_length = simp length-set p.next_length;
        heads = heads_more g b p.heads (omega (arith, p.head_length));
        links = links_more g b p.heads (omega (arith, p.next_length)) p.links;
        differ = below_more _ i p.differ
            (λ j k d.
            let w : slot_at ids j ≡ s = ap slot_of d ∙ sym g in
            c.none z j (omega (arith, p.heads.covers j k, ap (λ (n : ℕ). get_or head n 0) w)) (w ∙ e) (d ∙ sym at));
      }
