-- Numbering the trees of a forest, one after another: what is left, from here on, still makes the whole.
use mathlib.Core.Path.{◌≡◌, refl, ap, ap₂, sym, subst, ◌∙◌}
use mathlib.Core.Bool.{Bool, true, false}
use mathlib.Core.List.{List, [], ◌∷◌, ◌++◌, append_assoc, append-nil}
use Rattle.std.proofs.Common.{Option, Some, None}
use Prim.Native.Nat.{ℕ, zero, suc, ◌+◌, ◌-◌, ◌≤◌, ◌<◌}
use native.Mathlib.Omega.{arith}
use native.Mathlib.Numerals.{add-one}
use lib.ListN.{length, get_or, take, drop, set, length-set, length-drop, length-append, take-append-drop}
use lib.Seq.{take_all, take-suc-set, take-append_seam, take-append-add, length-take-le, append_snoc}
use borrow.Author.Tests.{lt-ltb, le-ltb}
use Rattle.coordinates.specs.Coordinates.{column_with}
use Rattle.boxes.specs.Boxes.{box_of, cut_into, next_child, corner_of, inner_of, corner_cut}
use Rattle.boxes.specs.declared.Box.{Box}
use Rattle.boxes.specs.declared.Cut.{Cut}
use Rattle.coordinates.proofs.Ranges.{writes}
use Rattle.boxes.proofs.Cuts.{parts, corner_parts}
use Rattle.request.specs.Entries.{Entry, quota}
use Rattle.request.specs.Forest.{Forest, none, tree}
use Rattle.request.specs.Numbering.{whole, size, lefts, rights, up_l, up_r, down_l, down_r}
use Rattle.reading.specs.declared.columns.Work.{Work}
use Rattle.reading.specs.Inside.Work.{TreesIn, direction_by}
use Rattle.numbering.specs.Inside.Boxed.{trees_of, forest_in, Boxed, BoxedIn}
use Rattle.rules.specs.Limits.{greatest}

-- the trees that stand in the work columns are those that the columns show
pub forest_back : (most : ℕ) (w : Work) (at to : ℕ) (t : Forest) → TreesIn w at t → to ≡ at + size t → size t ≤ most → trees_of most w at to ≡ t
unfolding trees_of
forest_back zero w at to none s e h = refl
forest_back (suc most) w at to none s e h = rw (le-ltb at to (omega arith))
forest_back zero w at to (tree i c f) s e h = absurd (omega arith)
forest_back (suc most) w at to (tree i c f) s e h =
    let g = s.0.end_is in
    rw (
      lt-ltb at to (omega arith),
      s.0.id_is,
      s.0.quota_is,
      g,
      forest_back most w (at + 1) (at + 1 + size c) c s.2 refl (omega arith),
      forest_back most w (at + 1 + size c) to f s.3 (omega arith) (omega arith),
    )

-- the box of the first tree, of the subtree quota s, in a box of the quota b
abbrev pub child_of : ℕ → ℕ → ℕ → ℕ → Box
child_of l r b s = box_of l (r + (b - s)) s

-- the numbers of a forest, by the boxes of its first tree
module _ (e : Entry) (q : ℕ) (own : quota e ≡ q) (c f : Forest) (l r b : ℕ) (fits : q + (whole c + whole f) ≡ b) where
  pub lefts_tree : (up : Bool) → lefts (direction_by up) l (tree e c f)
      ≡ (corner_of up (child_of l r b (q + whole c)) q).l.0 ∷ lefts (direction_by up) (inner_of up (child_of l r b (q + whole c)) q).l.0 c ++ lefts (direction_by up) (l + (q + whole c)) f
  lefts_tree true = rw own (let e : l + q + whole c ≡ l + (q + whole c) = omega arith in ap (λ n. l ∷ up_l (l + q) c ++ up_l n f) e)
  lefts_tree false = rw own (
      let e : l + whole c + q ≡ l + (q + whole c) = omega arith in
      let g : l + whole c ≡ l + (q + whole c - q) = omega arith in
      ap₂ (λ m n. m ∷ down_l l c ++ down_l n f) g e)

  pub rights_tree : (up : Bool) → rights (direction_by up) r (tree e c f)
      ≡ (corner_of up (child_of l r b (q + whole c)) q).r.0 ∷ rights (direction_by up) (inner_of up (child_of l r b (q + whole c)) q).r.0 c ++ rights (direction_by up) r f
  rights_tree true = rw own (let e : r + whole f ≡ r + (b - (q + whole c)) = omega arith in ap (λ n. n ∷ up_r (n + q) c ++ up_r r f) e)
  rights_tree false =
      let e : r + whole f ≡ r + (b - (q + whole c)) = omega arith in
      let g : whole c ≡ q + whole c - q = omega arith in
      ap₂ (λ m n. (m + n) ∷ down_r m c ++ down_r r f) e g

-- as many numbers as entries
up_l_length : (b : ℕ) (t : Forest) → length (up_l b t) ≡ size t
up_l_length b none = refl
up_l_length b (tree i c f) = ap suc (length-append (up_l (b + quota i) c) _ ∙ ap₂ ◌+◌ (up_l_length (b + quota i) c) (up_l_length (b + quota i + whole c) f))

up_r_length : (b : ℕ) (t : Forest) → length (up_r b t) ≡ size t
up_r_length b none = refl
up_r_length b (tree i c f) = ap suc (length-append (up_r (b + whole f + quota i) c) _ ∙ ap₂ ◌+◌ (up_r_length (b + whole f + quota i) c) (up_r_length b f))

down_l_length : (b : ℕ) (t : Forest) → length (down_l b t) ≡ size t
down_l_length b none = refl
down_l_length b (tree i c f) = ap suc (length-append (down_l b c) _ ∙ ap₂ ◌+◌ (down_l_length b c) (down_l_length (b + whole c + quota i) f))

down_r_length : (b : ℕ) (t : Forest) → length (down_r b t) ≡ size t
down_r_length b none = refl
down_r_length b (tree i c f) = ap suc (length-append (down_r (b + whole f) c) _ ∙ ap₂ ◌+◌ (down_r_length (b + whole f) c) (down_r_length b f))

pub lefts_length : (up : Bool) (b : ℕ) (t : Forest) → length (lefts (direction_by up) b t) ≡ size t
lefts_length true b t = up_l_length b t
lefts_length false b t = down_l_length b t

pub rights_length : (up : Bool) (b : ℕ) (t : Forest) → length (rights (direction_by up) b t) ≡ size t
rights_length true b t = up_r_length b t
rights_length false b t = down_r_length b t

size_zero : (t : Forest) → size t ≡ 0 → t ≡ none
size_zero none e = refl
size_zero (tree i c f) e = absurd (omega arith)

-- no trees, no numbers
lefts_none : (up : Bool) (b : ℕ) → lefts (direction_by up) b none ≡ []
lefts_none true b = refl
lefts_none false b = refl

rights_none : (up : Bool) (b : ℕ) → rights (direction_by up) b none ≡ []
rights_none true b = refl
rights_none false b = refl

-- from entry p on, the trees that are left are to be numbered in a box (bl, br, b); ls and rs are what the whole is to be
pub record Numbers (w : Work) (up : Bool) (from to : ℕ) (ls rs : List ℕ) (p bl br b : ℕ) (l r : List ℕ) : Type 0 where
  pub trees : Forest
  pub stored : TreesIn w p trees
  pub ends_at : to ≡ p + size trees
  pub fits : whole trees ≡ b
  pub l_end : bl + b ≤ (greatest + 1)
  pub r_end : br + b ≤ (greatest + 1)
  pub behind : from ≤ p
  pub l_length : length l ≡ to - from
  pub r_length : length r ≡ to - from
  pub l_whole : take (p - from) l ++ lefts (direction_by up) bl trees ≡ ls
  pub r_whole : take (p - from) r ++ rights (direction_by up) br trees ≡ rs

-- the first of those trees
pub record Here (w : Work) (up : Bool) (from to : ℕ) (ls rs : List ℕ) (p bl br b : ℕ) (l r : List ℕ) : Type 0 where
  pub children : Forest
  pub others : Forest
  pub root : Entry
  pub own : quota root ≡ get_or w.quotas p 0
  pub end_is : get_or w.ends p 0 ≡ p + 1 + size children
  pub sum_is : get_or w.sums p 0 ≡ get_or w.quotas p 0 + whole children
  pub some : 1 ≤ get_or w.quotas p 0
  pub most : get_or w.quotas p 0 ≤ greatest
  pub stored_children : TreesIn w (p + 1) children
  pub stored_others : TreesIn w (p + 1 + size children) others
  pub ends_at : to ≡ p + 1 + size children + size others
  pub fits : get_or w.quotas p 0 + (whole children + whole others) ≡ b
  pub l_end : bl + b ≤ (greatest + 1)
  pub r_end : br + b ≤ (greatest + 1)
  pub behind : from ≤ p
  pub l_length : length l ≡ to - from
  pub r_length : length r ≡ to - from
  pub l_whole : take (p - from) l ++ lefts (direction_by up) bl (tree root children others) ≡ ls
  pub r_whole : take (p - from) r ++ rights (direction_by up) br (tree root children others) ≡ rs

module _ {w : Work} {up : Bool} {from to : ℕ} {ls rs : List ℕ} {p bl br b : ℕ} {l r : List ℕ} where
  open_tree : (t : Forest) → TreesIn w p t → to ≡ p + size t → whole t ≡ b → bl + b ≤ (greatest + 1) → br + b ≤ (greatest + 1) → from ≤ p → length l ≡ to - from
      → length r ≡ to - from → take (p - from) l ++ lefts (direction_by up) bl t ≡ ls → take (p - from) r ++ rights (direction_by up) br t ≡ rs → p < to
      → Here w up from to ls rs p bl br b l r
  open_tree none s e f le re bh ll rl lw rw' h = absurd (omega arith)
  open_tree (tree i c g) s e f le re bh ll rl lw rw' h =
      let own = s.0.quota_is in
      record {
        children = c;
        others = g;
        root = i;
        own = sym own;
        end_is = s.0.end_is;
        sum_is = s.0.sum_is ∙ ap (λ n. n + whole c) (sym own);
        some = rw own s.1.0;
        most = rw own s.1.1;
        stored_children = s.2;
        stored_others = s.3;
        ends_at = omega arith;
        fits = rw own f;
        l_end = le;
        r_end = re;
        behind = bh;
        l_length = ll;
        r_length = rl;
        l_whole = lw;
        r_whole = rw';
      }

  pub here : Numbers w up from to ls rs p bl br b l r → p < to → Here w up from to ls rs p bl br b l r
  here n h =
      open_tree n.trees n.stored n.ends_at n.fits n.l_end n.r_end n.behind n.l_length n.r_length n.l_whole n.r_whole h

  -- nothing is left
  pub done : Numbers w up from to ls rs p bl br b l r → to ≤ p → (l ≡ ls) × (r ≡ rs)
  done n h =
      let z = size_zero n.trees (let e = n.ends_at in omega arith) in
      let k : p - from ≡ to - from = let e = n.ends_at in omega arith in
      let all_l = ap (λ m. take m l) k ∙ take_all (to - from) l (let e = n.l_length in omega arith) in
      let all_r = ap (λ m. take m r) k ∙ take_all (to - from) r (let e = n.r_length in omega arith) in (
        sym (append-nil l) ∙ sym (ap₂ (λ x y. x ++ lefts (direction_by up) bl y) all_l z ∙ ap (λ x. l ++ x) (lefts_none up bl)) ∙ n.l_whole,
        sym (append-nil r) ∙ sym (ap₂ (λ x y. x ++ rights (direction_by up) br y) all_r z ∙ ap (λ x. r ++ x) (rights_none up br)) ∙ n.r_whole,
      )

pub begins : {w : Work} {up : Bool} {from to bl br b : ℕ} {l r : List ℕ} {t : Forest} → Boxed w from to bl br b l r t
    → Numbers w up from to (lefts (direction_by up) bl t) (rights (direction_by up) br t) from bl br b l r
begins {from = from} {to = to} {l = l} {r = r} {t = t} x =
    let z : from - from ≡ 0 = omega arith in
    record {
      trees = t;
      stored = x.stored;
      ends_at = x.ends_at;
      fits = x.fits;
      l_end = x.l_end;
      r_end = x.r_end;
      behind = omega arith;
      l_length = x.l_part ∙ (let e = x.ends_at in omega arith);
      r_length = x.r_part ∙ (let e = x.ends_at in omega arith);
      l_whole = rw z;
      r_whole = rw z;
    }

-- a place is written, and then the part after it: what stands up to the part's end
filled : (s ys : List ℕ) (i k e x : ℕ) → k ≡ i + 1 → k ≤ e → e ≤ length s → length ys ≡ e - k
    → take e (take k (set s i x) ++ (ys ++ drop (e - k) (drop k (set s i x)))) ≡ take i s ++ (x ∷ ys)
filled s ys i k e x ki ke es n =
    let m = length-set s i x in
    let lk : length (take k (set s i x)) ≡ k = length-take-le k (set s i x) (omega arith) in
    let split : e ≡ length (take k (set s i x)) + length ys = omega arith in
    let first : take k (set s i x) ≡ take i s ++ (x ∷ []) = rw (ki, add-one) (take-suc-set s i x (omega arith)) in
    ap (λ m. take m (take k (set s i x) ++ (ys ++ drop (e - k) (drop k (set s i x))))) split
    ∙ (take-append-add (take k (set s i x)) (ys ++ drop (e - k) (drop k (set s i x))) (length ys)
    ∙ rw (take-append_seam ys (drop (e - k) (drop k (set s i x))), first) (append_snoc (take i s) x ys))

filled_length : (s ys : List ℕ) (i k e x : ℕ) → k ≤ e → e ≤ length s → length ys ≡ e - k
    → length (take k (set s i x) ++ (ys ++ drop (e - k) (drop k (set s i x)))) ≡ length s
filled_length s ys i k e x ke es n =
    let m = length-set s i x in
    let lk : length (take k (set s i x)) ≡ k = length-take-le k (set s i x) (omega arith) in
    rw (
      length-append (take k (set s i x)) (ys ++ drop (e - k) (drop k (set s i x))),
      length-append ys (drop (e - k) (drop k (set s i x))),
      length-drop (e - k)
          (drop k (set s i x)),
      length-drop k (set s i x),
    )
    (omega arith)

-- nothing is filled after the place that is written
unfilled : (s : List ℕ) (k e : ℕ) → e ≡ k → take k s ++ ([] ++ drop (e - k) (drop k s)) ≡ s
unfilled s k e h = let z : e - k ≡ 0 = omega arith in ap (λ n. take k s ++ drop n (drop k s)) z ∙ take-append-drop k s

-- a parent that has the whole box stands where the box begins
corner_whole : (up : Bool) (box : Box) (own : ℕ) → own ≡ box.quota → corner_of up box own ≡ box
corner_whole true box own e = ap (λ n. box_of box.l.0 box.r.0 n) e
corner_whole false box own e =
    let l : box.l.0 + (box.quota - own) ≡ box.l.0 = omega arith in
    let r : box.r.0 + (box.quota - own) ≡ box.r.0 = omega arith in
    ap₂ (λ m n. box_of m n own) l r ∙ ap (λ n. box_of box.l.0 box.r.0 n) e

-- the part of a work column that is lent to the children of entry p
pub part_length : (s : List ℕ) (p from end : ℕ) → from ≤ p → p < end → end - from ≤ length s
    → length (take (end - from - (p - from + 1)) (drop (p - from + 1) s)) ≡ end - (p + 1)
part_length s p from end bh h es =
    length-take-le (end - from - (p - from + 1)) (drop (p - from + 1) s) (rw (length-drop (p - from + 1) s) (omega arith)) ∙ omega arith

module _ {w : Work} {up : Bool} {from to : ℕ} {ls rs : List ℕ} {p bl br b : ℕ} {l r : List ℕ} (h : Here w up from to ls rs p bl br b l r) where
  -- the box of the first tree, and what is left
  pub cut : next_child (box_of bl br b) (get_or w.quotas p 0 + whole h.children)
      ≡ cut_into (child_of bl br b (get_or w.quotas p 0 + whole h.children)) (box_of (bl + (get_or w.quotas p 0 + whole h.children)) br (b - (get_or w.quotas p 0 + whole h.children)))
  cut =
      let f = h.fits in
      let le = h.l_end in
      let re = h.r_end in
      sym (parts (box_of bl br b) (get_or w.quotas p 0 + whole h.children) (omega arith) (omega arith) (omega arith))

  -- the children in their box
  pub inner_boxed : (ls' rs' : List ℕ) → length ls' ≡ size h.children → length rs' ≡ size h.children → (child : Box) → child ≡ child_of bl br b (get_or w.quotas p 0 + whole h.children)
      → Boxed w (p + 1) (p + 1 + size h.children) (inner_of up child (get_or w.quotas p 0)).l.0 (inner_of up child (get_or w.quotas p 0)).r.0
      (inner_of up child (get_or w.quotas p 0)).quota ls' rs' h.children
  inner_boxed ls' rs' nl nr child e = rw e (go up)
    where
      go : (v : Bool) → Boxed w (p + 1) (p + 1 + size h.children) (inner_of v (child_of bl br b (get_or w.quotas p 0 + whole h.children)) (get_or w.quotas p 0)).l.0
          (inner_of v (child_of bl br b (get_or w.quotas p 0 + whole h.children)) (get_or w.quotas p 0)).r.0
          (inner_of v (child_of bl br b (get_or w.quotas p 0 + whole h.children)) (get_or w.quotas p 0)).quota ls' rs' h.children
      go true = let f = h.fits in let le = h.l_end in let re = h.r_end in
          record { stored = h.stored_children; ends_at = refl; fits = omega arith; l_end = omega arith; r_end = omega arith; l_part = nl; r_part = nr }
      go false = let f = h.fits in let le = h.l_end in let re = h.r_end in
          record { stored = h.stored_children; ends_at = refl; fits = omega arith; l_end = omega arith; r_end = omega arith; l_part = nl; r_part = nr }

  -- the root's place has 32 bits
  corner_fits : (child : Box) → child ≡ child_of bl br b (get_or w.quotas p 0 + whole h.children)
      → ((corner_of up child (get_or w.quotas p 0)).l.0 ≤ greatest) × ((corner_of up child (get_or w.quotas p 0)).r.0 ≤ greatest)
  corner_fits child e = rw e (go up)
    where
      go : (v : Bool) → ((corner_of v (child_of bl br b (get_or w.quotas p 0 + whole h.children)) (get_or w.quotas p 0)).l.0 ≤ greatest)
          × ((corner_of v (child_of bl br b (get_or w.quotas p 0 + whole h.children)) (get_or w.quotas p 0)).r.0 ≤ greatest)
      go true = let f = h.fits in let le = h.l_end in let re = h.r_end in let o = h.some in (omega arith, omega arith)
      go false = let f = h.fits in let le = h.l_end in let re = h.r_end in let o = h.some in (omega arith, omega arith)

  -- the first tree is numbered: its root's place is written and its children's parts are filled
  step : (i k e : ℕ) (ys zs : List ℕ) (child : Box) → i ≡ p - from → k ≡ i + 1 → e ≡ p + 1 + size h.children - from → child ≡ child_of bl br b (get_or w.quotas p 0 + whole h.children)
      → ys ≡ lefts (direction_by up) (inner_of up child (get_or w.quotas p 0)).l.0 h.children → length ys ≡ size h.children
      → zs ≡ rights (direction_by up) (inner_of up child (get_or w.quotas p 0)).r.0 h.children → length zs ≡ size h.children
      → Numbers w up from to ls rs (p + 1 + size h.children) (bl + (get_or w.quotas p 0 + whole h.children)) br (b - (get_or w.quotas p 0 + whole h.children))
      (take k (set l i (corner_of up child (get_or w.quotas p 0)).l.0) ++ (ys ++ drop (e - k) (drop k (set l i (corner_of up child (get_or w.quotas p 0)).l.0))))
      (take k (set r i (corner_of up child (get_or w.quotas p 0)).r.0) ++ (zs ++ drop (e - k) (drop k (set r i (corner_of up child (get_or w.quotas p 0)).r.0))))
  step i k e ys zs child ei ek ee ec ey ny ez nz =
      let f = h.fits in
      let le = h.l_end in
      let re = h.r_end in
      let bh = h.behind in
      let ea = h.ends_at in
      let ll = h.l_length in
      let rl = h.r_length in
      record {
        trees = h.others;
        stored = h.stored_others;
        ends_at = ea;
        fits = omega arith;
        l_end = omega arith;
        r_end = omega arith;
        behind = omega arith;
        l_length = filled_length l ys i k e _ (omega arith) (omega arith) (omega arith) ∙ ll;
        r_length = filled_length r zs i k e _ (omega arith) (omega arith) (omega arith) ∙ rl;
        l_whole =
            ap (λ s. s ++ lefts (direction_by up) (bl + (get_or w.quotas p 0 + whole h.children)) h.others)
            (ap (λ m. take m (take k (set l i (corner_of up child (get_or w.quotas p 0)).l.0) ++ (ys ++ drop (e - k) (drop k (set l i (corner_of up child (get_or w.quotas p 0)).l.0))))) (sym ee)
            ∙ filled l ys i k e _ ek (omega arith) (omega arith) (omega arith))
            ∙ append_assoc (take i l) _ _
            ∙ rw (ey, ec, ei) (ap (λ s. take (p - from) l ++ s) (sym (lefts_tree h.root (get_or w.quotas p 0) h.own h.children h.others bl br b f up)))
            ∙ h.l_whole;
        r_whole =
            ap (λ s. s ++ rights (direction_by up) br h.others)
            (ap (λ m. take m (take k (set r i (corner_of up child (get_or w.quotas p 0)).r.0) ++ (zs ++ drop (e - k) (drop k (set r i (corner_of up child (get_or w.quotas p 0)).r.0))))) (sym ee)
            ∙ filled r zs i k e _ ek (omega arith) (omega arith) (omega arith))
            ∙ append_assoc (take i r) _ _
            ∙ rw (ez, ec, ei) (ap (λ s. take (p - from) r ++ s) (sym (rights_tree h.root (get_or w.quotas p 0) h.own h.children h.others bl br b f up)))
            ∙ h.r_whole;
      }

  pub moves : (i k e end : ℕ) (l' r' ys zs : List ℕ) (child rest place : Box) → i ≡ p - from → k ≡ i + 1 → e ≡ end - from → end ≡ p + 1 + size h.children
      → child ≡ child_of bl br b (get_or w.quotas p 0 + whole h.children)
      → rest ≡ box_of (bl + (get_or w.quotas p 0 + whole h.children)) br (b - (get_or w.quotas p 0 + whole h.children))
      → place ≡ corner_of up child (get_or w.quotas p 0) → l' ≡ column_with l i place.l.0 → r' ≡ column_with r i place.r.0
      → ys ≡ lefts (direction_by up) (inner_of up child (get_or w.quotas p 0)).l.0 h.children
      → zs ≡ rights (direction_by up) (inner_of up child (get_or w.quotas p 0)).r.0 h.children
      → Numbers w up from to ls rs end rest.l.0 rest.r.0 rest.quota (take k l' ++ (ys ++ drop (e - k) (drop k l'))) (take k r' ++ (zs ++ drop (e - k) (drop k r')))
  moves i k e end l' r' ys zs child rest place ei ek ee en ec er ep el er' ey ez =
      let f = corner_fits child ec in
      rw (el, er', en, er, ep, writes l i _ f.0, writes r i _ f.1)
      (step i k e ys zs child ei ek (ee ∙ ap (λ n. n - from) en) ec ey (ap length ey ∙ lefts_length up _ h.children) ez (ap length ez ∙ rights_length up _ h.children))

  -- the first tree is an entry alone: where its box begins is written
  pub moves_alone : (i e end : ℕ) (l' r' : List ℕ) (child rest : Box) → i ≡ p - from → e ≡ end - from → end ≡ p + 1 + size h.children → e ≡ i + 1
      → child ≡ child_of bl br b (get_or w.quotas p 0 + whole h.children)
      → rest ≡ box_of (bl + (get_or w.quotas p 0 + whole h.children)) br (b - (get_or w.quotas p 0 + whole h.children))
      → l' ≡ column_with l i child.l.0 → r' ≡ column_with r i child.r.0
      → Numbers w up from to ls rs end rest.l.0 rest.r.0 rest.quota l' r'
  moves_alone i e end l' r' child rest ei ee en alone ec er el er' =
      let z : h.children ≡ none = size_zero h.children (let bh = h.behind in omega arith) in
      let own : get_or w.quotas p 0 ≡ child.quota = rw (ec, z) (omega arith) in
      let m =
      moves i (i + 1) e end l' r' [] [] child rest child ei refl ee en ec er (sym (corner_whole up child _ own)) el er'
      (sym (ap (lefts (direction_by up) _) z ∙ lefts_none up _)) (sym (ap (rights (direction_by up) _) z ∙ rights_none up _)) in
      rw (sym (unfilled l' (i + 1) e alone), sym (unfilled r' (i + 1) e alone)) m

  -- the children's entries, boxed as the code has them
  boxed_at : (end : ℕ) (child x : Box) (ls' rs' : List ℕ) → end ≡ p + 1 + size h.children → child ≡ child_of bl br b (get_or w.quotas p 0 + whole h.children)
      → x ≡ inner_of up child (get_or w.quotas p 0) → length ls' ≡ end - (p + 1) → length rs' ≡ end - (p + 1)
      → Boxed w (p + 1) end x.l.0 x.r.0 x.quota ls' rs' h.children
  boxed_at end child x ls' rs' en ec ex nl nr = rw (en, ex) (inner_boxed ls' rs' (omega arith) (omega arith) child ec)

  -- what the code's corner says
  module _ {cut_off : Option Cut} (child : Box) (ec : child ≡ child_of bl br b (get_or w.quotas p 0 + whole h.children)) (e : cut_off ≡ corner_cut up child (get_or w.quotas p 0)) where
    corner_is : cut_off ≡ cut_into (corner_of up child (get_or w.quotas p 0)) (inner_of up child (get_or w.quotas p 0))
    corner_is =
        let f = h.fits in
        let le = h.l_end in
        let re = h.r_end in
        e ∙ sym (corner_parts child (get_or w.quotas p 0) up (rw ec (omega arith)) (rw ec (omega arith)) (rw ec (omega arith)))

    pub corner_there : cut_off ≡ None → ⊥
    corner_there n = let f = corner_is in let z : ◌≡◌ {A = ℕ} 0 1 = cc in omega arith

    pub place_is : {x : Cut} → cut_off ≡ Some x → x.part ≡ corner_of up child (get_or w.quotas p 0)
    place_is n = let f = corner_is in cc

    pub inner_is : {x : Cut} → cut_off ≡ Some x → x.rest ≡ inner_of up child (get_or w.quotas p 0)
    inner_is n = let f = corner_is in cc

  -- what the code's cut says
  module _ {cut_off : Option Cut} {s : ℕ} (e : cut_off ≡ next_child (box_of bl br b) s) (es : s ≡ get_or w.quotas p 0 + whole h.children) where
    cut_is : cut_off ≡ cut_into (child_of bl br b (get_or w.quotas p 0 + whole h.children))
        (box_of (bl + (get_or w.quotas p 0 + whole h.children)) br (b - (get_or w.quotas p 0 + whole h.children)))
    cut_is = e ∙ ap (next_child (box_of bl br b)) es ∙ cut

    pub never : cut_off ≡ None → ⊥
    never n = let f = cut_is in let z : ◌≡◌ {A = ℕ} 0 1 = cc in omega arith

    pub child_is : {x : Cut} → cut_off ≡ Some x → x.part ≡ child_of bl br b (get_or w.quotas p 0 + whole h.children)
    child_is n = let f = cut_is in cc

    pub left_is : {x : Cut} → cut_off ≡ Some x → x.rest ≡ box_of (bl + (get_or w.quotas p 0 + whole h.children)) br (b - (get_or w.quotas p 0 + whole h.children))
    left_is n = let f = cut_is in cc

  -- the trees of the first tree's children, as the columns show them
  pub children_back : (end : ℕ) → end ≡ p + 1 + size h.children → forest_in w (p + 1) end ≡ h.children
  children_back end e = forest_back (end - (p + 1)) w (p + 1) end h.children h.stored_children e (omega arith)

  pub boxed_in : (end : ℕ) (child x : Box) (ls' rs' : List ℕ) → end ≡ p + 1 + size h.children → child ≡ child_of bl br b (get_or w.quotas p 0 + whole h.children)
      → x ≡ inner_of up child (get_or w.quotas p 0) → length ls' ≡ end - (p + 1) → length rs' ≡ end - (p + 1) → BoxedIn w (p + 1) end x ls' rs'
  boxed_in end child x ls' rs' en ec ex nl nr =
      subst (Boxed w (p + 1) end x.l.0 x.r.0 x.quota ls' rs') (sym (children_back end en)) (boxed_at end child x ls' rs' en ec ex nl nr)
