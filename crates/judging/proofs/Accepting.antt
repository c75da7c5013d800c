-- What the code judges by is acceptance as request defines it, where the table's ids differ.
use mathlib.Core.Path.{◌≡◌, refl, ap, ap₂, sym, ◌∙◌}
use mathlib.Core.Bool.{Bool, true, false, not, cond, ◌||◌}
use mathlib.Core.List.{List, [], ◌∷◌, map}
use Prim.Native.Nat.{ℕ, suc, ◌+◌, ◌-◌, ◌≤◌, ◌<◌}
use native.Mathlib.Omega.{arith}
use native.Mathlib.Nat.{zero-add}
use lib.Dec.{eqb, leb, ltb}
use lib.ListN.{length, get_or, length-map}
use lib.Seq.{take-length}
use borrow.Author.Tests.{eq-eqb, ne_eqb, eqb-false, le-leb}
use Rattle.rules.proofs.Answers.{same_answer, peel}
use Rattle.rules.proofs.Cases.{by_eq}
use Rattle.rules.specs.Answers.{Answer, answer, refused, then}
use Rattle.request.specs.Entries.{Entry, pick, quota, times, total, quota_of, some_entry, Distinct}
use Rattle.request.specs.Request.{Request, entries}
use Rattle.request.specs.Acceptance.{id_unknown, not_one_entry, id_in_table, id_twice, quotas_wrong, rows_full, accepted}
use Rattle.request.proofs.Sums.{quota_none}
use Rattle.table.specs.Places.{index_from, place_of}
use Rattle.table.proofs.Places.{place_in}
use Rattle.judging.specs.Ids.{times_in, some_id}
use Rattle.judging.specs.Judging.{own_row, taken_in, twice_in, judged_in}

-- the ids of some entries, or of some groups
abbrev pub ids_of : List Entry → List ℕ
ids_of s = map (λ (e : Entry). e.id) s

-- how often an id comes, and a test over ids
pub times_ids : (x : ℕ) (s : List Entry) → times x s ≡ times_in x (ids_of s)
unfolding times_in
times_ids x [] = refl
times_ids x (e ∷ s) = ap (λ n. pick (eqb x e.id) 1 0 + n) (times_ids x s)

some_ids : (p : Entry → Bool) (r : ℕ → Bool) (s : List Entry) → ((e : Entry) → p e ≡ r e.id) → some_entry p s ≡ some_id r (ids_of s)
unfolding some_entry
some_ids p r [] h = refl
some_ids p r (e ∷ s) h = ap₂ ◌||◌ (h e) (some_ids p r s h)

-- refusals go through, one after another
six : {A B : Type 0} (p q r s t w : Bool) (a : A) (f : A → Answer B)
    → cond p (refused 20) (cond q (refused 21) (cond r (refused 22) (cond s (refused 26) (cond t (refused 23) (cond w (refused 24) (f a))))))
    ≡ then (cond p (refused 20) (cond q (refused 21) (cond r (refused 22) (cond s (refused 26) (cond t (refused 23) (cond w (refused 24) (answer a))))))) f
six true q r s t w a f = refl
six false true r s t w a f = refl
six false false true s t w a f = refl
six false false false true t w a f = refl
six false false false false true w a f = refl
six false false false false false true a f = refl
six false false false false false false a f = refl

-- an id is found where it comes
index_times : (i none x : ℕ) (s : List ℕ) → i + length s ≡ none → eqb (index_from i none x s) none ≡ not (leb 1 (times_in x s))
unfolding index_from times_in
index_times i none x [] h = rw (eq-eqb none none refl)
index_times i none x (y ∷ s) h =
    by_eq x y
    (λ e. rw (eq-eqb y x (sym e), eq-eqb x y e, ne_eqb i none (λ z. omega (arith, z)), le-leb 1 (1 + times_in x s) (omega arith)))
    (λ e. rw (ne_eqb y x (λ z. e (sym z)), ne_eqb x y e) (index_times (suc i) none x s (omega arith) ∙ ap (λ n. not (leb 1 n)) (sym (zero-add (times_in x s)))))

row_times : (x : ℕ) (s : List ℕ) → eqb (own_row s x) (length s) ≡ not (leb 1 (times_in x s))
unfolding place_of
row_times x s = rw (take-length s) (index_times 0 (length s) x s (omega arith))

-- one id before them moves every index
index_moves : (i none x : ℕ) (s : List ℕ) → index_from (suc i) (suc none) x s ≡ suc (index_from i none x s)
unfolding index_from
index_moves i none x [] = refl
index_moves i none x (y ∷ s) =
    elim (eqb y x) as (λ b. pick b (suc i) (index_from (suc (suc i)) (suc none) x s) ≡ suc (pick b i (index_from (suc i) none x s)))
    [ true ↦ refl | false ↦ index_moves (suc i) none x s ]

-- its quota stands there
index_quota : (x : ℕ) (s : List Entry) → times x s ≤ 1 → quota_of x s ≡ get_or (map quota s) (index_from 0 (length s) x (ids_of s)) 0
unfolding index_from
index_quota x [] h = refl
index_quota x (e ∷ s) h =
    by_eq x e.id
    (λ z.
    let n : times x s ≡ 0 = omega (arith, rw (eq-eqb x e.id z) at h) in
    rw (eq-eqb x e.id z, eq-eqb e.id x (sym z)) (omega (arith, quota_none x s n)))
    (λ z.
    let n : times x s ≤ 1 = omega (arith, rw (ne_eqb x e.id z) at h) in
    rw (ne_eqb x e.id z, ne_eqb e.id x (λ y. z (sym y)), index_moves 0 (length s) x (ids_of s)) (omega (arith, index_quota x s n)))

pub row_quota : (x : ℕ) (s : List Entry) → times x s ≤ 1 → quota_of x s ≡ get_or (map quota s) (own_row (ids_of s) x) 0
unfolding place_of
row_quota x s h = rw (take-length (ids_of s), length-map s (λ (e : Entry). e.id)) (index_quota x s h)

module _ (groups : List Entry) (distinct : Distinct groups) (room : ℕ) (a : Request) where
  taken_is : id_in_table groups a ≡ some_id (taken_in a.exploded (ids_of groups)) (ids_of (entries a))
  taken_is = some_ids _ (taken_in a.exploded (ids_of groups)) (entries a) (λ e. rw (times_ids e.id groups))

  twice_is : id_twice a ≡ some_id (twice_in a.exploded (ids_of (entries a))) (ids_of (entries a))
  twice_is = some_ids _ (twice_in a.exploded (ids_of (entries a))) (entries a) (λ e. rw (times_ids e.id (entries a)))

  pub judged_is : judged_in (ids_of groups) (map quota groups) room a.exploded (ids_of (entries a)) (total (entries a))
      ≡ then (accepted room groups a) λ _. answer (place_of (ids_of groups) (length groups) a.exploded)
  unfolding judged_in accepted
  judged_is =
      rw (
        row_times a.exploded (ids_of groups),
        ← times_ids a.exploded groups,
        ← times_ids a.exploded (entries a),
        ← taken_is,
        ← twice_is,
        ← row_quota a.exploded groups (distinct a.exploded),
        length-map groups (λ (e : Entry). e.id),
        length-map (entries a) (λ (e : Entry). e.id),
      )
      (six (id_unknown groups a) (not_one_entry a) (id_in_table groups a) (id_twice a) (quotas_wrong groups a) (rows_full room groups a) a
      (λ _. answer (place_of (ids_of groups) (length groups) a.exploded)))

-- the row that is answered
pub judged_row : (id q : List ℕ) (room u : ℕ) (ids : List ℕ) (sum : ℕ) {i : ℕ} → judged_in id q room u ids sum ≡ answer i → (i ≡ own_row id u) × (i < length id)
unfolding judged_in
judged_row id q room u ids sum e =
    let a = peel (eqb (own_row id u) (length id)) _ _ e in
    let b = peel (not (eqb (times_in u ids) 1)) _ _ a.1 in
    let c = peel (some_id (taken_in u id) ids) _ _ b.1 in
    let t = peel (some_id (twice_in u ids) ids) _ _ c.1 in
    let d = peel (not (eqb sum (get_or q (own_row id u) 0))) _ _ t.1 in
    let f = peel (ltb room (length id + length ids - 1)) _ _ d.1 in
    let is = same_answer f.1 in
    let z = eqb-false (own_row id u) (length id) a.0 in
    (sym is, omega (arith, (place_in id (length id) u (omega arith)).most))
