-- The counts that are encoded are small: a new count is at most the most rows, so many rows have few bytes, as have the small requests, and a page is
-- no longer than the part of its buffer that is used.
use mathlib.Core.Path.{◌≡◌, refl, ap, sym, ◌∙◌}
use mathlib.Core.Bool.{Bool, true, false, cond, ◌||◌}
use mathlib.Core.List.{List, [], ◌∷◌}
use Prim.Native.Nat.{ℕ, zero, suc, ◌+◌, ◌*◌, min, ◌≤◌}
use native.Mathlib.Omega.{arith}
use lib.Dec.{eqb}
use lib.ListN.{length, take, drop, length-append}
use lib.Seq.{length-take-le, take_all}
use borrow.Author.Tests.{lt-leb}
use Rattle.rules.specs.Answers.{Answer, answer, refused, then}
use Rattle.rules.specs.Limits.{greatest, most_rows}
use Rattle.rules.specs.Buffers.{room, written}
use Rattle.rules.proofs.Answers.{same_answer, never_refused, peel}
use Rattle.rules.proofs.Cases.{by_lt}
use Rattle.number.specs.Number.{bytes_of}
use Rattle.number.proofs.Laws.{number_count}
use Rattle.table.specs.declared.Row.{Row}
use Rattle.table.specs.Columns.{Columns, counted}
use Rattle.table.specs.Check.{lengths_bad, checked}
use Rattle.fresh.specs.Fresh.{fresh_rows}
use Rattle.table.proofs.Lengths.{lengths_good}
use Rattle.table.proofs.Passing.{check_passed}
use Rattle.table.proofs.Rows.{rows_length}
use Rattle.refine.specs.Refine.{refined}
use Rattle.refine.proofs.Fitting.{refined_most}
use Rattle.stored.specs.Stored.{read_rows, rows_bytes, table_bytes, store_answer}
use Rattle.stored.proofs.Bytes.{rows_most}
use Rattle.stored.proofs.Laws.{read_found}
use Rattle.page.specs.Page.{page_of, page_answer}
use Rattle.small.specs.Small.{list_bytes}
use Rattle.small_requests.proofs.Rows.{list_most}
use Rattle.reflected_tree.specs.Reflected.{Reflected}
use Rattle.reflected_tree.specs.Written as written_list
use Rattle.reflected_tree.specs.Reading.{reflected_of, reflected_answer}
use Rattle.reflected_tree.proofs.Most.{read_most as reflected_most}
use Rattle.zintukor.specs.Inside.Small.{Small}

-- what a small answer holds
pub small_count : (a : Answer ℕ) {n : ℕ} → Small a → a ≡ answer n → n ≤ greatest
small_count (answer m) h e = omega (arith, same_answer e)
small_count (refused m) h e = never_refused e

counted_small : (a : Answer (List Row)) → ((t : List Row) → a ≡ answer t → length t ≤ most_rows) → Small (counted a)
counted_small (answer t) h = omega (arith, h t refl)
counted_small (refused n) h = tt

written_small : (buffer bytes : List ℕ) → length bytes ≤ greatest → Small (written buffer 0 bytes)
unfolding written
written_small buffer bytes h = go (room buffer 0 bytes)
  where
    go : (b : Bool) → Small (cond b (answer (length bytes)) (refused 30))
    go true = h
    go false = tt

-- ## Fresh: one row

fresh_most : (c : Columns) (group quota : ℕ) (t : List Row) → fresh_rows c group quota ≡ answer t → length t ≤ most_rows
unfolding fresh_rows
fresh_most c group quota t e =
    let a = peel (lengths_bad c) _ _ e in
    let b = peel (eqb group 0 || eqb quota 0) _ _ a.1 in
    omega (arith, ap length (same_answer b.1))

pub fresh_small : (c : Columns) (group quota : ℕ) → Small (counted (fresh_rows c group quota))
fresh_small c group quota = counted_small _ (fresh_most c group quota)

-- ## Refine: there is room for the rows

pub refined_small : (c : Columns) (count : ℕ) (bytes : List ℕ) → Small (counted (refined c count bytes))
refined_small c count bytes = counted_small _ (refined_most c count bytes)

-- ## Reading: as many rows as the count says

read_most : (c : Columns) (bytes : List ℕ) (t : List Row) → read_rows c bytes ≡ answer t → length t ≤ most_rows
read_most c bytes t e = let r = read_found c bytes e in omega (arith, r.most, (lengths_good c r.lengths).most)

pub read_small : (c : Columns) (bytes : List ℕ) → Small (counted (read_rows c bytes))
read_small c bytes = counted_small _ (read_most c bytes)

-- ## Storing: at most 5 bytes for the count and 20 for each row

table_most : (t : List Row) → length (table_bytes t) ≤ 5 + 20 * length t
unfolding table_bytes
table_most t = omega (arith, length-append (bytes_of (length t)) (rows_bytes t), number_count (length t), rows_most t)

pub store_small : (c : Columns) (count : ℕ) (buffer : List ℕ) → Small (store_answer c count buffer)
unfolding store_answer
store_small c count buffer = go (checked c count) refl
  where
    go : (a : Answer (List Row)) → checked c count ≡ a → Small (then a λ t. written buffer 0 (table_bytes t))
    go (answer t) e =
        let p = check_passed c count e in
        written_small buffer (table_bytes t) (omega (arith, table_most t, ap length p.1, rows_length c 0 count, p.0.most, p.0.lengths.most))
    go (refused n) e = tt

-- ## The list of small requests: 264 requests of 22 bytes

pub list_small : (buffer : List ℕ) (size : ℕ) → Small (written buffer 0 (list_bytes size))
list_small buffer size = written_small buffer (list_bytes size) (omega (arith, list_most size))

-- ## The list of a reflected tree: at most 29 bytes for each node

pub reflected_small : (bytes buffer : List ℕ) → Small (reflected_answer bytes buffer)
unfolding reflected_answer
reflected_small bytes buffer = go (reflected_of bytes) refl
  where
    go : (a : Answer Reflected) → reflected_of bytes ≡ a → Small (then a λ t. written buffer 0 (written_list.list_bytes t))
    go (answer t) e = written_small buffer (written_list.list_bytes t) (omega (arith, reflected_most bytes e))
    go (refused n) e = tt

-- ## A page: no longer than its buffer

room_small : (buffer text : List ℕ) → length buffer ≤ greatest → Small (written buffer 0 text)
unfolding written room
room_small buffer text h =
    by_lt (length buffer) (0 + length text)
    (λ k. rw (lt-leb _ _ k) tt)
    (λ k. written_small buffer text (omega arith))

pub page_small : (l r day : ℕ) (bytes buffer : List ℕ) → length buffer ≤ greatest → Small (page_answer l r day bytes buffer)
unfolding page_answer
page_small l r day bytes buffer h = go (page_of l r day bytes)
  where
    go : (a : Answer (List ℕ)) → Small (then a λ text. written buffer 0 text)
    go (answer text) = room_small buffer text h
    go (refused n) = tt

-- ## The part of a buffer that is used

drop_past : (n : ℕ) (s : List ℕ) → length s ≤ n → drop n s ≡ []
drop_past zero [] h = refl
drop_past (suc n) [] h = refl
drop_past zero (x ∷ s) h = absurd (omega arith)
drop_past (suc n) (x ∷ s) h = drop_past n s (omega arith)

module _ (buffer : List ℕ) (n : ℕ) {room : ℕ} (e : room ≡ min (length buffer) n) where
  pub used_count : room ≡ length (take room buffer)
  used_count = sym (length-take-le room buffer (omega arith))

  pub used : take room buffer ≡ take n buffer
  used =
      by_lt n (length buffer)
      (λ h. let f : room ≡ n = omega arith in ap (λ k. take k buffer) f)
      (λ h. take_all room buffer (omega arith) ∙ sym (take_all n buffer h))

  pub unused : drop room buffer ≡ drop n buffer
  unused =
      by_lt n (length buffer)
      (λ h. let f : room ≡ n = omega arith in ap (λ k. drop k buffer) f)
      (λ h. drop_past room buffer (omega arith) ∙ sym (drop_past n buffer h))

  pub used_most : length (take room buffer) ≤ n
  used_most = omega (arith, used_count)
