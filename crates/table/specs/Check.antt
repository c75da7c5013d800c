-- The check of the columns (RULES.md, 3): 10, then 11 over all rows, 12 over all pairs, 13 over all pairs.
use Rattle.std.specs.Prelude.{ℕ, ◌+◌, ◌-◌, Bool, false, cond, not, ◌&&◌, ◌||◌, List, [], ◌∷◌, eqb, ltb, length}
use Rattle.rules.specs.Answers.{Answer, answer, refused}
use Rattle.rules.specs.Limits.{greatest, most_rows}
use Rattle.coordinates.specs.Coordinates.{apart}
use Rattle.table.specs.Columns.{low_l, low_r, size_of, Columns, rows}
use Rattle.table.specs.declared.Row.{Row}

-- the test holds of some row; of some row and one below it
unfoldable pub some_row : (Row → Bool) → List Row → Bool
some_row p [] = false
some_row p (w ∷ t) = p w || some_row p t

unfoldable pub some_pair : (Row → Row → Bool) → List Row → Bool
some_pair p [] = false
some_pair p (w ∷ t) = some_row (p w) t || some_pair p t

-- 10: lengths differ or not 1 to 256
unfoldable pub lengths_bad : Columns → Bool
lengths_bad c =
    not (eqb (length c.l) (length c.id) && (eqb (length c.r) (length c.id) && eqb (length c.q) (length c.id)))
    || (eqb (length c.id) 0 || ltb most_rows (length c.id))

-- 10: count 0 or above length
unfoldable pub count_bad : ℕ → ℕ → Bool
count_bad n count = eqb count 0 || ltb n count

-- 11: a value 0, or a range past the greatest number
unfoldable pub value_bad : Row → Bool
value_bad w =
    eqb w.id 0
    || (eqb w.l 0
    || (eqb w.r 0
    || (eqb w.q 0 || (ltb greatest (low_l w + size_of w - 1) || ltb greatest (low_r w + size_of w - 1)))))

-- 12: two equal ids
unfoldable pub same_id : Row → Row → Bool
same_id w v = eqb w.id v.id

-- 13: ranges of two rows meet in l or in r
unfoldable pub ranges_meet : Row → Row → Bool
ranges_meet w v = not (apart (low_l w) (size_of w) (low_l v) (size_of v)) || not (apart (low_r w) (size_of w) (low_r v) (size_of v))

-- rows that pass 11, 12 and 13, in that order
unfoldable pub sound_rows : List Row → Answer (List Row)
sound_rows t =
    cond (some_row value_bad t) (refused 11) (cond (some_pair same_id t) (refused 12) (cond (some_pair ranges_meet t) (refused 13) (answer t)))

-- the rows in use of columns whose lengths and count fit
unfoldable pub in_use : Columns → ℕ → Answer (List Row)
in_use c count = cond (lengths_bad c || count_bad (length c.id) count) (refused 10) (answer (rows c count))

-- the rows in use, once the columns have passed the check
unfoldable pub checked : Columns → ℕ → Answer (List Row)
checked c count = cond (lengths_bad c || count_bad (length c.id) count) (refused 10) (sound_rows (rows c count))
