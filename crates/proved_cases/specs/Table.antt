-- The cases that document 01 marks P, in its order; after its requests, which id was taken; after its decisions, the lines that `may` prints of them, dates, pages, small requests and reflected trees. At the end, demand 3's last two clauses.
use Rattle.std.specs.Prelude.{ℕ, true, false, List, [], ◌∷◌, ◌++◌}
use Prim.Native.String.{String}
use Rattle.rules.specs.Answers.{answer, refused}
use Rattle.table.specs.declared.Row.{Row}
use Rattle.order.specs.declared.Ordered.{Ordered}
use Rattle.order.specs.declared.Ordered.TheVariants.{Same as same, First as first, Second as second, Incomparable as incomparable}
use Rattle.grant.specs.Grant.{grant}
use Rattle.renewals.specs.Dating.{on_open, on_until, ended, ahead, never}
use Rattle.calendar.specs.Calendar.{date}
use Rattle.ledger.specs.Calls.{Call, refine, order, Reply, refine_says, order_says}
use Rattle.reflected_tree.specs.Reflected.{Reflected, empty, node}
use Rattle.proved_cases.specs.Cases.{Case, NotedGrant, Note, stored, made, grown, logged, asked, answered, falls, paged, smalls, moved, compared, noted, row, stream}

-- a request by its numbers
abbrev pub request : List ℕ → Call
request numbers = refine (stream numbers)

-- refine's answers, and order's
abbrev pub count : ℕ → Reply
count n = refine_says (answer n)

abbrev pub no : ℕ → Reply
no n = refine_says (refused n)

abbrev pub says : Ordered → Reply
says o = order_says (answer o)

abbrev pub unknown : Reply
unknown = order_says (refused 20)

-- groups 1 and 2 of quota 1 side by side; 2 under 1 in one tree, upright and inverted
unfoldable pub beside_request : List ℕ
beside_request = 1 ∷ 0 ∷ 2 ∷ 1 ∷ 1 ∷ 0 ∷ 2 ∷ 1 ∷ 0 ∷ []

unfoldable pub upright_request : List ℕ
upright_request = 1 ∷ 0 ∷ 1 ∷ 1 ∷ 1 ∷ 1 ∷ 2 ∷ 1 ∷ 0 ∷ []

unfoldable pub inverted_request : List ℕ
inverted_request = 1 ∷ 1 ∷ 1 ∷ 1 ∷ 1 ∷ 1 ∷ 2 ∷ 1 ∷ 0 ∷ []

-- the ten small requests of three entries. Upright, then inverted: a chain; two under one; a chain of two right of one, and left of one; three beside each other
unfoldable pub ten_of3 : List (List ℕ)
ten_of3 =
    (12 ∷ 1 ∷ 0 ∷ 1 ∷ 1 ∷ 1 ∷ 1 ∷ 2 ∷ 1 ∷ 1 ∷ 3 ∷ 1 ∷ 0 ∷ [])
    ∷ (12 ∷ 1 ∷ 0 ∷ 1 ∷ 1 ∷ 1 ∷ 2 ∷ 2 ∷ 1 ∷ 0 ∷ 3 ∷ 1 ∷ 0 ∷ [])
    ∷ (12 ∷ 1 ∷ 0 ∷ 2 ∷ 1 ∷ 1 ∷ 0 ∷ 2 ∷ 1 ∷ 1 ∷ 3 ∷ 1 ∷ 0 ∷ [])
    ∷ (12 ∷ 1 ∷ 0 ∷ 2 ∷ 1 ∷ 1 ∷ 1 ∷ 2 ∷ 1 ∷ 0 ∷ 3 ∷ 1 ∷ 0 ∷ [])
    ∷ (12 ∷ 1 ∷ 0 ∷ 3 ∷ 1 ∷ 1 ∷ 0 ∷ 2 ∷ 1 ∷ 0 ∷ 3 ∷ 1 ∷ 0 ∷ [])
    ∷ (12 ∷ 1 ∷ 1 ∷ 1 ∷ 1 ∷ 1 ∷ 1 ∷ 2 ∷ 1 ∷ 1 ∷ 3 ∷ 1 ∷ 0 ∷ [])
    ∷ (12 ∷ 1 ∷ 1 ∷ 1 ∷ 1 ∷ 1 ∷ 2 ∷ 2 ∷ 1 ∷ 0 ∷ 3 ∷ 1 ∷ 0 ∷ [])
    ∷ (12 ∷ 1 ∷ 1 ∷ 2 ∷ 1 ∷ 1 ∷ 0 ∷ 2 ∷ 1 ∷ 1 ∷ 3 ∷ 1 ∷ 0 ∷ [])
    ∷ (12 ∷ 1 ∷ 1 ∷ 2 ∷ 1 ∷ 1 ∷ 1 ∷ 2 ∷ 1 ∷ 0 ∷ 3 ∷ 1 ∷ 0 ∷ [])
    ∷ (12 ∷ 1 ∷ 1 ∷ 3 ∷ 1 ∷ 1 ∷ 0 ∷ 2 ∷ 1 ∷ 0 ∷ 3 ∷ 1 ∷ 0 ∷ [])
    ∷ []

-- a leaf
abbrev pub leaf : ℕ → Reflected → Reflected
leaf u rest = node u 0 empty rest

-- the reflected tree D, d over P1, p1 over T1, T2, T3 and P2, p2 over T4, T5, and its list: the pair; D over P1 over d; P1 and P2; P1 over T1 over p1;
-- the three tasks; P2 over T4 over p2; the two tasks
unfoldable pub figure_c : List ℕ
figure_c = 8 ∷ 1 ∷ 11 ∷ 2 ∷ 2 ∷ 12 ∷ 3 ∷ 3 ∷ 0 ∷ 0 ∷ 4 ∷ 0 ∷ 0 ∷ 5 ∷ 0 ∷ 0 ∷ 6 ∷ 16 ∷ 2 ∷ 7 ∷ 0 ∷ 0 ∷ 8 ∷ 0 ∷ 0 ∷ []

unfoldable pub tree_c : Reflected
tree_c = node 1 11 (node 2 12 (leaf 3 (leaf 4 (leaf 5 empty))) (node 6 16 (leaf 7 (leaf 8 empty)) empty)) empty

unfoldable pub list_c : List (List ℕ)
list_c =
    (1 ∷ 11 ∷ [])
    ∷ (12 ∷ 1 ∷ 0 ∷ 1 ∷ 1 ∷ 1 ∷ 1 ∷ 2 ∷ 9 ∷ 1 ∷ 11 ∷ 1 ∷ 0 ∷ [])
    ∷ (9 ∷ 2 ∷ 0 ∷ 2 ∷ 2 ∷ 5 ∷ 0 ∷ 6 ∷ 4 ∷ 0 ∷ [])
    ∷ (12 ∷ 2 ∷ 0 ∷ 1 ∷ 2 ∷ 1 ∷ 1 ∷ 3 ∷ 3 ∷ 1 ∷ 12 ∷ 1 ∷ 0 ∷ [])
    ∷ (12 ∷ 3 ∷ 0 ∷ 3 ∷ 3 ∷ 1 ∷ 0 ∷ 4 ∷ 1 ∷ 0 ∷ 5 ∷ 1 ∷ 0 ∷ [])
    ∷ (12 ∷ 6 ∷ 0 ∷ 1 ∷ 6 ∷ 1 ∷ 1 ∷ 7 ∷ 2 ∷ 1 ∷ 16 ∷ 1 ∷ 0 ∷ [])
    ∷ (9 ∷ 7 ∷ 0 ∷ 2 ∷ 7 ∷ 1 ∷ 0 ∷ 8 ∷ 1 ∷ 0 ∷ [])
    ∷ []

-- with T6 beside T4 and T5
unfoldable pub figure_d : List ℕ
figure_d = 9 ∷ 1 ∷ 11 ∷ 2 ∷ 2 ∷ 12 ∷ 3 ∷ 3 ∷ 0 ∷ 0 ∷ 4 ∷ 0 ∷ 0 ∷ 5 ∷ 0 ∷ 0 ∷ 6 ∷ 16 ∷ 3 ∷ 7 ∷ 0 ∷ 0 ∷ 8 ∷ 0 ∷ 0 ∷ 9 ∷ 0 ∷ 0 ∷ []

unfoldable pub tree_d : Reflected
tree_d = node 1 11 (node 2 12 (leaf 3 (leaf 4 (leaf 5 empty))) (node 6 16 (leaf 7 (leaf 8 (leaf 9 empty))) empty)) empty

unfoldable pub list_d : List (List ℕ)
list_d =
    (1 ∷ 12 ∷ [])
    ∷ (12 ∷ 1 ∷ 0 ∷ 1 ∷ 1 ∷ 1 ∷ 1 ∷ 2 ∷ 10 ∷ 1 ∷ 11 ∷ 1 ∷ 0 ∷ [])
    ∷ (9 ∷ 2 ∷ 0 ∷ 2 ∷ 2 ∷ 5 ∷ 0 ∷ 6 ∷ 5 ∷ 0 ∷ [])
    ∷ (12 ∷ 2 ∷ 0 ∷ 1 ∷ 2 ∷ 1 ∷ 1 ∷ 3 ∷ 3 ∷ 1 ∷ 12 ∷ 1 ∷ 0 ∷ [])
    ∷ (12 ∷ 3 ∷ 0 ∷ 3 ∷ 3 ∷ 1 ∷ 0 ∷ 4 ∷ 1 ∷ 0 ∷ 5 ∷ 1 ∷ 0 ∷ [])
    ∷ (12 ∷ 6 ∷ 0 ∷ 1 ∷ 6 ∷ 1 ∷ 1 ∷ 7 ∷ 3 ∷ 1 ∷ 16 ∷ 1 ∷ 0 ∷ [])
    ∷ (12 ∷ 7 ∷ 0 ∷ 3 ∷ 7 ∷ 1 ∷ 0 ∷ 8 ∷ 1 ∷ 0 ∷ 9 ∷ 1 ∷ 0 ∷ [])
    ∷ []

-- the four requests of the program grow's example
unfoldable pub first9 : List ℕ
first9 = 1 ∷ 0 ∷ 1 ∷ 1 ∷ 5 ∷ 1 ∷ 2 ∷ 90 ∷ 1 ∷ 5 ∷ 5 ∷ 0 ∷ []

unfoldable pub second9 : List ℕ
second9 = 2 ∷ 0 ∷ 3 ∷ 2 ∷ 15 ∷ 0 ∷ 3 ∷ 15 ∷ 0 ∷ 4 ∷ 60 ∷ 0 ∷ []

unfoldable pub third9 : List ℕ
third9 = 4 ∷ 0 ∷ 2 ∷ 4 ∷ 42 ∷ 0 ∷ 9 ∷ 6 ∷ 2 ∷ 10 ∷ 6 ∷ 0 ∷ 11 ∷ 6 ∷ 0 ∷ []

unfoldable pub fourth9 : List ℕ
fourth9 = 4 ∷ 1 ∷ 1 ∷ 8 ∷ 6 ∷ 1 ∷ 4 ∷ 24 ∷ 2 ∷ 6 ∷ 6 ∷ 0 ∷ 7 ∷ 6 ∷ 0 ∷ []

-- its log: the fresh pair, then the requests with lengths 12, 12, 15, 15
unfoldable pub log9 : List ℕ
log9 = 1 ∷ 100 ∷ 12 ∷ first9 ++ (12 ∷ second9 ++ (15 ∷ third9 ++ (15 ∷ fourth9)))

unfoldable pub lines9 : List String
lines9 =
    "ok 3"
    ∷ "ok 5"
    ∷ "ok 8"
    ∷ "ok 11"
    ∷ "group l r quota"
    ∷ "1 1 1 5"
    ∷ "2 6 81 15"
    ∷ "5 96 96 5"
    ∷ "3 21 66 15"
    ∷ "4 48 36 24"
    ∷ "9 78 6 6"
    ∷ "10 84 18 6"
    ∷ "11 90 12 6"
    ∷ "8 72 60 6"
    ∷ "6 36 30 6"
    ∷ "7 42 24 6"
    ∷ []

-- its final table: Figure 9(b)'s numbers, its letters a to k as 1 to 11
unfoldable pub rows9 : List Row
rows9 =
    row 1 1 1 5
    ∷ row 2 6 81 15
    ∷ row 5 96 96 5
    ∷ row 3 21 66 15
    ∷ row 4 48 36 24
    ∷ row 9 78 6 6
    ∷ row 10 84 18 6
    ∷ row 11 90 12 6
    ∷ row 8 72 60 6
    ∷ row 6 36 30 6
    ∷ row 7 42 24 6
    ∷ []

-- the requests, with the order asked between them
unfoldable pub calls9 : List Call
calls9 =
    request first9
    ∷ request second9
    ∷ order 1 4
    ∷ order 5 4
    ∷ order 3 4
    ∷ order 4 4
    ∷ order 4 9
    ∷ request third9
    ∷ request fourth9
    ∷ order 6 8
    ∷ []

unfoldable pub replies9 : List Reply
replies9 =
    count 3
    ∷ count 5
    ∷ says first
    ∷ says second
    ∷ says incomparable
    ∷ says same
    ∷ unknown
    ∷ count 8
    ∷ count 11
    ∷ says first
    ∷ []

-- the requests alone
unfoldable pub requests9 : List Call
requests9 = request first9 ∷ request second9 ∷ request third9 ∷ request fourth9 ∷ []

-- feature 7 for a group, with its days, noted after n requests
abbrev pub noted_grant : (n group begin last : ℕ) → NotedGrant
noted_grant n group begin last = record { after = n; grant = record { feature = 7; group = group; first = begin; last = last } }

-- the note of a group that no later request explodes; of one that is exploded later
abbrev pub kept : (l r : ℕ) → Note
kept l r = record { l = l; r = r; last_l = l; last_r = r; exploded = false }

abbrev pub outdated : (l r last_l last_r : ℕ) → Note
outdated l r last_l last_r = record { l = l; r = r; last_l = last_l; last_r = last_r; exploded = true }

unfoldable pub cases : List Case
cases =
    stored 127 (0x7f ∷ [])
    ∷ stored 128 (0x80 ∷ 0x01 ∷ [])
    ∷ stored 4294967295 (0xff ∷ 0xff ∷ 0xff ∷ 0xff ∷ 0x0f ∷ [])
    ∷ made 1 1 (row 1 1 1 1)
    ∷ grown 1 1 (request (1 ∷ 0 ∷ 1 ∷ 1 ∷ 1 ∷ 0 ∷ []) ∷ []) (count 1 ∷ []) (row 1 1 1 1 ∷ [])
    ∷ grown 1 1 (request beside_request ∷ []) (no 23 ∷ []) (row 1 1 1 1 ∷ [])
    ∷ grown 1 2 (request beside_request ∷ order 1 2 ∷ []) (count 2 ∷ says incomparable ∷ []) (row 1 1 2 1 ∷ row 2 2 1 1 ∷ [])
    ∷ grown 1 2
    (request upright_request ∷ order 1 2 ∷ order 1 1 ∷ order 3 1 ∷ order 1 3 ∷ [])
    (count 2 ∷ says first ∷ says same ∷ unknown ∷ unknown ∷ [])
    (row 1 1 1 1 ∷ row 2 2 2 1 ∷ [])
    ∷ grown 1 2 (request inverted_request ∷ order 1 2 ∷ []) (count 2 ∷ says second ∷ []) (row 1 2 2 1 ∷ row 2 1 1 1 ∷ [])
    ∷ grown 1 1 (request (1 ∷ 0 ∷ 2 ∷ 1 ∷ 4294967295 ∷ 0 ∷ 2 ∷ 2 ∷ 0 ∷ []) ∷ []) (no 23 ∷ []) (row 1 1 1 1 ∷ [])
    -- an id twice, with the quotas right and wrong; the greatest id twice; the exploded one twice; then 2 is made: it twice, and it once with 3 twice
    ∷ grown 1 4
    (request (1 ∷ 0 ∷ 3 ∷ 1 ∷ 2 ∷ 0 ∷ 2 ∷ 1 ∷ 0 ∷ 2 ∷ 1 ∷ 0 ∷ [])
    ∷ request (1 ∷ 0 ∷ 3 ∷ 1 ∷ 1 ∷ 0 ∷ 2 ∷ 1 ∷ 0 ∷ 2 ∷ 1 ∷ 0 ∷ [])
    ∷ request (1 ∷ 0 ∷ 3 ∷ 1 ∷ 2 ∷ 0 ∷ 4294967295 ∷ 1 ∷ 0 ∷ 4294967295 ∷ 1 ∷ 0 ∷ [])
    ∷ request (1 ∷ 0 ∷ 4 ∷ 1 ∷ 1 ∷ 0 ∷ 2 ∷ 1 ∷ 0 ∷ 2 ∷ 1 ∷ 0 ∷ 1 ∷ 1 ∷ 0 ∷ [])
    ∷ request (1 ∷ 0 ∷ 2 ∷ 1 ∷ 3 ∷ 0 ∷ 2 ∷ 1 ∷ 0 ∷ [])
    ∷ request (1 ∷ 0 ∷ 3 ∷ 1 ∷ 1 ∷ 0 ∷ 2 ∷ 1 ∷ 0 ∷ 2 ∷ 1 ∷ 0 ∷ [])
    ∷ request (1 ∷ 0 ∷ 4 ∷ 3 ∷ 1 ∷ 0 ∷ 1 ∷ 1 ∷ 0 ∷ 3 ∷ 1 ∷ 0 ∷ 2 ∷ 1 ∷ 0 ∷ []) ∷ [])
    (no 26 ∷ no 26 ∷ no 26 ∷ no 21 ∷ count 2 ∷ no 22 ∷ no 22 ∷ [])
    (row 1 1 2 3 ∷ row 2 4 1 1 ∷ [])
    ∷ asked 7 1 1 9 (grant 7 2 2 10 20 ∷ []) (answer (ahead 10))
    ∷ asked 7 1 1 10 (grant 7 2 2 10 20 ∷ []) (answer (on_until 20))
    ∷ asked 7 1 1 20 (grant 7 2 2 10 20 ∷ []) (answer (on_until 20))
    ∷ asked 7 1 1 21 (grant 7 2 2 10 20 ∷ []) (answer (ended 20))
    ∷ asked 7 1 1 10 (grant 7 2 2 10 0 ∷ []) (answer on_open)
    ∷ asked 7 2 1 10 (grant 7 1 2 10 20 ∷ []) (answer never)
    -- renewals that follow on, in any order; a gap of a day; an open one, met and just missed; another feature; a group that the pass is not
    -- under; a run to the greatest day; ended and ahead as before
    ∷ asked 7 1 1 15 (grant 7 2 2 10 20 ∷ grant 7 2 2 21 30 ∷ []) (answer (on_until 30))
    ∷ asked 7 1 1 15 (grant 7 2 2 21 30 ∷ grant 7 2 2 10 20 ∷ []) (answer (on_until 30))
    ∷ asked 7 1 1 15 (grant 7 2 2 31 40 ∷ grant 7 2 2 10 20 ∷ grant 7 2 2 21 30 ∷ []) (answer (on_until 40))
    ∷ asked 7 1 1 15 (grant 7 2 2 10 20 ∷ grant 7 2 2 22 30 ∷ []) (answer (on_until 20))
    ∷ asked 7 1 1 15 (grant 7 2 2 21 0 ∷ grant 7 2 2 10 20 ∷ []) (answer on_open)
    ∷ asked 7 1 1 15 (grant 7 2 2 22 0 ∷ grant 7 2 2 10 20 ∷ []) (answer (on_until 20))
    ∷ asked 7 1 1 15 (grant 7 2 2 10 20 ∷ grant 8 2 2 21 30 ∷ []) (answer (on_until 20))
    ∷ asked 7 2 2 15 (grant 7 2 2 10 20 ∷ grant 7 1 2 21 30 ∷ []) (answer (on_until 20))
    ∷ asked 7 1 1 15 (grant 7 2 2 10 20 ∷ grant 7 2 2 21 4294967295 ∷ []) (answer (on_until 4294967295))
    ∷ asked 7 1 1 21 (grant 7 2 2 10 20 ∷ grant 7 2 2 30 40 ∷ []) (answer (ended 20))
    ∷ asked 7 1 1 9 (grant 7 2 2 21 30 ∷ grant 7 2 2 10 20 ∷ []) (answer (ahead 10))
    ∷ answered (answer (ahead 10)) "ahead 10"
    ∷ answered (answer (on_until 20)) "on 20"
    ∷ answered (answer (ended 20)) "ended 20"
    ∷ answered (answer on_open) "on open"
    ∷ answered (answer never) "never"
    ∷ answered (refused 15) "no 15"
    -- dates: the first day and the last; February of 2000 and of 2001; the end of 2000
    ∷ falls 1 (date 2000 1 1)
    ∷ falls 60 (date 2000 2 29)
    ∷ falls 61 (date 2000 3 1)
    ∷ falls 366 (date 2000 12 31)
    ∷ falls 367 (date 2001 1 1)
    ∷ falls 425 (date 2001 2 28)
    ∷ falls 426 (date 2001 3 1)
    ∷ falls 36525 (date 2099 12 31)
    -- pages: a grant's state on its border days; features in list order, the longest and the shortest, open; a grant that does not apply
    ∷ paged 1 1 9 (grant 7 2 2 10 20 ∷ []) (answer ("         7 2000-01-10 2000-01-20 ahead  " ∷ []))
    ∷ paged 1 1 10 (grant 7 2 2 10 20 ∷ []) (answer ("         7 2000-01-10 2000-01-20 on     " ∷ []))
    ∷ paged 1 1 20 (grant 7 2 2 10 20 ∷ []) (answer ("         7 2000-01-10 2000-01-20 on     " ∷ []))
    ∷ paged 1 1 21 (grant 7 2 2 10 20 ∷ []) (answer ("         7 2000-01-10 2000-01-20 ended  " ∷ []))
    ∷ paged 2 2 61
    (grant 300 2 2 60 0 ∷ grant 8 1 2 10 20 ∷ grant 7 2 2 1 60 ∷ grant 4294967295 3 2 367 367 ∷ [])
    (answer ("       300 2000-02-29 open       on     " ∷ "         7 2000-01-01 2000-02-29 ended  " ∷ "4294967295 2001-01-01 2001-01-01 ahead  " ∷ []))
    -- a day asked past the last date
    ∷ paged 1 1 36526 (grant 7 2 2 61 366 ∷ grant 8 2 2 426 0 ∷ [])
    (answer ("         7 2000-03-01 2000-12-31 ended  " ∷ "         8 2001-03-01 open       on     " ∷ []))
    -- the empty page; 15; 14 and 31 from left to right, whether the grant applies or not
    ∷ paged 1 1 15 [] (answer [])
    ∷ paged 2 2 15 (grant 7 1 2 10 20 ∷ []) (answer [])
    ∷ paged 0 1 15 (grant 7 2 2 10 36526 ∷ []) (refused 15)
    ∷ paged 1 0 15 (grant 7 2 2 10 36526 ∷ []) (refused 15)
    ∷ paged 1 1 0 (grant 7 2 2 10 36526 ∷ []) (refused 15)
    ∷ paged 2 2 15 (grant 7 2 2 10 20 ∷ grant 8 1 2 36526 0 ∷ []) (refused 31)
    ∷ paged 2 2 15 (grant 8 1 2 10 9 ∷ grant 7 2 2 10 36526 ∷ []) (refused 14)
    ∷ paged 2 2 15 (grant 7 1 2 10 36526 ∷ grant 8 2 2 10 9 ∷ []) (refused 31)
    -- the small requests of a size: the two of one entry, the ten of three; 0, 7 and the greatest number have none
    ∷ smalls 1 ((6 ∷ 1 ∷ 0 ∷ 1 ∷ 1 ∷ 1 ∷ 0 ∷ []) ∷ (6 ∷ 1 ∷ 1 ∷ 1 ∷ 1 ∷ 1 ∷ 0 ∷ []) ∷ [])
    ∷ smalls 3 ten_of3
    ∷ smalls 0 []
    ∷ smalls 7 []
    ∷ smalls 4294967295 []
    -- reflected trees: the one of the rules, and the same with a leaf more; one node; one over another, with the greatest ids
    ∷ moved figure_c (answer list_c)
    ∷ compared figure_c tree_c
    ∷ moved figure_d (answer list_d)
    ∷ compared figure_d tree_d
    ∷ moved (1 ∷ 5 ∷ 0 ∷ 0 ∷ []) (answer ((5 ∷ 1 ∷ []) ∷ []))
    ∷ moved (2 ∷ 4294967295 ∷ 4294967294 ∷ 1 ∷ 4294967293 ∷ 0 ∷ 0 ∷ []) (answer ((4294967295 ∷ 3 ∷ []) ∷ (28 ∷ 4294967295 ∷ 0 ∷ 1 ∷ 4294967295 ∷ 1 ∷ 1 ∷ 4294967293 ∷ 1 ∷ 1 ∷ 4294967294 ∷ 1 ∷ 0 ∷ []) ∷ []))
    -- 32 for 0 and 65 nodes, a node after the whole tree, nodes that end too early, a leaf's lower id, an inner node without one; 4; 6; 33
    ∷ moved (0 ∷ []) (refused 32)
    ∷ moved (65 ∷ 1 ∷ 0 ∷ 0 ∷ []) (refused 32)
    ∷ moved (2 ∷ 1 ∷ 0 ∷ 0 ∷ 2 ∷ 0 ∷ 0 ∷ []) (refused 32)
    ∷ moved (2 ∷ 1 ∷ 0 ∷ 0 ∷ []) (refused 32)
    ∷ moved (1 ∷ 1 ∷ 9 ∷ 1 ∷ []) (refused 32)
    ∷ moved (1 ∷ 1 ∷ 9 ∷ 0 ∷ []) (refused 32)
    ∷ moved (2 ∷ 1 ∷ 0 ∷ 1 ∷ 2 ∷ 0 ∷ 0 ∷ []) (refused 32)
    ∷ moved (1 ∷ 0 ∷ 0 ∷ 0 ∷ []) (refused 4)
    ∷ moved (1 ∷ 1 ∷ 0 ∷ 0 ∷ 0 ∷ []) (refused 6)
    ∷ moved (2 ∷ 1 ∷ 9 ∷ 1 ∷ 1 ∷ 0 ∷ 0 ∷ []) (refused 33)
    ∷ moved (2 ∷ 1 ∷ 2 ∷ 1 ∷ 2 ∷ 0 ∷ 0 ∷ []) (refused 33)
    ∷ moved (3 ∷ 1 ∷ 9 ∷ 1 ∷ 2 ∷ 9 ∷ 1 ∷ 3 ∷ 0 ∷ 0 ∷ []) (refused 33)
    ∷ logged log9 lines9 rows9
    ∷ grown 1 100 calls9 replies9 rows9
    -- 9's pass, and grants to 5 and 3, each noted at a point of its own; then 4 is exploded. 9 ≤ 5 still, and 3's grant is still not 9's
    ∷ noted 1 100 requests9 3 9 (noted_grant 1 5 10 20 ∷ noted_grant 2 3 10 0 ∷ []) 7 15 (kept 78 6 ∷ kept 96 96 ∷ kept 21 66 ∷ []) (answer (on_until 20)) (answer (on_until 20))
    -- a renewal at 5, noted later than the grant that it follows; 3's open grant is still not 9's
    ∷ noted 1 100 requests9 3 9 (noted_grant 3 5 21 30 ∷ noted_grant 1 5 10 20 ∷ noted_grant 2 3 21 0 ∷ []) 7 15
    (kept 78 6 ∷ kept 96 96 ∷ kept 96 96 ∷ kept 21 66 ∷ []) (answer (on_until 30)) (answer (on_until 30))
    -- 4's pass noted before 4 is exploded, which `Noted` keeps out: 9 begins where 4 began in r, so that 9's grant would apply, though 4 is no subgroup of 9
    ∷ noted 1 100 requests9 2 4 (noted_grant 3 9 10 20 ∷ []) 7 15 (outdated 36 6 48 36 ∷ kept 78 6 ∷ []) (answer (on_until 20)) (answer never)
    ∷ []
