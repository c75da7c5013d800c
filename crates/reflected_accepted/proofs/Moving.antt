-- Every list that is written for a reflected tree is accepted by columns of 256 rows, and the table's order is then Table 2.
use mathlib.Core.Path.{◌≡◌, refl, ap, ◌∙◌}
use mathlib.Core.Bool.{false}
use mathlib.Core.List.{List, [], ◌∷◌, ◌++◌, map, append_assoc, append-nil}
use Prim.Native.Nat.{ℕ, ◌+◌, ◌≤◌}
use native.Mathlib.Omega.{arith}
use lib.ListN.{length, length-append}
use borrow.Author.Tests.{leb-true, le-leb, ne_eqb}
use Rattle.rules.specs.Answers.{answer}
use Rattle.rules.specs.Limits.{greatest, most_rows}
use Rattle.number.specs.Number.{number_at, bytes_of, found}
use Rattle.number.proofs.Laws.{number_back}
use Rattle.request.specs.Entries.{entry, one_at, times, before, Distinct}
use Rattle.request.specs.Bytes.{request_bytes}
use Rattle.request.proofs.Sums.{no_later, later_iff}
use Rattle.request_log.specs.Log.{pair_of, requests_at, requests_bytes}
use Rattle.request_log.specs.declared.Pair.{Pair}
use Rattle.request_log.proofs.RoundTrip.{Short, requests_back}
use Rattle.table.specs.Columns.{Columns, Table, counted, l_of, r_of, rows_in}
use Rattle.table.specs.Check.{lengths_bad}
use Rattle.fresh.specs.Fresh.{fresh_rows}
use Rattle.fresh.proofs.Laws.{fresh_rows_lem}
use Rattle.order.specs.Order.{subgroup, order}
use Rattle.ledger.specs.Ledger.{Ledger, fresh_ledger, ledger_order}
use Rattle.ledger.specs.Calls.{engine_start}
use Rattle.ledger.proofs.Agree.{by_numbers}
use Rattle.ledger.proofs.OneCall.{orders_alike}
use Rattle.ledger.proofs.Starting.{meets_fresh}
use Rattle.reflected_tree.specs.Reflected.{Reflected, empty, node, group_count, ends_as, node_count, groups, groups_r}
use Rattle.reflected_tree.specs.Written.{requests_of, list_bytes}
use Rattle.reflected_tree.specs.Table2.{table2}
use Rattle.reflected_tree.specs.Reading.{most_nodes}
use Rattle.reflected_tree.proofs.Groups.{count_most}
use Rattle.reflected_tree.proofs.Positions.{sequences_say}
use Rattle.reflected_tree.proofs.Read.{LegalIds, reflected_read}
use Rattle.reflected_accepted.specs.Promise.{GroupOf, table2_order, Moves, MovesOver}
use Rattle.reflected_accepted.proofs.Growing.{State, along, Grown, trees_grown}

-- ## The list, as `grow` reads it

module _ (id quota : ℕ) (requests : List (List ℕ)) where
  abbrev list : List ℕ
  list = bytes_of id ++ (bytes_of quota ++ requests_bytes requests)

  abbrev pair : Pair
  pair = record { id = id; quota = quota; next = length (bytes_of id) + length (bytes_of quota) }

  pair_back : id ≤ greatest → quota ≤ greatest → pair_of list ≡ answer pair
  unfolding pair_of
  pair_back i q =
      let a : number_at list 0 ≡ found id (length (bytes_of id)) = number_back id [] (bytes_of quota ++ requests_bytes requests) i ∙ ap (found id) (omega arith) in
      rw (a, number_back quota (bytes_of id) (requests_bytes requests) q)

  parts_back : Short requests → requests_at list pair.next ≡ record { bytes = requests; ended = answer tt }
  parts_back short =
      rw (← append_assoc (bytes_of id) (bytes_of quota) (requests_bytes requests), ← length-append (bytes_of id) (bytes_of quota))
      (requests_back requests (bytes_of id ++ bytes_of quota) short)

-- ## The order of a table that agrees with a ledger of the tree's two sequences

module _ {s : Table} (t : Reflected) (k : State s (groups t) (groups_r t)) (d : Distinct (groups t)) where
  abbrev g : Ledger
  g = k.ledger

  once : (x : ℕ) → GroupOf t x → times x (groups t) ≡ 1
  once x h = omega (arith, d x, leb-true 1 (times x (groups t)) h)

  there : (x : ℕ) → GroupOf t x → 1 ≤ times x g.groups
  there x h = omega (arith, k.meets.agree.lefts (one_at x), ap (times x) k.left_is, once x h)

  ledger_says : (x y : ℕ) → GroupOf t x → GroupOf t y → g.order x y ≡ table2 t x y
  unfolding subgroup no_later
  ledger_says x y hx hy =
      let n = k.meets.agree.numbers x (there x hx) in
      let m = k.meets.agree.numbers y (there y hy) in
      let w = rows_in s in
      by_numbers k.meets.agree x y (there x hx) (there y hy)
      ∙ later_iff (l_of x w) (r_of x w) (l_of y w) (r_of y w) (before x (groups t)) (before x (groups_r t)) (before y (groups t)) (before y (groups_r t))
      (omega (arith, ap (before x) k.left_is, ap (before y) k.left_is))
      (omega (arith, ap (before x) k.right_is, ap (before y) k.right_is))
      ∙ sequences_say t x y d (once x hx) (once y hy)

  table_says : (x y : ℕ) → GroupOf t x → GroupOf t y → order s.columns s.count x y ≡ table2_order t x y
  unfolding ledger_order
  table_says x y hx hy =
      orders_alike k.meets x y
      ∙ rw (le-leb 1 (times x g.groups) (there x hx), le-leb 1 (times y g.groups) (there y hy), ledger_says x y hx hy, ledger_says y x hy hx)

-- ## From fresh on

module _ (c : Columns) (good : lengths_bad c ≡ false) (rows : length c.id ≡ most_rows) (u l : ℕ) (b : Reflected) (ids : LegalIds (node u l b empty))
    (few : node_count (node u l b empty) ≤ most_nodes) (distinct : Distinct (groups (node u l b empty))) where
  abbrev t : Reflected
  t = node u l b empty

  abbrev quota : ℕ
  quota = group_count t

  abbrev requests : List (List ℕ)
  requests = map request_bytes (requests_of t)

  most : quota ≤ 128
  most = omega (arith, count_most t)

  fresh_one : counted (fresh_rows c u quota) ≡ answer 1
  fresh_one = ap counted (fresh_rows_lem u quota (ne_eqb u 0 (λ e. omega (arith, ids.0))) (ne_eqb quota 0 (λ e. omega arith)) c good)

  start : State (engine_start c u quota) (entry u quota ∷ []) (entry u quota ∷ [])
  unfolding engine_start fresh_ledger
  start = record {
    ledger = fresh_ledger (length c.id) u quota;
    meets = meets_fresh c u quota (record { accepted = fresh_one; quota_32 = omega (arith, most) });
    room = rows;
    left_is = refl;
    right_is = refl;
  }

  grown : Grown (engine_start c u quota) (requests_of t) ([] ++ (groups t ++ [])) ([] ++ (groups_r t ++ []))
  grown =
      let z : quota ≡ ends_as b = omega arith in
      let k = along (ap (λ q. entry u q ∷ []) z) (ap (λ q. entry u q ∷ []) z) start in
      trees_grown t ids [] [] [] [] (engine_start c u quota) k (λ x. omega (arith, distinct x)) (omega (arith, most))

  moves : Moves c t
  unfolding list_bytes
  moves = record {
    pair = pair u quota requests;
    requests = requests;
    pair_is = pair_back u quota requests (omega (arith, ids.0)) (omega (arith, most));
    requests_are = parts_back u quota requests grown.short;
    fresh_accepts = fresh_one;
    last = grown.last;
    all_accepted = grown.all_accepted;
    order_is = table_says t (along (append-nil (groups t)) (append-nil (groups_r t)) grown.state) distinct;
  }

pub moves_over : (bytes : List ℕ) (c : Columns) → MovesOver bytes c
moves_over bytes c tree h good rows = let r = reflected_read bytes h in rw r.root (moves c good rows r.upper r.lower r.children r.ids r.few r.distinct)
