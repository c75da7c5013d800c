-- The kinds of worked example in document 01, and those of dates, pages, small requests and reflected trees: what is given, what the definitions make of it, and what is said of it.
use Rattle.std.specs.Prelude.{ℕ, Bool, eqb, length, take, drop}
use Prim.Native.String.{String}
use mathlib.Core.List.{List, [], ◌∷◌, ◌++◌, map, flatten}
use Rattle.rules.specs.Answers.{Answer, answer, refused, then}
use Rattle.rules.specs.Limits.{most_rows}
use Rattle.number.specs.declared.Number.{Number}
use Rattle.number.specs.Number.{found, number_at, bytes_of}
use Rattle.request.specs.Entries.{quota_of}
use Rattle.table.specs.declared.Row.{Row}
use Rattle.table.specs.Columns.{rows, l_of, r_of, counted, afterwards}
use Rattle.fresh.specs.Fresh.{fresh_rows}
use Rattle.order.specs.declared.Ordered.{Ordered}
use Rattle.order.specs.Order.{order_by, order_in}
use Rattle.grant.specs.Grant.{Grant, grant, grants_bytes}
use Rattle.renewals.specs.Dating.{Decision}
use Rattle.decide.specs.Decision.{decided}
use Rattle.decision_line.specs.DecisionText.{decision_text}
use Rattle.ledger.specs.Ledger.{Ledger, fresh_ledger, afresh_l, afresh_r}
use Rattle.ledger.specs.Calls.{Call, Reply, engine_start, engine_replies, engine_end, ledger_replies, ledger_end, exploded_in}
use Rattle.ledger.specs.Decisions.{GroupGrant, ledger_decided}
use Rattle.table.specs.Columns.{Table, rows_in}
use Rattle.calendar.specs.declared.Date.{Date}
use Rattle.calendar.specs.Calendar.{date_of}
use Rattle.page.specs.Page.{page_of}
use Rattle.small.specs.Small.{list_bytes}
use Rattle.reflected_tree.specs.Reflected.{Reflected, groups}
use Rattle.reflected_tree.specs.Written as tree_list
use Rattle.reflected_tree.specs.Table2.{table2}
use Rattle.reflected_tree.specs.Reading.{reflected_of}
use Rattle.replay.specs.Replay.{Replay, replay_of, blank, grow_text}
use Rattle.proved_cases.specs.Lines.{lines}

-- a grant to a group whose numbers were noted after some of the calls
pub record NotedGrant : Type 0 where
  pub after : ℕ
  pub grant : GroupGrant

-- a group's l and r as they were noted, and after all the calls; whether an accepted request exploded it in between
pub record Note : Type 0 where
  pub l : ℕ
  pub r : ℕ
  pub last_l : ℕ
  pub last_r : ℕ
  pub exploded : Bool

pub data Case : Type 0 where
  -- a number and its stored bytes
  stored : ℕ → List ℕ → Case
  -- fresh of a group and a quota, and the row that it writes
  made : (id quota : ℕ) → Row → Case
  -- fresh of a group and a quota, then calls; the replies to them, and the rows after them
  grown : (id quota : ℕ) → List Call → List Reply → List Row → Case
  -- the numbers of a log; the lines that are printed, and the rows after it
  logged : List ℕ → List String → List Row → Case
  -- a feature, a pass (l, r), a day and grants, and what is decided
  asked : (feature l r day : ℕ) → List Grant → Answer Decision → Case
  -- a decision or a refusal, and the line that is printed of it
  answered : Answer Decision → String → Case
  -- a day, and the date that it falls on
  falls : (day : ℕ) → Date → Case
  -- a pass (l, r), a day and grants, and the lines of the page
  paged : (l r day : ℕ) → List Grant → Answer (List String) → Case
  -- a size, and its small requests by their bytes, each after its length
  smalls : (size : ℕ) → List (List ℕ) → Case
  -- a reflected tree's numbers, and its list: the pair's numbers, and each request's after its length
  moved : List ℕ → Answer (List (List ℕ)) → Case
  -- a reflected tree's numbers, and the tree that is read: its list is carried out, and of every two of its groups the table's order is Table 2's
  compared : List ℕ → Reflected → Case
  -- fresh of a group and a quota, then calls; a pass of the group x, noted after n of them, and grants; feature and day. The pass's note and the grants',
  -- what is decided from their numbers, and what the ledger's last order gives
  noted : (id quota : ℕ) → List Call → (n x : ℕ) → List NotedGrant → (feature day : ℕ) → List Note → (by_numbers by_order : Answer Decision) → Case

-- what the definitions say, and what the document says
pub data Outcome : Type 0 where
  -- a number's bytes, and what is read from bytes
  codec : List ℕ → Answer Number → Outcome
  -- a call's answer, and the first row after it
  table : Answer ℕ → List Row → Outcome
  -- the replies to a list of calls and the rows after it, by the engine; the same by the ledger, the numbers worked out afresh
  run : List Reply → List Row → List Reply → List Row → Outcome
  -- a text's bytes, and the rows after it
  printed : List ℕ → List Row → Outcome
  -- the decision on the grants' stored bytes
  decision : Answer Decision → Outcome
  -- a day's date
  date : Date → Outcome
  -- the page of the grants' stored bytes, by its bytes
  page : Answer (List ℕ) → Outcome
  -- the bytes of a list of small requests
  list : List ℕ → Outcome
  -- the bytes of a reflected tree's list
  moves : Answer (List ℕ) → Outcome
  -- what order answers of every two groups
  orders : Answer (List (Answer Ordered)) → Outcome
  -- the notes of a pass and of grants, the decision from their numbers, and the ledger's
  decisions : List Note → Answer Decision → Answer Decision → Outcome

-- the stored bytes of some numbers
abbrev pub stream : List ℕ → List ℕ
stream [] = []
stream (n ∷ s) = bytes_of n ++ stream s

abbrev pub row : (id l r q : ℕ) → Row
row id l r q = record { id = id; l = l; r = r; q = q }

-- the rows that the ledger gives to the groups of some rows. Row positions are not compared
abbrev pub afresh : Ledger → List Row → List Row
afresh g t = map (λ w. row w.id (afresh_l g w.id) (afresh_r g w.id) (quota_of w.id g.groups)) t

-- the engine's start, and the ledger's
abbrev pub engine : (id quota : ℕ) → Table
engine id quota = engine_start blank id quota

abbrev pub ledger : (id quota : ℕ) → Ledger
ledger id quota = fresh_ledger most_rows id quota

-- what is noted of the group x after n of the calls
abbrev pub note : (id quota : ℕ) → List Call → (n x : ℕ) → Note
note id quota calls n x =
    let t = rows_in (engine_end (engine id quota) (take n calls)) in
    let last = rows_in (engine_end (engine id quota) calls) in
    record {
      l = l_of x t;
      r = r_of x t;
      last_l = l_of x last;
      last_r = r_of x last;
      exploded = exploded_in x (ledger_end (ledger id quota) (take n calls)) (drop n calls);
    }

abbrev pub note_of : (id quota : ℕ) → List Call → NotedGrant → Note
note_of id quota calls h = note id quota calls h.after h.grant.group

-- the grant as it is stored
abbrev pub stored_as : (id quota : ℕ) → List Call → NotedGrant → Grant
stored_as id quota calls h = let n = note_of id quota calls h in grant h.grant.feature n.l n.r h.grant.first h.grant.last

-- the rows after a log
abbrev pub rows_after : Answer Replay → List Row
rows_after (answer r) = rows r.table.columns r.table.count
rows_after (refused n) = []

-- the ids of a tree's groups; something of every two ids
abbrev pub ids : Reflected → List ℕ
ids t = map (λ e. e.id) (groups t)

abbrev pub of_every_two : (ℕ → ℕ → Answer Ordered) → List ℕ → List ℕ → List (Answer Ordered)
of_every_two f [] s = []
of_every_two f (x ∷ r) s = map (f x) s ++ of_every_two f r s

abbrev pub computed : Case → Outcome
computed (stored value bytes) = codec (bytes_of value) (number_at bytes 0)
computed (made id quota after) = table (counted (fresh_rows blank id quota)) (rows (afterwards (fresh_rows blank id quota) blank) 1)
computed (grown id quota calls said after) =
    run (engine_replies (engine id quota) calls)
    (rows_in (engine_end (engine id quota) calls))
    (ledger_replies (ledger id quota) calls)
    (afresh (ledger_end (ledger id quota) calls) after)
computed (logged numbers text after) = printed (grow_text blank (stream numbers)) (rows_after (replay_of blank (stream numbers)))
computed (asked feature l r day gs said) = decision (decided feature l r day (grants_bytes gs))
computed (answered said text) = printed (decision_text said) []
computed (falls day said) = date (date_of day)
computed (paged l r day gs said) = page (page_of l r day (grants_bytes gs))
computed (smalls size requests) = list (list_bytes size)
computed (moved numbers said) = moves (then (reflected_of (stream numbers)) λ t. answer (tree_list.list_bytes t))
computed (compared numbers tree) =
    orders (then (reflected_of (stream numbers)) λ t.
    answer (of_every_two (order_in (rows_after (replay_of blank (tree_list.list_bytes t)))) (ids t) (ids t)))
computed (noted id quota calls n x hs feature day ns by_numbers by_order) =
    let pass = note id quota calls n x in
    decisions (pass ∷ map (note_of id quota calls) hs)
    (decided feature pass.l pass.r day (grants_bytes (map (stored_as id quota calls) hs)))
    (ledger_decided (ledger_end (ledger id quota) calls) feature x day (map (λ h. h.grant) hs))

abbrev pub stated : Case → Outcome
stated (stored value bytes) = codec bytes (found value (length bytes))
stated (made id quota after) = table (answer 1) (after ∷ [])
stated (grown id quota calls said after) = run said after said after
stated (logged numbers text after) = printed (lines text) after
stated (asked feature l r day gs said) = decision said
stated (answered said text) = printed (lines (text ∷ [])) []
stated (falls day said) = date said
stated (paged l r day gs said) = page (then said λ text. answer (lines text))
stated (smalls size requests) = list (flatten requests)
stated (moved numbers said) = moves (then said λ parts. answer (stream (flatten parts)))
stated (compared numbers tree) =
    orders (answer (of_every_two (λ x y. answer (order_by (eqb x y) (table2 tree x y) (table2 tree y x))) (ids tree) (ids tree)))
stated (noted id quota calls n x hs feature day ns by_numbers by_order) = decisions ns by_numbers by_order
