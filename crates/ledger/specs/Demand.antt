-- Demand 3: a single claim about the whole list (RULES.md, 16). `demand_3` of proofs/Whole.antt proves it for every list
-- after every accepted fresh. docs/PROOF-MAP.md lists the wrong engines that it shuts out.
use Rattle.std.specs.Prelude.{ℕ, ◌≤◌, ◌≡◌, true, false, List, ◌++◌, length}
use Rattle.rules.specs.Answers.{answer}
use Rattle.rules.specs.Limits.{greatest}
use Rattle.request.specs.Entries.{has, Same}
use Rattle.table.specs.declared.Row.{Row}
use Rattle.table.specs.Columns.{Columns, counted}
use Rattle.fresh.specs.Fresh.{fresh_rows}
use Rattle.order.specs.Order as table
use Rattle.refine.specs.Refine.{groups_of}
use Rattle.table.specs.Columns.{l_of, r_of}
use Rattle.grant.specs.Grant.{Grant, grant, grants_bytes}
use Rattle.decide.specs.Decision.{decided}
use Rattle.ledger.specs.Ledger.{Ledger, fresh_ledger, ledger_order, afresh_l, afresh_r}
use Rattle.ledger.specs.Decisions.{GroupGrant, ledger_decided, Each}
use Rattle.ledger.specs.Calls.{Call, ledger_replies, ledger_end, exploded_in, engine_replies, engine_end, engine_start}
use Rattle.table.specs.Columns.{Table, rows_in}

-- fresh was accepted: it answered the count 1. A quota is a 32-bit number
pub record FreshAccepted (c : Columns) (id quota : ℕ) : Type 0 where
  pub accepted : counted (fresh_rows c id quota) ≡ answer 1
  pub quota_32 : quota ≤ greatest

module _ (c : Columns) (id quota : ℕ) where
  -- the ledger is fed the column length and the fresh id and quota, and then the calls' bytes and ids
  abbrev pub ledger_start : Ledger
  ledger_start = fresh_ledger (length c.id) id quota

  abbrev pub ledger : List Call → Ledger
  ledger ks = ledger_end ledger_start ks

  -- the table after some calls, and its rows
  abbrev pub engine : List Call → Table
  engine ks = engine_end (engine_start c id quota) ks

  abbrev pub table_rows : List Call → List Row
  table_rows ks = rows_in (engine ks)

  -- l and r are the numbers of the group x, noted after fresh or after any call of the list, and no accepted request explodes x later
  pub record Noted (ks : List Call) (x l r : ℕ) : Type 0 where
    pub earlier : List Call
    pub later : List Call
    pub joined : ks ≡ earlier ++ later
    pub there : has x (ledger earlier).groups ≡ true
    pub l_is : l ≡ l_of x (table_rows earlier)
    pub r_is : r ≡ r_of x (table_rows earlier)
    pub quiet : exploded_in x (ledger earlier) later ≡ false

  -- g is the held grant h as it is stored, with numbers of its group that were noted at a point of its own. Feature and days are any 32-bit numbers
  pub record StoredAs (ks : List Call) (h : GroupGrant) (g : Grant) : Type 0 where
    pub stored : g ≡ grant h.feature g.l g.r h.first h.last
    pub noted : Noted ks h.group g.l g.r
    pub feature_32 : h.feature ≤ greatest
    pub first_32 : h.first ≤ greatest
    pub last_32 : h.last ≤ greatest

  -- what demand 3 says of the list `ks`, clause by clause
  pub record Demand (ks : List Call) : Type 0 where
    -- each call has exactly the ledger's answer
    pub answers : engine_replies (engine_start c id quota) ks ≡ ledger_replies ledger_start ks
    -- after the list the table has exactly the ledger's groups and quotas, and the count is their number
    pub groups : Same (groups_of (table_rows ks)) (ledger ks).groups
    pub count : (engine ks).count ≡ length (ledger ks).groups
    -- each group has the two numbers worked out afresh from the ledger's two sequences
    pub numbers : (x : ℕ) → has x (ledger ks).groups ≡ true → (l_of x (table_rows ks) ≡ afresh_l (ledger ks) x) × (r_of x (table_rows ks) ≡ afresh_r (ledger ks) x)
    -- order answers for any two groups are those of the ledger's order
    pub orders : (a b : ℕ) → table.order (engine ks).columns (engine ks).count a b ≡ ledger_order (ledger ks) a b
    -- a group that no accepted request has exploded since has the numbers it had then: since it was made, or since any later point
    pub kept : (x l r : ℕ) → Noted ks x l r → (l_of x (table_rows ks) ≡ l) × (r_of x (table_rows ks) ≡ r)
    -- numbers noted for a pass and for grants, where no accepted request explodes those groups later: for every feature and day
    -- decide's whole answer, refusals included, is the decision that the ledger's last order gives
    pub decisions : (x l r : ℕ) → Noted ks x l r → (hs : List GroupGrant) (gs : List Grant) → Each (StoredAs ks) hs gs → (feature day : ℕ)
        → decided feature l r day (grants_bytes gs) ≡ ledger_decided (ledger ks) feature x day hs
