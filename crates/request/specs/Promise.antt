-- What a refusal tells of an id that was taken (RULES.md, 7).
use Rattle.std.specs.Prelude.{◌≡◌, List, ◌≢◌, ◌↔◌, ℕ, ◌≤◌}
use Rattle.rules.specs.Answers.{refused}
use Rattle.request.specs.Entries.{Entry, times}
use Rattle.request.specs.Request.{Request, entries}
use Rattle.request.specs.Acceptance.{accepted}

-- neither 20 nor 21: the exploded id is a group, and exactly one entry has it
abbrev pub Named : List Entry → Request → Type 0
Named groups q = (1 ≤ times q.exploded groups) × (times q.exploded (entries q) ≡ 1)

-- some id other than the exploded one is an entry's and in the table
abbrev pub Reused : List Entry → Request → Type 0
Reused groups q = (x : ℕ) × (x ≢ q.exploded) × (1 ≤ times x (entries q)) × (1 ≤ times x groups)

-- some id other than the exploded one comes twice among the entries
abbrev pub Repeated : Request → Type 0
Repeated q = (x : ℕ) × (x ≢ q.exploded) × (2 ≤ times x (entries q))

-- 22 for an id of the table; 26, after 22, for one that comes twice
pub record WhichTaken (room : ℕ) (groups : List Entry) (q : Request) : Type 0 where
  pub reused : (accepted room groups q ≡ refused 22) ↔ (Named groups q × Reused groups q)
  pub repeated : (accepted room groups q ≡ refused 26) ↔ (Named groups q × (Reused groups q → ⊥) × Repeated q)
