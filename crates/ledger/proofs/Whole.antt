-- Demand 3, for every list of calls from a fresh table.
use mathlib.Core.Path.{◌≡◌, refl, ap, ap₂, sym, ◌∙◌}
use mathlib.Core.Bool.{false}
use mathlib.Core.List.{List, [], ◌∷◌, ◌++◌}
use Prim.Native.Nat.{ℕ, ◌≤◌}
use native.Mathlib.Omega.{arith}
use borrow.Author.Tests.{leb-true}
use Rattle.rules.specs.Limits.{greatest}
use Rattle.rules.proofs.Bools.{or_none}
use Rattle.request.specs.Entries.{one_at, times}
use Rattle.request.proofs.Sums.{same_length}
use Rattle.table.specs.Columns.{Columns}
use Rattle.order.specs.Order.{subgroup}
use Rattle.table.proofs.Rows.{rows_length}
use Rattle.refine.specs.Refine.{groups_of}
use Rattle.table.specs.Columns.{l_of, r_of}
use Rattle.refine.proofs.Lookup.{groups_length}
use Rattle.refine.proofs.Lookup.{l_row, r_row}
use Rattle.promises.proofs.Soundness.{sound_ids}
use Rattle.grant.specs.Grant.{Grant}
use Rattle.ledger.specs.Ledger.{Ledger}
use Rattle.ledger.specs.Calls.{Call, ledger_after, ledger_replies, ledger_end, explodes, exploded_in, engine_after, engine_replies, engine_end, engine_start}
use Rattle.table.specs.Columns.{Table, rows_in}
use Rattle.ledger.specs.Decisions.{GroupGrant}
use Rattle.ledger.specs.Demand.{FreshAccepted, ledger_start, ledger, engine, table_rows, Noted, StoredAs, Demand}
use Rattle.ledger.proofs.Agree.{by_numbers, Meets}
use Rattle.ledger.proofs.OneCall.{orders_alike, says_alike, meets_after, Unmoved, stays}
use Rattle.ledger.proofs.Starting.{meets_fresh}
use Rattle.ledger.proofs.Deciding.{each_to, Alike, decided_alike}

-- the whole list
meets_end : (s : Table) (g : Ledger) → Meets s g → (ks : List Call) → Meets (engine_end s ks) (ledger_end g ks)
unfolding engine_end ledger_end
meets_end s g m [] = m
meets_end s g m (k ∷ ks) = meets_end (engine_after s k) (ledger_after g k) (meets_after s g m k) ks

replies_alike : (s : Table) (g : Ledger) → Meets s g → (ks : List Call) → engine_replies s ks ≡ ledger_replies g ks
unfolding engine_replies ledger_replies
replies_alike s g m [] = refl
replies_alike s g m (k ∷ ks) = ap₂ (λ a rest. a ∷ rest) (says_alike s g m k) (replies_alike (engine_after s k) (ledger_after g k) (meets_after s g m k) ks)

stays_end : (s : Table) (g : Ledger) → Meets s g → (ks : List Call) (x : ℕ) → 1 ≤ times x g.groups → exploded_in x g ks ≡ false
    → Unmoved x s (engine_end s ks) (ledger_end g ks)
unfolding engine_end ledger_end exploded_in
stays_end s g m [] x h quiet = record { there = h; l_stays = refl; r_stays = refl }
stays_end s g m (k ∷ ks) x h quiet =
    let p = or_none (explodes x g k) (exploded_in x (ledger_after g k) ks) quiet in
    let u = stays s g m k x h p.0 in
    let v = stays_end (engine_after s k) (ledger_after g k) (meets_after s g m k) ks x u.there p.1 in
    record { there = v.there; l_stays = v.l_stays ∙ u.l_stays; r_stays = v.r_stays ∙ u.r_stays }

engine_append : (s : Table) (js ks : List Call) → engine_end s (js ++ ks) ≡ engine_end (engine_end s js) ks
unfolding engine_end
engine_append s [] ks = refl
engine_append s (k ∷ js) ks = engine_append (engine_after s k) js ks

ledger_append : (g : Ledger) (js ks : List Call) → ledger_end g (js ++ ks) ≡ ledger_end (ledger_end g js) ks
unfolding ledger_end
ledger_append g [] ks = refl
ledger_append g (k ∷ js) ks = ledger_append (ledger_after g k) js ks

-- numbers that a group has at the end
record Last (s : Table) (g : Ledger) (x l r : ℕ) : Type 0 where
  there : 1 ≤ times x g.groups
  l_last : l_of x (rows_in s) ≡ l
  r_last : r_of x (rows_in s) ≡ r

module _ (c : Columns) (id quota : ℕ) (f : FreshAccepted c id quota) where
  meets : (ks : List Call) → Meets (engine c id quota ks) (ledger c id quota ks)
  meets ks = meets_end (engine_start c id quota) (ledger_start c id quota) (meets_fresh c id quota f) ks

  -- numbers that were noted are those of the last table
  last : {ks : List Call} {x l r : ℕ} → Noted c id quota ks x l r → Last (engine c id quota ks) (ledger c id quota ks) x l r
  last {ks} {x} n =
      let h = leb-true 1 (times x (ledger c id quota n.earlier).groups) n.there in
      let u = stays_end (engine c id quota n.earlier) (ledger c id quota n.earlier) (meets n.earlier) n.later x h n.quiet in
      rw (n.joined, engine_append (engine_start c id quota) n.earlier n.later, ledger_append (ledger_start c id quota) n.earlier n.later)
      (record { there = u.there; l_last = u.l_stays ∙ sym n.l_is; r_last = u.r_stays ∙ sym n.r_is })

  -- and their order is the ledger's last order
  pub noted_order : {ks : List Call} {x l r y l' r' : ℕ} → Noted c id quota ks x l r → Noted c id quota ks y l' r'
      → subgroup l r l' r' ≡ (ledger c id quota ks).order x y
  noted_order {ks} {x} {l} {r} {y} {l'} {r'} n n' =
      let m = last n in
      let m' = last n' in
      rw (← m.l_last, ← m.r_last, ← m'.l_last, ← m'.r_last) (sym (by_numbers (meets ks).agree x y m.there m'.there))

  -- noted numbers are numbers of a sound table
  noted_some : {ks : List Call} {x l r : ℕ} → Noted c id quota ks x l r → (1 ≤ l) × (1 ≤ r) × (l ≤ greatest) × (r ≤ greatest)
  noted_some {ks} {x} n =
      let m = last n in
      let t = table_rows c id quota ks in
      let a = (meets ks).agree in
      let row = (sound_ids t a.sound).row x (rw (a.table (one_at x)) m.there) in
      let el = sym (l_row x t) ∙ m.l_last in
      let er = sym (r_row x t) ∙ m.r_last in
      omega (arith, row.l_some, row.r_some, row.q_some, row.l_end, row.r_end, el, er)

  stored_alike : {ks : List Call} {x l r : ℕ} → Noted c id quota ks x l r → (h : GroupGrant) (g : Grant) → StoredAs c id quota ks h g
      → Alike (ledger c id quota ks).order x l r h g
  unfolding subgroup
  stored_alike n h g s =
      let b = noted_some s.noted in
      record {
        stored = s.stored;
        l_some = b.0;
        r_some = b.1;
        fits = record {
          in_feature = rw (ap (λ (k : Grant). k.feature) s.stored) s.feature_32;
          in_l = b.2;
          in_r = b.3;
          in_first = rw (ap (λ (k : Grant). k.first) s.stored) s.first_32;
          in_last = rw (ap (λ (k : Grant). k.last) s.stored) s.last_32;
        };
        agrees = noted_order n s.noted;
      }

  pub demand_3 : (ks : List Call) → Demand c id quota ks
  demand_3 ks = record {
    answers = replies_alike (engine_start c id quota) (ledger_start c id quota) (meets_fresh c id quota f) ks;
    groups = (meets ks).agree.table;
    count = sym (rows_length (engine c id quota ks).columns 0 (engine c id quota ks).count)
        ∙ sym (groups_length (table_rows c id quota ks)) ∙ same_length (groups_of (table_rows c id quota ks)) (ledger c id quota ks).groups (meets ks).agree.table;
    numbers = λ x h. (meets ks).agree.numbers x (leb-true 1 (times x (ledger c id quota ks).groups) h);
    orders = orders_alike (meets ks);
    kept = λ x l r n. ((last n).l_last, (last n).r_last);
    decisions = λ x l r n hs gs all feature day.
        let b = noted_some n in
        decided_alike (ledger c id quota ks) x l r b.0 b.1 hs gs (each_to (stored_alike n) hs gs all) feature day;
  }
