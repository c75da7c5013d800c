-- Laws of reading, in the code's terms: a number that may not be 0, and an entry by its three draws.
use Rattle.std.proofs.Common.{◌≡◌, ℕ, List, Bool, true, false, cond, eqb, refl, ap, sym, ◌∙◌}
use Rattle.rules.specs.Answers.{Answer, answer, refused, then}
use Rattle.rules.proofs.Answers.{same_answer, peel, then_answer, then_same}
use Rattle.number.specs.declared.Number.{Number}
use Rattle.number.specs.Number.{found, number_at}
use Rattle.reader.specs.Drawing.{drawn, moved, Draws}
use Rattle.reader.proofs.Drawing.{first_drawn}
use Rattle.request.specs.Reading.{positive_of, positive_at, entry_at}
use Rattle.request.specs.declared.EntryRead.{EntryRead}
use Rattle.entries.specs.Positive.{positive_value}

-- ## A number that may not be 0

-- one that was drawn at a position, judged, is the definition's
pub positive_at_lem : (bytes : List ℕ) (at : ℕ) {number : Answer Number} → number ≡ number_at bytes at → positive_of number ≡ positive_at bytes at
unfolding positive_at
positive_at_lem bytes at h = ap positive_of h

-- it is the number that stands there
pub positive_number : (bytes : List ℕ) (at : ℕ) {value next : ℕ} → found value next ≡ positive_at bytes at → found value next ≡ number_at bytes at
unfolding positive_at
positive_number bytes at h =
    let a = then_answer (number_at bytes at) _ (sym h) in
    sym (a.1 ∙ ap answer (same_answer (peel (eqb a.0.value 0) _ _ a.2).1))

-- what comes after a number that may not be 0, by its value and the place after it
pub after_positive : {B : Type 0} (a : Answer Number) (f : ℕ → ℕ → Answer B) → then (positive_of a) (λ n. f n.value n.next) ≡ then (positive_value (drawn a)) (λ v. f v (moved a))
after_positive (refused n) f = refl
after_positive (answer n) f = go (eqb n.value 0)
  where
    go : (b : Bool) → then (cond b (refused 4) (answer n)) (λ m. f m.value m.next) ≡ then (cond b (refused 4) (answer n.value)) (λ v. f v n.next)
    go true = refl
    go false = refl

pub after_number : {B : Type 0} (a : Answer Number) (f : ℕ → ℕ → Answer B) → then a (λ n. f n.value n.next) ≡ then (drawn a) (λ v. f v (moved a))
after_number (refused n) f = refl
after_number (answer n) f = refl

-- ## An entry

-- the entry of three draws, each judged after all are drawn
abbrev pub of_three : (first second third : Answer ℕ) (next : ℕ) → Answer EntryRead
of_three first second third next =
    then (positive_value first) λ id.
    then (positive_value second) λ quota.
    then third λ children. answer (record { id = id; quota = quota; children = children; next = next })

three : (bytes : List ℕ) (at : ℕ)
    → entry_at bytes at
    ≡ (let a = number_at bytes at in
    let b = number_at bytes (moved a) in
    let c = number_at bytes (moved b) in
    of_three (drawn a) (drawn b) (drawn c) (moved c))
unfolding entry_at positive_at
three bytes at =
    let a = number_at bytes at in
    let b = number_at bytes (moved a) in
    after_positive a (λ id p. then (positive_of (number_at bytes p)) (λ quota. then (number_at bytes quota.next) (λ children.
    answer (record { id = id; quota = quota.value; children = children.value; next = children.next }))))
    ∙ then_same (positive_value (drawn a)) _ _ (λ id _.
    after_positive b (λ quota q. then (number_at bytes q) (λ children. answer (record { id = id; quota = quota; children = children.value; next = children.next })))
    ∙ then_same (positive_value (drawn b)) _ _ (λ quota _.
    after_number (number_at bytes (moved b)) (λ children next. answer (record { id = id; quota = quota; children = children; next = next }))))

module _ {bytes : List ℕ} {at : ℕ} {first second third : Answer ℕ} {next : ℕ} (d : Draws bytes at first second third next) where
  entry_drawn : entry_at bytes at ≡ of_three first second third next
  entry_drawn =
      let f = first_drawn d in
      let t = three bytes at in
      rw (d.next_is, d.third_is, d.q_is, d.second_is, f.1, f.0) t

  pub no_id : {n : ℕ} → refused n ≡ positive_value first → refused n ≡ entry_at bytes at
  no_id h = rw (entry_drawn, sym h)

  pub no_quota : {id n : ℕ} → answer id ≡ positive_value first → refused n ≡ positive_value second → refused n ≡ entry_at bytes at
  no_quota h i = rw (entry_drawn, sym h, sym i)

  pub no_children : {id quota n : ℕ} → answer id ≡ positive_value first → answer quota ≡ positive_value second → refused n ≡ third → refused n ≡ entry_at bytes at
  no_children h i j = rw (entry_drawn, sym h, sym i, sym j)

  pub all_drawn : {id quota children : ℕ} → answer id ≡ positive_value first → answer quota ≡ positive_value second → answer children ≡ third
      → answer (record { id = id; quota = quota; children = children; next = next }) ≡ entry_at bytes at
  all_drawn h i j = rw (entry_drawn, sym h, sym i, sym j)
