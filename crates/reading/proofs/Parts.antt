-- Laws of reading a request, in the code's terms.
use Rattle.std.proofs.Common.{◌≡◌, ℕ, zero, suc, ◌≤◌, ◌<◌, List, cond, ltb, eqb, length, refl, ap, sym, ◌∙◌, subst, arith}
use borrow.Author.Tests.{lt-ltb, le-ltb, ne_eqb}
use Rattle.rules.specs.Answers.{Answer, answer, refused, then}
use Rattle.rules.specs.Limits.{greatest_depth}
use Rattle.rules.proofs.Answers.{then_same}
use Rattle.number.specs.Number.{number_at}
use Rattle.reader.specs.Drawing.{drawn}
use Rattle.request.specs.Forest.{Forest}
use Rattle.request.specs.Numbering.{whole, size}
use Rattle.request.specs.Reading.{positive_of, positive_at, TreesRead, trees_at, direction_of, request_of}
use Rattle.request.specs.Request.{Request}
use Rattle.entries.specs.Positive.{positive_value}
use Rattle.reader.specs.Drawing.{Draws}
use Rattle.reader.proofs.Drawing.{first_drawn}
use Rattle.entries.proofs.Parts.{after_positive, after_number}
use Rattle.reading.specs.declared.WalkEnd.{WalkEnd}
use Rattle.reading.specs.declared.columns.Work.{Work}
use Rattle.reading.specs.Summary.{is_upright, summary}
use Rattle.reading.specs.Inside.Work.{walk_end, Walked, RequestIn}
use Rattle.reading.proofs.Walking.{walk_found, used_size}

pub refusal : (bytes : List ℕ) {n : ℕ} (w v : Work) → request_of bytes ≡ refused n → (refused n ≡ summary (request_of bytes)) × RequestIn (request_of bytes) w v
refusal bytes w v e = (rw e, rw e tt)

upright_is : (d : ℕ) → eqb d 0 ≡ is_upright (direction_of d)
unfolding direction_of
upright_is zero = refl
upright_is (suc d) = ne_eqb (suc d) 0 (λ e. omega arith)

summary_is : (x d : ℕ) (t : Forest) {u z : ℕ} → u ≡ size t → z ≡ whole t
    → answer (record { exploded = x; upright = eqb d 0; entries = u; quota = z }) ≡ summary (answer (record { exploded = x; direction = direction_of d; trees = t }))
summary_is x d t e f = rw (e, f, upright_is d)

-- ## A request's head: three draws, judged after all are drawn

-- the trees after the head, and then the end
abbrev of_trees : List ℕ → (exploded direction trees at : ℕ) → Answer Request
of_trees bytes x d n at =
    then (trees_at greatest_depth n bytes at 0) λ t.
    cond (ltb t.next (length bytes)) (refused 6) (answer (record { exploded = x; direction = direction_of d; trees = t.trees }))

abbrev of_head : List ℕ → (first second third : Answer ℕ) → ℕ → Answer Request
of_head bytes first second third at =
    then (positive_value first) λ x.
    then second λ d.
    cond (ltb 1 d) (refused 3) (then (positive_value third) λ n. of_trees bytes x d n at)

-- what is read before the trees
pub record Begun (first second third : Answer ℕ) (exploded direction trees : ℕ) : Type 0 where
  pub exploded_is : answer exploded ≡ positive_value first
  pub direction_is : answer direction ≡ second
  pub known : direction ≤ 1
  pub trees_are : answer trees ≡ positive_value third

module _ {bytes : List ℕ} {first second third : Answer ℕ} {next : ℕ} (h : Draws bytes 0 first second third next) where
  head_drawn : request_of bytes ≡ of_head bytes first second third next
  unfolding request_of positive_at
  head_drawn =
      let a = number_at bytes 0 in
      let b = number_at bytes h.p in
      let c = number_at bytes h.q in
      after_positive a (λ x p. then (number_at bytes p) (λ direction. cond (ltb 1 direction.value) (refused 3)
      (then (positive_of (number_at bytes direction.next)) (λ n. of_trees bytes x direction.value n.value n.next))))
      ∙ ap (λ p. then (positive_value (drawn a)) (λ x. then (number_at bytes p) (λ direction. cond (ltb 1 direction.value) (refused 3)
      (then (positive_of (number_at bytes direction.next)) (λ n. of_trees bytes x direction.value n.value n.next))))) (sym (first_drawn h).1)
      ∙ ap (λ v. then (positive_value v) (λ x. then b (λ direction. cond (ltb 1 direction.value) (refused 3)
      (then (positive_of (number_at bytes direction.next)) (λ n. of_trees bytes x direction.value n.value n.next))))) (sym (first_drawn h).0)
      ∙ then_same (positive_value first) _ _ (λ x _.
      after_number b (λ d q. cond (ltb 1 d) (refused 3) (then (positive_of (number_at bytes q)) (λ n. of_trees bytes x d n.value n.next)))
      ∙ ap (λ q. then (drawn b) (λ d. cond (ltb 1 d) (refused 3) (then (positive_of (number_at bytes q)) (λ n. of_trees bytes x d n.value n.next)))) (sym h.q_is)
      ∙ ap (λ v. then v (λ d. cond (ltb 1 d) (refused 3) (then (positive_of c) (λ n. of_trees bytes x d n.value n.next)))) (sym h.second_is)
      ∙ then_same second _ _ (λ d _.
      ap (cond (ltb 1 d) (refused 3))
      (after_positive c (λ n s. of_trees bytes x d n s)
      ∙ ap (λ s. then (positive_value (drawn c)) (λ n. of_trees bytes x d n s)) (sym h.next_is)
      ∙ ap (λ v. then (positive_value v) (λ n. of_trees bytes x d n next)) (sym h.third_is))))

  pub no_exploded : {n : ℕ} → refused n ≡ positive_value first → request_of bytes ≡ refused n
  no_exploded e = head_drawn ∙ rw (sym e)

  pub no_direction : {x n : ℕ} → answer x ≡ positive_value first → refused n ≡ second → request_of bytes ≡ refused n
  no_direction e f = head_drawn ∙ rw (sym e, sym f)

  pub odd_direction : {x d : ℕ} → answer x ≡ positive_value first → answer d ≡ second → 1 < d → request_of bytes ≡ refused 3
  odd_direction {d = d} e f l = head_drawn ∙ rw (sym e, sym f, lt-ltb 1 d l)

  pub no_count : {x d n : ℕ} → answer x ≡ positive_value first → answer d ≡ second → d ≤ 1 → refused n ≡ positive_value third → request_of bytes ≡ refused n
  no_count {d = d} e f l g = head_drawn ∙ rw (sym e, sym f, le-ltb 1 d l, sym g)

  module _ {x d m : ℕ} (b : Begun first second third x d m) where
    head_begun : request_of bytes ≡ of_trees bytes x d m next
    head_begun = head_drawn ∙ rw (sym b.exploded_is, sym b.direction_is, le-ltb 1 d b.known, sym b.trees_are)

    pub no_trees : {n : ℕ} → trees_at greatest_depth m bytes next 0 ≡ refused n → request_of bytes ≡ refused n
    no_trees e = head_begun ∙ rw e

    trees_remain : {t : TreesRead} → trees_at greatest_depth m bytes next 0 ≡ answer t → t.next < length bytes → request_of bytes ≡ refused 6
    trees_remain {t = t} e l = head_begun ∙ rw (e, lt-ltb t.next (length bytes) l)

    trees_whole : {t : TreesRead} → trees_at greatest_depth m bytes next 0 ≡ answer t → length bytes ≤ t.next
        → request_of bytes ≡ answer (record { exploded = x; direction = direction_of d; trees = t.trees })
    trees_whole {t = t} e l = head_begun ∙ rw (e, le-ltb t.next (length bytes) l)

    pub remain : {w : WalkEnd} → answer w ≡ walk_end (trees_at greatest_depth m bytes next 0) → w.next < length bytes → request_of bytes ≡ refused 6
    remain e l = trees_remain (walk_found (trees_at greatest_depth m bytes next 0) e).1 l

    pub read_whole : {e : WalkEnd} → answer e ≡ walk_end (trees_at greatest_depth m bytes next 0) → length bytes ≤ e.next
        → (w v : Work) → Walked (trees_at greatest_depth m bytes next 0) 0 w v
        → (answer (record { exploded = x; upright = eqb d 0; entries = e.used; quota = e.quota }) ≡ summary (request_of bytes)) × RequestIn (request_of bytes) w v
    read_whole e l w v k =
        let f = walk_found (trees_at greatest_depth m bytes next 0) e in
        let r = trees_whole f.1 l in
        let n = (used_size greatest_depth m bytes next 0 f.1).0 in
        (summary_is x d f.0 (omega arith) (sym f.2) ∙ sym (ap summary r), rw r (subst (λ (a : Answer TreesRead). Walked a 0 w v) f.1 k))
