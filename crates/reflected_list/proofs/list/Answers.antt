-- The buffer has room for any list, and where the tree is refused nothing is answered.
use Rattle.std.proofs.Common.{◌≡◌, ℕ, ◌≤◌, List, length, take, refl, sym, ap, ◌∙◌, arith}
use Rattle.std.specs.Prelude.{Result, Ok, Err}
use Rattle.std.specs.Result.{result_unwrap_or}
use Rattle.rules.specs.Answers.{Answer, answer, refused, then}
use Rattle.rules.specs.Buffers.{written}
use Rattle.rules.specs.Says.{says}
use Rattle.rules.specs.declared.Refusal.{Refusal}
use Rattle.rules.proofs.Answers.{never_refused}
use Rattle.rules.proofs.Buffers.{start_answers, start_whole}
use Rattle.reflected_tree.specs.Reflected.{Reflected}
use Rattle.reflected_tree.specs.Written.{list_bytes}
use Rattle.reflected_tree.specs.Reading.{reflected_of, reflected_answer, reflected_buffer}
use Rattle.reflected_tree.proofs.Most.{read_most}
use Rattle.reflected_list.specs.List.{list_or_none}
use Rattle.reflected_list.proofs.list.Goals as goal

-- what is in the buffer, and how much of it is answered
abbrev Written : ℕ → List ℕ → Answer Reflected → Type 0
Written n new a = (n ≤ length new) × (take n new ≡ list_or_none a)

written_list : (r : Result ℕ Refusal) (buffer : List ℕ) (t : Reflected) {new : List ℕ} {n : ℕ} → n ≡ result_unwrap_or r 0 → length (list_bytes t) ≤ length buffer
    → new ≡ reflected_buffer (answer t) buffer → says r ≡ written buffer 0 (list_bytes t) → Written n new (answer t)
unfolding reflected_buffer list_or_none
written_list (Ok k) buffer t u room e s = start_whole buffer (list_bytes t) room e (sym s ∙ ap answer (sym u))
written_list (Err why) buffer t u room e s = start_answers buffer (list_bytes t) room (sym s)

none_written : (r : Result ℕ Refusal) (new : List ℕ) {k : ℕ} {n : ℕ} → n ≡ result_unwrap_or r 0 → says r ≡ refused k → Written n new (refused k)
unfolding list_or_none
none_written (Ok k) new u s = never_refused (sym s)
none_written (Err why) new u s = rw u (omega arith, refl)

all_written : (bytes buffer : List ℕ) (r : Result ℕ Refusal) {new : List ℕ} {n : ℕ} → n ≡ result_unwrap_or r 0 → 1833 ≤ length buffer
    → new ≡ reflected_buffer (reflected_of bytes) buffer → says r ≡ reflected_answer bytes buffer → Written n new (reflected_of bytes)
unfolding reflected_answer
all_written bytes buffer r {new} {n} u room e s = go (reflected_of bytes) refl e s
  where
    go : (a : Answer Reflected) → reflected_of bytes ≡ a → new ≡ reflected_buffer a buffer → says r ≡ then a (λ t. written buffer 0 (list_bytes t)) → Written n new a
    go (answer t) f e s = written_list r buffer t u (omega (arith, read_most bytes f)) e s
    go (refused k) f e s = none_written r new u s

pub returns-clause-prefix_len : goal.returns-clause-prefix_len
returns-clause-prefix_len c =
    (all_written c.args.bytes.now c.args.buffer.now c.reflected.result c.unwrap_or.ensures c.requires c.reflected.ensures.buffer_value c.reflected.ensures.result_value).0

pub returns-clause-buffer_value : goal.returns-clause-buffer_value
returns-clause-buffer_value c =
    (all_written c.args.bytes.now c.args.buffer.now c.reflected.result c.unwrap_or.ensures c.requires c.reflected.ensures.buffer_value c.reflected.ensures.result_value).1
