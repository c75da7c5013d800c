-- The buffer has room for any list.
use Rattle.std.proofs.Common.{◌≡◌, ℕ, ◌≤◌, List, length, take, sym, ap, ◌∙◌, arith}
use Rattle.std.specs.Prelude.{Result, Ok, Err}
use Rattle.std.specs.Result.{result_unwrap_or}
use Rattle.rules.specs.Answers.{answer}
use Rattle.rules.specs.Buffers.{after, written}
use Rattle.rules.specs.Says.{says}
use Rattle.rules.specs.declared.Refusal.{Refusal}
use Rattle.rules.proofs.Buffers.{start_answers, start_whole}
use Rattle.small.specs.Small.{list_bytes}
use Rattle.small_requests.proofs.Rows.{list_most}
use Rattle.list_small.proofs.list.Goals as goal

whole : (r : Result ℕ Refusal) (buffer bytes : List ℕ) {new : List ℕ} {n : ℕ} → n ≡ result_unwrap_or r 0 → length bytes ≤ length buffer → new ≡ after buffer 0 bytes
    → says r ≡ written buffer 0 bytes → (n ≤ length new) × (take n new ≡ bytes)
whole (Ok k) buffer bytes u room e s = start_whole buffer bytes room e (sym s ∙ ap answer (sym u))
whole (Err why) buffer bytes u room e s = start_answers buffer bytes room (sym s)

pub returns-clause-prefix_len : goal.returns-clause-prefix_len
returns-clause-prefix_len c =
    let most = list_most c.args.size in
    (whole c.small_requests.result c.args.buffer.now (list_bytes c.args.size) c.unwrap_or.ensures (omega arith) c.small_requests.ensures.buffer_value c.small_requests.ensures.result_value).0

pub returns-clause-buffer_value : goal.returns-clause-buffer_value
returns-clause-buffer_value c =
    let most = list_most c.args.size in
    (whole c.small_requests.result c.args.buffer.now (list_bytes c.args.size) c.unwrap_or.ensures (omega arith) c.small_requests.ensures.buffer_value c.small_requests.ensures.result_value).1
