-- What is to come from here is the whole.
use Rattle.std.proofs.Common.{◌≡◌, ◌-◌, length}
use Rattle.script_values.specs.Bytes.{given_by, bytes_until}
use Rattle.script_values.proofs.putting.put_until.Given as goal

abbrev pub invariant-loop-n : goal.invariant-loop-n
invariant-loop-n l = record {
  place : l.writer.at ≡ l.n;
  same_length : length l.writer.buffer.now ≡ length l.initial.writer.buffer.now;
  same_reference : l.writer.buffer.ghost_name ≡ l.initial.writer.buffer.ghost_name;
  same_bytes : bytes_until l.end (l.n - (l.at - l.from)) (given_by l.writer) ≡ bytes_until l.end l.from (given_by l.initial.writer);
}
