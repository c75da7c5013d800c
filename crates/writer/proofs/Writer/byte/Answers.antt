use Rattle.std.proofs.Common.{refl}
use Rattle.writer.proofs.Writing.{no_byte, one_byte}
use Rattle.writer.proofs.Writer.byte.Goals as goal

pub returns-then-self : goal.returns-then-self
returns-then-self c = let n = no_byte c.args.self.now c.args.byte c.if-self.true in record { value = n.0; wrote = n.1 }

pub returns : goal.returns
returns c = let n = one_byte c.args.self.now c.args.byte _ c.if-self.false refl refl refl in record { value = n.0; wrote = n.1 }
