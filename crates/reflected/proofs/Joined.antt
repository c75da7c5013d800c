-- A tree that was read, and its list in a buffer.
use mathlib.Core.Path.{◌≡◌, ap, sym, ◌∙◌}
use mathlib.Core.Bool.{true, false}
use mathlib.Core.List.{List}
use Prim.Native.Nat.{ℕ, ◌+◌, ◌≤◌}
use native.Mathlib.Omega.{arith}
use lib.Dec.{ltb}
use lib.ListN.{length}
use borrow.Author.Tests.{ltb-true, ltb-false}
use Rattle.rules.specs.Answers.{answer, refused, then}
use Rattle.rules.specs.Buffers.{after}
use Rattle.rules.proofs.Buffers.{kept, written_all}
use Rattle.reflected_tree.specs.Reflected.{node_count}
use Rattle.reflected_tree.specs.Reading.{reflected_of, reflected_answer, reflected_buffer}
use Rattle.reflected_tree.specs.Written.{list_bytes}
use Rattle.reflected.specs.declared.nodes.Node.{Node}
use Rattle.reflected.specs.Inside.Writing.{Stored}
use Rattle.reflected.proofs.Whole.{Said, not_counted, said_tree}

module _ (bytes buffer : List ℕ) where
  -- a tree that is refused has no list
  pub no_list : {k : ℕ} → refused k ≡ then (reflected_of bytes) (λ t. answer (node_count t))
      → (refused k ≡ reflected_answer bytes buffer) × (buffer ≡ reflected_buffer (reflected_of bytes) buffer)
  unfolding reflected_answer reflected_buffer
  no_list h = let e = not_counted (reflected_of bytes) h in (rw e, rw e)

  module _ {n : ℕ} {nodes : List Node} (said : Said (reflected_of bytes) (answer n) nodes) where
    pub stored : Stored nodes n
    stored = let t = said_tree said in record { tree = t.0; one = t.3.single; held = t.3.holds; size = t.2; most = omega (arith, t.3.most, t.2) }

    read_tree : reflected_of bytes ≡ answer stored.tree
    unfolding stored
    read_tree = (said_tree said).1

    module _ {whole : ℕ} (counts : whole ≡ length (list_bytes stored.tree)) where
      -- the buffer is too short for the list, or has room for it
      pub short_list : ltb (length buffer) (0 + whole) ≡ true → (refused 30 ≡ reflected_answer bytes buffer) × (buffer ≡ reflected_buffer (reflected_of bytes) buffer)
      unfolding reflected_answer reflected_buffer
      short_list h = let k = kept buffer 0 (list_bytes stored.tree) (omega (arith, ltb-true _ _ h)) in (rw read_tree k.0, rw read_tree k.1)

      pub room_for_list : ltb (length buffer) (0 + whole) ≡ false → 0 + length (list_bytes stored.tree) ≤ length buffer
      room_for_list h = omega (arith, ltb-false _ _ h)

      pub whole_list : {new : List ℕ} → ltb (length buffer) (0 + whole) ≡ false → new ≡ after buffer 0 (list_bytes stored.tree)
          → (answer whole ≡ reflected_answer bytes buffer) × (new ≡ reflected_buffer (reflected_of bytes) buffer)
      unfolding reflected_answer reflected_buffer
      whole_list h e =
          (rw read_tree (ap answer counts ∙ sym (written_all buffer 0 (list_bytes stored.tree) (room_for_list h))), rw read_tree e)
