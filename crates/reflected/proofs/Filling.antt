-- Nodes side by side: values put from a place on, one after another.
use mathlib.Core.Path.{◌≡◌, refl, ap, ◌∙◌}
use mathlib.Core.List.{List, [], ◌∷◌, ◌++◌}
use Prim.Native.Nat.{ℕ, suc, ◌+◌, ◌≤◌, ◌<◌}
use native.Mathlib.Omega.{arith}
use lib.ListN.{length, take, drop, set, length-append}
use lib.Seq.{set_comm, sets, sets-eq, take-append_seam}
use Rattle.reflected_tree.specs.Reflected.{Reflected, empty, node, node_count}
use Rattle.reflected.specs.declared.nodes.Node.{Node}
use Rattle.reflected.specs.Inside.Nodes.{stored}

pub sets_append : (w : List Node) (i : ℕ) (s t : List Node) → sets w i (s ++ t) ≡ sets (sets w i s) (i + length s) t
sets_append w i [] t = ap (λ k. sets w k t) (omega arith)
sets_append w i (x ∷ s) t = sets_append (set w i x) (suc i) s t ∙ ap (λ k. sets (sets (set w i x) (suc i) s) k t) (omega arith)

-- a value put before the others or after them
pub sets_set : (w : List Node) (i j : ℕ) (x : Node) (s : List Node) → j < i → set (sets w i s) j x ≡ sets (set w j x) i s
sets_set w i j x [] l = refl
sets_set w i j x (y ∷ s) l = sets_set (set w i y) (suc i) j x s (omega arith) ∙ ap (λ v. sets v (suc i) s) (set_comm w i j y x (λ e. omega arith))

pub length_stored : (i : ℕ) (t : Reflected) → length (stored i t) ≡ node_count t
length_stored i empty = refl
length_stored i (node u l c r) = omega (arith, length-append (stored (i + 1) c) (stored (i + 1 + node_count c) r), length_stored (i + 1) c, length_stored (i + 1 + node_count c) r)

-- the first places hold what was put there
pub take_sets : (w s : List Node) → length s ≤ length w → take (length s) (sets w 0 s) ≡ s
take_sets w s l = ap (take (length s)) (sets-eq s w 0 (omega arith)) ∙ take-append_seam s (drop (0 + length s) w)
