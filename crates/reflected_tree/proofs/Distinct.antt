-- Refusal 33 does not come exactly where no two groups have one id.
use mathlib.Core.Path.{◌≡◌, refl}
use mathlib.Core.Bool.{Bool, false}
use mathlib.Core.List.{List, [], ◌∷◌}
use Prim.Native.Nat.{ℕ, zero, suc, ◌≤◌}
use native.Mathlib.Omega.{arith}
use lib.Dec.{leb}
use borrow.Author.Tests.{leb-false, lt-leb}
use Rattle.request.specs.Entries.{Entry, times, some_entry, Distinct}
use Rattle.request.proofs.Accepting.{some_none}
use Rattle.reflected_tree.specs.Reflected.{Reflected, groups}
use Rattle.reflected_tree.specs.Reading.{id_repeats}

pub repeats_none : (t : Reflected) → id_repeats t ≡ false → Distinct (groups t)
unfolding id_repeats
repeats_none t h x = go (times x (groups t)) refl
  where
    go : (n : ℕ) → times x (groups t) ≡ n → times x (groups t) ≤ 1
    go zero e = omega arith
    go (suc n) e =
        let f = some_none (λ y. leb 2 (times y (groups t))) (groups t) x h (omega arith) in
        omega (arith, leb-false 2 (times x (groups t)) f)

-- and the other way round
none_some : (p : Entry → Bool) (s : List Entry) → ((e : Entry) → p e ≡ false) → some_entry p s ≡ false
unfolding some_entry
none_some p [] h = refl
none_some p (e ∷ s) h = rw (h e, none_some p s h)

pub none_repeats : (t : Reflected) → Distinct (groups t) → id_repeats t ≡ false
unfolding id_repeats
none_repeats t d =
    none_some (λ e. leb 2 (times e.id (groups t))) (groups t) (λ e. lt-leb 2 (times e.id (groups t)) (omega (arith, d e.id)))
