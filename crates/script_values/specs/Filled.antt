-- An array whose first items count.
use Rattle.std.specs.Prelude.{ℕ, ◌+◌, cond, List, nat_lt, slice_set, replicate, take, min}
use Rattle.script_values.specs.declared.filled.Filled.{Filled}

-- one item again and again, of which none counts
unfoldable pub none_of : {A : Type 0} → (n : ℕ) → A → Filled A n
none_of n item = record { items = replicate n item; len = 0 }

-- an item more, where there is room
abbrev pub with_one : {A : Type 0} → (n : ℕ) → A → Filled A n → Filled A n
with_one n item f = cond (nat_lt f.len n) (record { items = slice_set f.items f.len item; len = f.len + 1 }) f

abbrev pub items_in : {A : Type 0} → (n : ℕ) → Filled A n → List A
items_in n f = take (min f.len n) f.items
