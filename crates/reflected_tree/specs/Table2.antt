-- Table 2 of the reflected tree (RULES.md, 20.3): when a group is a subgroup of another, by their types and lr-values.
use Rattle.std.specs.Prelude.{Bool, true, false, cond, ◌&&◌, ◌||◌, ℕ, ◌+◌, eqb, ltb}
use Rattle.request.specs.Entries.{has, before}
use Rattle.request.specs.Forest.{pre_l, pre_r}
use Rattle.reflected_tree.specs.Reflected.{Reflected, empty, node, lower_of, uppers}

-- type b: the group is below the line. Groups on the line are type a
abbrev pub type_b : Reflected → ℕ → Bool
type_b empty x = false
type_b (node u l c r) x = has x (lower_of l c) || (type_b c x || type_b r x)

-- a group of the upper half itself, or the mirror image of a group below the line
abbrev pub image : Reflected → ℕ → ℕ
image empty x = x
image (node u l c r) x = cond (has x (lower_of l c)) u (cond (type_b c x) (image c x) (image r x))

-- lr-values: positions in the left and in the right pre-order of the upper half, from 1 on; a group below the line has those of its mirror image
abbrev pub l_value : Reflected → ℕ → ℕ
l_value t x = 1 + before (image t x) (pre_l (uppers t))

abbrev pub r_value : Reflected → ℕ → ℕ
r_value t x = 1 + before (image t x) (pre_r (uppers t))

-- lr(U) < lr(V), lr(U) = lr(V)
abbrev pub less : (l r k s : ℕ) → Bool
less l r k s = ltb l k && ltb r s

abbrev pub equal : (l r k s : ℕ) → Bool
equal l r k s = eqb l k && eqb r s

-- the table, row by row: the types of U and V (true is b), U's lr-values l and r, V's k and s
abbrev pub condition : (t t' : Bool) (l r k s : ℕ) → Bool
condition false false l r k s = less l r k s
condition false true l r k s = less l r k s || (less k s l r || equal k s l r)
condition true false l r k s = false
condition true true l r k s = less k s l r

-- U is a subgroup of V; equality counts as subgroup
unfoldable pub table2 : Reflected → ℕ → ℕ → Bool
table2 t x y = eqb x y || condition (type_b t x) (type_b t y) (l_value t x) (r_value t x) (l_value t y) (r_value t y)
