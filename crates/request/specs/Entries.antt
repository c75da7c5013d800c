-- Entries and sums over lists of them. "The same entries" is said by sums: every sum over them agrees.
use Rattle.std.specs.Prelude.{◌≡◌, Bool, false, cond, ◌||◌, List, [], ◌∷◌, ℕ, ◌+◌, ◌≤◌, eqb, leb}
pub use Rattle.rules.specs.Pick.{pick}

-- an entry of a request, or a group with its quota
pub record Entry : Type 0 where
  pub id : ℕ
  pub quota : ℕ

abbrev pub entry : ℕ → ℕ → Entry
entry id quota = record { id = id; quota = quota }

-- the sum of f over some entries
abbrev pub sum : (Entry → ℕ) → List Entry → ℕ
sum f [] = 0
sum f (e ∷ s) = f e + sum f s

-- what an entry adds: its quota; one where it has the id x; its quota where it has the id x; one where its quota is 0
abbrev pub quota : Entry → ℕ
quota e = e.quota

abbrev pub one_at : ℕ → Entry → ℕ
one_at x e = pick (eqb x e.id) 1 0

abbrev pub quota_at : ℕ → Entry → ℕ
quota_at x e = pick (eqb x e.id) (quota e) 0

abbrev pub no_quota : Entry → ℕ
no_quota e = pick (eqb e.quota 0) 1 0

-- all the quotas; how often the id x comes; whether it comes; the quota at the id x
abbrev pub total : List Entry → ℕ
total s = sum quota s

abbrev pub times : ℕ → List Entry → ℕ
times x s = sum (one_at x) s

abbrev pub has : ℕ → List Entry → Bool
has x s = leb 1 (times x s)

abbrev pub quota_of : ℕ → List Entry → ℕ
quota_of x s = sum (quota_at x) s

-- the entry with the id x
abbrev pub entry_of : ℕ → List Entry → Entry
entry_of x s = entry x (quota_of x s)

-- the quotas that stand before the id x
abbrev pub before : ℕ → List Entry → ℕ
before x [] = 0
before x (e ∷ s) = pick (eqb x e.id) 0 (quota e + before x s)

-- some entries without the id u
abbrev pub without : ℕ → List Entry → List Entry
without u [] = []
without u (e ∷ s) = cond (eqb u e.id) (without u s) (e ∷ without u s)

-- the test holds of some entry
unfoldable pub some_entry : (Entry → Bool) → List Entry → Bool
some_entry p [] = false
some_entry p (e ∷ s) = p e || some_entry p s

-- two lists hold the same entries, each as often
abbrev pub Same : List Entry → List Entry → Type 0
Same s t = (f : Entry → ℕ) → sum f s ≡ sum f t

-- no id comes twice; every quota is at least 1
abbrev pub Distinct : List Entry → Type 0
Distinct s = (x : ℕ) → times x s ≤ 1

abbrev pub Positive : List Entry → Type 0
Positive s = sum no_quota s ≡ 0
