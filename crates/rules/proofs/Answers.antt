-- An answer says what it holds, and is no refusal; what an answer of several steps says of each.
use mathlib.Core.Path.{◌≡◌, refl, ap, sym}
use mathlib.Core.Bool.{Bool, true, false, cond}
use Prim.Native.Nat.{ℕ}
use native.Mathlib.Omega.{arith}
use Rattle.rules.specs.Answers.{Answer, answer, refused, then}

module _ {A : Type 0} where
  pub same_answer : {a b : A} → answer a ≡ answer b → a ≡ b
  same_answer e = cc

  pub never_refused : {C : Type 0} {n : ℕ} {a : A} → refused n ≡ answer a → C
  never_refused e = let z : ◌≡◌ {A = ℕ} 0 1 = cc in let f : ⊥ = omega arith in absurd f

  -- by cases on an answer, with the fact that it shows
  pub by_answer : {C : Type 0} (a : Answer A) → ((x : A) → a ≡ answer x → C) → ((n : ℕ) → a ≡ refused n → C) → C
  by_answer (answer x) f g = f x refl
  by_answer (refused n) f g = g n refl

  -- an answer past a refusal's condition: the condition does not hold
  pub peel : (b : Bool) (n : ℕ) (x : Answer A) {a : A} → cond b (refused n) x ≡ answer a → (b ≡ false) × (x ≡ answer a)
  peel true n x e = never_refused e
  peel false n x e = (refl, e)

  -- an answer that wants a condition: it holds
  pub wanted : (b : Bool) (n : ℕ) (x : Answer A) {a : A} → cond b x (refused n) ≡ answer a → (b ≡ true) × (x ≡ answer a)
  wanted true n x e = (refl, e)
  wanted false n x e = never_refused e

module _ {A B : Type 0} where
  -- an answer of two steps: both steps answer
  pub then_answer : (a : Answer A) (f : A → Answer B) {b : B} → then a f ≡ answer b → (x : A) × (a ≡ answer x) × (f x ≡ answer b)
  then_answer (answer x) f e = (x, refl, e)
  then_answer (refused n) f e = never_refused e

  -- a refusal of two steps, where the second always answers: the first step refuses
  pub then_refused : (a : Answer A) (f : A → B) {n : ℕ} → then a (λ x. answer (f x)) ≡ refused n → a ≡ refused n
  then_refused (answer x) f e = never_refused (sym e)
  then_refused (refused m) f {n} e = let g : m ≡ n = cc in ap refused g

  -- second steps that agree where the first answers
  pub then_same : (a : Answer A) (f g : A → Answer B) → ((x : A) → a ≡ answer x → f x ≡ g x) → then a f ≡ then a g
  then_same (answer x) f g h = h x refl
  then_same (refused n) f g h = refl

  -- a step after a refusal's condition
  pub then_cond : (b : Bool) (n : ℕ) (x : A) (f : A → Answer B) → then (cond b (refused n) (answer x)) f ≡ cond b (refused n) (f x)
  then_cond true n x f = refl
  then_cond false n x f = refl
