-- Arithmetic modulo p on natural numbers.
--     cong-of, cong-to         two numbers leave the same remainder exactly when they differ by multiples of p
--     mul-mod-l, mul-mod-r     a remainder inside a product
--     mods                     takes every inner remainder out of sums and products, for `simp`
--     cong-add, cong-mul       sums and products of congruent numbers
--     sum-cong, pow-cong       the same for `sum` and for powers
--     cong-residue             congruent residues are equal
-- Assumes nothing.
use mathlib.Core.Path.{◌≡◌, sym, ap, ap₂, ◌∙◌}
use Prim.Native.Nat.{ℕ, zero, suc, ◌+◌, ◌*◌, ◌/◌, ◌%◌, ◌^◌, ◌<◌}
use native.Mathlib.Nat.{mod-mod, mod-add-mod, add-mod-mod, add-mod, add-mul-mod_self_right, mod-add-div', mod-eq_of_lt, mul_comm, pow-zero, pow-suc, le_step, lt-suc_self}
use native.Mathlib.Omega.{arith}
use Rattle.lists.specs.Places.{sum}
use Rattle.lists.proofs.Sums.{sum-zero, sum-suc}

pub cong-of : (p a b k l : ℕ) → a + k * p ≡ b + l * p → a % p ≡ b % p
cong-of p a b k l e = sym (add-mul-mod_self_right a k p) ∙ ap (λ (n : ℕ). n % p) e ∙ add-mul-mod_self_right b l p

pub cong-to : (p a b : ℕ) → a % p ≡ b % p → a + b / p * p ≡ b + a / p * p
cong-to p a b e = omega (arith, mod-add-div' a p, mod-add-div' b p)

pub mul-mod-l : (a b p : ℕ) → (a % p * b) % p ≡ (a * b) % p
mul-mod-l a b p = cong-of p (a % p * b) (a * b) (a / p * b) 0 (omega (arith, ap (λ (n : ℕ). n * b) (mod-add-div' a p)))

pub mul-mod-r : (a b p : ℕ) → (a * (b % p)) % p ≡ (a * b) % p
mul-mod-r a b p = ap (λ (n : ℕ). n % p) (mul_comm a (b % p)) ∙ mul-mod-l b a p ∙ ap (λ (n : ℕ). n % p) (mul_comm b a)

pub ruleset mods = (mod-mod, mod-add-mod, add-mod-mod, mul-mod-l, mul-mod-r)

pub cong-add : (p a b c d : ℕ) → a % p ≡ b % p → c % p ≡ d % p → (a + c) % p ≡ (b + d) % p
cong-add p a b c d h k = add-mod a c p ∙ ap₂ (λ (x y : ℕ). (x + y) % p) h k ∙ sym (add-mod b d p)

pub cong-mul : (p a b c d : ℕ) → a % p ≡ b % p → c % p ≡ d % p → (a * c) % p ≡ (b * d) % p
cong-mul p a b c d h k =
    sym (mul-mod-l a c p) ∙ sym (mul-mod-r (a % p) c p) ∙ ap₂ (λ (x y : ℕ). (x * y) % p) h k ∙ mul-mod-r (b % p) d p ∙ mul-mod-l b d p

pub sum-cong : (p : ℕ) (f g : ℕ → ℕ) (n : ℕ) → ((i : ℕ) → i < n → f i % p ≡ g i % p) → sum f n % p ≡ sum g n % p
sum-cong p f g zero h = ap (λ (n : ℕ). n % p) (sum-zero f ∙ sym (sum-zero g))
sum-cong p f g (suc n) h =
    rw (sum-suc f n, sum-suc g n) (cong-add p _ _ _ _ (sum-cong p f g n (λ i l. h i (le_step l))) (h n (lt-suc_self n)))

pub pow-cong : (p a b : ℕ) → a % p ≡ b % p → (k : ℕ) → a ^ k % p ≡ b ^ k % p
pow-cong p a b h zero = rw (pow-zero a, pow-zero b)
pow-cong p a b h (suc k) = rw (pow-suc a k, pow-suc b k) (cong-mul p _ _ _ _ (pow-cong p a b h k) h)

pub cong-residue : (p : ℕ) {a b : ℕ} → a < p → b < p → a % p ≡ b % p → a ≡ b
cong-residue p ha hb e = sym (mod-eq_of_lt ha) ∙ e ∙ mod-eq_of_lt hb
