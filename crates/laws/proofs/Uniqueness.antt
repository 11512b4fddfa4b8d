-- Two reduced stores with the same solutions are the same.
--     Within             every row of S is the sum of its coefficients times the rows of S'
--     same-within        if every solution of S' solves S, S is within S'
--     meets              within S', a row of S with a 1 in its own column agrees with that row of S' at each column to which no other row adds
--     pivot-stays        a pivot of S is a pivot of S'
--     zero-stays         with S' within S too, a zero row of S is a zero row of S'
--     reduced-unique     the theorem, place by place
--     stores-equal       the theorem, byte for byte
-- A row of S is satisfied by every solution of S', so it is the sum of its coefficients times the rows of S'. In column q of row q, rows
-- above q add nothing, since row q of S is zero left of q, and rows below q add nothing, since they begin right of q; so S and S' have the
-- same pivots. Then no row but q adds anything to row q.
-- Assumes nothing.
use mathlib.Core.Path.{◌≡◌, sym, ap, ◌∙◌}
use mathlib.Core.Bool.{true}
use mathlib.Core.Logic.{◌⊎◌, inl, inr, ⊎_elim, ⊎_map, ◌↔◌, ◌≢◌}
use mathlib.Core.List.{List}
use Prim.Native.Nat.{ℕ, ◌*◌, ◌%◌, ◌≤◌, ◌<◌}
use native.Mathlib.Nat.{le_of_lt, zero-mul, mul-zero, one-mul}
use native.Mathlib.Decide.{dec_lt}
use native.Mathlib.Omega.{arith}
use lib.ListN.{length}
use Rattle.lists.specs.Places.{sum, at}
use Rattle.field.specs.Primes.{odd_prime}
use Rattle.field.specs.Residues.{Residues}
use Rattle.field.proofs.Modular.{cong-residue}
use Rattle.plan.specs.Parts.{store_size}
use Rattle.store.specs.Elimination.{Solves, ZeroRow, Pivot, Reduced, cells}
use Rattle.store.proofs.Bytes.{flat-cells, flat-ext}
use Rattle.lists.proofs.Sums.{sum-only}
use Rattle.store.proofs.ReducedForm.{off-pivot}
use Rattle.store.proofs.Implications.{implied-sum}

abbrev Within : ℕ → ℕ → (ℕ → ℕ → ℕ) → (ℕ → ℕ → ℕ) → Type 0
Within p C S S' = (q j : ℕ) → q < C → j ≤ C → S q j % p ≡ sum (λ r. S q r * S' r j) C % p

module _ (p C : ℕ) (prime : odd_prime p ≡ true) (S S' : ℕ → ℕ → ℕ) (red : Reduced p C S) (red' : Reduced p C S') where
  same-within : ((β : List ℕ) → length β ≡ C → Residues p β → Solves p C S' (at β) → Solves p C S (at β)) → Within p C S S'
  same-within h q j l = implied-sum p C prime S' (S q) red' (λ i k. red.residues q i l k) (λ β n r s. h β n r s q l) j

  meets : Within p C S S' → (q j : ℕ) → q < C → j ≤ C → S q q ≡ 1
      → ((r : ℕ) → r < C → r ≢ q → (S q r ≡ 0) ⊎ (S' r j ≡ 0)) → S q j ≡ S' q j
  meets w q j l k one off =
      cong-residue p (red.residues q j l k) (red'.residues q j l k)
      (w q j l k ∙ ap (λ (n : ℕ). n % p) (sum-only (λ r. S q r * S' r j) C q l (λ r i d. nothing r (off r i d)) ∙ rw one (one-mul (S' q j))))
    where
      nothing : (r : ℕ) → (S q r ≡ 0) ⊎ (S' r j ≡ 0) → S q r * S' r j ≡ 0
      nothing r (inl z) = rw z (zero-mul (S' r j))
      nothing r (inr z) = rw z (mul-zero (S q r))

  pivot-stays : Within p C S S' → (q : ℕ) → q < C → Pivot C S q → Pivot C S' q
  pivot-stays w q l v = ⊎_elim (λ z. absurd (apart z)) (λ v'. v') (red'.rows q l)
    where
      off : (r : ℕ) → r < C → r ≢ q → (S q r ≡ 0) ⊎ (S' r q ≡ 0)
      off r k d = elim (dec_lt r q) [
        | yes i ↦ inl (v.left r i)
        | no i ↦ inr (⊎_elim (λ z. z q (le_of_lt l)) (λ v'. v'.left q (omega arith)) (red'.rows r k))
      ]

      apart : ZeroRow C S' q → ⊥
      apart z = omega (arith, v.one, z q (le_of_lt l), meets w q q l (le_of_lt l) v.one off)

pub reduced-unique : (p C : ℕ) → odd_prime p ≡ true → (S S' : ℕ → ℕ → ℕ) → Reduced p C S → Reduced p C S'
    → ((β : List ℕ) → length β ≡ C → Residues p β → (Solves p C S (at β) ↔ Solves p C S' (at β)))
    → (q j : ℕ) → q < C → j ≤ C → S q j ≡ S' q j
reduced-unique p C prime S S' red red' h q j l k =
    ⊎_elim (λ z. z j k ∙ sym (zero-stays q l z j k)) (λ v. meets p C prime S S' red red' w q j l k v.one (off v)) (red.rows q l)
  where
    w : Within p C S S'
    w = same-within p C prime S S' red red' (λ β n r. (h β n r).1)

    w' : Within p C S' S
    w' = same-within p C prime S' S red' red (λ β n r. (h β n r).0)

    zero-stays : (r : ℕ) → r < C → ZeroRow C S r → ZeroRow C S' r
    zero-stays r i z =
        ⊎_elim (λ z'. z')
        (λ v'. absurd (omega (arith, z r (le_of_lt i), (pivot-stays p C prime S' S red' red w' r i v').one)))
        (red'.rows r i)

    off : Pivot C S q → (r : ℕ) → r < C → r ≢ q → (S q r ≡ 0) ⊎ (S' r j ≡ 0)
    off v r i d = ⊎_map (λ z. z) (λ z. zero-stays r i z j k) (off-pivot p C S red q r l i (λ e. d (sym e)))

-- the same of two stores' bytes: "the one reduced form" is meant literally
pub stores-equal : (p C : ℕ) → odd_prime p ≡ true → (store store' : List ℕ) → length store ≡ store_size C → length store' ≡ store_size C
    → Reduced p C (cells C store) → Reduced p C (cells C store')
    → ((β : List ℕ) → length β ≡ C → Residues p β → (Solves p C (cells C store) (at β) ↔ Solves p C (cells C store') (at β)))
    → store ≡ store'
stores-equal p C prime store store' n n' red red' h =
    sym (flat-cells C store n)
    ∙ flat-ext C (cells C store) (cells C store') (λ q j l low k. reduced-unique p C prime (cells C store) (cells C store') red red' h q j l k)
    ∙ flat-cells C store' n'
