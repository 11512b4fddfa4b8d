-- 02, C-13: the store test "shall take the rows one by one in order: a state goes in with each row and comes out, and sees no row again.
-- After the last row it says damaged exactly when condition 6, which is untouched, is met." The state, what a row makes of it, and what it
-- says; that this is condition 6 (`is_reduced` of `Elimination`) is the theorem `damaged-exactly` of proofs/. A row is taken from its diagonal
-- on: C-16 keeps no more of it; how the rows of a store in the layout before that are taken is in `moves`. Stands on the row operations of `field`.
--     State                      what is known of the rows taken: whether each was sound, and for each column from the next row's own on the largest
--                                byte in it
--     state_of sound tops        the state as the code keeps it, with the columns in a lent slice
--     begun C                    before the first row
--     row_sound p above row      a row is all zero, with residues above its diagonal, or has a 1 on the diagonal and nothing above. `above` is the
--                                largest byte above
--     counted tops row           the columns with a row counted. One with nothing on its diagonal has no pivot: it is all zero, or it is not sound and no
--                                column is asked any more
--     took p s row               the state that comes out when s goes in with a row
--     state_after p C rows q     the state after the first q of the rows
--     is_damaged p s             after the last row: a row was not sound, or a right-hand side is no residue
--     row_of C store q           row q of a store, from its diagonal on
use Rattle.std.specs.Prelude.{Bool, true, cond, not, ◌&&◌, List, ℕ, zero, suc, ◌+◌, ◌-◌, eqb, ltb, take, drop}
use Rattle.lists.specs.Places.{tab, at}
use Rattle.field.specs.Rows.{all_below, maxima}
use Rattle.store.specs.Elimination.{row_start}

pub record State : Type 0 where
  pub sound : Bool
  pub tops : List ℕ

abbrev pub state_of : Bool → List ℕ → State
state_of sound tops = record { sound = sound; tops = tops }

abbrev pub begun : ℕ → State
begun C = state_of true (tab (C + 1) (λ _. 0))

unfoldable pub row_sound : ℕ → ℕ → List ℕ → Bool
row_sound p above row = cond (all_below 1 row) (ltb above p) (eqb above 0 && eqb (at row 0) 1)

unfoldable pub counted : List ℕ → List ℕ → List ℕ
counted tops row = cond (eqb (at row 0) 0) tops (maxima tops row)

-- the row's own column has no row below its diagonal, and is left behind
abbrev pub took : ℕ → State → List ℕ → State
took p s row = state_of (row_sound p (at s.tops 0) row && s.sound) (drop 1 (counted s.tops row))

unfoldable pub state_after : ℕ → ℕ → (ℕ → List ℕ) → ℕ → State
state_after p C rows zero = begun C
state_after p C rows (suc q) = took p (state_after p C rows q) (rows q)

-- the column left is that of the right-hand sides, which has no row of its own
unfoldable pub is_damaged : ℕ → State → Bool
is_damaged p s = not (s.sound && ltb (at s.tops 0) p)

abbrev pub row_of : ℕ → List ℕ → ℕ → List ℕ
row_of C store q = take (C + 1 - q) (drop (row_start C q + q) store)
