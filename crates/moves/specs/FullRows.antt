-- 02, C-13, of a store in the layout before C-16: its rows, too, are taken one by one in order, with the state of `Reading` of `store`. That after the
-- last row it says damaged exactly when condition 6 is met is the theorem `full-damaged-exactly` of proofs/. Stands on `Reading`.
--     full_row C full q          row q, whole: C + 1 bytes, its diagonal at place q
--     full_took p q s row        the state that comes out when s goes in with row q: what lies left of the diagonal is to be zero, and from there on it
--                                is a row as `took` has it
--     full_after p C full q      the state after the first q rows
use Rattle.std.specs.Prelude.{◌&&◌, List, ℕ, zero, suc, ◌+◌, ◌*◌, take, drop}
use Rattle.field.specs.Rows.{all_below}
use Rattle.store.specs.Reading.{State, state_of, begun, took}

abbrev pub full_row : ℕ → List ℕ → ℕ → List ℕ
full_row C full q = take (C + 1) (drop (q * (C + 1)) full)

abbrev pub full_took : ℕ → ℕ → State → List ℕ → State
full_took p q s row = took p (state_of (all_below 1 (take q row) && s.sound) s.tops) (drop q row)

unfoldable pub full_after : ℕ → ℕ → List ℕ → ℕ → State
full_after p C full zero = begun C
full_after p C full (suc q) = full_took p q (full_after p C full q) (full_row C full q)
