-- `field::rows::accumulate` meets its contract: the places so far have their products, and those behind are as at entry. Assumes nothing.
use Rattle.std.proofs.Common.{◌≡◌, ℕ, ◌<◌, ◌≤◌, get_or}
use Rattle.lists.specs.Places.{at}
use Rattle.field.proofs.rows.accumulate.Given as goal

abbrev pub invariant-loop-j : goal.invariant-loop-j
invariant-loop-j g l = record {
  done : (k : ℕ) → k < l.j → get_or l.acc k g.T.Total.zero ≡ g.T.Total.plus (get_or l.initial.acc k g.T.Total.zero) l.g (at l.ys k);
  behind : (k : ℕ) → l.j ≤ k → get_or l.acc k g.T.Total.zero ≡ get_or l.initial.acc k g.T.Total.zero;
}
