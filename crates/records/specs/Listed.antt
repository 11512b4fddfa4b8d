-- Lists of entry records, as the caller lends them: 02, C-18, "a list of entry records, as many as the plan has entries, with a count". Stands on
-- the standard library alone.
--     none                        a record of zeros
--     record_of i v               the record of entry i with value v
--     removed l count k           of the first count records, the one at place k goes: "removes its record, closes the gap, sets the freed last record to
--                                 zeros"; the records from the count on stay
--     removed_at l count k        the same where there is such a record; else the list as it is
--     noted list i e v            two numbers at places 2 i and 2 i + 1 of a list of numbers, where both are in it
--     unpacked k i l list         k records from record i on, each noted at its place
use Rattle.std.specs.Prelude.{cond, ◌&&◌, List, ◌∷◌, ◌++◌, ℕ, zero, suc, ◌+◌, ◌*◌, ◌/◌, ltb, leb, length, take, drop, get_or, set}
use Rattle.records.specs.declared.Record.{Record}

abbrev pub record_of : ℕ → ℕ → Record
record_of i v = record { entry = i; value = v }

abbrev pub none : Record
none = record_of 0 0

abbrev pub removed : List Record → ℕ → ℕ → List Record
removed l count k = take k l ++ (drop (suc k) (take count l) ++ (none ∷ drop count l))

unfoldable pub removed_at : List Record → ℕ → ℕ → List Record
removed_at l count k = cond (ltb k count && leb count (length l)) (removed l count k) l

unfoldable pub noted : List ℕ → ℕ → ℕ → ℕ → List ℕ
noted list i e v = cond (ltb i (length list / 2)) (set (set list (2 * i) e) (2 * i + 1) v) list

unfoldable pub unpacked : ℕ → ℕ → List Record → List ℕ → List ℕ
unpacked zero i l list = list
unpacked (suc k) i l list = unpacked k (i + 1) l (noted list i (get_or l i none).entry (get_or l i none).value)
