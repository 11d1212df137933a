-- The contents of Statistics: "Count (0 to 4, more is 8), then type and offset pairs; types 0 to 3 (else 7), each at most once. Offsets
-- differ (else 9), and lie neither before the contents' end (5) nor past the file's (2). Then 0 and 3 must be present. Entries are
-- read by place, each to the next larger offset or the end." 001 calls all of these signed. Assumes nothing.
use Rattle.std.specs.Prelude.{ℕ, zero, suc, ◌+◌, ◌*◌, Bool, true, ltb, eqb}
use Rattle.common.specs.Choose.{pick, bind}
use Rattle.common.specs.Got.{got, bad, on, Reader, ◌>>=◌, ret}
use Rattle.number_fixed.specs.BigEndian.{fixed_at}
use Rattle.common.specs.declared.refusal.Fault.TheVariants.{PastEnd, OutOfRange, NotCarried, TooMany, Repeated}
use Rattle.stats_contents.specs.declared.contents.Contents.{Contents}

-- an offset lies behind the count, so 0 is that of an absent entry
abbrev pub none : Contents
none = record { validation = 0; compaction = 0; statistics = 0; header = 0 }

-- the offset of the entry of type t, 0 to 3
unfoldable pub offset_of : ℕ → Contents → ℕ
offset_of t c = pick (eqb t 0) c.validation (pick (eqb t 1) c.compaction (pick (eqb t 2) c.statistics c.header))

-- c with the offset o for the entry of type t
unfoldable pub with_entry : ℕ → ℕ → Contents → Contents
with_entry t o c =
    pick (eqb t 0) (record { validation = o; compaction = c.compaction; statistics = c.statistics; header = c.header })
    (pick (eqb t 1) (record { validation = c.validation; compaction = o; statistics = c.statistics; header = c.header })
    (pick (eqb t 2) (record { validation = c.validation; compaction = c.compaction; statistics = o; header = c.header })
    (record { validation = c.validation; compaction = c.compaction; statistics = c.statistics; header = o })))

-- whether an entry has the offset o
unfoldable pub used : ℕ → Contents → Bool
used o c =
    pick (eqb c.validation o) true (pick (eqb c.compaction o) true (pick (eqb c.statistics o) true (eqb c.header o)))

-- a type: one below 0 is above 3 as an unsigned number
unfoldable pub entry_type_at : Contents → Reader ℕ
entry_type_at c s at end =
    on (fixed_at 4 s at end) (λ t n.
    pick (ltb 3 t) (bad NotCarried at)
    (bind (offset_of t c) (λ o.
    pick (eqb o 0) (got t n)
    (bad Repeated at))))

-- an offset, where the contents end at `start`: one below 0 is before that
unfoldable pub offset_at : Contents → ℕ → Reader ℕ
offset_at c start s at end =
    on (fixed_at 4 s at end) (λ o n.
    pick (ltb 2147483647 o) (bad OutOfRange at)
    (pick (ltb end o) (bad PastEnd at)
    (pick (ltb o start) (bad OutOfRange at)
    (pick (used o c) (bad Repeated at)
    (got o n)))))

-- k more pairs
unfoldable pub pairs_at : ℕ → Contents → ℕ → Reader Contents
pairs_at zero c start = ret c
pairs_at (suc k) c start = entry_type_at c >>= (λ t. offset_at c start >>= (λ o. pairs_at k (with_entry t o c) start))

-- how many pairs there are: "Count (0 to 4, more is 8)"
unfoldable pub count_at : Reader ℕ
count_at s at end =
    on (fixed_at 4 s at end) (λ count n.
    pick (ltb 2147483647 count) (bad OutOfRange at)
    (pick (ltb 4 count) (bad TooMany at)
    (got count n)))

-- "Then 0 and 3 must be present": an absent one is 7 at 0
unfoldable pub present : Contents → Reader Contents
present c s at end =
    pick (eqb c.validation 0) (bad NotCarried 0)
    (pick (eqb c.header 0) (bad NotCarried 0)
    (got c at))

-- the contents of the file s, from its first byte on
unfoldable pub contents_at : Reader Contents
contents_at = count_at >>= (λ count. pairs_at count none (4 + 8 * count) >>= present)

-- ---- where an entry ends
-- x where it lies behind o and before best, else best
unfoldable pub nearer : ℕ → ℕ → ℕ → ℕ
nearer o x best = pick (ltb o x) (pick (ltb x best) x best) best

-- "each to the next larger offset or the end"
unfoldable pub end_of : ℕ → Contents → ℕ → ℕ
end_of o c size = nearer o c.header (nearer o c.statistics (nearer o c.compaction (nearer o c.validation size)))
