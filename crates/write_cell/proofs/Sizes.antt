-- The sizes of values and cells are the lengths of their bytes. Assumes nothing.
use mathlib.Core.Path.{◌≡◌, refl, ap, ◌∙◌}
use mathlib.Core.Bool.{Bool, true, false}
use mathlib.Core.List.{List, [], ◌++◌}
use Prim.Native.Nat.{ℕ, ◌+◌, ◌-◌, ◌≤◌}
use native.Mathlib.Omega.{arith}
use lib.Dec.{eqb}
use lib.ListN.{length, length-append}
use Rattle.common.specs.Choose.{pick}
use Rattle.number_varint.specs.Varints.{shortest}
use Rattle.common.specs.declared.times.Bases.{Bases}
use Rattle.data_cell.specs.declared.cells.Times.{Times}
use Rattle.data_cell.specs.declared.cells.Cell.{Cell}
use Rattle.write_form.specs.Cells.{same_time, same_expiry, no_value, timestamp_bytes, ttl_bytes, expiry_bytes, length_bytes, field_bytes, value_bytes, last_bytes, tail_bytes, cell_bytes}
use Rattle.write_form.specs.Clusterings.{clustering_bytes}
use Rattle.write_cell.specs.Sizes.{field_size, value_size, content_size, cell_size}
use Rattle.write_number.proofs.Writing.{varint_most}

pub length_pick : (t : Bool) (v w : List ℕ) (m n : ℕ) → length v ≡ m → length w ≡ n → length (pick t v w) ≡ pick t m n
unfolding pick
length_pick true v w m n e f = e
length_pick false v w m n e f = f

pub most_pick : (t : Bool) (v w : List ℕ) (k : ℕ) → length v ≤ k → length w ≤ k → length (pick t v w) ≤ k
unfolding pick
most_pick true v w k h i = h
most_pick false v w k h i = i

le_pick : (t : Bool) (m k : ℕ) → m ≤ k → pick t 0 m ≤ k
unfolding pick
le_pick true m k h = omega arith
le_pick false m k h = h

nil_most : (k : ℕ) → length {A = ℕ} [] ≤ k
nil_most k = omega arith

pub most_append : (v w : List ℕ) (m n : ℕ) → length v ≤ m → length w ≤ n → length (v ++ w) ≤ m + n
most_append v w m n h i = omega (arith, length-append v w)

-- ---- values
field_size_lem : (w : ℕ) (v : List ℕ) → length (field_bytes w v) ≡ field_size w (length v)
unfolding field_bytes field_size
field_size_lem w v = length-append (length_bytes w (length v)) v

length_most : (w n : ℕ) → length (length_bytes w n) ≤ 9
unfolding length_bytes
length_most w n = most_pick (eqb w 255) (shortest n) [] 9 (varint_most n) (nil_most 9)

field_most : (w n : ℕ) → n ≤ 1073741824 → field_size w n ≤ 1073741833
unfolding field_size
field_most w n h = omega (arith, length_most w n)

pub value_size_lem : (w : ℕ) (v : List ℕ) (n : ℕ) → length v ≡ n → length (clustering_bytes w v) ≡ value_size w n
unfolding clustering_bytes value_size
value_size_lem w v n e = rw (← e) (length_pick (eqb (length v) 0) [] (field_bytes w v) 0 (field_size w (length v)) refl (field_size_lem w v))

pub value_size_most : (w n : ℕ) → n ≤ 1073741824 → value_size w n ≤ 1073741833
unfolding value_size
value_size_most w n h = le_pick (eqb n 0) (field_size w n) 1073741833 (field_most w n h)

-- ---- cells
content_size_lem : (w : ℕ) (c : Cell) (v : List ℕ) → length (value_bytes w c v) ≡ content_size w c (length v)
unfolding value_bytes content_size
content_size_lem w c v = length_pick (eqb (no_value c (length v)) 1) [] (field_bytes w v) 0 (field_size w (length v)) refl (field_size_lem w v)

pub cell_size_lem : (b : Bases) (row : Times) (w : ℕ) (c : Cell) (v : List ℕ) → length v ≡ c.value.len → length (cell_bytes b row w c v) ≡ cell_size b row w c
unfolding cell_bytes tail_bytes last_bytes cell_size
cell_size_lem b row w c v e =
    let f : length (value_bytes w c v) ≡ content_size w c c.value.len = content_size_lem w c v ∙ ap (content_size w c) e in
    omega (arith, length-append (timestamp_bytes b row c) (expiry_bytes b row c ++ value_bytes w c v), length-append (expiry_bytes b row c) (value_bytes w c v), f)

timestamp_most : (b : Bases) (row : Times) (c : Cell) → length (timestamp_bytes b row c) ≤ 9
unfolding timestamp_bytes
timestamp_most b row c = most_pick (eqb (same_time row c) 1) [] (shortest (c.timestamp - b.timestamp)) 9 (nil_most 9) (varint_most (c.timestamp - b.timestamp))

ttl_most : (b : Bases) (c : Cell) → length (ttl_bytes b c) ≤ 9
unfolding ttl_bytes
ttl_most b c = most_pick (eqb c.kind 1) (shortest (c.ttl - b.ttl)) [] 9 (varint_most (c.ttl - b.ttl)) (nil_most 9)

expiry_most : (b : Bases) (row : Times) (c : Cell) → length (expiry_bytes b row c) ≤ 18
unfolding expiry_bytes
expiry_most b row c =
    most_pick (eqb c.kind 0) [] _ 18 (nil_most 18)
    (most_pick (eqb (same_expiry row c) 1) [] _ 18 (nil_most 18)
    (most_append (shortest (c.local - b.local)) (ttl_bytes b c) 9 9 (varint_most (c.local - b.local)) (ttl_most b c)))

pub cell_size_most : (b : Bases) (row : Times) (w : ℕ) (c : Cell) → c.value.len ≤ 1073741824 → cell_size b row w c ≤ 1073741861
unfolding cell_size content_size
cell_size_most b row w c h =
    let k = le_pick (eqb (no_value c c.value.len) 1) (field_size w c.value.len) 1073741833 (field_most w c.value.len h) in
    omega (arith, timestamp_most b row c, expiry_most b row c, k)
