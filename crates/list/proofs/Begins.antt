-- What is known before the first line: the code's answers. Assumes nothing.
use Rattle.std.proofs.Common.{Result, Ok, Err}
use mathlib.Core.Path.{◌≡◌, refl, sym, ap, ◌∙◌}
use mathlib.Core.List.{List}
use Prim.Native.Nat.{ℕ, ◌*◌, ◌≤◌}
use native.Mathlib.Omega.{arith}
use lib.ListN.{length, take}
use Rattle.common.specs.Refusals.{Outcome, taken, refused, said_refusal, outcome}
use Rattle.common.specs.declared.refusal.Fault.{Fault}
use Rattle.common.specs.declared.refusal.Refusal.{Refusal}
use Rattle.common.specs.declared.refusal.Slice.{Slice}
use Rattle.common.specs.declared.times.Bases.{Bases}
use Rattle.stats_file.specs.Buffer.{column_count}
use Rattle.stats_file.specs.Statistics.{Reads}
use Rattle.stats_file.specs.declared.Table.{Table}
use Rattle.call_check.specs.Tables.{after}
use Rattle.data_items.specs.declared.Item.{Item}
use Rattle.list_call.specs.Lists.{list_at, counted}
use Rattle.list.specs.Reports.{Known, counted_at, begun_at, begun_of, Fit}
use Rattle.list.proofs.Tables.{read_whole, read_refused}

no : {A C : Type 0} {a : A} {f : Fault} {z : Slice} {p : ℕ} → taken a ≡ refused f z p → C
no e = let z : ◌≡◌ {A = ℕ} 0 1 = cc in absurd (omega arith)

-- ---- Data counted
module _ (d : List ℕ) (n : ℕ) (b : Bases) (s : List ℕ) (r : Result ℕ Refusal) (e : outcome r ≡ counted 0 (list_at (take n d) b s 0)) where
  pub counted_listing : (m : ℕ) → r ≡ Ok m → begun_of (Ok (b, n)) d ≡ counted_at (take n d) b s
  unfolding begun_of counted_at outcome counted after
  counted_listing m f = go (list_at (take n d) b s 0) (rw f at e)
    where
      go : (x : Outcome (List Item)) → outcome (Ok m) ≡ counted 0 x → ◌≡◌ {A = Outcome Known} (taken (b, take n d)) (after x (λ l. taken (b, take n d)))
      go (taken l) g = refl
      go (refused y z p) g = no g

  pub counted_refused : (q : Refusal) → r ≡ Err q → begun_of (Err q) d ≡ counted_at (take n d) b s
  unfolding begun_of counted_at outcome counted after
  counted_refused q f = go (list_at (take n d) b s 0) (rw f at e)
    where
      go : (x : Outcome (List Item)) → outcome (Err q) ≡ counted 0 x → ◌≡◌ {A = Outcome Known} (said_refusal q) (after x (λ l. taken (b, take n d)))
      go (taken l) g = no (sym g)
      go (refused y z p) g = let h : q.fault ≡ y = cc in let i : q.slice ≡ z = cc in let j : q.place ≡ p = cc in rw (h, i, j) refl

-- ---- Statistics read
module _ (s d d' : List ℕ) (a : Result Table Refusal) (r : Reads s d d' a) (l : length d ≡ 2544) where
  module _ (t : Table) (e : a ≡ Ok t) where
    pub begin_most : 16 * column_count t.sizes ≤ 2544
    begin_most = (read_whole s d d' l a r t e).most

    pub begin_within : (n : ℕ) → n ≡ 16 * column_count t.sizes → n ≤ 2544
    begin_within n f = omega (arith, begin_most)

    pub begin_listing : (n : ℕ) (b : Bases) (x : List ℕ) (q : Result (Bases × ℕ) Refusal) → n ≡ 16 * column_count t.sizes → b ≡ t.bases → begun_of q d' ≡ counted_at (take n d') b x → begun_of q d' ≡ begun_at s x
    unfolding begun_at after
    begin_listing n b x q f g h =
        let w = read_whole s d d' l a r t e in
        let i : w.file.header.bases ≡ t.bases = ap (λ (z : Table). z.bases) w.table in
        h ∙ rw (w.is, f, g, w.records, i) refl

  pub begin_refused : (q : Refusal) (x : List ℕ) → a ≡ Err q → begun_of (Err q) d' ≡ begun_at s x
  unfolding begun_of begun_at after
  begin_refused q x e = rw (read_refused s d d' l a r q e) refl

pub fit_within : (r : Result (Bases × ℕ) Refusal) (b : Bases) (n : ℕ) (d : List ℕ) → Fit r → r ≡ Ok (b, n) → length d ≡ 2544 → n ≤ length d
fit_within r b n d h e l = let z : n ≤ 2544 = rw e at h in omega arith

pub ruleset begins = (begin_most, begin_within, begin_listing, begin_refused)
