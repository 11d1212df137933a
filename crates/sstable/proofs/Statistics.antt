-- The laws of the calls for Statistics.db and schema tables. Assumes nothing.
use mathlib.Core.Path.{◌≡◌, refl, ◌∙◌}
use mathlib.Core.List.{List, [], ◌∷◌}
use Prim.Native.Nat.{ℕ}
use Rattle.std.proofs.Common.{Result, Ok, Err}
use Rattle.common.specs.Refusals.{fault_number, slice_number, outcome}
use Rattle.common.specs.declared.refusal.Refusal.{Refusal}
use Rattle.common.specs.Times.{biased}
use Rattle.schema_check.specs.Records.{schema_of}
use Rattle.schema_check.specs.declared.records.Counts.{Counts}
use Rattle.stats_file.specs.Statistics.{Reads}
use Rattle.stats_file.specs.declared.Table.{Table}
use Rattle.sstable.specs.Statistics.{table_words, statistics_words, StatisticsRead, count_words, schema_words, checked_words}
use Rattle.sstable_words.proofs.Words.{words_taken, words_refused, mapped_taken, mapped_refused}

-- ---- Statistics
module _ (s d d' : List ℕ) (r : Result Table Refusal) (h : Reads s d d' r) where
  pub statistics_is : (t : Table) (x : ℕ) → r ≡ Ok t → x ≡ biased t.bases.timestamp
      → StatisticsRead s d d' (0 ∷ 0 ∷ 0 ∷ x ∷ t.bases.local ∷ t.bases.ttl ∷ t.validation.name ∷ t.validation.len ∷ t.validation.chance.bits ∷ t.sizes.clustering ∷ t.sizes.statics ∷ t.sizes.regulars ∷ [])
  unfolding statistics_words outcome
  statistics_is t x f g = record {
    answer = rw g (words_taken _ _ _ (mapped_taken table_words t _ (rw f at h.answer)));
    buffer = h.buffer;
  }

  pub statistics_bad : (x : Refusal) (m n : ℕ) → r ≡ Err x → m ≡ fault_number x.fault → n ≡ slice_number x.slice
      → StatisticsRead s d d' (m ∷ n ∷ x.place ∷ 0 ∷ 0 ∷ 0 ∷ 0 ∷ 0 ∷ 0 ∷ 0 ∷ 0 ∷ 0 ∷ [])
  unfolding statistics_words outcome
  statistics_bad x m n f g k = record {
    answer = words_refused _ _ x.fault x.slice _ _ _ (mapped_refused table_words x.fault x.slice x.place _ (rw f at h.answer)) g k;
    buffer = h.buffer;
  }

pub ruleset reads_statistics = (statistics_is, statistics_bad)

-- ---- schema tables
module _ (c : Result Counts Refusal) where
  pub checked_is : (n : Counts) → c ≡ Ok n → 0 ∷ 0 ∷ 0 ∷ n.clustering ∷ n.statics ∷ n.regulars ∷ [] ≡ checked_words c
  unfolding checked_words outcome
  checked_is n f = rw f (words_taken _ _ _ (mapped_taken count_words n _ refl))

  pub checked_bad : (x : Refusal) (m n : ℕ) → c ≡ Err x → m ≡ fault_number x.fault → n ≡ slice_number x.slice → m ∷ n ∷ x.place ∷ 0 ∷ 0 ∷ 0 ∷ [] ≡ checked_words c
  unfolding checked_words outcome
  checked_bad x m n f g k = rw f (words_refused _ _ x.fault x.slice _ _ _ (mapped_refused count_words x.fault x.slice x.place _ refl) g k)

pub ruleset reads_checked = (checked_is, checked_bad)

pub schema_checked : (limit : ℕ) (s a : List ℕ) (c : Result Counts Refusal) → outcome c ≡ schema_of limit s → a ≡ checked_words c → a ≡ schema_words limit s
unfolding schema_words checked_words
schema_checked limit s a c e f = f ∙ rw e refl
