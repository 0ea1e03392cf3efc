-- docs/RULES.md, "Restart at a line (C-22)": a frame is mended from line n on. The old frame was saved before that line, and the new one is restarted there.
use Rattle.std.specs.Prelude.{◌≡◌, List, ℕ, ◌*◌, ◌<◌, Float, length, get_or, take, drop}
use Rattle.row_durations.specs.Durations.{duration_of}
use Rattle.row_bands.specs.Bands.{row_of, band_of}
use Rattle.check_coded.specs.CodedFrames.{CodedFrame}
use Rattle.lattice_rows.specs.Split.{Begins}
use Rattle.call_decode.specs.Decoder.{spectrum_decoded}

-- the order and the indices of filter k
abbrev pub order_at : CodedFrame → ℕ → ℕ
order_at frame k = get_or frame.orders k 0

abbrev pub indices_at : CodedFrame → ℕ → List ℕ
indices_at frame k = take 8 (drop (8 * k) frame.indices)

-- The two frames have the same length, duration, bandwidth and filter count, the same lines below n, and the same order and indices for a filter that begins below
-- n. A filter without a band, and one that is not counted, may be anything.
pub record AgreeBelow (n : ℕ) (old new : CodedFrame) : Type 0 where
  pub lengths : length old.spectrum ≡ length new.spectrum
  pub durations : old.duration ≡ new.duration
  pub bandwidths : old.bandwidth ≡ new.bandwidth
  pub counts : old.filters ≡ new.filters
  pub lines : take n old.spectrum ≡ take n new.spectrum
  pub filters : (k : ℕ) → k < new.filters → Begins n (band_of (row_of (duration_of new.duration) new.bandwidth) k)
      → (order_at old k ≡ order_at new k) × (indices_at old k ≡ indices_at new k)

-- what a fresh run of a frame leaves
abbrev pub decoded : CodedFrame → List Float
decoded frame = spectrum_decoded frame.duration frame.bandwidth frame.filters frame.orders frame.indices frame.spectrum

-- The output of the restart: from line n on what a fresh run of the new frame leaves, and below it what was there before.
pub record Mended (n : ℕ) (new : CodedFrame) (found left : List Float) : Type 0 where
  pub from_line : drop n left ≡ drop n (decoded new)
  pub below_line : take n left ≡ take n found
