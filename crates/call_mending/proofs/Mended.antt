-- A frame that is mended from line n on and restarted there comes out, from that line on, as a fresh run of it does. The law is of any save and any
-- restart that keep their promises.
use mathlib.Core.Path.{◌≡◌, refl, sym, ◌∙◌, ap, subst}
use mathlib.Core.List.{List, ◌++◌}
use Prim.Native.Nat.{ℕ, zero, suc, ◌≤◌, ◌<◌}
use native.Mathlib.Nat.{le_of_suc-le-suc, not-suc-le-zero, lt_irrefl}
use native.Mathlib.Omega.{arith}
use lib.Ieee.{Float}
use lib.ListN.{length, take, drop}
use lib.Seq.{length-take-le, take_at, drop_at}
use Rattle.law_lists.specs.Counted.{counted}
use Rattle.law_lists.proofs.Counted.{none_of_them, one_of_them, two_of_them}
use Rattle.std.specs.Prelude.{Result}
use Rattle.check_verdicts.specs.Verdicts.{no_fault, verdict_by}
use Rattle.row_durations.specs.Durations.{duration_of}
use Rattle.row_bands.specs.Bands.{row_of, band_of}
use Rattle.row_bands.specs.declared.Row.{Row}
use Rattle.row_bands.proofs.Bands.{SoundRow}
use Rattle.check_coded.specs.CodedFrames.{CodedFrame, row_in}
use Rattle.check_line.specs.LineChecks.{checks_at_line, line_says}
use Rattle.check_line.specs.declared.LineRefusal.{LineRefusal}
use Rattle.check_coded.proofs.CodedFrames.{written}
use Rattle.check_line.proofs.LineChecks.{PassedLine, passed_at_line}
use Rattle.lattice_lines.specs.Lattice.{at_rest}
use Rattle.lattice_decoder.specs.DecoderLattice.{line_decoded}
use Rattle.lattice_rows.specs.Filters.{Filter, row_run, row_filtered}
use Rattle.lattice_rows.specs.Split.{Begins, row_below_line}
use Rattle.lattice_rows.proofs.EitherSide.{none_states, one_states, two_states, goes_on}
use Rattle.side_decoded.specs.DecoderFilters.{decoder_filter, row_decoded}
use Rattle.side_split.specs.SplitRun.{states_before, lines_from}
use Rattle.call_decode.proofs.DecodedFrames.{row_as_spectrum}
use Rattle.call_restart.specs.Restart.{Lent}
use Rattle.call_restart.proofs.SplitFrames.{SavesFrame, RestartsFrame}
use Rattle.call_mending.specs.Mended.{AgreeBelow, order_at, indices_at, decoded, Mended}

-- the states of a frame before line n
abbrev states_in : CodedFrame → ℕ → List Float
states_in f n = states_before n (row_in f) f.filters f.orders f.indices f.spectrum

-- what an accepted save leaves is what the decode call leaves of the spectrum, and the states before the line
pub saved_is_decoded : (f : CodedFrame) (n : ℕ) (found left : Lent) (answer : Result (Unit {0}) LineRefusal) → SavesFrame f n found left answer → verdict_by line_says answer ≡ no_fault
    → (left.output ≡ decoded f) × (left.states ≡ states_before n (row_of (duration_of f.duration) f.bandwidth) f.filters f.orders f.indices f.spectrum)
saved_is_decoded f n found left answer p e =
    let passes = sym p.answer ∙ e in
    (p.output ∙ rw passes, p.states ∙ rw passes)

module _ (n : ℕ) (old new : CodedFrame) (agree : AgreeBelow n old new) where
  abbrev row : Row
  row = row_in new

  abbrev filter_at : CodedFrame → ℕ → Filter
  filter_at f k = decoder_filter (order_at f k) (indices_at f k)

  same_filter : (k : ℕ) → k < new.filters → Begins n (band_of row k) → filter_at old k ≡ filter_at new k
  same_filter k counts begins = let e = agree.filters k counts begins in rw (e.0, e.1)

  abbrev states_by : List Filter → CodedFrame → List Float
  states_by filters f = (row_run line_decoded (row_below_line n row) filters at_rest f.spectrum).states

  abbrev counts : CodedFrame → ℕ → List Filter
  counts f count = counted decoder_filter count f.orders f.indices

  by_lists : (count : ℕ) (fs gs : List Filter) → counts old count ≡ fs → counts new count ≡ gs → states_by fs old ≡ states_by gs new
      → states_by (counts old count) old ≡ states_by (counts new count) new
  by_lists count fs gs ef eg e = rw (ef, eg) e

  -- the counted filters that begin below the line leave the same states there, and the others have not begun
  same_states : SoundRow row (length new.spectrum) → new.filters ≤ 2 → states_in old n ≡ states_in new n
  unfolding states_before
  same_states sound few = rw (agree.durations, agree.bandwidths, agree.counts) (cases new.filters refl few)
    where
      old_sound : SoundRow row (length old.spectrum)
      old_sound = subst (λ (k : ℕ). SoundRow row k) (sym agree.lengths) sound

      cases : (count : ℕ) → new.filters ≡ count → count ≤ 2 → states_by (counts old count) old ≡ states_by (counts new count) new
      cases zero e h =
          by_lists 0 _ _ (none_of_them decoder_filter old.orders old.indices) (none_of_them decoder_filter new.orders new.indices)
          (none_states line_decoded n row at_rest old.spectrum new.spectrum old_sound sound agree.lines)
      cases (suc zero) e h =
          by_lists 1 _ _ (one_of_them decoder_filter old.orders old.indices) (one_of_them decoder_filter new.orders new.indices)
          (one_states line_decoded n row at_rest old.spectrum new.spectrum old_sound sound agree.lines (filter_at old 0) (filter_at new 0)
          (same_filter 0 (omega (arith, e))))
      cases (suc (suc zero)) e h =
          by_lists 2 _ _ (two_of_them decoder_filter old.orders old.indices) (two_of_them decoder_filter new.orders new.indices)
          (two_states line_decoded n row at_rest old.spectrum new.spectrum old_sound sound agree.lines (filter_at old 0) (filter_at new 0) (filter_at old 1)
          (filter_at new 1) (same_filter 0 (omega (arith, e))) (same_filter 1 (omega (arith, e))))
      cases (suc (suc (suc count))) e h = absurd (not-suc-le-zero (le_of_suc-le-suc (le_of_suc-le-suc h)))

  -- from the states at the line the new frame's run goes on as it does from its start
  lines_go_on : (output : ℕ) → PassedLine new row n output
      → lines_from n row new.filters new.orders new.indices (states_in new n) new.spectrum ≡ drop n (decoded new)
  unfolding lines_from states_before row_decoded row_filtered
  lines_go_on output p =
      let r = p.ready in
      goes_on line_decoded n row r.in_turn at_rest new.spectrum r.bands r.there (counted decoder_filter new.filters new.orders new.indices)
      ∙ ap (drop n) (row_as_spectrum new p.frame)

  -- the old frame's states are saved before line n, and the new frame is restarted there from them
  pub mended : (Lent-found lent-left : Lent) (saved : Result (Unit {0}) LineRefusal) → SavesFrame old n Lent-found lent-left saved → verdict_by line_says saved ≡ no_fault
      → (found left : List Float) (answer : Result (Unit {0}) LineRefusal) → RestartsFrame new n lent-left.states found left answer → verdict_by line_says answer ≡ no_fault
      → Mended n new found left
  mended Lent-found lent-left saved s es found left answer r er =
      let no-fault : no_fault ≡ checks_at_line new n (length found) = sym er ∙ r.answer in
      let passed = passed_at_line new n (length found) no-fault in
      let known = passed.ready in
      let states : lent-left.states ≡ states_in new n =
      (saved_is_decoded old n Lent-found lent-left saved s es).1 ∙ same_states known.bands known.side_data.count_at_most_2
      in
      let lines : lines_from n row new.filters new.orders new.indices lent-left.states new.spectrum ≡ drop n (decoded new) =
      ap (λ (l : List Float). lines_from n row new.filters new.orders new.indices l new.spectrum) states ∙ lines_go_on (length found) passed
      in
      let output : left ≡ take n found ++ drop n (decoded new) =
      r.output
      ∙ sym (written no-fault _ found)
      ∙ ap (λ (l : List Float). take n found ++ l) lines
      in
      let taken : length (take n found) ≡ n = length-take-le n found (omega (arith, known.as_long, known.there)) in
      record {
        from_line = ap (drop n) output ∙ drop_at (take n found) (drop n (decoded new)) n taken;
        below_line = ap (take n) output ∙ take_at (take n found) (drop n (decoded new)) n taken;
      }

-- ---- the case to get right: at the second band's start the second filter may be another, since its band does not begin below the line

pub at_second_start : (old new : CodedFrame) → length old.spectrum ≡ length new.spectrum → old.duration ≡ new.duration → old.bandwidth ≡ new.bandwidth
    → old.filters ≡ new.filters
    → let n = (band_of (row_of (duration_of new.duration) new.bandwidth) 1).start in
    take n old.spectrum ≡ take n new.spectrum → order_at old 0 ≡ order_at new 0 → indices_at old 0 ≡ indices_at new 0 → AgreeBelow n old new
at_second_start old new lengths durations bandwidths counts lines order indices =
    record { lengths = lengths; durations = durations; bandwidths = bandwidths; counts = counts; lines = lines; filters = filters }
  where
    row : Row
    row = row_of (duration_of new.duration) new.bandwidth

    filters : (k : ℕ) → k < new.filters → Begins row.second.start (band_of row k) → (order_at old k ≡ order_at new k) × (indices_at old k ≡ indices_at new k)
    filters zero h begins = (order, indices)
    filters (suc zero) h begins = absurd (lt_irrefl row.second.start begins.0)
    filters (suc (suc k)) h begins = absurd (lt_irrefl 0 begins.1)
