-- docs/RULES.md, "Block files (C-11)", a record: what stands where in its 24 bytes, and when it is sound.
use Rattle.std.specs.Prelude.{Bool, false, ◌&&◌, List, ℕ, eqb, length, get_or}
use Rattle.law_lists.specs.Places.{part}
use Rattle.check_verdicts.specs.Verdicts.{Verdict, unless_refused}
use Rattle.check_side.specs.Sides.{code_checks}
use Rattle.cost_bytes.specs.SideBytes.{Fields, cost_of_fields}
use Rattle.block_numbers.specs.Words.{word_at}

pub record Recorded : Type 0 where
  pub duration : ℕ
  pub bandwidth : ℕ
  pub side : Fields
  pub bits : ℕ

-- a byte for each number up to the last index, and two for the bits
abbrev pub recorded_of : List ℕ → Recorded
recorded_of bytes =
    record {
      duration = get_or bytes 0 0;
      bandwidth = get_or bytes 1 0;
      side = record { filters = get_or bytes 2 0; weighting = get_or bytes 3 0; orders = part 4 6 bytes; indices = part 6 22 bytes };
      bits = word_at 22 bytes;
    }

-- what it costs, or the first of checks 1, 2 and 4 to 8 that it breaks
abbrev pub recorded_cost : Recorded → Verdict ℕ
recorded_cost kept = code_checks kept.duration kept.bandwidth (cost_of_fields kept.side)

-- 24 bytes, no check broken, and bits that are its cost
unfoldable pub sound_record : List ℕ → Bool
sound_record bytes = eqb (length bytes) 24 && unless_refused (recorded_cost (recorded_of bytes)) (λ cost. eqb cost (recorded_of bytes).bits) false
