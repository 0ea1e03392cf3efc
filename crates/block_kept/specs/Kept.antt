-- docs/RULES.md, "Rescue (C-16)", one block: when it is kept. The parts of a block are those of `Parts`, by their names.
use Rattle.std.specs.Prelude.{◌&&◌, not, List, ℕ, ltb, length}
use Rattle.check_verdicts.specs.Verdicts.{Verdict, accepted, check}
use Rattle.block_parts.specs.Parts.{records_in, sums_right, header_right, fill_right, sound_records}

-- a block is kept exactly if its sums, its header apart from the number, its fill and its records are right; the first fault stands, in the numbers and the order of a read.
-- 9: fewer bytes than a block. 10: sums. 11: header, its number apart, or fill. 12: a record that is not sound
unfoldable pub kept_checks : {A : Type 0} → List ℕ → Verdict A → Verdict A
kept_checks block next =
    check 9 (ltb (length block) 512)
    (check 10 (not (sums_right block))
    (check 11 (not (header_right block && fill_right block))
    (check 12 (not (sound_records (records_in block)))
    next)))

-- the records of a block that is kept, or its first fault
abbrev pub kept_verdict : List ℕ → Verdict (List ℕ)
kept_verdict block = kept_checks block (accepted (records_in block))
