-- docs/RULES.md, "Block files (C-11)": what reading a block of 512 bytes and writing one give or refuse.
use Rattle.std.specs.Prelude.{◌&&◌, ◌||◌, not, List, [], ◌∷◌, ℕ, ltb, length, take}
use Rattle.check_verdicts.specs.Verdicts.{Verdict, accepted, check}
use Rattle.block_parts.specs.Parts.{records_in, sums_right, header_right, number_right, fill_right, sound_records, block_bytes}

-- what reading block `number` gives, its records, or refuses. 9: too few bytes, or a number too high. 10: a wrong sum. 11: a wrong header, number or fill. 12: a
-- record that is not sound
unfoldable pub block_verdict : ℕ → List ℕ → Verdict (List ℕ)
block_verdict number block =
    check 9 (ltb (length block) 512 || ltb 65535 number)
    (check 10 (not (sums_right block))
    (check 11 (not (header_right block && number_right number block && fill_right block))
    (check 12 (not (sound_records (records_in block)))
    (accepted (records_in block)))))

-- the block at the start of some bytes; no bytes read as no records
unfoldable pub read_verdict : ℕ → List ℕ → Verdict (List ℕ)
read_verdict number [] = accepted []
read_verdict number (byte ∷ bytes) = block_verdict number (take 512 (byte ∷ bytes))

-- what writing the first twenty of some records as block `number` gives, the block, or refuses; no records write no bytes
unfoldable pub write_verdict : ℕ → List ℕ → Verdict (List ℕ)
write_verdict number [] = accepted []
write_verdict number (byte ∷ bytes) =
    check 9 (ltb 65535 number)
    (check 12 (not (sound_records (take 480 (byte ∷ bytes))))
    (accepted (block_bytes number (take 480 (byte ∷ bytes)))))
