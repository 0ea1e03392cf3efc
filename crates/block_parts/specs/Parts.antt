-- docs/RULES.md, "Block files (C-11)", a block of 512 bytes: number, header apart from the number, records, fill and sums, each as it is written and as it is read, and
-- what is right of each.
use Rattle.std.specs.Prelude.{Bool, ◌&&◌, is_none, List, [], ◌∷◌, ◌++◌, ℕ, ◌+◌, ◌-◌, ◌*◌, ◌/◌, eqb, leb, length, get_or, take, replicate}
use Rattle.law_lists.specs.Every.{every}
use Rattle.law_lists.specs.Places.{part}
use Rattle.law_lists.specs.Portions.{portions}
use Rattle.check_limits.specs.LowestOver.{lowest_over}
use Rattle.block_numbers.specs.Words.{word_at, word_bytes}
use Rattle.block_numbers.specs.Sums.{sums_of}
use Rattle.block_record.specs.RecordBytes.{sound_record}

-- ---- as it is written

-- how many records some bytes are
abbrev pub count_of : List ℕ → ℕ
count_of records = length records / 24

-- behind the number: a byte with the record count, one with the edition, and zeros up to byte 8
abbrev pub header_bytes : ℕ → List ℕ
header_bytes count = count ∷ 1 ∷ 0 ∷ 0 ∷ 0 ∷ 0 ∷ []

-- zeros after the records, up to byte 508
abbrev pub fill_bytes : List ℕ → List ℕ
fill_bytes records = replicate (500 - length records) 0

-- bytes 0 to 507, which the sums are over
unfoldable pub body_bytes : ℕ → List ℕ → List ℕ
body_bytes number records = word_bytes number ++ header_bytes (count_of records) ++ records ++ fill_bytes records

-- the last four bytes: the plain sum, and the weighted one
abbrev pub sum_bytes : List ℕ → List ℕ
sum_bytes body = word_bytes (sums_of body).plain ++ word_bytes (sums_of body).weighted

unfoldable pub block_bytes : ℕ → List ℕ → List ℕ
block_bytes number records = body_bytes number records ++ sum_bytes (body_bytes number records)

-- ---- as it is read

abbrev pub number_in : List ℕ → ℕ
number_in block = word_at 0 block

abbrev pub count_in : List ℕ → ℕ
count_in block = get_or block 2 0

abbrev pub records_end : List ℕ → ℕ
records_end block = 8 + 24 * count_in block

abbrev pub records_in : List ℕ → List ℕ
records_in block = part 8 (records_end block) block

abbrev pub fill_in : List ℕ → List ℕ
fill_in block = part (records_end block) 508 block

-- ---- what is right of it

-- no byte is over 0, in the words of refusals 6 and 7
abbrev pub zeros : List ℕ → Bool
zeros bytes = is_none (lowest_over 0 0 bytes)

unfoldable pub sums_right : List ℕ → Bool
sums_right block = eqb (word_at 508 block) (sums_of (take 508 block)).plain && eqb (word_at 510 block) (sums_of (take 508 block)).weighted

-- the header apart from its number: 1 to 20 records, edition 1, four zeros
unfoldable pub header_right : List ℕ → Bool
header_right block = leb 1 (count_in block) && leb (count_in block) 20 && eqb (get_or block 3 0) 1 && zeros (part 4 8 block)

abbrev pub number_right : ℕ → List ℕ → Bool
number_right number block = eqb (number_in block) number

abbrev pub fill_right : List ℕ → Bool
fill_right block = zeros (fill_in block)

-- whole records, each of them sound
unfoldable pub sound_records : List ℕ → Bool
sound_records bytes = every sound_record (portions 24 bytes)
