-- Any two results that a contract allows for one input coincide: the laws of the lower crates, cited for each function of this crate. What they leave in
-- the lists that were lent coincides too.
use mathlib.Core.List.{List}
use Prim.Native.Nat.{ℕ}
use lib.Ieee.{Float}
use Rattle.law_results.proofs.Determined.{Determined, DeterminedWith, itself, of_parts}
use Rattle.call_restart.specs.Restart.{Lent, lent_at_line}
use Rattle.tns.proofs.tns_decode.Kinds as tns-decode-kinds
use Rattle.tns.proofs.tns_decode.Reads as tns-decode-reads
use Rattle.tns.proofs.tns_decode_save.Kinds as tns-decode-save-kinds
use Rattle.tns.proofs.tns_decode_save.Reads as tns-decode-save-reads
use Rattle.tns.proofs.tns_decode_restart.Kinds as tns-decode-restart-kinds
use Rattle.tns.proofs.tns_decode_restart.Reads as tns-decode-restart-reads
use Rattle.tns.proofs.tns_encode.Kinds as tns-encode-kinds
use Rattle.tns.proofs.tns_encode.Reads as tns-encode-reads
use Rattle.tns.proofs.blocks.tns_block_write.Kinds as tns-block-write-kinds
use Rattle.tns.proofs.blocks.tns_block_write.Reads as tns-block-write-reads
use Rattle.tns.proofs.blocks.tns_block_read.Kinds as tns-block-read-kinds
use Rattle.tns.proofs.blocks.tns_block_read.Reads as tns-block-read-reads
use Rattle.tns.proofs.rescue.tns_block_rescue.Kinds as tns-block-rescue-kinds
use Rattle.tns.proofs.rescue.tns_block_rescue.Reads as tns-block-rescue-reads
use Rattle.tns.proofs.tns_cost.Kinds as tns-cost-kinds
use Rattle.tns.proofs.tns_cost.Reads as tns-cost-reads
use Rattle.tns.proofs.tns_cost_2048ths.Kinds as tns-cost-2048ths-kinds
use Rattle.tns.proofs.tns_cost_2048ths.Reads as tns-cost-2048ths-reads

tns_decode : DeterminedWith 3 tns-decode-kinds.ps tns-decode-kinds.r tns-decode-reads.Post (List Float) (λ κs s. s.1.1.1.1.1.0.now)
tns_decode κs a x y s t p q = (itself p.0 q.0, itself p.1 q.1)

-- the output and the states
tns_decode_save :
    DeterminedWith 5 tns-decode-save-kinds.ps tns-decode-save-kinds.r tns-decode-save-reads.Post Lent
    (λ κs s. lent_at_line s.1.1.1.1.1.1.0.now s.1.1.1.1.1.1.1.1.0.now)
tns_decode_save κs a x y s t p q = (itself p.answer q.answer, of_parts lent_at_line (itself p.output q.output) (itself p.states q.states))

tns_decode_restart :
    DeterminedWith 5 tns-decode-restart-kinds.ps tns-decode-restart-kinds.r tns-decode-restart-reads.Post (List Float)
    (λ κs s. s.1.1.1.1.1.1.0.now)
tns_decode_restart κs a x y s t p q = (itself p.answer q.answer, itself p.output q.output)

tns_cost : Determined 2 tns-cost-kinds.ps tns-cost-kinds.r tns-cost-reads.Post
tns_cost κs a x y s t p q = itself p.0 q.0

-- the 2048ths of each filter
tns_cost_2048ths :
    DeterminedWith 3 tns-cost-2048ths-kinds.ps tns-cost-2048ths-kinds.r tns-cost-2048ths-reads.Post (List ℕ) (λ κs s. s.1.1.1.1.0.now)
tns_cost_2048ths κs a x y s t p q = (itself p.0 q.0, itself p.1.1.parts q.1.1.parts)

-- the lines, the side data, the coefficients, the gains and whether each filter is on
tns_encode_lines : DeterminedWith 5 tns-encode-kinds.ps tns-encode-kinds.r tns-encode-reads.Post (List Float) (λ κs s. s.1.1.1.1.0.now)
tns_encode_lines κs a x y s t p q = (itself p.answer q.answer, itself p.lines q.lines)

tns_encode_side : DeterminedWith 5 tns-encode-kinds.ps tns-encode-kinds.r tns-encode-reads.Post (List ℕ) (λ κs s. s.1.1.1.1.1.0.now)
tns_encode_side κs a x y s t p q = (itself p.answer q.answer, itself p.side q.side)

tns_encode_coefficients :
    DeterminedWith 5 tns-encode-kinds.ps tns-encode-kinds.r tns-encode-reads.Post (List Float) (λ κs s. s.1.1.1.1.1.1.0.now)
tns_encode_coefficients κs a x y s t p q = (itself p.answer q.answer, itself p.coefficients q.coefficients)

tns_encode_gains :
    DeterminedWith 5 tns-encode-kinds.ps tns-encode-kinds.r tns-encode-reads.Post (List Float) (λ κs s. s.1.1.1.1.1.1.1.0.now)
tns_encode_gains κs a x y s t p q = (itself p.answer q.answer, itself p.gains q.gains)

tns_encode_on : DeterminedWith 5 tns-encode-kinds.ps tns-encode-kinds.r tns-encode-reads.Post (List ℕ) (λ κs s. s.1.1.1.1.1.1.1.1.0.now)
tns_encode_on κs a x y s t p q = (itself p.answer q.answer, itself p.on q.on)

-- the block, the records, and the block as it becomes
tns_block_write : DeterminedWith 2 tns-block-write-kinds.ps tns-block-write-kinds.r tns-block-write-reads.Post (List ℕ) (λ κs s. s.1.1.0.now)
tns_block_write κs a x y s t p q = (itself p.answer q.answer, itself p.bytes q.bytes)

tns_block_read : DeterminedWith 2 tns-block-read-kinds.ps tns-block-read-kinds.r tns-block-read-reads.Post (List ℕ) (λ κs s. s.1.1.0.now)
tns_block_read κs a x y s t p q = (itself p.answer q.answer, itself p.bytes q.bytes)

tns_block_rescue : DeterminedWith 2 tns-block-rescue-kinds.ps tns-block-rescue-kinds.r tns-block-rescue-reads.Post (List ℕ) (λ κs s. s.1.1.0.now)
tns_block_rescue κs a x y s t p q = (itself p.answer q.answer, itself p.bytes q.bytes)
