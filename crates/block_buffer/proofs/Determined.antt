-- Any two results that a contract allows for one input coincide: the law of `law_results`, cited for each public function of this crate. What it
-- leaves in the buffer coincides too.
use mathlib.Core.Path.{refl}
use mathlib.Core.List.{List}
use Prim.Native.Nat.{ℕ}
use Rattle.law_results.proofs.Determined.{DeterminedWith, itself}
use Rattle.block_buffer.proofs.lay.Kinds as lay-kinds
use Rattle.block_buffer.proofs.lay.Reads as lay-reads

lay : DeterminedWith 2 lay-kinds.ps lay-kinds.r lay-reads.Post (List ℕ) (λ κs s. s.1.0.now)
lay κs a x y s t p q = (refl, itself p q)
