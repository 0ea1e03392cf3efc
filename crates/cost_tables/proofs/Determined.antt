-- Any two results that a contract allows for one input coincide: the law of `law_results`, cited for each public function of this crate.
use mathlib.Core.HLevel.{is_prop→PathP}
use mathlib.Core.Path.{◌≡◌, sym, ◌∙◌}
use Prim.Native.Nat.{ℕ}
use mir.Syntax.{w64}
use mir.Val.{Fits}
use Rattle.std.proofs.Props.{props}
use Rattle.law_results.proofs.Determined.{Determined, itself}
use Rattle.cost_tables.specs.Tables.{in_one_run, coef_bits}
use Rattle.cost_tables.specs.declared.IndexCosts.{IndexCosts}
use Rattle.cost_tables.proofs.cell.Kinds as cell-kinds
use Rattle.cost_tables.proofs.cell.Reads as cell-reads
use Rattle.cost_tables.proofs.IndexCosts.coef_bits.Kinds as coef-bits-kinds
use Rattle.cost_tables.proofs.IndexCosts.coef_bits.Reads as coef-bits-reads
use Rattle.cost_tables.proofs.coef_costs.Kinds as coef-costs-kinds
use Rattle.cost_tables.proofs.coef_costs.Reads as coef-costs-reads
use Rattle.cost_tables.proofs.of_order.Kinds as of-order-kinds
use Rattle.cost_tables.proofs.of_order.Reads as of-order-reads
use Rattle.cost_tables.proofs.order_bits.Kinds as order-bits-kinds
use Rattle.cost_tables.proofs.order_bits.Reads as order-bits-reads

-- two values of the type have the same run
same_costs : (x y : IndexCosts) → x ≡ y
same_costs x y =
    let e : x.run ≡ y.run = x.its ∙ sym y.its in
    λ i. record { run = e i; its = is_prop→PathP (λ j. e j ≡ in_one_run coef_bits) (λ j. hlevel props) x.its y.its i }

cell_lem : (rows columns : ℕ) (r : Fits w64 rows) (c : Fits w64 columns)
    → Determined 3 (cell-kinds.ps rows columns r c) (cell-kinds.r rows columns r c) (cell-reads.Post rows columns r c)
cell_lem rows columns r c κs a x y s t p q = itself p q

coef_bits_lem : Determined 1 coef-bits-kinds.ps coef-bits-kinds.r coef-bits-reads.Post
coef_bits_lem κs a x y s t p q = itself p q

coef_costs : Determined 0 coef-costs-kinds.ps coef-costs-kinds.r coef-costs-reads.Post
coef_costs κs a x y s t p q = same_costs x y

of_order_lem : Determined 1 of-order-kinds.ps of-order-kinds.r of-order-reads.Post
of_order_lem κs a x y s t p q = itself p q

order_bits_lem : Determined 0 order-bits-kinds.ps order-bits-kinds.r order-bits-reads.Post
order_bits_lem κs a x y s t p q = itself p q
