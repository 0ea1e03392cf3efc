-- A line for each record, each after those before it.
use Rattle.std.proofs.Common.{◌≡◌, ℕ, ◌+◌, List, [], ◌/◌, length, ap, ◌∙◌, arith}
use Rattle.cost_bytes.specs.SideBytes.{line_of}
use Rattle.text_put.specs.Text.{after}
use Rattle.text_put.proofs.Pieces.{then}
use Rattle.text_answers.specs.Wording.{line_text}
use Rattle.prog_bits.specs.Output.{record20, lines_text}
use Rattle.prog_bits.proofs.LinesPut.{no_lines, given_record, one_more, all_lines}
use Rattle.prog_bits.proofs.put_lines.Goals as goal

pub loop-k-init : goal.loop-k-init
loop-k-init c = c.clear.ensures ∙ no_lines 65536 c.args.frame c.args.bytes.now

pub loop-k-preserved : goal.loop-k-preserved
loop-k-preserved c =
    let l = c.loop-k in
    let g = c.args in
    let line : List ℕ → List ℕ = λ b. line_text (g.frame + l.k) (line_of b) in
    let chunks = c.as_chunks.ensures in
    let here = given_record g.bytes.now c.as_chunks.result.0.now l.k chunks.front (omega (arith, chunks.front_len, c.loop-k-test.true)) in
    then 65536 [] (lines_text g.frame g.bytes.now l.k) (line (record20 g.bytes.now l.k)) l.invariant
    (c.put_line.ensures ∙ ap (λ (r : List ℕ). after 65536 l.out (line r)) here)
    ∙ ap (after 65536 []) (one_more g.frame l.k g.bytes.now)

pub returns : goal.returns
returns c =
    let l = c.loop-k in
    let g = c.args in
    let all : l.k ≡ length g.bytes.now / 20 = omega (arith, c.as_chunks.ensures.front_len) in
    l.invariant ∙ all_lines 65536 g.frame g.bytes.now l.k (omega arith) ∙ ap (lines_text g.frame g.bytes.now) all
