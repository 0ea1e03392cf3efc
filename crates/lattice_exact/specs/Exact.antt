-- docs/RULES.md, "The exact lattice": the encoder's rule over lists of whole numbers, without rounding.
-- The units are 2^-149 for lines, 2^-26 for coefficients and 2^-357 for results. A product with a coefficient counts units 2^26 times finer than its other
-- factor, so what it is added to is first expressed in those. So t and b count units of 2^-(149+26k) when k stages are done, and state k always does.
use Rattle.std.specs.Prelude.{List, ℕ, zero, suc, ◌-◌, ◌*◌, ◌^◌, get_or, set, replicate, ℤ, pos, ◌+ℤ◌, ◌*ℤ◌}
use Rattle.law_lists.specs.Lines.{lines_through, state_through}

-- expressed in units 2^26 times finer
abbrev pub finer : ℤ → ℤ
finer z = z *ℤ pos (2 ^ 26)

-- a line on its way, and a line that has passed, with the states
pub record ExactPassing : Type 0 where
  pub t : ℤ
  pub b : ℤ
  pub states : List ℤ

pub record ExactPassed : Type 0 where
  pub t : ℤ
  pub states : List ℤ

-- one stage: t and b anew, both from the old t and the old state; the old b becomes the state
unfoldable pub exact_stage : ℤ → ℕ → ExactPassing → ExactPassing
exact_stage q k p =
    let old = get_or p.states k (pos 0) in
    record {
      t = finer p.t +ℤ q *ℤ old;
      b = q *ℤ p.t +ℤ finer old;
      states = set p.states k p.b;
    }

-- upwards: the stages below a number
unfoldable pub exact_stages_to : List ℤ → ℕ → ExactPassing → ExactPassing
exact_stages_to q zero p = p
exact_stages_to q (suc k) p = exact_stage (get_or q k (pos 0)) k (exact_stages_to q k p)

-- t and b start as the line
abbrev pub exact_entering : ℤ → List ℤ → ExactPassing
exact_entering line states = record { t = line; b = line; states = states }

-- All stages but the last are full ones. The last makes no new b: its t is the line, and b becomes its state.
-- A filter of order 0 changes neither line nor state.
unfoldable pub line_exact : List ℤ → ℕ → List ℤ → ℤ → ExactPassed
line_exact q zero states line = record { t = line; states = states }
line_exact q (suc k) states line =
    let p = exact_stages_to q k (exact_entering line states) in
    record { t = finer p.t +ℤ get_or q k (pos 0) *ℤ get_or p.states k (pos 0); states = set p.states k p.b }

-- the lines of a band, taken upwards, and expressed in units of 2^-357 whatever the order; and the states after them
unfoldable pub lines_exact : List ℤ → ℕ → List ℤ → List ℤ → List ℤ
lines_exact q order =
    lines_through (λ states line. (line_exact q order states line).t *ℤ pos (2 ^ (26 * (8 - order)))) (λ states line. (line_exact q order states line).states)

unfoldable pub states_exact : List ℤ → ℕ → List ℤ → List ℤ → List ℤ
states_exact q order = state_through (λ states line. (line_exact q order states line).states)

-- both filters, from eight states of 0; the second goes on with what the first leaves
abbrev pub exact_rest : List ℤ
exact_rest = replicate 8 (pos 0)
