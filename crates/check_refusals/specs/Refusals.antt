-- docs/RULES.md, "Refusal numbers": the eight refusals by number.
use Rattle.check_verdicts.specs.Verdicts.{Fault, numbered, placed}
use Rattle.check_refusals.specs.declared.Refusal.{Refusal}
use Rattle.check_refusals.specs.declared.Refusal.TheVariants.{Duration, Bandwidth, SpectrumLength, ListLength, FilterCount, Order, Index, Weighting}

-- the number, place and found value of each refusal
abbrev pub says : Refusal → Fault
says Duration = numbered 1
says Bandwidth = numbered 2
says SpectrumLength = numbered 3
says ListLength = numbered 4
says FilterCount = numbered 5
says (Order place found) = placed 6 place found
says (Index place found) = placed 7 place found
says Weighting = numbered 8
