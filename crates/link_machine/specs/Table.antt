-- The words of a table of relocation types, a row a type.
use Rattle.std.specs.Prelude.{ℕ, pos, neg_ℤ, ◌+◌, ◌-◌, ◌^◌, ◌==◌, List, [], ◌∷◌, Option, Some, None, if◌then◌else◌}
use Rattle.link_machine.specs.declared.class.RefClass.{RefClass}
use Rattle.link_machine.specs.declared.rule.Bits.{Bits}
use Rattle.link_machine.specs.declared.rule.Field.{Field}
use Rattle.link_machine.specs.declared.rule.Field.TheVariants.{One, Two}
use Rattle.link_machine.specs.declared.rule.Formula.{Formula}
use Rattle.link_machine.specs.declared.rule.Range.{Range}
use Rattle.link_machine.specs.declared.rule.Range.TheVariants.{Within}
use Rattle.link_machine.specs.declared.rule.Rule.{Rule}

-- type, class, value, size of the field, bits of the field, range, multiple
abbrev pub row : ℕ → RefClass → Formula → ℕ → Field → Range → ℕ → ℕ × Rule
row kind class formula size field range multiple = (
  kind,
  record {
    class = class;
    formula = formula;
    size = size;
    field = field;
    range = range;
    multiple = multiple;
  },
)

-- the rule of a type
abbrev pub rule_in : List (ℕ × Rule) → ℕ → Option Rule
rule_in [] kind = None
rule_in (r ∷ rest) kind = if kind == r.0 then Some r.1 else rule_in rest kind

-- the bits [high:low] of the value, from bit at of the field on
abbrev pub bits : ℕ → ℕ → ℕ → Bits
bits high low at = record { high = high; low = low; at = at }

abbrev pub part : ℕ → ℕ → ℕ → Field
part high low at = One (bits high low at)

-- the whole field of n bits
abbrev pub whole : ℕ → Field
whole n = part (n - 1) 0 0

-- the numbers that n bits hold
abbrev pub signed : ℕ → Range
signed n = Within (neg_ℤ (pos (2 ^ (n - 1)))) (pos (2 ^ (n - 1)))

abbrev pub unsigned : ℕ → Range
unsigned n = Within (pos 0) (pos (2 ^ n))

-- those that n bits hold with a sign or without
abbrev pub either : ℕ → Range
either n = Within (neg_ℤ (pos (2 ^ (n - 1)))) (pos (2 ^ n))

-- ADR and ADRP: two bits at 29, nineteen at 5
abbrev pub adr : ℕ → Field
adr low = Two (bits (low + 1) low 29) (bits (low + 20) (low + 2) 5)
