-- What a layout is that is given, and what its limits say of its ends.
use Rattle.std.proofs.Common.{◌≡◌, ℕ, ◌+◌, ◌-◌, ◌≤◌, length, max, Result, Ok, refl, sym, arith, Bool, true, false}
use Rattle.std.specs.Prelude.{if◌then◌else◌, nat_le}
use Rattle.std.proofs.lemmas.Bool.Decides.{nat_tests}
use Rattle.ifs_bytes.specs.Outcome.{check, ◌>>=◌}
use Rattle.link_core.specs.declared.layout.Layout.{Layout}
use Rattle.link_core.specs.declared.options.OutKind.TheVariants as kinds
use Rattle.link_core.specs.declared.refusal.LinkRefusal.{LinkRefusal}
use Rattle.link_core.specs.declared.tables.TheConstants.{MOST_IMAGE_BYTES, MOST_OUTPUT_SECTIONS}
use Rattle.link_core.specs.Commons.{outputs_by}
use Rattle.link_core.specs.Layout.{base_of, has_threads, image_span, layout_by, layout_in, layout_of, names_size, tls_end, too_large, written_end}
use Rattle.link_core.specs.Planned.{Planned}
use Rattle.link_layout.specs.Laws.{ImagesAreLow, IsLayoutOf, most_end}
use Rattle.link_layout.proofs.Small.{IsWithin}

passed : (b : Bool) (e : LinkRefusal) (rest : Result Layout LinkRefusal) (l : Layout) → (check b e >>= (λ _. rest)) ≡ Ok l → (b ≡ true) × (rest ≡ Ok l)
passed true e rest l given = (refl, given)
passed false e rest l given = cc

same : (a b : Layout) (r : Result Layout LinkRefusal) → r ≡ Ok a → r ≡ Ok b → a ≡ b
same a b r one other = cc

pub record Laid (j : Planned) (l : Layout) : Type 0 where
  pub within : IsWithin j
  pub is : l ≡ layout_by j

pub laid : (j : Planned) (l : Layout) → IsLayoutOf j l → Laid j l
unfolding layout_of layout_in
laid j l given =
    let third = check (nat_le (names_size j) MOST_IMAGE_BYTES) (too_large (names_size j)) >>= (λ _. Ok (layout_by j)) in
    let second = check (nat_le (length (outputs_by j)) MOST_OUTPUT_SECTIONS) (too_large (length (outputs_by j))) >>= (λ _. third) in
    let one = passed (nat_le (image_span j) MOST_IMAGE_BYTES) (too_large (image_span j)) second l given in
    let two = passed (nat_le (length (outputs_by j)) MOST_OUTPUT_SECTIONS) (too_large (length (outputs_by j))) third l one.1 in
    let three = passed (nat_le (names_size j) MOST_IMAGE_BYTES) (too_large (names_size j)) (Ok (layout_by j)) l two.1 in
    record { within = one.0; is = sym (same (layout_by j) l (Ok (layout_by j)) refl three.1) }

-- ---- ends

pub images_low : ImagesAreLow
images_low kinds.Exec = omega arith
images_low kinds.Pie = omega arith
images_low kinds.Shared = omega arith

first_within : (w e base : ℕ) (t : Bool) → nat_le (max w (if t then e else 0) - base) 268435456 ≡ true → w ≤ base + 268435456
first_within w e base true within = grind (arith, nat_tests)
first_within w e base false within = grind (arith, nat_tests)

other_within : (w e base : ℕ) (t : Bool) → t ≡ true → nat_le (max w (if t then e else 0) - base) 268435456 ≡ true → e ≤ base + 268435456
other_within w e base true there within = grind (arith, nat_tests)
other_within w e base false there within = cc

pub written_within : (j : Planned) → IsWithin j → written_end j ≤ most_end j.options.kind
unfolding image_span
written_within j within = first_within (written_end j) (tls_end j) (base_of j.options.kind) (has_threads j) within

pub tls_within : (j : Planned) → IsWithin j → has_threads j ≡ true → tls_end j ≤ most_end j.options.kind
unfolding image_span
tls_within j within there = other_within (written_end j) (tls_end j) (base_of j.options.kind) (has_threads j) there within
