-- How many entries .dynamic has.
use Rattle.std.proofs.Common.{◌≡◌, ℕ, ◌+◌, List, [], ◌∷◌, Option, Some, None, length, refl, ap, arith, suc, Bool, true, false}
use Rattle.std.specs.List.{flat_map}
use Rattle.std.specs.Option.{is_some, option_to_list}
use Rattle.std.specs.Prelude.{codes, if◌then◌else◌, nat_lt, not, ◌&&◌}
use Rattle.std.proofs.lemmas.List.{length-append}
use Rattle.std.proofs.lemmas.List.FromFn.{length-range_with_len}
use Rattle.link_core.specs.declared.tables.TheConstants.{DT_NEEDED}
use Rattle.link_core.specs.Entries.{Entry, NameAt, SymbolAt, dynamic_entries, has_output, rela_dyn_count}
use Rattle.link_core.specs.Exports.{is_shared}
use Rattle.link_core.specs.Planned.{Planned}
use Rattle.link_tables.specs.Counts.{count_if, entry_count, present_in}
use Rattle.link_tables.proofs.NameSizes.{name_is_defined}

one_if : (there : Bool) (e : Entry) → length (if there then e ∷ [] else []) ≡ count_if there 1
one_if true e = refl
one_if false e = refl

twice : (there : Bool) → count_if there 1 + count_if there 1 ≡ count_if there 2
twice true = refl
twice false = refl

thrice : (there : Bool) → count_if there 1 + count_if there 1 + count_if there 1 ≡ count_if there 3
thrice true = refl
thrice false = refl

of_name : (tag : ℕ) (o : Option ℕ) → length {A = Entry} (flat_map (λ n. record { tag = tag; meaning = SymbolAt n } ∷ []) (option_to_list o)) ≡ count_if (is_some o) 1
of_name tag None = refl
of_name tag (Some n) = refl

needed_entries : (k : ℕ) (xs : List ℕ) → length {A = Entry} (flat_map (λ i. record { tag = DT_NEEDED; meaning = NameAt (k + i) } ∷ []) xs) ≡ length xs
needed_entries k [] = refl
needed_entries k (x ∷ xs) = ap (λ (n : ℕ). suc n) (needed_entries k xs)

pub entries_counted : (j : Planned) → length (dynamic_entries j) ≡ entry_count j.options j.names.names (present_in j) (length j.names.needed) (nat_lt 0 (rela_dyn_count j)) (nat_lt 0 (length j.plan.plt))
unfolding dynamic_entries entry_count present_in
entries_counted j =
    let init = ap (λ (b : Bool). count_if b 1) (name_is_defined j (codes "_init")) in
    let fini = ap (λ (b : Bool). count_if b 1) (name_is_defined j (codes "_fini")) in
    let preinit = twice (has_output j (codes ".preinit_array") && not (is_shared j.options.kind)) in
    let init_array = twice (has_output j (codes ".init_array")) in
    let fini_array = twice (has_output j (codes ".fini_array")) in
    let moves = thrice (nat_lt 0 (rela_dyn_count j)) in
    let calls = thrice (nat_lt 0 (length j.plan.plt)) in
    simp (length-append, one_if, of_name, needed_entries, length-range_with_len)
    (omega (arith, init, fini, preinit, init_array, fini_array, moves, calls))
