-- Strings and names of a link, and its interpreter.
use Rattle.std.proofs.Common.{◌≡◌, ◌<◌, ◌≤◌, ◌^◌, ◌+◌, ℕ, List, [], ◌∷◌, ◌++◌, length, sym, ap, ◌∙◌, arith}
use Rattle.std.specs.Prelude.{sum_by}
use Rattle.std.proofs.lemmas.List.{length-append, length-map}
use Rattle.std.proofs.lemmas.List.Sums.{sum_by-cons}
use Rattle.link_machine.specs.Rules.{MachineRules}
use Rattle.link_core.specs.Contents.{interpreter_of}
use Rattle.link_core.specs.declared.layout.Layout.{Layout}
use Rattle.link_core.specs.declared.plan.Plan.{Plan}
use Rattle.link_core.specs.declared.resolution.Resolution.{Resolution}
use Rattle.link_core.specs.Planned.{Planned, name_at}
use Rattle.link_core.specs.Strings.{dynamic_rows, dynamic_strings, string_table_size, symbol_names, terminated}
use Rattle.link_strings.specs.Named.{AreDynamicStrings, AreSymbolNames, InterpreterIsPut, strings_of}
use Rattle.link_layout.specs.Laws.{IsLayoutOf}
use Rattle.link_dynsym.proofs.AllRows.{dynstr_small, rows_counted}
use denote.Ref.{Bor}

pub strings_are : (j : Planned) (strings : List (List ℕ)) → AreDynamicStrings j.options j.names j.plan strings → strings ≡ dynamic_strings j
strings_are j strings are = are j.rules j.objects

pub names_are : (j : Planned) (names : List (List ℕ)) → AreSymbolNames j.names j.plan names → names ≡ symbol_names j
names_are j names are = are j.rules j.options j.objects

many : (names : List (List ℕ)) → length names ≤ sum_by (λ name. length name + 1) names
many [] = omega arith
many (name ∷ names) =
    let rest = many names in
    let more = sum_by-cons (λ (n : List ℕ). length n + 1) name names in
    omega (arith, rest, more)

sized : (names : List (List ℕ)) → length names ≤ string_table_size names
unfolding string_table_size
sized names = omega (arith, many names)

pub names_fit : (j : Planned) (l : Layout) (names : List (Bor (List ℕ))) → IsLayoutOf j l → AreSymbolNames j.names j.plan (strings_of names) → length names + 1 < 2 ^ 32
names_fit j l names made are =
    let long = length-map names (λ (n : Bor (List ℕ)). n.now) in
    let same = ap length (names_are j (strings_of names) are) in
    let each = length-map (dynamic_rows j.plan) (name_at j) in
    let rows = length-append j.plan.imports j.plan.exports in
    let all = rows_counted j in
    let size = sized (dynamic_strings j) in
    let small = dynstr_small j l made in
    omega (arith, long, same, each, rows, all, size, small)

-- with what calls gave
pub names_by : (j : Planned) (r : Resolution) (p : Plan) (names : List (List ℕ)) → r ≡ j.names → p ≡ j.plan → AreSymbolNames r p names → AreSymbolNames j.names j.plan names
names_by j r p names r_is p_is are rules options objects =
    are rules options objects ∙ (λ i. symbol_names (record { rules = rules; options = options; objects = objects; names = r_is i; plan = p_is i }))

pub hash_fits :
    (j : Planned) (l : Layout) (r : Resolution) (p : Plan) (names given : List (Bor (List ℕ))) → IsLayoutOf j l → r ≡ j.names → p ≡ j.plan
    → AreSymbolNames r p (strings_of names) → given ≡ names → length given + 1 < 2 ^ 32
hash_fits j l r p names given made r_is p_is are same =
    let low = names_fit j l names made (names_by j r p (strings_of names) r_is p_is are) in
    let long = ap length same in
    omega (arith, low, long)

pub interpreter_put : (j : Planned) (rules : MachineRules) (old new : List ℕ) → j.rules ≡ rules → InterpreterIsPut rules j.options old new → new ≡ old ++ terminated (interpreter_of j)
unfolding interpreter_of
interpreter_put j rules old new same put =
    put j.objects j.names j.plan
    ∙ ap (λ (r : MachineRules). old ++ terminated (interpreter_of (record { rules = r; options = j.options; objects = j.objects; names = j.names; plan = j.plan }))) (sym same)
