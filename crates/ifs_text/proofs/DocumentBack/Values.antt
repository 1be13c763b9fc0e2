-- Each value of the document stands for what it was printed for.
use Rattle.std.proofs.Common.{◌≡◌, ℕ, ◌<◌, ◌^◌, ◌&&◌, true, false, if◌then◌else◌, List, [], ◌∷◌, map, take, drop, codes, decimal, Some, None, refl, ap, ◌∙◌, subst, arith}
use Rattle.std.specs.Prelude.{nat_eq}
use Rattle.std.specs.Char.{digit_value}
use Rattle.std.specs.List.{list_all, filter_map, cons_option}
use Rattle.std.specs.Str.Parse.{AllDigits}
use Rattle.std.proofs.lemmas.Bool.{and_parts, eqb-true, lt-ltb, false_from_ne_true}
use Rattle.std.proofs.lemmas.Fmt.{decimal_is_IsNumeral}
use Rattle.ifs_bytes.specs.Numeral.{numeral, in_64_bits}
use Rattle.ifs_interface.specs.Triple.{same_name}
use Rattle.ifs_bytes.specs.declared.form.Order.TheVariants.{Little, Big}
use Rattle.ifs_bytes.specs.declared.form.Width.TheVariants.{W32, W64}
use Rattle.ifs_bytes.proofs.Numerals.{numeral-decimal}
use Rattle.ifs_interface.specs.declared.symbol.Kind.{Kind}
use Rattle.ifs_interface.specs.declared.symbol.Kind.TheVariants.{NoType, Func, Object, Tls, Unknown}
use Rattle.ifs_interface.specs.Arch.{arch_name, machine_named}
use Rattle.ifs_interface.specs.Interface.{is_proper_name}
use Rattle.ifs_interface.proofs.Arches.{arch_names_are_read_back}
use Rattle.yaml_nodes.specs.declared.node.Node.TheVariants as node
use Rattle.ifs_text.specs.Printed.{kind_name}
use Rattle.ifs_text.specs.Values.{among, proper, name_in, machine_in, orders, order_in, widths, width_in, kinds, kind_in, number_named, size_in, truths, truth_in}
use Rattle.ifs_text.proofs.DocumentBack.Nodes.{scalar_means}

pub name_read : (name : List ℕ) → is_proper_name name ≡ true → name_in (node.Scalar name) ≡ Some name
unfolding name_in
name_read name is = scalar_means proper name ∙ ap (λ test. if test then Some name else None) is

pub names_read : (names : List (List ℕ)) → list_all is_proper_name names ≡ true → filter_map name_in (map (λ name. node.Scalar name) names) ≡ names
names_read [] are = refl
names_read (name ∷ names) are =
    let parts = and_parts (is_proper_name name) (list_all is_proper_name names) are in
    ap (λ first. cons_option first (filter_map name_in (map (λ n. node.Scalar n) names))) (name_read name parts.0) ∙ ap (λ rest. name ∷ rest) (names_read names parts.1)

pub machine_read : (machine : ℕ) → machine < 2 ^ 16 → machine_in (node.Scalar (arch_name machine)) ≡ Some machine
unfolding machine_in
machine_read machine small = scalar_means machine_named (arch_name machine) ∙ arch_names_are_read_back machine small

pub little_read : order_in (node.Scalar (codes "little")) ≡ Some Little
unfolding order_in orders
little_read = scalar_means (among orders) (codes "little")

pub big_read : order_in (node.Scalar (codes "big")) ≡ Some Big
unfolding order_in orders
big_read = scalar_means (among orders) (codes "big")

pub narrow_read : width_in (node.Scalar (codes "32")) ≡ Some W32
unfolding width_in widths
narrow_read = scalar_means (among widths) (codes "32")

pub wide_read : width_in (node.Scalar (codes "64")) ≡ Some W64
unfolding width_in widths
wide_read = scalar_means (among widths) (codes "64")

pub true_read : truth_in (node.Scalar (codes "true")) ≡ Some true
unfolding truth_in truths
true_read = scalar_means (among truths) (codes "true")

pub kind_read : (kind : Kind) → kind_in (node.Scalar (kind_name kind)) ≡ Some kind
unfolding kind_in kinds
kind_read NoType = scalar_means (among kinds) (codes "NoType")
kind_read Func = scalar_means (among kinds) (codes "Func")
kind_read Object = scalar_means (among kinds) (codes "Object")
kind_read Tls = scalar_means (among kinds) (codes "TLS")
kind_read Unknown = scalar_means (among kinds) (codes "Unknown")

-- ---- sizes

no_x : (b : ℕ) → digit_value b < 10 → nat_eq b 120 ≡ true → ⊥
no_x b digit is = let here : digit_value 120 < 10 = subst (λ n. digit_value n < 10) (eqb-true b 120 is) digit in omega (arith, here)

-- decimal digits don't begin as hexadecimal ones do
unmarked : (ds : List ℕ) → AllDigits 10 ds → same_name (take 2 ds) (codes "0x") ≡ false
unmarked [] all = refl
unmarked (a ∷ []) all = false_from_ne_true _ (λ is. absurd (cc ((and_parts (nat_eq a 48) false is).1)))
unmarked (a ∷ b ∷ bs) all =
    false_from_ne_true _ (λ is. no_x b all.1.0 (and_parts (nat_eq b 120) true (and_parts (nat_eq a 48) (nat_eq b 120 && true) is).1).0)

number_read : (n : ℕ) → n < 2 ^ 64 → number_named (decimal n) ≡ Some n
number_read n small =
    ap (λ test. if test then numeral 16 (drop 2 (decimal n)) else numeral 10 (decimal n)) (unmarked (decimal n) (decimal_is_IsNumeral n small).0.1) ∙ numeral-decimal n small

pub size_read : (n : ℕ) → n < 2 ^ 64 → size_in (node.Scalar (decimal n)) ≡ Some n
unfolding size_in
size_read n small =
    scalar_means (λ text. in_64_bits (number_named text)) (decimal n) ∙ ap in_64_bits (number_read n small) ∙ ap (λ test. if test then Some n else None) (lt-ltb n (2 ^ 64) small)
