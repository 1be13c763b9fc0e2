-- Two output sections are the same only where they are equal.
use Rattle.std.proofs.Common.{◌≡◌, ℕ, true, cond, eqb, refl, sym, ap, ◌∙◌}
use Rattle.std.proofs.lemmas.Bool.{and_parts, and_from, eqb-true}
use Rattle.ifs_interface.specs.Triple.{same_name}
use Rattle.ifs_interface.proofs.Names.{same_name-is, same_name-itself}
use Rattle.link_core.specs.declared.output.OutClass.{OutClass}
use Rattle.link_core.specs.declared.output.OutClass.TheVariants.{R, X, W, T, Z, B}
use Rattle.link_core.specs.OutputNames.{Output, same_class, same_output}
use Rattle.link_outputs.specs.Grouped.{class_number}

pub number_same : (a b : OutClass) → eqb (class_number a) (class_number b) ≡ same_class a b
number_same R R = refl
number_same R X = refl
number_same R W = refl
number_same R T = refl
number_same R Z = refl
number_same R B = refl
number_same X R = refl
number_same X X = refl
number_same X W = refl
number_same X T = refl
number_same X Z = refl
number_same X B = refl
number_same W R = refl
number_same W X = refl
number_same W W = refl
number_same W T = refl
number_same W Z = refl
number_same W B = refl
number_same T R = refl
number_same T X = refl
number_same T W = refl
number_same T T = refl
number_same T Z = refl
number_same T B = refl
number_same Z R = refl
number_same Z X = refl
number_same Z W = refl
number_same Z T = refl
number_same Z Z = refl
number_same Z B = refl
number_same B R = refl
number_same B X = refl
number_same B W = refl
number_same B T = refl
number_same B Z = refl
number_same B B = refl

abbrev class_at : ℕ → OutClass
class_at n = cond (eqb n 0) R (cond (eqb n 1) X (cond (eqb n 2) W (cond (eqb n 3) T (cond (eqb n 4) Z B))))

at_number : (a : OutClass) → class_at (class_number a) ≡ a
at_number R = refl
at_number X = refl
at_number W = refl
at_number T = refl
at_number Z = refl
at_number B = refl

same_class_is : (a b : OutClass) → same_class a b ≡ true → a ≡ b
same_class_is a b same =
    sym (at_number a) ∙ ap class_at (eqb-true (class_number a) (class_number b) (number_same a b ∙ same)) ∙ at_number b

same_class_itself : (a : OutClass) → same_class a a ≡ true
same_class_itself R = refl
same_class_itself X = refl
same_class_itself W = refl
same_class_itself T = refl
same_class_itself Z = refl
same_class_itself B = refl

pub same_output_is : (a b : Output) → same_output a b ≡ true → a ≡ b
same_output_is a b same =
    let parts = and_parts (same_name a.name b.name) (same_class a.class b.class) same in
    let names : a.name ≡ b.name = same_name-is a.name b.name parts.0 in
    let classes : a.class ≡ b.class = same_class_is a.class b.class parts.1 in
    λ i. record { name = names i; class = classes i }

pub same_output_itself : (a : Output) → same_output a a ≡ true
same_output_itself a =
    and_from (same_name a.name a.name) (same_class a.class a.class) (same_name-itself a.name) (same_class_itself a.class)
