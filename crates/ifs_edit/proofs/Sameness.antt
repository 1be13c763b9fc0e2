-- What is the same by the tests is equal, and passes the tests with itself.
use Rattle.std.proofs.Common.{◌≡◌, ℕ, Bool, true, false, ◌&&◌, List, [], ◌∷◌, Option, Some, None, refl, ap}
use Rattle.std.specs.Prelude.{nat_eq}
use Rattle.std.proofs.lemmas.Bool.{false≢true, and_from, and_parts, eqb-true, eq-eqb}
use Rattle.ifs_bytes.specs.declared.form.Order.{Order}
use Rattle.ifs_bytes.specs.declared.form.Order.TheVariants.{Little, Big}
use Rattle.ifs_bytes.specs.declared.form.Width.{Width}
use Rattle.ifs_bytes.specs.declared.form.Width.TheVariants.{W32, W64}
use Rattle.ifs_interface.specs.declared.symbol.Kind.{Kind}
use Rattle.ifs_interface.specs.declared.symbol.Kind.TheVariants.{NoType, Func, Object, Tls, Unknown}
use Rattle.ifs_interface.specs.declared.symbol.Symbol.{Symbol}
use Rattle.ifs_interface.specs.declared.target.Target.{Target}
use Rattle.ifs_interface.specs.Triple.{same_name}
use Rattle.ifs_interface.proofs.Names.{same_name-is, same_name-itself}
use Rattle.ifs_edit.specs.declared.united.Field.{Field}
use Rattle.ifs_edit.specs.declared.united.Field.TheVariants.{Kind as Kinds, Size, Weak, Undefined, Warning}
use Rattle.ifs_edit.specs.Adjusted.{same_machine, same_order, same_width}
use Rattle.ifs_edit.specs.Merged.{same_bool, same_in, same_kind, same_names, same_optional, same_soname, same_target}

-- ---- single values

optional_is : {X : Type 0} (same : X → X → Bool) → ((a b : X) → same a b ≡ true → a ≡ b) → (a b : Option X) → same_optional same a b ≡ true → a ≡ b
optional_is same is None None h = refl
optional_is same is None (Some b) h = absurd (false≢true h)
optional_is same is (Some a) None h = absurd (false≢true h)
optional_is same is (Some a) (Some b) h = ap (λ x. Some x) (is a b h)

optional_itself : {X : Type 0} (same : X → X → Bool) → ((a : X) → same a a ≡ true) → (a : Option X) → same_optional same a a ≡ true
optional_itself same is None = refl
optional_itself same is (Some a) = is a

kind_is : (a b : Kind) → same_kind a b ≡ true → a ≡ b
kind_is NoType NoType h = refl
kind_is NoType Func h = absurd (false≢true h)
kind_is NoType Object h = absurd (false≢true h)
kind_is NoType Tls h = absurd (false≢true h)
kind_is NoType Unknown h = absurd (false≢true h)
kind_is Func NoType h = absurd (false≢true h)
kind_is Func Func h = refl
kind_is Func Object h = absurd (false≢true h)
kind_is Func Tls h = absurd (false≢true h)
kind_is Func Unknown h = absurd (false≢true h)
kind_is Object NoType h = absurd (false≢true h)
kind_is Object Func h = absurd (false≢true h)
kind_is Object Object h = refl
kind_is Object Tls h = absurd (false≢true h)
kind_is Object Unknown h = absurd (false≢true h)
kind_is Tls NoType h = absurd (false≢true h)
kind_is Tls Func h = absurd (false≢true h)
kind_is Tls Object h = absurd (false≢true h)
kind_is Tls Tls h = refl
kind_is Tls Unknown h = absurd (false≢true h)
kind_is Unknown NoType h = absurd (false≢true h)
kind_is Unknown Func h = absurd (false≢true h)
kind_is Unknown Object h = absurd (false≢true h)
kind_is Unknown Tls h = absurd (false≢true h)
kind_is Unknown Unknown h = refl

kind_itself : (a : Kind) → same_kind a a ≡ true
kind_itself NoType = refl
kind_itself Func = refl
kind_itself Object = refl
kind_itself Tls = refl
kind_itself Unknown = refl

bool_is : (a b : Bool) → same_bool a b ≡ true → a ≡ b
bool_is true true h = refl
bool_is true false h = absurd (false≢true h)
bool_is false true h = absurd (false≢true h)
bool_is false false h = refl

bool_itself : (a : Bool) → same_bool a a ≡ true
bool_itself true = refl
bool_itself false = refl

order_is : (a b : Order) → same_order a b ≡ true → a ≡ b
order_is Little Little h = refl
order_is Little Big h = absurd (false≢true h)
order_is Big Little h = absurd (false≢true h)
order_is Big Big h = refl

width_is : (a b : Width) → same_width a b ≡ true → a ≡ b
width_is W32 W32 h = refl
width_is W32 W64 h = absurd (false≢true h)
width_is W64 W32 h = absurd (false≢true h)
width_is W64 W64 h = refl

pub names_is : (a b : List (List ℕ)) → same_names a b ≡ true → a ≡ b
names_is [] [] h = refl
names_is [] (n ∷ b) h = absurd (false≢true h)
names_is (m ∷ a) [] h = absurd (false≢true h)
names_is (m ∷ a) (n ∷ b) h =
    let parts = and_parts (same_name m n) (same_names a b) h in
    let here = same_name-is m n parts.0 in
    let rest = names_is a b parts.1 in
    λ i. here i ∷ rest i

pub soname_is : (a b : Option (List ℕ)) → same_soname a b ≡ true → a ≡ b
soname_is a b h = optional_is same_name same_name-is a b h

pub target_is : (a b : Target) → same_target a b ≡ true → a ≡ b
target_is a b h =
    let triple = same_optional same_name a.triple b.triple in
    let machine = same_optional same_machine a.machine b.machine in
    let order = same_optional same_order a.order b.order in
    let width = same_optional same_width a.width b.width in
    let last = and_parts (triple && machine && order) width h in
    let third = and_parts (triple && machine) order last.0 in
    let second = and_parts triple machine third.0 in
    let triples = optional_is same_name same_name-is a.triple b.triple second.0 in
    let machines = optional_is same_machine (λ x y e. eqb-true x y e) a.machine b.machine second.1 in
    let orders = optional_is same_order order_is a.order b.order third.1 in
    let widths = optional_is same_width width_is a.width b.width last.1 in
    λ i. record { triple = triples i; machine = machines i; order = orders i; width = widths i }

order_itself : (a : Order) → same_order a a ≡ true
order_itself Little = refl
order_itself Big = refl

width_itself : (a : Width) → same_width a a ≡ true
width_itself W32 = refl
width_itself W64 = refl

pub names_itself : (a : List (List ℕ)) → same_names a a ≡ true
names_itself [] = refl
names_itself (n ∷ a) = and_from (same_name n n) (same_names a a) (same_name-itself n) (names_itself a)

pub soname_itself : (a : Option (List ℕ)) → same_soname a a ≡ true
soname_itself a = optional_itself same_name same_name-itself a

pub target_itself : (a : Target) → same_target a a ≡ true
target_itself a =
    rw (optional_itself same_name same_name-itself a.triple, optional_itself same_machine (λ n. eq-eqb n n refl) a.machine, optional_itself same_order order_itself a.order) (optional_itself same_width width_itself a.width)

-- ---- symbols

pub in_itself : (field : Field) (s : Symbol) → same_in field s s ≡ true
in_itself Kinds s = kind_itself s.kind
in_itself Size s = optional_itself nat_eq (λ n. eq-eqb n n refl) s.size
in_itself Weak s = bool_itself s.weak
in_itself Undefined s = bool_itself s.undefined
in_itself Warning s = optional_itself same_name same_name-itself s.warning

-- the same name, and the same in each field
abbrev pub same_symbol : Symbol → Symbol → Bool
same_symbol a b = same_name a.name b.name && (same_in Kinds a b && (same_in Size a b && (same_in Weak a b && (same_in Undefined a b && same_in Warning a b))))

pub symbol_is : (a b : Symbol) → same_symbol a b ≡ true → a ≡ b
symbol_is a b h =
    let first = and_parts (same_name a.name b.name) (same_in Kinds a b && (same_in Size a b && (same_in Weak a b && (same_in Undefined a b && same_in Warning a b)))) h in
    let second = and_parts (same_in Kinds a b) (same_in Size a b && (same_in Weak a b && (same_in Undefined a b && same_in Warning a b))) first.1 in
    let third = and_parts (same_in Size a b) (same_in Weak a b && (same_in Undefined a b && same_in Warning a b)) second.1 in
    let fourth = and_parts (same_in Weak a b) (same_in Undefined a b && same_in Warning a b) third.1 in
    let fifth = and_parts (same_in Undefined a b) (same_in Warning a b) fourth.1 in
    let names = same_name-is a.name b.name first.0 in
    let kinds = kind_is a.kind b.kind second.0 in
    let sizes = optional_is nat_eq (λ x y e. eqb-true x y e) a.size b.size third.0 in
    let weaks = bool_is a.weak b.weak fourth.0 in
    let undefineds = bool_is a.undefined b.undefined fifth.0 in
    let warnings = optional_is same_name same_name-is a.warning b.warning fifth.1 in
    λ i. record { name = names i; kind = kinds i; size = sizes i; weak = weaks i; undefined = undefineds i; warning = warnings i }
