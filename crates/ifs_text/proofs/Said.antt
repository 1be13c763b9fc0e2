-- The interface that the map of the root says, by what `Interface::new` makes of its parts.
use Rattle.std.proofs.Common.{◌≡◌, ℕ, List, Option, Some, None, Result, Ok, Err, refl, sym, ap, ◌∙◌}
use Rattle.std.specs.Prelude.{unwrap_or, option_map}
use Rattle.ifs_bytes.specs.Outcome.{◌>>=◌}
use Rattle.ifs_interface.specs.Interface.{InterfaceRecord, names_of, IsOf, IsLeastRepeated}
use Rattle.yaml_nodes.specs.declared.node.Entry.{Entry}
use Rattle.ifs_text.specs.declared.cause.TextCause.{TextCause}
use Rattle.ifs_text.specs.declared.cause.TextCause.TheVariants.{RepeatedSymbol}
use Rattle.ifs_text.specs.Parts.{soname_of, target_of, needed_of, symbols_of}
use Rattle.ifs_text.specs.Text.{second, unless, by_name, interface_of_map, interface_said}
use Rattle.ifs_text.proofs.Order.{sorted_is, no_second, a_second}

abbrev said_by : Option (List ℕ) → InterfaceRecord → Result InterfaceRecord TextCause
said_by name i = unless (option_map RepeatedSymbol name) >>= (λ _. Ok i)

-- the interface
pub said_ok : (entries : List Entry) (i : InterfaceRecord) → IsOf (soname_of entries) (target_of entries) (needed_of entries) (symbols_of entries) i → Ok i ≡ interface_said entries
unfolding interface_said interface_of_map
said_ok entries i is =
    let none : second (names_of (symbols_of entries)) ≡ None = no_second (symbols_of entries) i.symbols is.symbols_are is.ascending in
    let order : by_name (symbols_of entries) ≡ i.symbols = sorted_is (symbols_of entries) i.symbols is.symbols_are is.ascending in
    let soname = sym is.soname_is in
    let target = sym is.target_is in
    let needed = sym is.needed_is in
    let whole : interface_of_map entries ≡ i = λ j. record { soname = soname j; target = target j; needed = needed j; symbols = order j } in
    sym (ap (λ name. said_by name (interface_of_map entries)) none ∙ ap Ok whole)

or_absurd : (name : Option (List ℕ)) (least : List ℕ) → (name ≡ None → ⊥) → name ≡ Some (unwrap_or name least)
or_absurd None least h = absurd (h refl)
or_absurd (Some n) least h = refl

-- two symbols of one name
pub said_err : (entries : List Entry) (least : List ℕ) → IsLeastRepeated (names_of (symbols_of entries)) least → Err (RepeatedSymbol (unwrap_or (second (names_of (symbols_of entries))) least)) ≡ interface_said entries
unfolding interface_said
said_err entries least is =
    let some = or_absurd (second (names_of (symbols_of entries))) least (a_second least (names_of (symbols_of entries)) is.repeated) in
    sym (ap (λ name. said_by name (interface_of_map entries)) some)
